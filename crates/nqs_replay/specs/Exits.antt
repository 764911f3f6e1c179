-- The code with which the program exits.
use Rattle.std.specs.Prelude.{◌≡◌, ℕ, List, []}
use Rattle.nqs_outside.specs.Streams.{Sunk, Fed}
use Rattle.nqs_network_runs.specs.Numbers.{number_of}
use Rattle.nqs_network_runs.specs.Replay.{Left, Ends, IsComplete}
use Rattle.nqs_network_runs.specs.declared.status.Status.{Status}

-- it is the number of how a run of these words ended
abbrev pub Exits : List (List ℕ) → Fed → Sunk → ℕ → Type 0
Exits words source sink code =
    (status : Status) × (left : Left) × Ends words source sink [] left status × IsComplete words source sink status × (code ≡ number_of status)
