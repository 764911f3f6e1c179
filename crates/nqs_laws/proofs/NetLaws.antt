-- The network's law, in its public words.
use Rattle.std.proofs.Common.{◌≡◌, ℕ, true, List}
use Rattle.nqs_rules.specs.World.{Act}
use Rattle.nqs_rules.specs.Run.{run_of, states_of}
use Rattle.nqs_rules.specs.Net.{is_table}
use Rattle.nqs_laws.specs.Sane.{AreSane, IsSite}
use Rattle.nqs_laws.proofs.Sound.{run_sound}
use Rattle.nqs_laws.proofs.Entries.{one_place}
use Rattle.nqs_laws.proofs.TabledRuns.{run_net}

pub always_table : (site : List (List ℕ)) (acts : List Act) → IsSite site → AreSane acts → is_table (states_of (run_of site acts).world) ≡ true
always_table site acts few sane =
    let k = run_net site few acts sane in
    let sound = run_sound site few.1 acts sane in
    one_place (states_of (run_of site acts).world) k.table k.told (λ a s at. (sound.hosts a.0 s at).order)
