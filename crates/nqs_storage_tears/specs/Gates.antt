-- What a tear leaves of a gate.
use Rattle.std.specs.Prelude.{◌≡◌, ◌≢◌, ℕ, List, MatchBool, slice_index}
use Rattle.nqs_base.specs.declared.tear.Tear.{Tear}
use Rattle.nqs_rules.specs.World.{keeps_gate}
use Rattle.nqs_outside.specs.History.{State}
use Rattle.nqs_journal.specs.Gate.{IsAtGate}
use Rattle.nqs_disk.specs.Torn.{torn}

-- whatever the bytes mean
abbrev pub Anything : List ℕ → Type 0
Anything image = Unit {0}

-- the torn bytes have 1 at the gate just where the tear keeps it
abbrev pub TearsDecide : Type 0
TearsDecide = (s : State) (gate : ℕ) (tear : Tear) → IsAtGate s gate Anything Anything
    → MatchBool (keeps_gate tear) (slice_index (torn tear s) gate ≡ 1) (slice_index (torn tear s) gate ≢ 1)
