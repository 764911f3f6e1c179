-- Writing and reading undo each other: a state in order has one spelling, and only that is read as
-- it. The same holds of the spelling of version 1, for states whose peers are what old ones became.
use Rattle.std.specs.Prelude.{◌≡◌, ◌↔◌, ℕ, List, Ok, Err}
use Rattle.std.specs.declared.result.Result.{Result}
use Rattle.nqs_base.specs.declared.extent.Extent.{Extent}
use Rattle.nqs_state.specs.State.{State, content}
use Rattle.nqs_state.specs.declared.state.HostState.{HostState}
use Rattle.nqs_rules.specs.InOrder.{IsInOrder, IsConsistent}
use Rattle.nqs_records.specs.Reading.{Read}
use Rattle.nqs_records.specs.Changes.{AreBytes}
use Rattle.nqs_records.specs.declared.fault.RecordFault.{RecordFault}
use Rattle.nqs_snapshot.specs.Spelling.{state_field, old_state_field}
use Rattle.nqs_snapshot.specs.Values.{MayStand, MayStandOld}

-- a state from which a host goes on, and whose values have fields
pub record IsSnapshot (May : State Extent → Type 0) (s : State Extent) : Type 0 where
  pub stands : May s
  pub order : IsInOrder s
  pub consistent : IsConsistent s

-- the state of these bytes, by a spelling of the states that may stand
abbrev pub IsSpelledBy : (State Extent → Type 0) → (State Extent → List ℕ) → List ℕ → State Extent → Type 0
IsSpelledBy May spelling bytes s = (bytes ≡ spelling s) × IsSnapshot May s

-- the state of these bytes
abbrev pub IsSpelled : List ℕ → State Extent → Type 0
IsSpelled bytes s = IsSpelledBy MayStand state_field bytes s

-- the state of these bytes, by the spelling of version 1
abbrev pub IsOldSpelled : List ℕ → State Extent → Type 0
IsOldSpelled bytes s = IsSpelledBy MayStandOld old_state_field bytes s

module _ (May : State Extent → Type 0) (spelling : State Extent → List ℕ) where
  -- bytes are read as a state exactly where they are its spelling, and a host may go on from it
  abbrev pub ReadsTheSpelling : (List ℕ → Read (State Extent)) → Type 0
  ReadsTheSpelling reads = (bytes : List ℕ) (s : State Extent) → AreBytes bytes → reads bytes ≡ Ok s ↔ IsSpelledBy May spelling bytes s

  -- bytes spell one state at most
  abbrev pub SpellsOne : Type 0
  SpellsOne = (bytes : List ℕ) (s t : State Extent) → AreBytes bytes → May s → May t → bytes ≡ spelling s → bytes ≡ spelling t → s ≡ t

  -- no state from which a host goes on has these bytes as its spelling
  abbrev pub SpellsNone : List ℕ → Type 0
  SpellsNone bytes = (s : State Extent) → IsSpelledBy May spelling bytes s → ⊥

-- what an answer says of the state, without the room that it has
abbrev pub told_by : Result HostState RecordFault → Read (State Extent)
told_by (Ok state) = Ok (content state)
told_by (Err fault) = Err fault
