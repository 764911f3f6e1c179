-- Which bytes have which first fault, apart from how they are read.
use Rattle.std.specs.Prelude.{◌≡◌, ◌≢◌, ◌↔◌, ◌⊎◌, ℕ, ◌<◌, false, List, length, Err}
use Rattle.nqs_base.specs.declared.extent.Extent.{Extent}
use Rattle.nqs_base.specs.Want.{want}
use Rattle.nqs_state.specs.State.{State}
use Rattle.nqs_records.specs.Reading.{Read}
use Rattle.nqs_records.specs.Changes.{AreBytes}
use Rattle.nqs_records.specs.Whole.{IsFollowed, IsCut, SpellsNoneWith}
use Rattle.nqs_records.specs.declared.fault.RecordFault.TheVariants.{Short, Kind, BadField, Trailing, Memory}
use Rattle.nqs_snapshot.specs.Sound.{is_sound}

-- the bytes of a state that may stand, by its spelling, from which no host may go on
pub record IsUnsound (May : State Extent → Type 0) (spelling : State Extent → List ℕ) (bytes : List ℕ) : Type 0 where
  pub state : State Extent
  pub may : May state
  pub text : bytes ≡ spelling state
  pub unsound : is_sound state ≡ false

-- Short is told at the end, of each state cut off too; what follows a state, and a state that isn't
-- in order, are told exactly. A bad field else is final.
pub record HasFirstFaults (May : State Extent → Type 0) (spelling : State Extent → List ℕ) (reads : List ℕ → Read (State Extent)) (bytes : List ℕ) : Type 0
  where
    pub short : (end : ℕ) → reads bytes ≡ Err (Short end) → end ≡ length bytes
    pub cut : IsCut May spelling bytes → reads bytes ≡ Err (Short (length bytes))
    pub trailing : (place : ℕ) → reads bytes ≡ Err (Trailing place) ↔ IsFollowed May spelling bytes place
    pub field : (place : ℕ) → reads bytes ≡ Err (BadField place)
        → ((place < length bytes) × SpellsNoneWith May spelling bytes) ⊎ ((place ≡ 0) × IsUnsound May spelling bytes)
    pub unsound : IsUnsound May spelling bytes → reads bytes ≡ Err (BadField 0)
    pub kind : (place : ℕ) → reads bytes ≢ Err (Kind place)
    pub memory : reads bytes ≢ Err (Memory want)

-- the first faults of all bytes, of a reading by a spelling of the states that may stand
abbrev pub FirstFaults : (State Extent → Type 0) → (State Extent → List ℕ) → (List ℕ → Read (State Extent)) → Type 0
FirstFaults May spelling reads = (bytes : List ℕ) → AreBytes bytes → HasFirstFaults May spelling reads bytes
