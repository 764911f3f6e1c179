-- Which bytes have which first fault, apart from how they are read.
use Rattle.std.specs.Prelude.{◌≡◌, ◌≢◌, ◌↔◌, ℕ, ◌<◌, Bool, false, List, [], ◌∷◌, ◌++◌, length, Err}
use Rattle.nqs_base.specs.Want.{want}
use Rattle.nqs_records.specs.Tables.{has_code}
use Rattle.nqs_records.specs.KindTable.{kinds}
use Rattle.nqs_records.specs.Kinds.{record_of}
use Rattle.nqs_records.specs.Changes.{spelling, MayStand, AreBytes}
use Rattle.nqs_records.specs.Whole.{IsFollowed, IsCut, SpellsNoneWith}
use Rattle.nqs_records.specs.declared.fault.RecordFault.{RecordFault}
use Rattle.nqs_records.specs.declared.fault.RecordFault.TheVariants.{Short, Kind, BadField, Trailing, Memory}

-- whether a row of the table is of this kind
unfoldable pub is_kind : ℕ → Bool
is_kind kind = has_code kinds kind

-- a first byte that is no kind
abbrev pub HasOtherKind : List ℕ → Type 0
HasOtherKind [] = ⊥
HasOtherKind (kind ∷ rest) = is_kind kind ≡ false

-- a fault that no further bytes mend
abbrev pub IsFinal : RecordFault → Type 0
IsFinal (Short end) = ⊥
IsFinal (Kind place) = Unit {0}
IsFinal (BadField place) = Unit {0}
IsFinal (Trailing place) = Unit {0}
IsFinal (Memory memory) = ⊥

-- Another kind and a change that is followed are told exactly. Short is told at the end, of each
-- change cut off too. A fault else is final.
pub record HasFirstFaults (bytes : List ℕ) : Type 0 where
  pub kind : (place : ℕ) → record_of bytes ≡ Err (Kind place) ↔ (place ≡ 0) × HasOtherKind bytes
  pub trailing : (place : ℕ) → record_of bytes ≡ Err (Trailing place) ↔ IsFollowed MayStand spelling bytes place
  pub short : (end : ℕ) → record_of bytes ≡ Err (Short end) → end ≡ length bytes
  pub cut : IsCut MayStand spelling bytes → record_of bytes ≡ Err (Short (length bytes))
  pub field : (place : ℕ) → record_of bytes ≡ Err (BadField place) → (place < length bytes) × SpellsNoneWith MayStand spelling bytes
  pub final : (fault : RecordFault) → IsFinal fault → record_of bytes ≡ Err fault → SpellsNoneWith MayStand spelling bytes
  pub still : (fault : RecordFault) → IsFinal fault → record_of bytes ≡ Err fault → (more : List ℕ) → record_of (bytes ++ more) ≡ Err fault
  pub memory : record_of bytes ≢ Err (Memory want)

-- the first faults of all bytes
abbrev pub FirstFaults : Type 0
FirstFaults = (bytes : List ℕ) → AreBytes bytes → HasFirstFaults bytes
