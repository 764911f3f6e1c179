-- Which bytes have which first fault, apart from how they are read.
use Rattle.std.specs.Prelude.{◌≡◌, ◌≢◌, ◌↔◌, ℕ, false, List, [], ◌∷◌, length, Err}
use Rattle.nqs_base.specs.Want.{want}
use Rattle.nqs_records.specs.Changes.{AreBytes}
use Rattle.nqs_records.specs.Whole.{IsFollowed}
use Rattle.nqs_packets.specs.declared.fault.PacketFault.TheVariants as fault
use Rattle.nqs_packets.specs.Spelling.{spelling}
use Rattle.nqs_packets.specs.Values.{MaySend}
use Rattle.nqs_packets.specs.Reading.{is_kind, message_of}

-- a first byte that is not the version
abbrev pub HasOtherVersion : List ℕ → Type 0
HasOtherVersion [] = ⊥
HasOtherVersion (version ∷ rest) = version ≢ 2

-- the version, and a byte that is no kind
abbrev pub HasOtherKind : List ℕ → Type 0
HasOtherKind [] = ⊥
HasOtherKind (version ∷ []) = ⊥
HasOtherKind (version ∷ kind ∷ rest) = (version ≡ 2) × (is_kind kind ≡ false)

-- Each fault beside that of a field comes exactly where bytes are so; bytes that end too early are
-- short at their end.
pub record HasFirstFaults (bytes : List ℕ) : Type 0 where
  pub version : message_of bytes ≡ Err fault.Version ↔ HasOtherVersion bytes
  pub kind : message_of bytes ≡ Err fault.Kind ↔ HasOtherKind bytes
  pub trailing : (place : ℕ) → message_of bytes ≡ Err (fault.Trailing place) ↔ IsFollowed MaySend spelling bytes place
  pub short : (end : ℕ) → message_of bytes ≡ Err (fault.Short end) → end ≡ length bytes
  pub memory : message_of bytes ≢ Err (fault.Memory want)

-- the first faults of all bytes
abbrev pub FirstFaults : Type 0
FirstFaults = (bytes : List ℕ) → AreBytes bytes → HasFirstFaults bytes
