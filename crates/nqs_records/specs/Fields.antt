-- Readings of single fields.
use Rattle.std.specs.Prelude.{ℕ, suc, ◌+◌, Bool, true, false, ◌&&◌, ◌==◌, nat_lt, nat_le, List, [], ◌∷◌, length, take, drop, slice_index, Option, Some, None}
use Rattle.std.specs.Prelude.{option_map, if◌then◌else◌, Ok, Err}
use Rattle.std.specs.Int.{w16, w32, w64, from_be_bytes}
use Rattle.std.specs.declared.result.Result.{Result}
use Rattle.nqs_base.specs.Name.{allowed_at}
use Rattle.nqs_base.specs.Path.{path_allowed_at, has_parent}
use Rattle.nqs_codec.specs.declared.fault.Short.{Short}
use Rattle.nqs_codec.specs.declared.fault.FieldFault.{FieldFault}
use Rattle.nqs_codec.specs.declared.fault.FieldFault.TheVariants as field
use Rattle.nqs_records.specs.Reading.{◌>>=◌, Read, Reading, if_there}
use Rattle.nqs_records.specs.declared.fault.RecordFault.{RecordFault}
use Rattle.nqs_records.specs.declared.fault.RecordFault.TheVariants as fault

-- a field's fault is the record's
abbrev pub as_fault : FieldFault → RecordFault
as_fault (field.Short end) = fault.Short end
as_fault (field.Bad place) = fault.BadField place

-- what was taken, or where the bytes end too early
abbrev pub or_short : {A : Type 0} → Result A Short → Read A
or_short {A} (Ok a) = Ok a
or_short {A} (Err short) = Err (fault.Short short.0)

-- what was taken, or the fault of its field
abbrev pub or_fault : {A : Type 0} → Result A FieldFault → Read A
or_fault {A} (Ok a) = Ok a
or_fault {A} (Err e) = Err (as_fault e)

-- ---- numbers

-- so many bytes as a number, where they are all there
unfoldable pub number_at : ℕ → (List ℕ → ℕ) → List ℕ → ℕ → Result (ℕ × ℕ) Short
number_at size number bytes place =
    if nat_lt (length (drop place bytes)) size then Err (record { 0 = length bytes })
    else Ok (number (take size (drop place bytes)), place + size)

-- a number of one byte
unfoldable pub u8_at : Reading ℕ
u8_at bytes place = or_short (number_at 1 (λ part. slice_index part 0) bytes place)

-- a number of two bytes
unfoldable pub u16_at : Reading ℕ
u16_at bytes place = or_short (number_at 2 (from_be_bytes w16) bytes place)

-- a number of four bytes
unfoldable pub u32_at : Reading ℕ
u32_at bytes place = or_short (number_at 4 (from_be_bytes w32) bytes place)

-- a number of eight bytes
unfoldable pub u64_at : Reading ℕ
u64_at bytes place = or_short (number_at 8 (from_be_bytes w64) bytes place)

-- ---- yes and no

-- a byte that is 0 for no or 1 for yes, and no other
unfoldable pub bool_of : ℕ → ℕ → List ℕ → Result (Bool × ℕ) FieldFault
bool_of end place [] = Err (field.Short end)
bool_of end place (b ∷ rest) = if b == 0 then Ok (false, place + 1) else (if b == 1 then Ok (true, place + 1) else Err (field.Bad place))

-- no or yes
unfoldable pub bool_at : Reading Bool
bool_at bytes place = or_fault (bool_of (length bytes) place (drop place bytes))

-- nothing, or a value behind a tag
unfoldable pub opt_at : {A : Type 0} → Reading A → Reading (Option A)
opt_at {A} item bytes place = do
  tag ← bool_at bytes place
  if_there tag.0 item bytes tag.1

-- ---- names and paths

-- the bytes behind a byte of length, which is at least 1
unfoldable pub short_of : ℕ → ℕ → ℕ → List ℕ → Result (List ℕ) FieldFault
short_of most end place [] = Err (field.Short end)
short_of most end place (count ∷ rest) =
    if nat_le 1 count && nat_le count most then (if nat_lt (length rest) count then Err (field.Short end) else Ok (take count rest))
    else Err (field.Bad place)

-- the first place whose byte may not stand there
unfoldable pub first_bad : (ℕ → ℕ → Bool) → List ℕ → Option ℕ
first_bad allowed [] = None
first_bad allowed (b ∷ bs) = if allowed 0 b then option_map (λ i. suc i) (first_bad (λ i. allowed (suc i)) bs) else Some 0

-- a name that was taken, or the first of its bytes that may not stand there
abbrev pub named : ℕ → List ℕ → Option ℕ → Result (List ℕ × ℕ) FieldFault
named place value None = Ok (value, place + 1 + length value)
named place value (Some offset) = Err (field.Bad (place + 1 + offset))

-- a name behind its length, of at most 15 bytes, each of which may stand at its place
unfoldable pub name_of : List ℕ → ℕ → Result (List ℕ × ℕ) FieldFault
name_of bytes place = do
  value ← short_of 15 (length bytes) place (drop place bytes)
  named place value (first_bad allowed_at value)

-- a path that was taken: one with `..` in it is bad from its first byte on
abbrev pub pathed : ℕ → List ℕ → Option ℕ → Result (List ℕ × ℕ) FieldFault
pathed place value None = if has_parent value then Err (field.Bad place) else named place value None
pathed place value (Some offset) = named place value (Some offset)

-- a path behind its length, of at most 255 bytes
unfoldable pub path_of : List ℕ → ℕ → Result (List ℕ × ℕ) FieldFault
path_of bytes place = do
  value ← short_of 255 (length bytes) place (drop place bytes)
  pathed place value (first_bad path_allowed_at value)

-- a name
unfoldable pub name_at : Reading (List ℕ)
name_at bytes place = or_fault (name_of bytes place)

-- a path
unfoldable pub path_at : Reading (List ℕ)
path_at bytes place = or_fault (path_of bytes place)
