-- What taking a field from a place answers. The cases of each definition exclude each other.
use Rattle.std.specs.Prelude.{◌≡◌, ◌⊎◌, ℕ, ◌+◌, ◌<◌, ◌≤◌, ◌^◌, Bool, true, List, [], ◌∷◌, ◌++◌, length, drop, Ok, Err}
use Rattle.std.specs.declared.result.Result.{Result}
use Rattle.nqs_base.specs.Name.{IsName, IsFirstBad}
use Rattle.nqs_base.specs.Extents.{extent_bytes}
use Rattle.nqs_base.specs.Path.{IsPath, IsFirstBadOfPath, PathAllowedBelow, has_parent}
use Rattle.nqs_base.specs.declared.extent.Extent.{Extent}
use Rattle.nqs_base.specs.declared.name.Name.{Name}
use Rattle.nqs_codec.specs.Fields.{bool_field, short_field, bytes_field}
use Rattle.nqs_codec.specs.declared.fault.Short.{Short}
use Rattle.nqs_codec.specs.declared.fault.FieldFault.{FieldFault}
use Rattle.nqs_codec.specs.declared.fault.FieldFault.TheVariants as fault

-- the field stands at the place, and the next place is right behind it
pub record Stands (bytes : List ℕ) (place : ℕ) (field : List ℕ) (next : ℕ) : Type 0 where
  pub text : drop place bytes ≡ field ++ drop next bytes
  pub behind : next ≡ place + length field

-- no value's field stands at the place
abbrev pub StandsNone : {A : Type 0} → (A → Type 0) → (A → List ℕ) → List ℕ → ℕ → Type 0
StandsNone {A} IsValue field bytes place = (value : A) (rest : List ℕ) → IsValue value → drop place bytes ≡ field value ++ rest → ⊥

-- a number below the limit, or too few bytes for any
abbrev pub TakesNumber : ℕ → (ℕ → List ℕ) → List ℕ → ℕ → Result (ℕ × ℕ) Short → Type 0
TakesNumber limit field bytes place (Ok (value, next)) = (value < limit) × Stands bytes place (field value) next
TakesNumber limit field bytes place (Err short) = (short.0 ≡ length bytes) × StandsNone (λ n. n < limit) field bytes place

-- the extent begins at the place, and its bytes are all there
pub record IsExtentAt (bytes : List ℕ) (place : ℕ) (extent : Extent) : Type 0 where
  pub first : extent.place ≡ place
  pub whole : length (extent_bytes bytes extent) ≡ extent.length

-- bytes that a field of four bytes of length can hold
abbrev pub IsLong : List ℕ → Type 0
IsLong bytes = length bytes < 2 ^ 32

-- the extent of the bytes behind their length, or too few bytes
abbrev pub TakesBytes : List ℕ → ℕ → Result (Extent × ℕ) Short → Type 0
TakesBytes bytes place (Ok (extent, next)) =
    IsLong (extent_bytes bytes extent) × Stands bytes place (bytes_field (extent_bytes bytes extent)) next × IsExtentAt bytes (place + 4) extent
TakesBytes bytes place (Err short) = (short.0 ≡ length bytes) × StandsNone IsLong bytes_field bytes place

-- ---- fields whose bytes are tested

-- a byte that is neither 0 nor 1
abbrev pub IsOther : List ℕ → Type 0
IsOther [] = ⊥
IsOther (byte ∷ rest) = 1 < byte

-- 0 or 1, or no byte, or another one
abbrev pub TakesBool : List ℕ → ℕ → Result (Bool × ℕ) FieldFault → Type 0
TakesBool bytes place (Ok (value, next)) = Stands bytes place (bool_field value) next
TakesBool bytes place (Err (fault.Short end)) = (end ≡ length bytes) × (drop place bytes ≡ [])
TakesBool bytes place (Err (fault.Bad at)) = (at ≡ place) × IsOther (drop place bytes)

-- no length, or one that is allowed before too few bytes
abbrev pub IsCutShort : ℕ → List ℕ → Type 0
IsCutShort most [] = Unit {0}
IsCutShort most (count ∷ rest) = (0 < count) × (count ≤ most) × (length rest < count)

-- a length that is not allowed
abbrev pub IsBadLength : ℕ → List ℕ → Type 0
IsBadLength most [] = ⊥
IsBadLength most (count ∷ rest) = (count ≡ 0) ⊎ (most < count)

-- what stops a field before its bytes are looked at
abbrev pub IsShortFault : ℕ → List ℕ → ℕ → FieldFault → Type 0
IsShortFault most bytes place (fault.Short end) = (end ≡ length bytes) × IsCutShort most (drop place bytes)
IsShortFault most bytes place (fault.Bad at) = (at ≡ place) × IsBadLength most (drop place bytes)

-- the bytes stand at the place behind a length that is allowed
pub record IsShortAt (most : ℕ) (bytes : List ℕ) (place : ℕ) (value : List ℕ) : Type 0 where
  pub some : 0 < length value
  pub few : length value ≤ most
  pub stands : Stands bytes place (short_field value) (place + 1 + length value)

-- bytes stand at the place, and the fault's place is that of the first of them that is not allowed
pub record HasBadByte (IsFirst : List ℕ → ℕ → Type 0) (most : ℕ) (bytes : List ℕ) (place at : ℕ) : Type 0 where
  pub value : List ℕ
  pub is_there : IsShortAt most bytes place value
  pub offset : ℕ
  pub first : IsFirst value offset
  pub is_place : at ≡ place + 1 + offset

-- a name; or too few bytes; or a length or a byte that no name has
abbrev pub TakesName : List ℕ → ℕ → Result (Name × ℕ) FieldFault → Type 0
TakesName bytes place (Ok (name, next)) = IsName name × Stands bytes place (short_field name) next
TakesName bytes place (Err (fault.Short end)) = IsShortFault 15 bytes place (fault.Short end)
TakesName bytes place (Err (fault.Bad at)) = IsShortFault 15 bytes place (fault.Bad at) ⊎ HasBadByte IsFirstBad 15 bytes place at

-- allowed bytes with a component `..` stand at the fault's place
pub record HasParentAt (bytes : List ℕ) (place at : ℕ) : Type 0 where
  pub value : List ℕ
  pub is_there : IsShortAt 255 bytes place value
  pub allowed : PathAllowedBelow value (length value)
  pub parent : has_parent value ≡ true
  pub is_place : at ≡ place

-- the extent of a path; or too few bytes; or a length or a byte that no path has, or a component
-- `..`
abbrev pub TakesPath : List ℕ → ℕ → Result (Extent × ℕ) FieldFault → Type 0
TakesPath bytes place (Ok (extent, next)) =
    IsPath (extent_bytes bytes extent) × Stands bytes place (short_field (extent_bytes bytes extent)) next × IsExtentAt bytes (place + 1) extent
TakesPath bytes place (Err (fault.Short end)) = IsShortFault 255 bytes place (fault.Short end)
TakesPath bytes place (Err (fault.Bad at)) = IsShortFault 255 bytes place (fault.Bad at)
    ⊎ (HasBadByte IsFirstBadOfPath 255 bytes place at ⊎ HasParentAt bytes place at)
