-- Sizes as they are typed: digits and a unit, in bytes.
use Rattle.std.specs.Prelude.{◌≡◌, ℕ, ◌*◌, ◌^◌, ◌<◌, ◌≤◌, nat_lt, List, [], length, take, drop, codes, Option, Some, None, unwrap_or, if◌then◌else◌, Ok, Err}
use Rattle.std.specs.declared.result.Result.{Result}
use Rattle.nqs_base.specs.Same.{name_eq}
use Rattle.nqs_text.specs.Number.{decimal, first_other}
use Rattle.nqs_text.specs.declared.number.NumberFault.{NumberFault}
use Rattle.nqs_text.specs.declared.number.NumberFault.TheVariants.{Empty, BadByte, TooLarge}

-- where the digits end
abbrev pub digits_end : List ℕ → ℕ
digits_end bytes = unwrap_or (first_other bytes) (length bytes)

-- how many bytes a unit is: powers of 1,024
abbrev pub unit : List ℕ → Option ℕ
unit bytes =
    if name_eq (codes "b") bytes then Some 1 else
    (if name_eq (codes "kb") bytes then Some 1024 else
    (if name_eq (codes "mb") bytes then Some 1048576 else
    (if name_eq (codes "gb") bytes then Some 1073741824 else None)))

-- the unit behind some digits
abbrev pub size_unit : List ℕ → Option ℕ
size_unit bytes = if nat_lt 0 (digits_end bytes) then unit (drop (digits_end bytes) bytes) else None

-- so many of a unit
abbrev pub size : List ℕ → ℕ → ℕ
size bytes unit = decimal (take (digits_end bytes) bytes) * unit

-- what reading a size answers; the cases exclude each other
abbrev pub ReadsSize : List ℕ → Result ℕ NumberFault → Type 0
ReadsSize bytes (Ok n) = (unit : ℕ) × (size_unit bytes ≡ Some unit) × (n ≡ size bytes unit) × (size bytes unit < 2 ^ 64)
ReadsSize bytes (Err Empty) = bytes ≡ []
ReadsSize bytes (Err (BadByte place)) = (0 < length bytes) × (size_unit bytes ≡ None) × (place ≡ digits_end bytes)
ReadsSize bytes (Err TooLarge) = (unit : ℕ) × (size_unit bytes ≡ Some unit) × (2 ^ 64 ≤ size bytes unit)
