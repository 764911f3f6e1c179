-- Plain numbers: one or more digits.
use Rattle.std.specs.Prelude.{◌≡◌, ℕ, ◌+◌, ◌-◌, ◌*◌, ◌^◌, ◌<◌, ◌≤◌, not, List, [], ◌∷◌, length, Option, Some, None, Ok, Err}
use Rattle.std.specs.List.{position}
use Rattle.std.specs.declared.result.Result.{Result}
use Rattle.nqs_base.specs.Name.{is_digit}
use Rattle.nqs_text.specs.declared.number.NumberFault.{NumberFault}
use Rattle.nqs_text.specs.declared.number.NumberFault.TheVariants.{Empty, BadByte, TooLarge}

-- digits read from the left, after a number
abbrev pub decimal_from : ℕ → List ℕ → ℕ
decimal_from n [] = n
decimal_from n (b ∷ bs) = decimal_from (n * 10 + (b - 48)) bs

-- the number that digits write
unfoldable pub decimal : List ℕ → ℕ
decimal bytes = decimal_from 0 bytes

-- the place of the first byte that is no digit
unfoldable pub first_other : List ℕ → Option ℕ
first_other bytes = position (λ b. not (is_digit b)) bytes

-- some bytes, and all of them digits
abbrev pub AreDigits : List ℕ → Type 0
AreDigits bytes = (0 < length bytes) × (first_other bytes ≡ None)

-- what reading a number answers; the cases exclude each other
abbrev pub ReadsNumber : List ℕ → Result ℕ NumberFault → Type 0
ReadsNumber bytes (Ok number) = AreDigits bytes × (number ≡ decimal bytes) × (decimal bytes < 2 ^ 64)
ReadsNumber bytes (Err Empty) = bytes ≡ []
ReadsNumber bytes (Err (BadByte place)) = first_other bytes ≡ Some place
ReadsNumber bytes (Err TooLarge) = AreDigits bytes × (2 ^ 64 ≤ decimal bytes)
