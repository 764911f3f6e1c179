-- Putting and taking undo each other.
use Rattle.std.specs.Prelude.{◌≡◌, ℕ, ◌+◌, List, ◌++◌, length, take, drop, Ok, Err}
use Rattle.std.specs.declared.result.Result.{Result}
use Rattle.nqs_base.specs.declared.extent.Extent.{Extent}
use Rattle.nqs_codec.specs.Takes.{StandsNone}

-- the fields of two values, each with something behind it, are the same list only for the same
-- value
abbrev pub IsOne : {A : Type 0} → (A → Type 0) → (A → List ℕ) → Type 0
IsOne {A} IsValue field = (value other : A) (rest more : List ℕ) → IsValue value → IsValue other → field value ++ rest ≡ field other ++ more
    → (value ≡ other) × (rest ≡ more)

-- at one place of one list there is one answer
abbrev pub HasOneAnswer : {A E : Type 0} → (List ℕ → ℕ → Result (A × ℕ) E → Type 0) → Type 0
HasOneAnswer {A} {E} Takes = (bytes : List ℕ) (place : ℕ) (answer other : Result (A × ℕ) E) → Takes bytes place answer → Takes bytes place other
    → answer ≡ other

-- A value's field that stands at a place is taken from there, and what is behind it is left; a
-- refusal says that none stands there.
pub record IsReadBack {A E : Type 0} (IsValue : A → Type 0) (field : A → List ℕ) (Takes : List ℕ → ℕ → Result (A × ℕ) E → Type 0) : Type 0 where
  pub taken : (bytes rest : List ℕ) (place : ℕ) (value : A) (answer : Result (A × ℕ) E) → IsValue value → drop place bytes ≡ field value ++ rest
      → Takes bytes place answer → answer ≡ Ok (value, place + length (field value))
  pub left : (bytes rest : List ℕ) (place : ℕ) (value : A) → drop place bytes ≡ field value ++ rest → drop (place + length (field value)) bytes ≡ rest
  pub put_taken : (front rest : List ℕ) (value : A) (answer : Result (A × ℕ) E) → IsValue value → Takes (front ++ (field value ++ rest)) (length front) answer
      → answer ≡ Ok (value, length front + length (field value))
  pub refused : (bytes : List ℕ) (place : ℕ) (fault : E) → Takes bytes place (Err fault) → StandsNone IsValue field bytes place
  pub one : IsOne IsValue field
  pub one_answer : HasOneAnswer Takes

-- the extent of a value behind a head of its field
abbrev pub extent_of : ℕ → ℕ → List ℕ → Extent
extent_of head place value = record { place = place + head; length = length value }

-- The same of bytes that are taken by their extent; the head of the field is so long.
pub record IsReadInPlace {E : Type 0} (head : ℕ) (IsValue : List ℕ → Type 0) (field : List ℕ → List ℕ)
    (Takes : List ℕ → ℕ → Result (Extent × ℕ) E → Type 0) : Type 0 where
  pub taken : (bytes rest : List ℕ) (place : ℕ) (value : List ℕ) (answer : Result (Extent × ℕ) E) → IsValue value → drop place bytes ≡ field value ++ rest
      → Takes bytes place answer → answer ≡ Ok (extent_of head place value, place + length (field value))
  pub in_place : (bytes rest value : List ℕ) (place : ℕ) → drop place bytes ≡ field value ++ rest → take (length value) (drop (place + head) bytes) ≡ value
  pub left : (bytes rest value : List ℕ) (place : ℕ) → drop place bytes ≡ field value ++ rest → drop (place + length (field value)) bytes ≡ rest
  pub put_taken : (front rest value : List ℕ) (answer : Result (Extent × ℕ) E) → IsValue value → Takes (front ++ (field value ++ rest)) (length front) answer
      → answer ≡ Ok (extent_of head (length front) value, length front + length (field value))
  pub refused : (bytes : List ℕ) (place : ℕ) (fault : E) → Takes bytes place (Err fault) → StandsNone IsValue field bytes place
  pub one : IsOne IsValue field
  pub one_answer : HasOneAnswer Takes
