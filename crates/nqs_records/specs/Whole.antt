-- A whole list of bytes and the spelling of a value: one that is followed, and one that is cut off.
use Rattle.std.specs.Prelude.{◌≡◌, ℕ, ◌<◌, List, ◌++◌, length}
use Rattle.nqs_records.specs.Changes.{AreBytes}

-- a value ends at the place, and the bytes don't
pub record IsFollowed {A : Type 0} (IsValue : A → Type 0) (spelling : A → List ℕ) (bytes : List ℕ) (place : ℕ) : Type 0 where
  pub value : A
  pub may : IsValue value
  pub rest : List ℕ
  pub some : 0 < length rest
  pub text : bytes ≡ spelling value ++ rest
  pub is_place : place ≡ length (spelling value)

-- the bytes of a value, cut off before their end
pub record IsCut {A : Type 0} (IsValue : A → Type 0) (spelling : A → List ℕ) (bytes : List ℕ) : Type 0 where
  pub value : A
  pub may : IsValue value
  pub rest : List ℕ
  pub fits : AreBytes rest
  pub some : 0 < length rest
  pub text : bytes ++ rest ≡ spelling value

-- whatever bytes follow these, no value has them as its spelling
abbrev pub SpellsNoneWith : {A : Type 0} → (A → Type 0) → (A → List ℕ) → List ℕ → Type 0
SpellsNoneWith {A} IsValue spelling bytes = (more : List ℕ) → AreBytes more → (value : A) → IsValue value → bytes ++ more ≡ spelling value → ⊥
