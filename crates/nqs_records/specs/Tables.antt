-- Tables of codes: which fields stand behind each code, and what their values make. Codes are
-- looked up, so that some may be left out.
use Rattle.std.specs.Prelude.{ℕ, Bool, ◌&&◌, true, false, ◌==◌, List, [], ◌∷◌, ◌++◌, if◌then◌else◌}
use Rattle.nqs_codec.specs.Fields.{u8_field}
use Rattle.nqs_records.specs.Reading.{Reading, mapped, both}
use Rattle.nqs_records.specs.Parts.{nothing_at}

-- ---- fields one behind the other

-- their values
abbrev pub Values : {F : Type 0} → (F → Type 0) → List F → Type 0
Values {F} ValueOf [] = Unit {0}
Values {F} ValueOf (f ∷ []) = ValueOf f
Values {F} ValueOf (f ∷ g ∷ fs) = ValueOf f × Values ValueOf (g ∷ fs)

-- each value is within its limits
abbrev pub AreValues : {F : Type 0} {ValueOf : F → Type 0} → ((f : F) → ValueOf f → Type 0) → (shape : List F) → Values ValueOf shape → Type 0
AreValues {F} {ValueOf} Is [] v = Unit {0}
AreValues {F} {ValueOf} Is (f ∷ []) v = Is f v
AreValues {F} {ValueOf} Is (f ∷ g ∷ []) v = Is f v.0 × Is g v.1
AreValues {F} {ValueOf} Is (f ∷ g ∷ h ∷ []) v = Is f v.0 × Is g v.1.0 × Is h v.1.1
AreValues {F} {ValueOf} Is (f ∷ g ∷ h ∷ i ∷ []) v = Is f v.0 × Is g v.1.0 × Is h v.1.1.0 × Is i v.1.1.1
AreValues {F} {ValueOf} Is (f ∷ g ∷ h ∷ i ∷ j ∷ fs) v = Is f v.0 × Is g v.1.0 × Is h v.1.1.0 × Is i v.1.1.1.0 × AreValues Is (j ∷ fs) v.1.1.1.1

-- how they are spelled
abbrev pub values_field : {F : Type 0} {ValueOf : F → Type 0} → ((f : F) → ValueOf f → List ℕ) → (shape : List F) → Values ValueOf shape → List ℕ
values_field {F} {ValueOf} field [] v = []
values_field {F} {ValueOf} field (f ∷ []) v = field f v ++ []
values_field {F} {ValueOf} field (f ∷ g ∷ fs) v = field f v.0 ++ values_field field (g ∷ fs) v.1

-- how they are read
unfoldable pub values_at : {F : Type 0} {ValueOf : F → Type 0} → ((f : F) → Reading (ValueOf f)) → (shape : List F) → Reading (Values ValueOf shape)
values_at {F} {ValueOf} read [] = nothing_at
values_at {F} {ValueOf} read (f ∷ []) = read f
values_at {F} {ValueOf} read (f ∷ g ∷ fs) = both (read f) (λ _. values_at read (g ∷ fs))

-- each of them passes a test
abbrev pub are_sound : {F : Type 0} → (F → Bool) → List F → Bool
are_sound {F} is_sound [] = true
are_sound {F} is_sound (f ∷ fs) = is_sound f && are_sound is_sound fs

-- ---- tables

-- a code, the fields behind it, and what their values make
pub record Row {F : Type 0} (ValueOf : F → Type 0) (A : Type 0) : Type 0 where
  pub code : ℕ
  pub shape : List F
  pub make : Values ValueOf shape → A

-- a code, the fields behind it, and their values
pub record Entry {F : Type 0} (ValueOf : F → Type 0) : Type 0 where
  pub code : ℕ
  pub shape : List F
  pub values : Values ValueOf shape

-- the values of an entry are within their limits
abbrev pub IsEntry : {F : Type 0} {ValueOf : F → Type 0} → ((f : F) → ValueOf f → Type 0) → Entry ValueOf → Type 0
IsEntry {F} {ValueOf} Is e = AreValues Is e.shape e.values

-- the one spelling of an entry: its code, and its values
abbrev pub entry_field : {F : Type 0} {ValueOf : F → Type 0} → ((f : F) → ValueOf f → List ℕ) → Entry ValueOf → List ℕ
entry_field {F} {ValueOf} field e = u8_field e.code ++ values_field field e.shape e.values

-- how a row is read, behind its code
abbrev pub row_at : {F : Type 0} {ValueOf : F → Type 0} {A : Type 0} → ((f : F) → Reading (ValueOf f)) → Row ValueOf A → Reading A
row_at {F} {ValueOf} {A} read r = mapped r.make (values_at read r.shape)

-- how the row of a code is read, and what else where there is none
abbrev pub by_code : {F : Type 0} {ValueOf : F → Type 0} {A : Type 0} → ((f : F) → Reading (ValueOf f)) → List (Row ValueOf A) → ℕ → Reading A → Reading A
by_code {F} {ValueOf} {A} read [] code other = other
by_code {F} {ValueOf} {A} read (r ∷ rs) code other = if r.code == code then row_at read r else by_code read rs code other

-- the fields behind a code: those of its row, none where it has no row
abbrev pub shape_of : {F : Type 0} {ValueOf : F → Type 0} {A : Type 0} → List (Row ValueOf A) → ℕ → List F
shape_of {F} {ValueOf} {A} [] code = []
shape_of {F} {ValueOf} {A} (r ∷ rs) code = if r.code == code then r.shape else shape_of rs code

-- whether some row has this code
abbrev pub has_code : {F : Type 0} {ValueOf : F → Type 0} {A : Type 0} → List (Row ValueOf A) → ℕ → Bool
has_code {F} {ValueOf} {A} [] code = false
has_code {F} {ValueOf} {A} (r ∷ rs) code = if r.code == code then true else has_code rs code
