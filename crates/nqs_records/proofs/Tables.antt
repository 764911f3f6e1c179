-- What a table of codes reads is what its entries spell: of any table whose rows and entries agree.
use Rattle.std.proofs.Common.{◌≡◌, ℕ, ◌+◌, ◌^◌, Bool, true, false, cond, ◌==◌, nat_lt, List, [], ◌∷◌, ◌++◌, length, drop, refl, sym, ap, ◌∙◌, subst, arith}
use Rattle.std.proofs.Common.{length-append, append_assoc, Ok}
use Rattle.std.specs.List.{AllByRecursion}
use Rattle.std.proofs.lemmas.Bool.{eqb-true, ltb-true}
use Rattle.nqs_base.proofs.Readings.{bound, bind}
use Rattle.nqs_base.proofs.Plain.{rest_behind}
use Rattle.nqs_codec.specs.Fields.{u8_field}
use Rattle.nqs_codec.specs.Takes.{Stands}
use Rattle.nqs_codec.proofs.Lengths.{two_stand}
use Rattle.nqs_records.specs.Reading.{Reading, ◌>>=◌}
use Rattle.nqs_records.specs.Fields.{u8_at}
use Rattle.nqs_records.specs.Tables.{Values, values_field, values_at, are_sound, Row, Entry, IsEntry, entry_field, row_at, by_code, shape_of}
use Rattle.nqs_records.specs.Changes.{AreBytes}
use Rattle.nqs_records.proofs.IsRead.{IsRead}
use Rattle.nqs_records.proofs.Numbers.{u8_read}
use Rattle.nqs_records.proofs.Chains.{Found}
use Rattle.nqs_records.proofs.Numbered.{Finds, finds}
use Rattle.nqs_records.proofs.ShapeLaws.{FieldsAreRead, shape_law}

-- what a row makes of values has its code and these values
abbrev pub IsRow : {F : Type 0} {ValueOf : F → Type 0} {A : Type 0} → (F → Bool) → (A → Entry ValueOf) → Row ValueOf A → Type 0
IsRow {F} {ValueOf} {A} is_sound entry_of r =
    ((v : Values ValueOf r.shape) → entry_of (r.make v) ≡ record { code = r.code; shape = r.shape; values = v }) × (are_sound is_sound r.shape ≡ true)

-- a value's fields are those of its code, and the row of its code makes the value again
abbrev pub IsMade : {F : Type 0} {ValueOf : F → Type 0} {A : Type 0} → ((f : F) → Reading (ValueOf f)) → List (Row ValueOf A) → Entry ValueOf → A → Type 0
IsMade {F} {ValueOf} {A} read rows n a = (
    (other : Reading A) (bytes : List ℕ) (start end : ℕ) → values_at read n.shape bytes start ≡ Ok (n.values, end)
    → by_code read rows n.code other bytes start ≡ Ok (a, end)
    ) × (n.shape ≡ shape_of rows n.code) × (nat_lt n.code (2 ^ 8) ≡ true)

-- what holds of no fields and of those of each row holds of the fields behind each code
pub each_shape : {F : Type 0} {ValueOf : F → Type 0} {A : Type 0} (P : List F → Type 0) (Q : Row ValueOf A → Type 0) → P []
    → ((r : Row ValueOf A) → Q r → P r.shape) → (rows : List (Row ValueOf A)) (code : ℕ) → AllByRecursion Q rows → P (shape_of rows code)
each_shape P Q none each [] code all = none
each_shape P Q none each (r ∷ rs) code all = by (r.code == code) (each_shape P Q none each rs code all.1)
  where
    by : (t : Bool) → P (shape_of rs code) → P (cond t r.shape (shape_of rs code))
    by true later = each r all.0
    by false later = later

-- a table whose rows and entries agree
pub record IsTable {F : Type 0} {ValueOf : F → Type 0} {A : Type 0} (read : (f : F) → Reading (ValueOf f)) (is_sound : F → Bool)
    (entry_of : A → Entry ValueOf) (rows : List (Row ValueOf A)) : Type 0 where
  pub all_rows : AllByRecursion (IsRow is_sound entry_of) rows
  pub all_made : (a : A) → IsMade read rows (entry_of a) a

-- a code, and what it announces
abbrev pub coded_by : {F : Type 0} {ValueOf : F → Type 0} {A : Type 0} → ((f : F) → Reading (ValueOf f)) → List (Row ValueOf A) → (ℕ → Reading A) → Reading A
coded_by {F} {ValueOf} {A} read rows other bytes place = u8_at bytes place >>= (λ k. by_code read rows k.0 (other place) bytes k.1)

-- nothing is read
abbrev pub IsNever : {A : Type 0} → Reading A → Type 0
IsNever {A} other = (bytes : List ℕ) (place : ℕ) (v : A × ℕ) → other bytes place ≡ Ok v → ⊥

module _ {F : Type 0} {ValueOf : F → Type 0} {A : Type 0} (Is : (f : F) → ValueOf f → Type 0) (field : (f : F) → ValueOf f → List ℕ)
    (read : (f : F) → Reading (ValueOf f)) (is_sound : F → Bool) (law : FieldsAreRead Is field read is_sound) (entry_of : A → Entry ValueOf) where
  abbrev FindsEntry : ℕ → Reading A → Type 0
  FindsEntry k reading = Finds (λ a. IsEntry Is (entry_of a)) (λ a. entry_field field (entry_of a)) k reading

  row_finds : (r : Row ValueOf A) → IsRow is_sound entry_of r → FindsEntry r.code (row_at read r)
  row_finds r is =
      finds r.code r.make (λ v are. subst (IsEntry Is) (sym (is.0 v)) are) (λ v. ap (entry_field field) (is.0 v))
      (shape_law Is field read is_sound law r.shape is.1)

  rows_find : (rows : List (Row ValueOf A)) (k : ℕ) (other : Reading A) → IsNever other → AllByRecursion (IsRow is_sound entry_of) rows
      → FindsEntry k (by_code read rows k other)
  rows_find [] k other never all = λ bytes place value next fits e. absurd (never bytes place (value, next) e)
  rows_find (r ∷ rs) k other never all = by (r.code == k) refl (rows_find rs k other never all.1)
    where
      by : (t : Bool) → (r.code == k) ≡ t → FindsEntry k (by_code read rs k other) → FindsEntry k (cond t (row_at read r) (by_code read rs k other))
      by true is rest = subst (λ (n : ℕ). FindsEntry n (row_at read r)) (eqb-true r.code k is) (row_finds r all.0)
      by false is rest = rest

  module _ (rows : List (Row ValueOf A)) (other : ℕ → Reading A) (table : IsTable read is_sound entry_of rows) (never : (at : ℕ) → IsNever (other at)) where
    coded_found : (bytes : List ℕ) (place : ℕ) (value : A) (next : ℕ) → AreBytes bytes → coded_by read rows other bytes place ≡ Ok (value, next)
        → Found (λ a. IsEntry Is (entry_of a)) (λ a. entry_field field (entry_of a)) bytes place (value, next)
    coded_found bytes place value next fits e =
        let k = bound (u8_at bytes place) (λ k. by_code read rows k.0 (other place) bytes k.1) (value, next) e in
        let here = (u8_read.found bytes place k.0.0 k.0.1 fits k.1).1 in
        let there = rows_find rows k.0.0 (other place) (never place) table.all_rows bytes k.0.1 value next fits k.2 in (
          there.is_value,
          subst (λ (l : List ℕ). Stands bytes place l next) (sym there.spelled)
              (two_stand bytes place k.0.1 next (u8_field k.0.0) there.args here there.stands),
        )

    coded_taken : (bytes rest : List ℕ) (place : ℕ) (value : A) → AreBytes bytes → IsEntry Is (entry_of value)
        → drop place bytes ≡ entry_field field (entry_of value) ++ rest
        → coded_by read rows other bytes place ≡ Ok (value, place + length (entry_field field (entry_of value)))
    coded_taken bytes rest place value fits is_value is =
        let n = entry_of value in
        let front = u8_field n.code in
        let back = values_field field n.shape n.values in
        let made = table.all_made value in
        let sound = subst (λ s. are_sound is_sound s ≡ true) (sym made.1)
        (each_shape (λ s. are_sound is_sound s ≡ true) (IsRow is_sound entry_of) refl (λ r is. is.1) rows n.code table.all_rows) in
        let text = is ∙ append_assoc front back rest in
        let start = place + length front in
        let there = (shape_law Is field read is_sound law n.shape sound).taken bytes rest start n.values fits is_value
        (rest_behind bytes place front (back ++ rest) text) in
        let end : start + length back ≡ place + length (front ++ back) = omega (arith, length-append front back) in
        bind (u8_at bytes place) _ (n.code, start) _ (u8_read.taken bytes (back ++ rest) place n.code fits (ltb-true n.code (2 ^ 8) made.2) text)
        (made.0 (other place) bytes start (start + length back) there ∙ ap (λ (m : ℕ). Ok (value, m)) end)

    pub table_law : IsRead (λ a. IsEntry Is (entry_of a)) (λ a. entry_field field (entry_of a)) (coded_by read rows other)
    table_law = record {
      found = λ bytes place value next fits e. coded_found bytes place value next fits e;
      taken = λ bytes rest place value fits is_value is. coded_taken bytes rest place value fits is_value is;
    }

-- the same law of limits and spellings that are the same
pub named : {A : Type 0} {IsA : A → Type 0} {f : A → List ℕ} (IsB : A → Type 0) (g : A → List ℕ) (r : Reading A) → ((a : A) → IsB a ≡ IsA a)
    → ((a : A) → g a ≡ f a) → IsRead IsA f r → IsRead IsB g r
named {A} {IsA} {f} IsB g r limited spelled one =
    subst (λ (h : A → List ℕ). IsRead IsB h r) (λ j a. sym (spelled a) j) (subst (λ (P : A → Type 0). IsRead P f r) (λ j a. sym (limited a) j) one)
