-- What a table of codes reads is read the same whatever follows, where each of its fields is.
use Rattle.std.proofs.Common.{◌≡◌, ℕ, Bool, true, false, cond, ◌==◌, List, [], ◌∷◌, ◌++◌, refl}
use Rattle.nqs_records.specs.Reading.{Reading}
use Rattle.nqs_records.specs.Parts.{nothing_at}
use Rattle.nqs_records.specs.Tables.{values_at, Row, row_at, by_code, has_code}
use Rattle.nqs_records.proofs.Steady.{Stays, IsSteady, mapped_steady, both_steady}

nothing_steady : IsSteady nothing_at
nothing_steady bytes more place = refl

-- where nothing is of a code, the other reading is asked
pub no_row : {F : Type 0} {ValueOf : F → Type 0} {A : Type 0} (read : (f : F) → Reading (ValueOf f)) (rows : List (Row ValueOf A)) (code : ℕ)
    (other : Reading A) → has_code rows code ≡ false → by_code read rows code other ≡ other
no_row read [] code other none = refl
no_row read (r ∷ rs) code other none = by (r.code == code) (no_row read rs code other) none
  where
    by : (t : Bool) → (has_code rs code ≡ false → by_code read rs code other ≡ other) → cond t true (has_code rs code) ≡ false
        → cond t (row_at read r) (by_code read rs code other) ≡ other
    by true later is = absurd (let wrong : ⊥ = cc in wrong)
    by false later is = later is

module _ {F : Type 0} {ValueOf : F → Type 0} (read : (f : F) → Reading (ValueOf f)) (steady : (f : F) → IsSteady (read f)) where
  shape_steady : (s : List F) → IsSteady (values_at read s)
  unfolding values_at
  shape_steady [] = nothing_steady
  shape_steady (f ∷ []) = steady f
  shape_steady (f ∷ g ∷ fs) = both_steady _ _ (steady f) (λ _. shape_steady (g ∷ fs))

  row_steady : {A : Type 0} (r : Row ValueOf A) → IsSteady (row_at read r)
  row_steady r = mapped_steady r.make (values_at read r.shape) (shape_steady r.shape)

  -- at a place where the other reading stays
  pub table_stays : {A : Type 0} (rows : List (Row ValueOf A)) (code : ℕ) (other : Reading A) (bytes more : List ℕ) (place : ℕ)
      → Stays bytes (other bytes place) (other (bytes ++ more) place)
      → Stays bytes (by_code read rows code other bytes place) (by_code read rows code other (bytes ++ more) place)
  table_stays [] code other bytes more place is = is
  table_stays (r ∷ rs) code other bytes more place is = by (r.code == code) (table_stays rs code other bytes more place is)
    where
      by : (t : Bool) → Stays bytes (by_code read rs code other bytes place) (by_code read rs code other (bytes ++ more) place)
          → Stays bytes (cond t (row_at read r) (by_code read rs code other) bytes place)
          (cond t (row_at read r) (by_code read rs code other) (bytes ++ more) place)
      by true later = row_steady r bytes more place
      by false later = later

  -- where there is a row of the code
  pub table_steady : {A : Type 0} (rows : List (Row ValueOf A)) (code : ℕ) (other : Reading A) → has_code rows code ≡ true
      → IsSteady (by_code read rows code other)
  table_steady [] code other has = absurd (let wrong : ⊥ = cc in wrong)
  table_steady (r ∷ rs) code other has = by (r.code == code) (table_steady rs code other) has
    where
      by : (t : Bool) → (has_code rs code ≡ true → IsSteady (by_code read rs code other)) → cond t true (has_code rs code) ≡ true
          → IsSteady (cond t (row_at read r) (by_code read rs code other))
      by true later some = row_steady r
      by false later some = later some
