-- The first of a list that passes a test, by its place.
use Rattle.std.proofs.Common.{◌≡◌, ℕ, suc, ◌+◌, ◌<◌, Bool, true, false, cond, not, nat_lt, List, [], ◌∷◌, length, find, position, remove, slice_get, None, Some}
use Rattle.std.proofs.Common.{refl, sym, ap, subst, ◌∙◌, arith}
use Rattle.std.specs.List.{position_or_len}
use Rattle.std.proofs.lemmas.Bool.Decides.{nat_tests}
use Rattle.std.proofs.lemmas.Option.{same_Some, none-some}
use Rattle.nqs_base_tables.specs.Table.{change_first, without_first}

module _ {V : Type 0} (t : V → Bool) where
  -- the value at a place is the first that passes
  pub record IsFirst (vs : List V) (place : ℕ) (v : V) : Type 0 where
    pub found : find t vs ≡ Some v
    pub others : remove vs place ≡ without_first t vs

  first_there : (vs : List V) (v : V) → position_or_len t vs < length vs → slice_get vs (position_or_len t vs) ≡ Some v → IsFirst vs (position_or_len t vs) v
  first_there [] v lt at = absurd (omega arith)
  first_there (x ∷ vs) v lt at = by (t x) refl (first_there vs v) lt at
    where
      by : (b : Bool) → t x ≡ b → (position_or_len t vs < length vs → slice_get vs (position_or_len t vs) ≡ Some v → IsFirst vs (position_or_len t vs) v)
          → cond (not b) (1 + position_or_len t vs) 0 < length (x ∷ vs) → slice_get (x ∷ vs) (cond (not b) (1 + position_or_len t vs) 0) ≡ Some v
          → IsFirst (x ∷ vs) (cond (not b) (1 + position_or_len t vs) 0) v
      by true e rest lt at = record {
        found = ap (λ b. cond b (Some x) (find t vs)) e ∙ at;
        others = sym (ap (λ b. cond b vs (x ∷ without_first t vs)) e);
      }
      by false e rest lt at =
          let next : suc (position_or_len t vs) ≡ 1 + position_or_len t vs = omega arith in
          let r = rest (omega (arith, lt)) (ap (slice_get (x ∷ vs)) next ∙ at) in
          subst (λ n. IsFirst (x ∷ vs) n v) next (record {
            found = ap (λ b. cond b (Some x) (find t vs)) e ∙ r.found;
            others = ap (λ l. x ∷ l) r.others ∙ sym (ap (λ b. cond b vs (x ∷ without_first t vs)) e);
          })

  nowhere : (vs : List V) → (position_or_len t vs < length vs → ⊥) → find t vs ≡ None
  nowhere [] none = refl
  nowhere (x ∷ vs) none = by (t x) refl (nowhere vs) none
    where
      by : (b : Bool) → t x ≡ b → ((position_or_len t vs < length vs → ⊥) → find t vs ≡ None)
          → (cond (not b) (1 + position_or_len t vs) 0 < length (x ∷ vs) → ⊥) → find t (x ∷ vs) ≡ None
      by true e rest none = absurd (none (omega arith))
      by false e rest none = ap (λ b. cond b (Some x) (find t vs)) e ∙ rest (λ lt. none (omega (arith, lt)))

  pub first_at : (vs : List V) (place : ℕ) (v : V) → position t vs ≡ Some place → slice_get vs place ≡ Some v → IsFirst vs place v
  first_at vs place v h at = by (nat_lt (position_or_len t vs) (length vs)) refl h
    where
      by : (b : Bool) → nat_lt (position_or_len t vs) (length vs) ≡ b → cond b (Some (position_or_len t vs)) None ≡ Some place → IsFirst vs place v
      by true e h =
          let is : position_or_len t vs ≡ place = same_Some (position_or_len t vs) place h in
          subst (λ n. IsFirst vs n v) is (first_there vs v (grind (arith, nat_tests)) (ap (slice_get vs) is ∙ at))
      by false e h = absurd (none-some place h)

  pub none_at : (vs : List V) → position t vs ≡ None → find t vs ≡ None
  none_at vs h = by (nat_lt (position_or_len t vs) (length vs)) refl h
    where
      by : (b : Bool) → nat_lt (position_or_len t vs) (length vs) ≡ b → cond b (Some (position_or_len t vs)) None ≡ None → find t vs ≡ None
      by true e h = absurd (none-some (position_or_len t vs) (sym h))
      by false e h = nowhere vs (λ lt. absurd (grind (arith, nat_tests)))

  -- two changes of the first, one after the other, where the first change doesn't hide it
  pub changed_twice : (f g : V → V) → ((v : V) → t (f v) ≡ t v) → (vs : List V) → change_first t g (change_first t f vs) ≡ change_first t (λ v. g (f v)) vs
  changed_twice f g same [] = refl
  changed_twice f g same (x ∷ vs) = by (t x) refl (changed_twice f g same vs)
    where
      by : (b : Bool) → t x ≡ b → change_first t g (change_first t f vs) ≡ change_first t (λ v. g (f v)) vs
          → change_first t g (cond b (f x ∷ vs) (x ∷ change_first t f vs)) ≡ cond b (g (f x) ∷ vs) (x ∷ change_first t (λ v. g (f v)) vs)
      by true e rest = ap (λ b. cond b (g (f x) ∷ vs) (f x ∷ change_first t g vs)) (same x ∙ e)
      by false e rest = ap (λ b. cond b (g x ∷ change_first t f vs) (x ∷ change_first t g (change_first t f vs))) e ∙ ap (λ l. x ∷ l) rest
