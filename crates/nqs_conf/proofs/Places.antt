-- The first of a list that passes a test, by its place.
use Rattle.std.proofs.Common.{◌≡◌, ℕ, suc, ◌+◌, ◌<◌, Bool, true, false, cond, not, ◌||◌, nat_lt, List, [], ◌∷◌, length, position, remove, None, Some}
use Rattle.std.proofs.Common.{refl, sym, ap, subst, ◌∙◌, arith}
use Rattle.std.specs.List.{list_any, position_or_len}
use Rattle.std.proofs.lemmas.Bool.Decides.{nat_tests}
use Rattle.std.proofs.lemmas.Option.{same_Some, none-some}
use Rattle.nqs_base_tables.specs.Table.{without_first}

module _ {V : Type 0} (t : V → Bool) where
  -- the place is that of the first that passes
  pub record IsFirst (vs : List V) (place : ℕ) : Type 0 where
    pub within : place < length vs
    pub others : remove vs place ≡ without_first t vs

  first_there : (vs : List V) → position_or_len t vs < length vs → IsFirst vs (position_or_len t vs)
  first_there [] lt = absurd (omega arith)
  first_there (x ∷ vs) lt = by (t x) refl (first_there vs) lt
    where
      by : (b : Bool) → t x ≡ b → (position_or_len t vs < length vs → IsFirst vs (position_or_len t vs))
          → cond (not b) (1 + position_or_len t vs) 0 < length (x ∷ vs) → IsFirst (x ∷ vs) (cond (not b) (1 + position_or_len t vs) 0)
      by true e rest lt = record { within = lt; others = sym (ap (λ b. cond b vs (x ∷ without_first t vs)) e) }
      by false e rest lt =
          let next : suc (position_or_len t vs) ≡ 1 + position_or_len t vs = omega arith in
          let r = rest (omega (arith, lt)) in
          subst (λ n. IsFirst (x ∷ vs) n) next (record {
            within = omega (arith, r.within);
            others = ap (λ l. x ∷ l) r.others ∙ sym (ap (λ b. cond b vs (x ∷ without_first t vs)) e);
          })

  nothing_passes : (vs : List V) → (position_or_len t vs < length vs → ⊥) → list_any t vs ≡ false
  nothing_passes [] none = refl
  nothing_passes (x ∷ vs) none = by (t x) refl (nothing_passes vs) none
    where
      by : (b : Bool) → t x ≡ b → ((position_or_len t vs < length vs → ⊥) → list_any t vs ≡ false)
          → (cond (not b) (1 + position_or_len t vs) 0 < length (x ∷ vs) → ⊥) → list_any t (x ∷ vs) ≡ false
      by true e rest none = absurd (none (omega arith))
      by false e rest none = ap (λ b. b || list_any t vs) e ∙ rest (λ lt. none (omega (arith, lt)))

  pub first_at : (vs : List V) (place : ℕ) → position t vs ≡ Some place → IsFirst vs place
  first_at vs place h = by (nat_lt (position_or_len t vs) (length vs)) refl h
    where
      by : (b : Bool) → nat_lt (position_or_len t vs) (length vs) ≡ b → cond b (Some (position_or_len t vs)) None ≡ Some place → IsFirst vs place
      by true e h = subst (λ n. IsFirst vs n) (same_Some (position_or_len t vs) place h) (first_there vs (grind (arith, nat_tests)))
      by false e h = absurd (none-some place h)

  pub nowhere : (vs : List V) → position t vs ≡ None → list_any t vs ≡ false
  nowhere vs h = by (nat_lt (position_or_len t vs) (length vs)) refl h
    where
      by : (b : Bool) → nat_lt (position_or_len t vs) (length vs) ≡ b → cond b (Some (position_or_len t vs)) None ≡ None → list_any t vs ≡ false
      by true e h = absurd (none-some (position_or_len t vs) (sym h))
      by false e h = nothing_passes vs (λ lt. absurd (grind (arith, nat_tests)))
