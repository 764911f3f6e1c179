-- Changes of one value of a list, by its place.
use Rattle.std.proofs.Common.{◌≡◌, ◌≤◌, ℕ, zero, suc, length, arith, List, [], ◌∷◌, Some, None, slice_get, slice_set, refl, sym, ap}
use Rattle.std.proofs.lemmas.Option.{same_Some, none-some}
use Rattle.nqs_rules.specs.Edits.{change_at}

module _ {V : Type 0} (f : V → V) where
  -- a write of the changed value
  pub change_at-set : (vs : List V) (place : ℕ) (v : V) → slice_get vs place ≡ Some v → slice_set vs place (f v) ≡ change_at place f vs
  change_at-set [] place v h = refl
  change_at-set (x ∷ vs) zero v h = ap (λ y. f y ∷ vs) (sym (same_Some x v h))
  change_at-set (x ∷ vs) (suc place) v h = ap (λ l. x ∷ l) (change_at-set vs place v h)

  -- nothing is changed behind the end
  pub change_at-none : (vs : List V) (place : ℕ) → slice_get vs place ≡ None → change_at place f vs ≡ vs
  change_at-none [] place h = refl
  change_at-none (x ∷ vs) zero h = absurd (none-some x (sym h))
  change_at-none (x ∷ vs) (suc place) h = ap (λ l. x ∷ l) (change_at-none vs place h)

  -- nor is anything beyond it
  pub change_at-beyond : (vs : List V) (place : ℕ) → length vs ≤ place → change_at place f vs ≡ vs
  change_at-beyond [] place h = refl
  change_at-beyond (x ∷ vs) zero h = absurd (omega arith)
  change_at-beyond (x ∷ vs) (suc place) h = ap (λ l. x ∷ l) (change_at-beyond vs place (omega (arith, h)))
