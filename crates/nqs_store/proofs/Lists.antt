-- Parts of lists, by a place.
use Rattle.std.proofs.Common.{◌≡◌, ℕ, zero, suc, ◌+◌, ◌<◌, List, [], ◌∷◌, ◌++◌, take, length, slice_get, get_or, Some, refl, ap, ◌∙◌, arith}
use Rattle.std.proofs.lemmas.Option.{same_Some, none-some}

-- one more of a list
pub take-at : {V : Type 0} (vs : List V) (i : ℕ) (v : V) → slice_get vs i ≡ Some v → take (i + 1) vs ≡ take i vs ++ v ∷ []
take-at [] i v at = absurd (none-some v at)
take-at (x ∷ vs) zero v at = ap (λ y. y ∷ []) (same_Some x v at)
take-at {V} (x ∷ vs) (suc i) v at =
    let next : suc i + 1 ≡ suc (i + 1) = omega arith in
    ap (λ n. take n (x ∷ vs)) next ∙ ap (λ l. x ∷ l) (take-at vs i v at)

-- what stands at a place
pub get_at : {V : Type 0} (vs : List V) (i : ℕ) (d : V) → i < length vs → slice_get vs i ≡ Some (get_or vs i d)
get_at [] i d lt = absurd (omega (arith, lt))
get_at (x ∷ vs) zero d lt = refl
get_at (x ∷ vs) (suc i) d lt = get_at vs i d (omega (arith, lt))
