-- Values at their places, and under keys that no two of them share.
use Rattle.std.proofs.Common.{◌≡◌, ℕ, ◌+◌, suc, zero, Bool, true, false, not, ◌&&◌, ◌||◌, nat_lt, List, [], ◌∷◌, ◌++◌, length, map, position, None, Some}
use Rattle.std.proofs.Common.{slice_get, refl, sym, ap, ◌∙◌, arith, true≢false}
use Rattle.std.specs.Prelude.{cond}
use Rattle.std.specs.List.{list_any, position_or_len}
use Rattle.std.proofs.lemmas.Bool.{and_parts, or_parts, not-true}
use Rattle.std.proofs.lemmas.Bool.Decides.{nat_tests}
use Rattle.std.proofs.lemmas.List.Folds.{list_any-append}
use Rattle.std.proofs.lemmas.Option.{same_Some, none-some}
use Rattle.nqs_base_tables.specs.Table.{has_key}
use Rattle.nqs_rules.specs.InOrder.{are_distinct}
use Rattle.nqs_rules.proofs.KeyFacts.{place_below}
use Rattle.nqs_rules.proofs.ListFacts.{other_key}

module _ {A : Type 0} where
  -- tests that answer alike at each place answer alike of the list
  pub any_at : (p q : A → Bool) (xs : List A) → ((n : ℕ) (x : A) → slice_get xs n ≡ Some x → p x ≡ q x) → list_any p xs ≡ list_any q xs
  any_at p q [] same = refl
  any_at p q (x ∷ xs) same = (λ j. same 0 x refl j || any_at p q xs (λ n y at. same (suc n) y at) j)

  pub none_at : (p : A → Bool) (xs : List A) (n : ℕ) (x : A) → list_any p xs ≡ false → slice_get xs n ≡ Some x → p x ≡ false
  none_at p [] n x none at = absurd (none-some x at)
  none_at p (y ∷ ys) zero x none at = ap p (sym (same_Some y x at)) ∙ (or_parts (p y) (list_any p ys) none).0
  none_at p (y ∷ ys) (suc n) x none at = none_at p ys n x (or_parts (p y) (list_any p ys) none).1 at

  -- one that passes
  pub any_of : (p : A → Bool) (xs : List A) (n : ℕ) (x : A) → slice_get xs n ≡ Some x → p x ≡ true → list_any p xs ≡ true
  any_of p xs n x at is = of (list_any p xs) refl
    where
      of : (b : Bool) → list_any p xs ≡ b → b ≡ true
      of true e = refl
      of false e = absurd (true≢false (sym is ∙ none_at p xs n x e at))

  pub distinct_front : (eq : A → A → Bool) (xs ys : List A) → are_distinct eq (xs ++ ys) ≡ true → are_distinct eq xs ≡ true
  distinct_front eq [] ys h = refl
  distinct_front eq (x ∷ xs) ys h =
      let p = and_parts (not (list_any (eq x) (xs ++ ys))) (are_distinct eq (xs ++ ys)) h in
      let none = (or_parts (list_any (eq x) xs) (list_any (eq x) ys) (sym (list_any-append (eq x) xs ys) ∙ not-true _ p.0)).0 in
      (λ j. not (none j) && distinct_front eq xs ys p.1 j)

-- a value whose key no other has stands first under its key
module _ {K V : Type 0} (eq : K → K → Bool) (key : V → K) (exact : (a b : K) → eq a b ≡ true → a ≡ b) (same : (a : K) → eq a a ≡ true) where
  pub place_again : (vs : List V) (i : ℕ) (v : V) → are_distinct eq (map key vs) ≡ true → slice_get vs i ≡ Some v
      → position_or_len (has_key eq key (key v)) vs ≡ i
  place_again [] i v distinct at = absurd (none-some v at)
  place_again (x ∷ vs) zero v distinct at =
      ap (λ b. cond (not b) (1 + position_or_len (has_key eq key (key v)) vs) 0) (ap (λ y. eq (key v) (key y)) (same_Some x v at) ∙ same (key v))
  place_again (x ∷ vs) (suc i) v distinct at = by (eq (key v) (key x)) refl
      (and_parts (not (list_any (eq (key x)) (map key vs))) (are_distinct eq (map key vs)) distinct) (λ d. place_again vs i v d at)
    where
      by : (b : Bool) → eq (key v) (key x) ≡ b → (not (list_any (eq (key x)) (map key vs)) ≡ true) × (are_distinct eq (map key vs) ≡ true)
          → (are_distinct eq (map key vs) ≡ true → position_or_len (has_key eq key (key v)) vs ≡ i)
          → cond (not b) (1 + position_or_len (has_key eq key (key v)) vs) 0 ≡ suc i
      by true e d rest =
          let alike : key v ≡ key x = exact (key v) (key x) e in
          absurd (true≢false (sym (same (key x)) ∙ ap (eq (key x)) (sym alike) ∙ other_key eq key (key x) vs i v (not-true _ d.0) at))
      by false e d rest = let k = rest d.1 in omega (arith, k)

  pub position_again : (vs : List V) (i : ℕ) (v : V) → are_distinct eq (map key vs) ≡ true → slice_get vs i ≡ Some v
      → position (has_key eq key (key v)) vs ≡ Some i
  position_again vs i v distinct at =
      let below : nat_lt i (length vs) ≡ true = (let k = place_below vs i v at in grind (arith, nat_tests)) in
      (λ j. cond (nat_lt (place_again vs i v distinct at j) (length vs)) (Some (place_again vs i v distinct at j)) None)
      ∙ ap (λ b. cond b (Some i) None) below
