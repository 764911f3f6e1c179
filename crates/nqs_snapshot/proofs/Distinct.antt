-- Keys that come one after the other, and whether one comes twice.
use Rattle.std.proofs.Common.{◌≡◌, Bool, true, false, not, ◌&&◌, ◌||◌, List, [], ◌∷◌, ◌++◌, map, refl, sym, ap, ◌∙◌}
use Rattle.std.proofs.lemmas.List.{map-append}
use Rattle.std.specs.List.{list_any}
use Rattle.std.proofs.lemmas.Bool.{or_right, and_right}
use Rattle.nqs_base_tables.specs.Table.{has_key}
use Rattle.nqs_rules.specs.InOrder.{are_distinct}
use Rattle.nqs_rules.proofs.KeyFacts.{distinct-added}

any_there : {K : Type 0} (t : K → Bool) (xs : List K) (k : K) (rest : List K) → t k ≡ true → list_any t (xs ++ k ∷ rest) ≡ true
any_there t [] k rest is = ap (λ b. b || list_any t rest) is
any_there t (x ∷ xs) k rest is = or_right (t x) (list_any t (xs ++ k ∷ rest)) (any_there t xs k rest is)

module _ {K V : Type 0} (eq : K → K → Bool) (key : V → K) (exact : (a b : K) → eq a b ≡ true → a ≡ b) (same : (a : K) → eq a a ≡ true) where
  -- a value is found by its key exactly where the key is among the keys
  pub any_keys : (k : K) (vs : List V) → list_any (has_key eq key k) vs ≡ list_any (eq k) (map key vs)
  any_keys k [] = refl
  any_keys k (v ∷ vs) = ap (λ b. eq k (key v) || b) (any_keys k vs)

  twice : (xs : List K) (k : K) (rest : List K) → list_any (eq k) xs ≡ true → are_distinct eq (xs ++ k ∷ rest) ≡ false
  twice [] k rest any = absurd (let no : ⊥ = cc in no)
  twice (x ∷ xs) k rest any = by (twice xs k rest) (eq k x) refl any
    where
      by : (list_any (eq k) xs ≡ true → are_distinct eq (xs ++ k ∷ rest) ≡ false) → (b : Bool) → eq k x ≡ b → (b || list_any (eq k) xs) ≡ true
          → are_distinct eq (x ∷ (xs ++ k ∷ rest)) ≡ false
      by later true is h =
          let one : x ≡ k = sym (exact k x is) in
          ap (λ b. not b && are_distinct eq (xs ++ k ∷ rest)) (any_there (eq x) xs k rest (ap (eq x) (sym one) ∙ same x))
      by later false is h = and_right (not (list_any (eq x) (xs ++ k ∷ rest))) (are_distinct eq (xs ++ k ∷ rest)) (later h)

  -- a key that was there comes twice
  pub comes_twice : (front : List V) (v : V) (rest : List V) → list_any (has_key eq key (key v)) front ≡ true
      → are_distinct eq (map key (front ++ v ∷ rest)) ≡ false
  comes_twice front v rest any =
      ap (are_distinct eq) (map-append key front (v ∷ rest)) ∙ twice (map key front) (key v) (map key rest) (sym (any_keys (key v) front) ∙ any)

  -- a key that wasn't there leaves them distinct
  pub comes_once : (front : List V) (v : V) → list_any (has_key eq key (key v)) front ≡ false → are_distinct eq (map key front) ≡ true
      → are_distinct eq (map key (front ++ v ∷ [])) ≡ true
  comes_once front v none all =
      ap (are_distinct eq) (map-append key front (v ∷ []))
      ∙ distinct-added eq exact same (map key front) (key v) (sym (any_keys (key v) front) ∙ none) all
