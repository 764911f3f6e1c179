-- Finding, changing and counting in lists.
use Rattle.std.proofs.Common.{◌≡◌, ℕ, ◌+◌, ◌<◌, ◌≤◌, Bool, true, false, cond, not, nat_lt, List, [], ◌∷◌, map, filter, find, length, position, sum, None, Some}
use Rattle.std.proofs.Common.{slice_get, true≢false, zero, suc, refl, sym, ap, subst, ◌∙◌, arith, if◌then◌else◌}
use Rattle.std.proofs.lemmas.Bool.{and_parts, and_from, or_parts, false_from_ne_true, not_from_true}
use Rattle.std.proofs.lemmas.Bool.Decides.{nat_tests}
use Rattle.std.proofs.lemmas.Option.{same_Some, none-some}
use Rattle.std.specs.List.{list_any, list_all, position_or_len}
use Rattle.nqs_base.proofs.Plain.{sum_cons}
pub use Rattle.nqs_base.proofs.Plain.{found_passes}
use Rattle.nqs_base_tables.specs.Table.{has_key, change_first}
use Rattle.nqs_rules.specs.InOrder.{are_distinct}

pub not_true : (b : Bool) → not b ≡ true → b ≡ false
not_true b h = false_from_ne_true b (λ t. true≢false (sym h ∙ not_from_true b t))

module _ {V : Type 0} where
  -- what all pass, the one that is found passes
  pub list_all-found : (p test : V → Bool) (vs : List V) (v : V) → list_all p vs ≡ true → find test vs ≡ Some v → p v ≡ true
  list_all-found p test [] v all h = absurd (none-some v h)
  list_all-found p test (x ∷ vs) v all h = by (test x) (and_parts (p x) (list_all p vs) all) (list_all-found p test vs v) h
    where
      by : (b : Bool) → (p x ≡ true) × (list_all p vs ≡ true) → (list_all p vs ≡ true → find test vs ≡ Some v → p v ≡ true)
          → cond b (Some x) (find test vs) ≡ Some v → p v ≡ true
      by true all rest h = ap p (sym (same_Some x v h)) ∙ all.0
      by false all rest h = rest all.1 h

  pub list_all-weaker : (p q : V → Bool) → ((v : V) → p v ≡ true → q v ≡ true) → (vs : List V) → list_all p vs ≡ true → list_all q vs ≡ true
  list_all-weaker p q h [] all = refl
  list_all-weaker p q h (v ∷ vs) all = let parts : (p v ≡ true) × (list_all p vs ≡ true) = and_parts (p v) (list_all p vs) all in
      and_from (q v) (list_all q vs) (h v parts.0) (list_all-weaker p q h vs parts.1)

  pub list_all-changed : (p test : V → Bool) (g : V → V) (vs : List V) → list_all p vs ≡ true → ((v : V) → find test vs ≡ Some v → p (g v) ≡ true)
      → list_all p (change_first test g vs) ≡ true
  list_all-changed p test g [] all h = refl
  list_all-changed p test g (x ∷ vs) all h = by (test x) (and_parts (p x) (list_all p vs) all) (list_all-changed p test g vs) h
    where
      by : (b : Bool) → (p x ≡ true) × (list_all p vs ≡ true) → (list_all p vs ≡ true → ((v : V) → find test vs ≡ Some v → p (g v) ≡ true)
          → list_all p (change_first test g vs) ≡ true)
          → ((v : V) → cond b (Some x) (find test vs) ≡ Some v → p (g v) ≡ true) → list_all p (if b then g x ∷ vs else x ∷ change_first test g vs) ≡ true
      by true all rest h = and_from (p (g x)) (list_all p vs) (h x refl) all.1
      by false all rest h = and_from (p x) (list_all p (change_first test g vs)) all.0 (rest all.1 h)

  pub map-changed : {K : Type 0} (key : V → K) (test : V → Bool) (g : V → V) → ((v : V) → key (g v) ≡ key v) → (vs : List V)
      → map key (change_first test g vs) ≡ map key vs
  map-changed key test g same [] = refl
  map-changed key test g same (x ∷ vs) = by (test x) (map-changed key test g same vs)
    where
      by : (b : Bool) → map key (change_first test g vs) ≡ map key vs → map key (if b then g x ∷ vs else x ∷ change_first test g vs) ≡ map key (x ∷ vs)
      by true rest = ap (λ k. k ∷ map key vs) (same x)
      by false rest = ap (λ l. key x ∷ l) rest

  -- a sum, where one value is changed

  pub sum-changed : (test : V → Bool) (g : V → V) (w : V → ℕ) (vs : List V) (v : V) → find test vs ≡ Some v
      → sum (map w (change_first test g vs)) + w v ≡ sum (map w vs) + w (g v)
  sum-changed test g w [] v h = absurd (none-some v h)
  sum-changed test g w (x ∷ vs) v h = by (test x) (sum-changed test g w vs v) h
    where
      by : (b : Bool) → (find test vs ≡ Some v → sum (map w (change_first test g vs)) + w v ≡ sum (map w vs) + w (g v))
          → cond b (Some x) (find test vs) ≡ Some v
          → sum (map w (if b then g x ∷ vs else x ∷ change_first test g vs)) + w v ≡ sum (map w (x ∷ vs)) + w (g v)
      by true rest h =
          let e : x ≡ v = same_Some x v h in
          omega (arith, sum_cons w (g x) vs, sum_cons w x vs, ap w e, ap (λ y. w (g y)) e)
      by false rest h = omega (arith, sum_cons w x (change_first test g vs), sum_cons w x vs, rest h)

  -- a test that passes less counts less

  pub filter_fewer : (q p : V → Bool) (vs : List V) → ((i : ℕ) (v : V) → slice_get vs i ≡ Some v → q v ≡ true → p v ≡ true)
      → length (filter q vs) ≤ length (filter p vs)
  filter_fewer q p [] h = omega arith
  filter_fewer q p (x ∷ vs) h = by (q x) (p x) (h 0 x refl) (filter_fewer q p vs (λ i v. h (suc i) v))
    where
      by : (b c : Bool) → (b ≡ true → c ≡ true) → length (filter q vs) ≤ length (filter p vs)
          → length (cond b (x ∷ filter q vs) (filter q vs)) ≤ length (cond c (x ∷ filter p vs) (filter p vs))
      by true true imp rest = omega arith
      by true false imp rest = absurd (true≢false (sym (imp refl)))
      by false true imp rest = omega arith
      by false false imp rest = rest

  pub filter_less : (q p : V → Bool) (vs : List V) (n : ℕ) (u : V) → ((i : ℕ) (v : V) → slice_get vs i ≡ Some v → q v ≡ true → p v ≡ true)
      → slice_get vs n ≡ Some u → p u ≡ true → q u ≡ false
      → length (filter q vs) < length (filter p vs)
  filter_less q p [] n u h at passes fails = absurd (none-some u at)
  filter_less q p (x ∷ vs) zero u h at passes fails =
      let e : x ≡ u = same_Some x u at in
      by (q x) (p x) (ap q e ∙ fails) (ap p e ∙ passes) (filter_fewer q p vs (λ i v. h (suc i) v))
    where
      by : (b c : Bool) → b ≡ false → c ≡ true → length (filter q vs) ≤ length (filter p vs)
          → length (cond b (x ∷ filter q vs) (filter q vs)) < length (cond c (x ∷ filter p vs) (filter p vs))
      by false true f t rest = omega arith
      by true c f t rest = absurd (true≢false f)
      by false false f t rest = absurd (true≢false (sym t))
  filter_less q p (x ∷ vs) (suc n) u h at passes fails = by (q x) (p x) (h 0 x refl) (filter_less q p vs n u (λ i v. h (suc i) v) at passes fails)
    where
      by : (b c : Bool) → (b ≡ true → c ≡ true) → length (filter q vs) < length (filter p vs)
          → length (cond b (x ∷ filter q vs) (filter q vs)) < length (cond c (x ∷ filter p vs) (filter p vs))
      by true true imp rest = omega arith
      by true false imp rest = absurd (true≢false (sym (imp refl)))
      by false true imp rest = omega arith
      by false false imp rest = rest

  -- a place that is found

  pub record IsAt (p : V → Bool) (vs : List V) (n : ℕ) : Type 0 where
    pub value : V
    pub at : slice_get vs n ≡ Some value
    pub passes : p value ≡ true

  below_length : (p : V → Bool) (vs : List V) → position_or_len p vs < length vs → IsAt p vs (position_or_len p vs)
  below_length p [] h = absurd (omega arith)
  below_length p (x ∷ vs) h = by (p x) refl (below_length p vs) h
    where
      behind : (n m : ℕ) → suc n ≡ m → IsAt p vs n → IsAt p (x ∷ vs) m
      behind n m e a = subst (IsAt p (x ∷ vs)) e (record { value = a.value; at = a.at; passes = a.passes })

      by : (b : Bool) → p x ≡ b → (position_or_len p vs < length vs → IsAt p vs (position_or_len p vs))
          → cond (not b) (1 + position_or_len p vs) 0 < length (x ∷ vs) → IsAt p (x ∷ vs) (cond (not b) (1 + position_or_len p vs) 0)
      by true e rest h = record { value = x; at = refl; passes = e }
      by false e rest h = behind (position_or_len p vs) (1 + position_or_len p vs) (omega arith) (rest (omega arith))

  pub position_at : (p : V → Bool) (vs : List V) (n : ℕ) → position p vs ≡ Some n → IsAt p vs n
  position_at p vs n h = by (nat_lt (position_or_len p vs) (length vs)) refl h
    where
      by : (b : Bool) → nat_lt (position_or_len p vs) (length vs) ≡ b → cond b (Some (position_or_len p vs)) None ≡ Some n → IsAt p vs n
      by true e h = subst (IsAt p vs) (same_Some (position_or_len p vs) n h) (below_length p vs (grind (arith, nat_tests)))
      by false e h = absurd (none-some n h)

-- no value has a key that is like none of the keys
pub other_key : {K V : Type 0} (eq : K → K → Bool) (key : V → K) (k : K) (vs : List V) (i : ℕ) (v : V) → list_any (eq k) (map key vs) ≡ false
    → slice_get vs i ≡ Some v → eq k (key v) ≡ false
other_key eq key k [] i v none at = absurd (none-some v at)
other_key eq key k (x ∷ vs) zero v none at =
    ap (λ y. eq k (key y)) (sym (same_Some x v at)) ∙ (or_parts (eq k (key x)) (list_any (eq k) (map key vs)) none).0
other_key eq key k (x ∷ vs) (suc i) v none at = other_key eq key k vs i v (or_parts (eq k (key x)) (list_any (eq k) (map key vs)) none).1 at

-- what stands at a place is found by its key, where no two keys are alike
module _ {K V : Type 0} (eq : K → K → Bool) (key : V → K) (exact : (a b : K) → eq a b ≡ true → a ≡ b) (same : (a : K) → eq a a ≡ true) where
  pub found_again : (vs : List V) (i : ℕ) (v : V) → are_distinct eq (map key vs) ≡ true → slice_get vs i ≡ Some v → find (has_key eq key (key v)) vs ≡ Some v
  found_again [] i v distinct at = absurd (none-some v at)
  found_again (x ∷ vs) zero v distinct at =
      let e : x ≡ v = same_Some x v at in
      ap (λ b. cond b (Some x) (find (has_key eq key (key v)) vs)) (ap (λ y. eq (key v) (key y)) e ∙ same (key v)) ∙ ap Some e
  found_again (x ∷ vs) (suc i) v distinct at = by (eq (key v) (key x)) refl
      (and_parts (not (list_any (eq (key x)) (map key vs))) (are_distinct eq (map key vs)) distinct) (λ d. found_again vs i v d at)
    where
      by : (b : Bool) → eq (key v) (key x) ≡ b → (not (list_any (eq (key x)) (map key vs)) ≡ true) × (are_distinct eq (map key vs) ≡ true)
          → (are_distinct eq (map key vs) ≡ true → find (has_key eq key (key v)) vs ≡ Some v) → cond b (Some x) (find (has_key eq key (key v)) vs) ≡ Some v
      by true e d rest =
          let alike : key v ≡ key x = exact (key v) (key x) e in
          let other = other_key eq key (key x) vs i v (not_true (list_any (eq (key x)) (map key vs)) d.0) at in
          absurd (true≢false (sym (same (key x)) ∙ ap (eq (key x)) (sym alike) ∙ other))
      by false e d rest = rest d.1
