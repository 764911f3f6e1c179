-- Lists of values under keys: what a change, a loss or a gain of one value leaves of the others,
-- and of the keys.
use Rattle.std.proofs.Common.{◌≡◌, ℕ, ◌+◌, ◌≤◌, Bool, true, false, cond, not, ◌&&◌, ◌||◌, List, [], ◌∷◌, ◌++◌, map, filter, find, length, slice_get, ◌<◌}
use Rattle.std.proofs.Common.{Some, true≢false, zero, suc, refl, sym, ap, subst, ◌∙◌, arith, if◌then◌else◌}
use Rattle.std.proofs.lemmas.Bool.{and_parts, and_from, or_parts, or_from, or_left, not-true, not_from_false, false_from_ne_true}
use Rattle.std.proofs.lemmas.List.Folds.{list_any-append, list_all-append}
use Rattle.std.proofs.lemmas.List.{append-nil}
use Rattle.std.proofs.lemmas.Option.{same_Some, none-some}
use Rattle.std.specs.List.{list_any, list_all}
use Rattle.nqs_base_tables.specs.Table.{has_key, change_first, without_first}
pub use Rattle.nqs_base_tables.proofs.KeyLemmas.{none_found, found_changed, found_other}
use Rattle.nqs_rules.specs.InOrder.{are_distinct}
use Rattle.nqs_rules.specs.Tests.{passes}
use Rattle.nqs_rules.proofs.ListFacts.{map-changed}
use Rattle.nqs_rules.proofs.ListMaps.{list_any-map}

module _ {V : Type 0} where
  -- what none passes that passes another test
  pub none_from_all : (p t : V → Bool) → ((v : V) → p v ≡ true → t v ≡ false) → (vs : List V) → list_all p vs ≡ true → list_any t vs ≡ false
  none_from_all p t h [] all = refl
  none_from_all p t h (v ∷ vs) all = let q = and_parts (p v) (list_all p vs) all in or_from (t v) (list_any t vs) (h v q.0) (none_from_all p t h vs q.1)

  pub all_from_none : (p t : V → Bool) → ((v : V) → t v ≡ false → p v ≡ true) → (vs : List V) → list_any t vs ≡ false → list_all p vs ≡ true
  all_from_none p t h [] none = refl
  all_from_none p t h (v ∷ vs) none = let q = or_parts (t v) (list_any t vs) none in and_from (p v) (list_all p vs) (h v q.0) (all_from_none p t h vs q.1)

  pub any_found : (t : V → Bool) (vs : List V) (v : V) → find t vs ≡ Some v → list_any t vs ≡ true
  any_found t [] v h = absurd (none-some v h)
  any_found t (x ∷ vs) v h = by (t x) (any_found t vs v) h
    where
      by : (b : Bool) → (find t vs ≡ Some v → list_any t vs ≡ true) → cond b (Some x) (find t vs) ≡ Some v → (b || list_any t vs) ≡ true
      by true rest h = refl
      by false rest h = rest h

  pub found_any : (t : V → Bool) (vs : List V) → list_any t vs ≡ true → passes (λ _. true) (find t vs) ≡ true
  found_any t [] h = absurd (true≢false (sym h))
  found_any t (x ∷ vs) h = by (t x) (found_any t vs) h
    where
      by : (b : Bool) → (list_any t vs ≡ true → passes (λ _. true) (find t vs) ≡ true) → (b || list_any t vs) ≡ true
          → passes (λ _. true) (cond b (Some x) (find t vs)) ≡ true
      by true rest h = refl
      by false rest h = rest h

  -- what stands at a place
  pub all_get : (p : V → Bool) (vs : List V) (n : ℕ) (v : V) → list_all p vs ≡ true → slice_get vs n ≡ Some v → p v ≡ true
  all_get p [] n v all e = absurd (none-some v e)
  all_get p (x ∷ vs) zero v all e = ap p (sym (same_Some x v e)) ∙ (and_parts (p x) (list_all p vs) all).0
  all_get p (x ∷ vs) (suc n) v all e = all_get p vs n v (and_parts (p x) (list_all p vs) all).1 e

  pub place_below : (vs : List V) (n : ℕ) (v : V) → slice_get vs n ≡ Some v → n < length vs
  place_below [] n v e = absurd (none-some v e)
  place_below (x ∷ vs) zero v e = omega arith
  place_below (x ∷ vs) (suc n) v e = let k = place_below vs n v e in omega (arith, k)

  -- where one goes that was there
  pub length_without : (t : V → Bool) (vs : List V) → list_any t vs ≡ true → length vs ≡ length (without_first t vs) + 1
  length_without t [] h = absurd (true≢false (sym h))
  length_without t (x ∷ vs) h = by (t x) (length_without t vs) h
    where
      by : (b : Bool) → (list_any t vs ≡ true → length vs ≡ length (without_first t vs) + 1) → (b || list_any t vs) ≡ true
          → length (x ∷ vs) ≡ length (if b then vs else x ∷ without_first t vs) + 1
      by true rest h = omega arith
      by false rest h = let e = rest h in omega (arith, e)

  pub length_changed : (t : V → Bool) (g : V → V) (vs : List V) → length (change_first t g vs) ≡ length vs
  length_changed t g [] = refl
  length_changed t g (x ∷ vs) = by (t x) (length_changed t g vs)
    where
      by : (b : Bool) → length (change_first t g vs) ≡ length vs → length (if b then g x ∷ vs else x ∷ change_first t g vs) ≡ length (x ∷ vs)
      by true rest = refl
      by false rest = ap suc rest

  -- what is found stays found as more comes behind
  pub find-before : (t : V → Bool) (p : V → Bool) (vs zs : List V) → passes p (find t vs) ≡ true → passes p (find t (vs ++ zs)) ≡ true
  find-before t p [] zs h = absurd (true≢false (sym h))
  find-before t p (x ∷ vs) zs h = by (t x) (find-before t p vs zs) h
    where
      by : (b : Bool) → (passes p (find t vs) ≡ true → passes p (find t (vs ++ zs)) ≡ true) → passes p (cond b (Some x) (find t vs)) ≡ true
          → passes p (cond b (Some x) (find t (vs ++ zs))) ≡ true
      by true rest h = h
      by false rest h = rest h

  pub any-before : (t : V → Bool) (vs zs : List V) → list_any t vs ≡ true → list_any t (vs ++ zs) ≡ true
  any-before t vs zs h = list_any-append t vs zs ∙ or_left (list_any t vs) (list_any t zs) h

  pub all-added : (t : V → Bool) (vs : List V) (v : V) → list_all t vs ≡ true → t v ≡ true → list_all t (vs ++ v ∷ []) ≡ true
  all-added t vs v all h = list_all-append t vs (v ∷ []) ∙ and_from (list_all t vs) (t v && true) all (and_from (t v) true h refl)

-- what passes two tests passes what follows from both
pub all-both : {V : Type 0} (p q r : V → Bool) → ((v : V) → p v ≡ true → q v ≡ true → r v ≡ true) → (vs : List V) → list_all p vs ≡ true → list_all q vs ≡ true
    → list_all r vs ≡ true
all-both p q r f [] a b = refl
all-both p q r f (v ∷ vs) a b = let k = and_parts (p v) (list_all p vs) a in let l = and_parts (q v) (list_all q vs) b in
    and_from (r v) (list_all r vs) (f v k.0 l.0) (all-both p q r f vs k.1 l.1)

-- where none is counted, none passes
pub none_passes : {V : Type 0} (t : V → Bool) (vs : List V) → length (filter t vs) ≤ 0 → list_all (λ v. not (t v)) vs ≡ true
none_passes t [] h = refl
none_passes t (v ∷ vs) h = by (t v) h (none_passes t vs)
  where
    by : (b : Bool) → length (cond b (v ∷ filter t vs) (filter t vs)) ≤ 0 → (length (filter t vs) ≤ 0 → list_all (λ v. not (t v)) vs ≡ true)
        → (not b && list_all (λ v. not (t v)) vs) ≡ true
    by true h rest = absurd (omega arith)
    by false h rest = rest h

-- what is kept passes what follows from that
pub filter_all : {V : Type 0} (keep p q : V → Bool) → ((v : V) → keep v ≡ true → p v ≡ true → q v ≡ true) → (vs : List V) → list_all p vs ≡ true
    → list_all q (filter keep vs) ≡ true
filter_all keep p q f [] h = refl
filter_all keep p q f (v ∷ vs) h = let k = and_parts (p v) (list_all p vs) h in by (keep v) refl k.0 (filter_all keep p q f vs k.1)
  where
    by : (b : Bool) → keep v ≡ b → p v ≡ true → list_all q (filter keep vs) ≡ true → list_all q (cond b (v ∷ filter keep vs) (filter keep vs)) ≡ true
    by true e k rest = and_from (q v) (list_all q (filter keep vs)) (f v e k) rest
    by false e k rest = rest

-- keys that are distinct
module _ {K : Type 0} (eq : K → K → Bool) (exact : (a b : K) → eq a b ≡ true → a ≡ b) (same : (a : K) → eq a a ≡ true) where
  pub turned : (a b : K) → eq a b ≡ false → eq b a ≡ false
  turned a b h = false_from_ne_true (eq b a) (λ e. let is : b ≡ a = exact b a e in true≢false (sym (same a) ∙ ap (eq a) (sym is) ∙ h))

  pub distinct-between : (xs ys : List K) (k : K) → list_any (eq k) (xs ++ ys) ≡ false → are_distinct eq (xs ++ ys) ≡ true
      → are_distinct eq ((xs ++ k ∷ []) ++ ys) ≡ true
  distinct-between [] ys k new h = and_from (not (list_any (eq k) ys)) (are_distinct eq ys) (not_from_false _ new) h
  distinct-between (x ∷ xs) ys k new h =
      let p = or_parts (eq k x) (list_any (eq k) (xs ++ ys)) new in
      let q = and_parts (not (list_any (eq x) (xs ++ ys))) (are_distinct eq (xs ++ ys)) h in
      let r = or_parts (list_any (eq x) xs) (list_any (eq x) ys) (sym (list_any-append (eq x) xs ys) ∙ not-true _ q.0) in
      let none : list_any (eq x) ((xs ++ k ∷ []) ++ ys) ≡ false =
      list_any-append (eq x) (xs ++ k ∷ []) ys ∙ or_from (list_any (eq x) (xs ++ k ∷ [])) (list_any (eq x) ys)
      (list_any-append (eq x) xs (k ∷ []) ∙ or_from (list_any (eq x) xs) (eq x k || false) r.0 (or_from (eq x k) false (turned k x p.0) refl)) r.1 in
      and_from (not (list_any (eq x) ((xs ++ k ∷ []) ++ ys))) (are_distinct eq ((xs ++ k ∷ []) ++ ys)) (not_from_false _ none)
      (distinct-between xs ys k p.1 q.1)

  pub distinct-added : (xs : List K) (k : K) → list_any (eq k) xs ≡ false → are_distinct eq xs ≡ true → are_distinct eq (xs ++ k ∷ []) ≡ true
  distinct-added xs k new h =
      subst (λ l. are_distinct eq l ≡ true) (append-nil (xs ++ k ∷ []))
      (distinct-between xs [] k (ap (list_any (eq k)) (append-nil xs) ∙ new) (ap (are_distinct eq) (append-nil xs) ∙ h))

module _ {K V : Type 0} (eq : K → K → Bool) (key : V → K) (exact : (a b : K) → eq a b ≡ true → a ≡ b) (same : (a : K) → eq a a ≡ true) where
  -- the others are found as before
  pub find-without_other : (k id : K) (vs : List V) → eq k id ≡ false → find (has_key eq key k) (without_first (has_key eq key id) vs)
      ≡ find (has_key eq key k) vs
  find-without_other k id [] other = refl
  find-without_other k id (x ∷ vs) other = by (eq id (key x)) refl (find-without_other k id vs other)
    where
      by : (b : Bool) → eq id (key x) ≡ b → find (has_key eq key k) (without_first (has_key eq key id) vs) ≡ find (has_key eq key k) vs
          → find (has_key eq key k) (if b then vs else x ∷ without_first (has_key eq key id) vs) ≡ cond (eq k (key x)) (Some x) (find (has_key eq key k) vs)
      by true e rest = ap (λ b. cond b (Some x) (find (has_key eq key k) vs)) (sym (ap (eq k) (sym (exact id (key x) e)) ∙ other))
      by false e rest = ap (λ o. cond (eq k (key x)) (Some x) o) rest

  pub any-without_other : (k id : K) (vs : List V) → eq k id ≡ false → list_any (has_key eq key k) (without_first (has_key eq key id) vs)
      ≡ list_any (has_key eq key k) vs
  any-without_other k id [] other = refl
  any-without_other k id (x ∷ vs) other = by (eq id (key x)) refl (any-without_other k id vs other)
    where
      by : (b : Bool) → eq id (key x) ≡ b → list_any (has_key eq key k) (without_first (has_key eq key id) vs) ≡ list_any (has_key eq key k) vs
          → list_any (has_key eq key k) (if b then vs else x ∷ without_first (has_key eq key id) vs) ≡ (eq k (key x) || list_any (has_key eq key k) vs)
      by true e rest = ap (λ b. b || list_any (has_key eq key k) vs) (sym (ap (eq k) (sym (exact id (key x) e)) ∙ other))
      by false e rest = ap (λ o. eq k (key x) || o) rest

  pub any-changed : (test : V → Bool) (g : V → V) → ((v : V) → key (g v) ≡ key v) → (k : K) (vs : List V)
      → list_any (has_key eq key k) (change_first test g vs) ≡ list_any (has_key eq key k) vs
  any-changed test g keeps k vs = sym (list_any-map key (eq k) (change_first test g vs)) ∙ ap (list_any (eq k)) (map-changed key test g keeps vs)
      ∙ list_any-map key (eq k) vs

  -- where keys are distinct, the one that goes leaves none behind
  pub gone_without : (id : K) (vs : List V) → are_distinct eq (map key vs) ≡ true → list_any (has_key eq key id) (without_first (has_key eq key id) vs) ≡ false
  gone_without id [] h = refl
  gone_without id (x ∷ vs) h = by (eq id (key x)) refl (and_parts (not (list_any (eq (key x)) (map key vs))) (are_distinct eq (map key vs)) h)
      (gone_without id vs)
    where
      by : (b : Bool) → eq id (key x) ≡ b → (not (list_any (eq (key x)) (map key vs)) ≡ true) × (are_distinct eq (map key vs) ≡ true)
          → (are_distinct eq (map key vs) ≡ true → list_any (has_key eq key id) (without_first (has_key eq key id) vs) ≡ false)
          → list_any (has_key eq key id) (if b then vs else x ∷ without_first (has_key eq key id) vs) ≡ false
      by true e d rest = sym (list_any-map key (eq id) vs) ∙ ap (λ k. list_any (eq k) (map key vs)) (exact id (key x) e) ∙ not-true _ d.0
      by false e d rest = or_from (eq id (key x)) (list_any (has_key eq key id) (without_first (has_key eq key id) vs)) e (rest d.1)

-- one key becomes another, new one
module _ {K V : Type 0} (eq : K → K → Bool) (key : V → K) (exact : (a b : K) → eq a b ≡ true → a ≡ b) (same : (a : K) → eq a a ≡ true) (test : V → Bool)
    (g : V → V) (k : K) (becomes : (v : V) → key (g v) ≡ k) (zs : List K) where
  any-renamed : (t : K → Bool) (vs : List V) → t k ≡ false → list_any t (map key vs ++ zs) ≡ false → list_any t (map key (change_first test g vs) ++ zs) ≡ false
  any-renamed t [] fails h = h
  any-renamed t (x ∷ vs) fails h = by (test x) (or_parts (t (key x)) (list_any t (map key vs ++ zs)) h) (any-renamed t vs fails)
    where
      by : (b : Bool) → (t (key x) ≡ false) × (list_any t (map key vs ++ zs) ≡ false)
          → (list_any t (map key vs ++ zs) ≡ false → list_any t (map key (change_first test g vs) ++ zs) ≡ false)
          → list_any t (map key (if b then g x ∷ vs else x ∷ change_first test g vs) ++ zs) ≡ false
      by true p rest = or_from (t (key (g x))) (list_any t (map key vs ++ zs)) (ap t (becomes x) ∙ fails) p.1
      by false p rest = or_from (t (key x)) (list_any t (map key (change_first test g vs) ++ zs)) p.0 (rest p.1)

  pub distinct-renamed : (vs : List V) → list_any (eq k) (map key vs ++ zs) ≡ false → are_distinct eq (map key vs ++ zs) ≡ true
      → are_distinct eq (map key (change_first test g vs) ++ zs) ≡ true
  distinct-renamed [] new h = h
  distinct-renamed (x ∷ vs) new h =
      by (test x) (or_parts (eq k (key x)) (list_any (eq k) (map key vs ++ zs)) new)
      (and_parts (not (list_any (eq (key x)) (map key vs ++ zs))) (are_distinct eq (map key vs ++ zs)) h) (distinct-renamed vs)
    where
      by : (b : Bool) → (eq k (key x) ≡ false) × (list_any (eq k) (map key vs ++ zs) ≡ false)
          → (not (list_any (eq (key x)) (map key vs ++ zs)) ≡ true) × (are_distinct eq (map key vs ++ zs) ≡ true)
          → (list_any (eq k) (map key vs ++ zs) ≡ false → are_distinct eq (map key vs ++ zs) ≡ true
          → are_distinct eq (map key (change_first test g vs) ++ zs) ≡ true)
          → are_distinct eq (map key (if b then g x ∷ vs else x ∷ change_first test g vs) ++ zs) ≡ true
      by true p q rest = and_from (not (list_any (eq (key (g x))) (map key vs ++ zs))) (are_distinct eq (map key vs ++ zs))
          (not_from_false _ (ap (λ n. list_any (eq n) (map key vs ++ zs)) (becomes x) ∙ p.1)) q.1
      by false p q rest =
          and_from (not (list_any (eq (key x)) (map key (change_first test g vs) ++ zs))) (are_distinct eq (map key (change_first test g vs) ++ zs))
          (not_from_false _ (any-renamed (eq (key x)) vs (turned eq exact same k (key x) p.0) (not-true _ q.0))) (rest p.1 q.1)

-- a value that is found under a test has no key that none has
module _ {K V : Type 0} (key : V → K) (test : V → Bool) where
  pub found_key : (t : K → Bool) (vs : List V) (v : V) → find test vs ≡ Some v → list_any t (map key vs) ≡ false → t (key v) ≡ false
  found_key t [] v found none = absurd (none-some v found)
  found_key t (x ∷ vs) v found none = by (test x) (or_parts (t (key x)) (list_any t (map key vs)) none) (found_key t vs v) found
    where
      by : (b : Bool) → (t (key x) ≡ false) × (list_any t (map key vs) ≡ false) → (find test vs ≡ Some v → list_any t (map key vs) ≡ false → t (key v) ≡ false)
          → cond b (Some x) (find test vs) ≡ Some v → t (key v) ≡ false
      by true p rest found = ap (λ y. t (key y)) (sym (same_Some x v found)) ∙ p.0
      by false p rest found = rest found p.1

-- the key of one that goes is none of those that stay
module _ {K V : Type 0} (eq : K → K → Bool) (key : V → K) (exact : (a b : K) → eq a b ≡ true → a ≡ b) (same : (a : K) → eq a a ≡ true) (test : V → Bool) where
  pub key_gone : (vs : List V) (v : V) → find test vs ≡ Some v → are_distinct eq (map key vs) ≡ true
      → list_any (eq (key v)) (map key (without_first test vs)) ≡ false
  key_gone [] v found h = absurd (none-some v found)
  key_gone (x ∷ vs) v found h = by (test x) (and_parts (not (list_any (eq (key x)) (map key vs))) (are_distinct eq (map key vs)) h) (key_gone vs v) found
    where
      by : (b : Bool) → (not (list_any (eq (key x)) (map key vs)) ≡ true) × (are_distinct eq (map key vs) ≡ true)
          → (find test vs ≡ Some v → are_distinct eq (map key vs) ≡ true → list_any (eq (key v)) (map key (without_first test vs)) ≡ false)
          → cond b (Some x) (find test vs) ≡ Some v
          → list_any (eq (key v)) (map key (if b then vs else x ∷ without_first test vs)) ≡ false
      by true p rest found = ap (λ y. list_any (eq (key y)) (map key vs)) (sym (same_Some x v found)) ∙ not-true _ p.0
      by false p rest found = or_from (eq (key v) (key x)) (list_any (eq (key v)) (map key (without_first test vs)))
          (turned eq exact same (key x) (key v) (found_key key test (eq (key x)) vs v found (not-true _ p.0))) (rest found p.1)

  pub key_gone_behind : (zs : List K) (vs : List V) (v : V) → find test vs ≡ Some v → are_distinct eq (zs ++ map key vs) ≡ true
      → list_any (eq (key v)) (zs ++ map key (without_first test vs)) ≡ false
  key_gone_behind [] vs v found h = key_gone vs v found h
  key_gone_behind (z ∷ zs) vs v found h =
      let p = and_parts (not (list_any (eq z) (zs ++ map key vs))) (are_distinct eq (zs ++ map key vs)) h in
      let none = (or_parts (list_any (eq z) zs) (list_any (eq z) (map key vs)) (sym (list_any-append (eq z) zs (map key vs)) ∙ not-true _ p.0)).1 in
      or_from (eq (key v) z) (list_any (eq (key v)) (zs ++ map key (without_first test vs)))
      (turned eq exact same z (key v) (found_key key test (eq z) vs v found none)) (key_gone_behind zs vs v found p.1)
