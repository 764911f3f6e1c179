-- Lists: what stands at a place, and what a write there leaves.
use Rattle.std.proofs.Common.{◌≡◌, ℕ, ◌+◌, ◌<◌, Bool, true, false, ◌||◌, not, List, [], ◌∷◌, ◌++◌, length}
use Rattle.std.proofs.Common.{map, find, position, slice_get, slice_set, None, Some}
use Rattle.std.proofs.Common.{zero, suc, refl, sym, ap, subst, ◌∙◌, arith, if◌then◌else◌, true≢false}
use Rattle.std.specs.Prelude.{cond}
use Rattle.std.specs.List.{list_any, position_or_len}
use Rattle.std.proofs.lemmas.Bool.{lt-ltb}
use Rattle.std.proofs.lemmas.Option.{same_Some, none-some}
use Rattle.nqs_base_tables.specs.Table.{change_first}
use Rattle.nqs_base_tables.proofs.KeyLemmas.{none_found}

module _ {V : Type 0} (test : V → Bool) where
  -- where one passes, the first such has a place
  within_any : (vs : List V) → list_any test vs ≡ true → position_or_len test vs < length vs
  within_any [] h = absurd (true≢false (sym h))
  within_any (x ∷ vs) h = by (test x) h (within_any vs)
    where
      by : (b : Bool) → (b || list_any test vs) ≡ true → (list_any test vs ≡ true → position_or_len test vs < length vs)
          → cond (not b) (1 + position_or_len test vs) 0 < length (x ∷ vs)
      by true h rest = omega arith
      by false h rest = let less = rest h in omega (arith, less)

  pub has_place : (vs : List V) → list_any test vs ≡ true → position test vs ≡ None → ⊥
  has_place vs any none = none-some (position_or_len test vs)
      (sym none ∙ ap (λ b. cond b (Some (position_or_len test vs)) None) (lt-ltb (position_or_len test vs) (length vs) (within_any vs any)))

  -- where there is no place none is found
  pub none_placed : (vs : List V) → position test vs ≡ None → find test vs ≡ None
  none_placed vs none = none_found test vs (by (list_any test vs) refl)
    where
      by : (b : Bool) → list_any test vs ≡ b → list_any test vs ≡ false
      by true any = absurd (has_place vs any none)
      by false is = is

  -- one passes behind others
  pub any_behind : (vs : List V) (v : V) → test v ≡ true → list_any test (vs ++ v ∷ []) ≡ true
  any_behind [] v passes = (λ j. passes j || false)
  any_behind (x ∷ vs) v passes = by (test x) (any_behind vs v passes)
    where
      by : (b : Bool) → list_any test (vs ++ v ∷ []) ≡ true → (b || list_any test (vs ++ v ∷ [])) ≡ true
      by true rest = refl
      by false rest = rest

module _ {V : Type 0} where
  -- a write behind another one
  pub set_twice : (vs : List V) (i : ℕ) (a b : V) → slice_set (slice_set vs i a) i b ≡ slice_set vs i b
  set_twice [] i a b = refl
  set_twice (x ∷ vs) zero a b = refl
  set_twice (x ∷ vs) (suc i) a b = ap (λ l. x ∷ l) (set_twice vs i a b)

  -- a write of what is there
  pub set_same : (vs : List V) (i : ℕ) (v : V) → slice_get vs i ≡ Some v → slice_set vs i v ≡ vs
  set_same [] i v at = refl
  set_same (x ∷ vs) zero v at = ap (λ y. y ∷ vs) (sym (same_Some x v at))
  set_same (x ∷ vs) (suc i) v at = ap (λ k. x ∷ k) (set_same vs i v at)

  -- what stands at the first place that passes is found
  pub found_at : (test : V → Bool) (vs : List V) (v : V) → slice_get vs (position_or_len test vs) ≡ Some v → find test vs ≡ Some v
  found_at test [] v at = absurd (none-some v at)
  found_at test (x ∷ vs) v at = by (found_at test vs v) (test x) at
    where
      by : (slice_get vs (position_or_len test vs) ≡ Some v → find test vs ≡ Some v) → (b : Bool)
          → slice_get (x ∷ vs) (cond (not b) (1 + position_or_len test vs) 0) ≡ Some v → cond b (Some x) (find test vs) ≡ Some v
      by rest true at = at
      by rest false at =
          let e : suc (position_or_len test vs) ≡ 1 + position_or_len test vs = omega arith in
          rest (subst (λ m. slice_get (x ∷ vs) m ≡ Some v) (sym e) at)

  -- a value in place of the one that is found, as a change of that one
  pub change_same : (test : V → Bool) (g : V → V) (w v : V) (vs : List V) → find test vs ≡ Some v → w ≡ g v
      → change_first test (λ _. w) vs ≡ change_first test g vs
  change_same test g w v [] h is = refl
  change_same test g w v (x ∷ vs) h is = by (test x) h (change_same test g w v vs)
    where
      by : (b : Bool) → cond b (Some x) (find test vs) ≡ Some v → (find test vs ≡ Some v → w ≡ g v → change_first test (λ _. w) vs ≡ change_first test g vs)
          → (if b then w ∷ vs else x ∷ change_first test (λ _. w) vs) ≡ (if b then g x ∷ vs else x ∷ change_first test g vs)
      by true h rest = ap (λ y. y ∷ vs) (is ∙ ap g (sym (same_Some x v h)))
      by false h rest = ap (λ k. x ∷ k) (rest h is)

module _ {A V : Type 0} (f : V → A) where
  -- a value that takes another's place under its key leaves the key
  pub key_kept : (vs : List V) (i : ℕ) (v w x : V) → slice_get vs i ≡ Some v → slice_get vs i ≡ Some w → f x ≡ f v
      → slice_get (map f (slice_set vs i x)) i ≡ Some (f w)
  key_kept [] i v w x at there same = absurd (none-some v at)
  key_kept (y ∷ vs) zero v w x at there same = ap Some (same ∙ ap f (sym (same_Some y v at) ∙ same_Some y w there))
  key_kept (y ∷ vs) (suc i) v w x at there same = key_kept vs i v w x at there same

  -- the image of what stands at a place stands there among the images
  pub image_get : (vs : List V) (i : ℕ) (v : V) → slice_get vs i ≡ Some v → slice_get (map f vs) i ≡ Some (f v)
  image_get [] i v at = absurd (none-some v at)
  image_get (x ∷ vs) zero v at = ap (λ y. Some (f y)) (same_Some x v at)
  image_get (x ∷ vs) (suc i) v at = image_get vs i v at
