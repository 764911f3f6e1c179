-- How many of a list pass a test.
use Rattle.std.proofs.Common.{◌≡◌, ◌+◌, ◌≤◌, Bool, true, false, ◌||◌, nat_lt, List, [], ◌∷◌, ◌++◌, length, filter, map, suc, find, Some}
use Rattle.std.proofs.Common.{refl, sym, ap, ◌∙◌, arith, if◌then◌else◌}
use Rattle.std.specs.Prelude.{cond}
use Rattle.std.proofs.lemmas.Bool.{and_parts}
use Rattle.std.proofs.lemmas.Option.{same_Some, none-some}
use Rattle.std.proofs.lemmas.Bool.Decides.{nat_tests}
use Rattle.std.specs.List.{list_any, list_all}
use Rattle.nqs_base_tables.specs.Table.{change_first, without_first}
use Rattle.nqs_index.specs.Numbers.{number, IsMore}
use Rattle.nqs_index.specs.Tallies.{one}

counted : {A : Type 0} (b : Bool) (x : A) (xs : List A) → length (cond b (x ∷ xs) xs) ≡ length xs + one b
counted true x xs = omega arith
counted false x xs = omega arith

-- what is counted of a list that was made of another
pub number-map : {A B : Type 0} (f : A → B) (p : B → Bool) (xs : List A) → number p (map f xs) ≡ number (λ x. p (f x)) xs
number-map f p [] = refl
number-map f p (x ∷ xs) = by (p (f x)) (number-map f p xs)
  where
    by : (b : Bool) → number p (map f xs) ≡ number (λ x. p (f x)) xs
        → length (cond b (f x ∷ filter p (map f xs)) (filter p (map f xs))) ≡ length (cond b (x ∷ filter (λ x. p (f x)) xs) (filter (λ x. p (f x)) xs))
    by true rest = ap suc rest
    by false rest = rest

module _ {A : Type 0} where
  -- one more in front
  pub number-cons : (p : A → Bool) (x : A) (xs : List A) → number p (x ∷ xs) ≡ number p xs + one (p x)
  number-cons p x xs = counted (p x) x (filter p xs)

  pub any_number : (p : A → Bool) (xs : List A) → list_any p xs ≡ nat_lt 0 (number p xs)
  any_number p [] = refl
  any_number p (x ∷ xs) = by (p x) (any_number p xs)
    where
      by : (b : Bool) → list_any p xs ≡ nat_lt 0 (number p xs) → (b || list_any p xs) ≡ nat_lt 0 (length (cond b (x ∷ filter p xs) (filter p xs)))
      by true rest = grind (arith, nat_tests)
      by false rest = rest

  -- at most all
  pub number_within : (p : A → Bool) (xs : List A) → number p xs ≤ length xs
  number_within p [] = omega arith
  number_within p (x ∷ xs) = by (p x) (number_within p xs)
    where
      by : (b : Bool) → number p xs ≤ length xs → length (cond b (x ∷ filter p xs) (filter p xs)) ≤ length (x ∷ xs)
      by true rest = omega arith
      by false rest = omega arith

  -- what is counted in two parts
  pub number_split : (a b c : A → Bool) → ((x : A) → one (c x) ≡ one (a x) + one (b x)) → (xs : List A) → number c xs ≡ number a xs + number b xs
  number_split a b c parts [] = refl
  number_split a b c parts (x ∷ xs) =
      let rest = number_split a b c parts xs in
      let here = parts x in
      let i : number c (x ∷ xs) ≡ number c xs + one (c x) = number-cons c x xs in
      let j : number a (x ∷ xs) ≡ number a xs + one (a x) = number-cons a x xs in
      let k : number b (x ∷ xs) ≡ number b xs + one (b x) = number-cons b x xs in
      omega (arith, rest, here, i, j, k)

  -- tests that answer alike where another holds count alike where it holds of all
  pub number_where : (h p q : A → Bool) → ((x : A) → h x ≡ true → p x ≡ q x) → (xs : List A) → list_all h xs ≡ true → number p xs ≡ number q xs
  number_where h p q same [] all = refl
  number_where h p q same (x ∷ xs) all =
      let parts = and_parts (h x) (list_all h xs) all in
      number-cons p x xs ∙ (λ j. number_where h p q same xs parts.1 j + one (same x parts.0 j)) ∙ sym (number-cons q x xs)

  pub number_none : (p : A → Bool) → ((x : A) → p x ≡ false) → (xs : List A) → number p xs ≡ 0
  number_none p none [] = refl
  number_none p none (x ∷ xs) = (λ j. length (cond (none x j) (x ∷ filter p xs) (filter p xs))) ∙ number_none p none xs

  -- a test that passes nothing that another doesn't pass
  pub number_under : (p q : A → Bool) → ((x : A) → p x ≡ false → q x ≡ false) → (xs : List A) → number p xs ≡ 0 → number q xs ≡ 0
  number_under p q under [] none = refl
  number_under p q under (x ∷ xs) none = by (p x) refl (number-cons p x xs) (number_under p q under xs)
    where
      by : (b : Bool) → p x ≡ b → number p (x ∷ xs) ≡ number p xs + one b → (number p xs ≡ 0 → number q xs ≡ 0) → number q (x ∷ xs) ≡ 0
      by true e all rest = absurd (let no : ⊥ = omega (arith, none, all) in no)
      by false e all rest = number-cons q x xs ∙ (λ j. rest (omega (arith, none, all)) j + one (under x e j))

  pub more_behind : (x : A) (xs : List A) → IsMore x xs (xs ++ x ∷ [])
  more_behind x [] p = number-cons p x []
  more_behind x (y ∷ ys) p =
      let rest = more_behind x ys p in
      let i : number p (y ∷ ys ++ x ∷ []) ≡ number p (ys ++ x ∷ []) + one (p y) = number-cons p y (ys ++ x ∷ []) in
      let j : number p (y ∷ ys) ≡ number p ys + one (p y) = number-cons p y ys in
      omega (arith, rest, i, j)

  -- without the first that is found
  pub more_found : (t : A → Bool) (xs : List A) (x : A) → find t xs ≡ Some x → IsMore x (without_first t xs) xs
  more_found t [] x h p = absurd (none-some x h)
  more_found t (y ∷ ys) x h p = by (t y) (more_found t ys x) h
    where
      by : (b : Bool) → (find t ys ≡ Some x → IsMore x (without_first t ys) ys) → cond b (Some y) (find t ys) ≡ Some x
          → number p (y ∷ ys) ≡ number p (if b then ys else y ∷ without_first t ys) + one (p x)
      by true rest h = number-cons p y ys ∙ ap (λ z. number p ys + one (p z)) (same_Some y x h)
      by false rest h =
          let e = rest h p in
          let i : number p (y ∷ ys) ≡ number p ys + one (p y) = number-cons p y ys in
          let j : number p (y ∷ without_first t ys) ≡ number p (without_first t ys) + one (p y) = number-cons p y (without_first t ys) in
          omega (arith, e, i, j)

  -- the one that was changed, beside those that were not
  pub more_changed : (t : A → Bool) (f : A → A) (xs : List A) (x : A) → find t xs ≡ Some x → IsMore (f x) (without_first t xs) (change_first t f xs)
  more_changed t f [] x h p = absurd (none-some x h)
  more_changed t f (y ∷ ys) x h p = by (t y) (more_changed t f ys x) h
    where
      by : (b : Bool) → (find t ys ≡ Some x → IsMore (f x) (without_first t ys) (change_first t f ys)) → cond b (Some y) (find t ys) ≡ Some x
          → number p (if b then f y ∷ ys else y ∷ change_first t f ys) ≡ number p (if b then ys else y ∷ without_first t ys) + one (p (f x))
      by true rest h = number-cons p (f y) ys ∙ ap (λ z. number p ys + one (p (f z))) (same_Some y x h)
      by false rest h =
          let e = rest h p in
          let i : number p (y ∷ change_first t f ys) ≡ number p (change_first t f ys) + one (p y) = number-cons p y (change_first t f ys) in
          let j : number p (y ∷ without_first t ys) ≡ number p (without_first t ys) + one (p y) = number-cons p y (without_first t ys) in
          omega (arith, e, i, j)
