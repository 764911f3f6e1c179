-- The conditions that fail, and the first of them.
use Rattle.std.proofs.Common.{◌≡◌, Bool, true, false, not, ◌&&◌, ◌||◌, List, [], ◌∷◌, ◌++◌, map, refl, sym, ap, ◌∙◌}
use Rattle.std.proofs.Common.{◌⊎◌, inl, inr, if◌then◌else◌, subst}
use Rattle.std.proofs.lemmas.List.{append_assoc}
use Rattle.std.specs.List.{list_all}
use Rattle.std.proofs.lemmas.Bool.{and_parts, or_right}
use Rattle.nqs_rules.proofs.ListFacts.{not_true, list_all-weaker}
use Rattle.nqs_rules.specs.Reasons.{Conditions, first_failing, failing, or_last}
use Rattle.nqs_reasons.specs.Chosen.{all_hold, IsFirstFailing}
use Rattle.nqs_reasons.specs.Says.{Has}

pub and_true : (b : Bool) → (b && true) ≡ b
and_true true = refl
and_true false = refl

module _ {A : Type 0} where
  -- what no failing condition tells isn't told
  pub not_told : (p : A → Bool) (cs : Conditions A) (last : A) → list_all (λ c. c.0 || not (p c.1)) cs ≡ true → p last ≡ false
      → p (first_failing cs last) ≡ false
  not_told p [] last none isnt = isnt
  not_told p (c ∷ cs) last none isnt = by c.0 (and_parts (c.0 || not (p c.1)) _ none).0 (not_told p cs last (and_parts (c.0 || not (p c.1)) _ none).1 isnt)
    where
      by : (b : Bool) → (b || not (p c.1)) ≡ true → p (first_failing cs last) ≡ false → p (if b then first_failing cs last else c.1) ≡ false
      by true here rest = rest
      by false here rest = not_true (p c.1) here

  -- what the last answer alone may be is told exactly where each condition holds
  pub told_last : (p : A → Bool) (cs : Conditions A) (last : A) → list_all (λ c. not (p c.1)) cs ≡ true → p last ≡ true
      → p (first_failing cs last) ≡ all_hold cs
  told_last p [] last none is = is
  told_last p (c ∷ cs) last none is = by c.0 (told_last p cs last (and_parts (not (p c.1)) _ none).1 is)
    where
      by : (b : Bool) → p (first_failing cs last) ≡ all_hold cs → p (if b then first_failing cs last else c.1) ≡ (b && all_hold cs)
      by true rest = rest
      by false rest = not_true (p c.1) (and_parts (not (p c.1)) _ none).0

  -- the same, where no condition tells it
  pub not_said : (p : A → Bool) (cs : Conditions A) (last : A) → list_all (λ c. not (p c.1)) cs ≡ true → p last ≡ false → p (first_failing cs last) ≡ false
  not_said p cs last none isnt =
      not_told p cs last (list_all-weaker (λ c. not (p c.1)) (λ c. c.0 || not (p c.1)) (λ c h. or_right c.0 (not (p c.1)) h) cs none) isnt

  pub all_passed : (cs : Conditions A) (last : A) → all_hold cs ≡ true → first_failing cs last ≡ last
  all_passed [] last h = refl
  all_passed (c ∷ cs) last h = ap (λ b. if b then first_failing cs last else c.1) (and_parts c.0 _ h).0 ∙ all_passed cs last (and_parts c.0 _ h).1

  pub failing_first : (cs : Conditions A) (last : A) → IsFirstFailing cs last (first_failing cs last)
  failing_first [] last = inr (refl, refl)
  failing_first (c ∷ cs) last = by c.0 refl (failing_first cs last)
    where
      by : (b : Bool) → c.0 ≡ b → IsFirstFailing cs last (first_failing cs last) → IsFirstFailing (c ∷ cs) last (if b then first_failing cs last else c.1)
      by false is later = inl ([], cs, ap (λ b. (b, c.1) ∷ cs) is, refl)
      by true is (inl (front, rest, e, holds)) = inl (c ∷ front, rest, ap (λ l. c ∷ l) e, ap (λ b. b && all_hold front) is ∙ holds)
      by true is (inr (holds, e)) = inr (ap (λ b. b && all_hold cs) is ∙ holds, e)

  pub failing_only : (cs : Conditions A) (last answer : A) → IsFirstFailing cs last answer → answer ≡ first_failing cs last
  failing_only cs last answer (inl (front, rest, e, holds)) = sym (ap (λ l. first_failing l last) e ∙ passed front holds)
    where
      passed : (front : Conditions A) → all_hold front ≡ true → first_failing (front ++ (false, answer) ∷ rest) last ≡ answer
      passed [] h = refl
      passed (c ∷ front) h =
          ap (λ b. if b then first_failing (front ++ (false, answer) ∷ rest) last else c.1) (and_parts c.0 _ h).0 ∙ passed front (and_parts c.0 _ h).1
  failing_only cs last answer (inr (holds, e)) = e ∙ sym (all_passed cs last holds)

-- what all the conditions that fail tell

module _ {A : Type 0} where
  -- a condition fails, and this is told of it
  abbrev pub Failed : Conditions A → A → Type 0
  Failed [] x = ⊥
  Failed (c ∷ cs) x = ((c.0 ≡ false) × (c.1 ≡ x)) ⊎ Failed cs x

  pub failing-append : (a b : Conditions A) → failing (a ++ b) ≡ failing a ++ failing b
  failing-append [] b = refl
  failing-append (c ∷ a) b = by c.0 (failing-append a b)
    where
      by : (t : Bool) → failing (a ++ b) ≡ failing a ++ failing b
          → (if t then failing (a ++ b) else c.1 ∷ failing (a ++ b)) ≡ (if t then failing a else c.1 ∷ failing a) ++ failing b
      by true rest = rest
      by false rest = ap (λ l. c.1 ∷ l) rest

  -- what one call added and then another
  pub added_then : (old mid new : List A) (a b : Conditions A) → mid ≡ old ++ failing a → new ≡ mid ++ failing b → new ≡ old ++ failing (a ++ b)
  added_then old mid new a b first then_more =
      then_more ∙ ap (λ l. l ++ failing b) first ∙ append_assoc old (failing a) (failing b) ∙ ap (λ l. old ++ l) (sym (failing-append a b))

  -- the same, where more is still to come
  pub added_before : (old mid all : List A) (c : Bool × A) (rest : Conditions A) → mid ≡ old ++ failing (c ∷ []) → old ++ failing (c ∷ rest) ≡ all
      → mid ++ failing rest ≡ all
  added_before old mid all c rest added whole = sym (sym whole ∙ sym (added_then old mid (mid ++ failing rest) (c ∷ []) rest added refl))

  pub failed_told : (cs : Conditions A) (x : A) → Has (failing cs) x → Failed cs x
  failed_told [] x h = h
  failed_told (c ∷ cs) x h = by c.0 refl (failed_told cs x) h
    where
      by : (b : Bool) → c.0 ≡ b → (Has (failing cs) x → Failed cs x) → Has (if b then failing cs else c.1 ∷ failing cs) x → Failed (c ∷ cs) x
      by true is rest h = inr (rest h)
      by false is rest (inl e) = inl (is, e)
      by false is rest (inr h) = inr (rest h)

  pub told_failed : (cs : Conditions A) (x : A) → Failed cs x → Has (failing cs) x
  told_failed [] x h = h
  told_failed (c ∷ cs) x (inl (fails, e)) = subst (λ b. Has (if b then failing cs else c.1 ∷ failing cs) x) (sym fails) (inl e)
  told_failed (c ∷ cs) x (inr h) = by c.0 (told_failed cs x h)
    where
      by : (b : Bool) → Has (failing cs) x → Has (if b then failing cs else c.1 ∷ failing cs) x
      by true h = h
      by false h = inr h

  pub failed_parts : (a b : Conditions A) (x : A) → Failed (a ++ b) x → Failed a x ⊎ Failed b x
  failed_parts [] b x h = inr h
  failed_parts (c ∷ a) b x (inl h) = inl (inl h)
  failed_parts (c ∷ a) b x (inr h) = by (failed_parts a b x h)
    where
      by : Failed a x ⊎ Failed b x → Failed (c ∷ a) x ⊎ Failed b x
      by (inl h) = inl (inr h)
      by (inr h) = inr h

  pub failed_left : (a b : Conditions A) (x : A) → Failed a x → Failed (a ++ b) x
  failed_left [] b x h = absurd h
  failed_left (c ∷ a) b x (inl h) = inl h
  failed_left (c ∷ a) b x (inr h) = inr (failed_left a b x h)

  pub failed_right : (a b : Conditions A) (x : A) → Failed b x → Failed (a ++ b) x
  failed_right [] b x h = h
  failed_right (c ∷ a) b x h = inr (failed_right a b x h)

  -- what each condition tells
  pub failed_all : (p : A → Bool) (cs : Conditions A) (x : A) → list_all (λ c. p c.1) cs ≡ true → Failed cs x → p x ≡ true
  failed_all p [] x all h = absurd h
  failed_all p (c ∷ cs) x all (inl (fails, e)) = ap p (sym e) ∙ (and_parts (p c.1) _ all).0
  failed_all p (c ∷ cs) x all (inr h) = failed_all p cs x (and_parts (p c.1) _ all).1 h

  -- nothing is told where each condition holds, and only there
  pub none_failing : (cs : Conditions A) → all_hold cs ≡ true → failing cs ≡ []
  none_failing [] all = refl
  none_failing (c ∷ cs) all = ap (λ b. if b then failing cs else c.1 ∷ failing cs) (and_parts c.0 _ all).0 ∙ none_failing cs (and_parts c.0 _ all).1

  pub all_holding : (cs : Conditions A) → failing cs ≡ [] → all_hold cs ≡ true
  all_holding [] none = refl
  all_holding (c ∷ cs) none = by c.0 (all_holding cs) none
    where
      by : (b : Bool) → (failing cs ≡ [] → all_hold cs ≡ true) → (if b then failing cs else c.1 ∷ failing cs) ≡ [] → (b && all_hold cs) ≡ true
      by true rest none = rest none
      by false rest none = absurd (let no : ⊥ = cc in no)

  -- the first of all is the first that fails
  pub first_is : (cs : Conditions A) (last : A) → (rest : List A) × (or_last (failing cs) last ≡ first_failing cs last ∷ rest)
  first_is [] last = ([], refl)
  first_is (c ∷ cs) last = by c.0 (first_is cs last)
    where
      by : (b : Bool) → (rest : List A) × (or_last (failing cs) last ≡ first_failing cs last ∷ rest)
          → (rest : List A) × (or_last (if b then failing cs else c.1 ∷ failing cs) last ≡ (if b then first_failing cs last else c.1) ∷ rest)
      by true later = later
      by false later = (failing cs, refl)

  -- the same, where more is told behind
  pub first_before : (cs : Conditions A) (last : A) → (rest : List A) × (failing cs ++ last ∷ [] ≡ first_failing cs last ∷ rest)
  first_before [] last = ([], refl)
  first_before (c ∷ cs) last = by c.0 (first_before cs last)
    where
      by : (b : Bool) → (rest : List A) × (failing cs ++ last ∷ [] ≡ first_failing cs last ∷ rest)
          → (rest : List A) × ((if b then failing cs else c.1 ∷ failing cs) ++ last ∷ [] ≡ (if b then first_failing cs last else c.1) ∷ rest)
      by true later = later
      by false later = (failing cs ++ last ∷ [], refl)

  pub kept_told : (xs : List A) (last x : A) → Has xs x → Has (or_last xs last) x
  kept_told [] last x h = absurd h
  kept_told (y ∷ xs) last x h = h

  pub told_kept : (xs : List A) (last x : A) → Has (or_last xs last) x → Has xs x ⊎ ((xs ≡ []) × (last ≡ x))
  told_kept [] last x (inl e) = inr (refl, e)
  told_kept [] last x (inr h) = absurd h
  told_kept (y ∷ xs) last x h = inl h

  pub has_parts : (xs ys : List A) (x : A) → Has (xs ++ ys) x → Has xs x ⊎ Has ys x
  has_parts [] ys x h = inr h
  has_parts (y ∷ xs) ys x (inl e) = inl (inl e)
  has_parts (y ∷ xs) ys x (inr h) = by (has_parts xs ys x h)
    where
      by : Has xs x ⊎ Has ys x → Has (y ∷ xs) x ⊎ Has ys x
      by (inl h) = inl (inr h)
      by (inr h) = inr h

  pub has_left_part : (xs ys : List A) (x : A) → Has xs x → Has (xs ++ ys) x
  has_left_part [] ys x h = absurd h
  has_left_part (y ∷ xs) ys x (inl e) = inl e
  has_left_part (y ∷ xs) ys x (inr h) = inr (has_left_part xs ys x h)

  pub has_right_part : (xs ys : List A) (x : A) → Has ys x → Has (xs ++ ys) x
  has_right_part [] ys x h = h
  has_right_part (y ∷ xs) ys x h = inr (has_right_part xs ys x h)

module _ {V A : Type 0} (f : V → Bool × A) where
  -- a condition for each value of a list
  pub failed_map : (vs : List V) (x : A) → Failed (map f vs) x → (v : V) × Has vs v × ((f v).0 ≡ false) × ((f v).1 ≡ x)
  failed_map [] x h = absurd h
  failed_map (v ∷ vs) x (inl h) = (v, inl refl, h.0, h.1)
  failed_map (v ∷ vs) x (inr h) = let q = failed_map vs x h in (q.0, inr q.1, q.2, q.3)

  pub map_failed : (vs : List V) (v : V) → Has vs v → (f v).0 ≡ false → Failed (map f vs) (f v).1
  map_failed [] v h fails = absurd h
  map_failed (w ∷ vs) v (inl e) fails = inl (ap (λ u. (f u).0) e ∙ fails, ap (λ u. (f u).1) e)
  map_failed (w ∷ vs) v (inr h) fails = inr (map_failed vs v h fails)
