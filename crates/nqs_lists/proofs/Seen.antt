-- Lists of rows and of words.
use Rattle.std.proofs.Common.{◌≡◌, ◌∙◌, ℕ, ◌+◌, ◌-◌, ◌<◌, ◌≤◌, suc, Bool, true, false, not, cond, nat_lt, List, [], ◌∷◌, ◌++◌, map, filter, drop, length}
use Rattle.std.proofs.Common.{slice_get, find, position, codes, append_assoc, append-nil, Option, None, Some, if◌then◌else◌, refl, sym, ap, arith}
use Rattle.std.specs.Prelude.{fold, flat_map, insert}
use Rattle.std.specs.List.{position_or_len}
use Rattle.std.specs.Option.{option_map}
use Rattle.std.proofs.lemmas.Bool.Decides.{nat_tests}
use Rattle.std.proofs.lemmas.List.{map-append}
use Rattle.std.proofs.lemmas.List.Concat.{flat_map_single}
use Rattle.std.proofs.lemmas.List.Sums.{prefix_len-le-length}
use Rattle.std.proofs.lemmas.Option.{same_Some}
use Rattle.nqs_base_tables.specs.Table.{better, best_from}
use Rattle.nqs_types.specs.declared.request.Row.{Row}
use Rattle.nqs_base_tables.proofs.TableLemmas.{drop-at}
use Rattle.nqs_rules.specs.Text.{Text, words, put_in, sorted}
use Rattle.nqs_lists.specs.Lists.{spaced}

module _ {V : Type 0} (test : V → Bool) where
  -- the best, where nothing beats anything, is the first
  pub first-best : (n : ℕ) (vs : List V) → option_map (λ p. p.1) (best_from test (λ _ _. false) n vs) ≡ find test vs
  first-best n [] = refl
  first-best n (v ∷ vs) = by (test v) (first-best (n + 1) vs)
    where
      front : (o : Option (ℕ × V)) → option_map (λ p. p.1) (better (λ _ _. false) (n, v) o) ≡ Some v
      front None = refl
      front (Some y) = refl

      by : (b : Bool) → option_map (λ p. p.1) (best_from test (λ _ _. false) (n + 1) vs) ≡ find test vs
          → option_map (λ p. p.1) (if b then better (λ _ _. false) (n, v) (best_from test (λ _ _. false) (n + 1) vs) else
          best_from test (λ _ _. false) (n + 1) vs) ≡ cond b (Some v) (find test vs)
      by true rest = front (best_from test (λ _ _. false) (n + 1) vs)
      by false rest = rest

module _ {E A : Type 0} (first : Row E → Row E → Bool) (m : A → Row E) (x : A) where
  -- an insertion in front of the first that x comes before
  pub put-insert : (xs : List A) → map m (insert xs (position_or_len (λ y. first (m x) (m y)) xs) x) ≡ put_in first (m x) (map m xs)
  put-insert [] = refl
  put-insert (y ∷ ys) = by (first (m x) (m y)) (put-insert ys)
    where
      k : ℕ
      k = position_or_len (λ y. first (m x) (m y)) ys

      by : (b : Bool) → map m (insert ys k x) ≡ put_in first (m x) (map m ys)
          → map m (insert (y ∷ ys) (cond (not b) (1 + k) 0) x) ≡ (if b then m x ∷ m y ∷ map m ys else m y ∷ put_in first (m x) (map m ys))
      by true rest = refl
      by false rest = (let e : 1 + k ≡ suc k = omega arith in ap (λ n. map m (insert (y ∷ ys) n x)) e ∙ ap (λ l. m y ∷ l) rest)

-- words behind words
pub words-more : (w : Text) (ws : List Text) → words (w ∷ ws) ≡ w ++ flat_map spaced ws
words-more w [] = sym (append-nil w)
words-more w (v ∷ ws) =
    ap (λ l. w ++ codes " " ++ l) (words-more v ws)
    ∙ append_assoc w (codes " ") (v ++ flat_map spaced ws)
    ∙ ap (λ l. w ++ l) (sym (append_assoc (codes " ") v (flat_map spaced ws)))

-- a list that grows by what each value gives
pub folded-lines : {A V : Type 0} (g : V → List A) (ls : List A) (vs : List V) → fold (λ l v. l ++ g v) ls vs ≡ ls ++ flat_map g vs
folded-lines g ls [] = sym (append-nil ls)
folded-lines g ls (v ∷ vs) = folded-lines g (ls ++ g v) vs ∙ append_assoc ls (g v) (flat_map g vs)

-- one line for each value
pub lines-mapped : {A V : Type 0} (f : V → A) (ls : List A) → ls ≡ [] → (vs : List V) → fold (λ l v. l ++ f v ∷ []) ls vs ≡ map f vs
lines-mapped f ls none vs = ap (λ l. fold (λ k v. k ++ f v ∷ []) l vs) none ∙ folded-lines (λ v. f v ∷ []) [] vs ∙ flat_map_single f vs

module _ {A B V : Type 0} (m : A → B) (t : V → Bool) (g : V → List A) where
  abbrev where_asked : V → List B
  where_asked v = if t v then map m (g v) else []

  -- what the values that pass give, each made into another
  pub asked-mapped : (vs : List V) → flat_map where_asked vs ≡ map m (flat_map g (filter t vs))
  asked-mapped [] = refl
  asked-mapped (v ∷ vs) = by (t v) (asked-mapped vs)
    where
      by : (b : Bool) → flat_map where_asked vs ≡ map m (flat_map g (filter t vs))
          → (if b then map m (g v) else []) ++ flat_map where_asked vs ≡ map m (flat_map g (cond b (v ∷ filter t vs) (filter t vs)))
      by true rest = ap (λ l. map m (g v) ++ l) rest ∙ sym (map-append m (g v) (flat_map g (filter t vs)))
      by false rest = rest

module _ {V : Type 0} (p : V → Bool) (xs : List V) where
  abbrev there : ℕ
  there = position_or_len p xs

  pub place_within : there ≤ length xs
  place_within = prefix_len-le-length (λ x. not (p x)) xs

  pub place_found : (i : ℕ) → Some i ≡ position p xs → i ≡ there
  place_found i h = by (nat_lt there (length xs)) h
    where
      by : (b : Bool) → Some i ≡ cond b (Some there) None → i ≡ there
      by true e = same_Some i there e
      by false e = absurd (let no : ⊥ = cc in no)

  pub place_behind : None ≡ position p xs → length xs ≡ there
  place_behind h = by (nat_lt there (length xs)) refl h
    where
      by : (b : Bool) → nat_lt there (length xs) ≡ b → None ≡ cond b (Some there) None → length xs ≡ there
      by true e k = absurd (let no : ⊥ = cc in no)
      by false e k = behind there (length xs) e place_within
        where
          behind : (m n : ℕ) → nat_lt m n ≡ false → m ≤ n → n ≡ m
          behind m n e within = grind (arith, nat_tests)

module _ {E : Type 0} (p : Row E → Bool) (first : Row E → Row E → Bool) (rows : List (Row E)) (place : ℕ) (v : Row E) (some : 0 < place)
    (at : slice_get rows (place - 1) ≡ Some v) where
  one_more : drop (place - 1) rows ≡ v ∷ drop place rows
  one_more = (let e : (place - 1) + 1 ≡ place = omega arith in drop-at rows (place - 1) v at ∙ ap (λ n. v ∷ drop n rows) e)

  abbrev of : Bool → List (Row E)
  of b = sorted first (cond b (v ∷ filter p (drop place rows)) (filter p (drop place rows)))

  pub listed : p v ≡ true → put_in first v (sorted first (filter p (drop place rows))) ≡ sorted first (filter p (drop (place - 1) rows))
  listed h = sym (ap (λ l. sorted first (filter p l)) one_more ∙ ap of h)

  pub unlisted : p v ≡ false → sorted first (filter p (drop place rows)) ≡ sorted first (filter p (drop (place - 1) rows))
  unlisted h = sym (ap (λ l. sorted first (filter p l)) one_more ∙ ap of h)
