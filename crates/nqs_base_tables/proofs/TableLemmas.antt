use Rattle.std.proofs.Common.{◌≡◌, ℕ, ◌+◌, Bool, true, false, cond, not, filter, Contains, List, [], ◌∷◌, ◌++◌, map, length, position, find, Option, None, Some}
use Rattle.std.proofs.Common.{nat_lt, slice_get, slice_set, remove, take, drop, refl, sym, ap, subst, ◌∙◌, zero, suc, is_some, if◌then◌else◌, true≢false, ◌||◌}
use Rattle.std.proofs.Common.{◌&&◌, Bor, arith}
use Rattle.std.proofs.lemmas.Option.{same_Some, none-some}
use Rattle.indexmap.proofs.MapLemmas.{Found-position, Missing-position}
use Rattle.std.proofs.lemmas.List.{map-append, length-map, take-map, drop-map}
use Rattle.std.specs.List.{position_or_len, filter_map, cons_option, list_all, list_any}
use Rattle.std.proofs.lemmas.List.Elements.{Contains-get_or, Contains-append_right}
use Rattle.std.specs.Option.{option_copied}
use Rattle.std.specs.Map.Calls.{RetainsPairs}
use Rattle.std.specs.Map.{keys_of, values_of, lookup}
use Rattle.indexmap.specs.IndexMap.{IndexMap, insert_entry, set_value_at}
use Rattle.indexmap.proofs.CallerLemmas.{insert_entry-new}
use Rattle.nqs_base_tables.specs.Table.{IsKeyed, has_key, change_first, without_first}

module _ {K V : Type 0} (eq : K → K → Bool) (key : V → K) (k : K) where
  position_or_len-values : (vs : List V) → position_or_len (eq k) (map key vs) ≡ position_or_len (has_key eq key k) vs
  position_or_len-values [] = refl
  position_or_len-values (v ∷ vs) = ap (λ n. cond (not (eq k (key v))) (1 + n) 0) (position_or_len-values vs)

  -- a place among the keys is one among the values
  pub position_or_len-values' : (vs : List V) → position_or_len (eq k) (map key vs) ≡ position_or_len (has_key eq key k) vs
  position_or_len-values' = position_or_len-values

  -- a place among the keys is one among the values
  pub position-values : (vs : List V) → position (eq k) (map key vs) ≡ position (has_key eq key k) vs
  position-values vs =
      ap (λ n. cond (nat_lt n (length (map key vs))) (Some n) None) (position_or_len-values vs)
      ∙ ap (λ m. cond (nat_lt (position_or_len (has_key eq key k) vs) m) (Some (position_or_len (has_key eq key k) vs)) None) (length-map vs key)

  -- what stands first under a key
  pub lookup-values : (es : List (K × V)) → IsKeyed key es → lookup (eq k) es ≡ find (has_key eq key k) (values_of es)
  lookup-values [] h = refl
  lookup-values (e ∷ es) h =
      let head : e.0 ≡ key e.1 = cc in
      let rest : IsKeyed key es = cc in
      (λ j. cond (eq k (head j)) (Some e.1) (lookup-values es rest j))

module _ {K V : Type 0} where
  pub values_set_value_at : (es : List (K × V)) (i : ℕ) (w : V) → values_of (set_value_at es i w) ≡ slice_set (values_of es) i w
  values_set_value_at [] i w = refl
  values_set_value_at (e ∷ es) zero w = refl
  values_set_value_at (e ∷ es) (suc i) w = ap (λ l. e.1 ∷ l) (values_set_value_at es i w)

  keys_set : (es : List (K × V)) (i : ℕ) (w : V) → keys_of (set_value_at es i w) ≡ keys_of es
  keys_set [] i w = refl
  keys_set (e ∷ es) zero w = refl
  keys_set (e ∷ es) (suc i) w = ap (λ l. e.0 ∷ l) (keys_set es i w)

module _ {A B : Type 0} (f : A → B) where
  pub map-remove : (xs : List A) (i : ℕ) → map f (remove xs i) ≡ remove (map f xs) i
  map-remove xs i = map-append f (take i xs) (drop (suc i) xs) ∙ sym (λ j. take-map f i xs j ++ drop-map f (suc i) xs j)

  -- a value of the same image changes no image
  pub map-slice_set : (xs : List A) (i : ℕ) (y : A) → slice_get (map f xs) i ≡ Some (f y) → map f (slice_set xs i y) ≡ map f xs
  map-slice_set [] i y h = refl
  map-slice_set (x ∷ xs) zero y h = (let e : f x ≡ f y = cc in ap (λ z. z ∷ map f xs) (sym e))
  map-slice_set (x ∷ xs) (suc i) y h = ap (λ l. f x ∷ l) (map-slice_set xs i y h)

module _ {K V : Type 0} (key : V → K) where
  -- a value of the same key takes the place of another
  pub IsKeyed-set : (es : List (K × V)) (i : ℕ) (w : V) → IsKeyed key es → slice_get (map key (values_of es)) i ≡ Some (key w)
      → IsKeyed key (set_value_at es i w)
  IsKeyed-set es i w h same = keys_set es i w ∙ h ∙ sym (map-slice_set key (values_of es) i w same) ∙ ap (map key) (sym (values_set_value_at es i w))

  pub IsKeyed-remove : (es : List (K × V)) (i : ℕ) → IsKeyed key es → IsKeyed key (remove es i)
  IsKeyed-remove es i h =
      map-remove (λ e. e.0) es i ∙ ap (λ l. remove l i) h ∙ sym (map-remove key (values_of es) i) ∙ ap (map key) (sym (map-remove (λ e. e.1) es i))

module _ {V : Type 0} (test : V → Bool) where
  -- without the one at the first place that passes
  pub removed_at : (vs : List V) (v : V) → slice_get vs (position_or_len test vs) ≡ Some v → remove vs (position_or_len test vs) ≡ without_first test vs
  removed_at [] v h = absurd (none-some v h)
  removed_at (x ∷ xs) v h = by (removed_at xs v) (test x) h
    where
      by : (slice_get xs (position_or_len test xs) ≡ Some v → remove xs (position_or_len test xs) ≡ without_first test xs) → (b : Bool)
          → slice_get (x ∷ xs) (cond (not b) (1 + position_or_len test xs) 0) ≡ Some v
          → remove (x ∷ xs) (cond (not b) (1 + position_or_len test xs) 0) ≡ (if b then xs else x ∷ without_first test xs)
      by _ true h = refl
      by rest false h =
          let e : suc (position_or_len test xs) ≡ 1 + position_or_len test xs = omega arith in
          subst (λ m. remove (x ∷ xs) m ≡ x ∷ without_first test xs) e
          (ap (λ l. x ∷ l) (rest (subst (λ m. slice_get (x ∷ xs) m ≡ Some v) (sym e) h)))

  -- nothing is removed where nothing passes
  pub without_first-none : (vs : List V) → find test vs ≡ None → without_first test vs ≡ vs
  without_first-none [] h = refl
  without_first-none (x ∷ xs) h = by (without_first-none xs) (test x) h
    where
      by : (find test xs ≡ None → without_first test xs ≡ xs) → (b : Bool) → cond b (Some x) (find test xs) ≡ None
          → (if b then xs else x ∷ without_first test xs) ≡ x ∷ xs
      by _ true h = cc
      by rest false h = ap (λ l. x ∷ l) (rest h)

module _ {K V S : Type 0} (eq : K → K → Bool) (key : V → K) where
  -- a value of a new key goes last
  pub entries-added : (m : IndexMap K V S) (k : K) (v : V) → k ≡ key v → IsKeyed key m.entries → find (has_key eq key (key v)) (values_of m.entries) ≡ None
      → insert_entry eq m.entries k v ≡ m.entries ++ (k, v) ∷ []
  entries-added m k v e keyed none =
      insert_entry-new eq m k v (lookup-values eq key k m.entries keyed ∙ ap (λ q. find (has_key eq key q) (values_of m.entries)) e ∙ none)

module _ {K V : Type 0} (key : V → K) where
  pub IsKeyed-added : (es : List (K × V)) (k : K) (v : V) → k ≡ key v → IsKeyed key es → IsKeyed key (es ++ (k, v) ∷ [])
  IsKeyed-added [] k v e h = ap (λ q. q ∷ []) e
  IsKeyed-added (x ∷ es) k v e h =
      let head : x.0 ≡ key x.1 = cc in
      let rest : IsKeyed key es = cc in
      (λ j. head j ∷ IsKeyed-added es k v e rest j)

module _ {K V : Type 0} where
  pub values-added : (es : List (K × V)) (k : K) (v : V) → values_of (es ++ (k, v) ∷ []) ≡ values_of es ++ v ∷ []
  values-added es k v = map-append (λ e. e.1) es ((k, v) ∷ [])

module _ {V : Type 0} (test : V → Bool) (g : V → V) where
  pub change_at : (vs : List V) (v : V) → slice_get vs (position_or_len test vs) ≡ Some v → slice_set vs (position_or_len test vs) (g v)
      ≡ change_first test g vs
  change_at [] v h = refl
  change_at (x ∷ xs) v h = by (change_at xs v) (test x) h
    where
      by : (slice_get xs (position_or_len test xs) ≡ Some v → slice_set xs (position_or_len test xs) (g v) ≡ change_first test g xs) → (b : Bool)
          → slice_get (x ∷ xs) (cond (not b) (1 + position_or_len test xs) 0) ≡ Some v
          → slice_set (x ∷ xs) (cond (not b) (1 + position_or_len test xs) 0) (g v) ≡ (if b then g x ∷ xs else x ∷ change_first test g xs)
      by _ true h = ap (λ y. g y ∷ xs) (sym (same_Some x v h))
      by rest false h =
          let e : suc (position_or_len test xs) ≡ 1 + position_or_len test xs = omega arith in
          subst (λ m. slice_set (x ∷ xs) m (g v) ≡ x ∷ change_first test g xs) e
          (ap (λ l. x ∷ l) (rest (subst (λ m. slice_get (x ∷ xs) m ≡ Some v) (sym e) h)))

  -- nothing is changed where nothing passes
  pub change_first-none : (vs : List V) → find test vs ≡ None → change_first test g vs ≡ vs
  change_first-none [] h = refl
  change_first-none (x ∷ xs) h = by (change_first-none xs) (test x) h
    where
      by : (find test xs ≡ None → change_first test g xs ≡ xs) → (b : Bool) → cond b (Some x) (find test xs) ≡ None
          → (if b then g x ∷ xs else x ∷ change_first test g xs) ≡ x ∷ xs
      by _ true h = cc
      by rest false h = ap (λ l. x ∷ l) (rest h)

module _ {K V : Type 0} (eq : K → K → Bool) (key : V → K) (k : K) (g : V → V) where
  -- a write at the place of the key is a change of the first value of that key
  pub values-changed : (es : List (K × V)) (i : ℕ) (v w : V) → IsKeyed key es → position (eq k) (keys_of es) ≡ Some i → slice_get (values_of es) i ≡ Some v
      → w ≡ g v
      → values_of (set_value_at es i w) ≡ change_first (has_key eq key k) g (values_of es)
  values-changed es i v w keyed at there is =
      let at' : position_or_len (has_key eq key k) (values_of es) ≡ i =
      sym (position_or_len-values' eq key k (values_of es)) ∙ ap (position_or_len (eq k)) (sym keyed) ∙ (Found-position (eq k) es i at).or_len in
      values_set_value_at es i w
      ∙ (λ j. slice_set (values_of es) (sym at' j) (is j))
      ∙ change_at (has_key eq key k) g (values_of es) v (ap (slice_get (values_of es)) at' ∙ there)

module _ {K V : Type 0} (eq : K → K → Bool) (key : V → K) (k : K) where
  -- the place of the key is that of the first value of that key
  pub key_place : (es : List (K × V)) (i : ℕ) → IsKeyed key es → position (eq k) (keys_of es) ≡ Some i → position_or_len (has_key eq key k) (values_of es) ≡ i
  key_place es i keyed at =
      sym (position_or_len-values' eq key k (values_of es)) ∙ ap (position_or_len (eq k)) (sym keyed) ∙ (Found-position (eq k) es i at).or_len

  pub values-removed : (es : List (K × V)) (i : ℕ) (v : V) → IsKeyed key es → position (eq k) (keys_of es) ≡ Some i → slice_get (values_of es) i ≡ Some v
      → values_of (remove es i) ≡ without_first (has_key eq key k) (values_of es)
  values-removed es i v keyed at there =
      let e : position_or_len (has_key eq key k) (values_of es) ≡ i = key_place es i keyed at in
      map-remove (λ e. e.1) es i ∙ ap (remove (values_of es)) (sym e)
      ∙ removed_at (has_key eq key k) (values_of es) v (ap (slice_get (values_of es)) e ∙ there)

  -- a value that is found under its key, and one that isn't
  pub find-key : (es : List (K × V)) (i : ℕ) (v : V) → IsKeyed key es → position (eq k) (keys_of es) ≡ Some i → slice_get (values_of es) i ≡ Some v
      → find (has_key eq key k) (values_of es) ≡ Some v
  find-key es i v keyed at there = sym (lookup-values eq key k es keyed) ∙ (Found-position (eq k) es i at).value ∙ there

  pub find-no_key : (es : List (K × V)) → IsKeyed key es → position (eq k) (keys_of es) ≡ None → find (has_key eq key k) (values_of es) ≡ None
  find-no_key es keyed at = sym (lookup-values eq key k es keyed) ∙ (Missing-position (eq k) es at).value

pub none_from_is_some : {X : Type 0} (o : Option X) → is_some o ≡ false → o ≡ None
none_from_is_some None h = refl
none_from_is_some (Some x) h = absurd (true≢false h)

-- a `retain` by a test that asks another is one by the other
module _ {K V S F : Type 0} (out : S → F) (T : S → K → V → Bool → V → S → Type 0) (U : F → K → V → Bool → V → F → Type 0)
    (asks : (s t : S) (k : K) (v w : V) (b : Bool) → T s k v b w t → U (out s) k v b w (out t)) where
  pub RetainsPairs-asked : (s : S) (es kept : List (K × V)) → RetainsPairs T s es kept → RetainsPairs U (out s) es kept
  RetainsPairs-asked s [] kept r = r
  RetainsPairs-asked s (e ∷ es) kept (b, w, t, rest, call, later, is) = (b, w, out t, rest, asks s t e.0 e.1 w b call, RetainsPairs-asked t es rest later, is)

-- what a `retain` that changes values leaves
module _ {K V F : Type 0} (key : V → K) (T : F → K → V → Bool → V → F → Type 0)
    (same : (s t : F) (k : K) (v w : V) (b : Bool) → T s k v b w t → key w ≡ key v) where
  pub IsKeyed-retained : (f : F) (es kept : List (K × V)) → RetainsPairs T f es kept → IsKeyed key es → IsKeyed key kept
  IsKeyed-retained f [] kept r h = ap keys_of r ∙ sym (ap (λ l. map key (values_of l)) r)
  IsKeyed-retained f (e ∷ es) kept (b, w, f', rest, call, later, is) h =
      let head : e.0 ≡ key e.1 = cc in
      let tail : IsKeyed key es = cc in
      by b (head ∙ sym (same _ _ _ _ _ _ call)) (IsKeyed-retained f' es rest later tail) is
    where
      by : (b : Bool) → e.0 ≡ key w → IsKeyed key rest → kept ≡ cond b ((e.0, w) ∷ rest) rest → IsKeyed key kept
      by true head tail is = subst (IsKeyed key) (sym is) (λ j. head j ∷ tail j)
      by false head tail is = subst (IsKeyed key) (sym is) tail

  pub values-retained : (h : V → Option V) (f f0 : F) → f0 ≡ f → (es kept : List (K × V))
      → ((k : K) (v w : V) (b : Bool) (t : F) → Contains (values_of es) v → T f k v b w t → (h v ≡ (if b then Some w else None)) × (t ≡ f))
      → RetainsPairs T f0 es kept → values_of kept ≡ filter_map h (values_of es)
  values-retained h f f0 same_f [] kept says r = ap values_of r
  values-retained h f f0 same_f (e ∷ es) kept says (b, w, f', rest, call, later, is) =
      let told : (h e.1 ≡ (if b then Some w else None)) × (f' ≡ f) =
      says e.0 e.1 w b f' (Contains-get_or (e.1 ∷ values_of es) 0 e.1 (omega arith)) (subst (λ q. T q e.0 e.1 b w f') same_f call) in
      by b told.0
      (values-retained h f f' told.1 es rest (λ k v w b t there. says k v w b t (Contains-append_right (e.1 ∷ []) (values_of es) v there)) later) is
    where
      by : (b : Bool) → h e.1 ≡ (if b then Some w else None) → values_of rest ≡ filter_map h (values_of es) → kept ≡ cond b ((e.0, w) ∷ rest) rest
          → values_of kept ≡ filter_map h (e.1 ∷ values_of es)
      by true says tail is = ap values_of is ∙ (λ j. w ∷ tail j) ∙ ap (λ o. cons_option o (filter_map h (values_of es))) (sym says)
      by false says tail is = ap values_of is ∙ tail ∙ ap (λ o. cons_option o (filter_map h (values_of es))) (sym says)

module _ {V : Type 0} where
  pub filter_map-mapped : (g : V → V) (vs : List V) → filter_map (λ v. Some (g v)) vs ≡ map g vs
  filter_map-mapped g [] = refl
  filter_map-mapped g (v ∷ vs) = ap (λ l. g v ∷ l) (filter_map-mapped g vs)

  pub filter_map-filtered : (p : V → Bool) (vs : List V) → filter_map (λ v. if p v then Some v else None) vs ≡ filter p vs
  filter_map-filtered p [] = refl
  filter_map-filtered p (v ∷ vs) = by (p v) (filter_map-filtered p vs)
    where
      by : (b : Bool) → filter_map (λ v. if p v then Some v else None) vs ≡ filter p vs
          → cons_option (if b then Some v else None) (filter_map (λ v. if p v then Some v else None) vs) ≡ cond b (v ∷ filter p vs) (filter p vs)
      by true rest = ap (λ l. v ∷ l) rest
      by false rest = rest

  -- nothing changes where the one that passes stays as it is
  pub change_first-same : (test : V → Bool) (g : V → V) (vs : List V) → ((v : V) → find test vs ≡ Some v → g v ≡ v) → change_first test g vs ≡ vs
  change_first-same test g [] h = refl
  change_first-same test g (x ∷ xs) h = by (test x) (change_first-same test g xs) h
    where
      by : (b : Bool) → (((v : V) → find test xs ≡ Some v → g v ≡ v) → change_first test g xs ≡ xs)
          → ((v : V) → cond b (Some x) (find test xs) ≡ Some v → g v ≡ v) → (if b then g x ∷ xs else x ∷ change_first test g xs) ≡ x ∷ xs
      by true rest h = ap (λ y. y ∷ xs) (h x refl)
      by false rest h = ap (λ l. x ∷ l) (rest h)

pub if_some : {V : Type 0} (v : V) (b : Bool) (p : Bool) (w : V) → b ≡ p → w ≡ v → (if p then Some v else None) ≡ (if b then Some w else None)
if_some v b p w bp wv = (λ j. if sym bp j then Some (sym wv j) else None)

module _ {V : Type 0} where
  pub is_some-find : (p : V → Bool) (vs : List V) → is_some (find p vs) ≡ list_any p vs
  is_some-find p [] = refl
  is_some-find p (v ∷ vs) = by (p v) (is_some-find p vs)
    where
      by : (b : Bool) → is_some (find p vs) ≡ list_any p vs → is_some (cond b (Some v) (find p vs)) ≡ (b || list_any p vs)
      by true rest = refl
      by false rest = rest

  -- what is left from a place on begins with the item there
  pub drop-at : (vs : List V) (i : ℕ) (v : V) → slice_get vs i ≡ Some v → drop i vs ≡ v ∷ drop (i + 1) vs
  drop-at [] i v h = absurd (none-some v h)
  drop-at (x ∷ vs) zero v h = ap (λ y. y ∷ vs) (same_Some x v h)
  drop-at (x ∷ vs) (suc i) v h =
      let e : suc i + 1 ≡ suc (i + 1) = omega arith in
      drop-at vs i v h ∙ ap (λ n. v ∷ drop n (x ∷ vs)) (sym e)

pub is_some-option_copied : {V : Type 0} (o : Option (Bor V)) → is_some o ≡ is_some (option_copied o)
is_some-option_copied None = refl
is_some-option_copied (Some x) = refl

length-filter-cons : {V : Type 0} (b : Bool) (v : V) (l : List V) → length (cond b (v ∷ l) l) ≡ cond b 1 0 + length l
length-filter-cons true v l = omega arith
length-filter-cons false v l = omega arith

pub length-filter-drop : {V : Type 0} (p : V → Bool) (vs : List V) (i : ℕ) (v : V) → slice_get vs i ≡ Some v
    → length (filter p (drop i vs)) ≡ cond (p v) 1 0 + length (filter p (drop (i + 1) vs))
length-filter-drop p vs i v h = ap (λ l. length (filter p l)) (drop-at vs i v h) ∙ length-filter-cons (p v) v (filter p (drop (i + 1) vs))

-- one more that passes, or one that does not
pub counted_one : (n now rest all one : ℕ) → now ≡ one + rest → n + now ≡ all → one ≡ 1 → (m : ℕ) → m ≡ n + 1 → m + rest ≡ all
counted_one n now rest all one step before is m m_is = omega arith

pub counted_none : (n now rest all one : ℕ) → now ≡ one + rest → n + now ≡ all → one ≡ 0 → (m : ℕ) → m ≡ n → m + rest ≡ all
counted_none n now rest all one step before is m m_is = omega arith

pub list_all-drop : {V : Type 0} (p : V → Bool) (vs : List V) (i : ℕ) (v : V) → slice_get vs i ≡ Some v
    → list_all p (drop i vs) ≡ (p v && list_all p (drop (i + 1) vs))
list_all-drop p vs i v h = ap (list_all p) (drop-at vs i v h)

pub list_any-drop : {V : Type 0} (p : V → Bool) (vs : List V) (i : ℕ) (v : V) → slice_get vs i ≡ Some v
    → list_any p (drop i vs) ≡ (p v || list_any p (drop (i + 1) vs))
list_any-drop p vs i v h = ap (list_any p) (drop-at vs i v h)
