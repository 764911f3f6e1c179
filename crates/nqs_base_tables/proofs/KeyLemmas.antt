-- Lists of values under keys: what is found after a change or a gain of one value.
use Rattle.std.proofs.Common.{◌≡◌, ℕ, Bool, true, false, cond, List, [], ◌∷◌, ◌++◌, find, length, nat_lt, position, slice_get, slice_set, None, Some}
use Rattle.std.proofs.Common.{option_map, refl, sym, ap, ◌∙◌, if◌then◌else◌}
use Rattle.std.specs.List.{list_any, position_or_len}
use Rattle.std.proofs.lemmas.Bool.{or_parts}
use Rattle.std.proofs.lemmas.Option.{same_Some, none-some}
use Rattle.nqs_base_tables.specs.Table.{has_key, change_first}
use Rattle.nqs_base_tables.proofs.TableLemmas.{change_at}

module _ {V : Type 0} where
  pub place_is : (test : V → Bool) (vs : List V) (i : ℕ) → position test vs ≡ Some i → position_or_len test vs ≡ i
  place_is test vs i at = by (nat_lt (position_or_len test vs) (length vs)) at
    where
      by : (b : Bool) → cond b (Some (position_or_len test vs)) None ≡ Some i → position_or_len test vs ≡ i
      by true h = same_Some _ i h
      by false h = absurd (none-some i h)

  -- what stands at the first place that passes becomes another one
  pub changed_at : (test : V → Bool) (g : V → V) (vs : List V) (i : ℕ) (v : V) → position test vs ≡ Some i → slice_get vs i ≡ Some v
      → slice_set vs i (g v) ≡ change_first test g vs
  changed_at test g vs i v at there =
      let e = place_is test vs i at in
      (λ j. slice_set vs (sym e j) (g v)) ∙ change_at test g vs v (ap (slice_get vs) e ∙ there)

  -- the one that changes is found changed
  pub found_changed : (test : V → Bool) (g : V → V) → ((v : V) → test (g v) ≡ test v) → (vs : List V)
      → find test (change_first test g vs) ≡ option_map g (find test vs)
  found_changed test g same [] = refl
  found_changed test g same (x ∷ vs) = by (test x) refl (found_changed test g same vs)
    where
      by : (b : Bool) → test x ≡ b → find test (change_first test g vs) ≡ option_map g (find test vs)
          → find test (if b then g x ∷ vs else x ∷ change_first test g vs) ≡ option_map g (cond b (Some x) (find test vs))
      by true e rest = ap (λ b. cond b (Some (g x)) (find test vs)) (same x ∙ e)
      by false e rest = ap (λ b. cond b (Some x) (find test (change_first test g vs))) e ∙ rest

  -- behind others a value is found where none of them is
  pub found_behind : (test : V → Bool) (vs : List V) (v : V) → list_any test vs ≡ false → find test (vs ++ v ∷ []) ≡ cond (test v) (Some v) None
  found_behind test [] v none = refl
  found_behind test (x ∷ vs) v none = let p = or_parts (test x) (list_any test vs) none in
      ap (λ b. cond b (Some x) (find test (vs ++ v ∷ []))) p.0 ∙ found_behind test vs v p.1

  -- a value behind others that doesn't pass changes nothing
  pub found_before : (test : V → Bool) (vs : List V) (v : V) → test v ≡ false → find test (vs ++ v ∷ []) ≡ find test vs
  found_before test [] v fails = ap (λ b. cond b (Some v) None) fails
  found_before test (x ∷ vs) v fails = ap (cond (test x) (Some x)) (found_before test vs v fails)

  -- where none passes, none is found
  pub none_found : (test : V → Bool) (vs : List V) → list_any test vs ≡ false → find test vs ≡ None
  none_found test [] h = refl
  none_found test (x ∷ vs) h = let p = or_parts (test x) (list_any test vs) h in (λ j. cond (p.0 j) (Some x) (find test vs)) ∙ none_found test vs p.1

module _ {K V : Type 0} (eq : K → K → Bool) (key : V → K) (exact : (a b : K) → eq a b ≡ true → a ≡ b) where
  other_key : (k id : K) (v : V) → eq k id ≡ false → eq id (key v) ≡ true → eq k (key v) ≡ false
  other_key k id v other h = ap (eq k) (sym (exact id (key v) h)) ∙ other

  -- a value of another key is found as before
  pub found_other : (g : V → V) → ((v : V) → key (g v) ≡ key v) → (k id : K) (vs : List V) → eq k id ≡ false
      → find (has_key eq key k) (change_first (has_key eq key id) g vs) ≡ find (has_key eq key k) vs
  found_other g keeps k id [] other = refl
  found_other g keeps k id (x ∷ vs) other = by (eq id (key x)) refl (found_other g keeps k id vs other)
    where
      by : (b : Bool) → eq id (key x) ≡ b → find (has_key eq key k) (change_first (has_key eq key id) g vs) ≡ find (has_key eq key k) vs
          → find (has_key eq key k) (if b then g x ∷ vs else x ∷ change_first (has_key eq key id) g vs)
          ≡ cond (eq k (key x)) (Some x) (find (has_key eq key k) vs)
      by true e rest =
          let no = other_key k id x other e in
          (λ j. cond ((ap (eq k) (keeps x) ∙ no) j) (Some (g x)) (find (has_key eq key k) vs)) ∙ (λ j. cond (sym no j) (Some x) (find (has_key eq key k) vs))
      by false e rest = ap (λ o. cond (eq k (key x)) (Some x) o) rest
