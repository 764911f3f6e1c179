-- What is found by its key after a change of a list whose keys are distinct.
use Rattle.std.proofs.Common.{◌≡◌, Bool, true, false, cond, not, List, [], ◌∷◌, ◌++◌, map, filter, find, Option, None, Some, refl, sym, ap, ◌∙◌, if◌then◌else◌}
use Rattle.std.proofs.lemmas.Bool.{and_parts, or_parts, not-true}
use Rattle.std.proofs.lemmas.Option.{same_Some, none-some}
use Rattle.std.specs.List.{list_any, filter_map, cons_option}
use Rattle.std.specs.Option.{option_map, option_and_then, IfSome, option_or}
use Rattle.nqs_base_tables.specs.Table.{has_key, change_first, without_first}
use Rattle.nqs_rules.specs.InOrder.{are_distinct}
use Rattle.nqs_rules.proofs.KeyFacts.{found_key}

module _ {V : Type 0} where
  -- a value, if it passes
  abbrev pub only : (V → Bool) → Option V → Option V
  only keep None = None
  only keep (Some v) = if keep v then Some v else None

  pub find-added : (t : V → Bool) (vs : List V) (y : V) → find t (vs ++ y ∷ []) ≡ option_or (find t vs) (if t y then Some y else None)
  find-added t [] y = by (t y)
    where
      by : (b : Bool) → cond b (Some y) None ≡ (if b then Some y else None)
      by true = refl
      by false = refl
  find-added t (v ∷ vs) y = by (t v) (find-added t vs y)
    where
      by : (b : Bool) → find t (vs ++ y ∷ []) ≡ option_or (find t vs) (if t y then Some y else None)
          → cond b (Some v) (find t (vs ++ y ∷ [])) ≡ option_or (cond b (Some v) (find t vs)) (if t y then Some y else None)
      by true rest = refl
      by false rest = rest

module _ {K V : Type 0} (eq : K → K → Bool) (key : V → K) (exact : (a b : K) → eq a b ≡ true → a ≡ b) (same : (a : K) → eq a a ≡ true) where
  none_of_key : (k : K) (vs : List V) → list_any (eq k) (map key vs) ≡ false → find (has_key eq key k) vs ≡ None
  none_of_key k [] h = refl
  none_of_key k (v ∷ vs) h = let p = or_parts (eq k (key v)) (list_any (eq k) (map key vs)) h in
      ap (λ b. cond b (Some v) (find (has_key eq key k) vs)) p.0 ∙ none_of_key k vs p.1

  -- what has the key of the head is not in the rest
  abbrev Fresh : V → List V → Type 0
  Fresh v vs = (list_any (eq (key v)) (map key vs) ≡ false) × (are_distinct eq (map key vs) ≡ true)

  fresh : (v : V) (vs : List V) → are_distinct eq (map key (v ∷ vs)) ≡ true → Fresh v vs
  fresh v vs h = let p = and_parts (not (list_any (eq (key v)) (map key vs))) (are_distinct eq (map key vs)) h in
      (not-true (list_any (eq (key v)) (map key vs)) p.0, p.1)

  gone : (k : K) (v : V) (vs : List V) → eq k (key v) ≡ true → list_any (eq (key v)) (map key vs) ≡ false → find (has_key eq key k) vs ≡ None
  gone k v vs e h = none_of_key k vs (ap (λ j. list_any (eq j) (map key vs)) (exact k (key v) e) ∙ h)

  -- the key of one found later is another
  other : (k : K) (v x : V) (u : V → Bool) (vs : List V) → eq k (key v) ≡ true → find u vs ≡ Some x → list_any (eq (key v)) (map key vs) ≡ false
      → eq k (key x) ≡ false
  other k v x u vs e found h = ap (λ j. eq j (key x)) (exact k (key v) e) ∙ found_key key u (eq (key v)) vs x found h

  pub find-without : (u : V → Bool) (x : V) (k : K) (vs : List V) → find u vs ≡ Some x → are_distinct eq (map key vs) ≡ true
      → find (has_key eq key k) (without_first u vs) ≡ (if eq k (key x) then None else find (has_key eq key k) vs)
  find-without u x k [] found h = absurd (none-some x found)
  find-without u x k (v ∷ vs) found h = by (u v) found (eq k (key v)) refl (fresh v vs h) (find-without u x k vs)
    where
      here : (b : Bool) → eq k (key v) ≡ b → list_any (eq (key v)) (map key vs) ≡ false
          → find (has_key eq key k) vs ≡ (if b then None else cond b (Some v) (find (has_key eq key k) vs))
      here true e f = gone k v vs e f
      here false e f = refl

      by : (a : Bool) → cond a (Some v) (find u vs) ≡ Some x → (b : Bool) → eq k (key v) ≡ b → Fresh v vs
          → (find u vs ≡ Some x → are_distinct eq (map key vs) ≡ true → find (has_key eq key k) (without_first u vs)
          ≡ (if eq k (key x) then None else find (has_key eq key k) vs))
          → find (has_key eq key k) (if a then vs else v ∷ without_first u vs)
          ≡ (if eq k (key x) then None else cond (eq k (key v)) (Some v) (find (has_key eq key k) vs))
      by true found b e f rest =
          let is : v ≡ x = same_Some v x found in
          here (eq k (key v)) refl f.0 ∙ ap (λ (y : V). if eq k (key y) then None else cond (eq k (key v)) (Some v) (find (has_key eq key k) vs)) is
      by false found true e f rest =
          ap (λ c. cond c (Some v) (find (has_key eq key k) (without_first u vs))) e
          ∙ sym (ap (λ c. if c then None else cond (eq k (key v)) (Some v) (find (has_key eq key k) vs)) (other k v x u vs e found f.0)
          ∙ ap (λ c. cond c (Some v) (find (has_key eq key k) vs)) e)
      by false found false e f rest =
          ap (λ c. cond c (Some v) (find (has_key eq key k) (without_first u vs))) e
          ∙ (rest found f.1 ∙ sym (ap (λ c. if eq k (key x) then None else cond c (Some v) (find (has_key eq key k) vs)) e))

  module _ (g : V → V) (keeps : (v : V) → key (g v) ≡ key v) where
    pub find-changed : (u : V → Bool) (x : V) (k : K) (vs : List V) → find u vs ≡ Some x → are_distinct eq (map key vs) ≡ true
        → find (has_key eq key k) (change_first u g vs) ≡ (if eq k (key x) then Some (g x) else find (has_key eq key k) vs)
    find-changed u x k [] found h = absurd (none-some x found)
    find-changed u x k (v ∷ vs) found h = by (u v) found (eq k (key v)) refl (fresh v vs h) (find-changed u x k vs)
      where
        here : (b : Bool) → eq k (key v) ≡ b → cond (eq k (key (g v))) (Some (g v)) (find (has_key eq key k) vs)
            ≡ (if b then Some (g v) else cond b (Some v) (find (has_key eq key k) vs))
        here true e = ap (λ c. cond c (Some (g v)) (find (has_key eq key k) vs)) (ap (eq k) (keeps v) ∙ e)
        here false e = ap (λ c. cond c (Some (g v)) (find (has_key eq key k) vs)) (ap (eq k) (keeps v) ∙ e)

        by : (a : Bool) → cond a (Some v) (find u vs) ≡ Some x → (b : Bool) → eq k (key v) ≡ b → Fresh v vs
            → (find u vs ≡ Some x → are_distinct eq (map key vs) ≡ true → find (has_key eq key k) (change_first u g vs)
            ≡ (if eq k (key x) then Some (g x) else find (has_key eq key k) vs))
            → find (has_key eq key k) (if a then g v ∷ vs else v ∷ change_first u g vs)
            ≡ (if eq k (key x) then Some (g x) else cond (eq k (key v)) (Some v) (find (has_key eq key k) vs))
        by true found b e f rest =
            let is : v ≡ x = same_Some v x found in
            here (eq k (key v)) refl ∙ ap (λ (y : V). if eq k (key y) then Some (g y) else cond (eq k (key v)) (Some v) (find (has_key eq key k) vs)) is
        by false found true e f rest =
            ap (λ c. cond c (Some v) (find (has_key eq key k) (change_first u g vs))) e
            ∙ sym (ap (λ c. if c then Some (g x) else cond (eq k (key v)) (Some v) (find (has_key eq key k) vs)) (other k v x u vs e found f.0)
            ∙ ap (λ c. cond c (Some v) (find (has_key eq key k) vs)) e)
        by false found false e f rest =
            ap (λ c. cond c (Some v) (find (has_key eq key k) (change_first u g vs))) e
            ∙ (rest found f.1 ∙ sym (ap (λ c. if eq k (key x) then Some (g x) else cond c (Some v) (find (has_key eq key k) vs)) e))

    pub find-mapped : (k : K) (vs : List V) → find (has_key eq key k) (map g vs) ≡ option_map g (find (has_key eq key k) vs)
    find-mapped k [] = refl
    find-mapped k (v ∷ vs) = ap (λ c. cond c (Some (g v)) (find (has_key eq key k) (map g vs))) (ap (eq k) (keeps v)) ∙ by (eq k (key v)) (find-mapped k vs)
      where
        by : (b : Bool) → find (has_key eq key k) (map g vs) ≡ option_map g (find (has_key eq key k) vs)
            → cond b (Some (g v)) (find (has_key eq key k) (map g vs)) ≡ option_map g (cond b (Some v) (find (has_key eq key k) vs))
        by true rest = refl
        by false rest = rest

  pub find-filtered : (keep : V → Bool) (k : K) (vs : List V) → are_distinct eq (map key vs) ≡ true
      → find (has_key eq key k) (filter keep vs) ≡ only keep (find (has_key eq key k) vs)
  find-filtered keep k [] h = refl
  find-filtered keep k (v ∷ vs) h = by (keep v) refl (eq k (key v)) refl (fresh v vs h) (find-filtered keep k vs)
    where
      by : (a : Bool) → keep v ≡ a → (b : Bool) → eq k (key v) ≡ b → Fresh v vs
          → (are_distinct eq (map key vs) ≡ true → find (has_key eq key k) (filter keep vs) ≡ only keep (find (has_key eq key k) vs))
          → find (has_key eq key k) (cond a (v ∷ filter keep vs) (filter keep vs)) ≡ only keep (cond (eq k (key v)) (Some v) (find (has_key eq key k) vs))
      by true d true e f rest = ap (λ c. cond c (Some v) (find (has_key eq key k) (filter keep vs))) e
          ∙ sym (ap (λ c. only keep (cond c (Some v) (find (has_key eq key k) vs))) e ∙ ap (λ c. if c then Some v else None) d)
      by true d false e f rest = ap (λ c. cond c (Some v) (find (has_key eq key k) (filter keep vs))) e
          ∙ (rest f.1 ∙ sym (ap (λ c. only keep (cond c (Some v) (find (has_key eq key k) vs))) e))
      by false d true e f rest =
          rest f.1 ∙ (ap (only keep) (gone k v vs e f.0) ∙ sym (ap (λ c. only keep (cond c (Some v) (find (has_key eq key k) vs))) e
          ∙ ap (λ c. if c then Some v else None) d))
      by false d false e f rest = rest f.1 ∙ sym (ap (λ c. only keep (cond c (Some v) (find (has_key eq key k) vs))) e)

  pub find-filter_mapped : (f : V → Option V) → ((v : V) → IfSome (f v) (λ w. key w ≡ key v)) → (k : K) (vs : List V) → are_distinct eq (map key vs) ≡ true
      → find (has_key eq key k) (filter_map f vs) ≡ option_and_then f (find (has_key eq key k) vs)
  find-filter_mapped f keeps k [] h = refl
  find-filter_mapped f keeps k (v ∷ vs) h = by (f v) refl (keeps v) (eq k (key v)) refl (fresh v vs h) (find-filter_mapped f keeps k vs)
    where
      by : (o : Option V) → f v ≡ o → IfSome o (λ w. key w ≡ key v) → (b : Bool) → eq k (key v) ≡ b → Fresh v vs
          → (are_distinct eq (map key vs) ≡ true → find (has_key eq key k) (filter_map f vs) ≡ option_and_then f (find (has_key eq key k) vs))
          → find (has_key eq key k) (cons_option o (filter_map f vs)) ≡ option_and_then f (cond (eq k (key v)) (Some v) (find (has_key eq key k) vs))
      by None d i true e n rest = rest n.1 ∙ (ap (option_and_then f) (gone k v vs e n.0)
          ∙ sym (ap (λ c. option_and_then f (cond c (Some v) (find (has_key eq key k) vs))) e ∙ d))
      by None d i false e n rest = rest n.1 ∙ sym (ap (λ c. option_and_then f (cond c (Some v) (find (has_key eq key k) vs))) e)
      by (Some w) d i true e n rest = ap (λ c. cond c (Some w) (find (has_key eq key k) (filter_map f vs))) (ap (eq k) i ∙ e)
          ∙ sym (ap (λ c. option_and_then f (cond c (Some v) (find (has_key eq key k) vs))) e ∙ d)
      by (Some w) d i false e n rest = ap (λ c. cond c (Some w) (find (has_key eq key k) (filter_map f vs))) (ap (eq k) i ∙ e)
          ∙ (rest n.1 ∙ sym (ap (λ c. option_and_then f (cond c (Some v) (find (has_key eq key k) vs))) e))
