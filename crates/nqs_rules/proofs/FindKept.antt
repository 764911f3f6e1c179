-- What a test finds in a list stays found, where the list changes by what the test doesn't see.
use Rattle.std.proofs.Common.{◌≡◌, Bool, true, false, cond, List, [], ◌∷◌, map, filter, find, Option, None, Some, true≢false, refl, sym, ap, ◌∙◌, if◌then◌else◌}
use Rattle.std.proofs.lemmas.Bool.{and_parts, and_from}
use Rattle.std.specs.List.{list_all, filter_map, cons_option}
use Rattle.std.specs.Option.{IfSome}
use Rattle.nqs_base_tables.specs.Table.{change_first}
use Rattle.nqs_rules.specs.Tests.{passes}

module _ {V : Type 0} (t p : V → Bool) where
  pub find-filter_kept : (keep : V → Bool) → ((v : V) → p v ≡ true → keep v ≡ true) → (vs : List V) → passes p (find t vs) ≡ true
      → passes p (find t (filter keep vs)) ≡ true
  find-filter_kept keep stays [] h = h
  find-filter_kept keep stays (x ∷ vs) h = by (t x) refl (keep x) refl h (find-filter_kept keep stays vs)
    where
      by : (b : Bool) → t x ≡ b → (c : Bool) → keep x ≡ c → passes p (cond b (Some x) (find t vs)) ≡ true
          → (passes p (find t vs) ≡ true → passes p (find t (filter keep vs)) ≡ true) → passes p (find t (cond c (x ∷ filter keep vs) (filter keep vs))) ≡ true
      by true e true f h rest = ap (λ b. passes p (cond b (Some x) (find t (filter keep vs)))) e ∙ h
      by true e false f h rest = absurd (true≢false (sym (stays x h) ∙ f))
      by false e true f h rest = ap (λ b. passes p (cond b (Some x) (find t (filter keep vs)))) e ∙ rest h
      by false e false f h rest = rest h

  pub find-filter_map_kept : (f : V → Option V) → ((v : V) → p v ≡ true → f v ≡ Some v) → ((v : V) → IfSome (f v) (λ w. t w ≡ t v)) → (vs : List V)
      → passes p (find t vs) ≡ true → passes p (find t (filter_map f vs)) ≡ true
  find-filter_map_kept f stays same [] h = h
  find-filter_map_kept f stays same (x ∷ vs) h = by (t x) refl (f x) refl (same x) h (find-filter_map_kept f stays same vs)
    where
      by : (b : Bool) → t x ≡ b → (o : Option V) → f x ≡ o → IfSome o (λ w. t w ≡ t x) → passes p (cond b (Some x) (find t vs)) ≡ true
          → (passes p (find t vs) ≡ true → passes p (find t (filter_map f vs)) ≡ true) → passes p (find t (cons_option o (filter_map f vs))) ≡ true
      by true e o g k h rest = ap (λ n. passes p (find t (cons_option n (filter_map f vs)))) (sym g ∙ stays x h)
          ∙ ap (λ b. passes p (cond b (Some x) (find t (filter_map f vs)))) e ∙ h
      by false e None g k h rest = rest h
      by false e (Some w) g k h rest = ap (λ b. passes p (cond b (Some w) (find t (filter_map f vs)))) (k ∙ e) ∙ rest h

  pub find-map_kept : (g : V → V) → ((v : V) → t (g v) ≡ t v) → ((v : V) → p (g v) ≡ p v) → (vs : List V) → passes p (find t (map g vs)) ≡ passes p (find t vs)
  find-map_kept g same keeps [] = refl
  find-map_kept g same keeps (x ∷ vs) = ap (λ b. passes p (cond b (Some (g x)) (find t (map g vs)))) (same x) ∙ by (t x) (find-map_kept g same keeps vs)
    where
      by : (b : Bool) → passes p (find t (map g vs)) ≡ passes p (find t vs)
          → passes p (cond b (Some (g x)) (find t (map g vs))) ≡ passes p (cond b (Some x) (find t vs))
      by true rest = keeps x
      by false rest = rest

  pub find-changed_kept : (u : V → Bool) (g : V → V) → ((v : V) → t (g v) ≡ t v) → ((v : V) → p (g v) ≡ p v) → (vs : List V)
      → passes p (find t (change_first u g vs)) ≡ passes p (find t vs)
  find-changed_kept u g same keeps [] = refl
  find-changed_kept u g same keeps (x ∷ vs) = by (u x) (find-changed_kept u g same keeps vs)
    where
      here : (b : Bool) → passes p (cond b (Some (g x)) (find t vs)) ≡ passes p (cond b (Some x) (find t vs))
      here true = keeps x
      here false = refl

      there : (b : Bool) → passes p (find t (change_first u g vs)) ≡ passes p (find t vs)
          → passes p (cond b (Some x) (find t (change_first u g vs))) ≡ passes p (cond b (Some x) (find t vs))
      there true rest = refl
      there false rest = rest

      by : (b : Bool) → passes p (find t (change_first u g vs)) ≡ passes p (find t vs)
          → passes p (find t (if b then g x ∷ vs else x ∷ change_first u g vs)) ≡ passes p (find t (x ∷ vs))
      by true rest = ap (λ b. passes p (cond b (Some (g x)) (find t vs))) (same x) ∙ here (t x)
      by false rest = there (t x) rest

pub all-filter_map : {V : Type 0} (p q : V → Bool) (f : V → Option V) → ((v : V) → p v ≡ true → IfSome (f v) (λ w. q w ≡ true)) → (vs : List V)
    → list_all p vs ≡ true → list_all q (filter_map f vs) ≡ true
all-filter_map p q f keeps [] h = refl
all-filter_map p q f keeps (x ∷ vs) h = let k = and_parts (p x) (list_all p vs) h in by (f x) (keeps x k.0) (all-filter_map p q f keeps vs k.1)
  where
    by : (o : Option _) → IfSome o (λ w. q w ≡ true) → list_all q (filter_map f vs) ≡ true → list_all q (cons_option o (filter_map f vs)) ≡ true
    by None e rest = rest
    by (Some w) e rest = and_from (q w) (list_all q (filter_map f vs)) e rest

pub all-mapped : {V W : Type 0} (p : V → Bool) (u : W → Bool) (g : V → W) → ((v : V) → p v ≡ true → u (g v) ≡ true) → (vs : List V) → list_all p vs ≡ true
    → list_all u (map g vs) ≡ true
all-mapped p u g keeps [] h = refl
all-mapped p u g keeps (x ∷ vs) h = let k = and_parts (p x) (list_all p vs) h in
    and_from (u (g x)) (list_all u (map g vs)) (keeps x k.0) (all-mapped p u g keeps vs k.1)

pub map-kept : {V K : Type 0} (key : V → K) (g : V → V) → ((v : V) → key (g v) ≡ key v) → (vs : List V) → map key (map g vs) ≡ map key vs
map-kept key g same [] = refl
map-kept key g same (x ∷ vs) = (λ j. same x j ∷ map-kept key g same vs j)
