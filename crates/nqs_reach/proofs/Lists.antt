-- What a test keeps of a list, where the list changes at what the test doesn't keep.
use Rattle.std.proofs.Common.{◌≡◌, ℕ, ◌+◌, Bool, true, false, cond, ◌||◌, List, [], ◌∷◌, ◌++◌, filter, find, Option, None, Some, true≢false, refl}
use Rattle.std.proofs.Common.{sym, ap, ◌∙◌}
use Rattle.std.proofs.Common.{if◌then◌else◌}
use Rattle.std.proofs.lemmas.Bool.{or_parts, or_from, false_from_ne_true}
use Rattle.std.proofs.lemmas.Option.{same_Some, none-some}
use Rattle.std.specs.List.{list_any}
use Rattle.std.specs.Option.{IfSome}
use Rattle.nqs_base_tables.specs.Table.{change_first, without_first, better, best_from}

module _ {V : Type 0} where
  -- what is kept

  pub kept_none : (keep test : V → Bool) → ((v : V) → test v ≡ true → keep v ≡ false) → (vs : List V) → list_any test (filter keep vs) ≡ false
  kept_none keep test other [] = refl
  kept_none keep test other (x ∷ vs) = by (keep x) refl (kept_none keep test other vs)
    where
      by : (b : Bool) → keep x ≡ b → list_any test (filter keep vs) ≡ false → list_any test (cond b (x ∷ filter keep vs) (filter keep vs)) ≡ false
      by true e rest = or_from (test x) (list_any test (filter keep vs)) (false_from_ne_true (test x) (λ h. true≢false (sym e ∙ other x h))) rest
      by false e rest = rest

  pub kept_without : (keep test : V → Bool) (vs : List V) → list_any test (filter keep vs) ≡ false → filter keep (without_first test vs) ≡ filter keep vs
  kept_without keep test [] none = refl
  kept_without keep test (x ∷ vs) none = by (test x) refl (keep x) refl none (kept_without keep test vs)
    where
      by : (b : Bool) → test x ≡ b → (c : Bool) → keep x ≡ c → list_any test (cond c (x ∷ filter keep vs) (filter keep vs)) ≡ false
          → (list_any test (filter keep vs) ≡ false → filter keep (without_first test vs) ≡ filter keep vs)
          → filter keep (if b then vs else x ∷ without_first test vs) ≡ cond c (x ∷ filter keep vs) (filter keep vs)
      by true e true k none rest = absurd (true≢false (sym e ∙ (or_parts (test x) (list_any test (filter keep vs)) none).0))
      by true e false k none rest = refl
      by false e true k none rest = ap (λ c. cond c (x ∷ filter keep (without_first test vs)) (filter keep (without_first test vs))) k
          ∙ ap (λ l. x ∷ l) (rest (or_parts (test x) (list_any test (filter keep vs)) none).1)
      by false e false k none rest = ap (λ c. cond c (x ∷ filter keep (without_first test vs)) (filter keep (without_first test vs))) k ∙ rest none

  pub kept_changed : (keep test : V → Bool) (f : V → V) → ((v : V) → keep v ≡ false → keep (f v) ≡ false) → (vs : List V)
      → list_any test (filter keep vs) ≡ false → filter keep (change_first test f vs) ≡ filter keep vs
  kept_changed keep test f still [] none = refl
  kept_changed keep test f still (x ∷ vs) none = by (test x) refl (keep x) refl none (kept_changed keep test f still vs)
    where
      by : (b : Bool) → test x ≡ b → (c : Bool) → keep x ≡ c → list_any test (cond c (x ∷ filter keep vs) (filter keep vs)) ≡ false
          → (list_any test (filter keep vs) ≡ false → filter keep (change_first test f vs) ≡ filter keep vs)
          → filter keep (if b then f x ∷ vs else x ∷ change_first test f vs) ≡ cond c (x ∷ filter keep vs) (filter keep vs)
      by true e true k none rest = absurd (true≢false (sym e ∙ (or_parts (test x) (list_any test (filter keep vs)) none).0))
      by true e false k none rest = ap (λ c. cond c (f x ∷ filter keep vs) (filter keep vs)) (still x k)
      by false e true k none rest = ap (λ c. cond c (x ∷ filter keep (change_first test f vs)) (filter keep (change_first test f vs))) k
          ∙ ap (λ l. x ∷ l) (rest (or_parts (test x) (list_any test (filter keep vs)) none).1)
      by false e false k none rest = ap (λ c. cond c (x ∷ filter keep (change_first test f vs)) (filter keep (change_first test f vs))) k ∙ rest none

  pub kept_filter : (keep wider : V → Bool) → ((v : V) → keep v ≡ true → wider v ≡ true) → (vs : List V) → filter keep (filter wider vs) ≡ filter keep vs
  kept_filter keep wider wide [] = refl
  kept_filter keep wider wide (x ∷ vs) = by (keep x) refl (wider x) refl (kept_filter keep wider wide vs)
    where
      by : (b : Bool) → keep x ≡ b → (c : Bool) → wider x ≡ c → filter keep (filter wider vs) ≡ filter keep vs
          → filter keep (cond c (x ∷ filter wider vs) (filter wider vs)) ≡ cond b (x ∷ filter keep vs) (filter keep vs)
      by true e true k rest = ap (λ b. cond b (x ∷ filter keep (filter wider vs)) (filter keep (filter wider vs))) e ∙ ap (λ l. x ∷ l) rest
      by true e false k rest = absurd (true≢false (sym (wide x e) ∙ k))
      by false e true k rest = ap (λ b. cond b (x ∷ filter keep (filter wider vs)) (filter keep (filter wider vs))) e ∙ rest
      by false e false k rest = rest

  pub kept_added : (keep : V → Bool) (vs : List V) (v : V) → keep v ≡ false → filter keep (vs ++ v ∷ []) ≡ filter keep vs
  kept_added keep [] v other = ap (λ b. cond b (v ∷ []) []) other
  kept_added keep (x ∷ vs) v other = by (keep x) (kept_added keep vs v other)
    where
      by : (b : Bool) → filter keep (vs ++ v ∷ []) ≡ filter keep vs
          → cond b (x ∷ filter keep (vs ++ v ∷ [])) (filter keep (vs ++ v ∷ [])) ≡ cond b (x ∷ filter keep vs) (filter keep vs)
      by true rest = ap (λ l. x ∷ l) rest
      by false rest = rest

  -- what some or none pass

  pub find_kept : (test keep : V → Bool) → ((v : V) → test v ≡ true → keep v ≡ true) → (vs : List V) → find test (filter keep vs) ≡ find test vs
  find_kept test keep wide [] = refl
  find_kept test keep wide (x ∷ vs) = by (keep x) refl (test x) refl (find_kept test keep wide vs)
    where
      by : (b : Bool) → keep x ≡ b → (c : Bool) → test x ≡ c → find test (filter keep vs) ≡ find test vs
          → find test (cond b (x ∷ filter keep vs) (filter keep vs)) ≡ cond c (Some x) (find test vs)
      by true e c k rest = (λ j. cond (k j) (Some x) (rest j))
      by false e true k rest = absurd (true≢false (sym (wide x k) ∙ e))
      by false e false k rest = rest

  pub any_of_found : (test other : V → Bool) (vs : List V) (v : V) → find test vs ≡ Some v → other v ≡ true → list_any other vs ≡ true
  any_of_found test other [] v found h = absurd (none-some v found)
  any_of_found test other (x ∷ vs) v found h = by (test x) found (any_of_found test other vs v) (other x) refl
    where
      by : (b : Bool) → cond b (Some x) (find test vs) ≡ Some v → (find test vs ≡ Some v → other v ≡ true → list_any other vs ≡ true)
          → (c : Bool) → other x ≡ c → (c || list_any other vs) ≡ true
      by b found rest true k = refl
      by true found rest false k = absurd (true≢false (sym h ∙ ap other (sym (same_Some x v found)) ∙ k))
      by false found rest false k = rest found h

  -- what is found stays found as more comes behind
  pub found_before : (test : V → Bool) (vs more : List V) (v : V) → find test vs ≡ Some v → find test (vs ++ more) ≡ Some v
  found_before test [] more v found = absurd (none-some v found)
  found_before test (x ∷ vs) more v found = by (test x) found (found_before test vs more v)
    where
      by : (b : Bool) → cond b (Some x) (find test vs) ≡ Some v → (find test vs ≡ Some v → find test (vs ++ more) ≡ Some v)
          → cond b (Some x) (find test (vs ++ more)) ≡ Some v
      by true found rest = found
      by false found rest = rest found

  -- the best of those that pass a test passes it
  pub best_passes : (test : V → Bool) (beats : V → V → Bool) (n : ℕ) (vs : List V) → IfSome (best_from test beats n vs) (λ p. test p.1 ≡ true)
  best_passes test beats n [] = tt
  best_passes test beats n (x ∷ vs) = by (test x) refl (best_from test beats (n + 1) vs) (best_passes test beats (n + 1) vs)
    where
      Right : Option (ℕ × V) → Type 0
      Right o = IfSome o (λ p. test p.1 ≡ true)

      one : (p : ℕ × V) → test p.1 ≡ true → test x ≡ true → (b : Bool) → Right (if b then Some p else Some (n, x))
      one p k e true = k
      one p k e false = e

      of : (o : Option (ℕ × V)) → Right o → test x ≡ true → Right (better beats (n, x) o)
      of None k e = e
      of (Some p) k e = one p k e (beats p.1 x)

      by : (b : Bool) → test x ≡ b → (o : Option (ℕ × V)) → Right o → Right (if b then better beats (n, x) o else o)
      by true e o k = of o k e
      by false e o k = k

  pub any_changed : (test other : V → Bool) (f : V → V) (vs : List V) (v : V) → find test vs ≡ Some v → other (f v) ≡ true
      → list_any other (change_first test f vs) ≡ true
  any_changed test other f [] v found h = absurd (none-some v found)
  any_changed test other f (x ∷ vs) v found h = by (test x) found (any_changed test other f vs v)
    where
      behind : (c : Bool) → list_any other (change_first test f vs) ≡ true → (c || list_any other (change_first test f vs)) ≡ true
      behind true e = refl
      behind false e = e

      by : (b : Bool) → cond b (Some x) (find test vs) ≡ Some v
          → (find test vs ≡ Some v → other (f v) ≡ true → list_any other (change_first test f vs) ≡ true)
          → list_any other (if b then f x ∷ vs else x ∷ change_first test f vs) ≡ true
      by true found rest = ap (λ b. b || list_any other vs) (ap (λ y. other (f y)) (same_Some x v found) ∙ h)
      by false found rest = behind (other x) (rest found h)

  pub none_changed : (test other : V → Bool) (f : V → V) → ((v : V) → other (f v) ≡ false) → (vs : List V) → list_any other vs ≡ false
      → list_any other (change_first test f vs) ≡ false
  none_changed test other f never [] none = refl
  none_changed test other f never (x ∷ vs) none = by (test x) (or_parts (other x) (list_any other vs) none) (none_changed test other f never vs)
    where
      by : (b : Bool) → (other x ≡ false) × (list_any other vs ≡ false) → (list_any other vs ≡ false → list_any other (change_first test f vs) ≡ false)
          → list_any other (if b then f x ∷ vs else x ∷ change_first test f vs) ≡ false
      by true p rest = or_from (other (f x)) (list_any other vs) (never x) p.1
      by false p rest = or_from (other x) (list_any other (change_first test f vs)) p.0 (rest p.1)
