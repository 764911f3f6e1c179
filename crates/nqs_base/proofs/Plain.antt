-- Small facts of numbers, tests and lists, for the proofs of all crates.
use Rattle.std.proofs.Common.{◌≡◌, ℕ, zero, suc, ◌+◌, ◌<◌, ◌≤◌, nat_lt, Bool, true, false, ◌&&◌, cond, List, [], ◌∷◌, ◌++◌, map, length, take, drop, find}
use Rattle.std.proofs.Common.{sum, get_or, slice_get, Option, None, Some, is_some, option_map, Result, Ok, Err, OnOk, IsErrOf, IsTrue, refl, sym, ap, ◌∙◌}
use Rattle.std.proofs.Common.{arith, length-append, ◌-◌, true≢false, ◌||◌, filter, subst}
use Rattle.std.specs.List.{list_all, AllByRecursion, list_any}
use Rattle.std.proofs.lemmas.Bool.{and_from, and_parts, or_from}
use Rattle.std.proofs.lemmas.Bool.Decides.{nat_tests}
use Rattle.std.proofs.lemmas.Option.{same_Some, none-some}
use Rattle.std.proofs.lemmas.List.{drop-drop, drop_at}
use Rattle.std.proofs.lemmas.List.Sums.{sum-map, sum_by-cons}

-- ---- numbers and tests

-- no number is below itself
pub lt_itself : (a : ℕ) → nat_lt a a ≡ false
lt_itself a = grind (arith, nat_tests)

-- of two numbers only one is below the other
pub no_two : {P : Type 0} (a b : ℕ) → a < b → b ≤ a → P
no_two a b less past = absurd (omega arith)

-- what is left of a number behind one below it, and behind another
pub one_left : (m k : ℕ) → nat_lt k m ≡ true → m - k ≡ suc (m - (k + 1))
one_left m k h = grind (arith, nat_tests)

pub none_left : (m k : ℕ) → nat_lt k m ≡ false → m - k ≡ 0
none_left m k h = grind (arith, nat_tests)

-- a test that passes doesn't fail
pub refuted : (test : Bool) → IsTrue test → test ≡ false → ⊥
refuted true is not = let never : ⊥ = cc in never
refuted false is not = let never : ⊥ = cc in never

-- of two tests that don't both pass, one of which does, the other doesn't
pub other_fails : (a b : Bool) → (a && b) ≡ false → b ≡ true → a ≡ false
other_fails true b h is = sym is ∙ h
other_fails false b h is = refl

-- ---- options and results

-- a value stands there where the one stands that it is made of
pub is_some-option_map : {V W : Type 0} (m : V → W) (o : Option V) → is_some (option_map m o) ≡ is_some o
is_some-option_map m None = refl
is_some-option_map m (Some v) = refl

-- the same error, of another answer
pub same_error : {T U E : Type 0} (d e : E) → IsErrOf {T = T} (Err d) e → IsErrOf {T = U} (Err d) e
same_error d e is = let same : d ≡ e = cc in ap Err same

-- what holds anyway holds of an answer
pub anyway : {T E P : Type 0} (r : Result T E) → P → OnOk r P
anyway (Ok x) p = p
anyway (Err e) p = tt

-- ---- lists

-- a place of a list is one of a longer list
pub longer : (n : ℕ) (bytes more : List ℕ) → n < length bytes → n < length (bytes ++ more)
longer n bytes more less = omega (arith, length-append bytes more, less)

-- bytes of a list are bytes of its front
pub taken : (n : ℕ) (bytes : List ℕ) → ((i : ℕ) → get_or bytes i 0 < 256) → (i : ℕ) → get_or (take n bytes) i 0 < 256
taken zero bytes fits i = omega arith
taken (suc n) [] fits i = omega arith
taken (suc n) (b ∷ bytes) fits zero = fits zero
taken (suc n) (b ∷ bytes) fits (suc i) = taken n bytes (λ j. fits (suc j)) i

-- what follows a part that stands at a place
pub rest_behind : (bytes : List ℕ) (place : ℕ) (field rest : List ℕ) → drop place bytes ≡ field ++ rest → drop (place + length field) bytes ≡ rest
rest_behind bytes place field rest is =
    sym (drop-drop (length field) place bytes)
    ∙ ap (λ (l : List ℕ). drop (length field) l) is
    ∙ drop_at field rest (length field) refl

-- what stands at a place
pub item_at : {V : Type 0} (vs : List V) (i : ℕ) → i < length vs → (v : V) × (slice_get vs i ≡ Some v)
item_at [] i lt = absurd (let no : ⊥ = omega arith in no)
item_at (x ∷ vs) zero lt = (x, refl)
item_at (x ∷ vs) (suc i) lt = item_at vs i (omega arith)

-- what is found passes the test
pub found_passes : {V : Type 0} (test : V → Bool) (vs : List V) (v : V) → find test vs ≡ Some v → test v ≡ true
found_passes test [] v h = absurd (none-some v h)
found_passes test (x ∷ vs) v h = by (test x) refl (found_passes test vs v) h
  where
    by : (b : Bool) → test x ≡ b → (find test vs ≡ Some v → test v ≡ true) → cond b (Some x) (find test vs) ≡ Some v → test v ≡ true
    by true e rest h = ap test (sym (same_Some x v h)) ∙ e
    by false e rest h = rest h

-- what is found and kept is found in what is kept
pub find_in_filter : {V : Type 0} (test keep : V → Bool) (vs : List V) (v : V) → find test vs ≡ Some v → keep v ≡ true → find test (filter keep vs) ≡ Some v
find_in_filter test keep [] v e k = absurd (none-some v e)
find_in_filter test keep (x ∷ vs) v e k = by (keep x) refl (test x) refl e (find_in_filter test keep vs v)
  where
    by : (a : Bool) → keep x ≡ a → (b : Bool) → test x ≡ b → cond b (Some x) (find test vs) ≡ Some v
        → (find test vs ≡ Some v → keep v ≡ true → find test (filter keep vs) ≡ Some v) → find test (cond a (x ∷ filter keep vs) (filter keep vs)) ≡ Some v
    by true f true g e rest = ap (λ b. cond b (Some x) (find test (filter keep vs))) g ∙ e
    by true f false g e rest = ap (λ b. cond b (Some x) (find test (filter keep vs))) g ∙ rest e k
    by false f true g e rest = absurd (true≢false (sym k ∙ (ap keep (sym (same_Some x v e)) ∙ f)))
    by false f false g e rest = rest e k

-- a test is passed by one of those that are kept where it is by one of all, if all that pass are
-- kept
pub any_kept : {V : Type 0} (test keep : V → Bool) → ((v : V) → test v ≡ true → keep v ≡ true) → (vs : List V) → list_any test (filter keep vs)
    ≡ list_any test vs
any_kept test keep wide [] = refl
any_kept test keep wide (x ∷ vs) = by (keep x) refl (test x) refl (any_kept test keep wide vs)
  where
    by : (b : Bool) → keep x ≡ b → (c : Bool) → test x ≡ c → list_any test (filter keep vs) ≡ list_any test vs
        → list_any test (cond b (x ∷ filter keep vs) (filter keep vs)) ≡ (c || list_any test vs)
    by true e c k rest = (λ j. k j || rest j)
    by false e true k rest = absurd (true≢false (sym (wide x k) ∙ e))
    by false e false k rest = rest

-- none passes what the one at each place doesn't
pub any_false : {V : Type 0} (p : V → Bool) (vs : List V) → ((n : ℕ) (v : V) → slice_get vs n ≡ Some v → p v ≡ false) → list_any p vs ≡ false
any_false p [] none = refl
any_false p (v ∷ vs) none = or_from (p v) (list_any p vs) (none 0 v refl) (any_false p vs (λ n w at. none (suc n) w at))

-- where nothing passes a test, nothing passes a narrower one
pub none_narrower : {V : Type 0} (t u : V → Bool) → ((v : V) → t v ≡ false → u v ≡ false) → (vs : List V) → list_any t vs ≡ false → list_any u vs ≡ false
none_narrower t u narrower [] none = refl
none_narrower t u narrower (x ∷ vs) none = by (t x) refl none (none_narrower t u narrower vs)
  where
    by : (b : Bool) → t x ≡ b → (b || list_any t vs) ≡ false → (list_any t vs ≡ false → list_any u vs ≡ false) → list_any u (x ∷ vs) ≡ false
    by true e none rest = absurd (true≢false none)
    by false e none rest = ap (λ b. b || list_any u vs) (narrower x e) ∙ rest none

-- all pass what each passes
pub all-true : {V : Type 0} (vs : List V) → list_all (λ _. true) vs ≡ true
all-true [] = refl
all-true (v ∷ vs) = all-true vs

-- all pass what the one at each place passes
pub all_places : {V : Type 0} (p : V → Bool) (vs : List V) → ((n : ℕ) (v : V) → slice_get vs n ≡ Some v → p v ≡ true) → list_all p vs ≡ true
all_places p [] h = refl
all_places p (v ∷ vs) h = and_from (p v) (list_all p vs) (h 0 v refl) (all_places p vs (λ n w e. h (suc n) w e))

-- what follows from what each has, each has
pub all_weaker : {V : Type 0} (P Q : V → Type 0) → ((v : V) → P v → Q v) → (vs : List V) → AllByRecursion P vs → AllByRecursion Q vs
all_weaker P Q f [] all = tt
all_weaker P Q f (v ∷ vs) all = (f v all.0, all_weaker P Q f vs all.1)

-- what each has, the one at a place has
pub all_at : {V : Type 0} (P : V → Type 0) (vs : List V) (n : ℕ) (v : V) → AllByRecursion P vs → slice_get vs n ≡ Some v → P v
all_at P [] n v all e = absurd (none-some v e)
all_at P (x ∷ vs) zero v all e = subst P (same_Some x v e) all.0
all_at P (x ∷ vs) (suc n) v all e = all_at P vs n v all.1 e

-- what each that passes a test has
pub each_is : {V : Type 0} (p : V → Bool) (Is : V → Type 0) → ((v : V) → p v ≡ true → Is v) → (vs : List V) → list_all p vs ≡ true → AllByRecursion Is vs
each_is p Is to [] all = tt
each_is p Is to (v ∷ vs) all = let k = and_parts (p v) (list_all p vs) all in (to v k.0, each_is p Is to vs k.1)

-- the test that each that has something passes
pub all_pass : {V : Type 0} (P : V → Type 0) (q : V → Bool) → ((v : V) → P v → q v ≡ true) → (vs : List V) → AllByRecursion P vs → list_all q vs ≡ true
all_pass P q to [] all = refl
all_pass P q to (v ∷ vs) all = and_from (q v) (list_all q vs) (to v all.0) (all_pass P q to vs all.1)

-- a sum, its first part aside
pub sum_cons : {V : Type 0} (w : V → ℕ) (v : V) (vs : List V) → sum (map w (v ∷ vs)) ≡ w v + sum (map w vs)
sum_cons w v vs = sum-map w (v ∷ vs) ∙ sum_by-cons w v vs ∙ ap (λ n. w v + n) (sym (sum-map w vs))
