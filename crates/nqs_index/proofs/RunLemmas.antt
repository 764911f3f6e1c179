-- The running requests: one that ends, and the least of them.
use Rattle.std.proofs.Common.{◌≡◌, ℕ, zero, suc, ◌+◌, ◌-◌, ◌<◌, ◌≤◌, ◌==◌, Bool, true, false, ◌||◌, List, [], ◌∷◌, ◌++◌}
use Rattle.std.proofs.Common.{find, Option, None, Some, IfSome, IfNone}
use Rattle.std.proofs.Common.{refl, sym, ap, ◌∙◌, arith, if◌then◌else◌, true≢false}
use Rattle.std.specs.Prelude.{cond}
use Rattle.std.specs.List.{list_any}
use Rattle.std.proofs.lemmas.Option.{same_Some, none-some}
use Rattle.nqs_base.specs.Same.{number_exact}
use Rattle.std.proofs.lemmas.Bool.{and_from}
use Rattle.std.proofs.lemmas.Bool.Decides.{nat_tests}
use Rattle.std.proofs.lemmas.Cmp.{nat_eq_equiv}
use Rattle.std.specs.Option.{option_map}
use Rattle.nqs_base_tables.specs.Table.{change_first, without_first, better, best_from}
use Rattle.nqs_types.specs.Ids.{id_eq, id_exact}
use Rattle.nqs_types.specs.declared.ids.RequestId.{RequestId}
use Rattle.nqs_index.specs.declared.runs.Run.{Run}
use Rattle.nqs_index.specs.Numbers.{number, IsMore}
use Rattle.nqs_index.specs.Runs.{is_less_id, is_run, is_single, ids_of, times, with_more, with_fewer, least_of, IsLeast}
use Rattle.nqs_index.specs.Tallies.{one}
use Rattle.nqs_index.proofs.Numbers.{number-cons, number_under}

-- one more of a request is one more by each test
module _ (p : RequestId → Bool) (id : RequestId) where
  one_of : (xs : List RequestId) → number p (id ∷ xs) ≡ number p xs + one (p id)
  one_of xs = number-cons p id xs

  -- what the rest has more is more behind a request, however often it stands
  behind_times : (n d : ℕ) (xs ys : List RequestId) → number p ys ≡ number p xs + d → number p (times n id ys) ≡ number p (times n id xs) + d
  behind_times zero d xs ys more = more
  behind_times (suc n) d xs ys more =
      let rest = behind_times n d xs ys more in
      let i = one_of (times n id xs) in
      let j = one_of (times n id ys) in
      omega (arith, rest, i, j)

  -- what the rest has is there
  within_times : (n : ℕ) (xs : List RequestId) → number p xs ≤ number p (times n id xs)
  within_times zero xs = omega arith
  within_times (suc n) xs =
      let rest = within_times n xs in
      let i = one_of (times n id xs) in
      omega (arith, rest, i)

  -- a request that passes does so as often as it stands there
  many_times : (n : ℕ) (xs : List RequestId) → p id ≡ true → n ≤ number p (times n id xs)
  many_times zero xs passes = omega arith
  many_times (suc n) xs passes =
      let rest = many_times n xs passes in
      let i : number p (id ∷ times n id xs) ≡ number p (times n id xs) + 1 = one_of (times n id xs) ∙ (λ j. number p (times n id xs) + one (passes j)) in
      omega (arith, rest, i)

  -- one that doesn't adds none
  none_times : (n : ℕ) (xs : List RequestId) → p id ≡ false → number p xs ≡ 0 → number p (times n id xs) ≡ 0
  none_times zero xs fails none = none
  none_times (suc n) xs fails none = one_of (times n id xs) ∙ (λ j. none_times n xs fails none j + one (fails j))

-- a request of which none runs comes behind the others
pub run_added : (id : RequestId) (runs : List Run) → IsMore id (ids_of runs) (ids_of (runs ++ record { id = id; more = 0 } ∷ []))
run_added id [] p = number-cons p id []
run_added id (r ∷ rs) p = behind_times p r.id (suc r.more) (one (p id)) (ids_of rs) (ids_of (rs ++ record { id = id; more = 0 } ∷ [])) (run_added id rs p)

-- a run that is found is of no more rows than there are
pub run_within : (id : RequestId) (runs : List Run) (r : Run) → find (is_run id) runs ≡ Some r → r.more + 1 ≤ number (id_eq id) (ids_of runs)
run_within id [] r h = absurd (none-some r h)
run_within id (x ∷ xs) r h = by (id_eq id x.id) refl (run_within id xs r) h
  where
    by : (b : Bool) → id_eq id x.id ≡ b → (find (is_run id) xs ≡ Some r → r.more + 1 ≤ number (id_eq id) (ids_of xs))
        → cond b (Some x) (find (is_run id) xs) ≡ Some r → r.more + 1 ≤ number (id_eq id) (times (suc x.more) x.id (ids_of xs))
    by true e rest h =
        let same : x.more ≡ r.more = ap (λ (r : Run). r.more) (same_Some x r h) in
        let all = many_times (id_eq id) x.id (suc x.more) (ids_of xs) e in
        omega (arith, same, all)
    by false e rest h =
        let k = rest h in
        let all = within_times (id_eq id) x.id (suc x.more) (ids_of xs) in
        omega (arith, k, all)

-- one row more of a request that runs
pub run_raised : (id : RequestId) (runs : List Run) → list_any (is_run id) runs ≡ true
    → IsMore id (ids_of runs) (ids_of (change_first (is_run id) with_more runs))
run_raised id [] there p = absurd (true≢false (sym there))
run_raised id (r ∷ rs) there p = by (id_eq id r.id) refl (λ h. run_raised id rs h p) there
  where
    by : (b : Bool) → id_eq id r.id ≡ b
        → (list_any (is_run id) rs ≡ true → number p (ids_of (change_first (is_run id) with_more rs)) ≡ number p (ids_of rs) + one (p id))
        → (b || list_any (is_run id) rs) ≡ true
        → number p (ids_of (if b then with_more r ∷ rs else r ∷ change_first (is_run id) with_more rs)) ≡ number p (ids_of (r ∷ rs)) + one (p id)
    by true e rest h = number-cons p r.id (times (suc r.more) r.id (ids_of rs)) ∙ ap (λ x. number p (ids_of (r ∷ rs)) + one (p x)) (sym (id_exact id r.id e))
    by false e rest h = behind_times p r.id (suc r.more) (one (p id)) (ids_of rs) (ids_of (change_first (is_run id) with_more rs)) (rest h)

-- none of a request's rows are behind others of another
behind_others : (id : RequestId) (r : Run) (rs : List Run) → id_eq id r.id ≡ false → 0 < number (id_eq id) (ids_of (r ∷ rs)) → 0 < number (id_eq id) (ids_of rs)
behind_others id r rs other some = by (number (id_eq id) (ids_of rs)) refl
  where
    by : (n : ℕ) → number (id_eq id) (ids_of rs) ≡ n → 0 < n
    by zero none =
        let all = none_times (id_eq id) r.id (suc r.more) (ids_of rs) other none in
        absurd (let no : ⊥ = omega (arith, some, all) in no)
    by (suc n) _ = omega arith

-- the only row of a request ends
pub run_gone : (id : RequestId) (runs : List Run) → is_single (find (is_run id) runs) ≡ true → 0 < number (id_eq id) (ids_of runs)
    → IsMore id (ids_of (without_first (is_run id) runs)) (ids_of runs)
run_gone id [] single some p = absurd (let no : ⊥ = omega arith in no)
run_gone id (r ∷ rs) single some p = by (id_eq id r.id) refl (λ h there. run_gone id rs h there p) single
  where
    by : (b : Bool) → id_eq id r.id ≡ b → (is_single (find (is_run id) rs) ≡ true → 0 < number (id_eq id) (ids_of rs)
        → number p (ids_of rs) ≡ number p (ids_of (without_first (is_run id) rs)) + one (p id)) → is_single (cond b (Some r) (find (is_run id) rs)) ≡ true
        → number p (ids_of (r ∷ rs)) ≡ number p (ids_of (if b then rs else r ∷ without_first (is_run id) rs)) + one (p id)
    by true e rest h =
        ap (λ n. number p (times (suc n) r.id (ids_of rs))) (number_exact r.more 0 h) ∙ number-cons p r.id (ids_of rs)
        ∙ ap (λ x. number p (ids_of rs) + one (p x)) (sym (id_exact id r.id e))
    by false e rest h = behind_times p r.id (suc r.more) (one (p id)) (ids_of (without_first (is_run id) rs)) (ids_of rs)
        (rest h (behind_others id r rs e some))

-- one of a request's rows ends, and others go on
pub run_lowered : (id : RequestId) (runs : List Run) → is_single (find (is_run id) runs) ≡ false
    → IsMore id (ids_of (change_first (is_run id) with_fewer runs)) (ids_of runs)
run_lowered id [] others p = absurd (true≢false others)
run_lowered id (r ∷ rs) others p = by (id_eq id r.id) refl (λ h. run_lowered id rs h p) others
  where
    here : (n : ℕ) → (n == 0) ≡ false → number p (times (suc n) r.id (ids_of rs)) ≡ number p (times (suc (n - 1)) r.id (ids_of rs)) + one (p r.id)
    here zero h = absurd (true≢false h)
    here (suc n) h =
        let less : n ≡ suc n - 1 = omega arith in
        number-cons p r.id (times (suc n) r.id (ids_of rs)) ∙ ap (λ m. number p (times (suc m) r.id (ids_of rs)) + one (p r.id)) less

    by : (b : Bool) → id_eq id r.id ≡ b → (is_single (find (is_run id) rs) ≡ false
        → number p (ids_of rs) ≡ number p (ids_of (change_first (is_run id) with_fewer rs)) + one (p id))
        → is_single (cond b (Some r) (find (is_run id) rs)) ≡ false
        → number p (ids_of (r ∷ rs)) ≡ number p (ids_of (if b then with_fewer r ∷ rs else r ∷ change_first (is_run id) with_fewer rs)) + one (p id)
    by true e rest h = here r.more h ∙ ap (λ x. number p (ids_of (with_fewer r ∷ rs)) + one (p x)) (sym (id_exact id r.id e))
    by false e rest h = behind_times p r.id (suc r.more) (one (p id)) (ids_of (change_first (is_run id) with_fewer rs)) (ids_of rs) (rest h)

less_itself : (a : RequestId) → is_less_id a a ≡ false
less_itself a = grind (arith, nat_tests)

less_once : (a b : RequestId) → is_less_id a b ≡ true → is_less_id b a ≡ false
less_once a b one = grind (arith, nat_tests)

less_chain : (x y z : RequestId) → is_less_id x y ≡ false → is_less_id y z ≡ false → is_less_id x z ≡ false
less_chain x y z one two = grind (arith, nat_tests)

-- a request is itself
pub id_itself : (a : RequestId) → id_eq a a ≡ true
id_itself a = and_from (a.seq == a.seq) (a.host.0 == a.host.0) (nat_eq_equiv.refl a.seq) (nat_eq_equiv.refl a.host.0)

-- what the best of the runs is
abbrev LeastOf : List Run → Option (ℕ × Run) → Type 0
LeastOf rs None = ids_of rs ≡ []
LeastOf rs (Some x) = IsLeast x.1.id (ids_of rs)

here : (r : Run) (rs : List Run) → 0 < number (id_eq r.id) (ids_of (r ∷ rs))
here r rs =
    let i = many_times (id_eq r.id) r.id (suc r.more) (ids_of rs) (id_itself r.id) in
    omega (arith, i)

law : (n : ℕ) (rs : List Run) → LeastOf rs (best_from (λ (_ : Run). true) (λ a b. is_less_id a.id b.id) n rs)
law n [] = refl
law n (r ∷ rs) = by (best_from (λ (_ : Run). true) (λ a b. is_less_id a.id b.id) (n + 1) rs) (law (n + 1) rs)
  where
    one_more : (id : RequestId) → number (λ o. is_less_id o id) (ids_of rs) ≡ 0 → is_less_id r.id id ≡ false
        → number (λ o. is_less_id o id) (ids_of (r ∷ rs)) ≡ 0
    one_more id none isnt = none_times (λ o. is_less_id o id) r.id (suc r.more) (ids_of rs) isnt none

    of : (y : ℕ × Run) → IsLeast y.1.id (ids_of rs) → (b : Bool) → is_less_id y.1.id r.id ≡ b → LeastOf (r ∷ rs) (if b then Some y else Some (n, r))
    of y is true e =
        let i = within_times (id_eq y.1.id) r.id (suc r.more) (ids_of rs) in
        let there = is.0 in
        (omega (arith, i, there), one_more y.1.id is.1 (less_once y.1.id r.id e))
    of y is false e = (
      here r rs,
      one_more r.id
          (number_under (λ o. is_less_id o y.1.id) (λ o. is_less_id o r.id) (λ o h. less_chain o y.1.id r.id h e) (ids_of rs) is.1) (less_itself r.id),
    )

    by : (o : Option (ℕ × Run)) → LeastOf rs o → LeastOf (r ∷ rs) (better (λ a b. is_less_id a.id b.id) (n, r) o)
    by None none = (here r rs, one_more r.id (ap (number (λ o. is_less_id o r.id)) none) (less_itself r.id))
    by (Some y) is = of y is (is_less_id y.1.id r.id) refl

-- the least of the runs is among them, and none is less
pub least_some : (runs : List Run) → IfSome (least_of runs) (λ id. IsLeast id (ids_of runs))
least_some runs = by (best_from (λ (_ : Run). true) (λ a b. is_less_id a.id b.id) 0 runs) (law 0 runs)
  where
    by : (o : Option (ℕ × Run)) → LeastOf runs o → IfSome (option_map (λ (p : ℕ × Run). p.1.id) o) (λ id. IsLeast id (ids_of runs))
    by None _ = tt
    by (Some x) is = is

-- where there is none, nothing runs
pub least_none : (runs : List Run) → IfNone (least_of runs) (ids_of runs ≡ [])
least_none runs = by (best_from (λ (_ : Run). true) (λ a b. is_less_id a.id b.id) 0 runs) (law 0 runs)
  where
    by : (o : Option (ℕ × Run)) → LeastOf runs o → IfNone (option_map (λ (p : ℕ × Run). p.1.id) o) (ids_of runs ≡ [])
    by None none = none
    by (Some x) _ = tt
