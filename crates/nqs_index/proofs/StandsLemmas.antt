-- An index with one seat more, or less.
use Rattle.std.proofs.Common.{◌≡◌, ℕ, ◌+◌, ◌-◌, ◌<◌, ◌≤◌, ◌^◌, Bool, true, false, ◌&&◌, List, [], ◌∷◌, ◌++◌, length, find}
use Rattle.std.proofs.Common.{Some, slice_get, take, get_or, zero, suc}
use Rattle.std.proofs.Common.{refl, sym, ap, subst, ◌∙◌, arith}
use Rattle.std.specs.Prelude.{cond}
use Rattle.std.specs.List.{AllByRecursion}
use Rattle.std.specs.Cmp.{IsStrictWeakOrder}
use Rattle.std.proofs.lemmas.List.{take_more}
use Rattle.std.proofs.lemmas.List.Sorted.{sorted_far}
use Rattle.std.proofs.lemmas.Option.{none-some, get_or_from_slice_get}
use Rattle.nqs_types.specs.Ids.{id_eq}
use Rattle.nqs_types.specs.RowStates.{is_running, is_active}
use Rattle.nqs_types.specs.declared.request.RowState.{RowState}
use Rattle.nqs_types.specs.declared.request.RowState.TheVariants.{Queued, Routing, Running}
use Rattle.nqs_types.specs.declared.ids.RequestId.{RequestId}
use Rattle.nqs_index.specs.declared.class.Class.{Class}
use Rattle.nqs_index.specs.declared.classes.ClassLine.{ClassLine}
use Rattle.nqs_index.specs.declared.index.Index.{Index}
use Rattle.nqs_index.specs.declared.line.Entry.{Entry}
use Rattle.nqs_index.specs.declared.seat.Seat.{Seat}
use Rattle.nqs_index.specs.declared.tally.Tally.{Tally}
use Rattle.nqs_index.specs.Keys.{is_before}
use Rattle.nqs_index.specs.declared.key.Key.{Key}
use Rattle.nqs_index.specs.Lines.{is_entry, NoneLater}
use Rattle.nqs_index.specs.Classes.{class_eq, is_class, number_in, entries_of, line_of, AreInOrder, AreFilled, AreApart, entered_in, taken_from}
use Rattle.nqs_index.specs.QueueLines.{entered_if, taken_if}
use Rattle.nqs_index.specs.Indexed.{counted_in, classes_in, line_in, running_in, Stands}
use Rattle.nqs_index.specs.Numbers.{number, IsMore}
use Rattle.nqs_index.specs.Seats.{entry_of, waits_in, counts_for, starts_before, StandInOrder}
use Rattle.nqs_index.specs.Tallies.{one, CanAdd}
use Rattle.nqs_index.proofs.ClassLemmas.{class_itself, entry_itself, number_entered, order_entered, filled_entered, apart_entered}
use Rattle.nqs_index.proofs.ClassLemmas.{number_left, order_left_in, filled_left, apart_left}
use Rattle.nqs_index.proofs.Numbers.{number-cons, more_behind, number_within}
use Rattle.nqs_index.proofs.OrderLemmas.{chain, once}
use Rattle.nqs_index.proofs.RunLemmas.{id_itself}

entered_number : (test : Class → Entry → Bool) (c : Class) (x : Entry) (b : Bool) (ls : List ClassLine)
    → number_in test (entered_if b c x ls) ≡ number_in test ls + one (b && test c x)
entered_number test c x true ls = number_entered c x test ls
entered_number test c x false ls = omega arith

-- what is kept of lines by an entry more is kept where there may be one
entered_keeps : (P : List ClassLine → Type 0) (c : Class) (x : Entry) → ((ls : List ClassLine) → P ls → P (entered_in c x ls)) → (b : Bool)
    (ls : List ClassLine) → P ls → P (entered_if b c x ls)
entered_keeps P c x keeps true ls h = keeps ls h
entered_keeps P c x keeps false ls h = h

module _ (i j : Index) (t : Seat) (ts us : List Seat) (stands : Stands i ts) (more : IsMore t ts us)
    (counts : (k : Tally) → counted_in k j ≡ counted_in k i + one (counts_for k t))
    (lines : (q : List ℕ) → classes_in q j ≡ entered_if (waits_in q t) t.class (entry_of t) (classes_in q i))
    (runs : (test : RequestId → Bool) → number test (running_in j) ≡ number test (running_in i) + one (is_running t.state && test t.id)) where
  -- one seat more
  pub entered : Stands j us
  entered = record {
    counts = λ k. counts k ∙ ap (λ n. n + one (counts_for k t)) (stands.counts k) ∙ sym (more (counts_for k));
    lines = λ q test. ap (number_in test) (lines q) ∙ entered_number test t.class (entry_of t) (waits_in q t) (classes_in q i)
        ∙ ap (λ n. n + one (waits_in q t && test t.class (entry_of t))) (stands.lines q test)
        ∙ sym (more (λ u. waits_in q u && test u.class (entry_of u)));
    running = λ test. runs test ∙ ap (λ n. n + one (is_running t.state && test t.id)) (stands.running test)
        ∙ sym (more (λ u. is_running u.state && test u.id));
    order = kept AreInOrder (order_entered t.class (entry_of t)) stands.order;
    filled = kept AreFilled (filled_entered t.class (entry_of t)) stands.filled;
    apart = kept AreApart (apart_entered t.class (entry_of t)) stands.apart;
  }
    where
      kept : (P : List ClassLine → Type 0) → ((ls : List ClassLine) → P ls → P (entered_in t.class (entry_of t) ls)) → ((q : List ℕ) → P (classes_in q i))
          → (q : List ℕ) → P (classes_in q j)
      kept P keeps all q = subst P (sym (lines q)) (entered_keeps P t.class (entry_of t) keeps (waits_in q t) (classes_in q i) (all q))

left_number : (test : Class → Entry → Bool) (c : Class) (x : Entry) (b : Bool) (ls : List ClassLine) → AreApart ls
    → (b ≡ true → 0 < number_in (λ k e. class_eq c k && is_entry x e) ls) → number_in test ls ≡ number_in test (taken_if b c x ls) + one (b && test c x)
left_number test c x true ls apart some = number_left c x test ls apart (some refl)
left_number test c x false ls apart some = omega arith

-- what is kept of lines by an entry less is kept where there may be one
left_keeps : (P : List ClassLine → Type 0) (c : Class) (x : Entry) → ((ls : List ClassLine) → P ls → P (taken_from c x ls)) → (b : Bool)
    (ls : List ClassLine) → P ls → P (taken_if b c x ls)
left_keeps P c x keeps true ls h = keeps ls h
left_keeps P c x keeps false ls h = h

module _ (i j : Index) (t : Seat) (ts us : List Seat) (stands : Stands i us) (more : IsMore t ts us)
    (counts : (k : Tally) → counted_in k j ≡ counted_in k i - one (counts_for k t))
    (lines : (q : List ℕ) → classes_in q j ≡ taken_if (waits_in q t) t.class (entry_of t) (classes_in q i))
    (runs : (is_running t.state ≡ true → 0 < number (id_eq t.id) (running_in i)) → (test : RequestId → Bool)
    → number test (running_in i) ≡ number test (running_in j) + one (is_running t.state && test t.id)) where
  -- the entry of a seat that waits is in the line of its class
  there : (q : List ℕ) → waits_in q t ≡ true → 0 < number_in (λ k e. class_eq t.class k && is_entry (entry_of t) e) (classes_in q i)
  there q waits =
      let test = λ (k : Class) (e : Entry). class_eq t.class k && is_entry (entry_of t) e in
      let a : number_in test (classes_in q i)
      ≡ number (λ u. waits_in q u && test u.class (entry_of u)) ts + one (waits_in q t && (class_eq t.class t.class && is_entry (entry_of t) (entry_of t)))
      = stands.lines q test ∙ more (λ u. waits_in q u && test u.class (entry_of u)) in
      let b : one (waits_in q t && (class_eq t.class t.class && is_entry (entry_of t) (entry_of t))) ≡ 1
      = (λ k. one (waits k && (class_itself t.class k && entry_itself (entry_of t) k))) in
      omega (arith, a, b)

  -- a seat that runs is among those that do
  runs_there : is_running t.state ≡ true → 0 < number (id_eq t.id) (running_in i)
  runs_there is =
      let a : number (id_eq t.id) (running_in i) ≡ number (λ u. is_running u.state && id_eq t.id u.id) ts + one (is_running t.state && id_eq t.id t.id)
      = stands.running (id_eq t.id) ∙ more (λ u. is_running u.state && id_eq t.id u.id) in
      let b : one (is_running t.state && id_eq t.id t.id) ≡ 1 = (λ k. one (is k && id_itself t.id k)) in
      omega (arith, a, b)

  -- one seat less
  pub left : Stands j ts
  left = record {
    counts = λ k. let a = counts k in let b = stands.counts k in let c = more (counts_for k) in omega (arith, a, b, c);
    lines = λ q test.
        let a : number_in test (classes_in q j) ≡ number_in test (taken_if (waits_in q t) t.class (entry_of t) (classes_in q i)) =
        ap (number_in test) (lines q) in
        let b = left_number test t.class (entry_of t) (waits_in q t) (classes_in q i) (stands.apart q) (there q) in
        let c : number_in test (classes_in q i) ≡ number (λ u. waits_in q u && test u.class (entry_of u)) ts + one (waits_in q t && test t.class (entry_of t))
        = stands.lines q test ∙ more (λ u. waits_in q u && test u.class (entry_of u)) in
        omega (arith, a, b, c);
    running = λ test.
        let a = runs runs_there test in
        let b : number test (running_in i) ≡ number (λ u. is_running u.state && test u.id) ts + one (is_running t.state && test t.id)
        = stands.running test ∙ more (λ u. is_running u.state && test u.id) in
        omega (arith, a, b);
    order = kept AreInOrder (order_left_in t.class (entry_of t)) stands.order;
    filled = kept AreFilled (filled_left t.class (entry_of t)) stands.filled;
    apart = kept AreApart (apart_left t.class (entry_of t)) stands.apart;
  }
    where
      kept : (P : List ClassLine → Type 0) → ((ls : List ClassLine) → P ls → P (taken_from t.class (entry_of t) ls)) → ((q : List ℕ) → P (classes_in q i))
          → (q : List ℕ) → P (classes_in q j)
      kept P keeps all q = subst P (sym (lines q)) (left_keeps P t.class (entry_of t) keeps (waits_in q t) (classes_in q i) (all q))

-- by each test there are at most as many as can be told
module _ (t : Seat) (ts us : List Seat) (more : IsMore t ts us) (few : length us < 2 ^ 64) where
  -- a seat more can be counted
  pub can_count : (i : Index) → Stands i ts → CanAdd (λ k. one (counts_for k t)) i.counters.items
  can_count i stands k =
      let a : counted_in k i ≡ number (counts_for k) ts = stands.counts k in
      let b = more (counts_for k) in
      let c = number_within (counts_for k) us in
      omega (arith, a, b, c, few)

  -- and so can one that runs
  pub can_run : (i : Index) → Stands i ts → is_running t.state ≡ true → number (id_eq t.id) (running_in i) + 1 < 2 ^ 64
  can_run i stands runs =
      let a = stands.running (id_eq t.id) in
      let b : number (λ u. is_running u.state && id_eq t.id u.id) us ≡ number (λ u. is_running u.state && id_eq t.id u.id) ts + 1
      = more (λ u. is_running u.state && id_eq t.id u.id)
      ∙ (λ j. number (λ u. is_running u.state && id_eq t.id u.id) ts + one (runs j && id_itself t.id j)) in
      let c = number_within (λ u. is_running u.state && id_eq t.id u.id) us in
      omega (arith, a, b, c, few)

-- one more of a list was gone over
pub more_taken : {A : Type 0} (xs : List A) (n : ℕ) (x : A) → n < length xs → x ≡ get_or xs n x → IsMore x (take n xs) (take (n + 1) xs)
more_taken xs n x within is = subst (IsMore x (take n xs)) (ap (λ y. take n xs ++ y ∷ []) is ∙ sym (take_more xs n x within)) (more_behind x (take n xs))

-- all of it was
pub all_taken : {A : Type 0} (xs : List A) (n : ℕ) → length xs ≤ n → take n xs ≡ xs
all_taken [] zero le = refl
all_taken [] (suc n) le = refl
all_taken (x ∷ xs) zero le = absurd (let no : ⊥ = omega arith in no)
all_taken (x ∷ xs) (suc n) le = ap (λ l. x ∷ l) (all_taken xs n (omega arith))

-- what was gone over is no more than all
pub taken_within : {A : Type 0} (xs : List A) (n : ℕ) → length (take n xs) ≤ length xs
taken_within [] zero = omega arith
taken_within [] (suc n) = omega arith
taken_within (x ∷ xs) zero = omega arith
taken_within (x ∷ xs) (suc n) = let rest = taken_within xs n in omega (arith, rest)

-- none passes of a list where each fails
no_number : {A : Type 0} (p : A → Bool) (xs : List A) → ((n : ℕ) (x : A) → slice_get xs n ≡ Some x → p x ≡ false) → number p xs ≡ 0
no_number p [] none = refl
no_number p (x ∷ xs) none = number-cons p x xs ∙ (λ j. no_number p xs (λ n y at. none (suc n) y at) j + one (none 0 x refl j))

-- nor of a class's line, where none of all lines passes
no_number_of : (test : Entry → Bool) (c : Class) (ls : List ClassLine) → number_in (λ _ e. test e) ls ≡ 0 → number test (line_of c ls) ≡ 0
no_number_of test c [] none = refl
no_number_of test c (l ∷ ls) none = by (is_class c l) (no_number_of test c ls (omega (arith, both)))
  where
    both : number test l.line + number_in (λ _ e. test e) ls ≡ 0
    both = none

    by : (b : Bool) → number test (line_of c ls) ≡ 0 → number test (entries_of (cond b (Some l) (find (is_class c) ls))) ≡ 0
    by true rest = omega (arith, both)
    by false rest = rest

none_pass : (test : Entry → Bool) (es : List Entry) → number test es ≡ 0 → AllByRecursion (λ e. test e ≡ false) es
none_pass test [] none = tt
none_pass test (x ∷ es) none = by (test x) refl (number-cons test x es) (none_pass test es)
  where
    by : (b : Bool) → test x ≡ b → number test (x ∷ es) ≡ number test es + one b → (number test es ≡ 0 → AllByRecursion (λ e. test e ≡ false) es)
        → AllByRecursion (λ e. test e ≡ false) (x ∷ es)
    by true is all rest = absurd (let no : ⊥ = omega (arith, none, all) in no)
    by false is all rest = (is, rest (omega (arith, none, all)))

and_false : (a b : Bool) → b ≡ false → (a && b) ≡ false
and_false true b h = h
and_false false b h = refl

-- where none of the seats starts after a key, no entry of a line does
pub none_later_in : (i : Index) (ts : List Seat) (k : Key) → Stands i ts → ((n : ℕ) (t : Seat) → slice_get ts n ≡ Some t → is_before k t.key ≡ false)
    → (q : List ℕ) (c : Class) → NoneLater k (line_in q c i)
none_later_in i ts k stands none q c =
    none_pass (λ e. is_before k e.key) (line_in q c i)
    (no_number_of (λ e. is_before k e.key) c (classes_in q i)
    (stands.lines q (λ _ e. is_before k e.key)
    ∙ no_number (λ t. waits_in q t && is_before k t.key) ts (λ n t at. and_false (waits_in q t) (is_before k t.key) (none n t at))))

-- what stands at a place of the first of a list
taken_get : (xs : List Seat) (n j : ℕ) (u : Seat) → slice_get (take n xs) j ≡ Some u → (j < n) × (slice_get xs j ≡ Some u)
taken_get [] zero j u at = absurd (none-some u at)
taken_get [] (suc n) j u at = absurd (none-some u at)
taken_get (x ∷ xs) zero j u at = absurd (none-some u at)
taken_get (x ∷ xs) (suc n) zero u at = (omega arith, at)
taken_get (x ∷ xs) (suc n) (suc j) u at =
    let rest = taken_get xs n j u at in
    let less = rest.0 in
    (omega (arith, less), rest.1)

-- the order of seats is one
pub seats_rank : IsStrictWeakOrder starts_before
seats_rank = record { one_way = λ t u. once t.key u.key; chain = λ t u v. chain t.key u.key v.key }

-- of seats in order none starts before one in front of it
pub none_in_front_of : (xs : List Seat) (n : ℕ) (t : Seat) → StandInOrder xs → n < length xs → t ≡ get_or xs n t → (j : ℕ) (u : Seat)
    → slice_get (take n xs) j ≡ Some u → is_before t.key u.key ≡ false
none_in_front_of xs n t order within is j u at =
    let there = taken_get xs n j u at in
    let less = there.0 in
    let e : get_or xs j t ≡ u = get_or_from_slice_get xs j u t there.1 in
    (λ i. starts_before (is i) (sym e i)) ∙ sorted_far starts_before seats_rank xs order j n t (omega (arith, less)) within

-- what isn't active doesn't run
pub not_running : (s : RowState) → is_active s ≡ false → is_running s ≡ false
not_running Queued idle = refl
not_running Routing idle = refl
not_running Running idle = idle
