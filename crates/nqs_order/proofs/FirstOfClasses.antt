-- The best row of the classes of a queue is the first eligible row.
use Rattle.std.proofs.Common.{◌≡◌, ℕ, ◌+◌, Bool, true, false, not, ◌&&◌, ◌||◌, ◌==◌, nat_lt, nat_le, List, [], ◌∷◌, map, Option, None, Some, is_some}
use Rattle.std.proofs.Common.{slice_get, refl, sym, ap, ◌∙◌, arith, if◌then◌else◌, true≢false}
use Rattle.std.specs.List.{list_any, position_or_len}
use Rattle.std.specs.Option.{IfSome, option_map, option_and_then}
use Rattle.std.proofs.lemmas.Bool.{and_parts, or_parts, or_from}
use Rattle.std.proofs.Math.Bool.{and-false}
use Rattle.std.proofs.lemmas.Bool.Decides.{nat_tests}
use Rattle.std.proofs.lemmas.Option.{same_Some}
use Rattle.nqs_base.specs.Same.{name_eq, number_exact}
use Rattle.nqs_base.proofs.Plain.{any_false, none_narrower}
use Rattle.nqs_types.specs.Ids.{id_eq, id_exact}
use Rattle.nqs_types.specs.declared.request.Row.{Row}
use Rattle.nqs_types.specs.declared.request.Promise.{Promise}
use Rattle.nqs_types.specs.declared.queue.Kind.{Kind}
use Rattle.nqs_types.specs.declared.queue.Kind.TheVariants.{Batch, Device, Pipe}
use Rattle.nqs_types.specs.declared.queue.QueueDef.{QueueDef}
use Rattle.nqs_base_tables.specs.Table.{has_key, best_from}
use Rattle.nqs_state.specs.State.{State}
use Rattle.nqs_rules.specs.Tests.{is_ready}
use Rattle.nqs_rules.specs.InOrder.{IsInOrder as IsStateInOrder, are_distinct, same_number}
use Rattle.nqs_rules.specs.Routing.{was_refused, may_try, destination}
use Rattle.nqs_rules.specs.Order.{comes_before}
use Rattle.nqs_rules.specs.Order as by_rows
use Rattle.nqs_rules.proofs.BestLaws.{IsBest, best_is, best_is_some}
use Rattle.nqs_rules.proofs.ListFacts.{position_at}
use Rattle.nqs_rules.proofs.RowFacts.{same_id, same_it}
use Rattle.nqs_rules.proofs.StateFacts.{keys_are}
use Rattle.nqs_index.specs.declared.index.Index.{Index}
use Rattle.nqs_index.specs.declared.key.Key.{Key}
use Rattle.nqs_index.specs.declared.line.Entry.{Entry}
use Rattle.nqs_index.specs.Keys.{is_before, key_of}
use Rattle.nqs_index.specs.Lines.{IsInOrder}
use Rattle.nqs_index.specs.Seats.{seat_of, entry_of, waits_in}
use Rattle.nqs_index.specs.declared.class.Class.{Class}
use Rattle.nqs_index.specs.declared.classes.ClassLine.{ClassLine}
use Rattle.nqs_index.specs.Classes.{class_of, number_in, AreInOrder}
use Rattle.nqs_index.specs.Indexed.{classes_in, StandsForIndex}
use Rattle.nqs_order.specs.ByIndex.{user_allows, is_eligible, kind_allows, startable, first_in, is_open, has_open, class_served, class_allows, first_of, leads}
use Rattle.nqs_order.specs.ByIndex.{earlier, is_ahead, better_of, first_among, first_eligible, has_first, has_eligible, with_row, if_passes}
use Rattle.nqs_index.proofs.Numbers.{number-map, any_number}
use Rattle.nqs_index.proofs.OrderLemmas.{before, order_is, key_itself, once, chain, before_itself, before_once, before_chain}
use Rattle.nqs_index.proofs.ClassLemmas.{class_itself}
use Rattle.nqs_order.proofs.KeyedPlaces.{any_at, any_of, none_at, distinct_front, place_again, position_again}
use Rattle.nqs_order.proofs.CountsOfRows.{eligible_is}
use Rattle.nqs_order.proofs.FirstOfLine.{is_of, led, row_of, is_wrong, is_better, IsThere, told, passed_over, first_least, first_there, first_some}

-- neither of two comes before the other, by priority and then by arrival: then both arrived at once
pub tied : (p q m n : ℕ) → (nat_lt q p || (p == q && nat_lt m n)) ≡ false → (nat_lt p q || (q == p && nat_lt n m)) ≡ false → m ≡ n
tied p q m n h g = grind (arith, nat_tests)

tied_arrivals : (a b : Key) → before a b ≡ false → before b a ≡ false → a.arrival ≡ b.arrival
tied_arrivals a b one two = tied a.priority b.priority a.arrival b.arrival one two

-- classes

-- an entry of some classes passes a test
abbrev any_in : (Class → Entry → Bool) → List ClassLine → Bool
any_in test [] = false
any_in test (l ∷ ls) = list_any (test l.class) l.line || any_in test ls

any_number_in : (test : Class → Entry → Bool) (ls : List ClassLine) → any_in test ls ≡ nat_lt 0 (number_in test ls)
any_number_in test [] = refl
any_number_in test (l ∷ ls) = (λ j. any_number (test l.class) l.line j || any_number_in test ls j) ∙ both _ (number_in test ls)
  where
    both : (m n : ℕ) → (nat_lt 0 m || nat_lt 0 n) ≡ nat_lt 0 (m + n)
    both m n = grind (arith, nat_tests)

-- the best of two

module _ {E : Type 0} where
  -- what leads the one leads the other too
  abbrev IsAsGood : Option (ℕ × Row E) → Option (ℕ × Row E) → Type 0
  IsAsGood o best = (k : Key) → leads best k ≡ false → leads o k ≡ false

  earlier_good : (best other : Option (ℕ × Row E)) → IsAsGood (earlier best other) best × IsAsGood (earlier best other) other
  earlier_good best None = (λ k isnt. isnt, λ k isnt. absurd (true≢false isnt))
  earlier_good best (Some q) = by (leads best (key_of q.1)) refl
    where
      over : (o : Option (ℕ × Row E)) → leads o (key_of q.1) ≡ true → IsAsGood (Some q) o
      over None is k isnt = absurd (true≢false isnt)
      over (Some p) is k isnt = chain k (key_of p.1) (key_of q.1) isnt (once (key_of q.1) (key_of p.1) is)

      by : (b : Bool) → leads best (key_of q.1) ≡ b → IsAsGood (if b then Some q else best) best × IsAsGood (if b then Some q else best) (Some q)
      by true is = (over best is, λ k isnt. isnt)
      by false is = (λ k isnt. isnt, λ k isnt. led best k (key_of q.1) isnt is)

  earlier_there : (P : ℕ × Row E → Type 0) (best other : Option (ℕ × Row E)) → IfSome best P → IfSome other P → IfSome (earlier best other) P
  earlier_there P best None one two = one
  earlier_there P best (Some q) one two = by (leads best (key_of q.1))
    where
      by : (b : Bool) → IfSome (if b then Some q else best) P
      by true = two
      by false = one

-- the classes of a queue

module _ {E : Type 0} (index : Index) (s : State E) (d : QueueDef) (now : ℕ) where
  -- a row may start
  abbrev may : Row E → Bool
  may r = is_eligible index d now s r

  -- a destination of the queue is open
  abbrev any_open : Bool
  any_open = has_open d.kind d now s

  serves : (k : Kind) (r : Row E) → kind_allows k index d now s r ≡ true → class_served k index d s (has_open k d now s) (class_of r) ≡ true
  serves Batch r h = refl
  serves Device r h = h
  serves Pipe r h = by (r.hops == 32) h
    where
      opens : (o : Option ℕ) → destination d now s r ≡ o → is_some o ≡ true → list_any (is_open now s) d.dests ≡ true
      opens None e h = absurd (true≢false (sym h))
      opens (Some n) e h =
          let p = position_at (may_try now s r) d.dests n e in
          any_of (is_open now s) d.dests n p.value p.at (and_parts (not (was_refused p.value r.refused)) (is_open now s p.value) p.passes).1

      by : (b : Bool) → (b || is_some (destination d now s r)) ≡ true → (b || list_any (is_open now s) d.dests) ≡ true
      by true h = refl
      by false h = opens (destination d now s r) refl h

  -- a row that may start is of a class that may
  allowed : (r : Row E) → may r ≡ true → class_allows index d now s any_open (class_of r) ≡ true
  allowed r h = by (name_eq d.name r.queue) (is_ready r) (nat_le r.job.earliest now) (user_allows index d r.job.owner)
      (kind_allows d.kind index d now s r) (class_served d.kind index d s any_open (class_of r)) (serves d.kind r) h
    where
      by : (n a v w x y : Bool) → (x ≡ true → y ≡ true) → (n && a && v && w && x) ≡ true → (v && w && y) ≡ true
      by true true true true x y f h = f h
      by true true true false x y f h = absurd (true≢false (sym h))
      by true true false w x y f h = absurd (true≢false (sym h))
      by true false v w x y f h = absurd (true≢false (sym h))
      by false a v w x y f h = absurd (true≢false (sym h))

  -- the row of a class that isn't allowed may not start
  refused : (c : Class) → class_allows index d now s any_open c ≡ false → (o : Option (ℕ × Row E)) (es : List Entry)
      → list_any (is_wrong index s d now c) es ≡ false → list_any (is_better index s d now o) es ≡ false
  refused c isnt o = none_narrower (is_wrong index s d now c) (is_better index s d now o) (λ e right. by e right (startable index d now s e.id) refl)
    where
      by : (e : Entry) → is_wrong index s d now c e ≡ false → (f : Option (ℕ × Row E)) → startable index d now s e.id ≡ f → (is_some f && leads o e.key) ≡ false
      by e right None is = refl
      by e right (Some q) is =
          let t = told index s d now c e q right is in
          absurd (true≢false (sym (allowed q.1 t.there.passes) ∙ ap (class_allows index d now s any_open) t.class ∙ isnt))

  -- what doesn't lead the one doesn't lead what is as good
  no_more : (o best : Option (ℕ × Row E)) → IsAsGood o best → (es : List Entry) → list_any (is_better index s d now best) es ≡ false
      → list_any (is_better index s d now o) es ≡ false
  no_more o best good = none_narrower (is_better index s d now best) (is_better index s d now o)
      (λ e isnt. by (is_some (startable index d now s e.id)) (leads best e.key) (leads o e.key) (good e.key) isnt)
    where
      by : (a b c : Bool) → (b ≡ false → c ≡ false) → (a && b) ≡ false → (a && c) ≡ false
      by true b c f h = f h
      by false b c f h = refl

  better_good : (best : Option (ℕ × Row E)) (l : ClassLine) → IsAsGood (better_of index d now s any_open best l) best
  better_good best l = by (is_ahead best l.line)
    where
      by : (b : Bool) → IsAsGood (if b then earlier best (first_of index d now s any_open l) else best) best
      by true = (earlier_good best (first_of index d now s any_open l)).0
      by false = λ k isnt. isnt

  -- no row of a class that was looked at comes before the best so far
  better_least : (best : Option (ℕ × Row E)) (l : ClassLine) → IsInOrder l.line → list_any (is_wrong index s d now l.class) l.line ≡ false
      → list_any (is_better index s d now (better_of index d now s any_open best l)) l.line ≡ false
  better_least best l order right = by (is_ahead best l.line) refl
    where
      of : (b : Bool) → class_allows index d now s any_open l.class ≡ b
          → list_any (is_better index s d now (earlier best (if b then first_in index d now s l.line else None))) l.line ≡ false
      of true is = no_more (earlier best (first_in index d now s l.line)) (first_in index d now s l.line)
          (earlier_good best (first_in index d now s l.line)).1 l.line (first_least index s d now l.class l.line order right)
      of false is = refused l.class is best l.line right

      by : (b : Bool) → is_ahead best l.line ≡ b
          → list_any (is_better index s d now (if b then earlier best (first_of index d now s any_open l) else best)) l.line ≡ false
      by true is = of (class_allows index d now s any_open l.class) refl
      by false is = passed_over index s d now best l.line order is

  better_there : (best : Option (ℕ × Row E)) (l : ClassLine) → list_any (is_wrong index s d now l.class) l.line ≡ false
      → IfSome best (IsThere index s d now) → IfSome (better_of index d now s any_open best l) (IsThere index s d now)
  better_there best l right there = by (is_ahead best l.line)
    where
      of : (b : Bool) → IfSome (if b then first_in index d now s l.line else None) (IsThere index s d now)
      of true = first_there index s d now l.class l.line right
      of false = tt

      by : (b : Bool) → IfSome (if b then earlier best (first_of index d now s any_open l) else best) (IsThere index s d now)
      by true = earlier_there (IsThere index s d now) best (first_of index d now s any_open l) there (of (class_allows index d now s any_open l.class))
      by false = there

  among_good : (best : Option (ℕ × Row E)) (ls : List ClassLine) → IsAsGood (first_among index d now s any_open best ls) best
  among_good best [] = λ k isnt. isnt
  among_good best (l ∷ ls) = λ k isnt. among_good (better_of index d now s any_open best l) ls k (better_good best l k isnt)

  -- no row of the classes comes before the best one
  among_least : (best : Option (ℕ × Row E)) (ls : List ClassLine) → AreInOrder ls → any_in (is_wrong index s d now) ls ≡ false
      → any_in (λ c e. is_better index s d now (first_among index d now s any_open best ls) e) ls ≡ false
  among_least best [] order right = refl
  among_least best (l ∷ ls) order right =
      let parts = or_parts (list_any (is_wrong index s d now l.class) l.line) (any_in (is_wrong index s d now) ls) right in
      let next = better_of index d now s any_open best l in
      or_from (list_any (is_better index s d now (first_among index d now s any_open next ls)) l.line)
      (any_in (λ c e. is_better index s d now (first_among index d now s any_open next ls) e) ls)
      (no_more (first_among index d now s any_open next ls) next (among_good next ls) l.line (better_least best l order.0 parts.0))
      (among_least next ls order.1 parts.1)

  -- the best row stands at its place, and may start
  among_there : (best : Option (ℕ × Row E)) (ls : List ClassLine) → any_in (is_wrong index s d now) ls ≡ false
      → IfSome best (IsThere index s d now) → IfSome (first_among index d now s any_open best ls) (IsThere index s d now)
  among_there best [] right there = there
  among_there best (l ∷ ls) right there =
      let parts = or_parts (list_any (is_wrong index s d now l.class) l.line) (any_in (is_wrong index s d now) ls) right in
      among_there (better_of index d now s any_open best l) ls parts.1 (better_there best l parts.0 there)

  -- a class has a row that may start where it is allowed, and has an entry whose row may
  first_any : (l : ClassLine) → has_first index d now s any_open l
      ≡ list_any (λ e. class_allows index d now s any_open l.class && is_some (startable index d now s e.id)) l.line
  first_any l = by (class_allows index d now s any_open l.class)
    where
      by : (b : Bool) → is_some (if b then first_in index d now s l.line else None) ≡ list_any (λ e. b && is_some (startable index d now s e.id)) l.line
      by true = first_some index s d now l.line
      by false = sym (any_false (λ (e : Entry). false) l.line (λ n e at. refl))

  eligible_any : (ls : List ClassLine) → has_eligible index d now s ls
      ≡ any_in (λ c e. class_allows index d now s any_open c && is_some (startable index d now s e.id)) ls
  eligible_any [] = refl
  eligible_any (l ∷ ls) = (λ j. first_any l j || eligible_any ls j)

-- where the index stands for the rows

module _ {E : Type 0} (index : Index) (s : State E) (stands : StandsForIndex index s.rows) (order : IsStateInOrder s) (d : QueueDef) (now : ℕ) where
  abbrev Found : Type 0
  Found = ℕ × Row E

  -- the classes of the queue
  abbrev classes : List ClassLine
  classes = classes_in d.name index

  -- the entry of a row
  abbrev entry : Row E → Entry
  entry r = entry_of (seat_of r)

  abbrev waits : Row E → Bool
  waits r = waits_in d.name (seat_of r)

  row_is_there : (n : ℕ) (r : Row E) → slice_get s.rows n ≡ Some r → row_of index s d now (entry r) ≡ Some (n, r)
  row_is_there n r at =
      ap (option_and_then (with_row s)) (position_again id_eq (λ (r : Row E). r.id) id_exact same_id s.rows n r (keys_are s order.keys).rows at)
      ∙ ap (option_map (λ (r : Row E). (n, r))) at

  starts_is : (n : ℕ) (r : Row E) → slice_get s.rows n ≡ Some r
      → startable index d now s (entry r).id ≡ (if may index s d now r then Some (n, r) else None)
  starts_is n r at = ap (option_and_then (if_passes (may index s d now))) (row_is_there n r at)

  line_any : (test : Class → Entry → Bool) → any_in test classes ≡ list_any (λ r. waits r && test (class_of r) (entry r)) s.rows
  line_any test =
      any_number_in test classes
      ∙ ap (nat_lt 0) (stands.lines d.name test ∙ number-map seat_of (λ t. waits_in d.name t && test t.class (entry_of t)) s.rows)
      ∙ sym (any_number (λ r. waits r && test (class_of r) (entry r)) s.rows)

  all_right : any_in (is_wrong index s d now) classes ≡ false
  all_right = line_any (is_wrong index s d now)
      ∙ any_false (λ r. waits r && is_wrong index s d now (class_of r) (entry r)) s.rows
      (λ n r at. ap (λ o. waits r && not (is_of (class_of r) (key_of r) o)) (row_is_there n r at)
      ∙ (λ j. waits r && not (class_itself (class_of r) j && key_itself (key_of r) j)) ∙ and-false (waits r))

  -- a row that may start waits in a line
  may_waits : (r : Row E) → may index s d now r ≡ true → waits r ≡ true
  may_waits r h = by (name_eq d.name r.queue) (is_ready r) _ _ _ h
    where
      by : (n a v w x : Bool) → (n && a && v && w && x) ≡ true → (a && n) ≡ true
      by true true v w x h = refl
      by true false v w x h = absurd (true≢false (sym h))
      by false a v w x h = absurd (true≢false (sym h))

  -- the same rows may start by the rules
  may_is : (λ (r : Row E). may index s d now r) ≡ by_rows.is_eligible d now s
  may_is = (λ j r. eligible_is index s stands d now r j)

  -- one of the classes has a row that may start where any row of the queue may
  pub has_same : has_eligible index d now s classes ≡ list_any (by_rows.is_eligible d now s) s.rows
  has_same =
      eligible_any index s d now classes
      ∙ line_any (λ c e. class_allows index d now s (any_open index s d now) c && is_some (startable index d now s e.id))
      ∙ any_at (λ r. waits r && (class_allows index d now s (any_open index s d now) (class_of r) && is_some (startable index d now s (entry r).id)))
      (may index s d now) s.rows
      (λ n r at. ap (λ o. waits r && (class_allows index d now s (any_open index s d now) (class_of r) && is_some o)) (starts_is n r at)
      ∙ of n r (may index s d now r) refl)
      ∙ ap (λ t. list_any t s.rows) may_is
    where
      of : (n : ℕ) (r : Row E) (b : Bool) → may index s d now r ≡ b
          → (waits r && (class_allows index d now s (any_open index s d now) (class_of r) && is_some {T = Found} (if b then Some (n, r) else None))) ≡ b
      of n r true m = (λ j. may_waits r m j && (allowed index s d now r m j && true))
      of n r false m =
          ap (λ b. waits r && b) (and-false (class_allows index d now s (any_open index s d now) (class_of r))) ∙ and-false (waits r)

  -- no row that may start comes before the best one
  unbeaten : (o : Option Found) → any_in (λ c e. is_better index s d now o e) classes ≡ false
      → (n : ℕ) (r : Row E) → slice_get s.rows n ≡ Some r → may index s d now r ≡ true → leads o (key_of r) ≡ false
  unbeaten o none n r at m =
      let here : (waits r && (is_some (startable index d now s (entry r).id) && leads o (key_of r))) ≡ false =
      none_at (λ r. waits r && is_better index s d now o (entry r)) s.rows n r (sym (line_any (λ c e. is_better index s d now o e)) ∙ none) at in
      let starts : is_some (startable index d now s (entry r).id) ≡ true = ap (λ o. is_some o) (starts_is n r at)
      ∙ (λ j. is_some {T = Found} (if m j then Some (n, r) else None)) in
      (λ j. sym (may_waits r m) j && (sym starts j && leads o (key_of r))) ∙ here

  pub first_same : first_eligible index d now s ≡ by_rows.first_eligible d now s
  first_same =
      by (first_eligible index d now s) (among_there index s d now None classes all_right tt)
      (unbeaten (first_eligible index d now s) (among_least index s d now None classes (stands.order d.name) all_right))
      ∙ ap (λ t. best_from t comes_before 0 s.rows) may_is
    where
      arrivals : are_distinct same_number (map (λ (r : Row E). r.arrival) s.rows) ≡ true
      arrivals = distinct_front same_number (map (λ (r : Row E). r.arrival) s.rows) (map (λ (p : Promise E). p.row.arrival) s.promises) order.arrivals

      nothing : (o : Option Found) → is_some o ≡ false → None ≡ o
      nothing None h = refl
      nothing (Some p) h = absurd (true≢false h)

      meet : (p q : Found) → slice_get s.rows p.0 ≡ Some p.1 → slice_get s.rows q.0 ≡ Some q.1 → p.1.arrival ≡ q.1.arrival → p ≡ q
      meet p q at other same =
          let place : p.0 ≡ q.0 =
          sym (place_again same_number (λ (r : Row E). r.arrival) number_exact same_it s.rows p.0 p.1 arrivals at)
          ∙ ap (λ n. position_or_len (has_key same_number (λ (r : Row E). r.arrival) n) s.rows) same
          ∙ place_again same_number (λ (r : Row E). r.arrival) number_exact same_it s.rows q.0 q.1 arrivals other in
          let row : p.1 ≡ q.1 = same_Some p.1 q.1 (sym at ∙ ap (slice_get s.rows) place ∙ other) in
          (λ j. (place j, row j))

      chosen : (p : Found) → IsThere index s d now p
          → ((n : ℕ) (r : Row E) → slice_get s.rows n ≡ Some r → may index s d now r ≡ true → is_before (key_of r) (key_of p.1) ≡ false)
          → (o : Option Found) → is_some o ≡ true → IfSome o (λ q. IsBest (may index s d now) comes_before s.rows q.0 q.1) → Some p ≡ o
      chosen p t none None some law = absurd (true≢false (sym some))
      chosen p t none (Some q) some law =
          ap Some (meet p q t.at law.at (tied_arrivals (key_of p.1) (key_of q.1) (law.unbeaten p.0 p.1 t.at t.passes)
          (sym (order_is (key_of q.1) (key_of p.1)) ∙ none q.0 q.1 law.at law.passes)))

      -- none may start where nothing was found
      none_may : ((n : ℕ) (r : Row E) → slice_get s.rows n ≡ Some r → may index s d now r ≡ true → true ≡ false)
          → list_any (may index s d now) s.rows ≡ false
      none_may none = any_false (may index s d now) s.rows (λ n r at. of r (may index s d now r) refl (none n r at))
        where
          of : (r : Row E) (b : Bool) → may index s d now r ≡ b → (may index s d now r ≡ true → true ≡ false) → b ≡ false
          of r true m f = f m
          of r false m f = refl

      by : (o : Option Found) → IfSome o (IsThere index s d now)
          → ((n : ℕ) (r : Row E) → slice_get s.rows n ≡ Some r → may index s d now r ≡ true → leads o (key_of r) ≡ false)
          → o ≡ best_from (may index s d now) comes_before 0 s.rows
      by None there none =
          nothing (best_from (may index s d now) comes_before 0 s.rows) (best_is_some (may index s d now) comes_before 0 s.rows ∙ none_may none)
      by (Some p) there none =
          chosen p there none (best_from (may index s d now) comes_before 0 s.rows)
          (best_is_some (may index s d now) comes_before 0 s.rows ∙ any_of (may index s d now) s.rows p.0 p.1 there.at there.passes)
          (best_is (may index s d now) comes_before (λ r. before_itself (key_of r)) (λ a b. before_once (key_of a) (key_of b)) (λ a b c.
          before_chain (key_of a) (key_of b) (key_of c))
          s.rows)
