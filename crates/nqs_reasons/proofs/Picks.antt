-- What the reasons of requests say of what the scheduler starts.
use Rattle.std.proofs.Common.{◌≡◌, ◌≢◌, ◌⊎◌, ℕ, ◌<◌, ◌≤◌, Bool, true, false, ◌&&◌, nat_lt, nat_le, not, List, [], ◌∷◌, ◌++◌, map, filter, length}
use Rattle.std.proofs.Common.{find, slice_get, Option, None, Some, is_some, zero, suc, inl, inr, refl, sym, ap, subst, ◌∙◌, true≢false, arith, option_map, cond}
use Rattle.std.proofs.lemmas.Bool.Decides.{nat_tests}
use Rattle.std.proofs.lemmas.Bool.{cases_lt, and_from}
use Rattle.std.proofs.lemmas.Option.{same_Some, none-some, slice_get-map, IfSome_then}
use Rattle.std.proofs.lemmas.List.Folds.{find_at}
use Rattle.std.proofs.lemmas.Map.Keys.{any_passes_from_place}
use Rattle.std.specs.List.{list_any, position_or_len}
use Rattle.std.specs.Option.{IfSome}
use Rattle.std.proofs.lemmas.Bool.{and_parts}
use Rattle.std.proofs.Math.Bool.{and-false}
use Rattle.nqs_base.specs.Same.{name_eq, name_exact}
use Rattle.nqs_base.proofs.Plain.{other_fails}
use Rattle.nqs_state.specs.State.{Plain}
use Rattle.nqs_state.specs.Keys.{is_queue}
use Rattle.nqs_types.specs.declared.queue.QueueDef.{QueueDef}
use Rattle.nqs_types.specs.declared.rule.Choice.{Choice}
use Rattle.nqs_rules.specs.Tests.{is_ready}
use Rattle.nqs_rules.specs.Find.{find_queue}
use Rattle.nqs_rules.specs.InOrder.{IsInOrder, are_distinct, same_number}
use Rattle.nqs_rules.specs.Order.{below, is_active_of, kind_allows, is_greater, is_eligible, comes_before, pick}
use Rattle.nqs_rules.specs.Picked.{PlainRow, may_start, IsFirstRow, IsNextQueue, row_place, IsPicked}
use Rattle.nqs_rules.proofs.ListFacts.{filter_fewer, found_again, not_true}
use Rattle.nqs_rules.proofs.KeyFacts.{all_get, any-before, none_passes}
use Rattle.nqs_rules.proofs.RowFacts.{same_name, same_it}
use Rattle.nqs_rules.proofs.StateFacts.{keys_are}
use Rattle.nqs_rules.proofs.PickLaws.{eligible_parts, picked_is, picked_is_some}
use Rattle.nqs_types.specs.declared.reason.Reason.TheVariants.{Next}
use Rattle.nqs_rules.specs.Reasons.{goes_first, waits_before, count_before, reason_of}
use Rattle.nqs_order.proofs.FirstOfClasses.{tied}
use Rattle.nqs_reasons.specs.Chosen.{is_next, StartsBefore, IsAtOrBefore}
use Rattle.nqs_reasons.proofs.Next.{found_named, next_is, next_without, next_count, next_said}

-- lists

-- the first of numbers that differ all doesn't come again
not_again : (x : ℕ) (xs ys : List ℕ) (k n : ℕ) → are_distinct same_number (x ∷ xs ++ ys) ≡ true → x ≡ n → slice_get xs k ≡ Some n → ⊥
not_again x xs ys k n apart is again =
    true≢false (sym (any-before (same_number x) xs ys
    (any_passes_from_place (same_number x) xs k n again (subst (λ m. same_number m n ≡ true) (sym is) (same_it n))))
    ∙ not_true (list_any (same_number x) (xs ++ ys)) (and_parts (not (list_any (same_number x) (xs ++ ys))) _ apart).0)

-- where numbers differ all, one of a front of them has one place
distinct_places : (xs ys : List ℕ) (k l n : ℕ) → are_distinct same_number (xs ++ ys) ≡ true → slice_get xs k ≡ Some n → slice_get xs l ≡ Some n → k ≡ l
distinct_places [] ys k l n apart at again = absurd (none-some n at)
distinct_places (x ∷ xs) ys zero zero n apart at again = refl
distinct_places (x ∷ xs) ys zero (suc l) n apart at again = absurd (not_again x xs ys l n apart (same_Some x n at) again)
distinct_places (x ∷ xs) ys (suc k) zero n apart at again = absurd (not_again x xs ys k n apart (same_Some x n again) at)
distinct_places (x ∷ xs) ys (suc k) (suc l) n apart at again =
    ap suc (distinct_places xs ys k l n (and_parts (not (list_any (same_number x) (xs ++ ys))) _ apart).1 at again)

-- what none passes has no length
none_counted : {V : Type 0} (p : V → Bool) (vs : List V) → ((k : ℕ) (v : V) → slice_get vs k ≡ Some v → p v ≡ false) → length (filter p vs) ≡ 0
none_counted p [] none = refl
none_counted p (v ∷ vs) none = ap (λ b. length (cond b (v ∷ filter p vs) (filter p vs))) (none zero v refl) ∙ none_counted p vs (λ k u at. none (suc k) u at)

-- rows

-- two rows neither of which comes before the other have one priority and one arrival
as_early : (a b : PlainRow) → comes_before a b ≡ false → comes_before b a ≡ false → a.arrival ≡ b.arrival
as_early a b h g = tied a.job.priority b.job.priority a.arrival b.arrival h g

module _ (now : ℕ) (s : Plain) (order : IsInOrder s) where
  -- rows of one arrival stand at one place
  one_place : (k l : ℕ) (q r : PlainRow) → slice_get s.rows k ≡ Some q → slice_get s.rows l ≡ Some r → q.arrival ≡ r.arrival → k ≡ l
  one_place k l q r at again same =
      distinct_places (map (λ x. x.arrival) s.rows) (map (λ x. x.row.arrival) s.promises) k l r.arrival order.arrivals
      (slice_get-map (λ x. x.arrival) s.rows k ∙ ap (option_map (λ x. x.arrival)) at ∙ ap Some same)
      (slice_get-map (λ x. x.arrival) s.rows l ∙ ap (option_map (λ x. x.arrival)) again)

  -- a queue has one first row
  one_first : (d : QueueDef) (k l : ℕ) (q r : PlainRow) → IsFirstRow d now s k q → IsFirstRow d now s l r → k ≡ l
  one_first d k l q r a b = one_place k l q r a.at b.at (as_early q r (b.first k q a.at a.eligible) (a.first l r b.at b.eligible))

-- what stands at one place is one
same_at : {V : Type 0} (vs : List V) (k l : ℕ) (u v : V) → slice_get vs k ≡ Some u → slice_get vs l ≡ Some v → k ≡ l → u ≡ v
same_at vs k l u v at again e = same_Some u v (sym at ∙ ap (slice_get vs) e ∙ again)

-- queues

-- the place of what is found
found_place : {V : Type 0} (t : V → Bool) (vs : List V) (v : V) → find t vs ≡ Some v → slice_get vs (position_or_len t vs) ≡ Some v
found_place t vs v found = sym (find_at t vs) ∙ found

-- two queues neither of which is greater have one priority
as_great : (a b : QueueDef) → is_greater a b ≡ false → is_greater b a ≡ false → a.priority ≡ b.priority
as_great a b h g = numbers a.priority b.priority h g
  where
    numbers : (p q : ℕ) → nat_lt q p ≡ false → nat_lt p q ≡ false → p ≡ q
    numbers p q h g = grind (arith, nat_tests)

-- a queue that may start a request has parts
may_parts : (now : ℕ) (s : Plain) (d : QueueDef) (r : PlainRow) → (may_start now s d && is_eligible d now s r) ≡ true
    → (may_start now s d ≡ true) × (is_eligible d now s r ≡ true)
may_parts now s d r h = and_parts (may_start now s d) (is_eligible d now s r) h

module _ (now : ℕ) (s : Plain) where
  -- the next queue starts before any other that may start a request, or is that one
  next_before : (k l : ℕ) (p q : QueueDef) → IsNextQueue now s k p → slice_get s.queues l ≡ Some q → may_start now s q ≡ true → StartsBefore k p l q ⊎ (k ≡ l)
  next_before k l p q next at may = by (is_greater p q) refl
    where
      places : p.priority ≡ q.priority → is_greater p q ≡ false → StartsBefore k p l q ⊎ (k ≡ l)
      places same isnt = first (cases_lt k l)
        where
          second : l ≤ k → (l < k) ⊎ (k ≤ l) → StartsBefore k p l q ⊎ (k ≡ l)
          second over (inl under) = absurd (true≢false (sym (next.first_created l q under at may) ∙ isnt))
          second over (inr under) = inr (omega (arith, over, under))

          first : (k < l) ⊎ (l ≤ k) → StartsBefore k p l q ⊎ (k ≡ l)
          first (inl under) = inl (inr (same, under))
          first (inr over) = second over (cases_lt l k)

      by : (b : Bool) → is_greater p q ≡ b → StartsBefore k p l q ⊎ (k ≡ l)
      by true is = inl (inl is)
      by false isnt = places (as_great p q isnt (next.greatest l q at may)) isnt

  -- there is one next queue
  one_next : (k l : ℕ) (p q : QueueDef) → IsNextQueue now s k p → IsNextQueue now s l q → k ≡ l
  one_next k l p q a b = by (next_before k l p q a b.at b.may) (next_before l k q p b a.at a.may)
    where
      neither : StartsBefore k p l q → StartsBefore l q k p → k ≡ l
      neither (inl over) other = absurd (true≢false (sym over ∙ b.greatest k p a.at a.may))
      neither (inr (same, under)) (inl over) = absurd (true≢false (sym over ∙ a.greatest l q b.at b.may))
      neither (inr (same, under)) (inr (again, over)) = absurd (omega (arith, under, over))

      by : StartsBefore k p l q ⊎ (k ≡ l) → StartsBefore l q k p ⊎ (l ≡ k) → k ≡ l
      by (inr e) other = e
      by (inl x) (inr e) = sym e
      by (inl x) (inl y) = neither x y

  -- a request whose reason is next has a queue, which may start it
  pub record IsOfNext (r : PlainRow) : Type 0 where
    pub queue : QueueDef
    pub found : find_queue r.queue s ≡ Some queue
    pub may : may_start now s queue ≡ true
    pub eligible : is_eligible queue now s r ≡ true

  of_next : (place : ℕ) (r : PlainRow) → slice_get s.rows place ≡ Some r → is_next (reason_of now s r) ≡ true → IsOfNext r
  of_next place r at is = by (find_queue r.queue s) refl
    where
      by : (o : Option QueueDef) → find_queue r.queue s ≡ o → IsOfNext r
      by None none = absurd (true≢false (sym is ∙ next_without now s r none))
      by (Some d) found =
          let parts : (may_start now s d ≡ true) × (is_eligible d now s r ≡ true) = may_parts now s d r (sym (next_is d now s r place at found) ∙ is) in
          record { queue = d; found = found; may = parts.0; eligible = parts.1 }

  pub next_starts : (place : ℕ) (r : PlainRow) → slice_get s.rows place ≡ Some r → is_next (reason_of now s r) ≡ true → is_some (pick now s) ≡ true
  next_starts place r at is =
      let own : IsOfNext r = of_next place r at is in
      picked_is_some now s
      ∙ any_passes_from_place (may_start now s) s.queues (position_or_len (is_queue r.queue) s.queues) own.queue
      (found_place (is_queue r.queue) s.queues own.queue own.found) own.may

  -- where nothing starts no request is next
  pub none_next : (place : ℕ) (r : PlainRow) → pick now s ≡ None → slice_get s.rows place ≡ Some r → is_next (reason_of now s r) ≡ false
  none_next place r none at = by (is_next (reason_of now s r)) refl
    where
      by : (b : Bool) → is_next (reason_of now s r) ≡ b → is_next (reason_of now s r) ≡ false
      by true is = absurd (true≢false (sym (next_starts place r at is) ∙ ap is_some none))
      by false isnt = isnt

  -- those that come before a request wait before it
  pub next_waits : (r : PlainRow) (n : ℕ) → reason_of now s r ≡ Next n → n ≤ count_before now s r
  next_waits r n told = by (find_queue r.queue s) refl
    where
      -- it is of the queue of that name, ready, and its earliest start has come
      ready : List ℕ → PlainRow → Bool
      ready name q = name_eq name q.queue && is_ready q && nat_le q.job.earliest now

      leading : (a b c : Bool) → (a && b && c) ≡ true → a ≡ true
      leading a b c h = (and_parts a b (and_parts (a && b) c h).0).0

      waits : (d : QueueDef) → find_queue r.queue s ≡ Some d → (k : ℕ) (q : PlainRow) → slice_get s.rows k ≡ Some q → goes_first d now s r q ≡ true
          → waits_before now r q ≡ true
      waits d found k q at goes =
          let parts : (comes_before q r ≡ true) × (is_eligible d now s q ≡ true) = and_parts (comes_before q r) (is_eligible d now s q) goes in
          and_from (comes_before q r) (ready r.queue q) parts.0
          (subst (λ m. ready m q ≡ true) (name_exact d.name r.queue (found_named r.queue s d found))
          (leading (ready d.name q) (below (length (filter (is_active_of d.name q.job.owner) s.rows)) d.user_limit) (kind_allows d.kind d now s q) parts.1))

      by : (o : Option QueueDef) → find_queue r.queue s ≡ o → n ≤ count_before now s r
      by None none = absurd (true≢false (sym (ap is_next told) ∙ next_without now s r none))
      by (Some d) found =
          subst (λ m. m ≤ count_before now s r) (next_count d now s r n found told)
          (filter_fewer (goes_first d now s r) (waits_before now r) s.rows (waits d found))

  -- the first request of a queue is that before which none of the queue comes
  pub next_first : (place : ℕ) (r : PlainRow) (d : QueueDef) → slice_get s.rows place ≡ Some r → find_queue r.queue s ≡ Some d → reason_of now s r ≡ Next 0
      → IsFirstRow d now s place r
  next_first place r d at found told = record {
    at = at;
    eligible = (may_parts now s d r (sym (next_is d now s r place at found) ∙ ap is_next told)).1;
    first = λ k q there eligible. other_fails (comes_before q r) (is_eligible d now s q) (none k q there) eligible;
  }
    where
      none : (k : ℕ) (q : PlainRow) → slice_get s.rows k ≡ Some q → goes_first d now s r q ≡ false
      none k q there =
          let e : length (filter (goes_first d now s r) s.rows) ≡ 0 = next_count d now s r 0 found told in
          not_true (goes_first d now s r q)
          (all_get (λ x. not (goes_first d now s r x)) s.rows k q (none_passes (goes_first d now s r) s.rows (omega (arith, e))) there)

  module _ (order : IsInOrder s) where
    -- what is picked is of the request or of one before it
    pub picked_before : (place : ℕ) (r : PlainRow) → slice_get s.rows place ≡ Some r → is_next (reason_of now s r) ≡ true
        → IfSome (pick now s) (IsAtOrBefore s place r)
    picked_before place r at is = IfSome_then (pick now s) (picked_is now s) (λ c picked. of c picked (of_next place r at is))
      where
        rows : (c : Choice) (row : PlainRow) (d : QueueDef) → IsFirstRow d now s (row_place c) row → is_eligible d now s r ≡ true
            → (row_place c ≡ place) ⊎ (comes_before row r ≡ true)
        rows c row d first eligible = by (comes_before row r) refl
          where
            by : (b : Bool) → comes_before row r ≡ b → (row_place c ≡ place) ⊎ (comes_before row r ≡ true)
            by true before = inr before
            by false isnt = inl (one_place now s order (row_place c) place row r first.at at (as_early row r isnt (first.first place r at eligible)))

        of : (c : Choice) → IsPicked now s c → IsOfNext r → IsAtOrBefore s place r c
        of c picked own = record {
          own_place = own_place;
          own = own.queue;
          queue_place = picked.queue_place;
          queue = picked.queue;
          row = picked.row;
          own_at = own_at;
          own_named = found_named r.queue s own.queue own.found;
          queue_at = picked.next.at;
          queue_named = (eligible_parts picked.queue now s picked.row picked.first.eligible).0;
          row_at = picked.first.at;
          order = by (next_before picked.queue_place own_place picked.queue own.queue picked.next own_at own.may);
        }
          where
            own_place : ℕ
            own_place = position_or_len (is_queue r.queue) s.queues

            own_at : slice_get s.queues own_place ≡ Some own.queue
            own_at = found_place (is_queue r.queue) s.queues own.queue own.found

            by : StartsBefore picked.queue_place picked.queue own_place own.queue ⊎ (picked.queue_place ≡ own_place)
                → StartsBefore picked.queue_place picked.queue own_place own.queue
                ⊎ ((picked.queue_place ≡ own_place) × ((row_place c ≡ place) ⊎ (comes_before picked.row r ≡ true)))
            by (inl before) = inl before
            by (inr e) =
                let same : own.queue ≡ picked.queue = same_at s.queues own_place picked.queue_place own.queue picked.queue own_at picked.next.at (sym e) in
                inr (e, rows c picked.row picked.queue picked.first (subst (λ q. is_eligible q now s r ≡ true) same own.eligible))

    -- a request before which none of the next queue comes is picked
    pub picked_first : (place : ℕ) (r : PlainRow) (queue_place : ℕ) (d : QueueDef) → slice_get s.rows place ≡ Some r → reason_of now s r ≡ Next 0
        → IsNextQueue now s queue_place d → find_queue r.queue s ≡ Some d → IfSome (pick now s) (λ c. row_place c ≡ place)
    picked_first place r queue_place d at told next found = IfSome_then (pick now s) (picked_is now s) of
      where
        of : (c : Choice) → IsPicked now s c → row_place c ≡ place
        of c picked =
            let e : picked.queue_place ≡ queue_place = one_next picked.queue_place queue_place picked.queue d picked.next next in
            let same : picked.queue ≡ d = same_at s.queues picked.queue_place queue_place picked.queue d picked.next.at next.at e in
            one_first now s order d (row_place c) place picked.row r (subst (λ q. IsFirstRow q now s (row_place c) picked.row) same picked.first)
            (next_first place r d at found told)

    -- what is picked is next, and none of its queue comes before it
    pub picked_next : (c : Choice) (r : PlainRow) → pick now s ≡ Some c → slice_get s.rows (row_place c) ≡ Some r → reason_of now s r ≡ Next 0
    picked_next c r is at = of (subst (λ o. IfSome o (IsPicked now s)) is (picked_is now s))
      where
        none : (d : QueueDef) (row : PlainRow) → IsFirstRow d now s (row_place c) row → row ≡ r → (k : ℕ) (q : PlainRow) → slice_get s.rows k ≡ Some q
            → goes_first d now s r q ≡ false
        none d row first same k q there = by (is_eligible d now s q) refl
          where
            by : (b : Bool) → is_eligible d now s q ≡ b → (comes_before q r && is_eligible d now s q) ≡ false
            by true eligible = ap (λ b. b && is_eligible d now s q) (subst (λ x. comes_before q x ≡ false) same (first.first k q there eligible))
            by false isnt = ap (λ b. comes_before q r && b) isnt ∙ and-false (comes_before q r)

        of : IsPicked now s c → reason_of now s r ≡ Next 0
        of picked =
            let same : picked.row ≡ r = same_Some picked.row r (sym picked.first.at ∙ at) in
            let eligible : is_eligible picked.queue now s r ≡ true = subst (λ x. is_eligible picked.queue now s x ≡ true) same picked.first.eligible in
            let named : picked.queue.name ≡ r.queue = name_exact picked.queue.name r.queue (eligible_parts picked.queue now s r eligible).0 in
            let found : find_queue r.queue s ≡ Some picked.queue =
            subst (λ n. find_queue n s ≡ Some picked.queue) named
            (found_again name_eq (λ q. q.name) name_exact same_name s.queues picked.queue_place picked.queue (keys_are s order.keys).queues picked.next.at) in
            next_said picked.queue now s r found
            (next_is picked.queue now s r (row_place c) at found
            ∙ and_from (may_start now s picked.queue) (is_eligible picked.queue now s r) picked.next.may eligible)
            ∙ ap Next (none_counted (goes_first picked.queue now s r) s.rows (none picked.queue picked.row picked.first same))

    pub others_wait : (c : Choice) (place : ℕ) (r : PlainRow) → pick now s ≡ Some c → slice_get s.rows place ≡ Some r → is_next (reason_of now s r) ≡ false
        → row_place c ≢ place
    others_wait c place r is at isnt same = true≢false (sym (ap is_next (picked_next c r is (ap (slice_get s.rows) same ∙ at))) ∙ isnt)
