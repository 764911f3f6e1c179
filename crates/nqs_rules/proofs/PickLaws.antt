-- The scheduler picks the first row of the next queue.
use Rattle.std.proofs.Common.{◌≡◌, ℕ, Bool, true, false, ◌&&◌, ◌||◌, ◌==◌, nat_lt, Option, None, Some, is_some, true≢false, refl, sym, ap, subst, ◌∙◌, arith}
use Rattle.std.proofs.Common.{if◌then◌else◌}
use Rattle.std.proofs.lemmas.Bool.Decides.{nat_tests}
use Rattle.std.specs.List.{list_any}
use Rattle.std.specs.Option.{IfSome}
use Rattle.nqs_base.specs.Same.{name_eq}
use Rattle.nqs_state.specs.State.{Plain}
use Rattle.nqs_types.specs.declared.queue.Kind.{Kind}
use Rattle.nqs_types.specs.declared.queue.Kind.TheVariants.{Batch, Device, Pipe}
use Rattle.nqs_types.specs.declared.queue.QueueDef.{QueueDef}
use Rattle.nqs_types.specs.declared.rule.Choice.{Choice}
use Rattle.nqs_types.specs.declared.rule.Choice.TheVariants.{TooFar, Local, Hand}
use Rattle.nqs_rules.specs.Tests.{is_ready}
use Rattle.nqs_rules.specs.Devices.{free_device}
use Rattle.nqs_rules.specs.Routing.{destination}
use Rattle.nqs_rules.specs.Order.{is_greater, is_within_limits, kind_allows, is_eligible, comes_before, first_eligible, is_candidate, next_queue, is_local}
use Rattle.nqs_rules.specs.Order.{print_on, move_to, choice_for, choice_of, pick_in, pick}
use Rattle.nqs_rules.specs.Picked.{PlainRow, has_eligible, may_start, IsFirstRow, IsNextQueue, row_place, IsPicked}
use Rattle.nqs_rules.proofs.BestLaws.{IsBest, best_is, best_is_some}

-- the orders

not_before_itself : (r : PlainRow) → comes_before r r ≡ false
not_before_itself r = grind (arith, nat_tests)

not_both_before : (a b : PlainRow) → comes_before a b ≡ true → comes_before b a ≡ false
not_both_before a b h = numbers a.job.priority b.job.priority a.arrival b.arrival h
  where
    numbers : (p q m n : ℕ) → (nat_lt q p || (p == q && nat_lt m n)) ≡ true → (nat_lt p q || (q == p && nat_lt n m)) ≡ false
    numbers p q m n h = grind (arith, nat_tests)

not_before_through : (a b c : PlainRow) → comes_before a b ≡ false → comes_before b c ≡ false → comes_before a c ≡ false
not_before_through a b c h g = numbers a.job.priority b.job.priority c.job.priority a.arrival b.arrival c.arrival h g
  where
    numbers : (p q r m n o : ℕ) → (nat_lt q p || (p == q && nat_lt m n)) ≡ false → (nat_lt r q || (q == r && nat_lt n o)) ≡ false
        → (nat_lt r p || (p == r && nat_lt m o)) ≡ false
    numbers p q r m n o h g = grind (arith, nat_tests)

not_greater_itself : (d : QueueDef) → is_greater d d ≡ false
not_greater_itself d = grind (arith, nat_tests)

not_both_greater : (a b : QueueDef) → is_greater a b ≡ true → is_greater b a ≡ false
not_both_greater a b h = numbers a.priority b.priority h
  where
    numbers : (p q : ℕ) → nat_lt q p ≡ true → nat_lt p q ≡ false
    numbers p q h = grind (arith, nat_tests)

not_greater_through : (a b c : QueueDef) → is_greater a b ≡ false → is_greater b c ≡ false → is_greater a c ≡ false
not_greater_through a b c h g = numbers a.priority b.priority c.priority h g
  where
    numbers : (p q r : ℕ) → nat_lt q p ≡ false → nat_lt r q ≡ false → nat_lt r p ≡ false
    numbers p q r h g = grind (arith, nat_tests)

-- what an eligible row is
pub eligible_parts : (d : QueueDef) (now : ℕ) (s : Plain) (r : PlainRow) → is_eligible d now s r ≡ true
    → (name_eq d.name r.queue ≡ true) × (is_ready r ≡ true) × (kind_allows d.kind d now s r ≡ true)
eligible_parts d now s r h = five (name_eq d.name r.queue) (is_ready r) _ _ _ h
  where
    five : (u v w x y : Bool) → (u && v && w && x && y) ≡ true → (u ≡ true) × (v ≡ true) × (y ≡ true)
    five true true true true y h = (refl, refl, h)
    five u v w x y h = absurd (true≢false (sym h))

module _ (now : ℕ) (s : Plain) where
  pub first_row_is : (d : QueueDef) → IfSome (first_eligible d now s) (λ p. IsFirstRow d now s p.0 p.1)
  first_row_is d = of (first_eligible d now s) (best_is (is_eligible d now s) comes_before not_before_itself not_both_before not_before_through s.rows)
    where
      of : (o : Option (ℕ × PlainRow)) → IfSome o (λ p. IsBest (is_eligible d now s) comes_before s.rows p.0 p.1) → IfSome o (λ p. IsFirstRow d now s p.0 p.1)
      of None h = tt
      of (Some p) h = record { at = h.at; eligible = h.passes; first = h.unbeaten }

  pub first_row_is_some : (d : QueueDef) → is_some (first_eligible d now s) ≡ has_eligible now s d
  first_row_is_some d = best_is_some (is_eligible d now s) comes_before 0 s.rows

  -- a candidate is a queue that may start a row
  candidate_is : (d : QueueDef) → is_candidate now s d ≡ may_start now s d
  candidate_is d = ap (λ b. d.started && is_within_limits d s && b) (first_row_is_some d)

  queue_is : (λ d. is_candidate now s d) ≡ may_start now s
  queue_is = (λ j d. candidate_is d j)

  pub next_queue_is : IfSome (next_queue now s) (λ p. IsNextQueue now s p.0 p.1)
  next_queue_is = of (next_queue now s) (best_is (is_candidate now s) is_greater not_greater_itself not_both_greater not_greater_through s.queues)
    where
      of : (o : Option (ℕ × QueueDef)) → IfSome o (λ p. IsBest (is_candidate now s) is_greater s.queues p.0 p.1) → IfSome o (λ p. IsNextQueue now s p.0 p.1)
      of None h = tt
      of (Some p) h = record {
        at = h.at;
        may = sym (candidate_is p.1) ∙ h.passes;
        greatest = λ k q there may. h.unbeaten k q there (candidate_is q ∙ may);
        first_created = λ k q below there may. h.first k q there (candidate_is q ∙ may) below;
      }

  pub next_queue_is_some : is_some (next_queue now s) ≡ list_any (may_start now s) s.queues
  next_queue_is_some = best_is_some (is_candidate now s) is_greater 0 s.queues ∙ ap (λ t. list_any t s.queues) queue_is

  -- something can be done with an eligible row

  place_is : (k : Kind) (d : QueueDef) (place : ℕ) (r : PlainRow) → IfSome (choice_for k d now s place r) (λ c. row_place c ≡ place)
  place_is Batch d place r = refl
  place_is Device d place r = of (free_device d r.job.forms s)
    where
      of : (o : Option ℕ) → IfSome (print_on place o) (λ c. row_place c ≡ place)
      of None = tt
      of (Some n) = refl
  place_is Pipe d place r = by (r.hops == 32) (destination d now s r)
    where
      by : (b : Bool) (o : Option ℕ) → IfSome (if b then Some (TooFar place) else move_to place d s o) (λ c. row_place c ≡ place)
      by true o = refl
      by false None = tt
      by false (Some n) = of (is_local n d s)
        where
          of : (b : Bool) → IfSome (if b then Some (Local place n) else Some (Hand place n)) (λ c. row_place c ≡ place)
          of true = refl
          of false = refl

  choice_is_some : (k : Kind) (d : QueueDef) (place : ℕ) (r : PlainRow) → is_some (choice_for k d now s place r) ≡ kind_allows k d now s r
  choice_is_some Batch d place r = refl
  choice_is_some Device d place r = of (free_device d r.job.forms s)
    where
      of : (o : Option ℕ) → is_some (print_on place o) ≡ is_some o
      of None = refl
      of (Some n) = refl
  choice_is_some Pipe d place r = by (r.hops == 32) (destination d now s r)
    where
      by : (b : Bool) (o : Option ℕ) → is_some (if b then Some (TooFar place) else move_to place d s o) ≡ (b || is_some o)
      by true o = refl
      by false None = refl
      by false (Some n) = of (is_local n d s)
        where
          of : (b : Bool) → is_some (if b then Some (Local place n) else Some (Hand place n)) ≡ true
          of true = refl
          of false = refl

  pub picked_is : IfSome (pick now s) (IsPicked now s)
  picked_is = in_queue (next_queue now s) next_queue_is
    where
      with_row : (q : ℕ × QueueDef) → IsNextQueue now s q.0 q.1 → (p : ℕ × PlainRow) → IsFirstRow q.1 now s p.0 p.1 → (o : Option Choice)
          → choice_for q.1.kind q.1 now s p.0 p.1 ≡ o → IfSome o (λ c. row_place c ≡ p.0)
          → IfSome o (IsPicked now s)
      with_row q next p first None way place = tt
      with_row q next p first (Some c) way place = record {
        queue_place = q.0;
        queue = q.1;
        row = p.1;
        next = next;
        first = subst (λ n. IsFirstRow q.1 now s n p.1) (sym place) first;
        way = ap (λ n. choice_for q.1.kind q.1 now s n p.1) place ∙ way;
      }

      of_queue : (q : ℕ × QueueDef) → IsNextQueue now s q.0 q.1 → (o : Option (ℕ × PlainRow)) → IfSome o (λ p. IsFirstRow q.1 now s p.0 p.1)
          → IfSome (choice_of q.1 now s o) (IsPicked now s)
      of_queue q next None first = tt
      of_queue q next (Some p) first = with_row q next p first (choice_for q.1.kind q.1 now s p.0 p.1) refl (place_is q.1.kind q.1 p.0 p.1)

      in_queue : (o : Option (ℕ × QueueDef)) → IfSome o (λ q. IsNextQueue now s q.0 q.1) → IfSome (pick_in now s o) (IsPicked now s)
      in_queue None next = tt
      in_queue (Some q) next = of_queue q next (first_eligible q.1 now s) (first_row_is q.1)

  pub picked_is_some : is_some (pick now s) ≡ list_any (may_start now s) s.queues
  picked_is_some = in_queue (next_queue now s) next_queue_is ∙ next_queue_is_some
    where
      of_queue : (d : QueueDef) (o : Option (ℕ × PlainRow)) → is_some o ≡ true → IfSome o (λ p. IsFirstRow d now s p.0 p.1)
          → is_some (choice_of d now s o) ≡ true
      of_queue d None some first = absurd (true≢false (sym some))
      of_queue d (Some p) some first = choice_is_some d.kind d p.0 p.1 ∙ (eligible_parts d now s p.1 first.eligible).2

      has_row : (d : QueueDef) → may_start now s d ≡ true → has_eligible now s d ≡ true
      has_row d may = three d.started (is_within_limits d s) (has_eligible now s d) may
        where
          three : (u v w : Bool) → (u && v && w) ≡ true → w ≡ true
          three true true w h = h
          three u v w h = absurd (true≢false (sym h))

      in_queue : (o : Option (ℕ × QueueDef)) → IfSome o (λ q. IsNextQueue now s q.0 q.1) → is_some (pick_in now s o) ≡ is_some o
      in_queue None next = refl
      in_queue (Some q) next = of_queue q.1 (first_eligible q.1 now s) (first_row_is_some q.1 ∙ has_row q.1 next.may) (first_row_is q.1)
