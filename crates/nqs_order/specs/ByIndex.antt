-- The scheduler's rules over an index: its counts in place of those of rows, and a queue's classes
-- in place of all rows.
use Rattle.std.specs.Prelude.{ℕ, ◌-◌, ◌*◌, ◌≤◌, Bool, true, false, not, ◌&&◌, ◌||◌, ◌==◌, nat_lt, nat_le, if◌then◌else◌, List, [], ◌∷◌, length, position}
use Rattle.std.specs.Prelude.{slice_get}
use Rattle.std.specs.Prelude.{Option, None, Some, is_some}
use Rattle.std.specs.List.{list_all, list_any}
use Rattle.std.specs.Option.{option_map, option_and_then, option_or}
use Rattle.nqs_base_tables.specs.Table.{best_from}
use Rattle.nqs_state.specs.State.{State}
use Rattle.nqs_state.specs.Keys.{is_row}
use Rattle.nqs_rules.specs.Tests.{passes, is_batch, same_host}
use Rattle.nqs_rules.specs.Find.{has_name, find_device}
use Rattle.nqs_rules.specs.Devices.{can_serve}
use Rattle.nqs_rules.specs.Routing.{is_reachable, destination}
use Rattle.nqs_rules.specs.Order.{below, is_greater, print_on, move_to}
use Rattle.nqs_types.specs.declared.ids.RequestId.{RequestId}
use Rattle.nqs_types.specs.declared.ids.Dest.{Dest}
use Rattle.nqs_types.specs.declared.request.Row.{Row}
use Rattle.nqs_types.specs.declared.queue.Kind.{Kind}
use Rattle.nqs_types.specs.declared.queue.Kind.TheVariants.{Batch, Device, Pipe}
use Rattle.nqs_types.specs.declared.queue.QueueDef.{QueueDef}
use Rattle.nqs_types.specs.declared.queue.ComplexDef.{ComplexDef}
use Rattle.nqs_types.specs.declared.rule.Choice.{Choice}
use Rattle.nqs_types.specs.declared.rule.Choice.TheVariants.{Launch, TooFar}
use Rattle.nqs_index.specs.declared.index.Index.{Index}
use Rattle.nqs_index.specs.declared.key.Key.{Key}
use Rattle.nqs_index.specs.declared.line.Entry.{Entry}
use Rattle.nqs_index.specs.declared.class.Class.{Class}
use Rattle.nqs_index.specs.declared.classes.ClassLine.{ClassLine}
use Rattle.nqs_index.specs.declared.tally.Tally.TheVariants.{Active, Running, Owned, Printing}
use Rattle.nqs_index.specs.Indexed.{counted_in, classes_in}
use Rattle.nqs_index.specs.Keys.{is_before, key_of}
use Rattle.nqs_order.specs.Waiting.{is_waiting}

-- fewer requests of the owner are active in the queue than its user limit
abbrev pub user_allows : Index → QueueDef → List ℕ → Bool
user_allows index d owner = below (counted_in (Owned d.name owner) index) d.user_limit

-- how many requests run in a queue, where it isn't one of the later ones
abbrev pub running_once : Index → List ℕ → List (List ℕ) → ℕ
running_once index q later = if has_name later q then 0 else counted_in (Running q) index

-- fewer requests run in the queues of these names than a limit
abbrev pub fewer_run : Index → ℕ → List (List ℕ) → Bool
fewer_run index limit [] = nat_lt 0 limit
fewer_run index limit (q ∷ qs) = nat_lt (running_once index q qs) limit && fewer_run index (limit - running_once index q qs) qs

-- the queue isn't of the complex, or fewer requests run in the queues of the complex than its limit
abbrev pub complex_allows : Index → List ℕ → ComplexDef → Bool
complex_allows index q c = not (has_name c.queues q) || fewer_run index c.limit c.queues

-- how many requests run in the queue, if it is a batch queue
abbrev pub running_in_batch : Index → QueueDef → ℕ
running_in_batch index d = if is_batch d.kind then counted_in (Running d.name) index else 0

-- fewer requests run in the batch queues among these than a limit
abbrev pub fewer_in_batch : Index → ℕ → List QueueDef → Bool
fewer_in_batch index limit [] = nat_lt 0 limit
fewer_in_batch index limit (d ∷ ds) = nat_lt (running_in_batch index d) limit && fewer_in_batch index (limit - running_in_batch index d) ds

-- there is a class
abbrev pub is_filled : List ClassLine → Bool
is_filled ls = nat_lt 0 (length ls)

-- the classes of a queue, if there is one
abbrev pub classes_for : Index → Option (ℕ × QueueDef) → List ClassLine
classes_for index None = []
classes_for index (Some q) = classes_in q.1.name index

module _ {E : Type 0} where
  -- the global limit allows another batch request, and so do the complexes
  abbrev pub batch_allows : Index → List ℕ → Bool → State E → Bool
  batch_allows index q batch s = batch && list_all (complex_allows index q) s.complexes

  -- the queue's run limit, and for a batch queue those limits too
  abbrev pub is_within_limits : Index → QueueDef → Bool → State E → Bool
  is_within_limits index d batch s = nat_lt (counted_in (Active d.name) index) d.run_limit && (not (is_batch d.kind) || batch_allows index d.name batch s)

  -- a device may take a request with these forms now
  abbrev pub is_free_device : Index → Option (List ℕ) → State E → List ℕ → Bool
  is_free_device index forms s device = passes (can_serve forms) (find_device device s) && not (nat_lt 0 (counted_in (Printing device) index))

  -- the place in the queue's list of its first device that is free and has the forms
  abbrev pub free_device : Index → QueueDef → Option (List ℕ) → State E → Option ℕ
  free_device index d forms s = position (is_free_device index forms s) d.devices

  -- a device of the queue is free, whatever its forms
  abbrev pub has_free_device : Index → QueueDef → State E → Bool
  has_free_device index d s = list_any (is_free_device index None s) d.devices

  -- the queue can do something with some row, as far as that is told without one
  abbrev pub may_serve : Kind → Index → QueueDef → State E → Bool
  may_serve Batch index d s = true
  may_serve Device index d s = has_free_device index d s
  may_serve Pipe index d s = true

  -- the queue can do something with the row
  abbrev pub kind_allows : Kind → Index → QueueDef → ℕ → State E → Row E → Bool
  kind_allows Batch index d now s r = true
  kind_allows Device index d now s r = is_some (free_device index d r.job.forms s)
  kind_allows Pipe index d now s r = r.hops == 32 || is_some (destination d now s r)

  -- the row may start
  abbrev pub is_eligible : Index → QueueDef → ℕ → State E → Row E → Bool
  is_eligible index d now s r = is_waiting d now r && user_allows index d r.job.owner && kind_allows d.kind index d now s r

  -- a place with a row
  abbrev pub placed_row : ℕ → Row E → ℕ × Row E
  placed_row n r = (n, r)

  -- a place, with the row that stands there
  abbrev pub with_row : State E → ℕ → Option (ℕ × Row E)
  with_row s n = option_map (placed_row n) (slice_get s.rows n)

  -- a row that passes a test, with its place
  abbrev pub if_passes : (Row E → Bool) → ℕ × Row E → Option (ℕ × Row E)
  if_passes test p = if test p.1 then Some p else None

  -- the row of a request, with its place, if it may start
  abbrev pub startable : Index → QueueDef → ℕ → State E → RequestId → Option (ℕ × Row E)
  startable index d now s id = option_and_then (if_passes (is_eligible index d now s)) (option_and_then (with_row s) (position (is_row id) s.rows))

  -- the row of the first entry whose row may start, with its place
  abbrev pub first_in : Index → QueueDef → ℕ → State E → List Entry → Option (ℕ × Row E)
  first_in index d now s [] = None
  first_in index d now s (e ∷ es) = option_or (startable index d now s e.id) (first_in index d now s es)

  -- a destination may be tried by a request that none has refused
  abbrev pub is_open : ℕ → State E → Dest → Bool
  is_open now s dest = same_host s.me dest.host || is_reachable now dest.host s

  -- a destination of the queue is open, where it is a pipe queue
  abbrev pub has_open : Kind → QueueDef → ℕ → State E → Bool
  has_open Batch d now s = false
  has_open Device d now s = false
  has_open Pipe d now s = list_any (is_open now s) d.dests

  -- the queue can do something with requests of the class, as far as that is told without one
  abbrev pub class_served : Kind → Index → QueueDef → State E → Bool → Class → Bool
  class_served Batch index d s any_open c = true
  class_served Device index d s any_open c = is_some (free_device index d c.forms s)
  class_served Pipe index d s any_open c = c.far || any_open

  -- requests of the class may start, as far as that is told without one
  abbrev pub class_allows : Index → QueueDef → ℕ → State E → Bool → Class → Bool
  class_allows index d now s any_open c = nat_le c.earliest now && user_allows index d c.owner && class_served d.kind index d s any_open c

  -- the first row of a class that may start, with its place
  abbrev pub first_of : Index → QueueDef → ℕ → State E → Bool → ClassLine → Option (ℕ × Row E)
  first_of index d now s any_open l = if class_allows index d now s any_open l.class then first_in index d now s l.line else None

  -- a row of this key comes before the best so far
  abbrev pub leads : Option (ℕ × Row E) → Key → Bool
  leads None k = true
  leads (Some p) k = is_before k (key_of p.1)

  -- the one that comes first of the best row so far and another
  abbrev pub earlier : Option (ℕ × Row E) → Option (ℕ × Row E) → Option (ℕ × Row E)
  earlier best None = best
  earlier best (Some p) = if leads best (key_of p.1) then Some p else best

  -- a line's first entry comes before the best row so far
  abbrev pub is_ahead : Option (ℕ × Row E) → List Entry → Bool
  is_ahead best [] = false
  is_ahead best (e ∷ es) = leads best e.key

  -- the best row, with one more class: it is passed over where its first entry doesn't come before
  -- the best so far
  abbrev pub better_of : Index → QueueDef → ℕ → State E → Bool → Option (ℕ × Row E) → ClassLine → Option (ℕ × Row E)
  better_of index d now s any_open best l = if is_ahead best l.line then earlier best (first_of index d now s any_open l) else best

  -- the best row, with some more classes
  abbrev pub first_among : Index → QueueDef → ℕ → State E → Bool → Option (ℕ × Row E) → List ClassLine → Option (ℕ × Row E)
  first_among index d now s any_open best [] = best
  first_among index d now s any_open best (l ∷ ls) = first_among index d now s any_open (better_of index d now s any_open best l) ls

  -- the first row of a queue that may start: the one of the first rows of its classes that comes
  -- before the others
  abbrev pub first_eligible : Index → QueueDef → ℕ → State E → Option (ℕ × Row E)
  first_eligible index d now s = first_among index d now s (has_open d.kind d now s) None (classes_in d.name index)

  -- a class has a row that may start
  abbrev pub has_first : Index → QueueDef → ℕ → State E → Bool → ClassLine → Bool
  has_first index d now s any_open l = is_some (first_of index d now s any_open l)

  -- one of these classes has a row that may start
  abbrev pub has_eligible : Index → QueueDef → ℕ → State E → List ClassLine → Bool
  has_eligible index d now s ls = list_any (has_first index d now s (has_open d.kind d now s)) ls

  -- a queue with these classes may start one more request
  abbrev pub may_start : Index → Bool → ℕ → State E → QueueDef → List ClassLine → Bool
  may_start index batch now s d ls = is_filled ls && is_within_limits index d batch s && may_serve d.kind index d s && has_eligible index d now s ls

  -- the queue is started, within its limits, and has an eligible row
  abbrev pub is_candidate : Index → Bool → ℕ → State E → QueueDef → Bool
  is_candidate index batch now s d = d.started && may_start index batch now s d (classes_in d.name index)

  -- the queue that starts next
  abbrev pub next_queue : Index → ℕ → State E → Option (ℕ × QueueDef)
  next_queue index now s = best_from (is_candidate index (fewer_in_batch index s.global_limit s.queues) now s) is_greater 0 s.queues

  -- what is done with an eligible row
  abbrev pub choice_for : Kind → Index → QueueDef → ℕ → State E → ℕ → Row E → Option Choice
  choice_for Batch index d now s place r = Some (Launch place)
  choice_for Device index d now s place r = print_on place (free_device index d r.job.forms s)
  choice_for Pipe index d now s place r = if r.hops == 32 then Some (TooFar place) else move_to place d s (destination d now s r)

  -- what is started of a queue, of its first eligible request
  abbrev pub choice_of : Index → QueueDef → ℕ → State E → Option (ℕ × Row E) → Option Choice
  choice_of index d now s None = None
  choice_of index d now s (Some p) = choice_for d.kind index d now s p.0 p.1

  -- what is started, of the queue that comes first
  abbrev pub pick_in : Index → ℕ → State E → Option (ℕ × QueueDef) → Option Choice
  pick_in index now s None = None
  pick_in index now s (Some q) = choice_of index q.1 now s (first_eligible index q.1 now s)

  -- so many comparisons tell what is started next: at most two for each class of its queue
  abbrev pub PicksBy : Index → ℕ → State E → ℕ → Type 0
  PicksBy index now s steps = steps ≤ 2 * length (classes_for index (next_queue index now s))

  -- what is started next
  abbrev pub pick : Index → ℕ → State E → Option Choice
  pick index now s = pick_in index now s (next_queue index now s)
