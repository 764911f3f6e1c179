-- What it means that a row, a queue or a choice comes next.
use Rattle.std.specs.Prelude.{◌≡◌, ℕ, ◌<◌, Bool, true, false, ◌&&◌, List, slice_get, Some}
use Rattle.std.specs.List.{list_any}
use Rattle.nqs_state.specs.State.{Plain}
use Rattle.nqs_rules.specs.Order.{is_greater, is_within_limits, is_eligible, comes_before, choice_for}
use Rattle.nqs_types.specs.declared.request.Row.{Row}
use Rattle.nqs_types.specs.declared.queue.QueueDef.{QueueDef}
use Rattle.nqs_types.specs.declared.rule.Choice.{Choice}
use Rattle.nqs_types.specs.declared.rule.Choice.TheVariants.{Launch, Print, TooFar, Local, Hand}

-- a row of a plain state
abbrev pub PlainRow : Type 0
PlainRow = Row (List ℕ)

-- some row of the queue may start
abbrev pub has_eligible : ℕ → Plain → QueueDef → Bool
has_eligible now s d = list_any (is_eligible d now s) s.rows

-- the queue is started, within its limits, and one of its rows may start
abbrev pub may_start : ℕ → Plain → QueueDef → Bool
may_start now s d = d.started && is_within_limits d s && has_eligible now s d

-- the row at a place may start from its queue, and no row that may start from it comes before
pub record IsFirstRow (d : QueueDef) (now : ℕ) (s : Plain) (place : ℕ) (r : PlainRow) : Type 0 where
  pub at : slice_get s.rows place ≡ Some r
  pub eligible : is_eligible d now s r ≡ true
  pub first : (k : ℕ) (q : PlainRow) → slice_get s.rows k ≡ Some q → is_eligible d now s q ≡ true → comes_before q r ≡ false

-- the queue at a place may start a row, no queue that may is greater, and none that may is as great
-- and was created before
pub record IsNextQueue (now : ℕ) (s : Plain) (place : ℕ) (d : QueueDef) : Type 0 where
  pub at : slice_get s.queues place ≡ Some d
  pub may : may_start now s d ≡ true
  pub greatest : (k : ℕ) (q : QueueDef) → slice_get s.queues k ≡ Some q → may_start now s q ≡ true → is_greater q d ≡ false
  pub first_created : (k : ℕ) (q : QueueDef) → k < place → slice_get s.queues k ≡ Some q → may_start now s q ≡ true → is_greater d q ≡ true

-- the place of the row that is started
abbrev pub row_place : Choice → ℕ
row_place (Launch row) = row
row_place (Print row _) = row
row_place (TooFar row) = row
row_place (Local row _) = row
row_place (Hand row _) = row

-- a choice starts the first row of the next queue, in the way of that queue's kind
pub record IsPicked (now : ℕ) (s : Plain) (c : Choice) : Type 0 where
  pub queue_place : ℕ
  pub queue : QueueDef
  pub row : PlainRow
  pub next : IsNextQueue now s queue_place queue
  pub first : IsFirstRow queue now s (row_place c) row
  pub way : choice_for queue.kind queue now s (row_place c) row ≡ Some c
