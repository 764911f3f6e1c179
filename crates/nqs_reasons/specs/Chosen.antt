-- What a reason means for what the scheduler starts.
use Rattle.std.specs.Prelude.{◌≡◌, ◌⊎◌, ℕ, ◌<◌, Bool, true, false, ◌∷◌, ◌++◌, slice_get, Some}
use Rattle.std.specs.List.{list_all}
use Rattle.nqs_base.specs.Same.{name_eq}
use Rattle.nqs_state.specs.State.{Plain}
use Rattle.nqs_rules.specs.Order.{is_greater, comes_before}
use Rattle.nqs_rules.specs.Picked.{PlainRow, row_place}
use Rattle.nqs_types.specs.declared.queue.QueueDef.{QueueDef}
use Rattle.nqs_types.specs.declared.rule.Choice.{Choice}
use Rattle.nqs_types.specs.declared.reason.Reason.{Reason}
use Rattle.nqs_types.specs.declared.reason.Reason.TheVariants.{Next}
use Rattle.nqs_types.specs.declared.reason.DestAnswer.{DestAnswer}
use Rattle.nqs_types.specs.declared.reason.DestAnswer.TheVariants.{MayBeTried}
use Rattle.nqs_rules.specs.Reasons.{Conditions}

-- nothing stands in the way but the order
abbrev pub is_next : Reason → Bool
is_next (Next count) = true
is_next _ = false

-- a destination may be tried
abbrev pub may_be_tried : DestAnswer → Bool
may_be_tried MayBeTried = true
may_be_tried _ = false

-- each condition holds
abbrev pub all_hold : {A : Type 0} → Conditions A → Bool
all_hold cs = list_all (λ c. c.0) cs

-- the answer is told of a condition that fails, and all before it hold; or all hold, and it is the
-- last answer
abbrev pub IsFirstFailing : {A : Type 0} → Conditions A → A → A → Type 0
IsFirstFailing {A} cs last answer =
    ((front rest : Conditions A) × (cs ≡ front ++ (false, answer) ∷ rest) × (all_hold front ≡ true)) ⊎ ((all_hold cs ≡ true) × (answer ≡ last))

-- the queue at one place is started before the one at another: it is greater, or as great and
-- created before
abbrev pub StartsBefore : ℕ → QueueDef → ℕ → QueueDef → Type 0
StartsBefore k p l q = (is_greater p q ≡ true) ⊎ ((p.priority ≡ q.priority) × (k < l))

-- a choice is of the row at a place, or of one before it: of a queue that is started before its
-- queue, or of its queue a row that comes before it
pub record IsAtOrBefore (s : Plain) (place : ℕ) (r : PlainRow) (c : Choice) : Type 0 where
  pub own_place : ℕ
  pub own : QueueDef
  pub queue_place : ℕ
  pub queue : QueueDef
  pub row : PlainRow
  pub own_at : slice_get s.queues own_place ≡ Some own
  pub own_named : name_eq own.name r.queue ≡ true
  pub queue_at : slice_get s.queues queue_place ≡ Some queue
  pub queue_named : name_eq queue.name row.queue ≡ true
  pub row_at : slice_get s.rows (row_place c) ≡ Some row
  pub order : StartsBefore queue_place queue own_place own ⊎ ((queue_place ≡ own_place) × ((row_place c ≡ place) ⊎ (comes_before row r ≡ true)))
