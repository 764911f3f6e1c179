-- The part of a row's eligibility that is told by the row and its queue's name alone, in the order
-- in which it is looked at.
use Rattle.std.specs.Prelude.{ℕ, Bool, ◌&&◌, nat_le}
use Rattle.nqs_base.specs.Same.{name_eq}
use Rattle.nqs_types.specs.declared.request.Row.{Row}
use Rattle.nqs_types.specs.declared.queue.QueueDef.{QueueDef}
use Rattle.nqs_rules.specs.Tests.{is_ready}

module _ {E : Type 0} where
  -- queued in the queue, not held, and its earliest start has come
  abbrev pub is_waiting : QueueDef → ℕ → Row E → Bool
  is_waiting d now r = name_eq d.name r.queue && is_ready r && nat_le r.job.earliest now
