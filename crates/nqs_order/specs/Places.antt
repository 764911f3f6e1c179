-- The scheduler's rules, with queues and rows by their places.
use Rattle.std.specs.Prelude.{ℕ, Bool, Option, slice_get}
use Rattle.std.specs.Option.{option_map, option_and_then}
use Rattle.nqs_state.specs.State.{State}
use Rattle.nqs_rules.specs.Tests.{passes}
use Rattle.nqs_rules.specs.Order.{is_within_limits, first_eligible}

module _ {E : Type 0} where
  -- there is a queue at the place, and it is within its limits
  abbrev pub is_place_within : ℕ → State E → Bool
  is_place_within queue s = passes (λ d. is_within_limits d s) (slice_get s.queues queue)

  -- the place of the first eligible row of the queue at a place
  abbrev pub first_place : ℕ → ℕ → State E → Option ℕ
  first_place queue now s = option_map (λ p. p.0) (option_and_then (λ d. first_eligible d now s) (slice_get s.queues queue))
