use Rattle.std.proofs.Common.{◌≡◌, ◌≤◌, ◌+◌, ◌-◌, ◌*◌, length, drop, None}
use Rattle.std.specs.Option.{option_map}
use Rattle.nqs_state.specs.State.{content}
use Rattle.nqs_order.specs.ByIndex.{first_among}
use Rattle.nqs_order.proofs.by_index.first_among.Given as goal

abbrev pub invariant-loop-place : goal.invariant-loop-place
invariant-loop-place g l = record {
  within : l.place ≤ length l.classes.items;
  rest : first_among l.index l.queue l.now (content l.state) l.any_open (option_map (λ p. (p.0, p.1.now)) l.best) (drop l.place l.classes.items)
      ≡ first_among l.index l.queue l.now (content l.state) l.any_open None l.classes.items;
  rises : l.fn.steps ≤ l.steps;
  cost : l.steps ≤ l.fn.steps + 2 * l.place;
}

abbrev pub decreases-loop-place : goal.decreases-loop-place
decreases-loop-place g l = length l.classes.items - l.place
