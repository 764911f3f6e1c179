use Rattle.std.proofs.Common.{◌≡◌, ◌≤◌, ◌-◌, length, drop}
use Rattle.nqs_state.specs.State.{content}
use Rattle.nqs_order.specs.ByIndex.{first_in}
use Rattle.nqs_order.proofs.by_index.first_in.Given as goal

abbrev pub invariant-loop-place : goal.invariant-loop-place
invariant-loop-place l = record {
  within : l.place ≤ length l.line;
  rest : first_in l.index l.queue l.now (content l.state) (drop l.place l.line) ≡ first_in l.index l.queue l.now (content l.state) l.line;
}

abbrev pub decreases-loop-place : goal.decreases-loop-place
decreases-loop-place l = length l.line - l.place
