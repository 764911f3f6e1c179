use Rattle.std.proofs.Common.{◌≡◌}
use Rattle.nqs_types.specs.declared.world.Which.{Which}
use Rattle.nqs_outside.specs.History.{History}
use Rattle.nqs_rules.specs.World.{World as Network, Ran, all_starts, then_ran}
use Rattle.nqs_net.specs.Followed.{IsTurnAt, IsTurned}
use Rattle.nqs_net.specs.Turns.{IsSameTurn, starts_in}
use Rattle.nqs_net.proofs.turn.start_all.Given as goal

-- what was started so far, and that the others follow
abbrev pub invariant-loop-more : goal.invariant-loop-more
invariant-loop-more l = record {
  same : IsSameTurn l.fn.turn l.turn;
  started : (w : Network) (old : Which → History) → IsTurnAt l.fn.turn old l.fn.first w → w.now ≡ l.fn.turn.now
      → (r : Ran) × IsTurned l.fn.turn l.turn old w r l.slot × (all_starts l.fn.turn.me w ≡ then_ran r (all_starts l.fn.turn.me));
}

-- each start leaves fewer
abbrev pub decreases-loop-more : goal.decreases-loop-more
decreases-loop-more l = starts_in l.slot
