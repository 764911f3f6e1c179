use Rattle.std.proofs.Common.{◌≡◌, List, ◌++◌, length}
use Rattle.nqs_types.specs.declared.world.Seen.{Seen}
use Rattle.nqs_laws.specs.Outputs.{sent_in, seen_from}
use Rattle.nqs_net.specs.Turns.{IsSameTurn}
use Rattle.nqs_net.proofs.emit.emit.Given as goal

-- what goes out of the rest makes up what goes out of all, and so far a front of it was seen
abbrev pub invariant-loop-output : goal.invariant-loop-output
invariant-loop-output l = record {
  same : IsSameTurn l.fn.turn l.turn;
  packets : l.turn.packets.now.items ++ sent_in l.rest ≡ l.fn.turn.packets.now.items ++ sent_in l.fn.outputs.items;
  seen : (shown : List Seen) × (l.turn.seen.now.items ≡ l.fn.turn.seen.now.items ++ shown)
      × (seen_from l.fn.turn.me (length l.fn.turn.packets.now.items) l.fn.outputs.items
      ≡ shown ++ seen_from l.fn.turn.me (length l.turn.packets.now.items) l.rest);
}

abbrev pub decreases-loop-output : goal.decreases-loop-output
decreases-loop-output l = length l.rest
