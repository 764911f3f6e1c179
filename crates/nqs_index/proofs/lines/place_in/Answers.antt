use Rattle.std.proofs.Common.{sym}
use Rattle.nqs_index.specs.QueueLines.{is_queue}
use Rattle.nqs_index.proofs.PlaceLemmas.{has_place}
use Rattle.nqs_index.proofs.lines.place_in.Goals as goal

pub unreachable-requires : goal.unreachable-requires
unreachable-requires c = has_place (is_queue c.args.queue.now) c.args.lines.now.items c.requires (sym c.in-None.ensures.place)
