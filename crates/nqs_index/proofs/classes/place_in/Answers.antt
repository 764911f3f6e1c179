use Rattle.std.proofs.Common.{sym}
use Rattle.nqs_index.specs.Classes.{is_class}
use Rattle.nqs_index.proofs.PlaceLemmas.{has_place}
use Rattle.nqs_index.proofs.classes.place_in.Goals as goal

pub unreachable-requires : goal.unreachable-requires
unreachable-requires c = has_place (is_class c.args.class.now) c.args.classes.now.items c.requires (sym c.in-None.ensures.place)
