use Rattle.std.proofs.Common.{refl, sym}
use Rattle.nqs_codec.proofs.Shorts.{path_found}
use Rattle.nqs_codec.proofs.tested.take_path.Goals as goal

pub returns : goal.returns
returns c = path_found c.args.bytes.now c.args.place c.in_ok-path.path.now c.in_ok-path.ensures.found c.in_default.ensures.none
    (sym c.if-has_parent.ensures) _ refl
