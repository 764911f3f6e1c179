use Rattle.nqs_base.specs.Path.{PathAllowedBelow}
use Rattle.nqs_codec.proofs.tested.first_bad.Given as goal

abbrev pub invariant-loop-i : goal.invariant-loop-i
invariant-loop-i l = PathAllowedBelow l.path l.i
