use Rattle.std.proofs.Common.{refl}
use Rattle.std.specs.Fmt.{digits}
use Rattle.nqs_worked.proofs.one_host.gate_decides.Goals as goal

pub returns-clause-early : goal.returns-clause-early
unfolding digits
returns-clause-early c = refl

pub returns-clause-late : goal.returns-clause-late
unfolding digits
returns-clause-late c = refl
