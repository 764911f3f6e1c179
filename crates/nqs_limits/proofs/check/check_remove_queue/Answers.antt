use Rattle.std.proofs.Common.{sym, refl}
use Rattle.nqs_state.specs.State.{content}
use Rattle.nqs_access.proofs.Found.{complex_there, complex_missing}
use Rattle.nqs_limits.proofs.check.check_remove_queue.Goals as goal

pub returns-in-None : goal.returns-in-None
returns-in-None c = rw (complex_missing c.args.complex.now (content c.args.state.now) (sym c.in-None.ensures)) refl

pub returns-in-Some : goal.returns-in-Some
returns-in-Some c = rw (
  complex_there c.args.complex.now (content c.args.state.now) c.in-Some.members.now
      (sym c.in-Some.ensures),
  sym c.in-Some.ensures,
) c.check_member.ensures
