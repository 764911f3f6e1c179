use Rattle.std.proofs.Common.{sym, refl}
use Rattle.nqs_state.specs.State.{content}
use Rattle.nqs_access.proofs.Found.{queue_there, queue_missing, complex_there, complex_missing}
use Rattle.nqs_limits.proofs.check.check_add_queue.Goals as goal

pub returns-in-None : goal.returns-in-None
returns-in-None c = rw (complex_missing c.args.complex.now (content c.args.state.now) (sym c.in-None.ensures)) refl

pub returns-in-None-get : goal.returns-in-None-get
returns-in-None-get c =
    let s = content c.args.state.now in
    rw (complex_there c.args.complex.now s c.in-Some.members.now (sym c.in-Some.ensures), queue_missing c.args.queue.now s (sym c.in-None-get.ensures)) refl

pub returns-in-Some-get : goal.returns-in-Some-get
returns-in-Some-get c =
    let s = content c.args.state.now in
    rw (
      complex_there c.args.complex.now s c.in-Some.members.now (sym c.in-Some.ensures),
      queue_there c.args.queue.now s c.in-Some-get.def.now
          (sym c.in-Some-get.ensures),
      sym c.in-Some.ensures,
      sym c.in-Some-get.ensures,
    )
    c.check_new_member.ensures
