use Rattle.std.proofs.Common.{sym, refl}
use Rattle.nqs_state.specs.State.{content}
use Rattle.nqs_access.proofs.Found.{queue_there, queue_missing}
use Rattle.nqs_conf.proofs.check.check_destination.Goals as goal

pub returns-in-None : goal.returns-in-None
returns-in-None c = rw (queue_missing c.args.queue.now (content c.args.state.now) (sym c.in-None.ensures)) refl

pub returns-in-Some : goal.returns-in-Some
returns-in-Some c = rw (
  queue_there c.args.queue.now (content c.args.state.now) c.in-Some.def.now
      (sym c.in-Some.ensures),
  sym c.in-Some.ensures,
) c.check_listed_dest.ensures
