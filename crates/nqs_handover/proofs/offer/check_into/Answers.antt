use Rattle.std.proofs.Common.{◌∙◌}
use Rattle.nqs_state.specs.State.{content}
use Rattle.nqs_handover.proofs.Refusals.{into_found, into_absent}
use Rattle.nqs_handover.proofs.offer.check_into.Goals as goal

pub returns-in-Some : goal.returns-in-Some
returns-in-Some c = c.check_found.ensures ∙ into_found (content c.args.state.now) c.args.peer c.args.low c.args.queue.now c.args.carried.now c.in-Some.def.now
    c.in-Some.ensures

pub returns-in-None : goal.returns-in-None
returns-in-None c = into_absent (content c.args.state.now) c.args.peer c.args.low c.args.queue.now c.args.carried.now c.in-None.ensures
