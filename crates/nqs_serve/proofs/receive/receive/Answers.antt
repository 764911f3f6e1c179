use Rattle.std.proofs.Common.{rules, take}
use Rattle.nqs_outside.specs.Asked.{came, quiet}
use Rattle.nqs_serve.specs.Events.{Here}
use Rattle.nqs_serve.proofs.receive.receive.Goals as goal

pub returns-in-Quiet-clause-came : goal.returns-in-Quiet-clause-came
returns-in-Quiet-clause-came g c =
    let here : Here = record { me = c.args.me; site = c.args.site.now } in
    (quiet, c.forget.ensures.event here, c.forget.ensures.gathered here, search rules)

pub returns-in-Ok-hear-clause-came : goal.returns-in-Ok-hear-clause-came
returns-in-Ok-hear-clause-came g c =
    (came (take c.in-Datagram.count c.receive.new.buf), search rules, search rules, search rules)
