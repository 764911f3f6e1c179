use Rattle.std.proofs.Common.{◌∙◌}
use Rattle.nqs_outside.specs.Asked.{end_of}
use Rattle.nqs_clients.proofs.Telling.{shepherds, shepherds_unsent}
use Rattle.nqs_clients.proofs.shepherding.shepherd.Goals as goal

pub returns-in-Ok-clause-shepherds : goal.returns-in-Ok-clause-shepherds
returns-in-Ok-clause-shepherds g c =
    shepherds c.args.host c.args.port c.args.id c.args.start (end_of c.run-answer.result) _ _ c.run-answer.ensures.runs
    (g.W.Wire.traffic c.args.wire.now) (g.W.Wire.traffic c.tell.new.wire)
    c.deref.result.now c.tell.result (c.deref.ensures.value ∙ c.in-Ok.ensures) c.tell.ensures.waits

pub returns-in-Err-clause-shepherds : goal.returns-in-Err-clause-shepherds
returns-in-Err-clause-shepherds g c =
    shepherds_unsent c.args.host c.args.port c.args.id c.args.start (end_of c.run-answer.result) _ _ c.run-answer.ensures.runs
    (g.W.Wire.traffic c.args.wire.now) _
