use Rattle.std.proofs.Common.{Err, ap, ◌∙◌}
use Rattle.nqs_rules.proofs.StepHalts.{step-halts}
use Rattle.nqs_node.specs.Nodes.{content_of}
use Rattle.nqs_node.proofs.Places.{not_both}
use Rattle.nqs_node.proofs.Telling.{halts_told}
use Rattle.nqs_serve.proofs.Leaving.{ok_left, cut_left, ok_taken, cut_taken}
use Rattle.nqs_serve.proofs.Sendable.{step_right, step_short}
use Rattle.nqs_serve.proofs.take.take.Goals as goal

pub returns-in-Ok-clause-leaves : goal.returns-in-Ok-clause-leaves
returns-in-Ok-clause-leaves g c = ok_left _ _ _ _ _ c.in-Ok.ensures.leaves

pub returns-in-Ok-clause-takes : goal.returns-in-Ok-clause-takes
returns-in-Ok-clause-takes g c =
    let host = content_of c.args.node.now in
    let e = c.args.event.now in
    ok_taken _ _ _ _ _ _ c.requires.said c.requires.short (step_right host c.requires.sound.order e c.requires.sane c.requires.right)
    (step_short host c.requires.sound.order c.requires.sound.short e c.requires.sane) c.in-Ok.ensures.spelled c.in-Ok.ensures.takes

pub returns-in-Ok-clause-halts : goal.returns-in-Ok-clause-halts
returns-in-Ok-clause-halts g c = λ s knows.
    c.in-Ok.ensures.halts ∙ halts_told c.args.node.now s knows.1 c.args.event.now ∙ step-halts c.args.event.now s

pub cut_by-requires : goal.cut_by-requires
cut_by-requires g c = λ is. not_both _ (c.in-Err.ensures.leaves.stopped.0 (ap Err is)) c.requires.running

pub returns-in-Err-clause-leaves : goal.returns-in-Err-clause-leaves
returns-in-Err-clause-leaves g c = cut_left _ _ _ _ _ _ c.cut_by.ensures c.in-Err.ensures.leaves

pub returns-in-Err-clause-takes : goal.returns-in-Err-clause-takes
returns-in-Err-clause-takes g c = cut_taken _ _ _ _ _ _ _ c.cut_by.ensures c.in-Err.ensures.leaves c.in-Err.ensures.takes
