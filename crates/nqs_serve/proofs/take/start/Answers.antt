use Rattle.std.proofs.Common.{Err, ap, sym, ◌∙◌}
use Rattle.nqs_node.specs.Nodes.{content_of}
use Rattle.nqs_node.proofs.Places.{not_both}
use Rattle.nqs_serve.proofs.Known.{start_known}
use Rattle.nqs_serve.proofs.Leaving.{ok_left, cut_disk, cut_left, ok_taken, cut_taken, same_fault}
use Rattle.nqs_serve.proofs.Sendable.{start_right, start_short}
use Rattle.nqs_serve.proofs.take.start.Goals as goal

pub returns-in-Ok-clause-leaves : goal.returns-in-Ok-clause-leaves
returns-in-Ok-clause-leaves g c = ok_left _ _ _ _ _ c.in-Ok.ensures.leaves

pub returns-in-Ok-clause-takes : goal.returns-in-Ok-clause-takes
returns-in-Ok-clause-takes g c =
    let host = content_of c.args.node.now in
    ok_taken _ _ _ _ _ _ c.requires.said c.requires.short (start_right host c.requires.sound.order c.args.now)
    (start_short host c.requires.sound.order c.requires.sound.short c.args.now) c.in-Ok.ensures.spelled c.in-Ok.ensures.takes

pub returns-in-Ok-clause-more : goal.returns-in-Ok-clause-more
returns-in-Ok-clause-more g c = λ s knows. c.in-Ok.ensures.more ∙ sym (start_known c.args.now c.args.node.now s knows)

pub cut_by-requires : goal.cut_by-requires
cut_by-requires g c = λ is. not_both _ (c.in-Err.ensures.leaves.stopped.0 (ap Err is)) c.requires.running

pub returns-in-Err-clause-leaves : goal.returns-in-Err-clause-leaves
returns-in-Err-clause-leaves g c = cut_left _ _ _ _ _ _ c.cut_by.ensures c.in-Err.ensures.leaves

pub returns-in-Err-clause-takes : goal.returns-in-Err-clause-takes
returns-in-Err-clause-takes g c = cut_taken _ _ _ _ _ _ _ c.cut_by.ensures c.in-Err.ensures.leaves c.in-Err.ensures.takes

pub returns-in-Err-clause-due : goal.returns-in-Err-clause-due
returns-in-Err-clause-due g c = λ s which knows is.
    start_known c.args.now c.args.node.now s knows
    ∙ c.in-Err.ensures.due which (ap Err (cut_disk c.in-Err.fault c.cut_by.result which c.cut_by.ensures (same_fault _ _ is)))
