use Rattle.std.proofs.Common.{◌∙◌, ap}
use Rattle.nqs_state.specs.State.{content}
use Rattle.nqs_order.specs.ByIndex.{pick_in}
use Rattle.nqs_order.proofs.Walks.{asked_of}
use Rattle.nqs_order.proofs.by_index.picked.Goals as goal

pub returns-in-Some-clause-choice : goal.returns-in-Some-clause-choice
returns-in-Some-clause-choice g c =
    c.pick_of.ensures.choice ∙ ap (pick_in c.args.index.now c.args.now (content c.args.state.now)) c.in-Some.ensures

pub returns-in-Some-clause-cost : goal.returns-in-Some-clause-cost
returns-in-Some-clause-cost g c = asked_of c.args.index.now _ _ _ c.in-Some.ensures c.args.steps.now c.pick_of.new.steps c.pick_of.ensures.cost
