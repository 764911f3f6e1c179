use Rattle.std.proofs.Common.{◌∙◌}
use Rattle.nqs_state.specs.State.{content}
use Rattle.nqs_order.proofs.PickedByIndex.{picks_same}
use Rattle.nqs_order.proofs.by_index.pick_by.Goals as goal

pub returns-clause-choice : goal.returns-clause-choice
returns-clause-choice g c = c.picked.ensures.choice ∙ picks_same c.args.index.now (content c.args.state.now) c.requires.stands c.requires.order c.args.now
