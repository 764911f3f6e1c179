use Rattle.std.proofs.Common.{◌∙◌, sym}
use Rattle.nqs_state.specs.State.{content}
use Rattle.nqs_order.proofs.Candidates.{no_candidate}
use Rattle.nqs_order.proofs.choice.is_candidate.Goals as goal

pub returns-then-not-any_waiting : goal.returns-then-not-any_waiting
returns-then-not-any_waiting c = no_candidate c.args.queue.now c.args.now (content c.args.state.now) (sym c.any_waiting.ensures ∙ c.if-not-any_waiting.true)
