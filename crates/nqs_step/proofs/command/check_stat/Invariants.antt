use Rattle.std.proofs.Common.{◌≡◌, drop}
use Rattle.nqs_state.specs.State.{content}
use Rattle.nqs_rules.specs.Causes.{first_refusal}
use Rattle.nqs_rules.specs.Step.{stat_causes}
use Rattle.nqs_step.proofs.command.check_stat.Given as goal

abbrev pub invariant-loop-queue : goal.invariant-loop-queue
invariant-loop-queue l = first_refusal (stat_causes (drop l.queue-index l.queues) (content l.state)) ≡ first_refusal (stat_causes l.queues (content l.state))
