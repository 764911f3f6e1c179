use Rattle.nqs_rules.proofs.ClosedNumbers.{closed-close, closed-raised}
use Rattle.nqs_rules.proofs.handover_laws.closing_closes_no_more.Goals as goal

pub returns : goal.returns
returns c = record { close = λ m n p. closed-close m n p; raised = λ m n p. closed-raised m n p }
