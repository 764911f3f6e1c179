use Rattle.nqs_reasons.proofs.Next.{next_is, next_without, some_queue}
use Rattle.nqs_reasons.proofs.laws.next_request_may_start.Goals as goal

pub returns : goal.returns
returns c = record { next = λ now s place r d. next_is d now s r place; no_queue = next_without; queue = some_queue }
