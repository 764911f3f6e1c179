use Rattle.nqs_reasons.proofs.Said.{told_says, says_told}
use Rattle.nqs_reasons.proofs.laws.each_reason_says_what_it_says.Goals as goal

pub returns : goal.returns
returns c = record { says = λ now s place r x at h. told_says now s r place at x h; told = λ now s place r x at h. says_told now s r place at x h }
