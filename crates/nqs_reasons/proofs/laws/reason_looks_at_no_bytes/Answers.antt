use Rattle.nqs_rules.proofs.ReasonsPlain.{reason-map, reasons-map, count_before-map, answer-map, why_lines-map}
use Rattle.nqs_reasons.proofs.laws.reason_looks_at_no_bytes.Goals as goal

pub returns : goal.returns
returns c = record {
  reason = λ f now s r. reason-map f now s r;
  reasons = λ f now s r. reasons-map f now s r;
  count = λ f now s r. count_before-map f now s r;
  answer = λ f now s r dest. answer-map f now s r dest;
  lines = λ f now s r. why_lines-map f now s r;
}
