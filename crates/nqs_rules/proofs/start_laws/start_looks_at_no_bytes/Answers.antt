use Rattle.nqs_rules.proofs.StartPlain.{start-map, pick-map, starts_left-map}
use Rattle.nqs_rules.proofs.start_laws.start_looks_at_no_bytes.Goals as goal

pub returns : goal.returns
returns c = record { start = λ f now s. start-map f now s; pick = λ f now s. pick-map f now s; starts_left = λ f s. starts_left-map f s }
