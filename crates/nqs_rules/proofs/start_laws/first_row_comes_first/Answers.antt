use Rattle.nqs_rules.proofs.PickLaws.{first_row_is, first_row_is_some}
use Rattle.nqs_rules.proofs.start_laws.first_row_comes_first.Goals as goal

pub returns : goal.returns
returns c = record { first = λ d now s. first_row_is now s d; some = λ d now s. first_row_is_some now s d }
