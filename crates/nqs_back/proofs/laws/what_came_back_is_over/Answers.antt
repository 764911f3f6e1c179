use Rattle.nqs_back.proofs.Over.{over}
use Rattle.nqs_back.proofs.laws.what_came_back_is_over.Goals as goal

pub returns : goal.returns
returns c = record { none = λ e s back. (over s e back).none; starts_left = λ e s back. (over s e back).fewer }
