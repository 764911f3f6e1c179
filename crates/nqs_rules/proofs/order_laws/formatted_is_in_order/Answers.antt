use Rattle.std.proofs.Common.{refl}
use Rattle.nqs_rules.proofs.Formatted.{formatted_order}
use Rattle.nqs_rules.proofs.order_laws.formatted_is_in_order.Goals as goal

pub returns : goal.returns
returns c = record {
  order = λ me site among few. formatted_order me site among few;
  consistent = λ me site. record { doomed = refl; held = refl; routing = refl; promises = refl; given = refl };
}
