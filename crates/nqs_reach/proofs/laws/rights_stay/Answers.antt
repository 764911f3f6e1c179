use Rattle.std.proofs.Common.{◌+◌}
use Rattle.nqs_reach.specs.Deliveries.{after_messages}
use Rattle.nqs_reach.proofs.Runs.{kept_settings, same_rights}
use Rattle.nqs_reach.proofs.laws.rights_stay.Goals as goal

pub returns : goal.returns
returns c = record {
  commands = λ deliveries s user command. same_rights user command s (after_messages deliveries s) (kept_settings deliveries s);
  next = λ deliveries s. (λ j. record { seq = (kept_settings deliveries s).seq j + 1; host = (kept_settings deliveries s).me j });
}
