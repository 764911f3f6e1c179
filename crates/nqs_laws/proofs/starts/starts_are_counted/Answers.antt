use Rattle.nqs_laws.proofs.StartLaws.{all_counted, offers_counted}
use Rattle.nqs_laws.proofs.starts.starts_are_counted.Goals as goal

pub returns : goal.returns
returns c = record { hosts = all_counted; offers = offers_counted }
