use Rattle.nqs_laws.proofs.StartLaws.{never_lost, offers_never_lost}
use Rattle.nqs_laws.proofs.starts.only_rerunnable_requests_start_again.Goals as goal

pub returns : goal.returns
returns c = record { hosts = never_lost; offers = offers_never_lost }
