use Rattle.nqs_laws.proofs.Acknowledged.{run_takes}
use Rattle.nqs_laws.proofs.requests.acknowledged_requests_stay.Goals as goal

pub returns : goal.returns
returns c = λ site acts few sane x said. ((run_takes site few acts sane).said x said).stays
