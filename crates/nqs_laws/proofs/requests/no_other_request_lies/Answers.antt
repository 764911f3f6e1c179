use Rattle.nqs_laws.proofs.NoOthers.{no_others}
use Rattle.nqs_laws.proofs.requests.no_other_request_lies.Goals as goal

pub returns : goal.returns
returns c = λ site acts few sane x now. no_others site few acts sane x now
