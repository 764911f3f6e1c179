use Rattle.nqs_laws.proofs.WentOuts.{each_went, taken_went}
use Rattle.nqs_laws.proofs.requests.requests_go_out_for_a_reason.Goals as goal

pub returns : goal.returns
returns c = record { each = λ site acts few sane. each_went site few acts sane; taken = λ site acts few sane x out. taken_went site few acts sane x out }
