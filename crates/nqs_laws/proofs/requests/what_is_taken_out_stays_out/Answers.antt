use Rattle.nqs_laws.proofs.Acknowledged.{stays_out}
use Rattle.nqs_laws.proofs.requests.what_is_taken_out_stays_out.Goals as goal

pub returns : goal.returns
returns c = λ site acts more few sane x out. stays_out site few acts more sane x out
