use Rattle.nqs_laws.proofs.NetLaws.{always_table}
use Rattle.nqs_laws.proofs.tables.no_request_lies_in_two_places.Goals as goal

pub returns : goal.returns
returns c = λ site acts few sane. always_table site acts few sane
