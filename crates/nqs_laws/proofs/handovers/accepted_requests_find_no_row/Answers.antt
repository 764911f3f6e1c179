use Rattle.nqs_laws.proofs.HandoverLaws.{accepted_rows}
use Rattle.nqs_laws.proofs.handovers.accepted_requests_find_no_row.Goals as goal

pub returns : goal.returns
returns c = λ site acts few sane m number p sent is s t sat tat found. accepted_rows site few acts sane m number p sent is s t sat tat found
