use Rattle.nqs_laws.proofs.HandoverLaws.{open_offers}
use Rattle.nqs_laws.proofs.handovers.open_offers_find_no_row.Goals as goal

pub returns : goal.returns
returns c = λ site acts few sane m number low queue c script sent is s t sat tat opens.
    open_offers site few acts sane m number low queue c script sent is s t sat tat
    opens
