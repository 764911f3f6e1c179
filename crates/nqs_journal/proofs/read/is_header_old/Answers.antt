use Rattle.nqs_journal.proofs.Fronts.{leaves_both}
use Rattle.nqs_journal.proofs.read.is_header_old.Goals as goal

pub returns-clause-fault : goal.returns-clause-fault
returns-clause-fault c =
    let new = c.in-Some.ensures in
    let old = c.in-Some-first_difference.ensures in
    leaves_both _ _ _ _ (record { within = new.within; same = new.same; differs = new.differs })
    (record { within = old.within; same = old.same; differs = old.differs }) c.max.ensures
