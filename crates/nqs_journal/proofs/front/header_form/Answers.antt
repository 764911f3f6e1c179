use Rattle.std.proofs.Common.{◌∙◌, ap, max}
use Rattle.nqs_journal.proofs.Fronts.{leaves}
use Rattle.nqs_journal.proofs.front.header_form.Goals as goal

pub returns-clause-fault : goal.returns-clause-fault
returns-clause-fault c =
    let none = c.in-Some.ensures in
    let old = c.in-Some-first_difference.ensures in
    let new = c.in-Some-first_difference-2.ensures in
    let first = c.in-Some-first_difference-3.ensures in
    leaves _ _ _ _ _ _ (record { within = none.within; same = none.same; differs = none.differs })
    (record { within = old.within; same = old.same; differs = old.differs }) (record { within = new.within; same = new.same; differs = new.differs })
    (record { within = first.within; same = first.same; differs = first.differs })
    (c.max-3.ensures ∙ ap (λ n. max n c.in-Some-first_difference-3.first)
    (c.max-2.ensures ∙ ap (λ n. max n c.in-Some-first_difference-2.new) c.max.ensures))
