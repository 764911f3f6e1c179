use Rattle.std.proofs.Common.{refl}
use Rattle.std.specs.Fmt.{digits}
use Rattle.nqs_worked_tables.proofs.made.requests_are_changed.Goals as goal

pub returns-clause-submitted : goal.returns-clause-submitted
unfolding digits
returns-clause-submitted c = refl

pub returns-clause-deleted : goal.returns-clause-deleted
unfolding digits
returns-clause-deleted c = refl

pub returns-clause-deleted_offer : goal.returns-clause-deleted_offer
unfolding digits
returns-clause-deleted_offer c = refl

pub returns-clause-doomed : goal.returns-clause-doomed
unfolding digits
returns-clause-doomed c = refl

pub returns-clause-started : goal.returns-clause-started
unfolding digits
returns-clause-started c = refl

pub returns-clause-printed : goal.returns-clause-printed
unfolding digits
returns-clause-printed c = refl

pub returns-clause-unlaunched : goal.returns-clause-unlaunched
unfolding digits
returns-clause-unlaunched c = refl

pub returns-clause-boot : goal.returns-clause-boot
unfolding digits
returns-clause-boot c = refl

pub returns-clause-moved : goal.returns-clause-moved
unfolding digits
returns-clause-moved c = refl

pub returns-clause-refused : goal.returns-clause-refused
unfolding digits
returns-clause-refused c = refl

pub returns-clause-far : goal.returns-clause-far
unfolding digits
returns-clause-far c = refl
