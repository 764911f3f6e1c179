use Rattle.std.proofs.Common.{refl}
use Rattle.std.specs.Fmt.{digits}
use Rattle.nqs_worked_tables.proofs.fitting.promises_fit.Goals as goal

pub returns-clause-numbers : goal.returns-clause-numbers
unfolding digits
returns-clause-numbers c = refl

pub returns-clause-queues : goal.returns-clause-queues
unfolding digits
returns-clause-queues c = refl

pub returns-clause-peers : goal.returns-clause-peers
unfolding digits
returns-clause-peers c = refl

pub returns-clause-requests : goal.returns-clause-requests
unfolding digits
returns-clause-requests c = refl

pub returns-clause-arrivals : goal.returns-clause-arrivals
unfolding digits
returns-clause-arrivals c = refl

pub returns-clause-room : goal.returns-clause-room
unfolding digits
returns-clause-room c = refl

pub returns-clause-room_of_its_own : goal.returns-clause-room_of_its_own
unfolding digits
returns-clause-room_of_its_own c = refl

pub returns-clause-room_below : goal.returns-clause-room_below
unfolding digits
returns-clause-room_below c = refl

pub returns-clause-old : goal.returns-clause-old
unfolding digits
returns-clause-old c = refl

pub returns-clause-old_room : goal.returns-clause-old_room
unfolding digits
returns-clause-old_room c = refl

pub returns-clause-promises : goal.returns-clause-promises
unfolding digits
returns-clause-promises c = refl

pub returns-clause-got : goal.returns-clause-got
unfolding digits
returns-clause-got c = refl

pub returns-clause-gone : goal.returns-clause-gone
unfolding digits
returns-clause-gone c = refl

pub returns-clause-boot : goal.returns-clause-boot
unfolding digits
returns-clause-boot c = refl
