use Rattle.std.proofs.Common.{refl}
use Rattle.std.specs.Fmt.{digits}
use Rattle.nqs_worked_tables.proofs.worlds.hosts_go_up_and_down.Goals as goal

pub returns-clause-down : goal.returns-clause-down
unfolding digits
returns-clause-down c = refl

pub returns-clause-elsewhere : goal.returns-clause-elsewhere
unfolding digits
returns-clause-elsewhere c = refl

pub returns-clause-shutdown : goal.returns-clause-shutdown
unfolding digits
returns-clause-shutdown c = refl

pub returns-clause-quiet : goal.returns-clause-quiet
unfolding digits
returns-clause-quiet c = refl

pub returns-clause-booted : goal.returns-clause-booted
unfolding digits
returns-clause-booted c = refl
