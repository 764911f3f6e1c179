use Rattle.std.proofs.Common.{refl}
use Rattle.std.specs.Fmt.{digits}
use Rattle.nqs_worked_tables.proofs.worlds.packets_are_found.Goals as goal

pub returns-clause-numbers : goal.returns-clause-numbers
unfolding digits
returns-clause-numbers c = refl

pub returns-clause-between : goal.returns-clause-between
unfolding digits
returns-clause-between c = refl

pub returns-clause-either_way : goal.returns-clause-either_way
unfolding digits
returns-clause-either_way c = refl

pub returns-clause-back : goal.returns-clause-back
unfolding digits
returns-clause-back c = refl

pub returns-clause-none : goal.returns-clause-none
unfolding digits
returns-clause-none c = refl

pub returns-clause-least : goal.returns-clause-least
unfolding digits
returns-clause-least c = refl
