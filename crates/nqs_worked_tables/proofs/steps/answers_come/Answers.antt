use Rattle.std.proofs.Common.{refl}
use Rattle.std.specs.Fmt.{digits}
use Rattle.nqs_worked_tables.proofs.steps.answers_come.Goals as goal

pub returns-clause-ready : goal.returns-clause-ready
unfolding digits
returns-clause-ready c = refl

pub returns-clause-inquire : goal.returns-clause-inquire
unfolding digits
returns-clause-inquire c = refl

pub returns-clause-ready_third : goal.returns-clause-ready_third
unfolding digits
returns-clause-ready_third c = refl

pub returns-clause-inquire_third : goal.returns-clause-inquire_third
unfolding digits
returns-clause-inquire_third c = refl

pub returns-clause-stranger : goal.returns-clause-stranger
unfolding digits
returns-clause-stranger c = refl

pub returns-clause-refused : goal.returns-clause-refused
unfolding digits
returns-clause-refused c = refl

pub returns-clause-refused_third : goal.returns-clause-refused_third
unfolding digits
returns-clause-refused_third c = refl

pub returns-clause-done : goal.returns-clause-done
unfolding digits
returns-clause-done c = refl

pub returns-clause-done_second : goal.returns-clause-done_second
unfolding digits
returns-clause-done_second c = refl
