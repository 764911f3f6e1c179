use Rattle.std.proofs.Common.{refl}
use Rattle.std.specs.Fmt.{digits}
use Rattle.nqs_text.specs.Dates.{two, four, moment_text, year_of, month_of, second_text, day_text, date_text}
use Rattle.nqs_worked_tables.proofs.reasons.requests_are_explained.Goals as goal

pub returns-clause-is_stopped : goal.returns-clause-is_stopped
unfolding digits
returns-clause-is_stopped c = refl

pub returns-clause-is_behind : goal.returns-clause-is_behind
unfolding digits
returns-clause-is_behind c = refl

pub returns-clause-early : goal.returns-clause-early
unfolding digits two four moment_text year_of month_of second_text day_text date_text
returns-clause-early c = refl

pub returns-clause-dests : goal.returns-clause-dests
unfolding digits
returns-clause-dests c = refl

pub returns-clause-open : goal.returns-clause-open
unfolding digits
returns-clause-open c = refl

pub returns-clause-next : goal.returns-clause-next
unfolding digits
returns-clause-next c = refl

pub returns-clause-all : goal.returns-clause-all
unfolding digits
returns-clause-all c = refl

pub returns-clause-two : goal.returns-clause-two
unfolding digits
returns-clause-two c = refl
