use Rattle.std.proofs.Common.{refl}
use Rattle.std.specs.Fmt.{digits}
use Rattle.nqs_text.specs.Dates.{two, four, moment_text, year_of, month_of, second_text, day_text, date_text}
use Rattle.nqs_worked_tables.proofs.reasons.reasons_are_spelled.Goals as goal

pub returns-clause-words : goal.returns-clause-words
unfolding digits
returns-clause-words c = refl

pub returns-clause-next : goal.returns-clause-next
unfolding digits
returns-clause-next c = refl

pub returns-clause-moments : goal.returns-clause-moments
unfolding digits two four moment_text year_of month_of second_text day_text date_text
returns-clause-moments c = refl

pub returns-clause-answers : goal.returns-clause-answers
unfolding digits two four moment_text year_of month_of second_text day_text date_text
returns-clause-answers c = refl
