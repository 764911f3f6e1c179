use Rattle.std.proofs.Common.{refl}
use Rattle.nqs_text.specs.Dates.{two, four, moment_text, year_of, month_of, second_text, day_text, date_text}
use Rattle.nqs_worked_tables.proofs.reasons.dates_are_spelled.Goals as goal

pub returns : goal.returns
unfolding two four moment_text year_of month_of second_text day_text date_text
returns c = refl
