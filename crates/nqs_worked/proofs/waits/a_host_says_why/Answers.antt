use Rattle.std.proofs.Common.{refl}
use Rattle.std.specs.Fmt.{digits}
use Rattle.nqs_text.specs.Dates.{two, four, moment_text, year_of, month_of, second_text, day_text, date_text}
use Rattle.nqs_worked.proofs.waits.a_host_says_why.Goals as goal

pub returns : goal.returns
unfolding digits two four moment_text year_of month_of second_text day_text date_text
returns c = refl
