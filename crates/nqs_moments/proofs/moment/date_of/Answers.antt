use Rattle.std.proofs.Common.{rules, arith}
use Rattle.nqs_moments.proofs.Facts.{since_1970}
use Rattle.jiff_core.proofs.SignedLemmas.{signed_arith}
use Rattle.nqs_moments.proofs.moment.date_of.Goals as goal

pub returns-clause-year : goal.returns-clause-year
returns-clause-year c = (since_1970 c.in-Ok.date c.args.days (search rules), omega (arith, signed_arith, c.in-Ok.date.year_in))
