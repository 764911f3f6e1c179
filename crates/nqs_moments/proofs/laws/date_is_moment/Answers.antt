use Rattle.nqs_moments.proofs.Dates as lemmas
use Rattle.nqs_moments.proofs.laws.date_is_moment.Goals as goal

pub returns : goal.returns
returns c = lemmas.date_is_moment
