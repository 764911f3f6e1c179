use Rattle.nqs_language_acts.proofs.Submissions.{submissions_are_sane}
use Rattle.nqs_language_acts.proofs.laws.submissions_are_sane.Goals as goal

pub returns : goal.returns
returns c = submissions_are_sane
