use Rattle.std.proofs.Common.{length}
use Rattle.nqs_moments.proofs.moment.+misfit.Given as goal

abbrev pub decreases-misfit : goal.decreases-misfit
decreases-misfit l = length l.form.now
