use Rattle.nqs_serve.proofs.Folds as folds
use Rattle.nqs_serve.proofs.laws.runs_are_folds.Goals as goal

pub returns : goal.returns
returns c = folds.runs_are_folds
