use Rattle.nqs_laws.proofs.Numbered.{all_numbered}
use Rattle.nqs_laws.proofs.numbers.requests_are_numbered.Goals as goal

pub returns : goal.returns
returns c = λ site acts few sane. all_numbered site few acts sane
