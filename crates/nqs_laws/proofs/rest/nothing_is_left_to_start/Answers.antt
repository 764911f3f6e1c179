use Rattle.nqs_laws.proofs.Resting.{rests}
use Rattle.nqs_laws.proofs.rest.nothing_is_left_to_start.Goals as goal

pub returns : goal.returns
returns c = λ site acts a few sane h is host at up. rests site few acts a sane h is host at up
