use Rattle.nqs_laws.proofs.Kept.{each_kept}
use Rattle.nqs_laws.proofs.HeldBy.{holds_for_cause}
use Rattle.nqs_laws.proofs.requests.the_system_holds_for_cause.Goals as goal

pub returns : goal.returns
returns c = λ site acts few sane. each_kept _ site few acts sane (holds_for_cause site _)
