use Rattle.nqs_laws.proofs.Kept.{each_kept}
use Rattle.nqs_laws.proofs.AtOnce.{leaves_none}
use Rattle.nqs_laws.proofs.at_once.boots_purges_and_aborts_leave_none.Goals as goal

pub returns : goal.returns
returns c = λ site acts few sane. each_kept _ site few acts sane (leaves_none site _)
