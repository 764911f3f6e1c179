use Rattle.nqs_laws.proofs.Kept.{each_kept}
use Rattle.nqs_laws.proofs.AtOnce.{takes_back_all, ticks_end_silence}
use Rattle.nqs_laws.proofs.at_once.ticks_take_back_all.Goals as goal

pub returns : goal.returns
returns c = record {
  kept = λ site acts few sane. each_kept _ site few acts sane (takes_back_all site _);
  stepped = λ site acts few sane host s at now. ticks_end_silence site few acts sane host s at now;
}
