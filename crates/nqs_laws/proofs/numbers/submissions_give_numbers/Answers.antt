use Rattle.nqs_laws.proofs.Kept.{each_kept}
use Rattle.nqs_laws.proofs.Numbered.{numbers_move, news_numbered}
use Rattle.nqs_laws.proofs.numbers.submissions_give_numbers.Goals as goal

pub returns : goal.returns
returns c = record {
  moves = λ site acts few sane. each_kept _ site few acts sane (numbers_move site _);
  news = λ site acts few sane. each_kept _ site few acts sane (news_numbered site _);
}
