use Rattle.nqs_reasons.proofs.Tried.{free_is, none_free, some_host}
use Rattle.nqs_reasons.proofs.laws.answers_say_what_may_be_tried.Goals as goal

pub returns : goal.returns
returns c = record { tried = free_is; none = none_free; host = λ now s r d k dest. some_host now s r dest d k }
