use Rattle.nqs_serve.proofs.Sorting.{sorted_one_way}
use Rattle.nqs_serve.proofs.laws.datagrams_are_sorted_one_way.Goals as goal

pub returns : goal.returns
returns c = sorted_one_way
