use Rattle.std.proofs.Common.{refl}
use Rattle.std.proofs.lemmas.List.Sorted.{IsPermutation-refl}
use Rattle.nqs_load.specs.Balance.{dests_in}
use Rattle.nqs_load.specs.Worked.{road, three}
use Rattle.nqs_load.proofs.laws.worked_loads.Goals as goal

pub returns-clause-just : goal.returns-clause-just
returns-clause-just c = λ s. record { queue = road; found = refl; same = IsPermutation-refl (dests_in three); once = refl; of_site = refl; names = refl }
