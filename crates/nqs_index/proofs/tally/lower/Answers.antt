use Rattle.std.proofs.Common.{◌∙◌, ap, rules}
use Rattle.nqs_index.specs.Tallies.{count_of, with_less}
use Rattle.nqs_index.proofs.TallyLemmas.{count_lowered}
use Rattle.nqs_index.proofs.tally.lower.Goals as goal

pub returns : goal.returns
returns c k = ap (count_of k) (c.change.ensures.changed with_less (λ v w found ran. search rules)) ∙ count_lowered k c.args.tally.now c.args.counters.now.items
