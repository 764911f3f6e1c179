use Rattle.std.proofs.Common.{◌∙◌, ◌++◌, ◌∷◌, [], ap}
use Rattle.nqs_index.specs.Tallies.{count_of}
use Rattle.nqs_index.proofs.TallyLemmas.{count_added}
use Rattle.nqs_index.proofs.tally.add.Goals as goal

pub returns : goal.returns
returns c k =
    ap (count_of k) (c.push.ensures.items ∙ ap (λ cs. cs ++ record { tally = c.args.tally.now; count = c.args.count } ∷ []) c.reserve.ensures.items)
    ∙ count_added c.args.count k c.args.tally.now c.args.counters.now.items c.requires
