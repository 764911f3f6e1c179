use Rattle.std.proofs.Common.{◌∙◌, ap, sym}
use Rattle.nqs_index.specs.Tallies.{count_of}
use Rattle.nqs_index.proofs.TallyLemmas.{count_changed}
use Rattle.nqs_index.proofs.tally.set.Goals as goal

pub returns : goal.returns
returns c k =
    ap (count_of k) c.replace.ensures
    ∙ count_changed c.args.count k c.args.tally.now c.args.counters.now.items (sym c.has.ensures ∙ c.if-not-has.false)
