use Rattle.std.proofs.Common.{rules, tests, ◌==◌}
use Rattle.std.proofs.lemmas.Iterator.Search.{any_from_yields_List}
use Rattle.std.proofs.lemmas.Iterator.Splits.{YieldsList-from_slice_split}
use Rattle.nqs_real.specs.Marks.{is_mark, is_marked}
use Rattle.nqs_real.proofs.leftovers.is_marked.Goals as goal

pub returns : goal.returns
unfolding is_marked
returns c =
    any_from_yields_List (is_mark c.args.mark.now) _ _ c.any.result c.any.ensures.ran
    (YieldsList-from_slice_split _ (λ b. b == 0) c.args.environ.now c.split.ensures.rest c.split.ensures.done c.split.ensures.closure
    (λ x r q k. search (rules, tests)))
    (λ x r q k. search (rules, tests))
