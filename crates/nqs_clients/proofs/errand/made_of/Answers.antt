use Rattle.std.proofs.Common.{sym, ◌∙◌}
use Rattle.nqs_clients.proofs.Lengths.{may_words, few_words}
use Rattle.nqs_clients.proofs.errand.made_of.Goals as goal

pub invariant_of-result : goal.invariant_of-result
invariant_of-result c =
    let words = sym c.in_ok-words.ensures ∙ c.in-Some.is in (
      may_words c.in-Some-Some.tool c.args.own c.in-Some.words c.requires words,
      few_words c.in-Some-Some.tool c.args.own c.in-Some.words c.requires words,
    )
