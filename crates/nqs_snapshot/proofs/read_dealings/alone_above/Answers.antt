use Rattle.std.proofs.Common.{◌∙◌, ◌++◌, ◌∷◌, [], sym, ap}
use Rattle.nqs_snapshot.specs.Values.{alone_above}
use Rattle.nqs_snapshot.proofs.Standing.{alone_some}
use Rattle.nqs_snapshot.proofs.read_dealings.alone_above.Goals as goal

pub returns-then-number-eq0 : goal.returns-then-number-eq0
returns-then-number-eq0 c = c.from_vec.ensures ∙ c.new-numbers.ensures.items ∙ ap alone_above (sym c.if-number-eq0.true)

pub returns : goal.returns
returns c =
    c.from_vec-2.ensures ∙ c.in_ok-push.ensures.items ∙ ap (λ l. l ++ c.args.number ∷ []) c.new-numbers.ensures.items
    ∙ sym (alone_some c.args.number c.if-number-eq0.false)
