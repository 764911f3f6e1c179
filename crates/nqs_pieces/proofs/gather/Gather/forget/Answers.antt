use Rattle.std.proofs.Common.{◌∙◌, ap, filter, not, rules}
use Rattle.std.proofs.lemmas.Fn.{filter_same}
use Rattle.nqs_pieces.specs.declared.gather.Gathered.{Gathered}
use Rattle.nqs_pieces.specs.Gathering.{same_key}
use Rattle.nqs_pieces.proofs.gather.Gather.forget.Goals as goal

pub returns : goal.returns
returns c =
    filter_same _ (λ (m : Gathered). not (same_key m.key c.args.key.now)) _ (λ x r f k. search rules) _ _ c.retain.ensures.filtered
    ∙ ap (filter (λ (m : Gathered). not (same_key m.key c.args.key.now))) c.self.view_is
