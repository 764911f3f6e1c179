use Rattle.std.proofs.Common.{◌≡◌, ◌∙◌, ◌++◌, ◌∷◌, IfOk, append_assoc, sym, subst}
use Rattle.std.specs.Prelude.{flat_map}
use Rattle.std.specs.Fmt.{decimal}
use Rattle.nqs_rules.specs.Text.{complex_line}
use Rattle.nqs_lists.specs.Lists.{spaced}
use Rattle.nqs_lists.proofs.Seen.{words-more}
use Rattle.nqs_lists.proofs.show.complex_line.Goals as goal

pub returns : goal.returns
returns c =
    let d = c.args.complex.now in
    let is : c.in_ok-line.line ++ flat_map spaced c.as_slice.result.now ≡ complex_line d =
    (λ j. c.in_ok-line.ensures j ++ flat_map spaced (c.as_slice.ensures j))
    ∙ append_assoc d.name (spaced (decimal d.limit)) (flat_map spaced d.queues)
    ∙ sym (words-more d.name (decimal d.limit ∷ d.queues)) in
    subst (λ x. IfOk c.with_names.result (λ line. line ≡ x)) is c.with_names.ensures
