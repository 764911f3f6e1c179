use Rattle.std.proofs.Common.{◌≡◌, ◌++◌, ◌∷◌, [], rules, IfOk, subst}
use Rattle.nqs_state.specs.State.{content}
use Rattle.nqs_rules.specs.Text.{complex_line}
use Rattle.nqs_lists.proofs.Seen.{lines-mapped}
use Rattle.nqs_lists.proofs.show.complex_lines.Goals as goal

pub returns : goal.returns
returns c =
    let made = c.fold_each.ensures (λ l v. l ++ complex_line v ∷ []) (λ a w r k. search rules) in
    subst (λ x. IfOk c.fold_each.result (λ lines. lines ≡ x)) (lines-mapped complex_line c.new.result c.new.ensures (content c.args.state.now).complexes) made
