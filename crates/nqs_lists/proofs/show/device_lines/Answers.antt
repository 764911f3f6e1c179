use Rattle.std.proofs.Common.{◌≡◌, ◌++◌, ◌∷◌, [], rules, IfOk, subst}
use Rattle.nqs_state.specs.State.{content}
use Rattle.nqs_rules.specs.Text.{device_line}
use Rattle.nqs_lists.proofs.Seen.{lines-mapped}
use Rattle.nqs_lists.proofs.show.device_lines.Goals as goal

pub returns : goal.returns
returns c =
    let made = c.fold_each.ensures (λ l v. l ++ (device_line (content c.args.state.now)) v ∷ []) (λ a w r k. search rules) in
    subst (λ x. IfOk c.fold_each.result (λ lines. lines ≡ x)) (lines-mapped (device_line (content c.args.state.now)) c.new.result c.new.ensures
    (content c.args.state.now).devices) made
