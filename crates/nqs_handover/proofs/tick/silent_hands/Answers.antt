use Rattle.std.proofs.Common.{◌∙◌, ◌++◌, rules, fold, ap}
use Rattle.nqs_state.specs.State.{content}
use Rattle.nqs_handover.specs.Silent.{silent_key}
use Rattle.nqs_handover.proofs.Ticks.{folded-silent}
use Rattle.nqs_handover.proofs.tick.silent_hands.Goals as goal

pub returns : goal.returns
returns c =
    let s = content c.args.state.now in
    c.from_vec.ensures ∙ c.into_vec.ensures ∙ c.in_ok-keys.ensures (λ l h. l ++ silent_key c.args.now s h) (λ a w r k. search rules)
    ∙ ap (λ l. fold (λ l h. l ++ silent_key c.args.now s h) l s.hands) c.new.ensures ∙ folded-silent c.args.now s _ s.hands
