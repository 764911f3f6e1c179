use Rattle.std.proofs.Common.{◌≡◌, ◌∙◌, false, rules, IfOk, ap, subst}
use Rattle.std.specs.Option.{option_map}
use Rattle.nqs_state.specs.State.{content}
use Rattle.nqs_rules.specs.Devices.{runs_on}
use Rattle.nqs_rules.specs.Text.{user_text}
use Rattle.nqs_lists.proofs.Seen.{first-best}
use Rattle.nqs_lists.proofs.show.user_text.Goals as goal

pub returns-in-Some : goal.returns-in-Some
returns-in-Some c =
    let s = content c.args.state.now in
    let best = c.in-Some.ensures (runs_on c.args.device.now) (λ _ _. false) (λ v r ran. search rules) (λ u v r ran. search rules) in
    subst (λ o. IfOk c.id_text.result (λ text. text ≡ user_text s.site o)) (ap (option_map (λ p. p.1)) best ∙ first-best (runs_on c.args.device.now) 0 s.rows)
    (search rules)

pub returns-in-None : goal.returns-in-None
returns-in-None c =
    let s = content c.args.state.now in
    let best = c.in-None.ensures (runs_on c.args.device.now) (λ _ _. false) (λ v r ran. search rules) (λ u v r ran. search rules) in
    subst (λ o. IfOk c.bytes_of.result (λ text. text ≡ user_text s.site o)) (ap (option_map (λ p. p.1)) best ∙ first-best (runs_on c.args.device.now) 0 s.rows)
    (search rules)
