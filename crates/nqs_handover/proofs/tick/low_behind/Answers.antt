use Rattle.std.proofs.Common.{rules, ap, sym, ◌∙◌, option_map}
use Rattle.nqs_state.specs.State.{content}
use Rattle.nqs_routing.specs.Low.{is_before, low_with}
use Rattle.nqs_handover.specs.Silent.{stays_to}
use Rattle.nqs_handover.proofs.Staying.{low_stays}
use Rattle.nqs_handover.proofs.tick.low_behind.Goals as goal

pub returns-in-Some : goal.returns-in-Some
returns-in-Some c =
    let s = content c.args.state.now in
    let number = c.args.number in
    let found = c.best-least.ensures (stays_to c.args.now s c.args.peer) is_before (λ v r call. search rules) (λ u v r call. search rules) in
    c.min.ensures ∙ ap (λ o. low_with number (option_map (λ x. (x.0, x.1.now)) o)) (sym c.in-Some.is) ∙ ap (low_with number) found
    ∙ low_stays c.args.now s c.args.peer number 0 s.hands

pub returns-in-None : goal.returns-in-None
returns-in-None c =
    let s = content c.args.state.now in
    let number = c.args.number in
    let found = c.best-least.ensures (stays_to c.args.now s c.args.peer) is_before (λ v r call. search rules) (λ u v r call. search rules) in
    ap (λ o. low_with number (option_map (λ x. (x.0, x.1.now)) o)) (sym c.in-None.is) ∙ ap (low_with number) found
    ∙ low_stays c.args.now s c.args.peer number 0 s.hands
