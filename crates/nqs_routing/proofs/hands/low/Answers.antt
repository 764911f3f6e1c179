use Rattle.std.proofs.Common.{rules, ap, sym, ◌∙◌, option_map}
use Rattle.nqs_rules.specs.Routing.{is_hand_to}
use Rattle.nqs_routing.specs.Low.{is_before, low_with}
use Rattle.nqs_routing.proofs.Lows.{low_found}
use Rattle.nqs_routing.proofs.hands.low.Goals as goal

pub returns-in-Some-clause-low : goal.returns-in-Some-clause-low
returns-in-Some-clause-low c =
    let next = c.args.next in
    let found = c.best-least.ensures (is_hand_to c.args.peer) is_before (λ v r call. search rules) (λ u v r call. search rules) in
    c.min.ensures ∙ ap (λ o. low_with next (option_map (λ x. (x.0, x.1.now)) o)) (sym c.in-Some.is) ∙ ap (low_with next) found
    ∙ low_found c.args.peer next 0 c.args.state.now.hands.items

pub returns-in-None-clause-low : goal.returns-in-None-clause-low
returns-in-None-clause-low c =
    let next = c.args.next in
    let found = c.best-least.ensures (is_hand_to c.args.peer) is_before (λ v r call. search rules) (λ u v r call. search rules) in
    ap (λ o. low_with next (option_map (λ x. (x.0, x.1.now)) o)) (sym c.in-None.is) ∙ ap (low_with next) found
    ∙ low_found c.args.peer next 0 c.args.state.now.hands.items
