-- The row that is picked, and what is started of it.
use Rattle.std.proofs.Common.{◌≡◌, ◌∙◌, ℕ, List, [], true, None, Some, slice_get, option_map, refl, sym, ap, subst}
use Rattle.std.proofs.lemmas.Option.{same_Some, slice_get-map}
use Rattle.std.specs.Option.{IfSome, option_and_then}
use Rattle.nqs_state.specs.State.{State}
use Rattle.nqs_types.specs.declared.request.Row.{Row}
use Rattle.nqs_types.specs.declared.rule.Choice.{Choice}
use Rattle.nqs_types.specs.declared.rule.Choice.TheVariants.{Launch, Print, TooFar, Local, Hand}
use Rattle.nqs_rules.specs.Plain.{map_row, map_state}
use Rattle.nqs_rules.specs.Tests.{is_ready}
use Rattle.nqs_rules.specs.Order.{pick}
use Rattle.nqs_rules.specs.Picked.{IsPicked, row_place}
use Rattle.nqs_rules.specs.Start.{started, start_by, start}
use Rattle.nqs_rules.proofs.PickLaws.{eligible_parts, picked_is}
use Rattle.nqs_rules.proofs.StartPlain.{pick-map}
use Rattle.nqs_step.specs.Started.{started_row}

module _ {E : Type 0} (now : ℕ) (s : State E) where
  f : E → List ℕ
  f e = []

  -- a row that is picked is queued without a hold
  pub picked_ready : (c : Choice) (r : Row E) → pick now s ≡ Some c → slice_get s.rows (row_place c) ≡ Some r → is_ready r ≡ true
  picked_ready c r picked there =
      let p : IsPicked now (map_state f s) c = subst (λ o. IfSome o (IsPicked now (map_state f s))) (pick-map f now s ∙ picked)
      (picked_is now (map_state f s)) in
      let is : p.row ≡ map_row f r = same_Some p.row (map_row f r) (sym p.first.at ∙ slice_get-map (map_row f) s.rows (row_place c)
      ∙ ap (option_map (map_row f)) there) in
      subst (λ q. is_ready q ≡ true) is (eligible_parts p.queue now (map_state f s) p.row p.first.eligible).1

  started_is : (c : Choice) → started c now s ≡ option_and_then (started_row c now s) (slice_get s.rows (row_place c))
  started_is (Launch row) = refl
  started_is (Print row device) = refl
  started_is (TooFar row) = refl
  started_is (Local row dest) = refl
  started_is (Hand row dest) = refl

  pub start_found : (c : Choice) (r : Row E) → Some c ≡ pick now s → Some r ≡ slice_get s.rows (row_place c) → started_row c now s r ≡ start now s
  start_found c r picked there = ap (option_and_then (started_row c now s)) there ∙ sym (started_is c) ∙ ap (λ o. start_by o now s) picked

  pub start_absent : (c : Choice) → Some c ≡ pick now s → None ≡ slice_get s.rows (row_place c) → None ≡ start now s
  start_absent c picked there = ap (option_and_then (started_row c now s)) there ∙ sym (started_is c) ∙ ap (λ o. start_by o now s) picked

  pub start_none : None ≡ pick now s → None ≡ start now s
  start_none picked = ap (λ o. start_by o now s) picked
