-- What a tick says, handover by handover and promise by promise.
use Rattle.std.proofs.Common.{◌≡◌, ◌∙◌, ℕ, Bool, true, false, cond, List, [], ◌∷◌, ◌++◌, map, filter, append_assoc, append-nil, if◌then◌else◌, refl, sym, ap}
use Rattle.std.specs.Prelude.{fold}
use Rattle.std.proofs.lemmas.List.Concat.{flat_map_single}
use Rattle.nqs_state.specs.State.{State}
use Rattle.nqs_types.specs.Ids.{hand_key}
use Rattle.nqs_base.specs.declared.extent.Extent.{Extent}
use Rattle.nqs_types.specs.declared.ids.PeerNumber.{PeerNumber}
use Rattle.nqs_types.specs.declared.request.Hand.{Hand}
use Rattle.nqs_types.specs.declared.request.Promise.{Promise}
use Rattle.nqs_types.specs.declared.event.Plan.{Plan}
use Rattle.nqs_rules.specs.Handover.{is_silent, silent_hands, silence, repeat_hand, repeated_hands, send_inquire, inquiries, on_tick}
use Rattle.nqs_rules.specs.Stepped.{Stepped, plan_of}
use Rattle.nqs_plans.specs.More.{with_more}
use Rattle.nqs_plans.proofs.Grown.{more-both, plan-also, folded-more}
use Rattle.nqs_handover.specs.Silent.{silent_key}

module _ {E : Type 0} (now : ℕ) (s : State E) where
  abbrev keys : List Hand → List PeerNumber
  keys hs = map hand_key (filter (is_silent now s) hs)

  one_more : (h : Hand) (hs : List Hand) → silent_key now s h ++ keys hs ≡ keys (h ∷ hs)
  one_more h hs = by (is_silent now s h)
    where
      by : (b : Bool) → (if b then hand_key h ∷ [] else []) ++ keys hs ≡ map hand_key (cond b (h ∷ filter (is_silent now s) hs) (filter (is_silent now s) hs))
      by true = refl
      by false = refl

  -- the silent handovers, one after the other
  pub folded-silent : (ks : List PeerNumber) (hs : List Hand) → fold (λ l h. l ++ silent_key now s h) ks hs ≡ ks ++ keys hs
  folded-silent ks [] = sym (append-nil ks)
  folded-silent ks (h ∷ hs) = folded-silent (ks ++ silent_key now s h) hs ∙ append_assoc ks (silent_key now s h) (keys hs) ∙ ap (λ l. ks ++ l) (one_more h hs)

module _ (now : ℕ) (s : State Extent) where
  -- the silent offers are taken back, and nothing goes out
  abbrev silenced : Stepped Extent
  silenced = record { change = silence now s.retry_wait (silent_hands now s); outputs = []; halts = false }

  abbrev with_hand : Plan → Hand → Plan
  with_hand q h = with_more q (repeat_hand now s h)

  abbrev with_promise : Plan → Promise Extent → Plan
  with_promise q p = with_more q (send_inquire s p ∷ [])

  pub tick_is : (first second : Plan) → first ≡ plan_of silenced → second ≡ fold with_hand first s.hands
      → fold with_promise second s.promises ≡ plan_of (on_tick now s)
  tick_is first second h k =
      folded-more (λ p. send_inquire s p ∷ []) second s.promises
      ∙ (λ j. with_more (hands j) (flat_map_single (send_inquire s) s.promises j))
      ∙ more-both (plan_of silenced) (repeated_hands now s) (inquiries s)
      ∙ plan-also silenced (repeated_hands now s ++ inquiries s)
    where
      hands : second ≡ with_more (plan_of silenced) (repeated_hands now s)
      hands = k ∙ ap (λ p. fold with_hand p s.hands) h ∙ folded-more (repeat_hand now s) (plan_of silenced) s.hands
