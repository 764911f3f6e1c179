-- The low of the handovers that stay at a tick, by the one that was found.
use Rattle.std.proofs.Common.{◌≡◌, ◌+◌, ◌∙◌, ℕ, Bool, true, false, cond, not, ◌&&◌, min, List, [], ◌∷◌, filter, Option, if◌then◌else◌, refl, ap}
use Rattle.nqs_state.specs.State.{State}
use Rattle.nqs_base_tables.specs.Table.{better, best_from}
use Rattle.nqs_types.specs.declared.ids.HostId.{HostId}
use Rattle.nqs_types.specs.declared.request.Hand.{Hand}
use Rattle.nqs_rules.specs.Handover.{is_silent, staying_hands}
use Rattle.nqs_rules.specs.Routing.{is_hand_to, low}
use Rattle.nqs_routing.specs.Low.{is_before, low_with}
use Rattle.nqs_routing.proofs.Lows.{better_low}
use Rattle.nqs_handover.specs.Silent.{stays_to}

module _ {E : Type 0} (now : ℕ) (s : State E) (peer : HostId) (next : ℕ) where
  abbrev stay : List Hand → List Hand
  stay hands = filter (λ h. not (is_silent now s h)) hands

  pub low_stays : (n : ℕ) (hands : List Hand) → low_with next (best_from (stays_to now s peer) is_before n hands) ≡ low peer next (stay hands)
  low_stays n [] = refl
  low_stays n (h ∷ hs) = by (is_hand_to peer h) (is_silent now s h) refl (low_stays (n + 1) hs)
    where
      best : Option (ℕ × Hand)
      best = best_from (stays_to now s peer) is_before (n + 1) hs

      by : (a b : Bool) → is_hand_to peer h ≡ a → low_with next best ≡ low peer next (stay hs)
          → low_with next (if a && not b then better is_before (n, h) best else best) ≡ low peer next (cond (not b) (h ∷ stay hs) (stay hs))
      by true true e rest = rest
      by false true e rest = rest
      by true false e rest = better_low peer next (n, h) best ∙ ap (min h.number) rest
          ∙ ap (λ a. if a then min h.number (low peer next (stay hs)) else low peer next (stay hs)) (let back : true ≡ is_hand_to peer h = cc in back)
      by false false e rest = rest
          ∙ ap (λ a. if a then min h.number (low peer next (stay hs)) else low peer next (stay hs)) (let back : false ≡ is_hand_to peer h = cc in back)
