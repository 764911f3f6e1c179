-- The handovers whose offers are silent, one by one, and those that stay.
use Rattle.std.specs.Prelude.{ℕ, Bool, not, ◌&&◌, if◌then◌else◌, List, [], ◌∷◌}
use Rattle.nqs_state.specs.State.{State}
use Rattle.nqs_types.specs.Ids.{hand_key}
use Rattle.nqs_rules.specs.Handover.{is_silent}
use Rattle.nqs_rules.specs.Routing.{is_hand_to}
use Rattle.nqs_types.specs.declared.ids.HostId.{HostId}
use Rattle.nqs_types.specs.declared.ids.PeerNumber.{PeerNumber}
use Rattle.nqs_types.specs.declared.request.Hand.{Hand}

module _ {E : Type 0} where
  -- the key of a handover, only where its offer is silent
  abbrev pub silent_key : ℕ → State E → Hand → List PeerNumber
  silent_key now s h = if is_silent now s h then hand_key h ∷ [] else []

  -- whether a handover goes to the peer, and stays at this moment
  abbrev pub stays_to : ℕ → State E → HostId → Hand → Bool
  stays_to now s peer h = is_hand_to peer h && not (is_silent now s h)
