-- Handovers between two hosts, as a world that a run reaches has them.
use Rattle.std.specs.Prelude.{◌≡◌, ◌≤◌, ℕ, ◌+◌, Bool, true, false, ◌||◌, List, map, filter, Option, None, Some, is_some, slice_get}
use Rattle.nqs_state.specs.State.{Plain}
use Rattle.nqs_rules.specs.Tests.{passes}
use Rattle.nqs_rules.specs.Find.{find_hand, has_promise, find_peer}
use Rattle.nqs_rules.specs.Routing.{is_hand_to, low}
use Rattle.nqs_rules.specs.Fits.{is_offered_hand}
use Rattle.nqs_rules.specs.Handover.{closes, was_given}
use Rattle.nqs_rules.specs.World.{World, packet_at}
use Rattle.nqs_rules.specs.Run.{states_of}
use Rattle.nqs_laws.specs.Loads.{load_of, sent_load}
use Rattle.nqs_types.specs.declared.ids.HostId.{HostId}
use Rattle.nqs_types.specs.declared.request.Hand.{Hand}
use Rattle.nqs_types.specs.declared.request.Peer.{Peer}
use Rattle.nqs_types.specs.declared.message.Message.{Message}
use Rattle.nqs_types.specs.declared.message.Body.{Body}
use Rattle.nqs_rules.specs.Net.{is_committed_to}
use Rattle.nqs_types.specs.declared.message.Body.TheVariants as body

-- the host has this state in the world
abbrev pub IsStateOf : World → HostId → Plain → Type 0
IsStateOf w a s = slice_get (states_of w) a.0 ≡ Some s

-- a packet that was ever sent
abbrev pub WasSent : World → Message → Type 0
WasSent w m = (k : ℕ) × (packet_at k w ≡ Some m)

-- of the sender: its handover to this host under this number is offered
abbrev pub is_open : HostId → ℕ → Plain → Bool
is_open to n s = passes is_offered_hand (find_hand to n s)

-- of the receiver: the number of this sender is closed
abbrev pub is_closed_for : HostId → ℕ → Plain → Bool
is_closed_for from n t = closes n (find_peer from t)

-- of the receiver: the number of this sender is promised or closed
abbrev pub is_taken_for : HostId → ℕ → Plain → Bool
is_taken_for from n t = has_promise from n t || is_closed_for from n t

-- of the sender: the numbers of its handovers to a host
abbrev pub numbers_to : HostId → List Hand → List ℕ
numbers_to to hands = map (λ (h : Hand). h.number) (filter (is_hand_to to) hands)

-- the next number of a peer, 0 where there is no such host
abbrev pub next_of : Option Peer → ℕ
next_of None = 0
next_of (Some p) = p.next

-- of the sender: the number that it gives next to a host
abbrev pub next_for : HostId → Plain → ℕ
next_for to s = next_of (find_peer to s)

-- of the sender: its low for a host, the least number of its handovers to it
abbrev pub low_for : HostId → Plain → ℕ
low_for to s = low to (next_for to s) s.hands

-- What a host in state s has of its handovers to another goes with what that one, in state t, has
-- of them.
pub record AreInStep (from to : HostId) (s t : Plain) : Type 0 where
  pub offered : (n : ℕ) → is_open to n s ≡ true → is_closed_for from n t ≡ false
  pub given : (n : ℕ) → is_committed_to to n s ≡ true → is_taken_for from n t ≡ true
  pub promised : (n : ℕ) → has_promise from n t ≡ true → is_closed_for from n t ≡ false
  pub numbered : (n : ℕ) → is_taken_for from n t ≡ true → was_given n (find_peer to s) ≡ true

-- What a message said once, of its sender in state s and its receiver in state t, is true at every
-- later moment.
abbrev pub IsTrueOf : Body → HostId → HostId → Plain → Plain → Type 0
IsTrueOf (body.Offer n low queue c script) from to s t =
    (is_open to n s ≡ true → load_of to n s ≡ Some (sent_load queue c script)) × (low ≤ low_for to s) × (n ≤ low + 63)
IsTrueOf (body.Ready n) from to s t = is_taken_for to n s ≡ true
IsTrueOf (body.Refused n refusal) from to s t = was_given n (find_peer from t) ≡ true
IsTrueOf (body.Commit n) from to s t = (is_committed_to to n s || is_closed_for from n t) ≡ true
IsTrueOf (body.Done n) from to s t = is_closed_for to n s ≡ true
IsTrueOf (body.Inquire n) from to s t = is_taken_for to n s ≡ true
IsTrueOf (body.Abort n) from to s t = is_some (find_hand to n s) ≡ false
IsTrueOf b from to s t = Unit {0}
