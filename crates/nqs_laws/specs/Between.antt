-- What holds between a source and a receiver of handovers, in each world that a run reaches.
use Rattle.std.specs.Prelude.{◌≡◌, ◌<◌, ◌≤◌, ℕ, ◌+◌, true, false, nat_le, length, filter, Some}
use Rattle.std.specs.List.{list_all}
use Rattle.nqs_state.specs.State.{Plain}
use Rattle.nqs_rules.specs.Find.{has_promise, find_peer}
use Rattle.nqs_rules.specs.Routing.{is_hand_to}
use Rattle.nqs_rules.specs.InOrder.{are_distinct, same_number, ascends_from}
use Rattle.nqs_rules.specs.Handover.{was_given}
use Rattle.nqs_types.specs.declared.ids.HostId.{HostId}
use Rattle.nqs_types.specs.declared.request.Peer.{Peer}
use Rattle.nqs_types.specs.declared.message.Message.{Message}
use Rattle.nqs_types.specs.declared.message.Body.{Body}
use Rattle.nqs_rules.specs.Net.{is_committed_to}
use Rattle.nqs_types.specs.declared.message.Body.TheVariants as body
use Rattle.nqs_laws.specs.Each.{InEachWorld}
use Rattle.nqs_laws.specs.Handovers.{IsStateOf, WasSent, is_open, is_closed_for, is_taken_for, numbers_to, next_for, low_for}
use Rattle.nqs_laws.specs.Loads.{load_of, promised_load, handed_errand, promised_errand}

-- something said of two hosts, a source in state s and a receiver in state t
abbrev pub OfPair : Type 1
OfPair = (from to : HostId) (s t : Plain) → Type 0

-- what holds of each two hosts in each world
abbrev pub InEachPair : OfPair → Type 0
InEachPair holds = InEachWorld (λ w. (from to : HostId) (s t : Plain) → IsStateOf w from s → IsStateOf w to t → holds from to s t)

-- what holds of each packet that was ever sent, and of the hosts that it goes from and to
abbrev pub OfEachPacket : (Body → OfPair) → Type 0
OfEachPacket holds = InEachWorld (λ w. (m : Message) → WasSent w m → (s t : Plain) → IsStateOf w m.from s → IsStateOf w m.to t → holds m.body m.from m.to s t)

-- The source of a handover gave the number of the message: the sender of an offer, a commit or an
-- abort, the receiver of the others.
abbrev pub HasGivenNumber : Body → HostId → HostId → Plain → Plain → Type 0
HasGivenNumber (body.Offer n low queue c script) from to s t = was_given n (find_peer to s) ≡ true
HasGivenNumber (body.Ready n) from to s t = was_given n (find_peer from t) ≡ true
HasGivenNumber (body.Refused n refusal) from to s t = was_given n (find_peer from t) ≡ true
HasGivenNumber (body.Commit n) from to s t = was_given n (find_peer to s) ≡ true
HasGivenNumber (body.Done n) from to s t = was_given n (find_peer from t) ≡ true
HasGivenNumber (body.Inquire n) from to s t = was_given n (find_peer from t) ≡ true
HasGivenNumber (body.Abort n) from to s t = was_given n (find_peer to s) ≡ true
HasGivenNumber b from to s t = Unit {0}

-- A source has at most eight handovers to a receiver, under different numbers that it gave, and its
-- next number is at most 64 above the least of them.
pub record HandsAreFew (from to : HostId) (s t : Plain) : Type 0 where
  pub few : length (filter (is_hand_to to) s.hands) ≤ 8
  pub distinct : are_distinct same_number (numbers_to to s.hands) ≡ true
  pub given : list_all (λ n. was_given n (find_peer to s)) (numbers_to to s.hands) ≡ true
  pub window : next_for to s ≤ low_for to s + 64

-- A receiver's floor is below the low of the source. What it promised and what it closed above the
-- floor has different numbers that the source gave, at most 64 above the floor; so these are at
-- most 64.
pub record TakenAreNear (from to : HostId) (s t : Plain) : Type 0 where
  pub below : (q : Peer) → find_peer from t ≡ Some q → q.floor < low_for to s
  pub ascending : (q : Peer) → find_peer from t ≡ Some q → ascends_from q.floor q.closed ≡ true
  pub given : (n : ℕ) → is_taken_for from n t ≡ true → was_given n (find_peer to s) ≡ true
  pub open_promises : (n : ℕ) → has_promise from n t ≡ true → is_closed_for from n t ≡ false
  pub near_promises : (q : Peer) → find_peer from t ≡ Some q → (n : ℕ) → has_promise from n t ≡ true → n ≤ q.floor + 64
  pub near_closed : (q : Peer) → find_peer from t ≡ Some q → list_all (λ n. nat_le n (q.floor + 64)) q.closed ≡ true
  pub few : (q : Peer) → find_peer from t ≡ Some q → length q.closed ≤ 64

-- What is promised under the number of an open handover is what that carries.
abbrev pub PromisesAgree : OfPair
PromisesAgree from to s t = (n : ℕ) → is_open to n s ≡ true → has_promise from n t ≡ true → promised_load from n t ≡ load_of to n s

-- What is promised under the number of a committed handover is for its errand: its request, into
-- its queue.
abbrev pub PromisesAreMeant : OfPair
PromisesAreMeant from to s t = (n : ℕ) → is_committed_to to n s ≡ true → has_promise from n t ≡ true → promised_errand from n t ≡ handed_errand to n s
