-- What two hosts have of one another, and what a change of one of them makes of it.
use Rattle.std.proofs.Common.{◌≡◌, ℕ, ◌⊎◌, inl, inr, Bool, true, false, cond, not, ◌||◌, nat_lt, nat_le, List, [], ◌∷◌, map, find, slice_get, Option, None}
use Rattle.std.proofs.Common.{Some, true≢false}
use Rattle.std.proofs.Common.{zero, suc, refl, sym, ap, ◌∙◌}
use Rattle.std.proofs.lemmas.Bool.{and_parts, eq-eqb, not-true, false_from_ne_true}
use Rattle.std.proofs.lemmas.Option.{same_Some, none-some}
use Rattle.std.specs.List.{list_any}
use Rattle.std.specs.Option.{option_map}
use Rattle.nqs_types.specs.Ids.{peer_number_eq, peer_number_exact, hand_key, promise_key}
use Rattle.nqs_state.specs.State.{Plain}
use Rattle.nqs_base_tables.specs.Table.{has_key}
use Rattle.nqs_state.specs.Keys.{is_hand, is_promise}
use Rattle.nqs_types.specs.declared.ids.HostId.{HostId}
use Rattle.nqs_types.specs.declared.ids.PeerNumber.{PeerNumber}
use Rattle.nqs_types.specs.declared.request.Hand.{Hand}
use Rattle.nqs_types.specs.declared.request.Promise.{Promise}
use Rattle.nqs_types.specs.declared.request.Peer.{Peer}
use Rattle.nqs_types.specs.declared.request.Phase.{Phase}
use Rattle.nqs_types.specs.declared.request.Phase.TheVariants.{Offered, Committed}
use Rattle.nqs_rules.specs.Tests.{passes, is_routing, is_offered, same_host}
use Rattle.nqs_rules.specs.Find.{peer_number, find_row, find_peer, find_hand, find_promise}
use Rattle.nqs_rules.specs.Edits.{change_at}
use Rattle.nqs_rules.specs.Routing.{has_number}
use Rattle.nqs_rules.specs.Handover.{closes, was_given}
use Rattle.nqs_rules.specs.InOrder.{IsInOrder, are_distinct, is_routing_row, is_hand_right}
use Rattle.nqs_rules.proofs.Chains.{implied}
use Rattle.nqs_rules.proofs.ListFacts.{found_passes, list_all-found}
use Rattle.nqs_rules.proofs.RowsOrder.{hand_is}
pub use Rattle.nqs_rules.proofs.PeersOrder.{same_host_exact as host_exact}
use Rattle.nqs_rules.specs.Picked.{PlainRow}
use Rattle.nqs_laws.specs.Loads.{offered_load, kept_load}
use Rattle.nqs_laws.specs.Handovers.{is_closed_for, next_of}
use Rattle.nqs_laws.proofs.Pair.{Offer, NoOffer, Open, Given, Pledge, NoPledge, Pledged, Pair, Move, Stays, Offers, Withdraws, Commits, Finishes, Pledges}
use Rattle.nqs_laws.proofs.Pair.{Accepts, Drops, moved, pair}

abbrev pub Pledging : Type 0
Pledging = Promise (List ℕ)

abbrev pub phase_seen : Phase → Hand → Option PlainRow → Offer
phase_seen Offered y None = NoOffer
phase_seen Offered y (Some r) = Open (offered_load y.queue r)
phase_seen Committed y o = Given y.id y.queue

abbrev pub offer_seen : Option Hand → Plain → Offer
offer_seen None s = NoOffer
offer_seen (Some y) s = phase_seen y.phase y (find_row y.id s)

-- what a host has offered to another under a number
abbrev pub offered : Plain → HostId → ℕ → Offer
offered s b n = offer_seen (find_hand b n s) s

-- whether it gave the number to a handover to that one
abbrev pub gave : Plain → HostId → ℕ → Bool
gave s b n = was_given n (find_peer b s)

abbrev pub pledge_seen : Option Pledging → Pledge
pledge_seen None = NoPledge
pledge_seen (Some p) = Pledged (kept_load p.row)

-- what a host has promised to another under a number
abbrev pub pledged : Plain → HostId → ℕ → Pledge
pledged t a n = pledge_seen (find_promise a n t)

-- what host a in state s and host b in state t have of one another under a number
abbrev pub pair_of : HostId → Plain → HostId → Plain → ℕ → Pair
pair_of a s b t n = record { offer = offered s b n; numbered = gave s b n; pledge = pledged t a n; closed = is_closed_for a n t }

-- whether a handover to this host under this number has this key
abbrev pub has_number_key : HostId → ℕ → PeerNumber → Bool
has_number_key b n k = peer_number_eq (peer_number b n) k

-- moves of the source's part, and of the receiver's

abbrev pub IsSource : Move → Type 0
IsSource Stays = Unit {0}
IsSource (Offers load) = Unit {0}
IsSource Withdraws = Unit {0}
IsSource Commits = Unit {0}
IsSource Finishes = Unit {0}
IsSource (Pledges load) = ⊥
IsSource Accepts = ⊥
IsSource Drops = ⊥

abbrev pub IsTarget : Move → Type 0
IsTarget Stays = Unit {0}
IsTarget (Offers load) = ⊥
IsTarget Withdraws = ⊥
IsTarget Commits = ⊥
IsTarget Finishes = ⊥
IsTarget (Pledges load) = Unit {0}
IsTarget Accepts = Unit {0}
IsTarget Drops = Unit {0}

pub record Source (s s' : Plain) (b : HostId) (n : ℕ) (m : Move) : Type 0 where
  pub offer : offered s' b n ≡ (moved (pair (offered s b n) (gave s b n) NoPledge false) m).offer
  pub given : gave s' b n ≡ (moved (pair (offered s b n) (gave s b n) NoPledge false) m).numbered
  pub is : IsSource m

pub record Target (t t' : Plain) (a : HostId) (n : ℕ) (m : Move) : Type 0 where
  pub pledge : pledged t' a n ≡ (moved (pair NoOffer false (pledged t a n) (is_closed_for a n t)) m).pledge
  pub closed : is_closed_for a n t' ≡ (moved (pair NoOffer false (pledged t a n) (is_closed_for a n t)) m).closed
  pub is : IsTarget m
  pub stays : m ≡ Stays → find_promise a n t' ≡ find_promise a n t

pub source_pair : (a : HostId) (s s' : Plain) (b : HostId) (t : Plain) (n : ℕ) (m : Move) → Source s s' b n m
    → pair_of a s' b t n ≡ moved (pair_of a s b t n) m
source_pair a s s' b t n Stays k = λ j. record { offer = k.offer j; numbered = k.given j; pledge = pledged t a n; closed = is_closed_for a n t }
source_pair a s s' b t n (Offers load) k = λ j. record { offer = k.offer j; numbered = k.given j; pledge = pledged t a n; closed = is_closed_for a n t }
source_pair a s s' b t n Withdraws k = λ j. record { offer = k.offer j; numbered = k.given j; pledge = pledged t a n; closed = is_closed_for a n t }
source_pair a s s' b t n Commits k = λ j. record { offer = k.offer j; numbered = k.given j; pledge = pledged t a n; closed = is_closed_for a n t }
source_pair a s s' b t n Finishes k = λ j. record { offer = k.offer j; numbered = k.given j; pledge = pledged t a n; closed = is_closed_for a n t }
source_pair a s s' b t n (Pledges load) k = absurd k.is
source_pair a s s' b t n Accepts k = absurd k.is
source_pair a s s' b t n Drops k = absurd k.is

pub target_pair : (a : HostId) (s : Plain) (b : HostId) (t t' : Plain) (n : ℕ) (m : Move) → Target t t' a n m
    → pair_of a s b t' n ≡ moved (pair_of a s b t n) m
target_pair a s b t t' n Stays k = λ j. record { offer = offered s b n; numbered = gave s b n; pledge = k.pledge j; closed = k.closed j }
target_pair a s b t t' n (Pledges load) k = λ j. record { offer = offered s b n; numbered = gave s b n; pledge = k.pledge j; closed = k.closed j }
target_pair a s b t t' n Accepts k = λ j. record { offer = offered s b n; numbered = gave s b n; pledge = k.pledge j; closed = k.closed j }
target_pair a s b t t' n Drops k = λ j. record { offer = offered s b n; numbered = gave s b n; pledge = k.pledge j; closed = k.closed j }
target_pair a s b t t' n (Offers load) k = absurd k.is
target_pair a s b t t' n Withdraws k = absurd k.is
target_pair a s b t t' n Commits k = absurd k.is
target_pair a s b t t' n Finishes k = absurd k.is

-- hosts

pub host_same : (a : HostId) → same_host a a ≡ true
host_same a = eq-eqb a.0 a.0 refl

pub host_other : (a b : HostId) → (a ≡ b → ⊥) → same_host a b ≡ false
host_other a b n = false_from_ne_true (same_host a b) (λ e. n (host_exact a b e))

pub host_turned : (a b : HostId) → same_host a b ≡ false → same_host b a ≡ false
host_turned a b e = host_other b a (λ k. true≢false (sym (ap (same_host a) k ∙ host_same a) ∙ e))

pub host_cases : (a b : HostId) → (a ≡ b) ⊎ (a ≡ b → ⊥)
host_cases a b = by (same_host a b) refl
  where
    by : (c : Bool) → same_host a b ≡ c → (a ≡ b) ⊎ (a ≡ b → ⊥)
    by true e = inl (host_exact a b e)
    by false e = inr (λ k. true≢false (sym (ap (λ i. same_host i b) k ∙ host_same b) ∙ e))

-- what was found is found by its key

module _ {K V : Type 0} (eq : K → K → Bool) (key : V → K) (exact : (a b : K) → eq a b ≡ true → a ≡ b) (same : (a : K) → eq a a ≡ true) where
  key_in : (u : V → Bool) (vs : List V) (v : V) → find u vs ≡ Some v → list_any (eq (key v)) (map key vs) ≡ true
  key_in u [] v e = absurd (none-some v e)
  key_in u (x ∷ vs) v e = by (u x) e (key_in u vs v)
    where
      by : (b : Bool) → cond b (Some x) (find u vs) ≡ Some v → (find u vs ≡ Some v → list_any (eq (key v)) (map key vs) ≡ true)
          → (eq (key v) (key x) || list_any (eq (key v)) (map key vs)) ≡ true
      by true e rest = ap (λ y. eq (key y) (key x) || list_any (eq (key y)) (map key vs)) (sym (same_Some x v e))
          ∙ ap (λ b. b || list_any (eq (key x)) (map key vs)) (same (key x))
      by false e rest = right (eq (key v) (key x)) (rest e)
        where
          right : (b : Bool) {c : Bool} → c ≡ true → (b || c) ≡ true
          right true k = refl
          right false k = k

  pub found_by_key : (u : V → Bool) (vs : List V) (v : V) → find u vs ≡ Some v → are_distinct eq (map key vs) ≡ true → find (has_key eq key (key v)) vs ≡ Some v
  found_by_key u [] v e d = absurd (none-some v e)
  found_by_key u (x ∷ vs) v e d = by (u x) e (eq (key v) (key x)) refl (and_parts (not (list_any (eq (key x)) (map key vs))) (are_distinct eq (map key vs)) d)
      (found_by_key u vs v)
    where
      by : (a : Bool) → cond a (Some x) (find u vs) ≡ Some v → (b : Bool) → eq (key v) (key x) ≡ b
          → (not (list_any (eq (key x)) (map key vs)) ≡ true) × (are_distinct eq (map key vs) ≡ true)
          → (find u vs ≡ Some v → are_distinct eq (map key vs) ≡ true → find (has_key eq key (key v)) vs ≡ Some v)
          → cond (eq (key v) (key x)) (Some x) (find (has_key eq key (key v)) vs) ≡ Some v
      by true e b f p rest = ap (λ y. cond (eq (key y) (key x)) (Some x) (find (has_key eq key (key y)) vs)) (sym (same_Some x v e))
          ∙ (ap (λ c. cond c (Some x) (find (has_key eq key (key x)) vs)) (same (key x)) ∙ e)
      by false e true f p rest =
          absurd (true≢false (sym (ap (λ k. list_any (eq k) (map key vs)) (sym (exact (key v) (key x) f)) ∙ key_in u vs v e)
          ∙ not-true (list_any (eq (key x)) (map key vs)) p.0))
      by false e false f p rest = ap (λ c. cond c (Some x) (find (has_key eq key (key v)) vs)) f ∙ rest e p.1

-- a hand that is found has its key
module _ (s : Plain) (k : PeerNumber) (y : Hand) (found : find (is_hand k) s.hands ≡ Some y) where
  pub hand_key_is : k ≡ hand_key y
  hand_key_is = peer_number_exact k (hand_key y) (found_passes (is_hand k) s.hands y found)

  pub hand_peer : k.peer ≡ y.peer
  hand_peer = ap (λ (i : PeerNumber). i.peer) hand_key_is

  pub hand_number : k.number ≡ y.number
  hand_number = ap (λ (i : PeerNumber). i.number) hand_key_is

-- and a promise
module _ (t : Plain) (k : PeerNumber) (p : Pledging) (found : find (is_promise k) t.promises ≡ Some p) where
  pub promise_key_is : k ≡ promise_key p
  promise_key_is = peer_number_exact k (promise_key p) (found_passes (is_promise k) t.promises p found)

  pub promise_peer : k.peer ≡ p.peer
  promise_peer = ap (λ (i : PeerNumber). i.peer) promise_key_is

  pub promise_number : k.number ≡ p.number
  promise_number = ap (λ (i : PeerNumber). i.number) promise_key_is

-- the row of an offer
pub routing_of : (s : Plain) → IsInOrder s → (u : Hand → Bool) (y : Hand) → find u s.hands ≡ Some y → is_offered y.phase ≡ true
    → (r : PlainRow) × (find_row y.id s ≡ Some r) × (is_routing r.state ≡ true)
routing_of s h u y found opens = of (find_row y.id s) refl (implied (is_offered y.phase) (passes is_routing_row (find_row y.id s))
    (hand_is s y (list_all-found (is_hand_right s) u s.hands y h.hands found)).stands opens)
  where
    of : (o : Option PlainRow) → find_row y.id s ≡ o → passes is_routing_row o ≡ true
        → (r : PlainRow) × (find_row y.id s ≡ Some r) × (is_routing r.state ≡ true)
    of None e k = absurd (true≢false (sym k))
    of (Some r) e k = (r, e, k)

-- offers stand where hands stay and rows on their way too
pub offer_stands : (s s' : Plain) → IsInOrder s → (u : Hand → Bool) (o : Option Hand) → find u s.hands ≡ o
    → ((y : Hand) (r : PlainRow) → o ≡ Some y → find_row y.id s ≡ Some r → is_routing r.state ≡ true → find_row y.id s' ≡ Some r)
    → offer_seen o s' ≡ offer_seen o s
offer_stands s s' h u None e stay = refl
offer_stands s s' h u (Some y) e stay = by y.phase refl
  where
    by : (p : Phase) → y.phase ≡ p → phase_seen p y (find_row y.id s') ≡ phase_seen p y (find_row y.id s)
    by Offered is = let k = routing_of s h u y e (ap is_offered is) in ap (phase_seen Offered y) (stay y k.0 refl k.1 k.2 ∙ sym k.1)
    by Committed is = refl

-- what handovers look at of a peer: its next number, its floor, and the closed numbers above

abbrev pub Seen : Type 0
Seen = Option (ℕ × ℕ × List ℕ)

abbrev pub seen : Option Peer → Seen
seen o = option_map (λ (p : Peer). (p.next, p.floor, p.closed)) o

pub by_seen : {A : Type 0} (view : Option Peer → A) → ((p q : Peer) → p.next ≡ q.next → p.floor ≡ q.floor → p.closed ≡ q.closed → view (Some p) ≡ view (Some q))
    → (o other : Option Peer) → seen o ≡ seen other → view o ≡ view other
by_seen view same None None e = refl
by_seen view same None (Some q) e = absurd (none-some _ e)
by_seen view same (Some p) None e = absurd (none-some _ (sym e))
by_seen view same (Some p) (Some q) e =
    let k = same_Some (p.next, p.floor, p.closed) (q.next, q.floor, q.closed) e in
    same p q (ap (λ (x : ℕ × ℕ × List ℕ). x.0) k) (ap (λ (x : ℕ × ℕ × List ℕ). x.1) k) (ap (λ (x : ℕ × ℕ × List ℕ). x.2) k)

pub seen_given : (n : ℕ) (o other : Option Peer) → seen o ≡ seen other → was_given n o ≡ was_given n other
seen_given n o other e = by_seen (was_given n) (λ p q next floor closed. ap (nat_lt n) next) o other e

pub seen_closed : (n : ℕ) (o other : Option Peer) → seen o ≡ seen other → closes n o ≡ closes n other
seen_closed n o other e = by_seen (closes n) (λ p q next floor closed j. nat_le n (floor j) || has_number n (closed j)) o other e

pub seen_next : (o other : Option Peer) → seen o ≡ seen other → next_of o ≡ next_of other
seen_next o other e = by_seen next_of (λ p q next floor closed. next) o other e

-- what is seen of a peer, after a change of one

pub peer_kept : {A : Type 0} (view : Option Peer → A) (n k : ℕ) (f : Peer → Peer) (ps : List Peer) → ((p : Peer) → view (Some (f p)) ≡ view (Some p))
    → view (slice_get (change_at n f ps) k) ≡ view (slice_get ps k)
peer_kept view n k f [] same = refl
peer_kept view zero zero f (p ∷ ps) same = same p
peer_kept view zero (suc k) f (p ∷ ps) same = refl
peer_kept view (suc n) zero f (p ∷ ps) same = refl
peer_kept view (suc n) (suc k) f (p ∷ ps) same = peer_kept view n k f ps same

pub peer_other : (n k : ℕ) (f : Peer → Peer) (ps : List Peer) → (n ≡ k → ⊥) → slice_get (change_at n f ps) k ≡ slice_get ps k
peer_other n k f [] other = refl
peer_other zero zero f (p ∷ ps) other = absurd (other refl)
peer_other zero (suc k) f (p ∷ ps) other = refl
peer_other (suc n) zero f (p ∷ ps) other = refl
peer_other (suc n) (suc k) f (p ∷ ps) other = peer_other n k f ps (λ e. other (ap suc e))

pub peer_here : (n : ℕ) (f : Peer → Peer) (ps : List Peer) (p : Peer) → slice_get ps n ≡ Some p → slice_get (change_at n f ps) n ≡ Some (f p)
peer_here n f [] p e = absurd (none-some p e)
peer_here zero f (q ∷ ps) p e = ap Some (ap f (same_Some q p e))
peer_here (suc n) f (q ∷ ps) p e = peer_here n f ps p e
