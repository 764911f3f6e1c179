-- The changes of handovers: a state in order stays so.
use Rattle.std.proofs.Common.{◌≡◌, ℕ, ◌+◌, ◌-◌, Bool, true, false, cond, not, ◌&&◌, ◌||◌, ◌==◌, nat_lt, nat_le, List, [], ◌∷◌, ◌++◌, map, find, length}
use Rattle.std.proofs.Common.{slice_get, Option, None, Some, option_map, true≢false, refl, sym, ap, ◌∙◌, arith, if◌then◌else◌}
use Rattle.std.proofs.lemmas.Bool.{and_parts, and_from, leb-true, leb-false, le-leb, lt-leb, ltb-true, lt-ltb, not-true, not_from_false, eqb-true, or_parts}
use Rattle.std.proofs.lemmas.Bool.{or_from}
use Rattle.std.proofs.lemmas.Bool.{and_left, and_right, false_from_ne_true}
use Rattle.std.proofs.lemmas.Option.{same_Some}
use Rattle.std.specs.List.{list_any, list_all}
use Rattle.nqs_state.specs.State.{State}
use Rattle.nqs_base.specs.Same.{number_exact}
use Rattle.nqs_types.specs.Ids.{id_exact, peer_number_eq, peer_number_exact, hand_key, promise_key}
use Rattle.nqs_base_tables.specs.Table.{change_first, without_first}
use Rattle.nqs_state.specs.Keys.{is_hand, is_promise, is_row}
use Rattle.nqs_types.specs.declared.ids.HostId.{HostId}
use Rattle.nqs_types.specs.declared.ids.RequestId.{RequestId}
use Rattle.nqs_types.specs.declared.ids.Dest.{Dest}
use Rattle.nqs_types.specs.declared.ids.PeerNumber.{PeerNumber}
use Rattle.nqs_types.specs.declared.request.Row.{Row}
use Rattle.nqs_types.specs.declared.request.Phase.TheVariants.{Offered}
use Rattle.nqs_types.specs.declared.request.Hand.{Hand}
use Rattle.nqs_types.specs.declared.request.Promise.{Promise}
use Rattle.nqs_types.specs.declared.request.Carried.{Carried}
use Rattle.nqs_types.specs.declared.request.Peer.{Peer}
use Rattle.nqs_rules.specs.Tests.{passes, is_running, is_routing, is_ready, is_offered, same_host, last_u64, last_seq}
use Rattle.nqs_rules.specs.Find.{peer_number, has_queue, has_row, find_row, find_hand, has_promise, find_peer, held_count}
use Rattle.nqs_rules.specs.Edits.{change_row, change_peer}
use Rattle.nqs_rules.specs.Rows.{arrivals_used}
use Rattle.nqs_rules.specs.Routing.{has_number, is_closed, close, raise_floor, has_room_for_hand, dests_for, refusal_noted}
use Rattle.nqs_rules.specs.Sane.{is_sane_job, is_sane_id, is_sane_carried}
use Rattle.nqs_rules.specs.Applied.{committed, new_row, routing_row, requeued_row, drop_hand, hand_opened, hand_committed, hand_refused, hand_silent}
use Rattle.nqs_rules.specs.Applied.{hands_silent, is_outlived, promises_from, drop_promise, accepted, dropped, promised}
use Rattle.nqs_rules.specs.Fits.{is_offered_hand, row_passes, hand_passes, may_hop, is_next, is_open_number, is_site_host, is_unknown, offer_full, promise_fits}
use Rattle.nqs_rules.specs.Fits.{are_offered}
use Rattle.nqs_rules.specs.InOrder.{IsInOrder, same_number, ascends_from, is_id_right, is_hand_given, is_peer_right, is_row_right, is_hand_right}
use Rattle.nqs_rules.specs.InOrder.{is_routing_row, is_promise_right}
use Rattle.nqs_rules.proofs.Chains.{each, implied}
use Rattle.nqs_rules.proofs.ClosedNumbers.{closed-raised}
use Rattle.nqs_rules.proofs.Sublists.{IsPart, filter_part, part_none}
use Rattle.nqs_rules.proofs.ListFacts.{found_passes, list_all-found, list_all-weaker}
use Rattle.nqs_rules.proofs.KeyFacts.{none_from_all, all_get, place_below, any_found, none_found, found_changed, find-without_other, gone_without}
use Rattle.nqs_rules.proofs.KeyFacts.{key_gone_behind, length_without}
use Rattle.nqs_rules.proofs.StateFacts.{sites_are, parameters_are, short_are, keys_are}
use Rattle.nqs_rules.proofs.RowFacts.{same_it, same_peer_number, Keeps, row_kept, IsRow, row_is, IsPromise, promise_is, promise_right}
use Rattle.nqs_rules.proofs.RowsOrder.{IsHand, row_dropped, row_changed, row_added, hand_is, hand_right}
use Rattle.nqs_rules.proofs.RowChanges.{new_row_right, noted_kept, queued_is, routing_is, ready_queued, routing_right, requeued_right, noted_right}
use Rattle.nqs_rules.proofs.RowKinds.{found_row, unoffered, ready_unrouted, counted, arrival_new}
use Rattle.nqs_rules.proofs.HandsOrder.{hand_dropped, hand_changed, hand_added, offer_gone, offer_committed}
use Rattle.nqs_rules.proofs.PeersOrder.{peer_counted, peer_closed, floor_raised, promises_part, promise_dropped, promise_added}
use Rattle.nqs_rules.proofs.OutputsOrder.{get-changed, given_next}

abbrev pub not_committed : Option Hand → Bool
not_committed None = true
not_committed (Some x) = is_offered x.phase

pub offer_or_none : (o : Option Hand) → passes is_offered_hand o ≡ true → not_committed o ≡ true
offer_or_none None h = refl
offer_or_none (Some x) h = h

module _ {E : Type 0} where
  -- what is known of a peer and of a hand that a change speaks of

  pub found_peer : (test : Peer → Bool) (host : HostId) (s : State E) → passes test (find_peer host s) ≡ true
      → (p : Peer) × (find_peer host s ≡ Some p) × (test p ≡ true)
  found_peer test host s h = of (find_peer host s) refl h
    where
      of : (o : Option Peer) → find_peer host s ≡ o → passes test o ≡ true → (p : Peer) × (find_peer host s ≡ Some p) × (test p ≡ true)
      of None e h = absurd (true≢false (sym h))
      of (Some p) e h = (p, e, h)

  -- a host of which something is known is of the site
  pub known_host : (s : State E) → IsInOrder s → (host : HostId) (p : Peer) → find_peer host s ≡ Some p → is_site_host host s ≡ true
  known_host s h host p found =
      let site = sites_are s h.site in
      let same : length s.peers ≡ length s.site = eqb-true (length s.peers) (length s.site) site.peers in
      let below = place_below s.peers host.0 p found in
      lt-ltb host.0 (length s.site) (omega (arith, same, below))

  -- the hand of an offer, whose row is on its way
  module _ (s : State E) (h : IsInOrder s) (k : PeerNumber) (x : Hand) (found : find (is_hand k) s.hands ≡ Some x) (offered : is_offered x.phase ≡ true) where
    is : IsHand s x
    is = hand_is s x (list_all-found (is_hand_right s) (is_hand k) s.hands x h.hands found)

    peer_known : is_site_host x.peer s ≡ true
    peer_known = let p = found_peer (is_hand_given x.number) x.peer s is.given in known_host s h x.peer p.0 p.1

    pub routes : (q : Row E) → find_row x.id s ≡ Some q → is_routing q.state ≡ true
    routes q e = ap (passes is_routing_row) (sym e) ∙ implied (is_offered x.phase) (passes is_routing_row (find_row x.id s)) is.stands offered

    pub committed_order : IsInOrder (hand_committed k (Some x) s)
    committed_order = row_dropped (record s { hands = change_first (is_hand k) committed s.hands }) x.id (hand_changed s k h)
        (offer_committed (is_hand k) x offered s.hands found h.offers)

    requeued : IsInOrder (change_row x.id requeued_row (drop_hand k s))
    requeued = row_changed (drop_hand k s) x.id requeued_row (hand_dropped s k h) (λ q. refl)
        (λ q e right. requeued_right (drop_hand k s) q right (ap is_running (routing_is q.state (routes q e)))) (λ q. refl)
        (offer_gone (is_hand k) x offered s.hands found h.offers)

    pub refused_order : (refusal : ℕ) → IsInOrder (hand_refused k refusal (Some x) s)
    refused_order refusal =
        let dest : Dest = record { queue = x.queue; host = x.peer } in
        row_changed (drop_hand k s) x.id (λ r. refusal_noted (dests_for r s) dest refusal (requeued_row r)) (hand_dropped s k h)
        (λ q. noted_kept (λ y. y.id) (λ y l. refl) (λ y. refl) (dests_for q s) dest refusal (requeued_row q))
        (λ q e right. noted_right (drop_hand k s) (requeued_row q) (requeued_right (drop_hand k s) q right (ap is_running (routing_is q.state (routes q e))))
        (dests_for q s) dest refusal peer_known)
        (λ q. noted_kept (λ y. y.arrival) (λ y l. refl) (λ y. refl) (dests_for q s) dest refusal (requeued_row q))
        (offer_gone (is_hand k) x offered s.hands found h.offers)

    pub silent_one : (until : ℕ) → IsInOrder (hand_silent until k (Some x) s)
    silent_one until = peer_counted (change_row x.id requeued_row (drop_hand k s)) k.peer (λ p. record p { wait = until }) requeued
        (λ p e. record { next = omega arith; stage_next = omega arith }) (λ p. (refl, refl))

  -- hands of offers that are taken back one after the other

  pub still_offered : (s : State E) → IsInOrder s → (k l : PeerNumber) → not_committed (find (is_hand l) s.hands) ≡ true
      → not_committed (find (is_hand l) (without_first (is_hand k) s.hands)) ≡ true
  still_offered s h k l opened = by (peer_number_eq l k) refl
    where
      by : (b : Bool) → peer_number_eq l k ≡ b → not_committed (find (is_hand l) (without_first (is_hand k) s.hands)) ≡ true
      by true e = ap (λ m. not_committed (find (is_hand m) (without_first (is_hand k) s.hands))) (peer_number_exact l k e)
          ∙ ap not_committed (none_found (is_hand k) (without_first (is_hand k) s.hands)
          (gone_without peer_number_eq hand_key peer_number_exact same_peer_number k s.hands (keys_are s h.keys).hands))
      by false e = ap not_committed (find-without_other peer_number_eq hand_key peer_number_exact same_peer_number l k s.hands e) ∙ opened

  silent_all : (until : ℕ) (ks : List PeerNumber) (s : State E) → IsInOrder s → list_all (λ k. not_committed (find_hand k.peer k.number s)) ks ≡ true
      → IsInOrder (hands_silent until ks s)
  silent_all until [] s h all = h
  silent_all until (k ∷ ks) s h all =
      let p = and_parts (not_committed (find_hand k.peer k.number s)) (list_all (λ l. not_committed (find_hand l.peer l.number s)) ks) all in
      of (find_hand k.peer k.number s) refl p.0 p.1 (silent_all until ks)
    where
      of : (o : Option Hand) → find_hand k.peer k.number s ≡ o → not_committed o ≡ true → list_all (λ l. not_committed (find_hand l.peer l.number s)) ks ≡ true
          → ((t : State E) → IsInOrder t → list_all (λ l. not_committed (find_hand l.peer l.number t)) ks ≡ true → IsInOrder (hands_silent until ks t))
          → IsInOrder (hands_silent until ks (hand_silent until k o s))
      of None e opened others rest = rest s h others
      of (Some x) e opened others rest = rest (hand_silent until k (Some x) s) (silent_one s h k x e opened until)
          (list_all-weaker (λ l. not_committed (find_hand l.peer l.number s)) (λ l. not_committed (find (is_hand l) (without_first (is_hand k) s.hands)))
          (λ l. still_offered s h k l) ks others)

  pub silent_order : (until : ℕ) (ks : List PeerNumber) (s : State E) → IsInOrder s → are_offered ks s ≡ true → IsInOrder (hands_silent until ks s)
  silent_order until ks s h all = silent_all until ks s h (list_all-weaker (λ k. hand_passes is_offered_hand k.peer k.number s)
      (λ k. not_committed (find_hand k.peer k.number s)) (λ k. offer_or_none (find_hand k.peer k.number s)) ks all)

  -- no hand has the number that its peer gets next
  number_new : (s : State E) → IsInOrder s → (peer : HostId) (p : Peer) (number : ℕ) → find_peer peer s ≡ Some p → p.next ≡ number
      → list_any (is_hand (peer_number peer number)) s.hands ≡ false
  number_new s h peer p number found next = none_from_all (is_hand_right s) (is_hand (peer_number peer number)) (λ x k.
      by x (hand_is s x k).given (peer.0 == x.peer.0) refl) s.hands h.hands
    where
      by : (x : Hand) → passes (is_hand_given x.number) (find_peer x.peer s) ≡ true → (b : Bool) → (peer.0 == x.peer.0) ≡ b
          → ((peer.0 == x.peer.0) && (number == x.number)) ≡ false
      by x given false e = and_left (peer.0 == x.peer.0) (number == x.number) e
      by x given true e =
          let here : find_peer x.peer s ≡ Some p = ap (slice_get s.peers) (sym (number_exact peer.0 x.peer.0 e)) ∙ found in
          let parts = and_parts (nat_le 1 x.number) (nat_lt x.number p.next) (ap (passes (is_hand_given x.number)) (sym here) ∙ given) in
          let below = ltb-true x.number p.next parts.1 in
          and_right (peer.0 == x.peer.0) (number == x.number) (false_from_ne_true (number == x.number) (λ is.
          let same : number ≡ x.number = number_exact number x.number is in omega (arith, same, below, next)))

  -- a handover is opened
  pub opened_order : (s : State E) → IsInOrder s → (peer : HostId) (number : ℕ) (id : RequestId) (queue : List ℕ) (since : ℕ) → row_passes may_hop id s ≡ true
      → passes (is_next number) (find_peer peer s) ≡ true → has_room_for_hand peer s ≡ true → IsInOrder (hand_opened peer number id queue since s)
  opened_order s h peer number id queue since hop next room =
      let r = found_row may_hop id s hop in
      let may = and_parts (is_ready r.0) (nat_lt r.0.hops 32) r.2 in
      let p = found_peer (is_next number) peer s next in
      let same : p.0.next ≡ number = eqb-true p.0.next number (and_parts (p.0.next == number) (nat_lt p.0.next last_u64) p.2).0 in
      let counts = (each (nat_le 1 p.0.next) (nat_le 1 p.0.stage_next ∷ ascends_from p.0.floor p.0.closed ∷ [])
      (all_get is_peer_right s.peers peer.0 p.0 h.peers p.1)).0 in
      let unrouted = unoffered is_ready id s h ready_unrouted (ap (passes is_ready) r.1 ∙ may.0) in
      let f : Peer → Peer = λ q. record q { next = number + 1 } in
      let s1 : State E = change_row id routing_row s in
      let s2 : State E = change_peer peer f s1 in
      let x : Hand = record { peer = peer; number = number; id = id; queue = queue; since = since; phase = Offered } in
      let a : IsInOrder s1 = row_changed s id routing_row h (λ q. refl) (λ q e k.
      let is : q ≡ r.0 = same_Some q r.0 (sym e ∙ r.1) in
      routing_right s q k (ready_queued q (ap is_ready is ∙ may.0)) (ap (λ y. nat_lt y.hops 32) is ∙ may.1)) (λ q. refl) unrouted in
      let b : IsInOrder s2 = peer_counted s1 peer f a (λ q e. let is : q.next ≡ p.0.next = ap (λ y. y.next) (same_Some q p.0 (sym e ∙ p.1)) in
      record { next = omega (arith, is, same); stage_next = omega arith }) (λ q. (refl, refl)) in
      let key : id ≡ r.0.id = id_exact id r.0.id (found_passes (is_row id) s.rows r.0 r.1) in
      let right : IsRow s r.0 = row_is s r.0 (list_all-found (is_row_right s) (is_row id) s.rows r.0 h.rows r.1) in
      hand_added s2 x b (hand_right s2 x (record {
        id = ap (is_id_right s) key ∙ right.id;
        given = ap (passes (is_hand_given number)) (get-changed peer.0 f s.peers ∙ ap (option_map f) p.1)
            ∙ given_next number (ap (nat_le 1) (sym same) ∙ counts);
        stands = ap (passes is_routing_row) (found_changed (is_row id) routing_row (λ q. refl) s.rows ∙ ap (option_map routing_row) r.1);
      })) room (number_new s h peer p.0 number p.1 same) unrouted refl

  -- promises

  -- what a low leaves isn't below it
  left_only : (peer : HostId) (low : ℕ) (ps : List (Promise E)) → list_all (λ p. not (is_outlived peer low p)) (promises_from peer low ps) ≡ true
  left_only peer low [] = refl
  left_only peer low (p ∷ ps) = by (is_outlived peer low p) refl (left_only peer low ps)
    where
      by : (b : Bool) → is_outlived peer low p ≡ b → list_all (λ q. not (is_outlived peer low q)) (promises_from peer low ps) ≡ true
          → list_all (λ q. not (is_outlived peer low q)) (cond (not b) (p ∷ promises_from peer low ps) (promises_from peer low ps)) ≡ true
      by true e rest = rest
      by false e rest = and_from (not (is_outlived peer low p)) (list_all (λ q. not (is_outlived peer low q)) (promises_from peer low ps))
          (not_from_false (is_outlived peer low p) e) rest

  pub promised_order : (s : State E) → IsInOrder s → (peer : HostId) (number low : ℕ) (queue : List ℕ) (c : Carried) (script : E)
      → nat_le low number ≡ true → is_sane_carried c ≡ true → promise_fits peer number low queue c s ≡ true
      → IsInOrder (promised peer number low queue c script s)
  promised_order s h peer number low queue c script within sane fit =
      let fits = each (has_queue queue s) (passes (is_open_number number) (find_peer peer s) ∷ not (has_promise peer number s) ∷ is_site_host c.id.host s
      ∷ is_unknown c.id s ∷ not (offer_full peer low s) ∷ not (arrivals_used s) ∷ []) fit in
      let unused : nat_le last_u64 s.arrivals ≡ false = not-true (arrivals_used s) fits.1.1.1.1.1.1.0 in
      let below = leb-false last_u64 s.arrivals unused in
      let ps = promises_from peer low s.promises in
      let part : IsPart ps s.promises = filter_part (λ q. not (is_outlived peer low q)) s.promises in
      let s1 : State E = record s { promises = ps } in
      let s2 : State E = change_peer peer (raise_floor (low - 1)) s1 in
      let s3 : State E = record s2 { arrivals = s.arrivals + 1 } in
      let p : Promise E = record { peer = peer; number = number; row = new_row c queue (s.arrivals + 1) script } in
      let least : nat_le s.seq last_seq ≡ true = (parameters_are s h.parameters).seq in
      let few = leb-true s.seq last_seq least in
      let a : IsInOrder s1 = promises_part s ps part h in
      let b : IsInOrder s2 = floor_raised s1 peer low a (left_only peer low s.promises) in
      let d : IsInOrder s3 = counted s2 s.seq (s.arrivals + 1) b (omega arith) few (omega arith) (omega (arith, below)) in
      let found = found_peer (is_open_number number) peer s fits.1.0 in
      let opened : is_closed number found.0 ≡ false = not-true (is_closed number found.0) found.2 in
      let above = (or_parts (nat_le number found.0.floor) (has_number number found.0.closed) opened).0 in
      let some = leb-false number found.0.floor above in
      let not_less = leb-true low number within in
      let room : nat_le 10000 (held_count s3) ≡ false = not-true (offer_full peer low s) fits.1.1.1.1.1.0 in
      let free = leb-false 10000 (held_count s3) room in
      let values = each (is_sane_id c.id) (is_sane_job c.job ∷ nat_lt c.starts 65535 ∷ (c.lost == c.starts) ∷ nat_le c.hops 32 ∷ []) sane in
      let as_often : c.lost ≡ c.starts = eqb-true c.lost c.starts values.1.1.1.0 in
      let fewer = ltb-true c.starts 65535 values.1.1.0 in
      promise_added s3 p d (promise_right s3 p (record {
        row = new_row_right s3 c queue (s.arrivals + 1) script (and_from (is_site_host c.id.host s) (is_sane_id c.id) fits.1.1.1.0 values.0)
            (and_parts (not (has_row c.id s)) (not (same_host s.me c.id.host) || nat_le c.id.seq s.seq) fits.1.1.1.1.0).1 values.1.0 fits.0
            (le-leb (s.arrivals + 1) (s.arrivals + 1) (omega arith)) (sym as_often) (lt-ltb c.lost 65535 (omega (arith, fewer, as_often))) values.1.1.1.1.0;
        queued = refl;
        some = le-leb 1 number (omega (arith, some));
        opens = ap (passes (is_open_number number)) (get-changed peer.0 (raise_floor (low - 1)) s.peers
            ∙ ap (option_map (raise_floor (low - 1))) found.1)
            ∙ ap not (closed-raised number (low - 1) found.0
            ∙ or_from (nat_le number (low - 1)) (is_closed number found.0) (lt-leb number (low - 1) (omega (arith, some, not_less))) opened);
      })) (part_none (is_promise (peer_number peer number)) part (not-true (has_promise peer number s) fits.1.1.0)) (arrival_new s2 b)
      (lt-ltb (held_count s3) 10000 (omega (arith, free)))

  -- the promise that a change speaks of goes, and its number is closed
  module _ (s : State E) (h : IsInOrder s) (k : PeerNumber) (p : Promise E) (found : find (is_promise k) s.promises ≡ Some p) where
    key : k ≡ promise_key p
    key = peer_number_exact k (promise_key p) (found_passes (is_promise k) s.promises p found)

    q : IsPromise s p
    q = promise_is s p (list_all-found (is_promise_right s) (is_promise k) s.promises p h.promises found)

    opens : passes (is_open_number k.number) (find_peer k.peer s) ≡ true
    opens = ap (λ (m : PeerNumber). passes (is_open_number m.number) (find_peer m.peer s)) key ∙ q.opens

    alone : list_any (is_promise k) (without_first (is_promise k) s.promises) ≡ false
    alone = gone_without peer_number_eq promise_key peer_number_exact same_peer_number k s.promises (keys_are s h.keys).promises

    pub dropped_order : IsInOrder (dropped k s)
    dropped_order = peer_closed (drop_promise k s) k.peer k.number (promise_dropped s k h) opens alone

    pub accepted_order : IsInOrder (accepted k (Some p) s)
    accepted_order = closed (has_row p.row.id s) (by (has_row p.row.id s) refl)
      where
        t : State E
        t = drop_promise k s

        more : has_row p.row.id s ≡ false → IsInOrder (record t { rows = s.rows ++ requeued_row p.row ∷ [] })
        more new =
            let keeps : Keeps s t = record { me = refl; site = refl; seq = omega arith; arrivals = omega arith; queues = λ n e. e; devices = λ n e. e } in
            let less = length_without (is_promise k) s.promises (any_found (is_promise k) s.promises p found) in
            let held : nat_le (length s.rows + length s.promises) 10000 ≡ true = (short_are s h.short).held in
            let few = leb-true (length s.rows + length s.promises) 10000 held in
            row_added t (requeued_row p.row) (promise_dropped s k h) (lt-ltb (held_count t) 10000 (omega (arith, less, few)))
            (requeued_right t p.row (row_kept s t keeps p.row q.row) (ap is_running (queued_is p.row.state q.queued))) new
            (key_gone_behind same_number (λ m. m.row.arrival) number_exact same_it (is_promise k) (map (λ r. r.arrival) s.rows) s.promises p found h.arrivals)

        by : (b : Bool) → has_row p.row.id s ≡ b → IsInOrder (if b then t else record t { rows = s.rows ++ requeued_row p.row ∷ [] })
        by true e = promise_dropped s k h
        by false e = more e

        closed : (b : Bool) → IsInOrder (if b then t else record t { rows = s.rows ++ requeued_row p.row ∷ [] })
            → IsInOrder (change_peer k.peer (close k.number) (if b then t else record t { rows = s.rows ++ requeued_row p.row ∷ [] }))
        closed true order = peer_closed t k.peer k.number order opens alone
        closed false order = peer_closed (record t { rows = s.rows ++ requeued_row p.row ∷ [] }) k.peer k.number order opens alone
