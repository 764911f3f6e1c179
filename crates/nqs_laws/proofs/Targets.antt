-- What each change of a host makes of its promises and of the numbers that are closed.
use Rattle.std.proofs.Common.{◌≡◌, ℕ, ◌+◌, ◌-◌, ◌≤◌, Bool, true, false, not, ◌&&◌, ◌||◌, ◌==◌, nat_lt, nat_le, List, [], ◌∷◌, ◌++◌, map, find, slice_get}
use Rattle.std.proofs.Common.{Option, None, Some, true≢false, refl, sym, ap, subst, ◌∙◌, arith, if◌then◌else◌}
use Rattle.std.proofs.lemmas.Bool.{and_parts, or_left, eqb-true, ltb-true, ltb-false, leb-true, leb-false, le-leb, not-true, false_from_ne_true}
use Rattle.std.specs.Option.{option_or}
use Rattle.nqs_state.specs.State.{Plain}
use Rattle.nqs_base_tables.specs.Table.{without_first}
use Rattle.nqs_state.specs.Keys.{is_promise}
use Rattle.nqs_types.specs.Ids.{peer_number_eq, peer_number_exact, promise_key}
use Rattle.nqs_types.specs.declared.ids.HostId.{HostId}
use Rattle.nqs_types.specs.declared.ids.PeerNumber.{PeerNumber}
use Rattle.nqs_types.specs.declared.request.Carried.{Carried}
use Rattle.nqs_types.specs.declared.request.Hand.{Hand}
use Rattle.nqs_types.specs.declared.request.Peer.{Peer}
use Rattle.nqs_types.specs.declared.change.Change.{Change}
use Rattle.nqs_types.specs.declared.change.Change.TheVariants.{Site, Submitted, Deleted, Doomed, Started, Ended, Unlaunched, Boot, Edited, HandOpened}
use Rattle.nqs_types.specs.declared.change.Change.TheVariants.{HandCommitted, HandRefused, HandsSilent, HandDone, OldPromised, Promised, Accepted, Dropped}
use Rattle.nqs_types.specs.declared.change.Change.TheVariants.{MovedLocal}
use Rattle.nqs_types.specs.declared.change.Change.TheVariants.{RefusedLocal, HeldFar, StageGot, StageGone, FileGone}
use Rattle.nqs_rules.specs.Tests.{passes, same_host}
use Rattle.nqs_rules.specs.Find.{peer_number, has_queue, has_row, find_hand, find_promise, has_promise, find_peer}
use Rattle.nqs_rules.specs.Rows.{arrivals_used}
use Rattle.nqs_rules.specs.Routing.{has_number, is_closed, close, raise_floor}
use Rattle.nqs_rules.specs.Handover.{closes}
use Rattle.nqs_rules.specs.Applied.{applied, new_row, requeued_row, hand_committed, hand_refused, hand_silent, drop_promise}
use Rattle.nqs_rules.specs.Applied.{accepted, promised, is_outlived, promises_from}
use Rattle.nqs_rules.specs.Fits.{fits, promise_fits, is_open_number, is_site_host, is_unknown, offer_full}
use Rattle.nqs_rules.specs.InOrder.{IsInOrder, are_distinct, is_promise_right}
use Rattle.nqs_rules.specs.Edits.{change_at}
use Rattle.nqs_rules.proofs.Chains.{each}
use Rattle.nqs_rules.proofs.ClosedNumbers.{closed-close, closed-raised}
use Rattle.nqs_rules.proofs.ListFacts.{list_all-found}
use Rattle.nqs_rules.proofs.KeyFacts.{found_any, none_found}
use Rattle.nqs_rules.proofs.StateFacts.{keys_are}
use Rattle.nqs_rules.proofs.RowFacts.{promise_is, same_peer_number}
use Rattle.nqs_laws.specs.Loads.{sent_load}
use Rattle.nqs_laws.specs.Handovers.{is_closed_for}
use Rattle.nqs_laws.proofs.Found.{only, find-added, find-without, find-filtered}
use Rattle.nqs_laws.proofs.Pair.{NoOffer, Pledge, NoPledge, Move, Stays, Pledges, Accepts, Drops, moved, pair}
use Rattle.nqs_laws.proofs.Views.{Pledging, pledge_seen, pledged, has_number_key, IsTarget, Target, host_exact}
use Rattle.nqs_laws.proofs.Views.{host_same, host_turned, promise_key_is, promise_peer, promise_number, seen_closed, peer_kept, peer_other, peer_here}
use Rattle.nqs_laws.proofs.Turns.{IsQuiet, Ties, quiet_ties, promised_move, from_move, stays_target, key_here}

abbrev pub KeptPeer : Plain → HostId → Type 0
KeptPeer s peer = (p : Peer) × (find_peer peer s ≡ Some p)

pub known_peer : (s : Plain) (peer : HostId) (test : Peer → Bool) → passes test (find_peer peer s) ≡ true → KeptPeer s peer
known_peer s peer test fit = of (find_peer peer s) refl fit
  where
    of : (o : Option Peer) → find_peer peer s ≡ o → passes test o ≡ true → KeptPeer s peer
    of None e k = absurd (true≢false (sym k))
    of (Some p) e k = (p, e)

-- a promise under its number
pub promise_at : (s : Plain) (peer : HostId) (number : ℕ) → has_promise peer number s ≡ true → (p : Pledging) × (find_promise peer number s ≡ Some p)
promise_at s peer number fit = of (find_promise peer number s) refl (found_any (is_promise (peer_number peer number)) s.promises fit)
  where
    of : (o : Option Pledging) → find_promise peer number s ≡ o → passes (λ _. true) o ≡ true → (p : Pledging) × (find_promise peer number s ≡ Some p)
    of None e k = absurd (true≢false (sym k))
    of (Some p) e k = (p, e)

quiet_target : (s : Plain) (c : Change (List ℕ)) → fits c s ≡ true → IsQuiet c → (a : HostId) (n : ℕ) → Target s (applied c s) a n Stays
quiet_target s c fit quiet a n = let k = quiet_ties c s fit quiet in
    stays_target s (applied c s) a n (ap (λ (l : Ties). l.1) k.0) (seen_closed n (find_peer a (applied c s)) (find_peer a s) (k.1 a))

-- a promise that is made has a low that is at most its number
abbrev pub IsLowRight : Change (List ℕ) → Type 0
IsLowRight (Promised peer number low queue c script) = low ≤ number
IsLowRight c = Unit {0}

-- the numbers below a low are closed
pub closed_low : (n low : ℕ) (p : Peer) → is_closed n (raise_floor (low - 1) p) ≡ (nat_lt n low || is_closed n p)
closed_low n low p = closed-raised n (low - 1) p ∙ by (nat_lt n low) refl (nat_le n (low - 1)) refl
  where
    by : (a : Bool) → nat_lt n low ≡ a → (b : Bool) → nat_le n (low - 1) ≡ b → (b || is_closed n p) ≡ (a || is_closed n p)
    by true e true f = refl
    by true e false f = let below = ltb-true n low e in let above = leb-false n (low - 1) f in absurd (omega (arith, below, above))
    by false e true f =
        let above = ltb-false n low e in
        let below = leb-true n (low - 1) f in
        sym (or_left (nat_le n p.floor) (has_number n p.closed) (le-leb n p.floor (omega (arith, above, below))))
    by false e false f = refl

module _ (s : Plain) (h : IsInOrder s) where
  promise_keys : are_distinct peer_number_eq (map promise_key s.promises) ≡ true
  promise_keys = (keys_are s h.keys).promises

  -- the sender of a promise is known
  pub sender_known : (k : PeerNumber) (p : Pledging) → find (is_promise k) s.promises ≡ Some p → KeptPeer s k.peer
  sender_known k p found =
      let right = promise_is s p (list_all-found (is_promise_right s) (is_promise k) s.promises p h.promises found) in
      subst (KeptPeer s) (sym (promise_peer s k p found)) (known_peer s p.peer (is_open_number p.number) right.opens)

  -- a promise goes, and its number is closed
  gone_target : (k : PeerNumber) (p : Pledging) → find (is_promise k) s.promises ≡ Some p → (m : Move) → IsTarget m → (m ≡ Stays → ⊥)
      → ((q : Pledge) (c : Bool) → (moved (pair NoOffer false q c) m).pledge ≡ NoPledge)
      → ((q : Pledge) (c : Bool) → (moved (pair NoOffer false q c) m).closed ≡ true)
      → (t : Plain) → t.promises ≡ without_first (is_promise k) s.promises → t.peers ≡ change_at k.peer.0 (close k.number) s.peers → (a : HostId) (n : ℕ)
      → Target s t a n (if has_number_key a n k then m else Stays)
  gone_target k p found m is moves none closes_it t promises peers a n = by (has_number_key a n k) refl
    where
      left : find_promise a n t ≡ (if has_number_key a n k then None else find_promise a n s)
      left =
          ap (find (is_promise (peer_number a n))) promises
          ∙ (find-without peer_number_eq promise_key peer_number_exact same_peer_number (is_promise k) p (peer_number a n) s.promises found promise_keys
          ∙ ap (λ i. if has_number_key a n i then None else find_promise a n s) (sym (promise_key_is s k p found)))

      closed_there : (i : HostId) → closes n (find_peer i t) ≡ closes n (slice_get (change_at k.peer.0 (close k.number) s.peers) i.0)
      closed_there i = ap (λ ps. closes n (slice_get ps i.0)) peers

      -- another number
      open_there : (c : Bool) → same_host a k.peer ≡ c → (c && n == k.number) ≡ false → is_closed_for a n t ≡ is_closed_for a n s
      open_there true e other =
          let here : a ≡ k.peer = host_exact a k.peer e in
          let known = sender_known k p found in
          let at = peer_here k.peer.0 (close k.number) s.peers known.0 known.1 in
          ap (λ (i : HostId). is_closed_for i n t) here ∙ (closed_there k.peer ∙ (ap (closes n) at ∙ (closed-close n k.number known.0
          ∙ (ap (λ b. b || is_closed n known.0) other ∙ (ap (closes n) (sym known.1) ∙ ap (λ (i : HostId). is_closed_for i n s) (sym here))))))
      open_there false e other = closed_there a ∙ ap (closes n) (peer_other k.peer.0 a.0 (close k.number) s.peers
          (λ same. true≢false (sym (ap (λ i. i == k.peer.0) (sym same) ∙ host_same k.peer) ∙ e)))

      by : (c : Bool) → has_number_key a n k ≡ c → Target s t a n (if c then m else Stays)
      by true e =
          let parts = and_parts (a.0 == k.peer.0) (n == k.number) e in
          let here : a ≡ k.peer = host_exact a k.peer parts.0 in
          let known = sender_known k p found in
          let at = peer_here k.peer.0 (close k.number) s.peers known.0 known.1 in
          record {
            pledge = ap pledge_seen (left ∙ ap (λ c. if c then None else find_promise a n s) e) ∙ sym (none (pledged s a n) (is_closed_for a n s));
            closed = ap (λ (i : HostId). is_closed_for i n t) here ∙ (closed_there k.peer ∙ (ap (closes n) at ∙ (closed-close n k.number known.0
                ∙ (ap (λ b. b || is_closed n known.0) parts.1 ∙ sym (closes_it (pledged s a n) (is_closed_for a n s))))));
            is = is;
            stays = λ f. absurd (moves f);
          }
      by false e = record {
        pledge = ap pledge_seen (left ∙ ap (λ c. if c then None else find_promise a n s) e);
        closed = open_there (same_host a k.peer) refl e;
        is = tt;
        stays = λ f. left ∙ ap (λ c. if c then None else find_promise a n s) e;
      }

  accepted_target : (peer : HostId) (number : ℕ) → fits {F = List ℕ} (Accepted peer number) s ≡ true → (a : HostId) (n : ℕ)
      → Target s (applied (Accepted peer number) s) a n (if has_number_key a n (peer_number peer number) then Accepts else Stays)
  accepted_target peer number fit a n =
      let p = promise_at s peer number fit in
      let k : PeerNumber = peer_number peer number in
      let made : applied (Accepted peer number) s ≡ accepted k (Some p.0) s = ap (λ o. accepted k o s) p.1 in
      gone_target k p.0 p.1 Accepts tt (λ e. let no : ⊥ = cc in no) (λ q c. refl) (λ q c. refl) (applied (Accepted peer number) s)
      (ap (λ (u : Plain). u.promises) made ∙ promises k p.0 (has_row p.0.row.id s))
      (ap (λ (u : Plain). u.peers) made ∙ peers k p.0 (has_row p.0.row.id s)) a n
    where
      promises : (k : PeerNumber) (p : Pledging) (z : Bool) → (if z then drop_promise k s else
          record (drop_promise k s) { rows = s.rows ++ requeued_row p.row ∷ [] }).promises ≡ without_first (is_promise k) s.promises
      promises k p true = refl
      promises k p false = refl

      peers : (k : PeerNumber) (p : Pledging) (z : Bool) → change_at k.peer.0 (close k.number)
          (if z then drop_promise k s else record (drop_promise k s) { rows = s.rows ++ requeued_row p.row ∷ [] }).peers
          ≡ change_at k.peer.0 (close k.number) s.peers
      peers k p true = refl
      peers k p false = refl

  dropped_target : (peer : HostId) (number : ℕ) → fits {F = List ℕ} (Dropped peer number) s ≡ true → (a : HostId) (n : ℕ)
      → Target s (applied (Dropped peer number) s) a n (if has_number_key a n (peer_number peer number) then Drops else Stays)
  dropped_target peer number fit a n = let p = promise_at s peer number fit in
      gone_target (peer_number peer number) p.0 p.1 Drops tt (λ e. let no : ⊥ = cc in no) (λ q c. refl) (λ q c. refl)
      (applied (Dropped peer number) s) refl refl a n

  -- a promise whose low is at most its number
  promised_target : (peer : HostId) (number low : ℕ) (queue : List ℕ) (c : Carried) (script : List ℕ) → promise_fits peer number low queue c s ≡ true
      → low ≤ number → (a : HostId) (n : ℕ)
      → Target s (promised peer number low queue c script s) a n (promised_move peer number low (sent_load queue c script) a n)
  promised_target peer number low queue c script fit right a n = by (has_number_key a n (peer_number peer number)) refl (same_host a peer) refl
      (nat_lt n low) refl
    where
      may : (passes (is_open_number number) (find_peer peer s) ≡ true) × (not (has_promise peer number s) ≡ true)
      may =
          let k = each (has_queue queue s) (passes (is_open_number number) (find_peer peer s) ∷ not (has_promise peer number s) ∷ is_site_host c.id.host s
          ∷ is_unknown c.id s ∷ not (offer_full peer low s) ∷ not (arrivals_used s) ∷ []) fit in
          (k.1.0, k.1.1.0)

      known : KeptPeer s peer
      known = known_peer s peer (is_open_number number) may.0

      was_open : is_closed_for peer number s ≡ false
      was_open = of (find_peer peer s) may.0
        where
          of : (o : Option Peer) → passes (is_open_number number) o ≡ true → closes number o ≡ false
          of None k = refl
          of (Some p) k = not-true (is_closed number p) k

      new : Pledging
      new = record { peer = peer; number = number; row = new_row c queue (s.arrivals + 1) script }

      there : find_promise a n (promised peer number low queue c script s)
          ≡ option_or (only (λ p. not (is_outlived peer low p)) (find_promise a n s))
          (if has_number_key a n (peer_number peer number) then Some (record { peer = peer; number = number; row = new_row c queue (s.arrivals + 1) script })
          else None)
      there =
          find-added (is_promise (peer_number a n)) (promises_from peer low s.promises)
          (record { peer = peer; number = number; row = new_row c queue (s.arrivals + 1) script })
          ∙ ap (λ o. option_or o (if has_number_key a n (peer_number peer number) then
          Some (record { peer = peer; number = number; row = new_row c queue (s.arrivals + 1) script }) else None))
          (find-filtered peer_number_eq promise_key peer_number_exact same_peer_number (λ p. not (is_outlived peer low p))
          (peer_number a n) s.promises promise_keys)

      closed_there : (d : Bool) → same_host a peer ≡ d → is_closed_for a n (promised peer number low queue c script s)
          ≡ ((d && nat_lt n low) || is_closed_for a n s)
      closed_there true e =
          let here : a ≡ peer = host_exact a peer e in
          ap (λ (i : HostId). is_closed_for i n (promised peer number low queue c script s)) here
          ∙ (ap (closes n) (peer_here peer.0 (raise_floor (low - 1)) s.peers known.0 known.1) ∙ (closed_low n low known.0
          ∙ ap (λ o. nat_lt n low || o) (ap (closes n) (sym known.1) ∙ ap (λ (i : HostId). is_closed_for i n s) (sym here))))
      closed_there false e = ap (closes n) (peer_other peer.0 a.0 (raise_floor (low - 1)) s.peers
          (λ same. true≢false (sym (ap (λ i. i == peer.0) (sym same) ∙ host_same peer) ∙ e)))

      -- a promise that was there has this key
      outlived : (o : Option Pledging) → find_promise a n s ≡ o → (d : Bool) → same_host a peer ≡ d → (b : Bool) → nat_lt n low ≡ b
          → only (λ p. not (is_outlived peer low p)) o ≡ (if d && b then None else o)
      outlived None e true f true g = refl
      outlived None e true f false g = refl
      outlived None e false f b g = refl
      outlived (Some p) e d f b g = ap (λ z. if not z then Some p else None) goes ∙ which d b
        where
          key : peer_number a n ≡ promise_key p
          key = promise_key_is s (peer_number a n) p e

          turned_host : (c : Bool) → same_host a peer ≡ c → same_host peer a ≡ c
          turned_host true e = ap (same_host peer) (host_exact a peer e) ∙ host_same peer
          turned_host false e = host_turned a peer e

          goes : is_outlived peer low p ≡ (d && b)
          goes =
              sym (λ j. same_host peer (promise_peer s (peer_number a n) p e j) && nat_lt (promise_number s (peer_number a n) p e j) low)
              ∙ (λ j. turned_host d f j && g j)

          which : (d b : Bool) → (if not (d && b) then Some p else None) ≡ (if d && b then None else Some p)
          which true true = refl
          which true false = refl
          which false b = refl

      none : has_number_key a n (peer_number peer number) ≡ true → find_promise a n s ≡ None
      none e = ap (λ i. find (is_promise i) s.promises) (key_here a n (peer_number peer number) e)
          ∙ none_found (is_promise (peer_number peer number)) s.promises (not-true (has_promise peer number s) may.1)

      kept : has_number_key a n (peer_number peer number) ≡ false → (d : Bool) → same_host a peer ≡ d → (b : Bool) → nat_lt n low ≡ b
          → find_promise a n (promised peer number low queue c script s) ≡ (if d && b then None else find_promise a n s)
      kept e d f b g =
          there ∙ (ap (λ o. option_or o (if has_number_key a n (peer_number peer number) then Some new else None)) (outlived (find_promise a n s) refl d f b g)
          ∙ (ap (λ z. option_or (if d && b then None else find_promise a n s) (if z then Some new else None)) e
          ∙ alone (if d && b then None else find_promise a n s)))
        where
          alone : (o : Option Pledging) → option_or o None ≡ o
          alone None = refl
          alone (Some p) = refl

      not_low : has_number_key a n (peer_number peer number) ≡ true → (d : Bool) → ((d && nat_lt n low) || is_closed_for a n s) ≡ is_closed_for a n s
      not_low e d = ap (λ z. (d && z) || is_closed_for a n s) low_false ∙ neither d
        where
          low_false : nat_lt n low ≡ false
          low_false = false_from_ne_true (nat_lt n low) (λ k. let below = ltb-true n low k in
              let same = eqb-true n number (and_parts (a.0 == peer.0) (n == number) e).1 in absurd (omega (arith, below, same, right)))

          neither : (d : Bool) → ((d && false) || is_closed_for a n s) ≡ is_closed_for a n s
          neither true = refl
          neither false = refl

      by : (k : Bool) → has_number_key a n (peer_number peer number) ≡ k → (d : Bool) → same_host a peer ≡ d → (b : Bool) → nat_lt n low ≡ b
          → Target s (promised peer number low queue c script s) a n
          (if k then Pledges (sent_load queue c script) else (if d && b then Drops else Stays))
      by true e d f b g = record {
        pledge = ap pledge_seen (there ∙ (ap (λ o. option_or (only (λ p. not (is_outlived peer low p)) o)
            (if has_number_key a n (peer_number peer number) then Some new else None)) (none e) ∙ ap (λ z. if z then Some new else None) e));
        closed = closed_there d f ∙ not_low e d;
        is = tt;
        stays = λ k. (let no : ⊥ = cc in absurd no);
      }
      by false e true f true g = record {
        pledge = ap pledge_seen (kept e true f true g);
        closed = closed_there true f ∙ ap (λ z. z || is_closed_for a n s) g;
        is = tt;
        stays = λ k. (let no : ⊥ = cc in absurd no);
      }
      by false e true f false g = record {
        pledge = ap pledge_seen (kept e true f false g);
        closed = closed_there true f ∙ ap (λ z. z || is_closed_for a n s) g;
        is = tt;
        stays = λ k. kept e true f false g;
      }
      by false e false f b g = record {
        pledge = ap pledge_seen (kept e false f b g);
        closed = closed_there false f;
        is = tt;
        stays = λ k. kept e false f b g;
      }

  -- what each change makes of the receiver's part
  pub targets : (c : Change (List ℕ)) → fits c s ≡ true → IsLowRight c → ((until : ℕ) (ks : List PeerNumber) → c ≡ HandsSilent until ks → ⊥) → (a : HostId)
      (n : ℕ) → Target s (applied c s) a n (from_move c a n)
  targets (Site me site) fit right one a n = absurd (true≢false (sym fit))
  targets (Deleted id) fit right one a n = stays_target s (applied (Deleted id) s) a n refl refl
  targets (HandOpened peer number id queue since) fit right one a n = stays_target s (applied (HandOpened peer number id queue since) s) a n refl
      (peer_kept (closes n) peer.0 a.0 (λ p. record p { next = number + 1 }) s.peers (λ p. refl))
  targets (HandCommitted peer number) fit right one a n = of (find_hand peer number s)
    where
      of : (o : Option Hand) → Target s (hand_committed (peer_number peer number) o s) a n Stays
      of None = stays_target s s a n refl refl
      of (Some y) = stays_target s (hand_committed (peer_number peer number) (Some y) s) a n refl refl
  targets (HandRefused peer number refusal) fit right one a n = of (find_hand peer number s)
    where
      of : (o : Option Hand) → Target s (hand_refused (peer_number peer number) refusal o s) a n Stays
      of None = stays_target s s a n refl refl
      of (Some y) = stays_target s (hand_refused (peer_number peer number) refusal (Some y) s) a n refl refl
  targets (HandsSilent until ks) fit right one a n = absurd (one until ks refl)
  targets (HandDone peer number) fit right one a n = stays_target s (applied (HandDone peer number) s) a n refl refl
  targets (OldPromised peer number queue c script) fit right one a n = promised_target peer number number queue c script fit (omega arith) a n
  targets (Promised peer number low queue c script) fit right one a n = promised_target peer number low queue c script fit right a n
  targets (Accepted peer number) fit right one a n = accepted_target peer number fit a n
  targets (Dropped peer number) fit right one a n = dropped_target peer number fit a n
  targets (Submitted queue job script) fit right one a n = quiet_target s (Submitted queue job script) fit tt a n
  targets (Doomed id) fit right one a n = quiet_target s (Doomed id) fit tt a n
  targets (Started id device) fit right one a n = quiet_target s (Started id device) fit tt a n
  targets (Ended id parts) fit right one a n = quiet_target s (Ended id parts) fit tt a n
  targets (Unlaunched id) fit right one a n = quiet_target s (Unlaunched id) fit tt a n
  targets Boot fit right one a n = quiet_target s Boot fit tt a n
  targets (Edited e) fit right one a n = quiet_target s (Edited e) fit tt a n
  targets (MovedLocal id queue) fit right one a n = quiet_target s (MovedLocal id queue) fit tt a n
  targets (RefusedLocal id queue refusal) fit right one a n = quiet_target s (RefusedLocal id queue refusal) fit tt a n
  targets (HeldFar id) fit right one a n = quiet_target s (HeldFar id) fit tt a n
  targets (StageGot peer number path bytes) fit right one a n = quiet_target s (StageGot peer number path bytes) fit tt a n
  targets (StageGone peer number) fit right one a n = quiet_target s (StageGone peer number) fit tt a n
  targets (FileGone file) fit right one a n = quiet_target s (FileGone file) fit tt a n

pub silent_target : (s : Plain) (until : ℕ) (k : PeerNumber) (y : Hand) (a : HostId) (n : ℕ) → Target s (hand_silent until k (Some y) s) a n Stays
silent_target s until k y a n = stays_target s (hand_silent until k (Some y) s) a n refl
    (peer_kept (closes n) k.peer.0 a.0 (λ p. record p { wait = until }) s.peers (λ p. refl))
