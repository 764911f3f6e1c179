-- What a receiver keeps of handovers is near its floor, and that is below the low of their source.
use Rattle.std.proofs.Common.{◌≡◌, ℕ, ◌+◌, ◌-◌, ◌<◌, ◌≤◌, ◌⊎◌, inl, inr, Bool, true, false, cond, not, ◌&&◌, ◌||◌, ◌==◌, nat_lt, nat_le, max, List, [], ◌∷◌}
use Rattle.std.proofs.Common.{◌++◌}
use Rattle.std.proofs.Common.{map, filter, find, length, slice_get, Option, None, Some, true≢false, zero, suc, refl, sym, ap, subst, ◌∙◌, arith, if◌then◌else◌}
use Rattle.std.proofs.lemmas.Bool.{and_parts, and_from, or_parts, leb-true, le-leb, ltb-true, not-true, not_from_false}
use Rattle.std.proofs.lemmas.Option.{same_Some, none-some}
use Rattle.std.specs.List.{list_any, list_all}
use Rattle.std.specs.Option.{option_map}
use Rattle.nqs_types.specs.Ids.{peer_number_eq, hand_key}
use Rattle.nqs_state.specs.State.{Plain}
use Rattle.nqs_state.specs.Keys.{is_promise}
use Rattle.nqs_types.specs.declared.ids.HostId.{HostId}
use Rattle.nqs_types.specs.declared.ids.PeerNumber.{PeerNumber}
use Rattle.nqs_types.specs.declared.request.Carried.{Carried}
use Rattle.nqs_types.specs.declared.request.Hand.{Hand}
use Rattle.nqs_types.specs.declared.request.Peer.{Peer}
use Rattle.nqs_types.specs.declared.change.Change.{Change}
use Rattle.nqs_types.specs.declared.change.Change.TheVariants.{Site, Submitted, Deleted, Doomed, Started, Ended, Unlaunched, Boot, Edited, HandOpened}
use Rattle.nqs_types.specs.declared.change.Change.TheVariants.{HandCommitted, HandRefused, HandsSilent, HandDone, OldPromised, Promised, Accepted, Dropped}
use Rattle.nqs_types.specs.declared.change.Change.TheVariants.{MovedLocal}
use Rattle.nqs_types.specs.declared.change.Change.TheVariants.{RefusedLocal, HeldFar, StageGot, StageGone, FileGone}
use Rattle.nqs_types.specs.declared.message.Message.{Message}
use Rattle.nqs_types.specs.declared.message.Body.{Body}
use Rattle.nqs_types.specs.declared.message.Body.TheVariants as body
use Rattle.nqs_types.specs.declared.event.Command.{Command}
use Rattle.nqs_types.specs.declared.event.Command.TheVariants as command
use Rattle.nqs_types.specs.declared.event.Event.{Event}
use Rattle.nqs_types.specs.declared.event.Event.TheVariants as event
use Rattle.nqs_rules.specs.Tests.{passes, is_running, same_host}
use Rattle.nqs_rules.specs.Find.{peer_number, has_queue, has_row, find_hand, has_promise, find_peer, host_at}
use Rattle.nqs_rules.specs.Rows.{arrivals_used}
use Rattle.nqs_rules.specs.Edits.{change_at}
use Rattle.nqs_rules.specs.Routing.{is_hand_to, joined, close, raise_floor}
use Rattle.nqs_rules.specs.Handover.{was_given}
use Rattle.nqs_rules.specs.Applied.{applied, requeued_row, hand_committed, hand_refused, hand_silent, hands_silent, drop_promise, accepted}
use Rattle.nqs_rules.specs.Fits.{fits, promise_fits, is_open_number, is_site_host, is_unknown, offer_full}
use Rattle.nqs_rules.specs.Starts.{after_change}
use Rattle.nqs_rules.specs.Format.{formatted, new_peer}
use Rattle.nqs_rules.specs.InOrder.{IsInOrder, IsConsistent, are_distinct, same_number, ascends_from, is_peer_right, is_hand_right, is_hand_given}
use Rattle.nqs_rules.specs.InOrder.{has_few_hands}
use Rattle.nqs_rules.specs.World.{Act, new_world}
use Rattle.nqs_rules.specs.Run.{run}
use Rattle.nqs_rules.proofs.Chains.{each}
use Rattle.nqs_rules.proofs.KeyFacts.{all_get, any_found}
use Rattle.nqs_rules.proofs.ListFacts.{list_all-found, list_all-weaker, found_passes}
use Rattle.nqs_rules.proofs.PeersOrder.{get-other}
use Rattle.nqs_rules.proofs.RowsOrder.{hand_is}
use Rattle.nqs_rules.proofs.StartIs.{StartsRow, start_is}
use Rattle.nqs_rules.proofs.StateFacts.{keys_are}
use Rattle.nqs_rules.proofs.Sublists.{part_all, filter_part}
use Rattle.nqs_rules.proofs.Until.{steady}
use Rattle.nqs_rules.specs.Picked.{PlainRow}
use Rattle.nqs_laws.specs.History.{history}
use Rattle.nqs_laws.specs.Sane.{AreSane, IsSite}
use Rattle.nqs_laws.specs.Between.{HandsAreFew, TakenAreNear}
use Rattle.nqs_laws.specs.Loads.{Load, kept_load, sent_load}
use Rattle.nqs_laws.specs.Handovers.{IsStateOf, next_of, next_for, low_for, numbers_to}
use Rattle.nqs_laws.proofs.Frame.{Moment, moment, put_state, put-same, WasSent, Comes, Way, Taken, Begun, Booted, change_by}
use Rattle.nqs_laws.proofs.Sound.{IsSound, Keeps, Suits, get-here, some-if, run_sound, runs_keep}
use Rattle.nqs_laws.proofs.Makes.{Answers, Obeys, Follows, step_makes}
use Rattle.nqs_laws.proofs.Pair.{NoPledge, Pledged, Move, Stays, Offers, Withdraws, Commits, Finishes, Pledges, Accepts, Drops}
use Rattle.nqs_laws.proofs.Views.{Pledging, has_number_key, Target, host_exact, host_same, seen, by_seen, peer_kept, peer_other, peer_here}
use Rattle.nqs_laws.proofs.Turns.{IsQuiet, quiet_ties, from_move, key_here}
use Rattle.nqs_laws.proofs.Lows.{lows_grow}
use Rattle.nqs_laws.proofs.Targets.{KeptPeer, known_peer, sender_known, promise_at, IsLowRight, targets}
use Rattle.nqs_laws.proofs.Paired.{At, LowWord, IsPaired, IsOne, pledge_at}
use Rattle.nqs_laws.proofs.Spoken.{silents_promises}
use Rattle.nqs_laws.proofs.PairedRuns.{silent_or_one, low_right, paired_keeps}
use Rattle.nqs_laws.proofs.TabledRuns.{IsNet, peer_state, new_state, new_known, new_net, run_net}
use Rattle.nqs_laws.proofs.HandoverLaws.{in_step}
use Rattle.nqs_laws.proofs.ClosedNumbers.{IsOld, way_new}

-- the floor of a peer and the closed numbers above it

abbrev Shut : Type 0
Shut = Option (ℕ × List ℕ)

abbrev shut : Option Peer → Shut
shut o = option_map (λ (p : Peer). (p.floor, p.closed)) o

seen_shut : (o other : Option Peer) → seen o ≡ seen other → shut o ≡ shut other
seen_shut o other e = by_seen shut (λ p q next floor closed j. Some (floor j, closed j)) o other e

-- What a change makes of them: they stay, or a promise to this peer raises the floor, or the number
-- of a promise that ends joins them.
abbrev RaisedBy : Change (List ℕ) → HostId → ℕ → Type 0
RaisedBy c a low = IsOld c ⊎ ((number : ℕ) × (queue : List ℕ) × (k : Carried) × (script : List ℕ) × (c ≡ Promised a number low queue k script))

abbrev PeerAfter : Change (List ℕ) → Plain → HostId → Peer → Type 0
PeerAfter c s a q' = (q : Peer) × (find_peer a s ≡ Some q) × (((q'.floor ≡ q.floor) × (q'.closed ≡ q.closed))
    ⊎ (((low : ℕ) × RaisedBy c a low × (q'.floor ≡ max q.floor (low - 1)) × (q'.closed ≡ filter (nat_lt (max q.floor (low - 1))) q.closed))
    ⊎ ((number : ℕ) × (has_promise a number s ≡ true) × (q'.floor ≡ q.floor) × (q'.closed ≡ joined number q.closed))))

of_shut : (c : Change (List ℕ)) (s : Plain) (a : HostId) (o o' : Option Peer) (q' : Peer) → find_peer a s ≡ o → o' ≡ Some q' → shut o' ≡ shut o
    → PeerAfter c s a q'
of_shut c s a None None q' was is e = absurd (none-some q' is)
of_shut c s a None (Some p) q' was is e = absurd (none-some _ (sym e))
of_shut c s a (Some q) None q' was is e = absurd (none-some q' is)
of_shut c s a (Some q) (Some p) q' was is e =
    let k = same_Some (p.floor, p.closed) (q.floor, q.closed) e in
    let same = same_Some p q' is in (
      q,
      was,
      inl (
        ap (λ (x : Peer). x.floor) (sym same) ∙ ap (λ (x : ℕ × List ℕ). x.0) k,
        ap (λ (x : Peer). x.closed) (sym same) ∙ ap (λ (x : ℕ × List ℕ). x.1) k,
      ),
    )

-- a peer that is known, after a change of it or of another
changed_peer : (s : Plain) (a : HostId) (q' : Peer) (peer : HostId) (f : Peer → Peer) (known : KeptPeer s peer)
    → slice_get (change_at peer.0 f s.peers) a.0 ≡ Some q'
    → ((a ≡ peer) × (find_peer a s ≡ Some known.0) × (f known.0 ≡ q')) ⊎ (find_peer a s ≡ Some q')
changed_peer s a q' peer f known is = by (same_host a peer) refl
  where
    by : (d : Bool) → same_host a peer ≡ d → ((a ≡ peer) × (find_peer a s ≡ Some known.0) × (f known.0 ≡ q')) ⊎ (find_peer a s ≡ Some q')
    by true e =
        let here : a ≡ peer = host_exact a peer e in
        inl (
          here,
          ap (λ (i : HostId). find_peer i s) here ∙ known.1,
          same_Some (f known.0) q' (sym (peer_here peer.0 f s.peers known.0 known.1)
              ∙ (ap (λ (i : HostId). slice_get (change_at peer.0 f s.peers) i.0) (sym here) ∙ is)),
        )
    by false e = inr (sym (peer_other peer.0 a.0 f s.peers (λ same. true≢false (sym (ap (λ i. i == peer.0) (sym same) ∙ host_same peer) ∙ e))) ∙ is)

module _ (s : Plain) (h : IsInOrder s) (a : HostId) (q' : Peer) where
  raised_peer : (c : Change (List ℕ)) (peer : HostId) (low : ℕ) → (a ≡ peer → RaisedBy c a low) → KeptPeer s peer
      → slice_get (change_at peer.0 (raise_floor (low - 1)) s.peers) a.0 ≡ Some q' → PeerAfter c s a q'
  raised_peer c peer low why known is = by (changed_peer s a q' peer (raise_floor (low - 1)) known is)
    where
      by : ((a ≡ peer) × (find_peer a s ≡ Some known.0) × (raise_floor (low - 1) known.0 ≡ q')) ⊎ (find_peer a s ≡ Some q') → PeerAfter c s a q'
      by (inl (here, was, same)) = (
        known.0,
        was,
        inr (inl (low, why here, ap (λ (x : Peer). x.floor) (sym same), ap (λ (x : Peer). x.closed) (sym same))),
      )
      by (inr was) = (q', was, inl (refl, refl))

  joined_peer : (c : Change (List ℕ)) (peer : HostId) (number : ℕ) → KeptPeer s peer → has_promise peer number s ≡ true
      → slice_get (change_at peer.0 (close number) s.peers) a.0 ≡ Some q' → PeerAfter c s a q'
  joined_peer c peer number known there is = by (changed_peer s a q' peer (close number) known is)
    where
      by : ((a ≡ peer) × (find_peer a s ≡ Some known.0) × (close number known.0 ≡ q')) ⊎ (find_peer a s ≡ Some q') → PeerAfter c s a q'
      by (inl (here, was, same)) = (
        known.0,
        was,
        inr (inr (
          number,
          ap (λ (i : HostId). has_promise i number s) here ∙ there,
          ap (λ (x : Peer). x.floor) (sym same),
          ap (λ (x : Peer). x.closed) (sym same),
        )),
      )
      by (inr was) = (q', was, inl (refl, refl))

  quiet_peer : (c : Change (List ℕ)) → fits c s ≡ true → IsQuiet c → find_peer a (applied c s) ≡ Some q' → PeerAfter c s a q'
  quiet_peer c fit quiet is = of_shut c s a (find_peer a s) (find_peer a (applied c s)) q' refl is
      (seen_shut (find_peer a (applied c s)) (find_peer a s) ((quiet_ties c s fit quiet).1 a))

  silents_shut : (until : ℕ) (ks : List PeerNumber) (t : Plain) → shut (find_peer a (hands_silent until ks t)) ≡ shut (find_peer a t)
  silents_shut until [] t = refl
  silents_shut until (k ∷ ks) t = silents_shut until ks (hand_silent until k (find_hand k.peer k.number t) t) ∙ one (find_hand k.peer k.number t)
    where
      one : (o : Option Hand) → shut (find_peer a (hand_silent until k o t)) ≡ shut (find_peer a t)
      one None = refl
      one (Some y) = peer_kept shut k.peer.0 a.0 (λ p. record p { wait = until }) t.peers (λ p. refl)

  -- the sender of a promise that fits
  offer_known : (peer : HostId) (number low : ℕ) (queue : List ℕ) (k : Carried) → promise_fits peer number low queue k s ≡ true → KeptPeer s peer
  offer_known peer number low queue k fit = known_peer s peer (is_open_number number) (each (has_queue queue s)
      (passes (is_open_number number) (find_peer peer s) ∷ not (has_promise peer number s) ∷ is_site_host k.id.host s
      ∷ is_unknown k.id s ∷ not (offer_full peer low s) ∷ not (arrivals_used s) ∷ []) fit).1.0

  promised_known : (peer : HostId) (number : ℕ) → has_promise peer number s ≡ true → KeptPeer s peer
  promised_known peer number there = let p = promise_at s peer number there in sender_known s h (peer_number peer number) p.0 p.1

  peer_after : (c : Change (List ℕ)) → fits c s ≡ true → find_peer a (applied c s) ≡ Some q' → PeerAfter c s a q'
  peer_after (Site me site) fit is = absurd (true≢false (sym fit))
  peer_after (Deleted id) fit is = (q', is, inl (refl, refl))
  peer_after (HandOpened peer number id queue since) fit is =
      of_shut (HandOpened peer number id queue since) s a (find_peer a s) (find_peer a (applied (HandOpened peer number id queue since) s)) q'
      refl is (peer_kept shut peer.0 a.0 (λ p. record p { next = number + 1 }) s.peers (λ p. refl))
  peer_after (HandCommitted peer number) fit is = of (find_hand peer number s) is
    where
      of : (o : Option Hand) → find_peer a (hand_committed (peer_number peer number) o s) ≡ Some q' → PeerAfter (HandCommitted peer number) s a q'
      of None e = (q', e, inl (refl, refl))
      of (Some y) e = (q', e, inl (refl, refl))
  peer_after (HandRefused peer number refusal) fit is = of (find_hand peer number s) is
    where
      of : (o : Option Hand) → find_peer a (hand_refused (peer_number peer number) refusal o s) ≡ Some q' → PeerAfter (HandRefused peer number refusal) s a q'
      of None e = (q', e, inl (refl, refl))
      of (Some y) e = (q', e, inl (refl, refl))
  peer_after (HandsSilent until ks) fit is =
      of_shut (HandsSilent until ks) s a (find_peer a s) (find_peer a (hands_silent until ks s)) q' refl is (silents_shut until ks s)
  peer_after (HandDone peer number) fit is = (q', is, inl (refl, refl))
  peer_after (OldPromised peer number queue k script) fit is = raised_peer (OldPromised peer number queue k script) peer number (λ e. inl tt)
      (offer_known peer number number queue k fit) is
  peer_after (Promised peer number low queue k script) fit is = raised_peer (Promised peer number low queue k script) peer low
      (λ e. inr (number, queue, k, script, λ j. Promised (sym e j) number low queue k script)) (offer_known peer number low queue k fit) is
  peer_after (Accepted peer number) fit is =
      let p = promise_at s peer number fit in
      joined_peer (Accepted peer number) peer number (promised_known peer number fit) fit
      (sym (ap (λ ps. slice_get ps a.0) (peers p.0 (has_row p.0.row.id s))) ∙ (sym (ap (λ o. find_peer a (accepted (peer_number peer number) o s)) p.1) ∙ is))
    where
      peers : (p : Pledging) (z : Bool) → change_at peer.0 (close number)
          (if z then drop_promise (peer_number peer number) s else
          record (drop_promise (peer_number peer number) s) { rows = s.rows ++ requeued_row p.row ∷ [] }).peers
          ≡ change_at peer.0 (close number) s.peers
      peers p true = refl
      peers p false = refl
  peer_after (Dropped peer number) fit is = joined_peer (Dropped peer number) peer number (promised_known peer number fit) fit is
  peer_after (Submitted queue job script) fit is = quiet_peer (Submitted queue job script) fit tt is
  peer_after (Doomed id) fit is = quiet_peer (Doomed id) fit tt is
  peer_after (Started id device) fit is = quiet_peer (Started id device) fit tt is
  peer_after (Ended id parts) fit is = quiet_peer (Ended id parts) fit tt is
  peer_after (Unlaunched id) fit is = quiet_peer (Unlaunched id) fit tt is
  peer_after Boot fit is = quiet_peer Boot fit tt is
  peer_after (Edited e) fit is = quiet_peer (Edited e) fit tt is
  peer_after (MovedLocal id queue) fit is = quiet_peer (MovedLocal id queue) fit tt is
  peer_after (RefusedLocal id queue refusal) fit is = quiet_peer (RefusedLocal id queue refusal) fit tt is
  peer_after (HeldFar id) fit is = quiet_peer (HeldFar id) fit tt is
  peer_after (StageGot peer number path bytes) fit is = quiet_peer (StageGot peer number path bytes) fit tt is
  peer_after (StageGone peer number) fit is = quiet_peer (StageGone peer number) fit tt is
  peer_after (FileGone file) fit is = quiet_peer (FileGone file) fit tt is

  -- behind a promise the floor is its low but one, at least
  floor_low : (number low : ℕ) (queue : List ℕ) (k : Carried) (script : List ℕ) → fits (Promised a number low queue k script) s ≡ true
      → find_peer a (applied (Promised a number low queue k script) s) ≡ Some q' → low ≤ q'.floor + 1
  floor_low number low queue k script fit is =
      let known = offer_known a number low queue k fit in
      let same : raise_floor (low - 1) known.0 ≡ q' = same_Some (raise_floor (low - 1) known.0) q'
      (sym (peer_here a.0 (raise_floor (low - 1)) s.peers known.0 known.1) ∙ is) in
      let floor : q'.floor ≡ max known.0.floor (low - 1) = ap (λ (x : Peer). x.floor) (sym same) in
      omega (arith, floor)

-- which promises a change makes

abbrev IsPromisedNow : Change (List ℕ) → HostId → ℕ → Type 0
IsPromisedNow c a n = (low : ℕ) × (queue : List ℕ) × (k : Carried) × (script : List ℕ) × (c ≡ Promised a n low queue k script)

pledges_only : (c : Change (List ℕ)) → (IsOld c → ⊥) → (a : HostId) (n : ℕ) (load : Load) → from_move c a n ≡ Pledges load → IsPromisedNow c a n
pledges_only (OldPromised peer number queue k script) new a n load e = absurd (new tt)
pledges_only (Promised peer number low queue k script) new a n load e = by (has_number_key a n (peer_number peer number)) refl
    (same_host a peer && nat_lt n low) e
  where
    by : (d : Bool) → has_number_key a n (peer_number peer number) ≡ d → (f : Bool)
        → (if d then Pledges (sent_load queue k script) else (if f then Drops else Stays)) ≡ Pledges load
        → IsPromisedNow (Promised peer number low queue k script) a n
    by true g f e = let key = key_here a n (peer_number peer number) g in
        (low, queue, k, script, λ j. Promised (sym key j).peer (sym key j).number low queue k script)
    by false g true e = absurd (let no : ⊥ = cc in no)
    by false g false e = absurd (let no : ⊥ = cc in no)
pledges_only (Accepted peer number) new a n load e = by (has_number_key a n (peer_number peer number)) e
  where
    by : (d : Bool) → (if d then Accepts else Stays) ≡ Pledges load → IsPromisedNow (Accepted peer number) a n
    by true e = absurd (let no : ⊥ = cc in no)
    by false e = absurd (let no : ⊥ = cc in no)
pledges_only (Dropped peer number) new a n load e = by (has_number_key a n (peer_number peer number)) e
  where
    by : (d : Bool) → (if d then Drops else Stays) ≡ Pledges load → IsPromisedNow (Dropped peer number) a n
    by true e = absurd (let no : ⊥ = cc in no)
    by false e = absurd (let no : ⊥ = cc in no)
pledges_only c new a n load e = absurd (let no : ⊥ = cc in no)

-- by a move
of_move : (s s' : Plain) (a : HostId) (n : ℕ) (m : Move) → Target s s' a n m → has_promise a n s' ≡ true
    → (has_promise a n s ≡ true) ⊎ ((load : Load) × (m ≡ Pledges load))
of_move s s' a n Stays t k =
    let p = promise_at s' a n k in
    inl (any_found (is_promise (peer_number a n)) s.promises p.0 (sym (t.stays refl) ∙ p.1))
of_move s s' a n (Pledges load) t k = inr (load, refl)
of_move s s' a n Accepts t k = absurd (let p = pledge_at s' a n k in let e : Pledged (kept_load p.0.row) ≡ NoPledge = sym p.1 ∙ t.pledge in
    let no : ⊥ = cc in no)
of_move s s' a n Drops t k = absurd (let p = pledge_at s' a n k in let e : Pledged (kept_load p.0.row) ≡ NoPledge = sym p.1 ∙ t.pledge in let no : ⊥ = cc in no)
of_move s s' a n (Offers load) t k = absurd t.is
of_move s s' a n Withdraws t k = absurd t.is
of_move s s' a n Commits t k = absurd t.is
of_move s s' a n Finishes t k = absurd t.is

promise_after : (c : Change (List ℕ)) (s : Plain) → IsInOrder s → fits c s ≡ true → IsLowRight c → (IsOld c → ⊥) → (a : HostId) (n : ℕ)
    → has_promise a n (applied c s) ≡ true → (has_promise a n s ≡ true) ⊎ IsPromisedNow c a n
promise_after c s o fit right new a n k = of (silent_or_one c)
  where
    moved_so : (has_promise a n s ≡ true) ⊎ ((load : Load) × (from_move c a n ≡ Pledges load)) → (has_promise a n s ≡ true) ⊎ IsPromisedNow c a n
    moved_so (inl there) = inl there
    moved_so (inr (load, e)) = inr (pledges_only c new a n load e)

    of : IsOne c ⊎ ((until : ℕ) × (ks : List PeerNumber) × (c ≡ HandsSilent until ks)) → (has_promise a n s ≡ true) ⊎ IsPromisedNow c a n
    of (inl one) = moved_so (of_move s (applied c s) a n (from_move c a n) (targets s o c fit right one a n) k)
    of (inr (until, ks, e)) = inl (sym (ap (λ l. list_any (is_promise (peer_number a n)) l) (silents_promises until ks s))
        ∙ (sym (ap (λ d. has_promise a n (applied d s)) e) ∙ k))

-- what a receiver keeps is near its floor

abbrev IsNear : Plain → Type 0
IsNear t = (a : HostId) (q : Peer) → find_peer a t ≡ Some q → ((n : ℕ) → has_promise a n t ≡ true → n ≤ q.floor + 64)
    × (list_all (λ n. nat_le n (q.floor + 64)) q.closed ≡ true)

all_joined : (u number : ℕ) (ns : List ℕ) → number ≤ u → list_all (λ n. nat_le n u) ns ≡ true → list_all (λ n. nat_le n u) (joined number ns) ≡ true
all_joined u number [] few k = and_from (nat_le number u) true (le-leb number u few) refl
all_joined u number (n ∷ ns) few k = by (nat_lt number n) (and_parts (nat_le n u) (list_all (λ n. nat_le n u) ns) k) (all_joined u number ns few)
  where
    by : (b : Bool) → (nat_le n u ≡ true) × (list_all (λ n. nat_le n u) ns ≡ true)
        → (list_all (λ n. nat_le n u) ns ≡ true → list_all (λ n. nat_le n u) (joined number ns) ≡ true)
        → list_all (λ n. nat_le n u) (if b then number ∷ n ∷ ns else n ∷ joined number ns) ≡ true
    by true p rest = and_from (nat_le number u) (list_all (λ n. nat_le n u) (n ∷ ns)) (le-leb number u few) k
    by false p rest = and_from (nat_le n u) (list_all (λ n. nat_le n u) (joined number ns)) p.0 (rest p.1)

all_lower : (u v : ℕ) (ns : List ℕ) → u ≤ v → list_all (λ n. nat_le n u) ns ≡ true → list_all (λ n. nat_le n v) ns ≡ true
all_lower u v ns less k = list_all-weaker (λ n. nat_le n u) (λ n. nat_le n v) (λ n e. let few = leb-true n u e in le-leb n v (omega (arith, few, less))) ns k

near_kept : (c : Change (List ℕ)) (s : Plain) → IsInOrder s → fits c s ≡ true → IsLowRight c → (IsOld c → ⊥)
    → ((a : HostId) (n low : ℕ) (queue : List ℕ) (k : Carried) (script : List ℕ) → c ≡ Promised a n low queue k script → n ≤ low + 63)
    → IsNear s → IsNear (applied c s)
near_kept c s o fit right new bound near a q' is = (λ n k. promises n (promise_after c s o fit right new a n k), closed after.2)
  where
    after : PeerAfter c s a q'
    after = peer_after s o a q' c fit is

    was : ((n : ℕ) → has_promise a n s ≡ true → n ≤ after.0.floor + 64) × (list_all (λ n. nat_le n (after.0.floor + 64)) after.0.closed ≡ true)
    was = near a after.0 after.1

    grown : after.0.floor ≤ q'.floor
    grown = by after.2
      where
        by : ((q'.floor ≡ after.0.floor) × (q'.closed ≡ after.0.closed))
            ⊎ (((low : ℕ) × RaisedBy c a low × (q'.floor ≡ max after.0.floor (low - 1))
            × (q'.closed ≡ filter (nat_lt (max after.0.floor (low - 1))) after.0.closed))
            ⊎ ((number : ℕ) × (has_promise a number s ≡ true) × (q'.floor ≡ after.0.floor) × (q'.closed ≡ joined number after.0.closed)))
            → after.0.floor ≤ q'.floor
        by (inl e) = let f = e.0 in omega (arith, f)
        by (inr (inl e)) = let f = e.2 in omega (arith, f)
        by (inr (inr e)) = let f = e.2 in omega (arith, f)

    promises : (n : ℕ) → (has_promise a n s ≡ true) ⊎ IsPromisedNow c a n → n ≤ q'.floor + 64
    promises n (inl k) = let few = was.0 n k in let more = grown in omega (arith, few, more)
    promises n (inr (low, queue, k, script, e)) =
        let few = bound a n low queue k script e in
        let floor = floor_low s o a q' n low queue k script (subst (λ d. fits d s ≡ true) e fit) (subst (λ d. find_peer a (applied d s) ≡ Some q') e is) in
        omega (arith, few, floor)

    closed : ((q'.floor ≡ after.0.floor) × (q'.closed ≡ after.0.closed))
        ⊎ (((low : ℕ) × RaisedBy c a low × (q'.floor ≡ max after.0.floor (low - 1))
        × (q'.closed ≡ filter (nat_lt (max after.0.floor (low - 1))) after.0.closed))
        ⊎ ((number : ℕ) × (has_promise a number s ≡ true) × (q'.floor ≡ after.0.floor) × (q'.closed ≡ joined number after.0.closed)))
        → list_all (λ n. nat_le n (q'.floor + 64)) q'.closed ≡ true
    closed (inl e) = subst (λ l. list_all (λ n. nat_le n (q'.floor + 64)) l ≡ true) (sym e.1)
        (all_lower (after.0.floor + 64) (q'.floor + 64) after.0.closed (let more = grown in omega (arith, more)) was.1)
    closed (inr (inl e)) = subst (λ l. list_all (λ n. nat_le n (q'.floor + 64)) l ≡ true) (sym e.3)
        (part_all (λ n. nat_le n (q'.floor + 64)) (filter_part (nat_lt (max after.0.floor (e.0 - 1))) after.0.closed)
        (all_lower (after.0.floor + 64) (q'.floor + 64) after.0.closed (let more = grown in omega (arith, more)) was.1))
    closed (inr (inr e)) = subst (λ l. list_all (λ n. nat_le n (q'.floor + 64)) l ≡ true) (sym e.3)
        (all_joined (q'.floor + 64) e.0 after.0.closed (let few = was.0 e.0 e.1 in let more = grown in omega (arith, few, more))
        (all_lower (after.0.floor + 64) (q'.floor + 64) after.0.closed (let more = grown in omega (arith, more)) was.1))

-- what the way of a promise says of its low

module _ (states : List Plain) (packets : List Message) (k : IsPaired states packets) (h : HostId) (s : Plain) (o : IsInOrder s) where
  abbrev LowFact : Change (List ℕ) → Type 0
  LowFact (Promised peer number low queue load script) = (u : Plain) → At states peer u → (low ≤ number) × (number ≤ low + 63) × (low ≤ low_for h u)
  LowFact c = Unit {0}

  answers_low : (x : Message) → WasSent x packets → x.to ≡ h → (b : Body) → x.body ≡ b → (c : Change (List ℕ)) → Answers b x.from s c → LowFact c
  answers_low x sent to (body.Offer n low queue load script) e c f = subst LowFact (sym f.0)
      (λ u at. subst (λ i. LowWord (body.Offer n low queue load script) i u) to (subst (λ d. LowWord d x.to u) e (k.lows x sent u at)))
  answers_low x sent to (body.Ready n) e c f = subst LowFact (sym f.0) tt
  answers_low x sent to (body.Refused n refusal) e c f = subst LowFact (sym f.0) tt
  answers_low x sent to (body.Commit n) e c f = subst LowFact (sym f.0) tt
  answers_low x sent to (body.Done n) e c f = subst LowFact (sym f.0) tt
  answers_low x sent to (body.Inquire n) e c f = subst LowFact (sym f.0) tt
  answers_low x sent to (body.Abort n) e c f = subst LowFact (sym f.0) tt
  answers_low x sent to (body.Stage n path bytes) e c f = subst LowFact (sym f.1) tt
  answers_low x sent to (body.Staged n) e c f = subst LowFact (sym f) tt
  answers_low x sent to b e c f = absurd f

  obeys_low : (now : ℕ) (d : Command) (c : Change (List ℕ)) → Obeys now d s c → LowFact c
  obeys_low now (command.Submit sub) c f = subst LowFact (sym f.1) tt
  obeys_low now (command.Edit e) c f = subst LowFact (sym f) tt
  obeys_low now (command.Delete id forced) c f = subst LowFact (sym f.is) (by (is_running f.row.state))
    where
      by : (b : Bool) → LowFact (if b then Doomed f.row.id else Deleted f.row.id)
      by true = tt
      by false = tt
  obeys_low now command.Tick c f = subst LowFact (sym f.1) tt
  obeys_low now d c f = absurd f

  follows_low : (e : Event) → Comes packets h e → (c : Change (List ℕ)) → Follows e s c → LowFact c
  follows_low (event.Ask now port token user d) comes c f = obeys_low now d c f
  follows_low (event.Arrived now x) comes c f = answers_low x comes.1 comes.0 x.body refl c f
  follows_low (event.Ended now port id start status output error) comes c f = subst LowFact (sym f.4) tt
  follows_low (event.Unlaunched now id start) comes c f = subst LowFact (sym f.3) tt
  follows_low (event.Written now file) comes c f = subst LowFact (sym f) tt
  follows_low (event.Unwritten now file) comes c f = absurd f
  follows_low (event.Tick now) comes c f = subst LowFact (sym f.1) tt

  starts_low : (r : PlainRow) (c : Change (List ℕ)) → StartsRow s r c → LowFact c
  starts_low r (Promised peer number low queue load script) starts = absurd starts
  starts_low r c starts = tt

  way_low : (way : Way packets h s) (c : Change (List ℕ)) → change_by way ≡ Some c → LowFact c
  way_low (Taken e comes) c is = follows_low e comes c (some-if (Follows e s) _ c (step_makes s e) is)
  way_low (Begun now x begins) c is =
      let started = start_is now s x (steady s o) begins in
      let same : started.change ≡ c = same_Some started.change c (sym started.makes ∙ is) in
      starts_low started.row c (subst (StartsRow s started.row) same started.starts)
  way_low Booted c is = subst LowFact (same_Some Boot c is) tt

-- at every moment of a run

abbrev AreBelow : List Plain → Type 0
AreBelow states = (a b : HostId) (s t : Plain) → At states a s → At states b t → (q : Peer) → find_peer a t ≡ Some q → q.floor < low_for b s

pub record AreNear (m : Moment) : Type 0 where
  pub paired : IsPaired m.states m.packets
  pub near : (h : HostId) (s : Plain) → At m.states h s → IsNear s
  pub below : AreBelow m.states

-- the state of a host before one has changed
host_before : (states : List Plain) (h : HostId) (s s' : Plain) → At states h s → (a : HostId) (u' : Plain) → At (put_state h s' states) a u'
    → ((a ≡ h) × (u' ≡ s')) ⊎ At states a u'
host_before states h s s' there a u' at = by (same_host a h) refl
  where
    by : (c : Bool) → same_host a h ≡ c → ((a ≡ h) × (u' ≡ s')) ⊎ At states a u'
    by true e =
        let here : a ≡ h = host_exact a h e in
        inl (here, sym (same_Some s' u' (sym (get-here h.0 s' s states there) ∙ (ap (λ (i : HostId). slice_get (put_state h s' states) i.0) (sym here) ∙ at))))
    by false e = inr (sym (get-other h.0 a.0 (λ _. s') states (λ same. true≢false (sym (ap (λ n. n == h.0) (sym same) ∙ host_same h) ∙ e))) ∙ at)

module _ (site : List (List ℕ)) (m : Moment) (sound : IsSound site m) (k : AreNear m) (h : HostId) (s : Plain) (there : At m.states h s)
    (way : Way m.packets h s) (c : Change (List ℕ)) (is : change_by way ≡ Some c) (suits : Suits s c) where
  order : IsInOrder s
  order = (sound.hosts h.0 s there).order

  calm : IsConsistent s
  calm = (sound.hosts h.0 s there).calm

  not_old : IsOld c → ⊥
  not_old old = way_new m.packets h s order way c is old

  low_fact : (a : HostId) (n low : ℕ) (queue : List ℕ) (load : Carried) (script : List ℕ) → c ≡ Promised a n low queue load script → (u : Plain)
      → At m.states a u → (low ≤ n) × (n ≤ low + 63) × (low ≤ low_for h u)
  low_fact a n low queue load script e u at =
      subst (LowFact m.states m.packets k.paired h s order) e (way_low m.states m.packets k.paired h s order way c is) u at

  bound : (a : HostId) (n low : ℕ) (queue : List ℕ) (load : Carried) (script : List ℕ) → c ≡ Promised a n low queue load script → n ≤ low + 63
  bound a n low queue load script e =
      let known = offer_known s order a new_peer a n low queue load (subst (λ d. fits d s ≡ true) e suits.fit) in
      let u = peer_state site m sound k.paired h s there a known in
      (low_fact a n low queue load script e u.0 u.1).1

  near_then : IsNear (applied c s)
  near_then = near_kept c s order suits.fit (low_right c suits.sane) not_old bound (k.near h s there)

  -- a source's low, by its state before
  low_before : (a b : HostId) (u' : Plain) → At (put_state h (applied c s) m.states) a u' → (u : Plain) × At m.states a u × (low_for b u ≤ low_for b u')
  low_before a b u' at = by (host_before m.states h s (applied c s) there a u' at)
    where
      by : ((a ≡ h) × (u' ≡ applied c s)) ⊎ At m.states a u' → (u : Plain) × At m.states a u × (low_for b u ≤ low_for b u')
      by (inl (here, same)) = (
        s,
        ap (λ (i : HostId). slice_get m.states i.0) here ∙ there,
        subst (λ (v : Plain). low_for b s ≤ low_for b v) (sym same) (lows_grow s order calm c suits.fit b),
      )
      by (inr was) = (u', was, omega arith)

  below_then : AreBelow (put_state h (applied c s) m.states)
  below_then a b u' v' uat vat q' e =
      let u = low_before a b u' uat in
      let grown = u.2 in
      let was : q'.floor < low_for b u.0 = by u.0 u.1 (host_before m.states h s (applied c s) there b v' vat) in
      omega (arith, grown, was)
    where
      by : (u : Plain) → At m.states a u → ((b ≡ h) × (v' ≡ applied c s)) ⊎ At m.states b v' → q'.floor < low_for b u
      by u at (inr bat) = k.below a b u v' at bat q' e
      by u at (inl (here, same)) = subst (λ i. q'.floor < low_for i u) (sym here)
          (made (peer_after s order a q' c suits.fit (subst (λ (v : Plain). find_peer a v ≡ Some q') same e)))
        where
          made : PeerAfter c s a q' → q'.floor < low_for h u
          made (q, found, inl f) = let was = k.below a h u s at there q found in let floor = f.0 in omega (arith, was, floor)
          made (q, found, inr (inr f)) = let was = k.below a h u s at there q found in let floor = f.2 in omega (arith, was, floor)
          made (q, found, inr (inl (low, why, floor, closed))) = by_low why
            where
              by_low : RaisedBy c a low → q'.floor < low_for h u
              by_low (inl old) = absurd (not_old old)
              by_low (inr (number, queue, load, script, f)) =
                  let was = k.below a h u s at there q found in
                  let few = (low_fact a number low queue load script f u at).2 in
                  omega (arith, was, few, floor)

  near_states : (g : HostId) (v' : Plain) → At (put_state h (applied c s) m.states) g v' → IsNear v'
  near_states g v' at = by (host_before m.states h s (applied c s) there g v' at)
    where
      by : ((g ≡ h) × (v' ≡ applied c s)) ⊎ At m.states g v' → IsNear v'
      by (inl (here, same)) = subst IsNear (sym same) near_then
      by (inr was) = k.near g v' was

pub near_keeps : (site : List (List ℕ)) → Keeps site AreNear
near_keeps site = record {
  idle = λ m x sound idle k. record { paired = k.paired; near = k.near; below = k.below };
  kept = λ m sound h s there way c is suits k. record {
    paired = (paired_keeps site).kept m sound h s there way c is suits k.paired;
    near = near_states site m sound k h s there way c is suits;
    below = below_then site m sound k h s there way c is suits;
  };
  made = λ m sound h s there way suits k. record {
    paired = (paired_keeps site).made m sound h s there way suits k.paired;
    near = near_made m sound h s there way (change_by way) refl suits k;
    below = below_made m sound h s there way (change_by way) refl suits k;
  };
}
  where
    near_made : (m : Moment) → IsSound site m → (h : HostId) (s : Plain) → At m.states h s → (way : Way m.packets h s) (o : Option (Change (List ℕ)))
        → change_by way ≡ o → ((c : Change (List ℕ)) → change_by way ≡ Some c → Suits s c) → AreNear m → (g : HostId) (v : Plain)
        → At (put_state h (after_change o s) m.states) g v → IsNear v
    near_made m sound h s there way None is suits k = subst (λ l. (g : HostId) (v : Plain) → At l g v → IsNear v) (sym (put-same h.0 s m.states there)) k.near
    near_made m sound h s there way (Some c) is suits k = near_states site m sound k h s there way c is (suits c is)

    below_made : (m : Moment) → IsSound site m → (h : HostId) (s : Plain) → At m.states h s → (way : Way m.packets h s) (o : Option (Change (List ℕ)))
        → change_by way ≡ o → ((c : Change (List ℕ)) → change_by way ≡ Some c → Suits s c) → AreNear m → AreBelow (put_state h (after_change o s) m.states)
    below_made m sound h s there way None is suits k = subst AreBelow (sym (put-same h.0 s m.states there)) k.below
    below_made m sound h s there way (Some c) is suits k = below_then site m sound k h s there way c is (suits c is)

-- a new network

new_peer_is : (site : List (List ℕ)) (n : ℕ) (q : Peer) → slice_get (map (λ _. new_peer) site) n ≡ Some q → new_peer ≡ q
new_peer_is [] n q e = absurd (none-some q e)
new_peer_is (name ∷ site) zero q e = same_Some new_peer q e
new_peer_is (name ∷ site) (suc n) q e = new_peer_is site n q e

new_near : (site : List (List ℕ)) → AreNear (moment (new_world site) [])
new_near site = record {
  paired = (new_net site).paired;
  near = λ h s at. (let k = new_state site 0 site h.0 s at in subst IsNear (sym k.1) (near_new k.0));
  below = λ a b s t sat tat q e. (let k = new_state site 0 site a.0 s sat in let l = new_state site 0 site b.0 t tat in
      subst (λ (u : Plain). q.floor < low_for b u) (sym k.1) (below_new b k.0 l.0 a q (subst (λ (v : Plain). find_peer a v ≡ Some q) l.1 e)
      (new_known site 0 site b.0 t tat)));
}
  where
    near_new : (i : ℕ) → IsNear (formatted (host_at i) site)
    near_new i a q e = let same = new_peer_is site a.0 q e in
        (λ n k. absurd (true≢false (sym k)), subst (λ (p : Peer). list_all (λ n. nat_le n (p.floor + 64)) p.closed ≡ true) same refl)

    below_new : (b : HostId) (i j : ℕ) (a : HostId) (q : Peer) → find_peer a (formatted {E = List ℕ} (host_at j) site) ≡ Some q
        → slice_get (map (λ _. new_peer) site) b.0 ≡ Some new_peer → q.floor < low_for b (formatted (host_at i) site)
    below_new b i j a q e known =
        let same : new_peer ≡ q = new_peer_is site a.0 q e in
        let floor : q.floor ≡ 0 = ap (λ (p : Peer). p.floor) (sym same) in
        let next : next_for b (formatted {E = List ℕ} (host_at i) site) ≡ 1 = ap next_of known in
        omega (arith, floor, next)

-- a source's handovers

none_to : (b : HostId) (y : Hand) (ys : List Hand) → is_hand_to b y ≡ true → list_any (peer_number_eq (hand_key y)) (map hand_key ys) ≡ false
    → list_any (same_number y.number) (numbers_to b ys) ≡ false
none_to b y [] to none = refl
none_to b y (z ∷ ys) to none =
    let p = or_parts (peer_number_eq (hand_key y) (hand_key z)) (list_any (peer_number_eq (hand_key y)) (map hand_key ys)) none in
    by (is_hand_to b z) refl p.0 (none_to b y ys to p.1)
  where
    by : (c : Bool) → is_hand_to b z ≡ c → (y.peer.0 == z.peer.0 && y.number == z.number) ≡ false → list_any (same_number y.number) (numbers_to b ys) ≡ false
        → list_any (same_number y.number) (map (λ (w : Hand). w.number) (cond c (z ∷ filter (is_hand_to b) ys) (filter (is_hand_to b) ys))) ≡ false
    by true e far rest =
        let same : y.peer ≡ z.peer = sym (host_exact b y.peer to) ∙ host_exact b z.peer e in
        let here : (y.peer.0 == z.peer.0) ≡ true = ap (same_host y.peer) (sym same) ∙ host_same y.peer in
        or_false (y.number == z.number) (list_any (same_number y.number) (numbers_to b ys)) (both (y.peer.0 == z.peer.0) (y.number == z.number) here far) rest
      where
        both : (c d : Bool) → c ≡ true → (c && d) ≡ false → d ≡ false
        both true d k f = f
        both false d k f = absurd (true≢false (sym k))

        or_false : (c d : Bool) → c ≡ false → d ≡ false → (c || d) ≡ false
        or_false c d e f = (λ j. e j || f j)
    by false e far rest = rest

distinct_to : (b : HostId) (ys : List Hand) → are_distinct peer_number_eq (map hand_key ys) ≡ true → are_distinct same_number (numbers_to b ys) ≡ true
distinct_to b [] d = refl
distinct_to b (y ∷ ys) d =
    let p = and_parts (not (list_any (peer_number_eq (hand_key y)) (map hand_key ys))) (are_distinct peer_number_eq (map hand_key ys)) d in
    by (is_hand_to b y) refl p.0 (distinct_to b ys p.1)
  where
    by : (c : Bool) → is_hand_to b y ≡ c → not (list_any (peer_number_eq (hand_key y)) (map hand_key ys)) ≡ true
        → are_distinct same_number (numbers_to b ys) ≡ true
        → are_distinct same_number (map (λ (w : Hand). w.number) (cond c (y ∷ filter (is_hand_to b) ys) (filter (is_hand_to b) ys))) ≡ true
    by true e far rest = and_from (not (list_any (same_number y.number) (numbers_to b ys))) (are_distinct same_number (numbers_to b ys))
        (not_from_false (list_any (same_number y.number) (numbers_to b ys))
        (none_to b y ys e (not-true (list_any (peer_number_eq (hand_key y)) (map hand_key ys)) far))) rest
    by false e far rest = rest

given_to : (b : HostId) (s : Plain) (ys : List Hand) → list_all (is_hand_right s) ys ≡ true
    → list_all (λ n. was_given n (find_peer b s)) (numbers_to b ys) ≡ true
given_to b s [] k = refl
given_to b s (y ∷ ys) k = let p = and_parts (is_hand_right s y) (list_all (is_hand_right s) ys) k in
    by (is_hand_to b y) refl (hand_is s y p.0).given (given_to b s ys p.1)
  where
    given : (o : Option Peer) → passes (is_hand_given y.number) o ≡ true → was_given y.number o ≡ true
    given None k = absurd (true≢false (sym k))
    given (Some p) k = (and_parts (nat_le 1 y.number) (nat_lt y.number p.next) k).1

    by : (c : Bool) → is_hand_to b y ≡ c → passes (is_hand_given y.number) (find_peer y.peer s) ≡ true
        → list_all (λ n. was_given n (find_peer b s)) (numbers_to b ys) ≡ true
        → list_all (λ n. was_given n (find_peer b s)) (map (λ (w : Hand). w.number) (cond c (y ∷ filter (is_hand_to b) ys) (filter (is_hand_to b) ys))) ≡ true
    by true e right rest = and_from (was_given y.number (find_peer b s)) (list_all (λ n. was_given n (find_peer b s)) (numbers_to b ys))
        (given (find_peer b s) (ap (λ (i : HostId). passes (is_hand_given y.number) (find_peer i s)) (host_exact b y.peer e) ∙ right)) rest
    by false e right rest = rest

few_to : (b : HostId) (s : Plain) → IsInOrder s → length (filter (is_hand_to b) s.hands) ≤ 8
few_to b s o = of (find (is_hand_to b) s.hands) refl
  where
    empty : (ys : List Hand) → find (is_hand_to b) ys ≡ None → length (filter (is_hand_to b) ys) ≡ 0
    empty [] e = refl
    empty (y ∷ ys) e = by (is_hand_to b y) e (empty ys)
      where
        by : (c : Bool) → cond c (Some y) (find (is_hand_to b) ys) ≡ None → (find (is_hand_to b) ys ≡ None → length (filter (is_hand_to b) ys) ≡ 0)
            → length (cond c (y ∷ filter (is_hand_to b) ys) (filter (is_hand_to b) ys)) ≡ 0
        by true e rest = absurd (none-some y (sym e))
        by false e rest = rest e

    of : (x : Option Hand) → find (is_hand_to b) s.hands ≡ x → length (filter (is_hand_to b) s.hands) ≤ 8
    of None e = let none = empty s.hands e in omega (arith, none)
    of (Some y) e =
        let right = list_all-found (has_few_hands s) (is_hand_to b) s.hands y o.few e in
        let here : b ≡ y.peer = host_exact b y.peer (found_passes (is_hand_to b) s.hands y e) in
        leb-true (length (filter (is_hand_to b) s.hands)) 8 (ap (λ (i : HostId). nat_le (length (filter (is_hand_to i) s.hands)) 8) here ∙ right)

-- numbers that ascend from a floor to a bound are few
few_ascend : (floor bound : ℕ) (ns : List ℕ) → floor ≤ bound → ascends_from floor ns ≡ true → list_all (λ n. nat_le n bound) ns ≡ true
    → floor + length ns ≤ bound
few_ascend floor bound [] few a k = omega (arith, few)
few_ascend floor bound (n ∷ ns) few a k =
    let p = and_parts (nat_lt floor n) (ascends_from n ns) a in
    let q = and_parts (nat_le n bound) (list_all (λ n. nat_le n bound) ns) k in
    let above = ltb-true floor n p.0 in
    let rest = few_ascend n bound ns (leb-true n bound q.0) p.1 q.1 in
    omega (arith, above, rest)

-- in every world that a run reaches
module _ (site : List (List ℕ)) (few : IsSite site) (acts : List Act) (sane : AreSane acts) where
  abbrev end : Moment
  end = moment (run acts (new_world site)).world (history acts (new_world site))

  end_sound : IsSound site end
  end_sound = run_sound site few.1 acts sane

  end_net : IsNet end
  end_net = run_net site few acts sane

  end_near : AreNear end
  end_near = runs_keep site AreNear (near_keeps site) few.1 (new_near site) acts sane

  pub all_few : (a b : HostId) (s t : Plain) → IsStateOf (run acts (new_world site)).world a s → IsStateOf (run acts (new_world site)).world b t
      → HandsAreFew a b s t
  all_few a b s t sat tat =
      let o = (end_sound.hosts a.0 s sat).order in
      record {
        few = few_to b s o;
        distinct = distinct_to b s.hands (keys_are s o.keys).hands;
        given = given_to b s s.hands o.hands;
        window = end_net.paired.wide a s sat b;
      }

  pub all_near : (a b : HostId) (s t : Plain) → IsStateOf (run acts (new_world site)).world a s → IsStateOf (run acts (new_world site)).world b t
      → TakenAreNear a b s t
  all_near a b s t sat tat =
      let o = (end_sound.hosts b.0 t tat).order in
      let step = in_step site end end_sound end_net a b s t sat tat in
      record {
        below = end_near.below a b s t sat tat;
        ascending = λ q e. ascend o q e;
        given = step.numbered;
        open_promises = step.promised;
        near_promises = λ q e. (end_near.near b t tat a q e).0;
        near_closed = λ q e. (end_near.near b t tat a q e).1;
        few = λ q e. (let k = few_ascend q.floor (q.floor + 64) q.closed (omega arith) (ascend o q e) (end_near.near b t tat a q e).1 in omega (arith, k));
      }
    where
      ascend : IsInOrder t → (q : Peer) → find_peer a t ≡ Some q → ascends_from q.floor q.closed ≡ true
      ascend o q e = (each (nat_le 1 q.next) (nat_le 1 q.stage_next ∷ ascends_from q.floor q.closed ∷ []) (all_get is_peer_right t.peers a.0 q o.peers e)).1.1.0
