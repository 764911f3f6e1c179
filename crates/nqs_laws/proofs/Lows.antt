-- A host's low for another: no handover to it has a smaller number. It never falls, and the next
-- number is at most 64 above it.
use Rattle.std.proofs.Common.{◌≡◌, ℕ, ◌+◌, ◌-◌, ◌<◌, ◌≤◌, ◌⊎◌, inl, inr, Bool, true, false, not, ◌||◌, ◌==◌, nat_le, List, [], ◌∷◌, ◌++◌, Option, None, Some}
use Rattle.std.proofs.Common.{true≢false}
use Rattle.std.proofs.Common.{refl, sym, ap, subst, ◌∙◌, arith, if◌then◌else◌}
use Rattle.std.proofs.lemmas.Bool.{leb-true, le-leb}
use Rattle.nqs_state.specs.State.{Plain}
use Rattle.nqs_base_tables.specs.Table.{without_first}
use Rattle.nqs_state.specs.Keys.{is_hand}
use Rattle.nqs_types.specs.declared.ids.HostId.{HostId}
use Rattle.nqs_types.specs.declared.ids.PeerNumber.{PeerNumber}
use Rattle.nqs_types.specs.declared.request.Hand.{Hand}
use Rattle.nqs_types.specs.declared.change.Change.{Change}
use Rattle.nqs_types.specs.declared.change.Change.TheVariants.{Site, Submitted, Deleted, Doomed, Started, Ended, Unlaunched, Boot, Edited, HandOpened}
use Rattle.nqs_types.specs.declared.change.Change.TheVariants.{HandCommitted, HandRefused, HandsSilent, HandDone, OldPromised, Promised, Accepted, Dropped}
use Rattle.nqs_types.specs.declared.change.Change.TheVariants.{MovedLocal}
use Rattle.nqs_types.specs.declared.change.Change.TheVariants.{RefusedLocal, HeldFar, StageGot, StageGone, FileGone}
use Rattle.nqs_rules.specs.Tests.{same_host}
use Rattle.nqs_rules.specs.Find.{peer_number, has_row, find_hand, find_promise, find_peer}
use Rattle.nqs_rules.specs.Edits.{change_peer}
use Rattle.nqs_rules.specs.Routing.{is_hand_to, low, close, raise_floor}
use Rattle.nqs_rules.specs.Applied.{applied, requeued_row, hand_committed, hand_refused, hand_silent, hands_silent, drop_promise, accepted}
use Rattle.nqs_rules.specs.Fits.{fits}
use Rattle.nqs_rules.specs.InOrder.{IsInOrder, IsConsistent}
use Rattle.nqs_rules.proofs.ListFacts.{list_all-found}
use Rattle.nqs_rules.proofs.Sublists.{part_all, without_part}
use Rattle.nqs_laws.specs.Handovers.{next_of, next_for, low_for}
use Rattle.nqs_laws.proofs.LowFacts.{is_above, low_above, low_next, low_each}
use Rattle.nqs_laws.proofs.Views.{Pledging, host_exact, host_same, hand_peer, hand_number, seen_next, peer_kept, peer_other, peer_here}
use Rattle.nqs_laws.proofs.Turns.{IsQuiet, quiet_ties, opening_peer, opening_window}
use Rattle.nqs_laws.proofs.Hands.{Opens, hands_kept}

-- the next number is at most 64 above the low
abbrev pub IsWide : Plain → Type 0
IsWide s = (b : HostId) → next_for b s ≤ low_for b s + 64

-- no low falls
abbrev pub LowsGrow : Plain → Plain → Type 0
LowsGrow s s' = (b : HostId) → low_for b s ≤ low_for b s'

module _ (s : Plain) (b : HostId) where
  -- the low is at most the number of each hand
  pub low_below : (number : ℕ) (y : Hand) → find_hand b number s ≡ Some y → low_for b s ≤ number
  low_below number y found =
      let k = list_all-found (is_above b (low_for b s)) (is_hand (peer_number b number)) s.hands y
      (low_each b (low_for b s) (next_for b s) s.hands (omega arith)) found in
      let same = hand_number s (peer_number b number) y found in
      let here : is_hand_to b y ≡ true = ap (same_host b) (sym (hand_peer s (peer_number b number) y found)) ∙ host_same b in
      let few = leb-true (low_for b s) y.number (of (is_hand_to b y) here k) in
      omega (arith, same, few)
    where
      of : (c : Bool) → c ≡ true → (not c || nat_le (low_for b s) y.number) ≡ true → nat_le (low_for b s) y.number ≡ true
      of true e k = k
      of false e k = absurd (true≢false (sym e))

-- what a change makes of a next number
abbrev pub NextAfter : Plain → Plain → HostId → Type 0
NextAfter s s' b = (next_for b s' ≡ next_for b s) ⊎ ((next_for b s' ≡ next_for b s + 1) × (next_for b s < low_for b s + 64))

module _ (s : Plain) (h : IsInOrder s) (calm : IsConsistent s) where
  quiet_next : (c : Change (List ℕ)) → fits c s ≡ true → IsQuiet c → (b : HostId) → NextAfter s (applied c s) b
  quiet_next c fit quiet b = inl (seen_next (find_peer b (applied c s)) (find_peer b s) ((quiet_ties c s fit quiet).1 b))

  opened_next : (peer : HostId) (number : ℕ) (id : _) (queue : List ℕ) (since : ℕ) → fits {F = List ℕ} (HandOpened peer number id queue since) s ≡ true
      → (b : HostId) → NextAfter s (applied (HandOpened peer number id queue since) s) b
  opened_next peer number id queue since fit b = by (same_host b peer) refl
    where
      by : (c : Bool) → same_host b peer ≡ c → NextAfter s (applied (HandOpened peer number id queue since) s) b
      by true e =
          let here : peer ≡ b = sym (host_exact b peer e) in
          let p = opening_peer s h calm peer number id queue since fit in
          let at = peer_here peer.0 (λ p. record p { next = number + 1 }) s.peers p.0 p.1 in
          let was : next_for peer s ≡ number = ap next_of p.1 ∙ p.2 in
          let is : next_for peer (applied (HandOpened peer number id queue since) s) ≡ number + 1 = ap next_of at in
          let window : next_for peer s < low_for peer s + 64 = subst (λ n. n < low peer n s.hands + 64) (sym was)
          (opening_window s h calm peer number id queue since fit) in
          subst (NextAfter s (applied (HandOpened peer number id queue since) s)) here (inr (is ∙ ap (λ n. n + 1) (sym was), window))
      by false e = inl (ap next_of (peer_other peer.0 b.0 (λ p. record p { next = number + 1 }) s.peers
          (λ same. true≢false (sym (ap (λ i. i == peer.0) (sym same) ∙ host_same peer) ∙ e))))

  pub silents_next : (until : ℕ) (ks : List PeerNumber) (t : Plain) (b : HostId) → next_for b (hands_silent until ks t) ≡ next_for b t
  silents_next until [] t b = refl
  silents_next until (k ∷ ks) t b = silents_next until ks (hand_silent until k (find_hand k.peer k.number t) t) b ∙ one (find_hand k.peer k.number t)
    where
      one : (o : Option Hand) → next_for b (hand_silent until k o t) ≡ next_for b t
      one None = refl
      one (Some y) = peer_kept next_of k.peer.0 b.0 (λ p. record p { wait = until }) t.peers (λ p. refl)

  pub next_after : (c : Change (List ℕ)) → fits c s ≡ true → (b : HostId) → NextAfter s (applied c s) b
  next_after (Site me site) fit b = absurd (true≢false (sym fit))
  next_after (Deleted id) fit b = inl refl
  next_after (HandOpened peer number id queue since) fit b = opened_next peer number id queue since fit b
  next_after (HandCommitted peer number) fit b = of (find_hand peer number s)
    where
      of : (o : Option Hand) → NextAfter s (hand_committed (peer_number peer number) o s) b
      of None = inl refl
      of (Some y) = inl refl
  next_after (HandRefused peer number refusal) fit b = of (find_hand peer number s)
    where
      of : (o : Option Hand) → NextAfter s (hand_refused (peer_number peer number) refusal o s) b
      of None = inl refl
      of (Some y) = inl refl
  next_after (HandsSilent until ks) fit b = inl (silents_next until ks s b)
  next_after (HandDone peer number) fit b = inl refl
  next_after (OldPromised peer number queue c script) fit b = inl (peer_kept next_of peer.0 b.0 (raise_floor (number - 1)) s.peers (λ p. refl))
  next_after (Promised peer number low queue c script) fit b = inl (peer_kept next_of peer.0 b.0 (raise_floor (low - 1)) s.peers (λ p. refl))
  next_after (Accepted peer number) fit b = inl (of (find_promise peer number s))
    where
      of : (o : Option Pledging) → next_for b (accepted (peer_number peer number) o s) ≡ next_for b s
      of None = refl
      of (Some p) = by (has_row p.row.id s)
        where
          by : (z : Bool) → next_for b (change_peer peer (close number) (if z then drop_promise (peer_number peer number) s else
              record (drop_promise (peer_number peer number) s) { rows = s.rows ++ requeued_row p.row ∷ [] })) ≡ next_for b s
          by true = peer_kept next_of peer.0 b.0 (close number) s.peers (λ p. refl)
          by false = peer_kept next_of peer.0 b.0 (close number) s.peers (λ p. refl)
  next_after (Dropped peer number) fit b = inl (peer_kept next_of peer.0 b.0 (close number) s.peers (λ p. refl))
  next_after (Submitted queue job script) fit b = quiet_next (Submitted queue job script) fit tt b
  next_after (Doomed id) fit b = quiet_next (Doomed id) fit tt b
  next_after (Started id device) fit b = quiet_next (Started id device) fit tt b
  next_after (Ended id parts) fit b = quiet_next (Ended id parts) fit tt b
  next_after (Unlaunched id) fit b = quiet_next (Unlaunched id) fit tt b
  next_after Boot fit b = quiet_next Boot fit tt b
  next_after (Edited e) fit b = quiet_next (Edited e) fit tt b
  next_after (MovedLocal id queue) fit b = quiet_next (MovedLocal id queue) fit tt b
  next_after (RefusedLocal id queue refusal) fit b = quiet_next (RefusedLocal id queue refusal) fit tt b
  next_after (HeldFar id) fit b = quiet_next (HeldFar id) fit tt b
  next_after (StageGot peer number path bytes) fit b = quiet_next (StageGot peer number path bytes) fit tt b
  next_after (StageGone peer number) fit b = quiet_next (StageGone peer number) fit tt b
  next_after (FileGone file) fit b = quiet_next (FileGone file) fit tt b

  -- a new hand has a greater number
  opens_above : (c : Change (List ℕ)) → fits c s ≡ true → (b : HostId) → Opens (is_above b (low_for b s)) c
  opens_above (HandOpened peer number id queue since) fit b = by (same_host b peer) refl
    where
      by : (c : Bool) → same_host b peer ≡ c → (not c || nat_le (low_for b s) number) ≡ true
      by true e =
          let p = opening_peer s h calm peer number id queue since fit in
          let was : next_for b s ≡ number = ap (λ (i : HostId). next_for i s) (host_exact b peer e) ∙ (ap next_of p.1 ∙ p.2) in
          let below = low_next b (next_for b s) s.hands in
          le-leb (low_for b s) number (omega (arith, was, below))
      by false e = refl
  opens_above c fit b = tt

  pub lows_grow : (c : Change (List ℕ)) → fits c s ≡ true → LowsGrow s (applied c s)
  lows_grow c fit b =
      low_above b (low_for b s) (next_for b (applied c s)) (applied c s).hands (more (next_after c fit b))
      (hands_kept (is_above b (low_for b s)) (λ y. refl) c s fit (opens_above c fit b) (low_each b (low_for b s) (next_for b s) s.hands (omega arith)))
    where
      more : NextAfter s (applied c s) b → low_for b s ≤ next_for b (applied c s)
      more (inl e) = let below = low_next b (next_for b s) s.hands in omega (arith, e, below)
      more (inr e) = let below = low_next b (next_for b s) s.hands in let more = e.0 in omega (arith, more, below)

  pub wide_kept : (c : Change (List ℕ)) → fits c s ≡ true → IsWide s → IsWide (applied c s)
  wide_kept c fit wide b = by (next_after c fit b)
    where
      by : NextAfter s (applied c s) b → next_for b (applied c s) ≤ low_for b (applied c s) + 64
      by (inl e) = let was = wide b in let grown = lows_grow c fit b in omega (arith, e, was, grown)
      by (inr e) = let grown = lows_grow c fit b in let more = e.0 in let below = e.1 in omega (arith, more, below, grown)

-- a silent offer that is taken back
module _ (until : ℕ) (k : PeerNumber) (y : Hand) (s : Plain) where
  silent_next : (b : HostId) → next_for b (hand_silent until k (Some y) s) ≡ next_for b s
  silent_next b = peer_kept next_of k.peer.0 b.0 (λ p. record p { wait = until }) s.peers (λ p. refl)

  pub silent_grows : LowsGrow s (hand_silent until k (Some y) s)
  silent_grows b =
      let same = silent_next b in
      let below = low_next b (next_for b s) s.hands in
      low_above b (low_for b s) (next_for b (hand_silent until k (Some y) s)) (without_first (is_hand k) s.hands) (omega (arith, same, below))
      (part_all (is_above b (low_for b s)) (without_part (is_hand k) s.hands) (low_each b (low_for b s) (next_for b s) s.hands (omega arith)))

  pub silent_wide : IsWide s → IsWide (hand_silent until k (Some y) s)
  silent_wide wide b = let same = silent_next b in let was = wide b in let grown = silent_grows b in omega (arith, same, was, grown)
