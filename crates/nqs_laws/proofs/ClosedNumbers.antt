-- The end of a promise closes its number, and nothing else closes one that has a handover.
use Rattle.std.proofs.Common.{◌≡◌, ℕ, ◌⊎◌, inl, inr, ◌<◌, Bool, true, false, ◌&&◌, nat_lt, List, [], ◌∷◌, Option, None, Some, true≢false, refl}
use Rattle.std.proofs.Common.{sym, ap, subst, ◌∙◌, if◌then◌else◌}
use Rattle.std.proofs.lemmas.Bool.{ltb-true}
use Rattle.std.proofs.lemmas.Option.{same_Some}
use Rattle.nqs_state.specs.State.{Plain}
use Rattle.nqs_types.specs.declared.ids.HostId.{HostId}
use Rattle.nqs_types.specs.declared.ids.PeerNumber.{PeerNumber}
use Rattle.nqs_laws.specs.Loads.{Load, sent_load}
use Rattle.nqs_types.specs.declared.request.Hand.{Hand}
use Rattle.nqs_types.specs.declared.change.Change.{Change}
use Rattle.nqs_types.specs.declared.change.Change.TheVariants.{Deleted, Doomed, Boot, Edited, HandsSilent, OldPromised, Promised, Accepted, Dropped}
use Rattle.nqs_types.specs.declared.message.Message.{Message}
use Rattle.nqs_types.specs.declared.message.Body.{Body}
use Rattle.nqs_types.specs.declared.message.Body.TheVariants as body
use Rattle.nqs_types.specs.declared.event.Command.{Command}
use Rattle.nqs_types.specs.declared.event.Command.TheVariants as command
use Rattle.nqs_types.specs.declared.event.Event.{Event}
use Rattle.nqs_types.specs.declared.event.Event.TheVariants as event
use Rattle.nqs_rules.specs.Applied.{applied, hand_silent, hands_silent}
use Rattle.nqs_rules.specs.Find.{peer_number, find_hand}
use Rattle.nqs_rules.specs.InOrder.{IsInOrder}
use Rattle.nqs_rules.specs.Tests.{is_running, same_host}
use Rattle.nqs_rules.proofs.StartIs.{StartsRow, start_is}
use Rattle.nqs_rules.proofs.Until.{steady}
use Rattle.nqs_rules.specs.Picked.{PlainRow}
use Rattle.nqs_laws.specs.Handovers.{is_closed_for}
use Rattle.nqs_laws.specs.Closed.{HasState, IsClosedBy, HasNoHand, MayClose, ClosesOwn}
use Rattle.nqs_laws.proofs.Frame.{Moment, Way, Taken, Begun, Booted, change_by}
use Rattle.nqs_laws.proofs.Sound.{IsSound, Suits, some-if}
use Rattle.nqs_laws.proofs.Makes.{Answers, Obeys, Follows, step_makes}
use Rattle.nqs_laws.proofs.Pair.{NoOffer, Pledge, Move, Stays}
use Rattle.nqs_laws.proofs.Pair.{Pledges, Accepts, Drops, moved, pair, stays_shut, May}
use Rattle.nqs_laws.proofs.Views.{pledged, pair_of, has_number_key, host_exact}
use Rattle.nqs_laws.proofs.Turns.{from_move, promised_move, key_here, same_key}
use Rattle.nqs_laws.proofs.Targets.{targets, silent_target}
use Rattle.nqs_laws.proofs.Paired.{At, IsOne}
use Rattle.nqs_laws.proofs.PairedRuns.{silent_or_one, low_right}
use Rattle.nqs_laws.proofs.Guarded.{way_guards}
use Rattle.nqs_laws.proofs.HandoverLaws.{no_hand}
use Rattle.nqs_laws.proofs.LicensedRuns.{IsHistory}

-- what each move makes of a closed number

abbrev closed_then : Pledge → Bool → Move → Bool
closed_then q closed m = (moved (pair NoOffer false q closed) m).closed

-- silent offers leave it
silent_closed : (until : ℕ) (ks : List PeerNumber) (s : Plain) (a : HostId) (n : ℕ) → is_closed_for a n (hands_silent until ks s) ≡ is_closed_for a n s
silent_closed until [] s a n = refl
silent_closed until (k ∷ ks) s a n = silent_closed until ks (hand_silent until k (find_hand k.peer k.number s) s) a n ∙ one (find_hand k.peer k.number s)
  where
    one : (o : Option Hand) → is_closed_for a n (hand_silent until k o s) ≡ is_closed_for a n s
    one None = refl
    one (Some y) = (silent_target s until k y a n).closed

-- no way makes a promise as older versions did

abbrev pub IsOld : Change (List ℕ) → Type 0
IsOld (OldPromised peer number queue c script) = Unit {0}
IsOld c = ⊥

answers_new : (b : Body) (peer : HostId) (s : Plain) (c : Change (List ℕ)) → Answers b peer s c → IsOld c → ⊥
answers_new (body.Offer n low queue k script) peer s c f old = subst IsOld f.0 old
answers_new (body.Ready n) peer s c f old = subst IsOld f.0 old
answers_new (body.Refused n refusal) peer s c f old = subst IsOld f.0 old
answers_new (body.Commit n) peer s c f old = subst IsOld f.0 old
answers_new (body.Done n) peer s c f old = subst IsOld f.0 old
answers_new (body.Inquire n) peer s c f old = subst IsOld f.0 old
answers_new (body.Abort n) peer s c f old = subst IsOld f.0 old
answers_new (body.Stage n path bytes) peer s c f old = subst IsOld f.1 old
answers_new (body.Staged n) peer s c f old = subst IsOld f old
answers_new b peer s c f old = f

obeys_new : (now : ℕ) (k : Command) (s : Plain) (c : Change (List ℕ)) → Obeys now k s c → IsOld c → ⊥
obeys_new now (command.Submit sub) s c f old = subst IsOld f.1 old
obeys_new now (command.Edit e) s c f old = subst IsOld f old
obeys_new now (command.Delete id forced) s c f old = by (is_running f.row.state) (subst IsOld f.is old)
  where
    by : (b : Bool) → IsOld (if b then Doomed f.row.id else Deleted f.row.id) → ⊥
    by true old = old
    by false old = old
obeys_new now command.Tick s c f old = subst IsOld f.1 old
obeys_new now k s c f old = f

follows_new : (e : Event) (s : Plain) (c : Change (List ℕ)) → Follows e s c → IsOld c → ⊥
follows_new (event.Ask now port token user k) s c f old = obeys_new now k s c f old
follows_new (event.Arrived now x) s c f old = answers_new x.body x.from s c f old
follows_new (event.Ended now port id start status output error) s c f old = subst IsOld f.4 old
follows_new (event.Unlaunched now id start) s c f old = subst IsOld f.3 old
follows_new (event.Written now file) s c f old = subst IsOld f old
follows_new (event.Unwritten now file) s c f old = f
follows_new (event.Tick now) s c f old = subst IsOld f.1 old

starts_new : (s : Plain) (r : PlainRow) (c : Change (List ℕ)) → StartsRow s r c → IsOld c → ⊥
starts_new s r (OldPromised peer number queue c script) starts old = starts
starts_new s r (Edited e) starts old = old
starts_new s r c starts old = old

pub way_new : (packets : List Message) (h : HostId) (s : Plain) → IsInOrder s → (way : Way packets h s) (c : Change (List ℕ)) → change_by way ≡ Some c
    → IsOld c → ⊥
way_new packets h s o (Taken e comes) c is old = follows_new e s c (some-if (Follows e s) _ c (step_makes s e) is) old
way_new packets h s o (Begun now x begins) c is old =
    let started = start_is now s x (steady s o) begins in
    let same : started.change ≡ c = same_Some started.change c (sym started.makes ∙ is) in
    starts_new s started.row c (subst (StartsRow s started.row) same started.starts) old
way_new packets h s o Booted c is old = subst IsOld (sym (same_Some Boot c is)) old

-- one kept change
module _ (site : List (List ℕ)) (first : List Plain) (m : Moment) (sound : IsSound site m) (k : IsHistory first m) (h : HostId) (s : Plain)
    (there : At m.states h s) (way : Way m.packets h s) (c : Change (List ℕ)) (is : change_by way ≡ Some c) (suits : Suits s c) where
  abbrev then_state : Plain
  then_state = applied c s

  order : IsInOrder s
  order = (sound.hosts h.0 s there).order

  closed_after : (a : HostId) (n : ℕ) → is_closed_for a n then_state ≡ closed_then (pledged s a n) (is_closed_for a n s) (from_move c a n)
  closed_after a n = of (silent_or_one c)
    where
      of : IsOne c ⊎ ((until : ℕ) × (ks : List PeerNumber) × (c ≡ HandsSilent until ks))
          → is_closed_for a n then_state ≡ closed_then (pledged s a n) (is_closed_for a n s) (from_move c a n)
      of (inl one) = (targets s order c suits.fit (low_right c suits.sane) one a n).closed
      of (inr (until, ks, e)) = subst (λ y. is_closed_for a n (applied y s) ≡ closed_then (pledged s a n) (is_closed_for a n s) (from_move y a n)) (sym e)
          (silent_closed until ks s a n)

  may_move : (a : HostId) (u : Plain) → At m.states a u → (n : ℕ) → May (pair_of a u h s n) (from_move c a n)
  may_move a u at n = of (silent_or_one c)
    where
      of : IsOne c ⊎ ((until : ℕ) × (ks : List PeerNumber) × (c ≡ HandsSilent until ks)) → May (pair_of a u h s n) (from_move c a n)
      of (inl one) = (way_guards m.states m.packets k.net.paired h s there order (sound.hosts h.0 s there).calm way c is suits.fit one).from_peers a u at n
      of (inr (until, ks, e)) = subst (λ y. May (pair_of a u h s n) (from_move y a n)) (sym e) tt

  -- a closed number stays closed
  pub closed_stays : (a : HostId) (n : ℕ) → is_closed_for a n s ≡ true → is_closed_for a n then_state ≡ true
  closed_stays a n closed = closed_after a n ∙ stays_shut (pair NoOffer false (pledged s a n) (is_closed_for a n s)) (from_move c a n) closed

  -- a number that is closed now
  module _ (a : HostId) (n : ℕ) (closed : IsClosedBy c a n s) where
    -- its move closes
    moves : (x : Move) → from_move c a n ≡ x → closed_then (pledged s a n) (is_closed_for a n s) x ≡ true
    moves x e = ap (closed_then (pledged s a n) (is_closed_for a n s)) (sym e) ∙ (sym (closed_after a n) ∙ closed.1)

    calm : from_move c a n ≡ Stays → ⊥
    calm e = true≢false (sym (moves Stays e) ∙ closed.0)

    -- the end of a promise
    ended : (peer : HostId) (number : ℕ) (x : Move) → from_move c a n ≡ (if has_number_key a n (peer_number peer number) then x else Stays)
        → (a ≡ peer) × (n ≡ number)
    ended peer number x is_move = by (has_number_key a n (peer_number peer number)) refl
      where
        by : (b : Bool) → has_number_key a n (peer_number peer number) ≡ b → (a ≡ peer) × (n ≡ number)
        by true e = let key = key_here a n (peer_number peer number) e in (ap (λ (i : PeerNumber). i.peer) key, ap (λ (i : PeerNumber). i.number) key)
        by false e = absurd (calm (is_move ∙ ap (λ b. if b then x else Stays) e))

    -- a new promise
    promised : (peer : HostId) (number low : ℕ) (load : Load) → from_move c a n ≡ promised_move peer number low load a n
        → (a ≡ peer) × (n < low) × HasNoHand m.states a h n
    promised peer number low load is_move = by (has_number_key a n (peer_number peer number)) refl (same_host a peer) refl (nat_lt n low) refl
      where
        made : (d e f : Bool) → has_number_key a n (peer_number peer number) ≡ d → same_host a peer ≡ e → nat_lt n low ≡ f
            → from_move c a n ≡ (if d then Pledges load else (if e && f then Drops else Stays))
        made d e f g i l = is_move ∙ (λ j. if g j then Pledges load else (if i j && l j then Drops else Stays))

        by : (d : Bool) → has_number_key a n (peer_number peer number) ≡ d → (e : Bool) → same_host a peer ≡ e → (f : Bool) → nat_lt n low ≡ f
            → (a ≡ peer) × (n < low) × HasNoHand m.states a h n
        by true g e i f l = absurd (true≢false (sym (moves (Pledges load) (made true e f g i l)) ∙ closed.0))
        by false g true i true l = (
          host_exact a peer i,
          ltb-true n low l,
          λ u at. no_hand site m sound k.net a h u s at there n
              (subst (May (pair_of a u h s n)) (made false true true g i l) (may_move a u at n)).0,
        )
        by false g true i false l = absurd (calm (made false true false g i l))
        by false g false i f l = absurd (calm (made false false f g i l))

pub closes_only : (site : List (List ℕ)) (first : List Plain) (m : Moment) (sound : IsSound site m) (k : IsHistory first m) (h : HostId) (s : Plain)
    (there : At m.states h s) (way : Way m.packets h s) (c : Change (List ℕ)) (is : change_by way ≡ Some c) (suits : Suits s c) (a : HostId) (n : ℕ)
    → IsClosedBy c a n s → MayClose c m.states h a n
closes_only site first m sound k h s there way (Accepted peer number) is suits a n closed =
    ended site first m sound k h s there way (Accepted peer number) is suits a n closed peer number Accepts refl
closes_only site first m sound k h s there way (Dropped peer number) is suits a n closed =
    ended site first m sound k h s there way (Dropped peer number) is suits a n closed peer number Drops refl
closes_only site first m sound k h s there way (Promised peer number low queue c script) is suits a n closed =
    promised site first m sound k h s there way (Promised peer number low queue c script) is suits a n closed peer number low (sent_load queue c script) refl
closes_only site first m sound k h s there way (OldPromised peer number queue c script) is suits a n closed =
    way_new m.packets h s (sound.hosts h.0 s there).order way (OldPromised peer number queue c script) is tt
closes_only site first m sound k h s there way c is suits a n closed = absurd (calm site first m sound k h s there way c is suits a n closed refl)

-- and it does close its own
own_closed : (site : List (List ℕ)) (first : List Plain) (m : Moment) (sound : IsSound site m) (k : IsHistory first m) (h : HostId) (s : Plain)
    (there : At m.states h s) (way : Way m.packets h s) (c : Change (List ℕ)) (is : change_by way ≡ Some c) (suits : Suits s c) (peer : HostId) (number : ℕ)
    (x : Move) → ((q : Pledge) (i : Bool) → closed_then q i x ≡ true)
    → from_move c peer number ≡ (if has_number_key peer number (peer_number peer number) then x else Stays) → is_closed_for peer number (applied c s) ≡ true
own_closed site first m sound k h s there way c is suits peer number x ends moves =
    closed_after site first m sound k h s there way c is suits peer number
    ∙ (ap (closed_then (pledged s peer number) (is_closed_for peer number s)) (moves ∙ ap (λ b. if b then x else Stays) (same_key peer number))
    ∙ ends (pledged s peer number) (is_closed_for peer number s))

pub closes_own : (site : List (List ℕ)) (first : List Plain) (m : Moment) (sound : IsSound site m) (k : IsHistory first m) (h : HostId) (s : Plain)
    (there : At m.states h s) (way : Way m.packets h s) (c : Change (List ℕ)) (is : change_by way ≡ Some c) (suits : Suits s c) → ClosesOwn c s
closes_own site first m sound k h s there way (Accepted peer number) is suits =
    own_closed site first m sound k h s there way (Accepted peer number) is suits peer number Accepts (λ q i. refl) refl
closes_own site first m sound k h s there way (Dropped peer number) is suits =
    own_closed site first m sound k h s there way (Dropped peer number) is suits peer number Drops (λ q i. refl) refl
closes_own site first m sound k h s there way c is suits = tt

-- for the one state of the host
pub for_state : (states : List Plain) (h : HostId) (s : Plain) (P : Plain → Type 0) → At states h s → P s → (t : Plain) → HasState states h t → P t
for_state states h s P there p t at = subst P (same_Some s t (sym there ∙ at)) p
