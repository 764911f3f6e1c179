-- Each change comes only where its moves may come.
use Rattle.std.proofs.Common.{◌≡◌, ℕ, ◌+◌, ◌<◌, Bool, true, false, ◌&&◌, nat_lt, List, slice_get, Option, None, Some, true≢false, refl, sym, ap, subst}
use Rattle.std.proofs.Common.{◌∙◌, arith, if◌then◌else◌}
use Rattle.std.proofs.lemmas.Bool.{and_parts, ltb-true, false_from_ne_true}
use Rattle.std.proofs.lemmas.Option.{same_Some}
use Rattle.nqs_state.specs.State.{Plain}
use Rattle.nqs_state.specs.Keys.{is_hand}
use Rattle.nqs_types.specs.declared.ids.PeerNumber.{PeerNumber}
use Rattle.nqs_types.specs.declared.ids.HostId.{HostId}
use Rattle.nqs_types.specs.declared.request.Hand.{Hand}
use Rattle.nqs_types.specs.declared.request.Carried.{Carried}
use Rattle.nqs_types.specs.declared.request.Phase.{Phase}
use Rattle.nqs_types.specs.declared.request.Phase.TheVariants.{Offered, Committed}
use Rattle.nqs_types.specs.declared.change.Change.{Change}
use Rattle.nqs_types.specs.declared.change.Change.TheVariants.{Submitted, Deleted, Doomed, Started, Ended, Unlaunched, Boot, Edited, HandOpened, HandCommitted}
use Rattle.nqs_types.specs.declared.change.Change.TheVariants.{HandRefused, HandsSilent, HandDone, OldPromised, Promised, Accepted, Dropped, MovedLocal}
use Rattle.nqs_types.specs.declared.change.Change.TheVariants.{RefusedLocal}
use Rattle.nqs_types.specs.declared.change.Change.TheVariants.{HeldFar, StageGot, StageGone, FileGone}
use Rattle.nqs_types.specs.declared.message.Message.{Message}
use Rattle.nqs_types.specs.declared.message.Body.{Body}
use Rattle.nqs_types.specs.declared.message.Body.TheVariants as body
use Rattle.nqs_types.specs.declared.event.Command.{Command}
use Rattle.nqs_types.specs.declared.event.Command.TheVariants as command
use Rattle.nqs_types.specs.declared.event.Event.{Event}
use Rattle.nqs_types.specs.declared.event.Event.TheVariants as event
use Rattle.nqs_rules.specs.Tests.{is_offered, is_running, same_host}
use Rattle.nqs_rules.specs.Find.{peer_number, has_promise, find_row, find_hand}
use Rattle.nqs_rules.specs.Handover.{was_given}
use Rattle.nqs_rules.specs.Applied.{is_offered_for}
use Rattle.nqs_rules.specs.Fits.{fits}
use Rattle.nqs_rules.specs.World.{body_number}
use Rattle.nqs_rules.specs.Step.{completed}
use Rattle.nqs_rules.specs.InOrder.{IsInOrder, IsConsistent}
use Rattle.nqs_rules.proofs.StartIs.{StartsRow, start_is}
use Rattle.nqs_rules.proofs.Until.{steady}
use Rattle.nqs_rules.specs.Picked.{PlainRow}
use Rattle.nqs_laws.proofs.Frame.{WasSent, Comes, Way, Taken, Begun, Booted, change_by}
use Rattle.nqs_laws.proofs.Sound.{some-if}
use Rattle.nqs_laws.specs.Loads.{offered_load, sent_load}
use Rattle.nqs_laws.proofs.Makes.{HasHand, Answers, Obeys, Follows, step_makes}
use Rattle.nqs_laws.specs.Handovers.{is_closed_for, low_for}
use Rattle.nqs_laws.proofs.Pair.{Open, IsTaken, IsNoOffer, Move, Stays, Withdraws, Commits, Finishes, Pledges, Accepts, Drops, May, MayWithdraw}
use Rattle.nqs_laws.proofs.Pair.{MayCommit, MayFinish, MayAccept}
use Rattle.nqs_laws.proofs.Views.{phase_seen, offer_seen, offered, gave, pledged, pair_of, has_number_key, host_exact, routing_of}
use Rattle.nqs_laws.proofs.Turns.{to_move, from_move, deleted_move, offers_by, IsQuiet, key_here, opening_peer, opening_new}
use Rattle.nqs_laws.proofs.Paired.{At, HoldsFor, LowWord, IsPaired, IsOne, GuardsOf, open_offer, given_offer, pledge_at, no_pledge, no_hand_seen}
use Rattle.nqs_laws.proofs.Paired.{none_below_low}
use Rattle.nqs_laws.proofs.Paired.{given_below_low}

-- what is seen of an offered hand
pub open_seen : (s : Plain) (y : Hand) (p : Phase) → is_offered p ≡ true → (r : PlainRow) → find_row y.id s ≡ Some r
    → phase_seen p y (find_row y.id s) ≡ Open (offered_load y.queue r)
open_seen s y Offered is r row = ap (phase_seen Offered y) row
open_seen s y Committed is r row = absurd (true≢false (sym is))

module _ (states : List Plain) (packets : List Message) (k : IsPaired states packets) (h : HostId) (s : Plain) (there : At states h s) (o : IsInOrder s)
    (calm : IsConsistent s) where
  -- a quiet change asks for nothing
  quiet_guards : (c : Change (List ℕ)) → IsQuiet c → GuardsOf states h s c
  quiet_guards (Deleted id) quiet = absurd quiet
  quiet_guards (HandOpened peer number id queue since) quiet = absurd quiet
  quiet_guards (HandCommitted peer number) quiet = absurd quiet
  quiet_guards (HandRefused peer number refusal) quiet = absurd quiet
  quiet_guards (HandsSilent until ks) quiet = absurd quiet
  quiet_guards (HandDone peer number) quiet = absurd quiet
  quiet_guards (OldPromised peer number queue c script) quiet = absurd quiet
  quiet_guards (Promised peer number low queue c script) quiet = absurd quiet
  quiet_guards (Accepted peer number) quiet = absurd quiet
  quiet_guards (Dropped peer number) quiet = absurd quiet
  quiet_guards c quiet = record { to_peers = λ b t at n. tt; from_peers = λ a u at n. tt }

  deleted_guards : (id : _) → GuardsOf states h s (Deleted id)
  deleted_guards id = record { to_peers = λ b t at n. of b t n (find_hand b n s) refl; from_peers = λ a u at n. tt }
    where
      by : (b : HostId) (n : ℕ) (y : Hand) → find_hand b n s ≡ Some y → is_offered y.phase ≡ true → MayWithdraw (offered s b n)
      by b n y e opens =
          let r = routing_of s o (is_hand (peer_number b n)) y e opens in
          subst MayWithdraw (sym (ap (λ x. offer_seen x s) e ∙ open_seen s y y.phase opens r.0 r.1)) tt

      if_may : (b : HostId) (t : Plain) (n : ℕ) (y : Hand) → find_hand b n s ≡ Some y → (c : Bool) → is_offered_for id y ≡ c
          → May (pair_of h s b t n) (if c then Withdraws else Stays)
      if_may b t n y e true is = by b n y e (and_parts (is_offered y.phase) _ is).0
      if_may b t n y e false is = tt

      of : (b : HostId) (t : Plain) (n : ℕ) (x : Option Hand) → find_hand b n s ≡ x → May (pair_of h s b t n) (deleted_move id x)
      of b t n None e = tt
      of b t n (Some y) e = if_may b t n y e (is_offered_for id y) refl

  opened_guards : (peer : HostId) (number : ℕ) (id : _) (queue : List ℕ) (since : ℕ) → fits {F = List ℕ} (HandOpened peer number id queue since) s ≡ true
      → GuardsOf states h s (HandOpened peer number id queue since)
  opened_guards peer number id queue since fit = record {
    to_peers = λ b t at n. by b t n (has_number_key b n (peer_number peer number)) refl (find_row id s);
    from_peers = λ a u at n. tt;
  }
    where
      none : IsNoOffer (offered s peer number)
      none = no_hand_seen s peer number (opening_new s o calm peer number id queue since fit)

      new : gave s peer number ≡ false
      new =
          let p = opening_peer s o calm peer number id queue since fit in
          let same = p.2 in
          ap (was_given number) p.1 ∙ false_from_ne_true (nat_lt number p.0.next) (λ k. let below = ltb-true number p.0.next k in omega (arith, below, same))

      by : (b : HostId) (t : Plain) (n : ℕ) (c : Bool) → has_number_key b n (peer_number peer number) ≡ c → (r : Option PlainRow)
          → May (pair_of h s b t n) (if c then offers_by queue r else Stays)
      by b t n true e None = tt
      by b t n true e (Some r) =
          let here : peer_number peer number ≡ peer_number b n = sym (key_here b n (peer_number peer number) e) in (
            subst (λ (k : PeerNumber). IsNoOffer (offered s k.peer k.number)) here none,
            subst (λ (k : PeerNumber). gave s k.peer k.number ≡ false) here new,
          )
      by b t n false e r = tt

  -- moves to a peer alone
  to_guards : (peer : HostId) (number : ℕ) (m : Move) (c : Change (List ℕ))
      → ((b : HostId) (n : ℕ) → to_move c s b n ≡ (if has_number_key b n (peer_number peer number) then m else Stays))
      → ((a : HostId) (n : ℕ) → from_move c a n ≡ Stays) → ((t : Plain) → At states peer t → May (pair_of h s peer t number) m) → GuardsOf states h s c
  to_guards peer number m c to from may = record {
    to_peers = λ b t at n. subst (May (pair_of h s b t n)) (sym (to b n)) (by b t at n (has_number_key b n (peer_number peer number)) refl);
    from_peers = λ a u at n. subst (May (pair_of a u h s n)) (sym (from a n)) tt;
  }
    where
      by : (b : HostId) (t : Plain) → At states b t → (n : ℕ) (d : Bool) → has_number_key b n (peer_number peer number) ≡ d
          → May (pair_of h s b t n) (if d then m else Stays)
      by b t at n true e =
          let here : peer_number b n ≡ peer_number peer number = key_here b n (peer_number peer number) e in
          subst (λ (k : PeerNumber). May (pair_of h s k.peer t k.number) m) (sym here)
          (may t (ap (λ (k : PeerNumber). slice_get states k.peer.0) (sym here) ∙ at))
      by b t at n false e = tt

  from_guards : (peer : HostId) (number : ℕ) (m : Move) (c : Change (List ℕ))
      → ((a : HostId) (n : ℕ) → from_move c a n ≡ (if has_number_key a n (peer_number peer number) then m else Stays))
      → ((b : HostId) (n : ℕ) → to_move c s b n ≡ Stays) → ((u : Plain) → At states peer u → May (pair_of peer u h s number) m) → GuardsOf states h s c
  from_guards peer number m c from to may = record {
    to_peers = λ b t at n. subst (May (pair_of h s b t n)) (sym (to b n)) tt;
    from_peers = λ a u at n. subst (May (pair_of a u h s n)) (sym (from a n)) (by a u at n (has_number_key a n (peer_number peer number)) refl);
  }
    where
      by : (a : HostId) (u : Plain) → At states a u → (n : ℕ) (d : Bool) → has_number_key a n (peer_number peer number) ≡ d
          → May (pair_of a u h s n) (if d then m else Stays)
      by a u at n true e =
          let here : peer_number a n ≡ peer_number peer number = key_here a n (peer_number peer number) e in
          subst (λ (k : PeerNumber). May (pair_of k.peer u h s k.number) m) (sym here)
          (may u (ap (λ (k : PeerNumber). slice_get states k.peer.0) (sym here) ∙ at))
      by a u at n false e = tt

  -- what was known of the message that came
  module _ (x : Message) (sent : WasSent x packets) (to : x.to ≡ h) where
    known : (u : Plain) → At states x.from u → HoldsFor (pair_of x.from u h s (body_number x.body)) (pair_of h s x.from u (body_number x.body)) x.body
    known u at = subst (λ i. HoldsFor (pair_of x.from u i s (body_number x.body)) (pair_of i s x.from u (body_number x.body)) x.body) to
        (k.words x sent u s at (ap (λ (i : HostId). slice_get states i.0) to ∙ there))

    known_of : (b : Body) → x.body ≡ b → (u : Plain) → At states x.from u
        → HoldsFor (pair_of x.from u h s (body_number b)) (pair_of h s x.from u (body_number b)) b
    known_of b e u at = subst (λ d. HoldsFor (pair_of x.from u h s (body_number d)) (pair_of h s x.from u (body_number d)) d) e (known u at)

    low_of : (b : Body) → x.body ≡ b → (u : Plain) → At states x.from u → LowWord b h u
    low_of b e u at = subst (λ i. LowWord b i u) to (subst (λ d. LowWord d x.to u) e (k.lows x sent u at))

    ready_guards : (n : ℕ) → ((u : Plain) → At states x.from u → IsTaken (pledged u h n) (is_closed_for h n u)) → HasHand Offered x.from n s
        → GuardsOf states h s (HandCommitted x.from n)
    ready_guards n taken hand = to_guards x.from n Commits (HandCommitted x.from n) (λ b i. refl) (λ a i. refl)
        (λ t at. let e = open_offer s o x.from n hand in subst (λ y. MayCommit y (pledged t h n) (is_closed_for h n t)) (sym e.1) (taken t at))

    -- a promise that is made; those below its low have no handover any more
    offer_guards : (n low : ℕ) (queue : List ℕ) (c : Carried) (script : List ℕ) → x.body ≡ body.Offer n low queue c script
        → is_closed_for x.from n s ≡ false → has_promise x.from n s ≡ false → GuardsOf states h s (Promised x.from n low queue c script)
    offer_guards n low queue c script e opens new = record {
      to_peers = λ b t at i. tt;
      from_peers = λ a u at i. by a u at i (has_number_key a i (peer_number x.from n)) refl (same_host a x.from) refl (nat_lt i low) refl;
    }
      where
        by : (a : HostId) (u : Plain) → At states a u → (i : ℕ) (c1 : Bool) → has_number_key a i (peer_number x.from n) ≡ c1 → (d : Bool)
            → same_host a x.from ≡ d
            → (b : Bool) → nat_lt i low ≡ b
            → May (pair_of a u h s i) (if c1 then Pledges (sent_load queue c script) else (if d && b then Drops else Stays))
        by a u at i true f d g b l =
            let here : peer_number a i ≡ peer_number x.from n = key_here a i (peer_number x.from n) f in
            let was : At states x.from u = ap (λ (j : PeerNumber). slice_get states j.peer.0) (sym here) ∙ at in
            let w = known_of (body.Offer n low queue c script) e u was in
            subst (λ (j : PeerNumber). May (pair_of j.peer u h s j.number) (Pledges (sent_load queue c script))) (sym here)
            (opens, w.0, no_pledge s x.from n new, w.1)
        by a u at i false f true g true l =
            let here : a ≡ x.from = host_exact a x.from g in
            let was : At states x.from u = ap (λ (j : HostId). slice_get states j.0) (sym here) ∙ at in
            let w = low_of (body.Offer n low queue c script) e u was in
            let few = w.2 in
            let less = ltb-true i low l in
            let below : i < low_for h u = omega (arith, few, less) in
            (none_below_low u h i below, given_below_low u h i below)
        by a u at i false f true g false l = tt
        by a u at i false f false g b l = tt

    answer_guards : (b : Body) → x.body ≡ b → (c : Change (List ℕ)) → Answers b x.from s c → fits c s ≡ true → GuardsOf states h s c
    answer_guards (body.Offer n low queue c script) e ch a fit = subst (GuardsOf states h s) (sym a.0) (offer_guards n low queue c script e a.1 a.2)
    answer_guards (body.Ready n) e ch a fit = subst (GuardsOf states h s) (sym a.0) (ready_guards n (λ u at. (known_of (body.Ready n) e u at).1) a.1)
    answer_guards (body.Inquire n) e ch a fit = subst (GuardsOf states h s) (sym a.0) (ready_guards n (λ u at. (known_of (body.Inquire n) e u at).1) a.1)
    answer_guards (body.Refused n refusal) e ch a fit = subst (GuardsOf states h s) (sym a.0)
        (to_guards x.from n Withdraws (HandRefused x.from n refusal) (λ b i. refl) (λ z i. refl)
        (λ t at. let f = open_offer s o x.from n a.1 in subst MayWithdraw (sym f.1) tt))
    answer_guards (body.Commit n) e ch a fit = subst (GuardsOf states h s) (sym a.0)
        (from_guards x.from n Accepts (Accepted x.from n) (λ z i. refl) (λ b i. refl) (λ u at.
        let w = known_of (body.Commit n) e u at in let f = pledge_at s x.from n a.1 in
        subst (λ y. MayAccept y (offered u h n) (is_closed_for x.from n s)) (sym f.1) w.1))
    answer_guards (body.Done n) e ch a fit = subst (GuardsOf states h s) (sym a.0)
        (to_guards x.from n Finishes (HandDone x.from n) (λ b i. refl) (λ z i. refl)
        (λ t at. let w = known_of (body.Done n) e t at in subst (λ y. MayFinish y (is_closed_for h n t)) (sym (given_offer s x.from n a.1)) w.1))
    answer_guards (body.Abort n) e ch a fit = subst (GuardsOf states h s) (sym a.0)
        (from_guards x.from n Drops (Dropped x.from n) (λ z i. refl) (λ b i. refl) (λ u at.
        let w = known_of (body.Abort n) e u at in (w.1, w.0)))
    answer_guards (body.Stage n path bytes) e ch a fit = subst (GuardsOf states h s) (sym a.1) (quiet_guards (StageGot x.from n path a.0) tt)
    answer_guards (body.Staged n) e ch a fit = subst (GuardsOf states h s) (sym a) (quiet_guards (StageGone x.from n) tt)
    answer_guards b e ch a fit = absurd a

  obey_guards : (now : ℕ) (c : Command) (ch : Change (List ℕ)) → Obeys now c s ch → IsOne ch → GuardsOf states h s ch
  obey_guards now (command.Submit sub) ch f one = subst (GuardsOf states h s) (sym f.1)
      (quiet_guards (Submitted f.0 (completed (s.seq + 1) sub.folder sub.job) sub.script) tt)
  obey_guards now (command.Edit e) ch f one = subst (GuardsOf states h s) (sym f) (quiet_guards (Edited e) tt)
  obey_guards now (command.Delete id forced) ch f one = subst (GuardsOf states h s) (sym f.is) (by (is_running f.row.state))
    where
      by : (b : Bool) → GuardsOf states h s (if b then Doomed f.row.id else Deleted f.row.id)
      by true = quiet_guards (Doomed f.row.id) tt
      by false = deleted_guards f.row.id
  obey_guards now command.Tick ch f one = absurd (one f.0 _ f.1)
  obey_guards now c ch f one = absurd f

  follow_guards : (e : Event) → Comes packets h e → (c : Change (List ℕ)) → Follows e s c → fits c s ≡ true → IsOne c → GuardsOf states h s c
  follow_guards (event.Ask now port token user cmd) comes c f fit one = obey_guards now cmd c f one
  follow_guards (event.Arrived now x) comes c f fit one = answer_guards x comes.1 comes.0 x.body refl c f fit
  follow_guards (event.Ended now port id start status output error) comes c f fit one =
      subst (GuardsOf states h s) (sym f.4) (quiet_guards (Ended f.1.id f.0) tt)
  follow_guards (event.Unlaunched now id start) comes c f fit one = subst (GuardsOf states h s) (sym f.3) (quiet_guards (Unlaunched id) tt)
  follow_guards (event.Written now file) comes c f fit one = subst (GuardsOf states h s) (sym f) (quiet_guards (FileGone file) tt)
  follow_guards (event.Unwritten now file) comes c f fit one = absurd f
  follow_guards (event.Tick now) comes c f fit one = absurd (one f.0 _ f.1)

  begun_guards : (r : PlainRow) (c : Change (List ℕ)) → StartsRow s r c → fits c s ≡ true → GuardsOf states h s c
  begun_guards r (Started id device) starts fit = quiet_guards (Started id device) tt
  begun_guards r (HeldFar id) starts fit = quiet_guards (HeldFar id) tt
  begun_guards r (MovedLocal id queue) starts fit = quiet_guards (MovedLocal id queue) tt
  begun_guards r (RefusedLocal id queue refusal) starts fit = quiet_guards (RefusedLocal id queue refusal) tt
  begun_guards r (HandOpened peer number id queue since) starts fit = opened_guards peer number id queue since fit
  begun_guards r c starts fit = absurd starts

  -- the moves of a change may come
  pub way_guards : (way : Way packets h s) (c : Change (List ℕ)) → change_by way ≡ Some c → fits c s ≡ true → IsOne c → GuardsOf states h s c
  way_guards (Taken e comes) c is fit one = follow_guards e comes c (some-if (Follows e s) _ c (step_makes s e) is) fit one
  way_guards (Begun now x begins) c is fit one =
      let started = start_is now s x (steady s o) begins in
      let same : started.change ≡ c = same_Some started.change c (sym started.makes ∙ is) in
      begun_guards started.row c (subst (StartsRow s started.row) same started.starts) fit
  way_guards Booted c is fit one = subst (GuardsOf states h s) (same_Some Boot c is) (quiet_guards Boot tt)
