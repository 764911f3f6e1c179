-- What a host sends is true of its state when it sends it.
use Rattle.std.proofs.Common.{◌≡◌, ℕ, ◌+◌, ◌<◌, ◌≤◌, Bool, true, false, not, ◌&&◌, ◌||◌, ◌==◌, nat_lt, nat_le, cond, List, [], ◌∷◌, ◌++◌, map, filter, find}
use Rattle.std.proofs.Common.{slice_get, Option, None, Some, Result, Ok, Err, true≢false, suc, refl, sym, ap, subst, ◌∙◌, arith, if◌then◌else◌}
use Rattle.std.proofs.lemmas.Bool.{and_parts, and_from, ltb-true, not_from_false, false_from_ne_true}
use Rattle.std.proofs.lemmas.Option.{same_Some}
use Rattle.std.specs.List.{list_any, list_all, flat_map, AllByRecursion}
use Rattle.nqs_types.specs.Ids.{peer_number_eq, peer_number_exact, hand_key, promise_key}
use Rattle.nqs_state.specs.State.{Plain}
use Rattle.nqs_base_tables.specs.Table.{best_from, without_first}
use Rattle.nqs_state.specs.Keys.{is_hand, is_promise, is_stage, is_file}
use Rattle.nqs_types.specs.declared.ids.HostId.{HostId}
use Rattle.nqs_types.specs.declared.ids.RequestId.{RequestId}
use Rattle.nqs_types.specs.declared.ids.Named.{Named}
use Rattle.nqs_types.specs.declared.ids.PeerNumber.{PeerNumber}
use Rattle.nqs_types.specs.declared.request.Carried.{Carried}
use Rattle.nqs_types.specs.declared.request.Hand.{Hand}
use Rattle.nqs_types.specs.declared.request.Peer.{Peer}
use Rattle.nqs_types.specs.declared.request.Stage.{Stage}
use Rattle.nqs_types.specs.declared.request.Phase.{Phase}
use Rattle.nqs_types.specs.declared.request.Phase.TheVariants.{Offered, Committed}
use Rattle.nqs_types.specs.declared.refusal.Refusal.{Refusal}
use Rattle.nqs_types.specs.declared.edit.Edit.{Edit}
use Rattle.nqs_types.specs.declared.edit.Edit.TheVariants.{Rows as RowsOf}
use Rattle.nqs_types.specs.declared.edit.RowsEdit.TheVariants.{AbortQueue}
use Rattle.nqs_types.specs.declared.change.Change.{Change}
use Rattle.nqs_types.specs.declared.change.Change.TheVariants.{Doomed, Deleted, Edited, Unlaunched, HandOpened, HandCommitted, HandsSilent, Promised, Accepted}
use Rattle.nqs_types.specs.declared.change.Change.TheVariants.{Dropped, StageGot, StageGone, FileGone}
use Rattle.nqs_types.specs.declared.message.Message.{Message}
use Rattle.nqs_types.specs.declared.message.Body.{Body}
use Rattle.nqs_types.specs.declared.message.Body.TheVariants as body
use Rattle.nqs_types.specs.declared.event.Submission.{Submission}
use Rattle.nqs_types.specs.declared.event.Command.{Command}
use Rattle.nqs_types.specs.declared.event.Command.TheVariants as command
use Rattle.nqs_types.specs.declared.event.Event.{Event}
use Rattle.nqs_types.specs.declared.event.Event.TheVariants as event
use Rattle.nqs_types.specs.declared.event.Reply.TheVariants as reply
use Rattle.nqs_types.specs.declared.event.Output.{Output}
use Rattle.nqs_types.specs.declared.event.Output.TheVariants as out
use Rattle.nqs_rules.specs.Tests.{passes, is_running}
use Rattle.nqs_rules.specs.Causes.{first_refusal}
use Rattle.nqs_rules.specs.Find.{peer_number, find_row, meant_row, find_hand, has_promise, has_stage, find_peer, host_at}
use Rattle.nqs_rules.specs.Access.{rank, may_command}
use Rattle.nqs_rules.specs.Rows.{queue_meant, submit_causes, delete_causes}
use Rattle.nqs_rules.specs.Routing.{low}
use Rattle.nqs_rules.specs.Fits.{fits, edit_causes}
use Rattle.nqs_rules.specs.Starts.{after_change}
use Rattle.nqs_rules.specs.Applied.{applied, hand_silent, hands_silent}
use Rattle.nqs_rules.specs.Stepped.{Stepped, Pending, quiet, says, makes, ready, shown}
use Rattle.nqs_rules.specs.Handover.{closes, was_given, send_abort, send_ready, send_done, send_inquire, opened_with, offer_causes, offer_by, on_offer}
use Rattle.nqs_rules.specs.Handover.{ready_phase, ready_with, on_ready, refused_phase, refused_with, on_refused, on_commit, done_phase, done_with, on_done}
use Rattle.nqs_rules.specs.Handover.{on_abort, later, is_silent, silent_hands, staying_hands, repeat_offer, repeat_phase, repeat_hand, repeated_hands}
use Rattle.nqs_rules.specs.Handover.{inquiries, silence}
use Rattle.nqs_rules.specs.Stage.{Part, has_left, kept_parts, files_written, is_stage_to, has_stage_to, stage_sent, parts_sent, on_end, is_got, send_staged}
use Rattle.nqs_rules.specs.Stage.{on_stage, is_earlier_stage, send_stage, due_of, on_staged, on_written, file_again, stages_from, due_outputs, goes_here}
use Rattle.nqs_rules.specs.Stage.{first_number}
use Rattle.nqs_rules.specs.Step.{Asker, reply_to, answer_to, unless_refused, submit_to, kill, delete_meant, runs_in_queue, kills_of, stat_causes, ticked}
use Rattle.nqs_rules.specs.Step.{on_allowed, on_message, is_start, ended_by, acknowledged, unlaunched_by, step}
use Rattle.nqs_rules.specs.Text.{stat_lines}
use Rattle.nqs_rules.specs.InOrder.{IsInOrder, IsConsistent, is_hand_right, is_hand_given}
use Rattle.nqs_rules.specs.World.{body_number}
use Rattle.nqs_rules.specs.Start.{moving_by, local_causes}
use Rattle.nqs_rules.specs.Fits.{is_offered_hand}
use Rattle.nqs_rules.proofs.ListFacts.{found_again, list_all-found, list_all-weaker, not_true}
use Rattle.nqs_rules.proofs.RowFacts.{same_peer_number}
use Rattle.nqs_rules.proofs.RowsOrder.{hand_is}
use Rattle.nqs_rules.proofs.StateFacts.{keys_are}
use Rattle.nqs_rules.proofs.Sublists.{part_all, filter_part}
use Rattle.nqs_rules.proofs.FindKept.{all-mapped}
use Rattle.nqs_rules.proofs.HandoversOrder.{not_committed, offer_or_none, still_offered, silent_one}
use Rattle.nqs_rules.proofs.ConsistentOrder.{silent_calm_one}
use Rattle.nqs_rules.specs.Picked.{PlainRow}
use Rattle.nqs_laws.specs.Loads.{Load, kept_load, sent_load}
use Rattle.nqs_laws.proofs.Makes.{HasHand}
use Rattle.nqs_laws.proofs.Sent.{Begins, Launches, Prints, Holds as HoldsFar, Moves, Opens}
use Rattle.nqs_laws.specs.Handovers.{is_closed_for, next_of, next_for, low_for}
use Rattle.nqs_laws.proofs.LowFacts.{is_above, low_above, low_next, low_each}
use Rattle.nqs_laws.proofs.Hands.{silents_pass}
use Rattle.nqs_laws.proofs.Silence.{none_silent}
use Rattle.nqs_laws.proofs.Pair.{NoOffer, Open, Given, NoPledge, Pledged, Pair, IsTaken, IsGiven, IsOf, IsNoOffer, OfferOk, PledgeOk, OfferOf, ReadyFor}
use Rattle.nqs_laws.proofs.Pair.{CommitOf}
use Rattle.nqs_laws.proofs.Pair.{Ok as IsPairOk, Holds, moved, pair, given, Stays, Withdraws, Commits, Pledges, Accepts}
use Rattle.nqs_laws.proofs.Views.{Pledging, phase_seen, offer_seen, offered, gave, pledge_seen, pledged, pair_of, has_number_key, Source, Target}
use Rattle.nqs_laws.proofs.Turns.{to_move, from_move, low_move, sources, offers_by, silent_source, key_here, same_key, opening_window}
use Rattle.nqs_laws.proofs.Lows.{IsWide, low_below, lows_grow, silents_next}
use Rattle.nqs_laws.proofs.Targets.{IsLowRight, targets}
use Rattle.nqs_laws.proofs.Paired.{At, HoldsFor, IsTrueWord, LowWord, IsLowWord, open_offer, given_offer, pledge_at, no_hand_seen}

-- what makes a message true, of the state of its sender
abbrev pub Local : List Plain → HostId → Plain → HostId → Body → Type 0
Local states h s peer (body.Offer n low queue c script) =
    (offered s peer n ≡ Open (sent_load queue c script)) × (low ≤ n) × (n ≤ low + 63) × (low ≤ low_for peer s)
Local states h s peer (body.Commit n) = (id : RequestId) × (queue : List ℕ) × (offered s peer n ≡ Given id queue)
Local states h s peer (body.Abort n) = (gave s peer n ≡ true) × IsNoOffer (offered s peer n)
Local states h s peer (body.Ready n) = (load : Load) × (pledged s peer n ≡ Pledged load)
Local states h s peer (body.Inquire n) = (load : Load) × (pledged s peer n ≡ Pledged load)
Local states h s peer (body.Done n) = is_closed_for peer n s ≡ true
Local states h s peer (body.Refused n refusal) = (v : Plain) → At states peer v → gave v h n ≡ true
Local states h s peer b = Unit {0}

offer_holds : (p : Pair) (load : Load) → IsPairOk p → p.offer ≡ Open load → Holds p (OfferOf load)
offer_holds p load ok e = ((subst (λ o. OfferOk o p.numbered p.pledge p.closed) e ok.offer).0, subst (λ o. IsOf o load) (sym e) refl)

commit_holds : (p : Pair) (id : RequestId) (queue : List ℕ) → IsPairOk p → p.offer ≡ Given id queue → Holds p CommitOf
commit_holds p id queue ok e = ((subst (λ o. OfferOk o p.numbered p.pledge p.closed) e ok.offer).0, subst (λ o. IsGiven o p.closed) (sym e) tt)

ready_holds : (p : Pair) (load : Load) → IsPairOk p → p.pledge ≡ Pledged load → Holds p ReadyFor
ready_holds p load ok e = ((subst (λ q. PledgeOk q p.numbered p.closed) e ok.pledge).0, subst (λ q. IsTaken q p.closed) (sym e) tt)

pub local_true : (states : List Plain) → ((a b : HostId) (s t : Plain) → At states a s → At states b t → (n : ℕ) → IsPairOk (pair_of a s b t n)) → (x : Message)
    (s : Plain)
    → At states x.from s → Local states x.from s x.to x.body → IsTrueWord states x
local_true states pairs x s at local u v uat vat =
    let same : s ≡ u = same_Some s u (sym at ∙ uat) in
    by x.body (pairs x.from x.to u v uat vat (body_number x.body)) (pairs x.to x.from v u vat uat (body_number x.body))
    (subst (λ w. Local states x.from w x.to x.body) same local)
  where
    by : (b : Body) → IsPairOk (pair_of x.from u x.to v (body_number b)) → IsPairOk (pair_of x.to v x.from u (body_number b)) → Local states x.from u x.to b
        → HoldsFor (pair_of x.from u x.to v (body_number b)) (pair_of x.to v x.from u (body_number b)) b
    by (body.Offer n low queue c script) out back l = offer_holds (pair_of x.from u x.to v n) (sent_load queue c script) out l.0
    by (body.Commit n) out back l = commit_holds (pair_of x.from u x.to v n) l.0 l.1 out l.2
    by (body.Abort n) out back l = l
    by (body.Ready n) out back l = ready_holds (pair_of x.to v x.from u n) l.0 back l.1
    by (body.Inquire n) out back l = ready_holds (pair_of x.to v x.from u n) l.0 back l.1
    by (body.Done n) out back l = (back.closed l, l)
    by (body.Refused n refusal) out back l = (l v vat, tt)
    by b out back l = tt

pub local_low : (states : List Plain) (x : Message) (s : Plain) → At states x.from s → Local states x.from s x.to x.body → IsLowWord states x
local_low states x s at local u uat =
    let same : s ≡ u = same_Some s u (sym at ∙ uat) in
    by x.body (subst (λ w. Local states x.from w x.to x.body) same local)
  where
    by : (b : Body) → Local states x.from u x.to b → LowWord b x.to u
    by (body.Offer n low queue c script) l = (l.1, l.2, l.3)
    by b l = tt

-- small facts

pub all-both : {V : Type 0} (P : V → Type 0) (a b : List V) → AllByRecursion P a → AllByRecursion P b → AllByRecursion P (a ++ b)
all-both P [] b p q = q
all-both P (x ∷ a) b p q = (p.0, all-both P a b p.1 q)

all-each : {V W : Type 0} (P : W → Type 0) (g : V → List W) (vs : List V) → ((i : ℕ) (v : V) → slice_get vs i ≡ Some v → AllByRecursion P (g v))
    → AllByRecursion P (flat_map g vs)
all-each P g [] f = tt
all-each P g (v ∷ vs) f = all-both P (g v) (flat_map g vs) (f 0 v refl) (all-each P g vs (λ i w at. f (suc i) w at))

all-map : {V W : Type 0} (P : W → Type 0) (g : V → W) (vs : List V) → ((i : ℕ) (v : V) → slice_get vs i ≡ Some v → P (g v)) → AllByRecursion P (map g vs)
all-map P g [] f = tt
all-map P g (v ∷ vs) f = (f 0 v refl, all-map P g vs (λ i w at. f (suc i) w at))

-- silent offers that are taken back leave those of other numbers
pub silents_stand : (until : ℕ) (ks : List PeerNumber) (s : Plain) → IsInOrder s → IsConsistent s
    → list_all (λ k. not_committed (find_hand k.peer k.number s)) ks ≡ true
    → (b : HostId) (n : ℕ) → list_all (λ (k : PeerNumber). not (has_number_key b n k)) ks ≡ true → offered (hands_silent until ks s) b n ≡ offered s b n
silents_stand until [] s o calm fit b n far = refl
silents_stand until (k ∷ ks) s o calm fit b n far =
    let p = and_parts (not_committed (find_hand k.peer k.number s)) (list_all (λ l. not_committed (find_hand l.peer l.number s)) ks) fit in
    let q = and_parts (not (has_number_key b n k)) (list_all (λ (l : PeerNumber). not (has_number_key b n l)) ks) far in
    of (find_hand k.peer k.number s) refl p.0 p.1 q.0 q.1 (silents_stand until ks)
  where
    of : (x : Option Hand) → find_hand k.peer k.number s ≡ x → not_committed x ≡ true → list_all (λ l. not_committed (find_hand l.peer l.number s)) ks ≡ true
        → not (has_number_key b n k) ≡ true → list_all (λ (l : PeerNumber). not (has_number_key b n l)) ks ≡ true
        → ((u : Plain) → IsInOrder u → IsConsistent u → list_all (λ l. not_committed (find_hand l.peer l.number u)) ks ≡ true → (c : HostId) (i : ℕ)
        → list_all (λ (l : PeerNumber). not (has_number_key c i l)) ks ≡ true → offered (hands_silent until ks u) c i ≡ offered u c i)
        → offered (hands_silent until ks (hand_silent until k x s)) b n ≡ offered s b n
    of None e opens rest far others again = again s o calm rest b n others
    of (Some y) e opens rest far others again =
        let u = hand_silent until k (Some y) s in
        again u (silent_one s o k y e opens until) (silent_calm_one s o calm k y e opens until)
        (list_all-weaker (λ l. not_committed (find_hand l.peer l.number s)) (λ l. not_committed (find (is_hand l) (without_first (is_hand k) s.hands)))
        (λ l. still_offered s o k l) ks rest) b n others
        ∙ (let z = silent_source s o calm until k y e opens b n in
        z.offer ∙ ap (λ d. (moved (pair (offered s b n) (gave s b n) NoPledge false) (if d then Withdraws else Stays)).offer)
        (not_true (has_number_key b n k) far))

pub silents_promises : (until : ℕ) (ks : List PeerNumber) (s : Plain) → (hands_silent until ks s).promises ≡ s.promises
silents_promises until [] s = refl
silents_promises until (k ∷ ks) s = silents_promises until ks (hand_silent until k (find_hand k.peer k.number s) s) ∙ of (find_hand k.peer k.number s)
  where
    of : (x : Option Hand) → (hand_silent until k x s).promises ≡ s.promises
    of None = refl
    of (Some y) = refl

-- each value is silent or passes, where those that aren't silent pass
spared_all : (silent q : Hand → Bool) (ys : List Hand) → list_all q (filter (λ y. not (silent y)) ys) ≡ true → list_all (λ y. silent y || q y) ys ≡ true
spared_all silent q [] k = refl
spared_all silent q (y ∷ ys) k = by (silent y) k (spared_all silent q ys)
  where
    by : (b : Bool) → list_all q (cond (not b) (y ∷ filter (λ y. not (silent y)) ys) (filter (λ y. not (silent y)) ys)) ≡ true
        → (list_all q (filter (λ y. not (silent y)) ys) ≡ true → list_all (λ y. silent y || q y) ys ≡ true)
        → ((b || q y) && list_all (λ y. silent y || q y) ys) ≡ true
    by true k rest = rest k
    by false k rest = let p = and_parts (q y) (list_all q (filter (λ y. not (silent y)) ys)) k in
        and_from (q y) (list_all (λ y. silent y || q y) ys) p.0 (rest p.1)

-- and all pass where none is silent
spared_pass : (silent q : Hand → Bool) (ys : List Hand) → list_all (λ y. silent y || q y) ys ≡ true → list_any silent ys ≡ false → list_all q ys ≡ true
spared_pass silent q [] k none = refl
spared_pass silent q (y ∷ ys) k none = let p = and_parts (silent y || q y) (list_all (λ y. silent y || q y) ys) k in
    by (silent y) p.0 none (spared_pass silent q ys p.1)
  where
    by : (b : Bool) → (b || q y) ≡ true → (b || list_any silent ys) ≡ false → (list_any silent ys ≡ false → list_all q ys ≡ true)
        → (q y && list_all q ys) ≡ true
    by true k none rest = absurd (true≢false none)
    by false k none rest = and_from (q y) (list_all q ys) k (rest none)

-- what is kept of a list passes what follows from passing
kept_pass : {V : Type 0} (keep q : V → Bool) (vs : List V) → ((i : ℕ) (v : V) → slice_get vs i ≡ Some v → keep v ≡ true → q v ≡ true)
    → list_all q (filter keep vs) ≡ true
kept_pass keep q [] f = refl
kept_pass keep q (v ∷ vs) f = by (keep v) refl (kept_pass keep q vs (λ i w at. f (suc i) w at))
  where
    by : (b : Bool) → keep v ≡ b → list_all q (filter keep vs) ≡ true → list_all q (cond b (v ∷ filter keep vs) (filter keep vs)) ≡ true
    by true e rest = and_from (q v) (list_all q (filter keep vs)) (f 0 v refl e) rest
    by false e rest = rest

module _ (states : List Plain) (h : HostId) (s : Plain) (o : IsInOrder s) (calm : IsConsistent s) (wide : IsWide s) where
  -- an output whose message is true of this state
  abbrev pub LocalOut : Plain → Output → Type 0
  LocalOut t (out.Send m) = (m.from ≡ s.me) × Local states h t m.to m.body
  LocalOut t x = Unit {0}

  abbrev Said : Plain → Pending (List ℕ) → Type 0
  Said t p = LocalOut t (shown p)

  abbrev AreSaid : Plain → List (Pending (List ℕ)) → Type 0
  AreSaid t ps = AllByRecursion (Said t) ps

  -- what a step sends is true of the state after it
  abbrev pub Spoken : Stepped (List ℕ) → Type 0
  Spoken y = ((c : Change (List ℕ)) → y.change ≡ Some c → fits c s ≡ true) → AreSaid (after_change y.change s) y.outputs

  one : (c : Change (List ℕ)) → ((until : ℕ) (ks : List PeerNumber) → c ≡ HandsSilent until ks → ⊥) → IsLowRight c → fits c s ≡ true
      → ((b : HostId) (n : ℕ) → Source s (applied c s) b n (to_move c s b n)) × ((a : HostId) (n : ℕ) → Target s (applied c s) a n (from_move c a n))
  one c single right fit = (sources s o calm c fit single, targets s o c fit right single)

  -- its sender gave the number of an offer, and its low is at most that
  abbrev pub IsNumbered : ℕ → ℕ → HostId → Type 0
  IsNumbered n low peer = ((v : Plain) → At states peer v → gave v h n ≡ true) × (low ≤ n)

  -- OFFER
  offer_spoken : (peer : HostId) (n low : ℕ) (queue : List ℕ) (c : Carried) (script : List ℕ) → ((v : Plain) → At states peer v → gave v h n ≡ true)
      → low ≤ n → Spoken (on_offer peer n low queue c script s)
  offer_spoken peer n low queue c script below right = by (closes n (find_peer peer s)) refl (has_promise peer n s) refl
    where
      made : (r : Result (Unit {0}) Refusal) → Spoken (offer_by r peer n low queue c script s)
      made (Err r) fit = ((refl, below), tt)
      made (Ok u) fit =
          let t = (one (Promised peer n low queue c script) (λ until ks e. cc) right (fit (Promised peer n low queue c script) refl)).1 peer n in (
            (
              refl,
              (
                sent_load queue c script,
                t.pledge ∙ ap (λ b. (moved (pair NoOffer false (pledged s peer n) (is_closed_for peer n s))
                    (if b then Pledges (sent_load queue c script) else low_move peer low peer n)).pledge) (same_key peer n),
              ),
            ),
            tt,
          )

      by : (a : Bool) → closes n (find_peer peer s) ≡ a → (b : Bool) → has_promise peer n s ≡ b
          → Spoken (if a then says (send_done s peer n ∷ []) else (if b then says (send_ready s peer n ∷ []) else
          offer_by (first_refusal (offer_causes peer low queue c s)) peer n low queue c script s))
      by true e b f fit = ((refl, e), tt)
      by false e true f fit = (let p = pledge_at s peer n f in ((refl, (kept_load p.0.row, p.1)), tt))
      by false e false f fit = made (first_refusal (offer_causes peer low queue c s)) fit

  -- READY and INQUIRE
  ready_spoken : (peer : HostId) (n : ℕ) → Spoken (on_ready peer n s)
  ready_spoken peer n = of (find_hand peer n s) refl
    where
      missing : find_hand peer n s ≡ None → (b : Bool) → was_given n (find_peer peer s) ≡ b → Spoken (if b then says (send_abort s peer n ∷ []) else quiet)
      missing none true e fit = ((refl, (e, no_hand_seen s peer n none)), tt)
      missing none false e fit = tt

      by : (y : Hand) → find_hand peer n s ≡ Some y → (p : Phase) → y.phase ≡ p → Spoken (ready_phase p peer n s)
      by y found Offered is fit =
          let t = (one (HandCommitted peer n) (λ until ks e. cc) tt (fit (HandCommitted peer n) refl)).0 peer n in
          let hand : HasHand Offered peer n s = record { hand = y; found = found; is = is } in
          let opens = open_offer s o peer n hand in (
            (
              refl,
              (
                opens.0.carried.id,
                opens.0.queue,
                t.offer ∙ (ap (λ b. (moved (pair (offered s peer n) (gave s peer n) NoPledge false)
                    (if b then Commits else Stays)).offer) (same_key peer n) ∙ ap given opens.1),
              ),
            ),
            tt,
          )
      by y found Committed is fit = ((refl, (y.id, y.queue, given_offer s peer n (record { hand = y; found = found; is = is }))), tt)

      of : (x : Option Hand) → find_hand peer n s ≡ x → Spoken (ready_with x peer n s)
      of None e fit = missing e (was_given n (find_peer peer s)) refl fit
      of (Some y) e fit = by y e y.phase refl fit

  refused_spoken : (peer : HostId) (n refusal : ℕ) → Spoken (on_refused peer n refusal s)
  refused_spoken peer n refusal = of (find_hand peer n s)
    where
      by : (p : Phase) → Spoken (refused_phase p peer n refusal)
      by Offered fit = tt
      by Committed fit = tt

      of : (x : Option Hand) → Spoken (refused_with x peer n refusal)
      of None fit = tt
      of (Some y) fit = by y.phase fit

  done_spoken : (peer : HostId) (n : ℕ) → Spoken (on_done peer n s)
  done_spoken peer n = of (find_hand peer n s)
    where
      by : (p : Phase) → Spoken (done_phase p peer n)
      by Offered fit = tt
      by Committed fit = tt

      of : (x : Option Hand) → Spoken (done_with x peer n)
      of None fit = tt
      of (Some y) fit = by y.phase fit

  -- COMMIT
  commit_spoken : (peer : HostId) (n : ℕ) → Spoken (on_commit peer n s)
  commit_spoken peer n = by (has_promise peer n s) refl (closes n (find_peer peer s)) refl
    where
      by : (a : Bool) → has_promise peer n s ≡ a → (b : Bool) → closes n (find_peer peer s) ≡ b
          → Spoken (if a then makes (Accepted peer n) (send_done s peer n ∷ []) else (if b then says (send_done s peer n ∷ []) else quiet))
      by true e b f fit =
          let t = (one (Accepted peer n) (λ until ks g. cc) tt (fit (Accepted peer n) refl)).1 peer n in (
            (
              refl,
              t.closed ∙ ap (λ z. (moved (pair NoOffer false (pledged s peer n) (is_closed_for peer n s)) (if z then Accepts else Stays)).closed)
                  (same_key peer n),
            ),
            tt,
          )
      by false e true f fit = ((refl, f), tt)
      by false e false f fit = tt

  abort_spoken : (peer : HostId) (n : ℕ) → Spoken (on_abort peer n s)
  abort_spoken peer n = by (has_promise peer n s)
    where
      by : (a : Bool) → Spoken (if a then makes (Dropped peer n) [] else quiet)
      by true fit = tt
      by false fit = tt

  -- outputs of jobs

  due_said : (t : Plain) (peer : HostId) (stages : List (Stage (List ℕ))) → AreSaid t (due_of s peer stages)
  due_said t peer stages = of (best_from (is_stage_to peer) is_earlier_stage 0 stages)
    where
      of : (x : Option (ℕ × Stage (List ℕ))) → AreSaid t (send_stage s x)
      of None = tt
      of (Some q) = ((refl, tt), tt)

  due_outputs_said : (t : Plain) → AreSaid t (due_outputs s)
  due_outputs_said t = all-both (Said t) (stages_from 0 s s.site) (map file_again s.files) (stages 0 s.site)
      (all-map (Said t) file_again s.files (λ i f at. tt))
    where
      stages : (place : ℕ) (site : List (List ℕ)) → AreSaid t (stages_from place s site)
      stages place [] = tt
      stages place (name ∷ site) = all-both (Said t) (due_of s (host_at place) s.stages) (stages_from (place + 1) s site) (due_said t (host_at place) s.stages)
          (stages (place + 1) site)

  stage_spoken : (peer : HostId) (n : ℕ) (path bytes : List ℕ) → Spoken (on_stage peer n path bytes s)
  stage_spoken peer n path bytes = by (passes (is_got n) (find_peer peer s)) (has_left s.file_next 0)
    where
      by : (a b : Bool) → Spoken (if a then says (send_staged s peer n ∷ []) else
          (if b then makes (StageGot peer n path bytes) (send_staged s peer n ∷ ready (out.File s.file_next path bytes) ∷ []) else
          makes (StageGot peer n path []) (send_staged s peer n ∷ [])))
      by true b fit = ((refl, tt), tt)
      by false true fit = ((refl, tt), (tt, tt))
      by false false fit = ((refl, tt), tt)

  staged_spoken : (peer : HostId) (n : ℕ) → Spoken (on_staged peer n s)
  staged_spoken peer n = by (has_stage peer n s)
    where
      by : (a : Bool) → Spoken (if a then makes (StageGone peer n) (due_of s peer (without_first (is_stage (peer_number peer n)) s.stages)) else quiet)
      by true fit = due_said (applied (StageGone peer n) s) peer (without_first (is_stage (peer_number peer n)) s.stages)
      by false fit = tt

  message_spoken : (peer : HostId) (b : Body) → ((n low : ℕ) (queue : List ℕ) (c : Carried) (script : List ℕ) → b ≡ body.Offer n low queue c script
      → IsNumbered n low peer) → Spoken (on_message peer b s)
  message_spoken peer (body.Offer n low queue c script) below fit =
      let k = below n low queue c script refl in offer_spoken peer n low queue c script k.0 k.1 fit
  message_spoken peer (body.Ready n) below fit = ready_spoken peer n fit
  message_spoken peer (body.Refused n refusal) below fit = refused_spoken peer n refusal fit
  message_spoken peer (body.Commit n) below fit = commit_spoken peer n fit
  message_spoken peer (body.Done n) below fit = done_spoken peer n fit
  message_spoken peer (body.Inquire n) below fit = ready_spoken peer n fit
  message_spoken peer (body.Abort n) below fit = abort_spoken peer n fit
  message_spoken peer (body.Stage n path bytes) below fit = stage_spoken peer n path bytes fit
  message_spoken peer (body.Staged n) below fit = staged_spoken peer n fit
  message_spoken peer b below fit = tt

  -- a tick

  module _ (now : ℕ) (fit : (c : Change (List ℕ)) → (ticked now s).change ≡ Some c → fits c s ≡ true) where
    ticked_state : Plain
    ticked_state = after_change (silence now s.retry_wait (silent_hands now s)) s

    module _ (b : HostId) (n : ℕ) (far : list_all (λ (k : PeerNumber). not (has_number_key b n k)) (silent_hands now s) ≡ true) where
      still_there : offered ticked_state b n ≡ offered s b n
      unfolding ticked_state
      still_there = of (silent_hands now s) refl far fit
        where
          of : (ks : List PeerNumber) → silent_hands now s ≡ ks → list_all (λ (k : PeerNumber). not (has_number_key b n k)) ks ≡ true
              → ((c : Change (List ℕ)) → silence now s.retry_wait ks ≡ Some c → fits c s ≡ true)
              → offered (after_change (silence now s.retry_wait ks) s) b n ≡ offered s b n
          of [] e f fit = refl
          of (k ∷ ks) e f fit =
              silents_stand _ (k ∷ ks) s o calm (list_all-weaker (λ l. passes is_offered_hand (find_hand l.peer l.number s))
              (λ l. not_committed (find_hand l.peer l.number s)) (λ l. offer_or_none (find_hand l.peer l.number s)) (k ∷ ks) (fit _ refl)) b n f

    hand_again : (i : ℕ) (y : Hand) → slice_get s.hands i ≡ Some y → find_hand y.peer y.number s ≡ Some y
    hand_again i y at = found_again peer_number_eq hand_key peer_number_exact same_peer_number s.hands i y (keys_are s o.keys).hands at

    -- a hand that isn't silent has another number than each silent one
    far_from : (i : ℕ) (y : Hand) → slice_get s.hands i ≡ Some y → is_silent now s y ≡ false
        → list_all (λ (k : PeerNumber). not (has_number_key y.peer y.number k)) (silent_hands now s) ≡ true
    far_from i y at speaks =
        all-mapped (λ (z : Hand). not (has_number_key y.peer y.number (hand_key z))) (λ (k : PeerNumber). not (has_number_key y.peer y.number k))
        (λ (z : Hand). peer_number z.peer z.number)
        (λ z k. k) (filter (is_silent now s) s.hands)
        (kept_pass (is_silent now s) (λ (z : Hand). not (has_number_key y.peer y.number (hand_key z))) s.hands (λ j z zat silent.
        not_from_false (has_number_key y.peer y.number (hand_key z)) (false_from_ne_true (has_number_key y.peer y.number (hand_key z)) (λ same.
        let one : y ≡ z = same_Some y z (sym (hand_again i y at) ∙ (ap (λ p. find (is_hand p) s.hands) (key_here y.peer y.number (hand_key z) same)
        ∙ hand_again j z zat)) in
        true≢false (sym silent ∙ (ap (is_silent now s) (sym one) ∙ speaks))))))

    -- the low that a tick says

    abbrev said_low : HostId → ℕ → ℕ
    said_low b n = low b n (staying_hands now s)

    ticked_is : ticked_state ≡ hands_silent (later now s.retry_wait) (silent_hands now s) s
    unfolding ticked_state
    ticked_is = same (silent_hands now s)
      where
        same : (ks : List PeerNumber) → after_change (silence now s.retry_wait ks) s ≡ hands_silent (later now s.retry_wait) ks s
        same [] = refl
        same (k ∷ ks) = refl

    low_said : (i : ℕ) (y : Hand) → slice_get s.hands i ≡ Some y
        → (said_low y.peer y.number ≤ y.number) × (y.number ≤ said_low y.peer y.number + 63) × (said_low y.peer y.number ≤ low_for y.peer ticked_state)
    low_said i y at =
        let here = hand_again i y at in
        let few = low_next y.peer y.number (staying_hands now s) in
        let window = wide y.peer in
        let least = low_below s y.peer y.number y here in
        let given = number_below (find_peer y.peer s) refl in
        let grown : low_for y.peer s ≤ said_low y.peer y.number = low_above y.peer (low_for y.peer s) y.number (staying_hands now s) least
        (part_all (is_above y.peer (low_for y.peer s)) (filter_part (λ z. not (is_silent now s z)) s.hands)
        (low_each y.peer (low_for y.peer s) (next_for y.peer s) s.hands (omega arith))) in
        (few, omega (arith, window, given, grown), ticked_low given)
      where
        v : ℕ
        v = said_low y.peer y.number

        number_below : (p : Option Peer) → find_peer y.peer s ≡ p → y.number < next_of p
        number_below p e = of p (subst (λ x. passes (is_hand_given y.number) x ≡ true) e
            (hand_is s y (list_all-found (is_hand_right s) (is_hand (peer_number y.peer y.number)) s.hands y o.hands (hand_again i y at))).given)
          where
            of : (p : Option Peer) → passes (is_hand_given y.number) p ≡ true → y.number < next_of p
            of None k = absurd (true≢false (sym k))
            of (Some p) k = ltb-true y.number p.next (and_parts (nat_le 1 y.number) (nat_lt y.number p.next) k).1

        spared : Hand → Bool
        spared z = is_silent now s z || is_above y.peer (said_low y.peer y.number) z

        ticked_low : y.number < next_for y.peer s → said_low y.peer y.number ≤ low_for y.peer ticked_state
        ticked_low below = subst (λ (t : Plain). said_low y.peer y.number ≤ low_for y.peer t) (sym ticked_is)
            (let next = silents_next s o calm (later now s.retry_wait) (silent_hands now s) s y.peer in
            let few = low_next y.peer y.number (staying_hands now s) in
            low_above y.peer (said_low y.peer y.number) (next_for y.peer (hands_silent (later now s.retry_wait) (silent_hands now s) s))
            (hands_silent (later now s.retry_wait) (silent_hands now s) s).hands (omega (arith, next, few, below))
            (spared_pass (is_silent now s) (is_above y.peer (said_low y.peer y.number)) (hands_silent (later now s.retry_wait) (silent_hands now s) s).hands
            (silents_pass (λ z. is_silent now s z || is_above y.peer (said_low y.peer y.number) z) (later now s.retry_wait) (silent_hands now s) s
            (spared_all (is_silent now s) (is_above y.peer (said_low y.peer y.number)) s.hands
            (low_each y.peer (said_low y.peer y.number) y.number (staying_hands now s) (omega arith))))
            (none_silent now s o (later now s.retry_wait))))

    hand_said : (i : ℕ) (y : Hand) → slice_get s.hands i ≡ Some y → AreSaid ticked_state (repeat_hand now s y)
    hand_said i y at = by (is_silent now s y) refl
      where
        seen_offer : offered s y.peer y.number ≡ phase_seen y.phase y (find_row y.id s)
        seen_offer = ap (λ x. offer_seen x s) (hand_again i y at)

        again : is_silent now s y ≡ false → y.phase ≡ Offered → (x : Option PlainRow) → find_row y.id s ≡ x → AreSaid ticked_state (repeat_offer now s y x)
        again speaks is None e = tt
        again speaks is (Some r) e =
            let k = low_said i y at in (
              (
                refl,
                (
                  still_there y.peer y.number (far_from i y at speaks)
                      ∙ (seen_offer ∙ (ap (λ p. phase_seen p y (find_row y.id s)) is ∙ ap (phase_seen Offered y) e)),
                  k.0,
                  k.1,
                  k.2,
                ),
              ),
              tt,
            )

        of : (p : Phase) → y.phase ≡ p → is_silent now s y ≡ false → AreSaid ticked_state (repeat_phase p now s y)
        of Offered is speaks = again speaks is (find_row y.id s) refl
        of Committed is speaks = (
          (
            refl,
            (
              y.id,
              y.queue,
              still_there y.peer y.number (far_from i y at speaks)
                  ∙ (seen_offer ∙ ap (λ p. phase_seen p y (find_row y.id s)) is),
            ),
          ),
          tt,
        )

        by : (b : Bool) → is_silent now s y ≡ b → AreSaid ticked_state (if b then [] else repeat_phase y.phase now s y)
        by true e = tt
        by false e = of y.phase refl e

    promises_there : ticked_state.promises ≡ s.promises
    unfolding ticked_state
    promises_there = of (silent_hands now s)
      where
        of : (ks : List PeerNumber) → (after_change (silence now s.retry_wait ks) s).promises ≡ s.promises
        of [] = refl
        of (k ∷ ks) = silents_promises _ (k ∷ ks) s

    inquiry_said : (i : ℕ) (p : Pledging) → slice_get s.promises i ≡ Some p → Said ticked_state (send_inquire s p)
    inquiry_said i p at = (
      refl,
      (
        kept_load p.row,
        ap (λ ps. pledge_seen (find (is_promise (promise_key p)) ps)) promises_there
            ∙ ap pledge_seen (found_again peer_number_eq promise_key peer_number_exact same_peer_number s.promises i p (keys_are s o.keys).promises at),
      ),
    )

    tick_said : AreSaid ticked_state (ticked now s).outputs
    tick_said =
        all-both (Said ticked_state) (repeated_hands now s ++ inquiries s) (due_outputs s)
        (all-both (Said ticked_state) (repeated_hands now s) (inquiries s) (all-each (Said ticked_state) (repeat_hand now s) s.hands hand_said)
        (all-map (Said ticked_state) (send_inquire s) s.promises inquiry_said)) (due_outputs_said ticked_state)

  tick_spoken : (now : ℕ) → Spoken (ticked now s)
  unfolding ticked_state
  tick_spoken now fit = tick_said now fit

  -- commands

  unless_spoken : (a : Asker) (r : Result (Unit {0}) Refusal) (done : Stepped (List ℕ)) → Spoken done → Spoken (unless_refused a r done)
  unless_spoken a (Err x) done k fit = (tt, tt)
  unless_spoken a (Ok u) done k fit = k fit

  kills_said : (t : Plain) (rows : List PlainRow) → AreSaid t (map kill rows)
  kills_said t rows = all-map (Said t) kill rows (λ i r at. tt)

  edit_said : (t : Plain) (e : Edit) → AreSaid t (kills_of e s)
  edit_said t (RowsOf (AbortQueue q)) = kills_said t (filter (runs_in_queue q) s.rows)
  edit_said t e = tt

  submit_spoken : (a : Asker) (sub : Submission) (x : Option (List ℕ)) → Spoken (submit_to a sub s x)
  submit_spoken a sub None fit = (tt, tt)
  submit_spoken a sub (Some q) fit = (tt, tt)

  delete_spoken : (a : Asker) (id : Named) (x : Option PlainRow) → Spoken (delete_meant a id x)
  delete_spoken a id None fit = (tt, tt)
  delete_spoken a id (Some r) fit = by (is_running r.state) fit
    where
      by : (b : Bool) → Spoken (if b then makes (Doomed r.id) (reply_to a (reply.Signalled r.id) ∷ kill r ∷ []) else
          makes (Deleted r.id) (reply_to a (reply.Deleted r.id) ∷ []))
      by true fit = (tt, (tt, tt))
      by false fit = (tt, tt)

  command_spoken : (now : ℕ) (a : Asker) (user : List ℕ) (c : Command) → Spoken (on_allowed now a user c s)
  command_spoken now a user (command.Submit sub) fit = unless_spoken a (first_refusal (submit_causes sub s))
      (submit_to a sub s (queue_meant sub.queue s.default_queue)) (submit_spoken a sub (queue_meant sub.queue s.default_queue)) fit
  command_spoken now a user (command.Edit e) fit = unless_spoken a (first_refusal (edit_causes e s)) (makes (Edited e) (reply_to a reply.Done ∷ kills_of e s))
      (λ f. (tt, edit_said (applied (Edited e) s) e)) fit
  command_spoken now a user (command.Stat owner queues) fit = unless_spoken a (first_refusal (stat_causes queues s))
      (answer_to a (reply.Lines (stat_lines owner queues s))) (λ f. (tt, tt)) fit
  command_spoken now a user (command.Delete id forced) fit = unless_spoken a (first_refusal (delete_causes user id forced s))
      (delete_meant a id (meant_row id s)) (delete_spoken a id (meant_row id s)) fit
  command_spoken now a user (command.Show code) fit = (tt, tt)
  command_spoken now a user (command.Why id) fit = (tt, tt)
  command_spoken now a user command.Shutdown fit = (tt, tt)
  command_spoken now a user command.Tick fit = all-both (Said (after_change (ticked now s).change s)) (ticked now s).outputs (reply_to a reply.Done ∷ [])
      (tick_spoken now fit) (tt, tt)
  command_spoken now a user (command.UnreadLine fault) fit = (tt, tt)
  command_spoken now a user (command.UnreadWords fault) fit = (tt, tt)

  -- ends

  parts_said : (t : Plain) (id : RequestId) (parts : List Part) → AreSaid t (parts_sent s id parts)
  parts_said t id parts = by (goes_here s id) (has_stage_to id.host s) (first_number s id)
    where
      files : (n : ℕ) (ps : List Part) → AreSaid t (files_written n ps)
      files n [] = tt
      files n (p ∷ ps) = (tt, files (n + 1) ps)

      sent : (n : ℕ) (ps : List Part) → AreSaid t (stage_sent s.me id.host n ps)
      sent n [] = tt
      sent n (p ∷ ps) = ((refl, tt), tt)

      by : (a b : Bool) (n : ℕ) → AreSaid t (if a then files_written s.file_next parts else (if b then [] else stage_sent s.me id.host n parts))
      by true b n = files s.file_next parts
      by false true n = tt
      by false false n = sent n parts

  acks_said : (t : Plain) (port : ℕ) (id : RequestId) (start : ℕ) → AreSaid t (acknowledged port id start)
  acks_said t port id start = by (port == 0)
    where
      by : (b : Bool) → AreSaid t (if b then [] else ready (out.Ack port id start) ∷ [])
      by true = tt
      by false = (tt, tt)

  ended_said : (x : Option PlainRow) (start status : ℕ) (output error : List ℕ) (t : Plain) → AreSaid t (ended_by x start status output error s).outputs
  ended_said None start status output error t = tt
  ended_said (Some r) start status output error t = by (is_start start r)
    where
      by : (b : Bool) → AreSaid t (if b then on_end status r output error s else quiet).outputs
      by true = (tt, parts_said t r.id (kept_parts s r output error))
      by false = tt

  unlaunched_said : (x : Option PlainRow) (id : RequestId) (start : ℕ) (t : Plain) → AreSaid t (unlaunched_by x id start).outputs
  unlaunched_said None id start t = tt
  unlaunched_said (Some r) id start t = by (is_start start r)
    where
      by : (b : Bool) → AreSaid t (if b then makes (Unlaunched id) (ready (out.Unlaunched id start) ∷ []) else quiet).outputs
      by true = (tt, tt)
      by false = tt

  written_spoken : (file : ℕ) → Spoken (on_written file s)
  written_spoken file = by (list_any (is_file file) s.files)
    where
      by : (b : Bool) → Spoken (if b then makes (FileGone file) [] else quiet)
      by true fit = tt
      by false fit = tt

  -- what an event makes a host say is true
  pub step_spoken : (e : Event) → ((now : ℕ) (m : Message) (n low : ℕ) (queue : List ℕ) (c : Carried) (script : List ℕ) → e ≡ event.Arrived now m
      → m.body ≡ body.Offer n low queue c script → IsNumbered n low m.from) → Spoken (step e s)
  step_spoken (event.Ask now port token user c) below fit =
      unless_spoken (record { port = port; token = token }) (may_command (rank user s) c) (on_allowed now (record { port = port; token = token }) user c s)
      (command_spoken now (record { port = port; token = token }) user c) fit
  step_spoken (event.Arrived now m) below fit = message_spoken m.from m.body (λ n low queue c script. below now m n low queue c script refl) fit
  step_spoken (event.Ended now port id start status output error) below fit =
      let t = after_change (ended_by (find_row id s) start status output error s).change s in
      all-both (Said t) (ended_by (find_row id s) start status output error s).outputs (acknowledged port id start)
      (ended_said (find_row id s) start status output error t) (acks_said t port id start)
  step_spoken (event.Unlaunched now id start) below fit = unlaunched_said (find_row id s) id start
      (after_change (unlaunched_by (find_row id s) id start).change s)
  step_spoken (event.Written now file) below fit = written_spoken file fit
  step_spoken (event.Unwritten now file) below fit = tt
  step_spoken (event.Tick now) below fit = tick_spoken now fit

  -- and a start
  pub begun_spoken : (now : ℕ) (x : Stepped (List ℕ)) → Begins now s x → Spoken x
  begun_spoken now x (Launches r found is) = subst Spoken is (λ fit. (tt, tt))
  begun_spoken now x (Prints r device found is) = subst Spoken is (λ fit. (tt, tt))
  begun_spoken now x (HoldsFar r found is) = subst Spoken is (λ fit. tt)
  begun_spoken now x (Moves r dest found is) = subst Spoken is (by (first_refusal (local_causes dest.queue s r)))
    where
      by : (k : Result (Unit {0}) Refusal) → Spoken (moving_by k dest.queue r)
      by (Ok u) fit = tt
      by (Err refusal) fit = tt
  begun_spoken now x (Opens r dest found is) = subst Spoken is (of (find_peer dest.host s) refl)
    where
      of : (p : Option Peer) → find_peer dest.host s ≡ p → Spoken (opened_with p dest now s r)
      of None e fit = tt
      of (Some p) e fit =
          let fitting = fit (HandOpened dest.host p.next r.id dest.queue now) refl in
          let t = (one (HandOpened dest.host p.next r.id dest.queue now) (λ until ks g. cc) tt fitting).0 dest.host p.next in
          let few = low_next dest.host p.next s.hands in
          let window = opening_window s o calm dest.host p.next r.id dest.queue now fitting in
          let grown = lows_grow s o calm (HandOpened dest.host p.next r.id dest.queue now) fitting dest.host in
          let next : next_for dest.host s ≡ p.next = ap next_of e in
          let same : low_for dest.host s ≡ low dest.host p.next s.hands = ap (λ n. low dest.host n s.hands) next in (
            (
              refl,
              (
                t.offer
                    ∙ (ap (λ z. (moved (pair (offered s dest.host p.next) (gave s dest.host p.next) NoPledge false)
                    (if z then offers_by dest.queue (find_row r.id s) else Stays)).offer) (same_key dest.host p.next)
                    ∙ ap (λ y. (moved (pair (offered s dest.host p.next) (gave s dest.host p.next) NoPledge false) (offers_by dest.queue y)).offer) found),
                few,
                omega (arith, window),
                omega (arith, grown, same),
              ),
            ),
            tt,
          )
