-- Three whole events settle a handover that is left half done.
use Rattle.std.proofs.Common.{◌≡◌, ℕ, ◌⊎◌, inl, inr, Bool, true, false, List, [], ◌∷◌, ◌++◌, length, Option, None, Some, is_some, true≢false, refl, sym, ap}
use Rattle.std.proofs.Common.{subst, ◌∙◌, arith, if◌then◌else◌}
use Rattle.std.proofs.lemmas.Bool.{and_parts, and_from, ltb-true, false_from_ne_true}
use Rattle.std.proofs.lemmas.List.Folds.{list_all-append}
use Rattle.std.specs.List.{list_all}
use Rattle.std.specs.Option.{option_or}
use Rattle.nqs_base.proofs.Plain.{item_at}
use Rattle.nqs_state.specs.Keys.{is_hand}
use Rattle.nqs_state.specs.State.{Plain}
use Rattle.nqs_types.specs.declared.ids.HostId.{HostId}
use Rattle.nqs_types.specs.declared.request.Hand.{Hand}
use Rattle.nqs_types.specs.declared.request.Phase.{Phase}
use Rattle.nqs_types.specs.declared.request.Phase.TheVariants.{Offered, Committed}
use Rattle.nqs_types.specs.declared.change.Change.{Change}
use Rattle.nqs_types.specs.declared.change.Change.TheVariants.{Started, HandOpened, MovedLocal, RefusedLocal, HeldFar}
use Rattle.nqs_types.specs.declared.message.Message.{Message}
use Rattle.nqs_types.specs.declared.message.Body.{Body}
use Rattle.nqs_types.specs.declared.message.Body.TheVariants as body
use Rattle.nqs_types.specs.declared.event.Event.{Event}
use Rattle.nqs_types.specs.declared.event.Event.TheVariants as event
use Rattle.nqs_rules.specs.Tests.{passes, is_offered}
use Rattle.nqs_rules.specs.Applied.{applied}
use Rattle.nqs_rules.specs.Find.{peer_number, has_promise, find_hand}
use Rattle.nqs_rules.specs.Fits.{is_offered_hand, is_committed_hand}
use Rattle.nqs_rules.specs.InOrder.{IsInOrder}
use Rattle.nqs_rules.specs.Sane.{is_of_site, is_sane_body, is_sane_message}
use Rattle.nqs_rules.specs.Starts.{after_step}
use Rattle.nqs_rules.specs.Start.{start}
use Rattle.nqs_rules.specs.Step.{step}
use Rattle.nqs_rules.specs.Stepped.{Stepped}
use Rattle.nqs_rules.specs.World.{World, Act, Ticks, Delivers, new_world, takes, delivers, packet_at}
use Rattle.nqs_rules.specs.Run.{run, states_of}
use Rattle.nqs_rules.proofs.KeyFacts.{all_get}
use Rattle.nqs_rules.proofs.StepHalts.{step-halts}
use Rattle.nqs_rules.proofs.StartIs.{IsStart, StartsRow, start_is}
use Rattle.nqs_rules.proofs.Until.{steady}
use Rattle.nqs_rules.specs.Net.{is_committed_to}
use Rattle.nqs_laws.specs.History.{history}
use Rattle.nqs_laws.specs.Sane.{is_sane_act, AreSane, IsSite}
use Rattle.nqs_laws.specs.Handovers.{IsStateOf, WasSent, is_open, is_closed_for}
use Rattle.nqs_laws.specs.Sending.{word, Sends}
use Rattle.nqs_laws.specs.Whole.{after, is_up, IfUpAfter, IsSentBetween, WasSentBetween, SendsThen, HoldsAt, IsSettledInThree, IsVerdict}
use Rattle.nqs_laws.proofs.Frame.{moment, packet_sent, state_at}
use Rattle.nqs_laws.proofs.Sound.{IsSound, run_sound}
use Rattle.nqs_laws.proofs.Found.{find-added}
use Rattle.nqs_laws.proofs.HandoverLaws.{all_in_step, all_true}
use Rattle.nqs_laws.proofs.Closing.{run-append}
use Rattle.nqs_laws.proofs.HealLaws.{asks, commits, inquiry, commit, commit_leaves, abort_leaves, done_leaves}
use Rattle.nqs_laws.proofs.WholeEvents.{Took, took, state_of_host, packets_stay, sent_now, holds_after}

-- what a start leaves as it is

-- a start makes one of five changes
begun_is : (P : Plain → Type 0) (s : Plain) → IsInOrder s → (now : ℕ) (x : Stepped (List ℕ)) → start now s ≡ Some x
    → ((r : _) (c : Change (List ℕ)) → StartsRow s r c → P (applied c s)) → P (after_step x s)
begun_is P s order now x begun each =
    let k : IsStart s x = start_is now s x (steady s order) begun in
    subst (λ o. P (after_step (record { change = o; outputs = x.outputs; halts = x.halts }) s)) (sym k.makes) (each k.row k.change k.starts)

no_promise_kept : (from : HostId) (n : ℕ) (s : Plain) → IsInOrder s → (now : ℕ) (x : Stepped (List ℕ)) → start now s ≡ Some x → has_promise from n s ≡ false
    → has_promise from n (after_step x s) ≡ false
no_promise_kept from n s order now x begun none = begun_is (λ t. has_promise from n t ≡ false) s order now x begun by
  where
    by : (r : _) (c : Change (List ℕ)) → StartsRow s r c → has_promise from n (applied c s) ≡ false
    by r (Started id device) k = none
    by r (HeldFar id) k = none
    by r (MovedLocal id queue) k = none
    by r (RefusedLocal id queue refusal) k = none
    by r (HandOpened peer number id queue since) k = none
    by r c k = absurd k

not_given_kept : (to : HostId) (n : ℕ) (s : Plain) → IsInOrder s → (now : ℕ) (x : Stepped (List ℕ)) → start now s ≡ Some x → is_committed_to to n s ≡ false
    → is_committed_to to n (after_step x s) ≡ false
not_given_kept to n s order now x begun none = begun_is (λ t. is_committed_to to n t ≡ false) s order now x begun by
  where
    opened : (y : Hand) → y.phase ≡ Offered → (o : Option Hand) → passes is_committed_hand o ≡ false → (b : Bool)
        → passes is_committed_hand (option_or o (if b then Some y else None)) ≡ false
    opened y is (Some z) k b = k
    opened y is None k true = ap (λ p. is_committed_hand (record y { phase = p })) is
    opened y is None k false = refl

    by : (r : _) (c : Change (List ℕ)) → StartsRow s r c → is_committed_to to n (applied c s) ≡ false
    by r (Started id device) k = none
    by r (HeldFar id) k = none
    by r (MovedLocal id queue) k = none
    by r (RefusedLocal id queue refusal) k = none
    by r (HandOpened peer number id queue since) k =
        let y : Hand = record { peer = peer; number = number; id = id; queue = queue; since = since; phase = Offered } in
        ap (passes is_committed_hand) (find-added (is_hand (peer_number to n)) s.hands y) ∙ opened y refl (find_hand to n s) none (is_hand (peer_number to n) y)
    by r c k = absurd k

-- a hand that is neither offered nor committed isn't there
no_hand : (to : HostId) (n : ℕ) (s : Plain) → is_open to n s ≡ false → is_committed_to to n s ≡ false → is_some (find_hand to n s) ≡ false
no_hand to n s shut none = of (find_hand to n s) shut none
  where
    by : (y : Hand) (p : Phase) → y.phase ≡ p → is_offered_hand y ≡ false → is_committed_hand y ≡ false → ⊥
    by y Offered is shut none = true≢false (ap is_offered (sym is) ∙ shut)
    by y Committed is shut none = true≢false (ap (λ p. is_committed_hand (record y { phase = p })) (sym is) ∙ none)

    of : (o : Option Hand) → passes is_offered_hand o ≡ false → passes is_committed_hand o ≡ false → is_some o ≡ false
    of None shut none = refl
    of (Some y) shut none = absurd (by y y.phase refl shut none)

-- worlds that a run reaches

pub record Reached (site : List (List ℕ)) (w : World) : Type 0 where
  pub acts : List Act
  pub sane : AreSane acts
  pub is : (run acts (new_world site)).world ≡ w

module _ (site : List (List ℕ)) (few : IsSite site) where
  reached_after : (w : World) → Reached site w → (act : Act) → is_sane_act act ≡ true → Reached site (after act w)
  reached_after w r act sane = record {
    acts = r.acts ++ act ∷ [];
    sane = list_all-append is_sane_act r.acts (act ∷ []) ∙ and_from (list_all is_sane_act r.acts) (list_all is_sane_act (act ∷ [])) r.sane
        (and_from (is_sane_act act) true sane refl);
    is = run-append r.acts (act ∷ []) (new_world site) ∙ ap (after act) r.is;
  }

  sound : (w : World) → (r : Reached site w) → IsSound site (moment w (history r.acts (new_world site)))
  sound w r = subst (λ v. IsSound site (moment v (history r.acts (new_world site)))) r.is (run_sound site few.1 r.acts r.sane)

  -- the sender of a packet has a place
  sender : (w : World) → Reached site w → (k : ℕ) (m : Message) → packet_at k w ≡ Some m → (s : Plain) × IsStateOf w m.from s
  sender w r k m at =
      let fact = sound w r in
      let sent = packet_sent k w m at in
      let of_site = (and_parts (is_of_site (length site) m.from) (is_sane_body (length site) m.body)
      (all_get (is_sane_message (length site)) w.packets sent.0 m fact.packets sent.1)).0 in
      let below = ltb-true m.from.0 (length site) of_site in
      let count = fact.count in
      item_at (states_of w) m.from.0 (omega (arith, below, count))

  -- a tick that leaves its host up
  ticked : (w : World) → Reached site w → (h : HostId) → is_up h (after (Ticks h) w) ≡ true → Took site w (after (Ticks h) w) h (event.Tick w.now)
  ticked w r h up = took site w (history r.acts (new_world site)) (sound w r) h (event.Tick w.now) refl (λ s. refl) up

  -- an arrival that leaves its host up
  arrived : (w : World) → Reached site w → (k : ℕ) (m : Message) → packet_at k w ≡ Some m → is_up m.to (after (Delivers k) w) ≡ true
      → Took site w (after (Delivers k) w) m.to (event.Arrived w.now m)
  arrived w r k m at up =
      let same : after (Delivers k) w ≡ (takes m.to (event.Arrived w.now m) w).world = ap (λ o. (delivers (Some k) o w).world) at in
      subst (λ v. Took site w v m.to (event.Arrived w.now m)) (sym same)
      (took site w (history r.acts (new_world site)) (sound w r) m.to (event.Arrived w.now m) (refl, packet_sent k w m at) (step-halts (event.Arrived w.now m))
      (ap (is_up m.to) (sym same) ∙ up))

  here : (w v : World) (h : HostId) (e : Event) (k : Took site w v h e) → IsStateOf w h k.host.state
  here w v h e k = state_at h k.host w k.there

  -- the first event

  pub tick_inquires : (w : World) → Reached site w → (host from : HostId) (n : ℕ) (s : Plain) → IsStateOf w host s → has_promise from n s ≡ true
      → IfUpAfter (Ticks host) host w (λ v. WasSentBetween w v (word host from (body.Inquire n)))
  tick_inquires w r host from n s at promised up =
      let k = ticked w r host up in
      let same : s ≡ k.host.state = state_of_host host w k.host s k.there at in
      sent_now site w (after (Ticks host) w) host (event.Tick w.now) k (word host from (body.Inquire n))
      (subst (λ u. (t : Plain) → IsStateOf u host t → has_promise from n t ≡ true → Sends (step (event.Tick w.now) t) (word host from (body.Inquire n))) r.is
      (λ t is p. asks site few r.acts r.sane host from t is w.now n p)
      k.host.state (here w (after (Ticks host) w) host (event.Tick w.now) k) (ap (has_promise from n) (sym same) ∙ promised))

  pub tick_commits : (w : World) → Reached site w → (host to : HostId) (n : ℕ) (s : Plain) → IsStateOf w host s → is_committed_to to n s ≡ true
      → IfUpAfter (Ticks host) host w (λ v. WasSentBetween w v (word host to (body.Commit n)))
  tick_commits w r host to n s at given up =
      let k = ticked w r host up in
      let same : s ≡ k.host.state = state_of_host host w k.host s k.there at in
      sent_now site w (after (Ticks host) w) host (event.Tick w.now) k (word host to (body.Commit n))
      (subst (λ u. (t : Plain) → IsStateOf u host t → is_committed_to to n t ≡ true → Sends (step (event.Tick w.now) t) (word host to (body.Commit n))) r.is
      (λ t is p. commits site few r.acts r.sane host to t is w.now n p)
      k.host.state (here w (after (Ticks host) w) host (event.Tick w.now) k) (ap (is_committed_to to n) (sym same) ∙ given))

  -- the second event

  pub inquiry_arrives : (w : World) → Reached site w → (j : ℕ) (from to : HostId) (n : ℕ) → packet_at j w ≡ Some (word from to (body.Inquire n))
      → IfUpAfter (Delivers j) to w (λ v. (WasSentBetween w v (word to from (body.Commit n))) ⊎ (WasSentBetween w v (word to from (body.Abort n))))
  inquiry_arrives w r j from to n at up =
      let m : Message = word from to (body.Inquire n) in
      let v = after (Delivers j) w in
      let k = arrived w r j m at up in
      let from_there = sender w r j m at in
      let send = sent_now site w v to (event.Arrived w.now m) k in
      either (send (word to from (body.Commit n))) (send (word to from (body.Abort n)))
      (subst (λ u. WasSent u m → (s t : Plain) → IsStateOf u from s → IsStateOf u to t
      → (Sends (step (event.Arrived w.now m) t) (word to from (body.Commit n)))
      ⊎ (Sends (step (event.Arrived w.now m) t) (word to from (body.Abort n)))) r.is
      (λ sent s t sat tat. inquiry site few r.acts r.sane m n sent refl s t sat tat w.now)
      (j, at) from_there.0 k.host.state from_there.1 (here w v to (event.Arrived w.now m) k))
    where
      either : {A B C D : Type 0} → (A → C) → (B → D) → A ⊎ B → C ⊎ D
      either f g (inl a) = inl (f a)
      either f g (inr b) = inr (g b)

  pub commit_arrives : (w : World) → Reached site w → (j : ℕ) (from to : HostId) (n : ℕ) → packet_at j w ≡ Some (word from to (body.Commit n))
      → IfUpAfter (Delivers j) to w (λ v. WasSentBetween w v (word to from (body.Done n)))
  commit_arrives w r j from to n at up =
      let m : Message = word from to (body.Commit n) in
      let v = after (Delivers j) w in
      let k = arrived w r j m at up in
      let from_there = sender w r j m at in
      sent_now site w v to (event.Arrived w.now m) k (word to from (body.Done n))
      (subst (λ u. WasSent u m → (s t : Plain) → IsStateOf u from s → IsStateOf u to t
      → Sends (step (event.Arrived w.now m) t) (word to from (body.Done n))) r.is
      (λ sent s t sat tat. commit site few r.acts r.sane m n sent refl s t sat tat w.now)
      (j, at) from_there.0 k.host.state from_there.1 (here w v to (event.Arrived w.now m) k))

  -- the third event

  pub verdict_arrives : (w : World) → Reached site w → (j : ℕ) (from to : HostId) (n : ℕ) (m : Message) → packet_at j w ≡ Some m → IsVerdict from to n m
      → IfUpAfter (Delivers j) to w (λ v. HoldsAt v to (λ t. has_promise from n t ≡ false))
  verdict_arrives w r j from to n m at verdict up = of verdict
    where
      by : (b : Body) → m ≡ word from to b → ((t : Plain) → IsStateOf w to t
          → has_promise from n (after_step (step (event.Arrived w.now (word from to b)) t) t) ≡ false)
          → HoldsAt (after (Delivers j) w) to (λ t. has_promise from n t ≡ false)
      by b is leaves =
          let x : Message = word from to b in
          let v = after (Delivers j) w in
          let k = arrived w r j x (at ∙ ap Some is) up in
          holds_after site w v to (event.Arrived w.now x) k (λ t. has_promise from n t ≡ false)
          (λ s order now y begun none. no_promise_kept from n s order now y begun none)
          (leaves k.host.state (here w v to (event.Arrived w.now x) k))

      of : IsVerdict from to n m → HoldsAt (after (Delivers j) w) to (λ t. has_promise from n t ≡ false)
      of (inl is) = by (body.Commit n) is (subst (λ u. (t : Plain) → IsStateOf u to t
          → has_promise from n (after_step (step (event.Arrived w.now (word from to (body.Commit n))) t) t) ≡ false) r.is
          (λ t tat. commit_leaves site few r.acts r.sane (word from to (body.Commit n)) n refl t tat w.now))
      of (inr is) = by (body.Abort n) is (subst (λ u. (t : Plain) → IsStateOf u to t
          → has_promise from n (after_step (step (event.Arrived w.now (word from to (body.Abort n))) t) t) ≡ false) r.is
          (λ t tat. abort_leaves site few r.acts r.sane (word from to (body.Abort n)) n refl t tat w.now))

  pub done_arrives : (w : World) → Reached site w → (j : ℕ) (from to : HostId) (n : ℕ) → packet_at j w ≡ Some (word from to (body.Done n))
      → IfUpAfter (Delivers j) to w (λ v. HoldsAt v to (λ t. is_some (find_hand from n t) ≡ false))
  done_arrives w r j from to n at up t tat =
      let m : Message = word from to (body.Done n) in
      let v = after (Delivers j) w in
      let e = event.Arrived w.now m in
      let k = arrived w r j m at up in
      let from_there = sender w r j m at in
      let gone = subst (λ u. WasSent u m → (s t : Plain) → IsStateOf u from s → IsStateOf u to t
      → is_some (find_hand from n (after_step (step e t) t)) ≡ false) r.is
      (λ sent s t sat tat. done_leaves site few r.acts r.sane m n sent refl s t sat tat w.now)
      (j, at) from_there.0 k.host.state from_there.1 (here w v to e k) in
      no_hand from n t (shut (packets_stay site w v to e k j m at)) (holds_after site w v to e k (λ s. is_committed_to from n s ≡ false)
      (λ s order now y begun none. not_given_kept from n s order now y begun none)
      (none_given (find_hand from n (after_step (step e k.host.state) k.host.state)) gone) t tat)
    where
      none_given : (o : Option Hand) → is_some o ≡ false → passes is_committed_hand o ≡ false
      none_given None k = refl
      none_given (Some y) k = absurd (true≢false k)

      -- its number is closed at the sender then, so that it isn't offered
      shut : packet_at j (after (Delivers j) w) ≡ Some (word from to (body.Done n)) → is_open from n t ≡ false
      shut there =
          let v = after (Delivers j) w in
          let q = reached_after w r (Delivers j) refl in
          let m : Message = word from to (body.Done n) in
          let s = sender v q j m there in
          let closed = subst (λ u. WasSent u m → IsStateOf u from s.0 → IsStateOf u to t → is_closed_for to n s.0 ≡ true) q.is
          (λ sent sat tat. all_true site few q.acts q.sane m sent s.0 t sat tat) (j, there) s.1 tat in
          let open_not : is_open from n t ≡ true → is_closed_for to n s.0 ≡ false =
          subst (λ u. IsStateOf u to t → IsStateOf u from s.0 → is_open from n t ≡ true → is_closed_for to n s.0 ≡ false) q.is
          (λ tat sat. (all_in_step site few q.acts q.sane to from t s.0 tat sat).offered n) tat s.1 in
          false_from_ne_true (is_open from n t) (λ k. true≢false (sym closed ∙ open_not k))

  -- all three

  pub promise_settled : (w : World) → Reached site w → (host from : HostId) (n : ℕ) (s : Plain) → IsStateOf w host s → has_promise from n s ≡ true
      → IsSettledInThree host from (λ m. m ≡ word host from (body.Inquire n)) (IsVerdict from host n) (λ t. has_promise from n t ≡ false) w
  promise_settled w r host from n s at promised up =
      let v = after (Ticks host) w in
      let q = tick_inquires w r host from n s at promised up in
      record {
        sends = (q.0, word host from (body.Inquire n), q.1, refl);
        each = λ k m sent is up_then. answered v (reached_after w r (Ticks host) refl) k (sent.there ∙ ap Some is) up_then;
      }
    where
      answered : (v : World) → Reached site v → (k : ℕ) → packet_at k v ≡ Some (word host from (body.Inquire n)) → is_up from (after (Delivers k) v) ≡ true
          → SendsThen v (after (Delivers k) v) (IsVerdict from host n) (λ j. IfUpAfter (Delivers j) host (after (Delivers k) v)
          (λ x. HoldsAt x host (λ t. has_promise from n t ≡ false)))
      answered v q k there up = record {
        sends = some (inquiry_arrives v q k host from n there up);
        each = λ j m sent verdict up_then. verdict_arrives u (reached_after v q (Delivers k) refl) j from host n m sent.there verdict up_then;
      }
        where
          u : World
          u = after (Delivers k) v

          some : (WasSentBetween v u (word from host (body.Commit n))) ⊎ (WasSentBetween v u (word from host (body.Abort n)))
              → (j : ℕ) × (m : Message) × IsSentBetween v u j m × IsVerdict from host n m
          some (inl x) = (x.0, word from host (body.Commit n), x.1, inl refl)
          some (inr x) = (x.0, word from host (body.Abort n), x.1, inr refl)

  pub commitment_settled : (w : World) → Reached site w → (host to : HostId) (n : ℕ) (s : Plain) → IsStateOf w host s → is_committed_to to n s ≡ true
      → IsSettledInThree host to (λ m. m ≡ word host to (body.Commit n)) (λ m. m ≡ word to host (body.Done n)) (λ t. is_some (find_hand to n t) ≡ false) w
  commitment_settled w r host to n s at given up =
      let v = after (Ticks host) w in
      let q = tick_commits w r host to n s at given up in
      record {
        sends = (q.0, word host to (body.Commit n), q.1, refl);
        each = λ k m sent is up_then. answered v (reached_after w r (Ticks host) refl) k (sent.there ∙ ap Some is) up_then;
      }
    where
      answered : (v : World) → Reached site v → (k : ℕ) → packet_at k v ≡ Some (word host to (body.Commit n)) → is_up to (after (Delivers k) v) ≡ true
          → SendsThen v (after (Delivers k) v) (λ m. m ≡ word to host (body.Done n))
          (λ j. IfUpAfter (Delivers j) host (after (Delivers k) v) (λ x. HoldsAt x host (λ t. is_some (find_hand to n t) ≡ false)))
      answered v q k there up = record {
        sends = (let x = commit_arrives v q k host to n there up in (x.0, word to host (body.Done n), x.1, refl));
        each = λ j m sent is up_then. done_arrives (after (Delivers k) v) (reached_after v q (Delivers k) refl) j to host n (sent.there ∙ ap Some is) up_then;
      }
