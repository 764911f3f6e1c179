-- A handover that is left half done is ended by a tick and two messages.
use Rattle.std.proofs.Common.{◌≡◌, ℕ, ◌⊎◌, inl, inr, Bool, true, false, ◌&&◌, ◌||◌, nat_le, List, [], ◌∷◌, ◌++◌, map, find, cond, slice_get, Option, None, Some}
use Rattle.std.proofs.Common.{is_some, zero, suc, true≢false, refl, sym, ap, subst, if◌then◌else◌}
use Rattle.std.proofs.lemmas.Option.{same_Some, none-some}
use Rattle.std.specs.List.{flat_map, list_any}
use Rattle.nqs_types.specs.Ids.{peer_number_eq, peer_number_exact, hand_key, promise_key}
use Rattle.nqs_state.specs.Keys.{is_hand, is_promise}
use Rattle.nqs_base_tables.specs.Table.{without_first}
use Rattle.nqs_state.specs.State.{Plain}
use Rattle.nqs_types.specs.declared.ids.HostId.{HostId}
use Rattle.nqs_types.specs.declared.ids.PeerNumber.{PeerNumber}
use Rattle.nqs_types.specs.declared.request.Hand.{Hand}
use Rattle.nqs_types.specs.declared.request.Phase.{Phase}
use Rattle.nqs_types.specs.declared.request.Phase.TheVariants.{Offered, Committed}
use Rattle.nqs_types.specs.declared.message.Message.{Message}
use Rattle.nqs_types.specs.declared.message.Body.TheVariants as body
use Rattle.nqs_types.specs.declared.event.Output.TheVariants as out
use Rattle.nqs_types.specs.declared.event.Event.TheVariants as event
use Rattle.nqs_types.specs.declared.change.Change.TheVariants.{Accepted, Dropped}
use Rattle.nqs_rules.specs.Tests.{passes, is_offered}
use Rattle.nqs_rules.specs.Find.{peer_number, has_row, find_hand, has_promise, find_peer}
use Rattle.nqs_rules.specs.Applied.{accepted, drop_promise, requeued_row}
use Rattle.nqs_rules.specs.Handover.{closes, was_given, send_commit, send_abort, send_done, send_inquire, later, repeat_phase, repeat_hand, repeated_hands}
use Rattle.nqs_rules.specs.Handover.{inquiries, ready_phase, ready_with, on_ready, on_commit, on_abort, done_phase, done_with, on_done}
use Rattle.nqs_rules.specs.Stage.{due_outputs}
use Rattle.nqs_rules.specs.Starts.{after_step}
use Rattle.nqs_rules.specs.Step.{step}
use Rattle.nqs_rules.specs.Stepped.{Pending, quiet, says, makes, shown}
use Rattle.nqs_rules.specs.World.{sent_by}
use Rattle.nqs_rules.specs.InOrder.{IsInOrder}
use Rattle.nqs_rules.proofs.KeyFacts.{gone_without, none_found}
use Rattle.nqs_rules.proofs.ListFacts.{found_passes}
use Rattle.nqs_rules.proofs.RowFacts.{same_peer_number}
use Rattle.nqs_rules.proofs.StateFacts.{keys_are}
use Rattle.nqs_laws.specs.Handovers.{is_open, is_taken_for}
use Rattle.nqs_laws.specs.Sending.{word, Sends}
use Rattle.nqs_laws.proofs.Makes.{HasHand}
use Rattle.nqs_laws.proofs.Targets.{promise_at}
use Rattle.nqs_laws.proofs.Views.{Pledging}

-- what is somewhere in a list

abbrev In : {V : Type 0} → V → List V → Type 0
In v vs = (k : ℕ) × (slice_get vs k ≡ Some v)

in_first : {V : Type 0} (v : V) (a b : List V) → In v a → In v (a ++ b)
in_first v [] b (k, e) = absurd (none-some v e)
in_first v (x ∷ a) b (zero, e) = (zero, e)
in_first v (x ∷ a) b (suc k, e) = let r = in_first v a b (k, e) in (suc r.0, r.1)

in_second : {V : Type 0} (v : V) (a b : List V) → In v b → In v (a ++ b)
in_second v [] b is = is
in_second v (x ∷ a) b is = let r = in_second v a b is in (suc r.0, r.1)

in_map : {V W : Type 0} (f : V → W) (v : V) (vs : List V) → In v vs → In (f v) (map f vs)
in_map f v [] (k, e) = absurd (none-some v e)
in_map f v (x ∷ vs) (zero, e) = (zero, ap Some (ap f (same_Some x v e)))
in_map f v (x ∷ vs) (suc k, e) = let r = in_map f v vs (k, e) in (suc r.0, r.1)

in_flat : {V W : Type 0} (f : V → List W) (w : W) (v : V) (vs : List V) → In v vs → In w (f v) → In w (flat_map f vs)
in_flat f w v [] (k, e) is = absurd (none-some v e)
in_flat f w v (x ∷ vs) (zero, e) is = in_first w (f x) (flat_map f vs) (subst (λ y. In w (f y)) (sym (same_Some x v e)) is)
in_flat f w v (x ∷ vs) (suc k, e) is = in_second w (f x) (flat_map f vs) (in_flat f w v vs (k, e) is)

found_in : {V : Type 0} (t : V → Bool) (vs : List V) (v : V) → find t vs ≡ Some v → In v vs
found_in t [] v e = absurd (none-some v e)
found_in t (x ∷ vs) v e = by (t x) e (found_in t vs v)
  where
    by : (b : Bool) → cond b (Some x) (find t vs) ≡ Some v → (find t vs ≡ Some v → In v vs) → In v (x ∷ vs)
    by true e rest = (zero, e)
    by false e rest = let r = rest e in (suc r.0, r.1)

-- an output that sends a message
sends_in : (ps : List (Pending (List ℕ))) (p : Pending (List ℕ)) (m : Message) → In p ps → shown p ≡ out.Send m → In m (flat_map sent_by (map shown ps))
sends_in ps p m is e = in_flat sent_by m (shown p) (map shown ps) (in_map shown p ps is) (subst (λ o. In m (sent_by o)) (sym e) (zero, refl))

-- ticks

module _ (h : HostId) (s : Plain) (me : s.me ≡ h) where
  pub tick_asks : (now : ℕ) (from : HostId) (n : ℕ) → has_promise from n s ≡ true → Sends (step (event.Tick now) s) (word h from (body.Inquire n))
  tick_asks now from n k =
      let p = promise_at s from n k in
      let key : peer_number from n ≡ promise_key p.0 = peer_number_exact (peer_number from n) (promise_key p.0)
      (found_passes (is_promise (peer_number from n)) s.promises p.0 p.1) in
      let q : Pending (List ℕ) = send_inquire s p.0 in
      sends_in (step (event.Tick now) s).outputs q (word h from (body.Inquire n))
      (in_first q (repeated_hands now s ++ inquiries s) (due_outputs s) (in_second q (repeated_hands now s) (inquiries s)
      (in_map (send_inquire s) p.0 s.promises (found_in (is_promise (peer_number from n)) s.promises p.0 p.1))))
      (λ j. out.Send (record { from = me j; to = (sym key j).peer; body = body.Inquire (sym key j).number }))

  pub tick_commits : (now : ℕ) (to : HostId) (n : ℕ) → HasHand Committed to n s → Sends (step (event.Tick now) s) (word h to (body.Commit n))
  tick_commits now to n k =
      let y = k.hand in
      let key : peer_number to n ≡ hand_key y = peer_number_exact (peer_number to n) (hand_key y)
      (found_passes (is_hand (peer_number to n)) s.hands y k.found) in
      let q : Pending (List ℕ) = send_commit s y.peer y.number in
      sends_in (step (event.Tick now) s).outputs q (word h to (body.Commit n))
      (in_first q (repeated_hands now s ++ inquiries s) (due_outputs s) (in_first q (repeated_hands now s) (inquiries s)
      (in_flat (repeat_hand now s) q y s.hands (found_in (is_hand (peer_number to n)) s.hands y k.found) (repeats y k.is))))
      (λ j. out.Send (record { from = me j; to = (sym key j).peer; body = body.Commit (sym key j).number }))
    where
      repeats : (y : Hand) → y.phase ≡ Committed → In {V = Pending (List ℕ)} (send_commit s y.peer y.number) (repeat_hand now s y)
      repeats y is =
          subst (λ p. In {V = Pending (List ℕ)} (send_commit s y.peer y.number)
          (if is_offered p && nat_le (later y.since s.patience) now then [] else repeat_phase p now s y)) (sym is) (zero, refl)

  -- answers

  pub inquiry_answered : (from : HostId) (n : ℕ) → was_given n (find_peer from s) ≡ true
      → (Sends (on_ready from n s) (word h from (body.Commit n))) ⊎ (Sends (on_ready from n s) (word h from (body.Abort n)))
  inquiry_answered from n given = of (find_hand from n s)
    where
      by : (p : Phase) → (Sends (ready_phase p from n s) (word h from (body.Commit n))) ⊎ (Sends (ready_phase p from n s) (word h from (body.Abort n)))
      by Offered = inl (zero, λ j. Some (word (me j) from (body.Commit n)))
      by Committed = inl (zero, λ j. Some (word (me j) from (body.Commit n)))

      missing : (b : Bool) → b ≡ true → (Sends (if b then says (send_abort s from n ∷ []) else quiet) (word h from (body.Commit n)))
          ⊎ (Sends (if b then says (send_abort s from n ∷ []) else quiet) (word h from (body.Abort n)))
      missing true k = inr (zero, λ j. Some (word (me j) from (body.Abort n)))
      missing false k = absurd (true≢false (sym k))

      of : (o : Option Hand) → (Sends (ready_with o from n s) (word h from (body.Commit n))) ⊎ (Sends (ready_with o from n s) (word h from (body.Abort n)))
      of None = missing (was_given n (find_peer from s)) given
      of (Some y) = by y.phase

  pub commit_answered : (from : HostId) (n : ℕ) → is_taken_for from n s ≡ true → Sends (on_commit from n s) (word h from (body.Done n))
  commit_answered from n taken = by (has_promise from n s) (closes n (find_peer from s)) taken
    where
      by : (a b : Bool) → (a || b) ≡ true → Sends (if a then makes (Accepted from n) (send_done s from n ∷ []) else
          (if b then says (send_done s from n ∷ []) else quiet)) (word h from (body.Done n))
      by true b k = (zero, λ j. Some (word (me j) from (body.Done n)))
      by false true k = (zero, λ j. Some (word (me j) from (body.Done n)))
      by false false k = absurd (true≢false (sym k))

-- ends

module _ (s : Plain) (o : IsInOrder s) where
  gone_promise : (k : PeerNumber) → list_any (is_promise k) (without_first (is_promise k) s.promises) ≡ false
  gone_promise k = gone_without peer_number_eq promise_key peer_number_exact same_peer_number k s.promises (keys_are s o.keys).promises

  pub commit_ends : (from : HostId) (n : ℕ) → has_promise from n (after_step (on_commit from n s) s) ≡ false
  commit_ends from n = by (has_promise from n s) refl (closes n (find_peer from s))
    where
      k : PeerNumber
      k = peer_number from n

      accepts : (p : Pledging) (z : Bool) → list_any (is_promise k) (if z then drop_promise k s else
          record (drop_promise k s) { rows = s.rows ++ requeued_row p.row ∷ [] }).promises ≡ false
      accepts p true = gone_promise k
      accepts p false = gone_promise k

      by : (a : Bool) → has_promise from n s ≡ a → (b : Bool) → has_promise from n
          (after_step (if a then makes (Accepted from n) (send_done s from n ∷ []) else (if b then says (send_done s from n ∷ []) else quiet)) s) ≡ false
      by true e b = let p = promise_at s from n e in subst (λ x. list_any (is_promise k) (accepted k x s).promises ≡ false) (sym p.1)
          (accepts p.0 (has_row p.0.row.id s))
      by false e true = e
      by false e false = e

  pub abort_ends : (from : HostId) (n : ℕ) → has_promise from n (after_step (on_abort from n s) s) ≡ false
  abort_ends from n = by (has_promise from n s) refl
    where
      by : (a : Bool) → has_promise from n s ≡ a → has_promise from n (after_step (if a then makes (Dropped from n) [] else quiet) s) ≡ false
      by true e = gone_promise (peer_number from n)
      by false e = e

  pub done_ends : (from : HostId) (n : ℕ) → is_open from n s ≡ false → is_some (find_hand from n (after_step (on_done from n s) s)) ≡ false
  done_ends from n shut = of (find_hand from n s) refl shut
    where
      k : PeerNumber
      k = peer_number from n

      by : (y : Hand) → find_hand from n s ≡ Some y → (p : Phase) → y.phase ≡ p → is_offered p ≡ false
          → is_some (find_hand from n (after_step (done_phase p from n) s)) ≡ false
      by y e Offered is closed = absurd (true≢false closed)
      by y e Committed is closed = ap is_some (none_found (is_hand k) (without_first (is_hand k) s.hands)
          (gone_without peer_number_eq hand_key peer_number_exact same_peer_number k s.hands (keys_are s o.keys).hands))

      of : (x : Option Hand) → find_hand from n s ≡ x → passes (λ y. is_offered y.phase) x ≡ false
          → is_some (find_hand from n (after_step (done_with x from n) s)) ≡ false
      of None e closed = ap is_some e
      of (Some y) e closed = by y e y.phase refl closed
