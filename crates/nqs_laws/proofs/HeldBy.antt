-- The system begins to hold a request for a cause alone.
use Rattle.std.proofs.Common.{◌≡◌, ℕ, ◌+◌, Bool, true, false, not, ◌&&◌, ◌||◌, ◌==◌, List, [], ◌∷◌, find, Option, None, Some, true≢false, refl, sym, ap, subst}
use Rattle.std.proofs.Common.{◌∙◌, if◌then◌else◌}
use Rattle.std.proofs.lemmas.Bool.{and_parts, or_left, or_right}
use Rattle.std.proofs.lemmas.Option.{same_Some}
use Rattle.std.specs.Option.{IfSome, option_map, option_and_then, option_or}
use Rattle.nqs_types.specs.Ids.{id_eq, id_exact}
use Rattle.nqs_base.specs.Same.{name_eq}
use Rattle.nqs_state.specs.Keys.{is_promise, is_queue}
use Rattle.nqs_state.specs.State.{Plain}
use Rattle.nqs_types.specs.declared.ids.HostId.{HostId}
use Rattle.nqs_types.specs.declared.ids.Dest.{Dest}
use Rattle.nqs_types.specs.declared.ids.PeerNumber.{PeerNumber}
use Rattle.nqs_types.specs.declared.request.Hand.{Hand}
use Rattle.nqs_types.specs.declared.request.Hold.{Hold}
use Rattle.nqs_types.specs.declared.request.Hold.TheVariants.{No, User, System}
use Rattle.nqs_types.specs.declared.request.Promise.{Promise}
use Rattle.nqs_types.specs.declared.edit.ConfEdit.{ConfEdit}
use Rattle.nqs_types.specs.declared.edit.ConfEdit.TheVariants.{PurgeQueue}
use Rattle.nqs_types.specs.declared.edit.RowsEdit.{RowsEdit}
use Rattle.nqs_types.specs.declared.edit.RowsEdit.TheVariants.{AbortQueue, HoldRequest, ReleaseRequest, MoveRequest, ModifyRequest}
use Rattle.nqs_types.specs.declared.edit.Edit.{Edit}
use Rattle.nqs_types.specs.declared.edit.Edit.TheVariants.{Conf, Rows as RowsOf}
use Rattle.nqs_types.specs.declared.change.Change.{Change}
use Rattle.nqs_types.specs.declared.change.Change.TheVariants.{Submitted, Deleted, Doomed, Started, Ended, Unlaunched, Boot, Edited, HandOpened, HandCommitted}
use Rattle.nqs_types.specs.declared.change.Change.TheVariants.{HandRefused, HandsSilent, Accepted, MovedLocal, RefusedLocal, HeldFar}
use Rattle.nqs_types.specs.declared.message.Message.{Message}
use Rattle.nqs_types.specs.declared.event.Command.TheVariants as command
use Rattle.nqs_types.specs.declared.event.Event.{Event}
use Rattle.nqs_types.specs.declared.event.Event.TheVariants as event
use Rattle.nqs_rules.specs.Tests.{passes, is_running, is_unheld}
use Rattle.nqs_rules.specs.Find.{peer_number, find_row, find_hand, find_promise, meant_request}
use Rattle.nqs_rules.specs.Conf.{is_queued_in}
use Rattle.nqs_rules.specs.Rows.{doomed_in, held_row, released_row, moved_row, with_priority}
use Rattle.nqs_rules.specs.Routing.{held_where, all_refused, with_refusal, refusal_noted, dests_of, dests_for}
use Rattle.nqs_rules.specs.Applied.{applied, next_id, may_start_again, lost_row, booted_row, doomed_row, started_row, routing_row, requeued_row, moved_local}
use Rattle.nqs_rules.specs.Applied.{local_refused, held_far, hand_refused, hand_silent}
use Rattle.nqs_rules.specs.InOrder.{IsInOrder, IsConsistent, is_promise_free}
use Rattle.nqs_rules.specs.Step.{step}
use Rattle.nqs_rules.proofs.ListFacts.{list_all-found}
use Rattle.nqs_rules.proofs.Until.{steady}
use Rattle.nqs_rules.specs.Picked.{PlainRow}
use Rattle.nqs_laws.specs.HeldBy.{is_systems, is_held, has_cause, HoldsForCause}
use Rattle.nqs_laws.proofs.Frame.{Way, Taken, Begun, Booted, change_by}
use Rattle.nqs_laws.proofs.Sound.{some-if}
use Rattle.nqs_laws.proofs.Makes.{Follows, step_makes, is_new_or_far, follows_other}
use Rattle.nqs_laws.proofs.After.{Request, meant_after, edit_after, back_row, committed_after, refused_after, silent_after, silents_after, accepted_after}
use Rattle.nqs_laws.proofs.After.{submitted_row, after, row_after}
use Rattle.nqs_laws.proofs.Found.{only}
use Rattle.nqs_laws.proofs.Kept.{OfMoments}
use Rattle.nqs_laws.proofs.TooFar.{holds_far}

-- no event holds a request as one that came too far

abbrev is_far : Change (List ℕ) → Bool
is_far (HeldFar id) = true
is_far c = false

far_or_new : (c : Change (List ℕ)) → is_far c ≡ true → is_new_or_far c ≡ true
far_or_new (HeldFar id) k = refl
far_or_new c k = absurd (true≢false (sym k))

module _ (s : Plain) (ch : Change (List ℕ)) (far : is_far ch ≡ true) where
  not_far : (d : Change (List ℕ)) → is_far d ≡ false → ch ≡ d → ⊥
  not_far d none is = true≢false (sym far ∙ (ap is_far is ∙ none))

  follows_near : (e : Event) → Follows e s ch → ⊥
  follows_near (event.Ask now port token user (command.Submit sub)) f = not_far _ refl f.1
  follows_near (event.Ask now port token user c) f = follows_other s ch (far_or_new ch far) (event.Ask now port token user c) tt f
  follows_near e f = follows_other s ch (far_or_new ch far) e tt f

-- a row after a change: held by the system where it was before, or where it passes

module _ (right : PlainRow → Bool) where
  abbrev IsRight : Option PlainRow → Option PlainRow → Type 0
  IsRight o p = IfSome p (λ r. is_held r ≡ true → (passes is_held o || right r) ≡ true)

  abbrev Keeps : (PlainRow → PlainRow) → Type 0
  Keeps f = (r : PlainRow) → is_held (f r) ≡ true → (is_held r || right (f r)) ≡ true

  as_before : (o p : Option PlainRow) → (passes is_held p ≡ true → passes is_held o ≡ true) → IsRight o p
  as_before o None f = tt
  as_before o (Some r) f = λ k. or_left (passes is_held o) (right r) (f k)

  the_same : (o : Option PlainRow) → IsRight o o
  the_same o = as_before o o (λ k. k)

  changed : (f : PlainRow → PlainRow) → Keeps f → (o : Option PlainRow) (b : Bool) → IsRight o (if b then option_map f o else o)
  changed f keeps None true = tt
  changed f keeps (Some r) true = keeps r
  changed f keeps o false = the_same o

  without : (o : Option PlainRow) (b : Bool) → IsRight o (if b then None else o)
  without o true = tt
  without o false = the_same o

  meant : (f : PlainRow → PlainRow) → Keeps f → (m : Option Request) (x : Request) (o : Option PlainRow) → IsRight o (meant_after m f x o)
  meant f keeps None x o = the_same o
  meant f keeps (Some id) x o = changed f keeps o (id_eq x id)

  -- the hold stays
  stays : (f : PlainRow → PlainRow) → ((r : PlainRow) → is_held (f r) ≡ is_held r) → Keeps f
  stays f same r k = or_left (is_held r) (right (f r)) (sym (same r) ∙ k)

  first_right : (o p : Option PlainRow) → IfSome p (λ r. is_held r ≡ false) → IsRight o (option_or o p)
  first_right None None f = tt
  first_right None (Some r) f = λ k. absurd (true≢false (sym k ∙ f))
  first_right (Some q) p f = λ k. or_left (is_held q) (right q) k

  doomed_right : (q : List ℕ) (o : Option PlainRow) → IsRight o (option_map (doomed_in q) o)
  doomed_right q None = tt
  doomed_right q (Some r) = by (is_running r.state && name_eq q r.queue)
    where
      by : (b : Bool) → is_held (if b then record r { doomed = true } else r) ≡ true → (is_held r || right (if b then record r { doomed = true } else r)) ≡ true
      by true k = or_left (is_held r) _ k
      by false k = or_left (is_held r) _ k

  booted_right : (o : Option PlainRow) → IsRight o (option_and_then booted_row o)
  booted_right None = tt
  booted_right (Some r) = by (is_running r.state) (may_start_again r)
    where
      by : (b c : Bool) → IsRight (Some r) (if b then (if c then Some (lost_row r) else None) else Some r)
      by true true = λ k. or_left (is_held r) _ k
      by true false = tt
      by false c = λ k. or_left (is_held r) _ k

  only_right : (t : PlainRow → Bool) (o : Option PlainRow) → IsRight o (only t o)
  only_right t None = tt
  only_right t (Some r) = by (t r)
    where
      by : (b : Bool) → IsRight (Some r) (if b then Some r else None)
      by true = λ k. or_left (is_held r) _ k
      by false = tt

  edited_right : (e : Edit) (s : Plain) (x : Request) (o : Option PlainRow) → IsRight o (edit_after e s x o)
  edited_right (Conf e) s x o = conf_right e
    where
      conf_right : (e : ConfEdit) → IsRight o (edit_after (Conf e) s x o)
      conf_right (PurgeQueue q) = only_right (λ r. not (is_queued_in q r)) o
      conf_right e = the_same o
  edited_right (RowsOf e) s x o = rows_right e
    where
      rows_right : (e : RowsEdit) → IsRight o (edit_after (RowsOf e) s x o)
      rows_right (AbortQueue q) = doomed_right q o
      rows_right (HoldRequest id) = meant held_row (λ r k. absurd (true≢false (sym k))) (meant_request id s) x o
      rows_right (ReleaseRequest id) = meant released_row (λ r k. absurd (true≢false (sym k))) (meant_request id s) x o
      rows_right (MoveRequest id q) = meant (moved_row q (s.arrivals + 1)) (stays (moved_row q (s.arrivals + 1)) (λ r. refl)) (meant_request id s) x o
      rows_right (ModifyRequest id n) = meant (with_priority n) (stays (with_priority n) (λ r. refl)) (meant_request id s) x o
  edited_right e s x o = the_same o

  silents_right : (until : ℕ) (ks : List PeerNumber) (s : Plain) (x : Request) (o p : Option PlainRow) → (passes is_held p ≡ true → passes is_held o ≡ true)
      → IsRight o (silents_after until ks s x p)
  silents_right until [] s x o p f = as_before o p f
  silents_right until (k ∷ ks) s x o p f = silents_right until ks (hand_silent until k (find_hand k.peer k.number s) s) x o
      (silent_after (find_hand k.peer k.number s) x p) (λ e. f (of (find_hand k.peer k.number s) e))
    where
      back : (b : Bool) (q : Option PlainRow) → passes is_held (if b then option_map requeued_row q else q) ≡ true → passes is_held q ≡ true
      back true None k = k
      back true (Some r) k = k
      back false q k = k

      of : (y : Option Hand) → passes is_held (silent_after y x p) ≡ true → passes is_held p ≡ true
      of None k = k
      of (Some y) k = back (id_eq x y.id) p k

-- what a refusal leaves
module _ (s u : Plain) (queues : u.queues ≡ s.queues) where
  noted_right : (dest : Dest) (refusal : ℕ) (r : PlainRow) → is_held (refusal_noted (dests_for r s) dest refusal r) ≡ true
      → (is_held r || has_cause u (refusal_noted (dests_for r s) dest refusal r)) ≡ true
  noted_right dest refusal r = by (all_refused (dests_for r s) (with_refusal (dests_for r s) dest refusal r.refused)) refl
    where
      by : (b : Bool) → all_refused (dests_for r s) (with_refusal (dests_for r s) dest refusal r.refused) ≡ b
          → is_held (held_where b (record r { refused = with_refusal (dests_for r s) dest refusal r.refused })) ≡ true
          → (is_held r || has_cause u (held_where b (record r { refused = with_refusal (dests_for r s) dest refusal r.refused }))) ≡ true
      by true e k =
          or_right (is_held r) _ (or_right (r.hops == 32) _
          (ap (λ qs. all_refused (dests_of (find (is_queue r.queue) qs)) (with_refusal (dests_for r s) dest refusal r.refused)) queues ∙ e))
      by false e k = or_left (is_held r) _ k

  back_right : (y : Hand) (refusal : ℕ) → Keeps (has_cause u) (back_row y refusal s)
  back_right y refusal r k = noted_right (record { queue = y.queue; host = y.peer }) refusal (requeued_row r) k

  local_right : (queue : List ℕ) (refusal : ℕ) → Keeps (has_cause u) (local_refused queue refusal s)
  local_right queue refusal r k = noted_right (record { queue = queue; host = s.me }) refusal r k

unheld_row : (r : PlainRow) → is_unheld r.hold ≡ true → is_held (requeued_row r) ≡ false
unheld_row r k = by r.hold k
  where
    by : (hold : Hold) → is_unheld hold ≡ true → is_systems hold ≡ false
    by No k = refl
    by User k = refl
    by System k = absurd (true≢false (sym k))

module _ (s : Plain) (o : IsInOrder s) (calm : IsConsistent s) where
  after_right : (c : Change (List ℕ)) → ((id : Request) → c ≡ HeldFar id → (r : PlainRow) × (find_row id s ≡ Some r) × ((r.hops == 32) ≡ true)) → (x : Request)
      → IsRight (has_cause (applied c s)) (find_row x s) (after c s x (find_row x s))
  after_right (Submitted queue job script) far x = first_right (has_cause (applied (Submitted queue job script) s)) (find_row x s)
      (if id_eq x (next_id s) then Some (submitted_row queue job script s) else None) (by (id_eq x (next_id s)))
    where
      by : (b : Bool) → IfSome (if b then Some (submitted_row queue job script s) else None) (λ r. is_held r ≡ false)
      by true = refl
      by false = tt
  after_right (Deleted id) far x = without (has_cause (applied (Deleted id) s)) (find_row x s) (id_eq x id)
  after_right (Doomed id) far x = changed (has_cause (applied (Doomed id) s)) doomed_row (stays (has_cause (applied (Doomed id) s)) doomed_row (λ r. refl))
      (find_row x s) (id_eq x id)
  after_right (Started id device) far x = changed (has_cause (applied (Started id device) s)) (started_row device)
      (stays (has_cause (applied (Started id device) s)) (started_row device) (λ r. refl)) (find_row x s) (id_eq x id)
  after_right (Ended id parts) far x = without (has_cause (applied (Ended id parts) s)) (find_row x s) (id_eq x id)
  after_right (Unlaunched id) far x = without (has_cause (applied (Unlaunched id) s)) (find_row x s) (id_eq x id)
  after_right Boot far x = booted_right (has_cause (applied Boot s)) (find_row x s)
  after_right (Edited e) far x = edited_right (has_cause (applied (Edited e) s)) e s x (find_row x s)
  after_right (HandOpened peer number id queue since) far x =
      changed (has_cause (applied (HandOpened peer number id queue since) s)) routing_row
      (stays (has_cause (applied (HandOpened peer number id queue since) s)) routing_row (λ r. refl)) (find_row x s) (id_eq x id)
  after_right (HandCommitted peer number) far x = of (find_hand peer number s)
    where
      of : (y : Option Hand) → IsRight (has_cause (applied (HandCommitted peer number) s)) (find_row x s) (committed_after y x (find_row x s))
      of None = the_same (has_cause (applied (HandCommitted peer number) s)) (find_row x s)
      of (Some y) = without (has_cause (applied (HandCommitted peer number) s)) (find_row x s) (id_eq x y.id)
  after_right (HandRefused peer number refusal) far x = of (find_hand peer number s)
    where
      queues : (y : Option Hand) → (hand_refused (peer_number peer number) refusal y s).queues ≡ s.queues
      queues None = refl
      queues (Some y) = refl

      of : (y : Option Hand) → IsRight (has_cause (applied (HandRefused peer number refusal) s)) (find_row x s) (refused_after y refusal s x (find_row x s))
      of None = the_same (has_cause (applied (HandRefused peer number refusal) s)) (find_row x s)
      of (Some y) =
          changed (has_cause (applied (HandRefused peer number refusal) s)) (back_row y refusal s)
          (back_right s (applied (HandRefused peer number refusal) s) (queues (find_hand peer number s)) y refusal) (find_row x s) (id_eq x y.id)
  after_right (HandsSilent until ks) far x = silents_right (has_cause (applied (HandsSilent until ks) s)) until ks s x (find_row x s) (find_row x s) (λ k. k)
  after_right (Accepted peer number) far x = of (find_promise peer number s) refl
    where
      of : (p : Option (Promise (List ℕ))) → find_promise peer number s ≡ p
          → IsRight (has_cause (applied (Accepted peer number) s)) (find_row x s) (accepted_after p x (find_row x s))
      of None e = the_same (has_cause (applied (Accepted peer number) s)) (find_row x s)
      of (Some p) e = first_right (has_cause (applied (Accepted peer number) s)) (find_row x s) (if id_eq x p.row.id then Some (requeued_row p.row) else None)
          (by (id_eq x p.row.id))
        where
          free : is_unheld p.row.hold ≡ true
          free = (and_parts (is_unheld p.row.hold) (not p.row.doomed) (list_all-found is_promise_free
              (is_promise (peer_number peer number)) s.promises p calm.promises e)).0

          by : (b : Bool) → IfSome (if b then Some (requeued_row p.row) else None) (λ r. is_held r ≡ false)
          by true = unheld_row p.row free
          by false = tt
  after_right (MovedLocal id queue) far x =
      changed (has_cause (applied (MovedLocal id queue) s)) (moved_local queue (s.arrivals + 1))
      (stays (has_cause (applied (MovedLocal id queue) s)) (moved_local queue (s.arrivals + 1)) (λ r. refl)) (find_row x s) (id_eq x id)
  after_right (RefusedLocal id queue refusal) far x =
      changed (has_cause (applied (RefusedLocal id queue refusal) s)) (local_refused queue refusal s)
      (local_right s (applied (RefusedLocal id queue refusal) s) refl queue refusal) (find_row x s) (id_eq x id)
  after_right (HeldFar id) far x = by (id_eq x id) refl
    where
      of : (p : Option PlainRow) → find_row x s ≡ p → x ≡ id → IsRight (has_cause (applied (HeldFar id) s)) p (option_map held_far p)
      of None e same = tt
      of (Some r) e same = λ k. (let f = far id refl in
          let is : f.0 ≡ r = same_Some f.0 r (sym f.1 ∙ (ap (λ i. find_row i s) (sym same) ∙ e)) in
          or_right (is_held r) _ (or_left (r.hops == 32) _ (ap (λ (q : PlainRow). q.hops == 32) (sym is) ∙ f.2)))

      by : (b : Bool) → id_eq x id ≡ b → IsRight (has_cause (applied (HeldFar id) s)) (find_row x s)
          (if b then option_map held_far (find_row x s) else find_row x s)
      by true e = of (find_row x s) refl (id_exact x id e)
      by false e = the_same (has_cause (applied (HeldFar id) s)) (find_row x s)
  after_right c far x = the_same (has_cause (applied c s)) (find_row x s)

-- a start alone holds as too far
way_far : {packets : List Message} {h : HostId} (s : Plain) (o : IsInOrder s) (way : Way packets h s) (c : Change (List ℕ)) → change_by way ≡ Some c
    → (id : Request) → c ≡ HeldFar id → (r : PlainRow) × (find_row id s ≡ Some r) × ((r.hops == 32) ≡ true)
way_far s o (Taken e comes) c is id far = absurd (follows_near s c (ap is_far far) e (some-if (Follows e s) (step e s).change c (step_makes s e) is))
way_far s o (Begun now x begun) c is id far = holds_far now s (steady s o) x id (is ∙ ap Some far) begun
way_far s o Booted c is id far = absurd (true≢false (sym (ap is_far far) ∙ ap is_far (sym (same_Some Boot c is))))

pub holds_for_cause : (site : List (List ℕ)) (first : List Plain) → OfMoments site first HoldsForCause
holds_for_cause site first m sound k h s there way c is suits t at x r found held =
    let host = sound.hosts h.0 s there in
    let same : s ≡ t = same_Some s t (sym there ∙ at) in
    let made : after c s x (find_row x s) ≡ Some r = sym (row_after x c s host.order suits.fit) ∙ (ap (λ u. find_row x (applied c u)) same ∙ found) in
    subst (λ u. (passes is_held (find_row x u) || has_cause (applied c u) r) ≡ true) same
    (some-if (λ q. is_held q ≡ true → (passes is_held (find_row x s) || has_cause (applied c s) q) ≡ true) (after c s x (find_row x s)) r
    (after_right s host.order host.calm c (way_far s host.order way c is) x) made held)
