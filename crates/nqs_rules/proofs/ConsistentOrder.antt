-- What besides holds of a state at every moment stays so: kind by kind.
use Rattle.std.proofs.Common.{◌≡◌, ℕ, ◌+◌, Bool, true, false, not, ◌&&◌, ◌||◌, nat_lt, List, [], ◌∷◌, ◌++◌, map, find, Option, None, Some, refl, sym}
use Rattle.std.proofs.Common.{ap, subst, ◌∙◌, arith, if◌then◌else◌}
use Rattle.std.proofs.lemmas.Bool.{and_parts, or_left, or_right, and_right, not-true, not_from_false}
use Rattle.std.proofs.lemmas.List.Folds.{list_any-append}
use Rattle.std.proofs.lemmas.Option.{same_Some}
use Rattle.std.specs.List.{list_any, list_all, filter_map}
use Rattle.std.specs.Option.{IfSome}
use Rattle.nqs_state.specs.State.{State}
use Rattle.nqs_base.specs.Same.{name_eq}
use Rattle.nqs_base.proofs.Plain.{any_kept}
use Rattle.nqs_types.specs.Ids.{id_eq, id_exact}
use Rattle.nqs_base_tables.specs.Table.{without_first}
use Rattle.nqs_state.specs.Keys.{is_row, is_hand, is_promise}
use Rattle.nqs_types.specs.declared.ids.HostId.{HostId}
use Rattle.nqs_types.specs.declared.ids.RequestId.{RequestId}
use Rattle.nqs_types.specs.declared.ids.Dest.{Dest}
use Rattle.nqs_types.specs.declared.ids.PeerNumber.{PeerNumber}
use Rattle.nqs_types.specs.declared.request.Row.{Row}
use Rattle.nqs_types.specs.declared.request.RowState.TheVariants.{Queued}
use Rattle.nqs_types.specs.declared.request.Phase.TheVariants.{Offered}
use Rattle.nqs_types.specs.declared.request.Hand.{Hand}
use Rattle.nqs_types.specs.declared.request.Promise.{Promise}
use Rattle.nqs_types.specs.declared.request.Carried.{Carried}
use Rattle.nqs_types.specs.declared.request.Job.{Job}
use Rattle.nqs_rules.specs.Tests.{is_routing, is_running, is_queued, is_ready, is_unheld, is_offered}
use Rattle.nqs_rules.specs.Find.{has_row, find_row, find_hand}
use Rattle.nqs_rules.specs.Edits.{change_row, change_peer}
use Rattle.nqs_rules.specs.Rows.{doomed_in}
use Rattle.nqs_rules.specs.Routing.{dests_for, refusal_noted, close}
use Rattle.nqs_rules.specs.Applied.{is_offered_for, committed, submitted, deleted, may_start_again, lost_row, booted_row, routing_row, requeued_row, drop_hand}
use Rattle.nqs_rules.specs.Applied.{hand_opened, hand_committed, hand_refused, hand_silent, hands_silent, is_outlived, promises_from, promised, drop_promise}
use Rattle.nqs_rules.specs.Applied.{accepted}
use Rattle.nqs_rules.specs.Applied.{dropped}
use Rattle.nqs_rules.specs.Fits.{row_passes, may_hop, is_offered_hand, are_offered, hand_passes, is_id_given}
use Rattle.nqs_rules.specs.InOrder.{IsInOrder, IsConsistent, are_distinct, is_doom_right, is_hold_right, has_hand, is_promise_free, is_hand_of_given}
use Rattle.nqs_rules.specs.InOrder.{is_row_right}
use Rattle.nqs_rules.proofs.Sublists.{without_part, filter_part, part_all}
use Rattle.nqs_rules.proofs.ListFacts.{found_passes, list_all-weaker, list_all-changed, list_all-found}
use Rattle.nqs_rules.proofs.KeyFacts.{all-both, all-added, any-before, all_from_none, gone_without, turned}
use Rattle.nqs_rules.proofs.FindKept.{all-filter_map, all-mapped}
use Rattle.nqs_rules.proofs.StateFacts.{keys_are}
use Rattle.nqs_rules.proofs.RowFacts.{same_id, row_is}
use Rattle.nqs_rules.proofs.RowChanges.{noted_kept, routing_is, ready_queued}
use Rattle.nqs_rules.proofs.RowKinds.{found_row}
use Rattle.nqs_rules.proofs.HandoversOrder.{routes, silent_one, still_offered, not_committed, offer_or_none}
use Rattle.nqs_rules.proofs.Consistent.{any-changed_other, any-without_found, all-changed_alone, same_core, IsCalm, row_calm, row_joins}
use Rattle.nqs_rules.proofs.Consistent.{promises_stay, seq_grows, hand_stays, other_offer}

module _ {E : Type 0} where
  -- a queued row that isn't doomed
  pub queued_calm : (s : State E) (r : Row E) → r.state ≡ Queued → r.doomed ≡ false → IsCalm s r
  queued_calm s r queued spared = record {
    doomed = or_right (is_running r.state) (not r.doomed) (not_from_false r.doomed spared);
    held = or_left (is_queued r.state) (is_unheld r.hold) (ap is_queued queued);
    routing = or_left (not (is_routing r.state)) (list_any (is_offered_for r.id) s.hands) (ap (λ t. not (is_routing t)) queued);
  }

  -- a row that doesn't run isn't doomed
  spared : (r : Row E) → is_running r.state ≡ false → is_doom_right r ≡ true → r.doomed ≡ false
  spared r idle h = not-true r.doomed (subst (λ b. (b || not r.doomed) ≡ true) idle h)

  pub ready_spared : (r : Row E) → is_ready r ≡ true → is_doom_right r ≡ true → r.doomed ≡ false
  ready_spared r ready h = spared r (ap is_running (ready_queued r ready)) h

  module _ (s : State E) (h : IsInOrder s) (c : IsConsistent s) where
    ids : are_distinct id_eq (map (λ r. r.id) s.rows) ≡ true
    ids = (keys_are s h.keys).rows

    -- the rows that stay where one goes are of other requests
    others : (id : RequestId) → list_all (λ r. not (id_eq id r.id)) (without_first (is_row id) s.rows) ≡ true
    others id = all_from_none (λ r. not (id_eq id r.id)) (is_row id) (λ r e. not_from_false (id_eq id r.id) e) (without_first (is_row id) s.rows)
        (gone_without id_eq (λ r. r.id) id_exact same_id id s.rows ids)

    pub deleted_calm : (id : RequestId) → IsConsistent (deleted id s)
    deleted_calm id =
        let part = without_part (is_row id) s.rows in
        let t : State E = deleted id s in
        record {
          doomed = part_all is_doom_right part c.doomed;
          held = part_all is_hold_right part c.held;
          routing = all-both (has_hand s) (λ r. not (id_eq id r.id)) (has_hand t)
              (λ r k other. hand_stays s t r (λ has. any_kept (is_offered_for r.id) (λ x. not (is_offered_for id x))
              (λ x. other_offer id r x (not-true (id_eq id r.id) other)) s.hands ∙ has) k)
              (without_first (is_row id) s.rows) (part_all (has_hand s) part c.routing) (others id);
          promises = c.promises;
          given = part_all (is_hand_of_given s) (filter_part (λ x. not (is_offered_for id x)) s.hands) c.given;
        }

    pub submitted_calm : (queue : List ℕ) (job : Job) (script : E) → IsConsistent (submitted queue job script s)
    submitted_calm queue job script =
        let t : State E = record s { seq = s.seq + 1; arrivals = s.arrivals + 1 } in
        row_joins t _ (same_core (record s { seq = s.seq + 1 }) t refl refl refl refl refl (seq_grows s (s.seq + 1) (omega arith) c))
        (record { doomed = refl; held = refl; routing = refl })

    pub booted_calm : IsConsistent (record s { rows = filter_map booted_row s.rows })
    booted_calm = record {
      doomed = all-filter_map is_doom_right is_doom_right booted_row (λ r k. by is_doom_right r k
          (λ e. (and_parts (r.job.rerun) (not r.doomed) (and_parts (r.job.rerun && not r.doomed) (nat_lt r.starts 65535) e).0).1)) s.rows c.doomed;
      held = all-filter_map is_hold_right is_hold_right booted_row (λ r k. by is_hold_right r k (λ e. refl)) s.rows c.held;
      routing = all-filter_map (has_hand s) (has_hand s) booted_row (λ r k. by (has_hand s) r k (λ e. refl)) s.rows c.routing;
      promises = c.promises;
      given = c.given;
    }
      where
        by : (test : Row E → Bool) (r : Row E) → test r ≡ true → (may_start_again r ≡ true → test (lost_row r) ≡ true)
            → IfSome (booted_row r) (λ q. test q ≡ true)
        by test r k lost = of (is_running r.state) (may_start_again r) refl
          where
            of : (b d : Bool) → may_start_again r ≡ d → IfSome (if b then (if d then Some (lost_row r) else None) else Some r) (λ q. test q ≡ true)
            of true true e = lost e
            of true false e = tt
            of false d e = k

    pub aborted_calm : (q : List ℕ) → IsConsistent (record s { rows = map (doomed_in q) s.rows })
    aborted_calm q = record {
      doomed = all-mapped is_doom_right is_doom_right (doomed_in q) (λ r k. by is_doom_right r k
          (λ e. or_left (is_running r.state) (not true) e)) s.rows c.doomed;
      held = all-mapped is_hold_right is_hold_right (doomed_in q) (λ r k. by is_hold_right r k (λ e. k)) s.rows c.held;
      routing = all-mapped (has_hand s) (has_hand s) (doomed_in q) (λ r k. by (has_hand s) r k (λ e. k)) s.rows c.routing;
      promises = c.promises;
      given = c.given;
    }
      where
        by : (test : Row E → Bool) (r : Row E) → test r ≡ true → (is_running r.state ≡ true → test (record r { doomed = true }) ≡ true)
            → test (doomed_in q r) ≡ true
        by test r k dooms = of (is_running r.state && name_eq q r.queue) refl
          where
            of : (b : Bool) → (is_running r.state && name_eq q r.queue) ≡ b → test (if b then record r { doomed = true } else r) ≡ true
            of true e = dooms (and_parts (is_running r.state) (name_eq q r.queue) e).0
            of false e = k

    -- handovers

    pub opened_calm : (peer : HostId) (number : ℕ) (id : RequestId) (queue : List ℕ) (since : ℕ) → row_passes may_hop id s ≡ true
        → IsConsistent (hand_opened peer number id queue since s)
    opened_calm peer number id queue since hop =
        let r = found_row may_hop id s hop in
        let ready = (and_parts (is_ready r.0) (nat_lt r.0.hops 32) r.2).0 in
        let t : State E = hand_opened peer number id queue since s in
        let x : Hand = record { peer = peer; number = number; id = id; queue = queue; since = since; phase = Offered } in
        let calm = row_calm s (is_row id) r.0 c r.1 in
        let key : id ≡ r.0.id = id_exact id r.0.id (found_passes (is_row id) s.rows r.0 r.1) in
        record {
          doomed = list_all-changed is_doom_right (is_row id) routing_row s.rows c.doomed
              (λ q e. ap (λ y. not y.doomed) (same_Some q r.0 (sym e ∙ r.1)) ∙ not_from_false r.0.doomed (ready_spared r.0 ready calm.doomed));
          held = list_all-changed is_hold_right (is_row id) routing_row s.rows c.held
              (λ q e. ap (λ y. is_unheld y.hold) (same_Some q r.0 (sym e ∙ r.1)) ∙ (and_parts (is_queued r.0.state) (is_unheld r.0.hold) ready).1);
          routing = list_all-changed (has_hand t) (is_row id) routing_row s.rows
              (list_all-weaker (has_hand s) (has_hand t) (λ q k. hand_stays s t q (any-before (is_offered_for q.id) s.hands (x ∷ [])) k) s.rows c.routing)
              (λ q e. list_any-append (is_offered_for q.id) s.hands (x ∷ []) ∙ or_right (list_any (is_offered_for q.id) s.hands) (id_eq q.id id || false)
              (or_left (id_eq q.id id) false (ap (λ i. id_eq i id) (sym (id_exact id q.id (found_passes (is_row id) s.rows q e))) ∙ same_id id)));
          promises = c.promises;
          given = all-added (is_hand_of_given s) s.hands x c.given (ap (is_id_given s) key
              ∙ (row_is s r.0 (list_all-found (is_row_right s) (is_row id) s.rows r.0 h.rows r.1)).given);
        }

    module _ (k : PeerNumber) (x : Hand) (found : find (is_hand k) s.hands ≡ Some x) where
      -- another row's offer isn't this hand
      not_this : (r : Row E) → id_eq x.id r.id ≡ false → is_offered_for r.id x ≡ false
      not_this r other = and_right (is_offered x.phase) (id_eq r.id x.id) (turned id_eq id_exact same_id x.id r.id other)

      pub committed_calm : IsConsistent (hand_committed k (Some x) s)
      committed_calm =
          let part = without_part (is_row x.id) s.rows in
          let t : State E = hand_committed k (Some x) s in
          record {
            doomed = part_all is_doom_right part c.doomed;
            held = part_all is_hold_right part c.held;
            routing = all-both (has_hand s) (λ r. not (id_eq x.id r.id)) (has_hand t)
                (λ r q other. hand_stays s t r (any-changed_other (is_offered_for r.id) (is_hand k) committed s.hands x found
                (not_this r (not-true (id_eq x.id r.id) other))) q)
                (without_first (is_row x.id) s.rows) (part_all (has_hand s) part c.routing) (others x.id);
            promises = c.promises;
            given = list_all-changed (is_hand_of_given s) (is_hand k) committed s.hands c.given
                (λ y e. list_all-found (is_hand_of_given s) (is_hand k) s.hands y c.given e);
          }

      pub done_calm : is_offered x.phase ≡ false → IsConsistent (drop_hand k s)
      done_calm committed = record {
        doomed = c.doomed;
        held = c.held;
        routing = list_all-weaker (has_hand s) (has_hand (drop_hand k s))
            (λ r q. hand_stays s (drop_hand k s) r (any-without_found (is_offered_for r.id) (is_hand k) s.hands x found
            (ap (λ b. b && id_eq r.id x.id) committed)) q) s.rows c.routing;
        promises = c.promises;
        given = part_all (is_hand_of_given s) (without_part (is_hand k) s.hands) c.given;
      }

      -- the hand of an offer goes, and its row is queued again
      pub back_calm : is_offered x.phase ≡ true → (f : Row E → Row E) → ((r : Row E) → (f r).state ≡ Queued) → ((r : Row E) → (f r).doomed ≡ r.doomed)
          → IsConsistent (change_row x.id f (drop_hand k s))
      back_calm offered f queued same =
          let t : State E = drop_hand k s in
          let calm : (r : Row E) → find_row x.id s ≡ Some r → IsCalm t (f r) = λ r e.
          queued_calm t (f r) (queued r) (same r ∙ spared r (ap is_running (routing_is r.state (routes s h k x found offered r e)))
          (row_calm s (is_row x.id) r c e).doomed) in
          record {
            doomed = list_all-changed is_doom_right (is_row x.id) f s.rows c.doomed (λ r e. (calm r e).doomed);
            held = list_all-changed is_hold_right (is_row x.id) f s.rows c.held (λ r e. (calm r e).held);
            routing = all-changed_alone id_eq id_exact (λ r. r.id) x.id f (has_hand s) (has_hand t)
                (λ r other q. hand_stays s t r (any-without_found (is_offered_for r.id) (is_hand k) s.hands x found (not_this r other)) q)
                (λ r q. or_left (not (is_routing (f r).state)) (list_any (is_offered_for (f r).id) t.hands)
                (ap (λ z. not (is_routing z)) (queued r))) s.rows ids c.routing;
            promises = c.promises;
            given = part_all (is_hand_of_given s) (without_part (is_hand k) s.hands) c.given;
          }

      pub refused_calm : is_offered x.phase ≡ true → (refusal : ℕ) → IsConsistent (hand_refused k refusal (Some x) s)
      refused_calm offered refusal =
          let dest : Dest = record { queue = x.queue; host = x.peer } in
          back_calm offered (λ r. refusal_noted (dests_for r s) dest refusal (requeued_row r))
          (λ r. noted_kept (λ y. y.state) (λ y l. refl) (λ y. refl) (dests_for r s) dest refusal (requeued_row r))
          (λ r. noted_kept (λ y. y.doomed) (λ y l. refl) (λ y. refl) (dests_for r s) dest refusal (requeued_row r))

      pub silent_calm_one : is_offered x.phase ≡ true → (until : ℕ) → IsConsistent (hand_silent until k (Some x) s)
      silent_calm_one offered until = same_core (change_row x.id requeued_row (drop_hand k s)) (hand_silent until k (Some x) s) refl refl refl refl refl
          (back_calm offered requeued_row (λ r. refl) (λ r. refl))

    -- promises

    pub promised_calm : (peer : HostId) (number low : ℕ) (queue : List ℕ) (d : Carried) (script : E)
        → IsConsistent (promised peer number low queue d script s)
    promised_calm peer number low queue d script = record {
      doomed = c.doomed;
      held = c.held;
      routing = c.routing;
      promises = all-added is_promise_free (promises_from peer low s.promises) _
          (part_all is_promise_free (filter_part (λ p. not (is_outlived peer low p)) s.promises) c.promises) refl;
      given = c.given;
    }

    module _ (k : PeerNumber) where
      pub dropped_calm : IsConsistent (dropped k s)
      dropped_calm = same_core (drop_promise k s) (dropped k s) refl refl refl refl refl
          (promises_stay s (without_first (is_promise k) s.promises) (without_part (is_promise k) s.promises) c)

      pub accepted_calm : (p : Promise E) → find (is_promise k) s.promises ≡ Some p → IsConsistent (accepted k (Some p) s)
      accepted_calm p found = of (has_row p.row.id s)
        where
          free : (is_unheld p.row.hold ≡ true) × (not p.row.doomed ≡ true)
          free = and_parts (is_unheld p.row.hold) (not p.row.doomed) (list_all-found is_promise_free (is_promise k) s.promises p c.promises found)

          t : State E
          t = drop_promise k s

          calm : IsConsistent (drop_promise k s)
          calm = promises_stay s (without_first (is_promise k) s.promises) (without_part (is_promise k) s.promises) c

          of : (b : Bool) → IsConsistent (change_peer k.peer (close k.number) (if b then t else record t { rows = s.rows ++ requeued_row p.row ∷ [] }))
          of true = same_core t (change_peer k.peer (close k.number) t) refl refl refl refl refl calm
          of false = same_core (record t { rows = s.rows ++ requeued_row p.row ∷ [] })
              (change_peer k.peer (close k.number) (record t { rows = s.rows ++ requeued_row p.row ∷ [] })) refl refl refl refl refl
              (row_joins t (requeued_row p.row) calm (queued_calm t (requeued_row p.row) refl (not-true p.row.doomed free.1)))

  -- offers that are taken back one after the other
  silent_calm_all : (until : ℕ) (ks : List PeerNumber) (s : State E) → IsInOrder s → IsConsistent s
      → list_all (λ k. not_committed (find_hand k.peer k.number s)) ks ≡ true → IsConsistent (hands_silent until ks s)
  silent_calm_all until [] s h c all = c
  silent_calm_all until (k ∷ ks) s h c all =
      let p = and_parts (not_committed (find_hand k.peer k.number s)) (list_all (λ l. not_committed (find_hand l.peer l.number s)) ks) all in
      of (find_hand k.peer k.number s) refl p.0 p.1 (silent_calm_all until ks)
    where
      of : (o : Option Hand) → find_hand k.peer k.number s ≡ o → not_committed o ≡ true → list_all (λ l. not_committed (find_hand l.peer l.number s)) ks ≡ true
          → ((t : State E) → IsInOrder t → IsConsistent t → list_all (λ l. not_committed (find_hand l.peer l.number t)) ks ≡ true
          → IsConsistent (hands_silent until ks t)) → IsConsistent (hands_silent until ks (hand_silent until k o s))
      of None e offered others rest = rest s h c others
      of (Some x) e offered others rest = rest (hand_silent until k (Some x) s) (silent_one s h k x e offered until) (silent_calm_one s h c k x e offered until)
          (list_all-weaker (λ l. not_committed (find_hand l.peer l.number s)) (λ l. not_committed (find (is_hand l) (without_first (is_hand k) s.hands)))
          (λ l. still_offered s h k l) ks others)

  pub silent_calm : (until : ℕ) (ks : List PeerNumber) (s : State E) → IsInOrder s → IsConsistent s → are_offered ks s ≡ true
      → IsConsistent (hands_silent until ks s)
  silent_calm until ks s h c all = silent_calm_all until ks s h c (list_all-weaker (λ k. hand_passes is_offered_hand k.peer k.number s)
      (λ k. not_committed (find_hand k.peer k.number s)) (λ k. offer_or_none (find_hand k.peer k.number s)) ks all)
