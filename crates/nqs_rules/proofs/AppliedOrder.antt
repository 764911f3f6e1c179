-- Each change that fits leaves a state in order.
use Rattle.std.proofs.Common.{◌≡◌, ℕ, ◌+◌, Bool, true, false, cond, not, nat_lt, nat_le, List, [], ◌∷◌, filter, Option, None, Some, refl, sym, ap, ◌∙◌, arith}
use Rattle.std.proofs.lemmas.Bool.{and_parts, and_from, leb-false, le-leb, ltb-true, lt-ltb, or_right, not_from_false}
use Rattle.std.proofs.lemmas.Option.{same_Some}
use Rattle.std.specs.List.{list_all}
use Rattle.nqs_state.specs.State.{State}
use Rattle.nqs_types.specs.declared.ids.RequestId.{RequestId}
use Rattle.nqs_types.specs.declared.request.Job.{Job}
use Rattle.nqs_types.specs.declared.request.Row.{Row}
use Rattle.nqs_types.specs.declared.request.Hand.{Hand}
use Rattle.nqs_rules.specs.Tests.{passes, is_ready, same_host, last_u64, last_seq}
use Rattle.nqs_rules.specs.Find.{has_queue, has_device, held_count}
use Rattle.nqs_rules.specs.Devices.{is_busy}
use Rattle.nqs_rules.specs.Edits.{change_row}
use Rattle.nqs_rules.specs.Rows.{arrivals_used, is_host_full, next_arrival}
use Rattle.nqs_rules.specs.Routing.{dests_for}
use Rattle.nqs_rules.specs.Sane.{is_sane_job, is_sane_id}
use Rattle.nqs_rules.specs.Applied.{new_row, first_carried, next_id, submitted, deleted, started_row, is_offered_for, moved_local, local_refused}
use Rattle.nqs_rules.specs.Fits.{row_passes, may_hop, is_site_host, device_fits}
use Rattle.nqs_rules.specs.InOrder.{IsInOrder, is_device_there}
use Rattle.nqs_rules.proofs.Sublists.{filter_part}
use Rattle.nqs_rules.proofs.StateFacts.{IsSite, sites_are}
use Rattle.nqs_rules.proofs.RowsOrder.{is_no_offer_of, row_dropped, row_changed, row_added}
use Rattle.nqs_rules.proofs.RowChanges.{new_row_right, noted_kept, ready_queued, started_right, moved_right, noted_right}
use Rattle.nqs_rules.proofs.RowKinds.{found_row, unoffered, ready_unrouted, counted, arrival_new, number_new, row_moved}
use Rattle.nqs_rules.proofs.HandsOrder.{hands_part}

-- a hand that a filter leaves is no offer of the request
none_left : (id : RequestId) (hs : List Hand) → list_all (is_no_offer_of id) (filter (λ h. not (is_offered_for id h)) hs) ≡ true
none_left id [] = refl
none_left id (h ∷ hs) = by (is_offered_for id h) refl (none_left id hs)
  where
    by : (b : Bool) → is_offered_for id h ≡ b → list_all (is_no_offer_of id) (filter (λ h. not (is_offered_for id h)) hs) ≡ true
        → list_all (is_no_offer_of id) (cond (not b) (h ∷ filter (λ h. not (is_offered_for id h)) hs) (filter (λ h. not (is_offered_for id h)) hs)) ≡ true
    by true e rest = rest
    by false e rest = and_from (is_no_offer_of id h) (list_all (is_no_offer_of id) (filter (λ h. not (is_offered_for id h)) hs))
        (not_from_false (is_offered_for id h) e) rest

module _ {E : Type 0} (s : State E) (h : IsInOrder s) where
  site : IsSite s
  site = sites_are s h.site

  -- submissions and deletions

  pub submitted_order : (queue : List ℕ) (job : Job) (script : E) → is_sane_job job ≡ true → has_queue queue s ≡ true → is_host_full s ≡ false
      → nat_lt s.seq last_seq ≡ true → arrivals_used s ≡ false → IsInOrder (submitted queue job script s)
  submitted_order queue job script sane there full left used =
      let few = ltb-true s.seq last_seq left in
      let unused : nat_le last_u64 s.arrivals ≡ false = used in
      let below = leb-false last_u64 s.arrivals unused in
      let room : nat_le 10000 (held_count s) ≡ false = full in
      let t : State E = record s { seq = s.seq + 1; arrivals = s.arrivals + 1 } in
      let r : Row E = new_row (first_carried (next_id s) job) queue (s.arrivals + 1) script in
      let k : IsInOrder t = counted s (s.seq + 1) (s.arrivals + 1) h (omega arith) (omega (arith, few)) (omega arith) (omega (arith, below)) in
      row_added t r k (let k = leb-false 10000 (held_count s) room in lt-ltb (held_count s) 10000 (omega (arith, k)))
      (new_row_right t (first_carried (next_id s) job) queue (s.arrivals + 1) script
      (and_from (is_site_host s.me s) (is_sane_id (next_id s)) site.me (and_from (nat_le 1 (s.seq + 1)) (nat_le (s.seq + 1) last_seq)
      (le-leb 1 (s.seq + 1) (omega arith)) (le-leb (s.seq + 1) last_seq (omega (arith, few)))))
      (or_right (not (same_host s.me s.me)) (nat_le (s.seq + 1) (s.seq + 1)) (le-leb (s.seq + 1) (s.seq + 1) (omega arith))) sane there
      (le-leb (s.arrivals + 1) (s.arrivals + 1) (omega arith)) refl refl refl)
      (number_new s h) (arrival_new s h)

  pub deleted_order : (id : RequestId) → IsInOrder (deleted id s)
  deleted_order id =
      let hands = filter (λ x. not (is_offered_for id x)) s.hands in
      row_dropped (record s { hands = hands }) id (hands_part s hands (filter_part (λ x. not (is_offered_for id x)) s.hands) h) (none_left id s.hands)

  pub started_order : (id : RequestId) (device : Option (List ℕ)) → row_passes is_ready id s ≡ true → device_fits device s ≡ true
      → IsInOrder (change_row id (started_row device) s)
  started_order id device ready fit =
      let r = found_row is_ready id s ready in
      row_changed s id (started_row device) h (λ q. refl) (λ q e k. started_right s q k device
      (ready_queued q (ap is_ready (same_Some q r.0 (sym e ∙ r.1)) ∙ r.2)) (there device fit)) (λ q. refl) (unoffered is_ready id s h ready_unrouted ready)
    where
      there : (o : Option (List ℕ)) → device_fits o s ≡ true → is_device_there o s ≡ true
      there None fit = refl
      there (Some d) fit = (and_parts (has_device d s) (not (is_busy d s)) fit).0

  pub moved_order : (id : RequestId) (queue : List ℕ) → row_passes may_hop id s ≡ true → has_queue queue s ≡ true → not (arrivals_used s) ≡ true
      → IsInOrder (change_row id (moved_local queue (s.arrivals + 1)) (next_arrival s))
  moved_order id queue hop there some =
      let r = found_row may_hop id s hop in
      let may = and_parts (is_ready r.0) (nat_lt r.0.hops 32) r.2 in
      row_moved s id (moved_local queue (s.arrivals + 1)) h some (λ q. refl) (λ q. refl) (λ q e k.
      let is : q ≡ r.0 = same_Some q r.0 (sym e ∙ r.1) in
      let few : nat_lt q.hops 32 ≡ true = ap (λ y. nat_lt y.hops 32) is ∙ may.1 in
      let below = ltb-true q.hops 32 few in
      moved_right (next_arrival s) q k queue (s.arrivals + 1) (q.hops + 1) (ready_queued q (ap is_ready is ∙ may.0)) there
      (le-leb (s.arrivals + 1) (s.arrivals + 1) (omega arith)) (le-leb (q.hops + 1) 32 (omega (arith, below))))
      (unoffered is_ready id s h ready_unrouted (ap (passes is_ready) r.1 ∙ may.0))

  pub noted_order : (id : RequestId) (queue : List ℕ) (refusal : ℕ) → row_passes is_ready id s ≡ true
      → IsInOrder (change_row id (local_refused queue refusal s) s)
  noted_order id queue refusal ready = row_changed s id (local_refused queue refusal s) h
      (λ q. noted_kept (λ y. y.id) (λ y l. refl) (λ y. refl) (dests_for q s) (record { queue = queue; host = s.me }) refusal q)
      (λ q e k. noted_right s q k (dests_for q s) (record { queue = queue; host = s.me }) refusal site.me)
      (λ q. noted_kept (λ y. y.arrival) (λ y l. refl) (λ y. refl) (dests_for q s) (record { queue = queue; host = s.me }) refusal q)
      (unoffered is_ready id s h ready_unrouted ready)
