-- The changes of rows, and what counts requests: a state in order stays so.
use Rattle.std.proofs.Common.{◌≡◌, ℕ, ◌+◌, ◌≤◌, Bool, true, false, not, ◌&&◌, ◌||◌, ◌==◌, nat_le, List, ◌++◌, map, filter, length, Option, None, Some}
use Rattle.std.proofs.Common.{true≢false, refl, sym, ap, ◌∙◌, arith, if◌then◌else◌}
use Rattle.std.proofs.lemmas.Bool.{and_parts, leb-true, leb-false, le-leb, not-true, not_from_false, false_from_ne_true, or_from}
use Rattle.std.proofs.lemmas.Bool.Decides.{nat_tests}
use Rattle.std.proofs.lemmas.List.{length-map}
use Rattle.std.proofs.lemmas.List.Folds.{list_any-append}
use Rattle.std.specs.List.{list_any, list_all, filter_map}
use Rattle.std.specs.Option.{IfSome}
use Rattle.nqs_state.specs.State.{State}
use Rattle.nqs_base.specs.Same.{name_eq, number_exact}
use Rattle.nqs_types.specs.Ids.{id_eq, id_exact}
use Rattle.nqs_base_tables.specs.Table.{change_first}
use Rattle.nqs_state.specs.Keys.{is_row}
use Rattle.nqs_types.specs.declared.ids.RequestId.{RequestId}
use Rattle.nqs_types.specs.declared.request.Row.{Row}
use Rattle.nqs_rules.specs.Tests.{passes, is_running, is_routing, is_queued, is_ready, is_unheld, same_host, last_u64, last_seq}
use Rattle.nqs_rules.specs.Find.{find_row, has_row}
use Rattle.nqs_rules.specs.Fits.{row_passes}
use Rattle.nqs_rules.specs.Edits.{change_row}
use Rattle.nqs_rules.specs.Conf.{is_queued_in}
use Rattle.nqs_rules.specs.Rows.{doomed_in, released_row, next_arrival, arrivals_used}
use Rattle.nqs_rules.specs.Applied.{booted_row, lost_row, may_start_again, next_id}
use Rattle.nqs_rules.specs.InOrder.{IsInOrder, are_distinct, same_number, arrivals_of, is_routing_row, is_row_right, is_promise_right}
use Rattle.nqs_rules.proofs.Chains.{implied}
use Rattle.nqs_rules.proofs.Sublists.{IsPart, filter_part, filter_map_part, map_part, part_before, part_length, part_all, part_distinct}
use Rattle.nqs_rules.proofs.ListFacts.{map-changed}
use Rattle.nqs_rules.proofs.ListMaps.{list_any-map}
use Rattle.nqs_rules.proofs.KeyFacts.{none_from_all, distinct-renamed}
use Rattle.nqs_rules.proofs.FindKept.{find-filter_kept, find-filter_map_kept, find-map_kept, find-changed_kept, all-filter_map, all-mapped, map-kept}
use Rattle.nqs_rules.proofs.StateFacts.{default_kept, parameters_are, parameters_right, short_are, keys_are}
use Rattle.nqs_rules.proofs.RowFacts.{same_it, row_is, promise_is}
use Rattle.nqs_rules.proofs.SameBut.{with_more_conf}
use Rattle.nqs_rules.proofs.RowsOrder.{is_no_offer_of, with_rows, no_offer, still_stand, changed_with, others_stand, others_found}
use Rattle.nqs_rules.proofs.RowChanges.{queued_is, routing_is, running_is, doomed_in_right, booted_right, released_right}

module _ {E : Type 0} where
  -- the row that a change speaks of
  pub found_row : (test : Row E → Bool) (id : RequestId) (s : State E) → row_passes test id s ≡ true → (r : Row E) × (find_row id s ≡ Some r) × (test r ≡ true)
  found_row test id s h = of (find_row id s) refl h
    where
      of : (o : Option (Row E)) → find_row id s ≡ o → passes test o ≡ true → (r : Row E) × (find_row id s ≡ Some r) × (test r ≡ true)
      of None e h = absurd (true≢false (sym h))
      of (Some r) e h = (r, e, h)

  -- one that isn't on its way has no offer
  pub unoffered : (test : Row E → Bool) (id : RequestId) (s : State E) → IsInOrder s → ((r : Row E) → test r ≡ true → is_routing r.state ≡ false)
      → row_passes test id s ≡ true → list_all (is_no_offer_of id) s.hands ≡ true
  unoffered test id s h idle fit = let r = found_row test id s fit in no_offer s id h r.0 r.1 (idle r.0 r.2)

  pub running_unrouted : (r : Row E) → is_running r.state ≡ true → is_routing r.state ≡ false
  running_unrouted r h = ap is_routing (running_is r.state h)

  pub ready_unrouted : (r : Row E) → is_ready r ≡ true → is_routing r.state ≡ false
  ready_unrouted r h = ap is_routing (queued_is r.state (and_parts (is_queued r.state) (is_unheld r.hold) h).0)

  pub row_released : (s : State E) (id : RequestId) → IsInOrder s → IsInOrder (change_row id released_row s)
  row_released s id h =
      changed_with s id released_row h (λ r. refl) (λ r found k. released_right s r k)
      (ap (λ l. are_distinct same_number (l ++ map (λ p. p.row.arrival) s.promises)) (map-arrivals s.rows) ∙ h.arrivals)
      (still_stand s _ h (λ k found. find-changed_kept (is_row k) is_routing_row (is_row id) released_row (λ r. refl) (λ r. refl) s.rows ∙ found))
    where
      map-arrivals : (rows : List (Row E)) → map (λ r. r.arrival) (change_first (is_row id) released_row rows) ≡ map (λ r. r.arrival) rows
      map-arrivals rows = map-changed (λ r. r.arrival) (is_row id) released_row (λ r. refl) rows

  pub rows_purged : (s : State E) (q : List ℕ) → IsInOrder s → IsInOrder (record s { rows = filter (λ r. not (is_queued_in q r)) s.rows })
  rows_purged s q h =
      let part : IsPart (filter (λ r. not (is_queued_in q r)) s.rows) s.rows = filter_part (λ r. not (is_queued_in q r)) s.rows in
      let few = part_length part in
      let held : nat_le (length s.rows + length s.promises) 10000 ≡ true = (short_are s h.short).held in
      with_rows s (filter (λ r. not (is_queued_in q r)) s.rows) h (le-leb _ 10000
      (let k = leb-true (length s.rows + length s.promises) 10000 held in omega (arith, few, k))) (part_all (is_row_right s) part h.rows)
      (part_distinct id_eq (map_part (λ r. r.id) part) (keys_are s h.keys).rows)
      (part_distinct same_number (part_before _ (map_part (λ r. r.arrival) part)) h.arrivals)
      (still_stand s _ h (λ k. find-filter_kept (is_row k) is_routing_row (λ r. not (is_queued_in q r))
      (λ r routes. not_from_false _ (ap (λ b. b && name_eq q r.queue) (ap is_queued (routing_is r.state routes)))) s.rows))

  pub rows_booted : (s : State E) → IsInOrder s → IsInOrder (record s { rows = filter_map booted_row s.rows })
  rows_booted s h =
      let few : length (filter_map booted_row s.rows) ≤ length s.rows = omega (
        arith,
        part_length (filter_map_part (λ r. r.id) booted_row (kept_key (λ r. r.id) (λ r. refl)) s.rows),
        length-map (filter_map booted_row s.rows)
            (λ r. r.id),
        length-map s.rows (λ r. r.id),
      ) in
      let held : nat_le (length s.rows + length s.promises) 10000 ≡ true = (short_are s h.short).held in
      with_rows s (filter_map booted_row s.rows) h (le-leb _ 10000 (let k = leb-true (length s.rows + length s.promises) 10000 held in omega (arith, few, k)))
      (all-filter_map (is_row_right s) (is_row_right s) booted_row (booted_right s) s.rows h.rows)
      (part_distinct id_eq (filter_map_part (λ r. r.id) booted_row (kept_key (λ r. r.id) (λ r. refl)) s.rows) (keys_are s h.keys).rows)
      (part_distinct same_number (part_before _ (filter_map_part (λ r. r.arrival) booted_row (kept_key (λ r. r.arrival) (λ r. refl)) s.rows)) h.arrivals)
      (still_stand s _ h (λ k. find-filter_map_kept (is_row k) is_routing_row booted_row unrun (kept_key (λ r. is_row k r) (λ r. refl)) s.rows))
    where
      kept_key : {K : Type 0} (key : Row E → K) → ((r : Row E) → key (lost_row r) ≡ key r) → (r : Row E) → IfSome (booted_row r) (λ q. key q ≡ key r)
      kept_key key same r = by (is_running r.state) (may_start_again r)
        where
          by : (b c : Bool) → IfSome (if b then (if c then Some (lost_row r) else None) else Some r) (λ q. key q ≡ key r)
          by true true = same r
          by true false = tt
          by false c = refl

      unrun : (r : Row E) → is_routing_row r ≡ true → booted_row r ≡ Some r
      unrun r routes = ap (λ b. if b then (if may_start_again r then Some (lost_row r) else None) else Some r) (ap is_running (routing_is r.state routes))

  pub rows_aborted : (s : State E) (q : List ℕ) → IsInOrder s → IsInOrder (record s { rows = map (doomed_in q) s.rows })
  rows_aborted s q h =
      with_rows s (map (doomed_in q) s.rows) h (ap (λ n. nat_le (n + length s.promises) 10000) (length-map s.rows (doomed_in q)) ∙ (short_are s h.short).held)
      (all-mapped (is_row_right s) (is_row_right s) (doomed_in q) (λ r k. doomed_in_right s r k q) s.rows h.rows)
      (ap (are_distinct id_eq) (map-kept (λ r. r.id) (doomed_in q) (kept_key (λ r. r.id) (λ r. refl)) s.rows) ∙ (keys_are s h.keys).rows)
      (ap (λ l. are_distinct same_number (l ++ map (λ p. p.row.arrival) s.promises))
      (map-kept (λ r. r.arrival) (doomed_in q) (kept_key (λ r. r.arrival) (λ r. refl)) s.rows) ∙ h.arrivals)
      (still_stand s _ h (λ k found. find-map_kept (is_row k) is_routing_row (doomed_in q) (kept_key (λ r. is_row k r) (λ r. refl))
      (kept_key is_routing_row (λ r. refl)) s.rows ∙ found))
    where
      kept_key : {K : Type 0} (key : Row E → K) → ((r : Row E) → key (record r { doomed = true }) ≡ key r) → (r : Row E) → key (doomed_in q r) ≡ key r
      kept_key key same r = by (is_running r.state && name_eq q r.queue)
        where
          by : (b : Bool) → key (if b then record r { doomed = true } else r) ≡ key r
          by true = same r
          by false = refl

  -- more numbers given

  pub counted : (s : State E) (seq arrivals : ℕ) → IsInOrder s → s.seq ≤ seq → seq ≤ last_seq → s.arrivals ≤ arrivals → arrivals ≤ last_u64
      → IsInOrder (record s { seq = seq; arrivals = arrivals })
  counted s seq arrivals h more few later last =
      let t : State E = record s { seq = seq; arrivals = arrivals } in
      let p = parameters_are s h.parameters in
      with_more_conf s t h (record { me = refl; site = refl; seq = more; arrivals = later; queues = λ q k. k; devices = λ d k. k })
      (parameters_right t (record {
        limit = p.limit;
        patience = p.patience;
        wait = p.wait;
        seq = le-leb seq last_seq few;
        arrivals = le-leb arrivals last_u64 last;
        file_some = p.file_some;
        file = p.file;
        queue = default_kept s t (λ q k. k) s.default_queue p.queue;
      })) h.short h.keys h.queues h.complexes

  pub arrival_given : (s : State E) → IsInOrder s → not (arrivals_used s) ≡ true → IsInOrder (next_arrival s)
  arrival_given s h some =
      let unused : nat_le last_u64 s.arrivals ≡ false = not-true _ some in
      let low : nat_le s.seq last_seq ≡ true = (parameters_are s h.parameters).seq in
      counted s s.seq (s.arrivals + 1) h (omega arith) (leb-true s.seq last_seq low) (omega arith) (let k = leb-false last_u64 s.arrivals unused in omega arith)

  -- the next arrival number is new
  pub arrival_new : (s : State E) → IsInOrder s → list_any (same_number (s.arrivals + 1)) (arrivals_of s) ≡ false
  arrival_new s h =
      list_any-append (same_number (s.arrivals + 1)) (map (λ r. r.arrival) s.rows) (map (λ p. p.row.arrival) s.promises)
      ∙ or_from (list_any (same_number (s.arrivals + 1)) (map (λ r. r.arrival) s.rows))
      (list_any (same_number (s.arrivals + 1)) (map (λ p. p.row.arrival) s.promises))
      (list_any-map (λ r. r.arrival) (same_number (s.arrivals + 1)) s.rows
      ∙ none_from_all (is_row_right s) (λ r. same_number (s.arrivals + 1) r.arrival) (λ r k. later r (row_is s r k).arrival) s.rows h.rows)
      (list_any-map (λ p. p.row.arrival) (same_number (s.arrivals + 1)) s.promises
      ∙ none_from_all (is_promise_right s) (λ p. same_number (s.arrivals + 1) p.row.arrival)
      (λ p k. later p.row (row_is s p.row (promise_is s p k).row).arrival) s.promises h.promises)
    where
      later : (r : Row E) → nat_le r.arrival s.arrivals ≡ true → ((s.arrivals + 1) == r.arrival) ≡ false
      later r k = grind (arith, nat_tests)

  -- no row has the next number of this host
  pub number_new : (s : State E) → IsInOrder s → has_row (next_id s) s ≡ false
  number_new s h = none_from_all (is_row_right s) (is_row (next_id s)) (λ r k. false_from_ne_true (id_eq (next_id s) r.id)
      (λ e. later r (id_exact (next_id s) r.id e) (row_is s r k).given)) s.rows h.rows
    where
      later : (r : Row E) → next_id s ≡ r.id → (not (same_host s.me r.id.host) || nat_le r.id.seq s.seq) ≡ true → ⊥
      later r is given =
          let k : (not (same_host s.me s.me) || nat_le (s.seq + 1) s.seq) ≡ true = ap (λ i. not (same_host s.me i.host) || nat_le i.seq s.seq) is ∙ given in
          let few : s.seq + 1 ≤ s.seq = leb-true (s.seq + 1) s.seq (implied (same_host s.me s.me) (nat_le (s.seq + 1) s.seq) k (same_it s.me.0)) in
          omega (arith, few)

  -- a row under a new arrival number, which has no offer
  pub row_moved : (s : State E) (id : RequestId) (f : Row E → Row E) → IsInOrder s → not (arrivals_used s) ≡ true → ((r : Row E) → (f r).id ≡ r.id)
      → ((r : Row E) → (f r).arrival ≡ s.arrivals + 1)
      → ((r : Row E) → find_row id s ≡ Some r → is_row_right (next_arrival s) r ≡ true → is_row_right (next_arrival s) (f r) ≡ true)
      → list_all (is_no_offer_of id) s.hands ≡ true → IsInOrder (change_row id f (next_arrival s))
  row_moved s id f h some ids arrivals right none =
      let t = next_arrival s in
      let k = arrival_given s h some in
      changed_with t id f k ids right
      (distinct-renamed same_number (λ r. r.arrival) number_exact same_it (is_row id) f (s.arrivals + 1) arrivals (map (λ p. p.row.arrival) s.promises) s.rows
      (arrival_new s h) h.arrivals)
      (others_stand t id (change_first (is_row id) f s.rows) k none (others_found t id f k ids right))
