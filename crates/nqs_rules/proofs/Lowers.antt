-- Each start lowers the number of starts that there may still be, and leaves what the starts rest
-- on.
use Rattle.std.proofs.Common.{◌≡◌, ℕ, ◌+◌, ◌-◌, ◌*◌, ◌<◌, ◌≤◌, Bool, true, false, not, ◌||◌, nat_lt, nat_le, List, [], ◌∷◌, ◌++◌, map, filter, find, slice_get}
use Rattle.std.proofs.Common.{length, sum, Option, None, Some, zero, suc, refl, sym, ap, subst, ◌∙◌, arith, if◌then◌else◌}
use Rattle.std.proofs.lemmas.Bool.{and_parts, and_from, and_right, or_parts, or_left, or_right, eqb-true, not_from_true, not_from_false}
use Rattle.std.proofs.lemmas.Bool.Decides.{nat_tests}
use Rattle.std.proofs.lemmas.Option.{same_Some, none-some}
use Rattle.std.proofs.lemmas.Cmp.{nat_eq_equiv, nat_list_eq_equiv}
use Rattle.std.proofs.lemmas.List.Folds.{list_any-append}
use Rattle.std.proofs.lemmas.List.Sums.{length-filter, count_by-le-length}
use Rattle.std.proofs.lemmas.Map.Views.{any-filter_same}
use Rattle.std.specs.List.{list_any, list_all}
use Rattle.nqs_base.specs.Same.{name_eq, name_exact}
use Rattle.nqs_types.specs.Ids.{id_eq}
use Rattle.nqs_state.specs.State.{Plain}
use Rattle.nqs_base_tables.specs.Table.{change_first}
use Rattle.nqs_state.specs.Keys.{is_row, is_queue}
use Rattle.nqs_types.specs.declared.ids.RequestId.{RequestId}
use Rattle.nqs_types.specs.declared.ids.Dest.{Dest}
use Rattle.nqs_types.specs.declared.request.Refused.{Refused}
use Rattle.nqs_types.specs.declared.request.Hold.TheVariants.{System}
use Rattle.nqs_types.specs.declared.queue.QueueDef.{QueueDef}
use Rattle.nqs_types.specs.declared.change.Change.{Change}
use Rattle.nqs_types.specs.declared.change.Change.TheVariants.{Started, HandOpened, MovedLocal, RefusedLocal, HeldFar, Boot}
use Rattle.nqs_rules.specs.Tests.{is_ready, is_queued, same_dest, same_host}
use Rattle.nqs_rules.specs.Find.{find_row}
use Rattle.nqs_rules.specs.Routing.{refuses, was_refused, dests_of, is_present, with_refusal, all_refused, held_where, dests_for}
use Rattle.nqs_rules.specs.Applied.{started_row, routing_row, held_far, moved_local, local_refused, applied}
use Rattle.nqs_rules.specs.Measure.{untried, starts_of, starts_left}
use Rattle.nqs_rules.specs.InOrder.{are_distinct}
use Rattle.nqs_rules.specs.Picked.{PlainRow}
use Rattle.nqs_rules.proofs.ListFacts.{not_true, list_all-found, list_all-changed, map-changed, sum-changed, filter_less}
use Rattle.nqs_rules.proofs.StartIs.{IsSteady, IsUntried, StartsRow}

-- destinations are alike where they are the same

dest_exact : (a b : Dest) → same_dest a b ≡ true → a ≡ b
dest_exact a b h =
    let p = and_parts (name_eq a.queue b.queue) (same_host a.host b.host) h in
    (λ j. record { queue = name_exact a.queue b.queue p.0 j; host = record { 0 = eqb-true a.host.0 b.host.0 p.1 j } })

dest_same : (a : Dest) → same_dest a a ≡ true
dest_same a = and_from (name_eq a.queue a.queue) (same_host a.host a.host) (nat_list_eq_equiv.refl a.queue) (nat_eq_equiv.refl a.host.0)

-- a destination that is there is present
present : (dests : List Dest) (i : ℕ) (d : Dest) (r : Refused) → slice_get dests i ≡ Some d → refuses d r ≡ true → is_present dests r ≡ true
present dests i d r at h = any_at dests i at
  where
    same : same_dest r.dest d ≡ true
    same = ap (same_dest r.dest) (dest_exact d r.dest h) ∙ dest_same r.dest

    any_at : (ds : List Dest) (i : ℕ) → slice_get ds i ≡ Some d → list_any (same_dest r.dest) ds ≡ true
    any_at [] i at = absurd (none-some d at)
    any_at (x ∷ ds) zero at = or_left (same_dest r.dest x) (list_any (same_dest r.dest) ds) (ap (same_dest r.dest) (same_Some x d at) ∙ same)
    any_at (x ∷ ds) (suc i) at = or_right (same_dest r.dest x) (list_any (same_dest r.dest) ds) (any_at ds i at)

-- by whom a present destination's refusals are known
noted_is : (dests : List Dest) (new : Dest) (refusal : ℕ) (refused : List Refused) (i : ℕ) (d : Dest) → slice_get dests i ≡ Some d
    → was_refused d (with_refusal dests new refusal refused) ≡ (was_refused d refused || (same_dest d new || false))
noted_is dests new refusal refused i d at =
    let e : Refused = record { dest = new; cause = refusal } in
    any-filter_same (refuses d) (is_present dests) true (λ r h. present dests i d r at h) (refused ++ e ∷ []) ∙ list_any-append (refuses d) refused (e ∷ [])

module _ (s : Plain) (steady : IsSteady s) where
  few_dests : (q : List ℕ) → length (dests_of (find (is_queue q) s.queues)) ≤ 16
  few_dests q = of (find (is_queue q) s.queues) refl
    where
      of : (o : Option QueueDef) → find (is_queue q) s.queues ≡ o → length (dests_of o) ≤ 16
      of None e = omega arith
      of (Some d) e = let few : nat_le (length d.dests) 16 ≡ true = list_all-found (λ q. nat_le (length q.dests) 16) (is_queue q) s.queues d steady.dests e in
          grind (arith, nat_tests)

  few_untried : (r : PlainRow) → length (untried r s) ≤ 16
  few_untried r =
      let ds = dests_for r s in
      omega (arith, length-filter (λ d. not (was_refused d r.refused)) ds, count_by-le-length (λ d. not (was_refused d r.refused)) ds, few_dests r.queue)

  pub few_starts : (r : PlainRow) → starts_of s r ≤ 577
  few_starts r = by (is_ready r)
    where
      by : (b : Bool) → (if b then (33 - r.hops) * 17 + length (untried r s) else 0) ≤ 577
      by true = omega (arith, few_untried r)
      by false = omega arith

  module _ (r : PlainRow) (found : find_row r.id s ≡ Some r) (ready : is_ready r ≡ true) where
    few_hops : r.hops ≤ 32
    few_hops = let few : nat_le r.hops 32 ≡ true = list_all-found (λ q. nat_le q.hops 32) (is_row r.id) s.rows r steady.hops found in grind (arith, nat_tests)

    weight : starts_of s r ≡ (33 - r.hops) * 17 + length (untried r s)
    weight = ap (λ b. if b then (33 - r.hops) * 17 + length (untried r s) else 0) ready

    some_weight : 17 ≤ starts_of s r
    some_weight = omega (arith, weight, few_hops)

    -- a row that isn't ready any more
    unready : (q : PlainRow) → is_ready q ≡ false → starts_of s q < starts_of s r
    unready q h = let e : starts_of s q ≡ 0 = ap (λ b. if b then (33 - q.hops) * 17 + length (untried q s) else 0) h in omega (arith, some_weight, e)

    moved_lower : (queue : List ℕ) (arrival : ℕ) → starts_of s (moved_local queue arrival r) < starts_of s r
    moved_lower queue arrival =
        let q = moved_local queue arrival r in
        let e : starts_of s q ≡ (33 - (r.hops + 1)) * 17 + length (untried q s) =
        ap (λ b. if b then (33 - (r.hops + 1)) * 17 + length (untried q s) else 0) ready in
        omega (arith, e, weight, few_hops, few_untried q)

    system_held : (q : PlainRow) → is_ready (record q { hold = System }) ≡ false
    system_held q = and_right (is_queued q.state) false refl

    refused_lower : (queue : List ℕ) (refusal : ℕ) → IsUntried s r queue → starts_of s (local_refused queue refusal s r) < starts_of s r
    refused_lower queue refusal u = by (all_refused dests refused)
      where
        dests : List Dest
        dests = dests_for r s

        new : Dest
        new = record { queue = queue; host = s.me }

        refused : List Refused
        refused = with_refusal dests new refusal r.refused

        before : Dest → Bool
        before d = not (was_refused d r.refused)

        after : Dest → Bool
        after d = not (was_refused d refused)

        -- whoever refused before has refused
        kept : (i : ℕ) (d : Dest) → slice_get dests i ≡ Some d → after d ≡ true → before d ≡ true
        kept i d at h = not_from_false (was_refused d r.refused) (or_parts (was_refused d r.refused) (same_dest d new || false)
            (sym (noted_is dests new refusal r.refused i d at) ∙ not_true (was_refused d refused) h)).0

        now_refused : after u.dest ≡ false
        now_refused =
            not_from_true (was_refused u.dest refused)
            (noted_is dests new refusal r.refused u.place u.dest u.at
            ∙ or_right (was_refused u.dest r.refused) (same_dest u.dest new || false)
            (or_left (same_dest u.dest new) false (ap (same_dest u.dest) u.is ∙ dest_same u.dest)))

        fewer : length (filter after dests) < length (filter before dests)
        fewer = filter_less after before dests u.place u.dest kept u.at (not_from_false (was_refused u.dest r.refused) u.new) now_refused

        by : (b : Bool) → starts_of s (held_where b (record r { refused = refused })) < starts_of s r
        by true = unready (record r { refused = refused; hold = System }) (system_held r)
        by false =
            let e : starts_of s (record r { refused = refused }) ≡ (33 - r.hops) * 17 + length (filter after dests) =
            ap (λ b. if b then (33 - r.hops) * 17 + length (filter after dests) else 0) ready in
            omega (arith, e, weight, fewer)

    -- the row that is changed lowers the sum
    changed : (id : RequestId) (g : PlainRow → PlainRow) → id ≡ r.id → starts_of s (g r) < starts_of s r
        → sum (map (starts_of s) (change_first (is_row id) g s.rows)) < starts_left s
    changed id g is lower =
        let there : find (is_row id) s.rows ≡ Some r = subst (λ i. find (is_row i) s.rows ≡ Some r) (sym is) found in
        omega (arith, sum-changed (is_row id) g (starts_of s) s.rows r there, lower)

    pub lower : (c : Change (List ℕ)) → StartsRow s r c → starts_left (applied c s) < starts_left s
    lower (Started id device) h = changed id (started_row device) h (unready (started_row device r) refl)
    lower (HeldFar id) h = changed id held_far h (unready (held_far r) (system_held r))
    lower (MovedLocal id queue) h = changed id (moved_local queue (s.arrivals + 1)) h.0 (moved_lower queue (s.arrivals + 1))
    lower (RefusedLocal id queue refusal) h = changed id (local_refused queue refusal s) h.0 (refused_lower queue refusal h.1)
    lower (HandOpened peer number id queue since) h = changed id routing_row h (unready (routing_row r) refl)
    lower Boot h = absurd h
    lower c h = absurd h

    -- what the starts rest on stays

    steady_changed : (id : RequestId) (g : PlainRow → PlainRow) → id ≡ r.id → ((q : PlainRow) → (g q).id ≡ q.id) → nat_le (g r).hops 32 ≡ true
        → (are_distinct id_eq (map (λ q. q.id) (change_first (is_row id) g s.rows)) ≡ true)
        × (list_all (λ q. nat_le q.hops 32) (change_first (is_row id) g s.rows) ≡ true)
    steady_changed id g is same few = (
      ap (are_distinct id_eq) (map-changed (λ q. q.id) (is_row id) g same s.rows) ∙ steady.ids,
      list_all-changed (λ q. nat_le q.hops 32) (is_row id) g s.rows steady.hops
          (λ v h. ap (λ q. nat_le (g q).hops 32) (same_Some v r (sym h ∙ subst (λ i. find (is_row i) s.rows ≡ Some r) (sym is) found)) ∙ few),
    )

    noted_same : (b : Bool) (q : PlainRow) → ((held_where b q).id ≡ q.id) × ((held_where b q).hops ≡ q.hops)
    noted_same true q = (refl, refl)
    noted_same false q = (refl, refl)

    steady_rows : (t : Plain) → t.queues ≡ s.queues → (are_distinct id_eq (map (λ q. q.id) t.rows) ≡ true) × (list_all (λ q. nat_le q.hops 32) t.rows ≡ true)
        → IsSteady t
    steady_rows t queues rows = record {
      ids = rows.0;
      names = ap (λ qs. are_distinct name_eq (map (λ q. q.name) qs)) queues ∙ steady.names;
      hops = rows.1;
      dests = ap (list_all (λ q. nat_le (length q.dests) 16)) queues ∙ steady.dests;
    }

    few : nat_le r.hops 32 ≡ true
    few = list_all-found (λ q. nat_le q.hops 32) (is_row r.id) s.rows r steady.hops found

    few_more : nat_lt r.hops 32 ≡ true → nat_le (r.hops + 1) 32 ≡ true
    few_more h = grind (arith, nat_tests)

    pub stays : (c : Change (List ℕ)) → StartsRow s r c → IsSteady (applied c s)
    stays (Started id device) h = steady_rows _ refl (steady_changed id (started_row device) h (λ q. refl) few)
    stays (HeldFar id) h = steady_rows _ refl (steady_changed id held_far h (λ q. refl) few)
    stays (MovedLocal id queue) h = steady_rows _ refl (steady_changed id (moved_local queue (s.arrivals + 1)) h.0 (λ q. refl) (few_more h.1))
    stays (RefusedLocal id queue refusal) h =
        steady_rows _ refl (steady_changed id (local_refused queue refusal s) h.0 (λ q. (noted_same _ _).0) (ap (λ n. nat_le n 32) (noted_same _ _).1 ∙ few))
    stays (HandOpened peer number id queue since) h = steady_rows _ refl (steady_changed id routing_row h (λ q. refl) few)
    stays Boot h = absurd h
    stays c h = absurd h
