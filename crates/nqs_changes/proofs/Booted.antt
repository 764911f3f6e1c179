-- A boot of all rows is one of the requests that may run, one after the other.
use Rattle.std.proofs.Common.{◌≡◌, Bool, true, false, cond, not, ◌&&◌, ◌||◌, nat_lt, List, [], ◌∷◌, map, find, Option, None, Some, true≢false, refl, sym, ap}
use Rattle.std.proofs.Common.{◌∙◌, if◌then◌else◌}
use Rattle.std.proofs.lemmas.Bool.{and_parts, and_from, or_left, not-true, not_from_false}
use Rattle.std.specs.List.{list_any, list_all, filter_map, cons_option}
use Rattle.nqs_state.specs.State.{State}
use Rattle.nqs_types.specs.Ids.{id_eq, id_exact}
use Rattle.nqs_base_tables.specs.Table.{change_first, without_first}
use Rattle.nqs_state.specs.Keys.{is_row}
use Rattle.nqs_types.specs.declared.ids.RequestId.{RequestId}
use Rattle.nqs_types.specs.declared.request.Row.{Row}
use Rattle.nqs_types.specs.declared.change.Change.TheVariants.{Boot}
use Rattle.nqs_state.specs.Least.{runs_now}
use Rattle.nqs_rules.specs.Tests.{passes, is_running}
use Rattle.nqs_rules.specs.Edits.{change_row, drop_row}
use Rattle.nqs_rules.specs.Fits.{row_passes}
use Rattle.nqs_rules.specs.Applied.{applied, may_start_again, lost_row, booted_row}
use Rattle.nqs_rules.specs.InOrder.{IsInOrder, are_distinct}
use Rattle.nqs_rules.proofs.Sublists.{without_part, part_all}
use Rattle.nqs_rules.proofs.ListMaps.{list_any-map}
use Rattle.nqs_rules.proofs.KeyFacts.{all-both, all_from_none, gone_without, turned}
use Rattle.nqs_rules.proofs.StateFacts.{keys_are}
use Rattle.nqs_rules.proofs.RowFacts.{same_id}
use Rattle.nqs_rules.proofs.RowChanges.{lost_right}
use Rattle.nqs_rules.proofs.RowKinds.{unoffered, running_unrouted}
use Rattle.nqs_rules.proofs.RowsOrder.{row_changed, row_dropped}
use Rattle.nqs_rules.proofs.Consistent.{all-changed_alone}
use Rattle.nqs_changes.specs.Running.{runs_in, runs_only, request_booted, requests_booted}

module _ {V : Type 0} (f : V → Option V) (t : V → Bool) where
  filter_map-changed : (g : V → V) (vs : List V) → ((v : V) → find t vs ≡ Some v → f (g v) ≡ f v) → filter_map f (change_first t g vs) ≡ filter_map f vs
  filter_map-changed g [] same = refl
  filter_map-changed g (x ∷ vs) same = by (t x) same (filter_map-changed g vs)
    where
      by : (b : Bool) → ((v : V) → cond b (Some x) (find t vs) ≡ Some v → f (g v) ≡ f v)
          → (((v : V) → find t vs ≡ Some v → f (g v) ≡ f v) → filter_map f (change_first t g vs) ≡ filter_map f vs)
          → filter_map f (if b then g x ∷ vs else x ∷ change_first t g vs) ≡ filter_map f (x ∷ vs)
      by true same rest = ap (λ o. cons_option o (filter_map f vs)) (same x refl)
      by false same rest = ap (cons_option (f x)) (rest same)

  filter_map-without : (vs : List V) → ((v : V) → find t vs ≡ Some v → f v ≡ None) → filter_map f (without_first t vs) ≡ filter_map f vs
  filter_map-without [] none = refl
  filter_map-without (x ∷ vs) none = by (t x) none (filter_map-without vs)
    where
      by : (b : Bool) → ((v : V) → cond b (Some x) (find t vs) ≡ Some v → f v ≡ None)
          → (((v : V) → find t vs ≡ Some v → f v ≡ None) → filter_map f (without_first t vs) ≡ filter_map f vs)
          → filter_map f (if b then vs else x ∷ without_first t vs) ≡ filter_map f (x ∷ vs)
      by true none rest = ap (λ o. cons_option o (filter_map f vs)) (sym (none x refl))
      by false none rest = ap (cons_option (f x)) (rest none)

module _ {E : Type 0} where
  -- where none runs, a boot changes nothing
  none_booted : (rows : List (Row E)) → list_all (runs_in []) rows ≡ true → filter_map booted_row rows ≡ rows
  none_booted [] h = refl
  none_booted (r ∷ rows) h = let p = and_parts (runs_in [] r) (list_all (runs_in []) rows) h in
      (λ j. cons_option (by (is_running r.state) p.0 j) (none_booted rows p.1 j))
    where
      by : (b : Bool) → (not b || false) ≡ true → (if b then (if may_start_again r then Some (lost_row r) else None) else Some r) ≡ Some r
      by true k = absurd (true≢false (sym k))
      by false k = refl

  module _ (id : RequestId) (s : State E) where
    -- it is booted once
    booted_once : applied Boot (request_booted id s) ≡ applied Boot s
    booted_once = by (row_passes runs_now id s) refl (row_passes may_start_again id s) refl
      where
        by : (b : Bool) → row_passes runs_now id s ≡ b → (c : Bool) → row_passes may_start_again id s ≡ c
            → applied Boot (if b then (if c then change_row id lost_row s else drop_row id s) else s) ≡ applied Boot s
        by true e true f = ap (λ rows. record s { rows = rows }) (filter_map-changed booted_row (is_row id) lost_row s.rows (λ r found.
            let run = ap (passes runs_now) (sym found) ∙ e in
            let again = ap (passes may_start_again) (sym found) ∙ f in
            sym (λ j. if run j then (if again j then Some (lost_row r) else None) else Some r)))
        by true e false f = ap (λ rows. record s { rows = rows }) (filter_map-without booted_row (is_row id) s.rows (λ r found.
            let run = ap (passes runs_now) (sym found) ∙ e in
            let gone = ap (passes may_start_again) (sym found) ∙ f in
            (λ j. if run j then (if gone j then Some (lost_row r) else None) else Some r)))
        by false e c f = refl

    module _ (h : IsInOrder s) where
      pub request_order : IsInOrder (request_booted id s)
      request_order = by (row_passes runs_now id s) refl (row_passes may_start_again id s) refl
        where
          by : (b : Bool) → row_passes runs_now id s ≡ b → (c : Bool) → row_passes may_start_again id s ≡ c
              → IsInOrder (if b then (if c then change_row id lost_row s else drop_row id s) else s)
          by true e true f = row_changed s id lost_row h (λ r. refl) (λ r found k.
              lost_right s r k (ap (passes runs_now) (sym found) ∙ e) (and_parts (r.job.rerun && not r.doomed) (nat_lt r.starts 65535)
              (ap (passes may_start_again) (sym found) ∙ f)).1)
              (λ r. refl) (unoffered runs_now id s h running_unrouted e)
          by true e false f = row_dropped s id h (unoffered runs_now id s h running_unrouted e)
          by false e c f = h

      module _ (ids : List RequestId) where
        -- a row of another request
        other : (r : Row E) → runs_in (id ∷ ids) r ≡ true → not (id_eq id r.id) ≡ true → runs_in ids r ≡ true
        other r k n = ap (λ b. not (is_running r.state) || (b || list_any (id_eq r.id) ids))
            (sym (turned id_eq id_exact same_id id r.id (not-true (id_eq id r.id) n))) ∙ k

        others : (rows : List (Row E)) → list_all (runs_in (id ∷ ids)) rows ≡ true → list_any (is_row id) rows ≡ false → list_all (runs_in ids) rows ≡ true
        others rows k none = all-both (runs_in (id ∷ ids)) (λ r. not (id_eq id r.id)) (runs_in ids) other rows k
            (all_from_none (λ r. not (id_eq id r.id)) (is_row id) (λ r e. not_from_false (id_eq id r.id) e) rows none)

        -- the request that doesn't run need not be listed
        idle : (rows : List (Row E)) → are_distinct id_eq (map (λ r. r.id) rows) ≡ true → list_all (runs_in (id ∷ ids)) rows ≡ true
            → passes runs_now (find (is_row id) rows) ≡ false → list_all (runs_in ids) rows ≡ true
        idle [] d k e = refl
        idle (r ∷ rows) d k e = by (id_eq id r.id) refl (and_parts (not (list_any (id_eq r.id) (map (λ r. r.id) rows)))
            (are_distinct id_eq (map (λ r. r.id) rows)) d) (and_parts (runs_in (id ∷ ids) r) (list_all (runs_in (id ∷ ids)) rows) k) e (idle rows)
          where
            by : (b : Bool) → id_eq id r.id ≡ b → (not (list_any (id_eq r.id) (map (λ r. r.id) rows)) ≡ true)
                × (are_distinct id_eq (map (λ r. r.id) rows) ≡ true) → (runs_in (id ∷ ids) r ≡ true) × (list_all (runs_in (id ∷ ids)) rows ≡ true)
                → passes runs_now (cond b (Some r) (find (is_row id) rows)) ≡ false
                → (are_distinct id_eq (map (λ r. r.id) rows) ≡ true → list_all (runs_in (id ∷ ids)) rows ≡ true
                → passes runs_now (find (is_row id) rows) ≡ false → list_all (runs_in ids) rows ≡ true) → (runs_in ids r && list_all (runs_in ids) rows) ≡ true
            by true f d k e rest =
                let none : list_any (is_row id) rows ≡ false = sym (list_any-map (λ r. r.id) (id_eq id) rows)
                ∙ ap (λ i. list_any (id_eq i) (map (λ r. r.id) rows)) (id_exact id r.id f) ∙ not-true _ d.0 in
                and_from (runs_in ids r) (list_all (runs_in ids) rows) (or_left (not (is_running r.state)) (list_any (id_eq r.id) ids) (ap not e))
                (others rows k.1 none)
            by false f d k e rest = and_from (runs_in ids r) (list_all (runs_in ids) rows) (other r k.0 (not_from_false (id_eq id r.id) f)) (rest d.1 k.1 e)

        fewer_run : runs_only (id ∷ ids) s ≡ true → runs_only ids (request_booted id s) ≡ true
        fewer_run k = by (row_passes runs_now id s) refl (row_passes may_start_again id s)
          where
            distinct : are_distinct id_eq (map (λ r. r.id) s.rows) ≡ true
            distinct = (keys_are s h.keys).rows

            by : (b : Bool) → row_passes runs_now id s ≡ b → (c : Bool)
                → runs_only ids (if b then (if c then change_row id lost_row s else drop_row id s) else s) ≡ true
            by true e true = all-changed_alone id_eq id_exact (λ r. r.id) id lost_row (runs_in (id ∷ ids)) (runs_in ids)
                (λ r n q. other r q (not_from_false (id_eq id r.id) n)) (λ r q. refl) s.rows distinct k
            by true e false = others (without_first (is_row id) s.rows) (part_all (runs_in (id ∷ ids)) (without_part (is_row id) s.rows) k)
                (gone_without id_eq (λ r. r.id) id_exact same_id id s.rows distinct)
            by false e c = idle s.rows distinct k e

  -- where no others run, a boot of these requests is the boot
  pub boot_is : (ids : List RequestId) (s : State E) → IsInOrder s → runs_only ids s ≡ true → requests_booted ids s ≡ applied Boot s
  boot_is [] s h k = ap (λ rows. record s { rows = rows }) (sym (none_booted s.rows k))
  boot_is (id ∷ ids) s h k = boot_is ids (request_booted id s) (request_order id s h) (fewer_run id s h ids k) ∙ booted_once id s
