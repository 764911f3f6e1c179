-- The edits of users, devices and requests: a state in order stays so.
use Rattle.std.proofs.Common.{◌≡◌, ℕ, ◌+◌, ◌≤◌, true, false, not, nat_le, List, [], ◌∷◌, ◌++◌, map, find, length, Option, None, Some, true≢false, refl, sym, ap}
use Rattle.std.proofs.Common.{◌∙◌, arith}
use Rattle.std.proofs.lemmas.Bool.{and_parts, leb-true, leb-false, le-leb, lt-ltb, not-true, not-false, not_from_false}
use Rattle.std.proofs.lemmas.List.{length-append, length-map}
use Rattle.std.proofs.lemmas.Option.{same_Some}
use Rattle.std.specs.List.{list_any, list_all}
use Rattle.nqs_state.specs.State.{State}
use Rattle.nqs_base.specs.Same.{name_eq, name_exact}
use Rattle.nqs_base_tables.specs.Table.{without_first}
use Rattle.nqs_state.specs.Keys.{is_queue}
use Rattle.nqs_types.specs.declared.ids.Named.{Named}
use Rattle.nqs_types.specs.declared.ids.RequestId.{RequestId}
use Rattle.nqs_types.specs.declared.request.Row.{Row}
use Rattle.nqs_types.specs.declared.request.RowState.TheVariants.{Queued}
use Rattle.nqs_types.specs.declared.refusal.Refusal.TheVariants.{NoQueue, IsHeld, NumbersUsed}
use Rattle.nqs_types.specs.declared.queue.Access.{Access}
use Rattle.nqs_types.specs.declared.queue.Access.TheVariants.{All, Users}
use Rattle.nqs_types.specs.declared.queue.QueueDef.{QueueDef}
use Rattle.nqs_types.specs.declared.edit.AccessEdit.{AccessEdit}
use Rattle.nqs_types.specs.declared.edit.AccessEdit.TheVariants.{SetUnrestrictedAccess, SetNoAccess, AddUser, RemoveUser, AddManager, RemoveManager}
use Rattle.nqs_types.specs.declared.edit.AccessEdit.TheVariants.{AddOperator, RemoveOperator}
use Rattle.nqs_types.specs.declared.edit.DevicesEdit.{DevicesEdit}
use Rattle.nqs_types.specs.declared.edit.DevicesEdit.TheVariants.{CreateDevice, DeleteDevice, EnableDevice, DisableDevice, SetForms, AddDevice, RemoveDevice}
use Rattle.nqs_types.specs.declared.edit.RowsEdit.{RowsEdit}
use Rattle.nqs_types.specs.declared.edit.RowsEdit.TheVariants.{AbortQueue, HoldRequest, ReleaseRequest, MoveRequest, ModifyRequest}
use Rattle.nqs_rules.specs.Tests.{passes, is_routing, is_unheld}
use Rattle.nqs_rules.specs.Causes.{Cause, cause}
use Rattle.nqs_rules.specs.Find.{has_queue, find_queue, has_device, find_row, row_of, meant_request, meant_row}
use Rattle.nqs_rules.specs.Access.{access_causes, access_edited, with_user, without_user, without_name, has_full_list, is_full, add_name_causes}
use Rattle.nqs_rules.specs.Applied.{access_applied}
use Rattle.nqs_rules.specs.Devices.{devices_causes, devices_applied, device_edited, new_device, with_device, without_device, lists_device}
use Rattle.nqs_rules.specs.Rows.{arrivals_used, named_causes, idle_causes, hold_causes, release_causes, move_causes, move_entry_causes, causes_of, rows_causes}
use Rattle.nqs_rules.specs.Rows.{rows_applied, change_meant, held_row, released_row, moved_row, with_priority, next_arrival, is_rows_within}
use Rattle.nqs_rules.specs.InOrder.{IsInOrder, are_distinct, is_user_list_short, is_queue_right}
use Rattle.nqs_rules.proofs.Sublists.{filter_part, part_length, part_all, part_distinct}
use Rattle.nqs_rules.proofs.KeyFacts.{all-both, all-added, all_from_none, any-without_other, distinct-added, length_without, turned}
use Rattle.nqs_rules.proofs.ListMaps.{list_any-map}
use Rattle.nqs_rules.proofs.StateFacts.{IsShort, short_are}
use Rattle.nqs_rules.proofs.RowFacts.{same_name}
use Rattle.nqs_rules.proofs.RowsOrder.{no_offer, row_changed}
use Rattle.nqs_rules.proofs.RowChanges.{idle_is, moved_right, priority_right}
use Rattle.nqs_rules.proofs.RowKinds.{row_released, rows_aborted, row_moved}
use Rattle.nqs_rules.proofs.QueuesOrder.{queue_is, queue_right, queue_changed}
use Rattle.nqs_rules.proofs.DevicesOrder.{device_changed, device_added, device_deleted, with_staff}
use Rattle.nqs_rules.proofs.ConfOrder.{Allows, none_holds, causes_behind}

-- distinct names that all are in a list are no more than it has
few_names : (ns ms : List (List ℕ)) → are_distinct name_eq ns ≡ true → list_all (λ n. list_any (name_eq n) ms) ns ≡ true → length ns ≤ length ms
few_names [] ms distinct all = omega arith
few_names (n ∷ ns) ms distinct all =
    let d = and_parts (not (list_any (name_eq n) ns)) (are_distinct name_eq ns) distinct in
    let a = and_parts (list_any (name_eq n) ms) (list_all (λ m. list_any (name_eq m) ms) ns) all in
    let less = length_without (name_eq n) ms a.0 in
    let rest = few_names ns (without_first (name_eq n) ms) d.1
    (all-both (λ m. list_any (name_eq m) ms) (λ m. not (name_eq n m)) (λ m. list_any (name_eq m) (without_first (name_eq n) ms))
    (λ m there other. any-without_other name_eq (λ x. x) name_exact same_name m n ms (turned name_eq name_exact same_name n m (not-true (name_eq n m) other))
    ∙ there)
    ns a.1 (all_from_none (λ m. not (name_eq n m)) (name_eq n) (λ m e. not_from_false (name_eq n m) e) ns (not-true (list_any (name_eq n) ns) d.0))) in
    omega (arith, less, rest)

pub once_added : {E : Type 0} (s : State E) (x : List ℕ) (q : List ℕ) (d : QueueDef) → find (is_queue q) s.queues ≡ Some d
    → are_distinct name_eq d.devices ≡ true → passes (lists_device x) (find_queue q s) ≡ false → are_distinct name_eq (with_device x d).devices ≡ true
once_added s x q d found once new = distinct-added name_eq name_exact same_name d.devices x (ap (passes (lists_device x)) (sym found) ∙ new) once

module _ {E : Type 0} (s : State E) (P : State E → Type 0) where
  -- the row that is meant, with what lets its change be
  pub meant : (id : Named) (causes : Row E → List Cause) (f : Row E → Row E) (t : State E)
      → ((rid : RequestId) (r : Row E) → find_row rid s ≡ Some r → Allows (causes r) → P (change_meant (Some rid) f t))
      → Allows (named_causes id causes (meant_row id s)) → P (change_meant (meant_request id s) f t)
  meant id causes f t kept fit = of (meant_request id s) fit
    where
      at : (rid : RequestId) (o : Option (Row E)) → find_row rid s ≡ o → Allows (named_causes id causes o) → P (change_meant (Some rid) f t)
      at rid None found fit = absurd (true≢false (sym fit))
      at rid (Some r) found fit = kept rid r found fit

      of : (o : Option RequestId) → Allows (named_causes id causes (row_of o s)) → P (change_meant o f t)
      of None fit = absurd (true≢false (sym fit))
      of (Some rid) fit = at rid (find_row rid s) refl fit

module _ {E : Type 0} (s : State E) where
  pub may_move : (id : Named) (q : List ℕ) (r : Row E) → Allows (move_causes id q s r) → (has_queue q s ≡ true) × (r.state ≡ Queued) × (arrivals_used s ≡ false)
  may_move id q r allows =
      let first : List Cause = cause (not (has_queue q s)) (NoQueue q) ∷ idle_causes id r in
      let entry : List Cause = causes_of (move_entry_causes r) (find_queue q s) in
      let last : List Cause = cause (arrivals_used s) NumbersUsed ∷ [] in
      let a = causes_behind (first ++ entry) last allows in
      let b = none_holds first (causes_behind first entry a.0).0 in
      (not-false (has_queue q s) b.0, idle_is r.state b.1.0 b.1.1.0, (none_holds last a.1).0)

module _ {E : Type 0} (s : State E) (h : IsInOrder s) where
  short : IsShort s
  short = short_are s h.short

  -- the lists of users

  with_access : (d : QueueDef) (access : Access) → is_queue_right s d ≡ true → is_user_list_short access ≡ true
      → is_queue_right s (record d { access = access }) ≡ true
  with_access d access k few =
      let p = queue_is s d k in
      queue_right s (record d { access = access }) (record {
        priority = p.priority;
        run_limit = p.run_limit;
        user_limit = p.user_limit;
        access =
            few;
        few_dests = p.few_dests;
        dests = p.dests;
        few_devices = p.few_devices;
        devices = p.devices;
        once = p.once;
      })

  one_more : (names : List (List ℕ)) (name : List ℕ) → nat_le 256 (length names) ≡ false → nat_le (length (names ++ name ∷ [])) 256 ≡ true
  one_more names name room =
      let below = leb-false 256 (length names) room in
      let grown : length (names ++ name ∷ []) ≡ length names + length (name ∷ []) = length-append names (name ∷ []) in
      let one : length (name ∷ []) ≡ 1 = refl in
      le-leb (length (names ++ name ∷ [])) 256 (omega (arith, grown, one, below))

  fewer_names : (names : List (List ℕ)) (name : List ℕ) → nat_le (length names) 256 ≡ true → nat_le (length (without_name name names)) 256 ≡ true
  fewer_names names name k =
      let few = leb-true (length names) 256 k in
      let fewer = part_length (filter_part (λ n. not (name_eq name n)) names) in
      le-leb (length (without_name name names)) 256 (omega (arith, few, fewer))

  user_added : (user : List ℕ) (a : Access) → is_full a ≡ false → is_user_list_short a ≡ true → is_user_list_short (with_user user a) ≡ true
  user_added user All room k = refl
  user_added user (Users users) room k = one_more users user room

  user_removed : (user : List ℕ) (a : Access) → is_user_list_short a ≡ true → is_user_list_short (without_user user a) ≡ true
  user_removed user All k = refl
  user_removed user (Users users) k = fewer_names users user k

  pub access_order : (e : AccessEdit) → Allows (access_causes e s) → IsInOrder (access_applied e s)
  access_order (SetUnrestrictedAccess q) fit = queue_changed s q (access_edited (SetUnrestrictedAccess q)) h (λ d. refl) (λ d found k. with_access d All k refl)
  access_order (SetNoAccess q) fit = queue_changed s q (access_edited (SetNoAccess q)) h (λ d. refl) (λ d found k. with_access d (Users []) k refl)
  access_order (AddUser user q) fit =
      let full : passes has_full_list (find_queue q s) ≡ false = (none_holds (access_causes (AddUser user q) s) fit).1.1.0 in
      queue_changed s q (access_edited (AddUser user q)) h (λ d. refl) (λ d found k.
      with_access d (with_user user d.access) k (user_added user d.access (ap (passes has_full_list) (sym found) ∙ full) (queue_is s d k).access))
  access_order (RemoveUser user q) fit = queue_changed s q (access_edited (RemoveUser user q)) h (λ d. refl)
      (λ d found k. with_access d (without_user user d.access) k (user_removed user d.access (queue_is s d k).access))
  access_order (AddManager user) fit = with_staff s (s.managers ++ user ∷ []) s.operators h
      (one_more s.managers user (none_holds (add_name_causes s.managers user) fit).1.0) short.operators
  access_order (RemoveManager user) fit = with_staff s (without_name user s.managers) s.operators h (fewer_names s.managers user short.managers) short.operators
  access_order (AddOperator user) fit = with_staff s s.managers (s.operators ++ user ∷ []) h short.managers
      (one_more s.operators user (none_holds (add_name_causes s.operators user) fit).1.0)
  access_order (RemoveOperator user) fit = with_staff s s.managers (without_name user s.operators) h short.managers
      (fewer_names s.operators user short.operators)

  -- devices

  list_right : (d : QueueDef) (devices : List (List ℕ)) → is_queue_right s d ≡ true → nat_le (length devices) 64 ≡ true
      → list_all (λ n. has_device n s) devices ≡ true → are_distinct name_eq devices ≡ true → is_queue_right s (record d { devices = devices }) ≡ true
  list_right d devices k few there once =
      let p = queue_is s d k in
      queue_right s (record d { devices = devices }) (record {
        priority = p.priority;
        run_limit = p.run_limit;
        user_limit = p.user_limit;
        access =
            p.access;
        few_dests = p.few_dests;
        dests = p.dests;
        few_devices = few;
        devices = there;
        once = once;
      })

  few_listed : (devices : List (List ℕ)) → are_distinct name_eq devices ≡ true → list_all (λ n. has_device n s) devices ≡ true
      → nat_le (length devices) 64 ≡ true
  few_listed devices once there =
      let fewer = few_names devices (map (λ d. d.name) s.devices) once (all-both (λ n. has_device n s) (λ n. has_device n s)
      (λ n. list_any (name_eq n) (map (λ d. d.name) s.devices)) (λ n k l. list_any-map (λ d. d.name) (name_eq n) s.devices ∙ k) devices there there) in
      let same = length-map s.devices (λ d. d.name) in
      let few = leb-true (length s.devices) 64 short.devices in
      le-leb (length devices) 64 (omega (arith, fewer, same, few))

  pub devices_order : (e : DevicesEdit) → Allows (devices_causes e s) → IsInOrder (devices_applied e s)
  devices_order (CreateDevice d forms) fit =
      let causes = none_holds (devices_causes (CreateDevice d forms) s) fit in
      let room : nat_le 64 (length s.devices) ≡ false = causes.1.0 in
      let below = leb-false 64 (length s.devices) room in
      device_added s (new_device d forms) h causes.0 (lt-ltb (length s.devices) 64 (omega (arith, below)))
  devices_order (DeleteDevice d) fit = device_deleted s d h (none_holds (devices_causes (DeleteDevice d) s) fit).1.0
  devices_order (EnableDevice d) fit = device_changed s d (device_edited (EnableDevice d)) h (λ x. refl)
  devices_order (DisableDevice d) fit = device_changed s d (device_edited (DisableDevice d)) h (λ x. refl)
  devices_order (SetForms forms d) fit = device_changed s d (device_edited (SetForms forms d)) h (λ x. refl)
  devices_order (AddDevice d q) fit =
      let causes = none_holds (devices_causes (AddDevice d q) s) fit in
      queue_changed s q (with_device d) h (λ x. refl) (λ x found k.
      let p = queue_is s x k in
      let there = all-added (λ n. has_device n s) x.devices d p.devices (not-false (has_device d s) causes.0) in
      let once = once_added s d q x found p.once causes.1.1.1.0 in
      list_right x (x.devices ++ d ∷ []) k (few_listed (x.devices ++ d ∷ []) once there) there once)
  devices_order (RemoveDevice d q) fit = queue_changed s q (without_device d) h (λ x. refl) (λ x found k.
      let p = queue_is s x k in
      let part = filter_part (λ n. not (name_eq d n)) x.devices in
      let fewer = part_length part in
      let few = leb-true (length x.devices) 64 p.few_devices in
      list_right x (without_name d x.devices) k (le-leb (length (without_name d x.devices)) 64 (omega (arith, fewer, few)))
      (part_all (λ n. has_device n s) part p.devices) (part_distinct name_eq part p.once))

  -- requests

  pub rows_order : (e : RowsEdit) → is_rows_within e ≡ true → Allows (rows_causes e s) → IsInOrder (rows_applied e s)
  rows_order (AbortQueue q) sane fit = rows_aborted s q h
  rows_order (HoldRequest id) sane fit = meant s IsInOrder id (hold_causes id) held_row s (λ rid r found allows.
      let idle = none_holds (idle_causes id r) (causes_behind (idle_causes id r) (cause (not (is_unheld r.hold)) (IsHeld id) ∷ []) allows).0 in
      row_changed s rid held_row h (λ q. refl) (λ q e k. k) (λ q. refl) (no_offer s rid h r found idle.0)) fit
  rows_order (ReleaseRequest id) sane fit = meant s IsInOrder id (release_causes id) released_row s (λ rid r found allows. row_released s rid h) fit
  rows_order (MoveRequest id q) sane fit = meant s IsInOrder id (move_causes id q s) (moved_row q (s.arrivals + 1)) (next_arrival s) (λ rid r found allows.
      let p = may_move s id q r allows in
      row_moved s rid (moved_row q (s.arrivals + 1)) h (not_from_false (arrivals_used s) p.2) (λ x. refl) (λ x. refl) (λ x e k.
      moved_right (next_arrival s) x k q (s.arrivals + 1) 0 (ap (λ y. y.state) (same_Some x r (sym e ∙ found)) ∙ p.1) p.0
      (le-leb (s.arrivals + 1) (s.arrivals + 1) (omega arith)) refl)
      (no_offer s rid h r found (ap is_routing p.1))) fit
  rows_order (ModifyRequest id n) sane fit = meant s IsInOrder id (idle_causes id) (with_priority n) s (λ rid r found allows.
      row_changed s rid (with_priority n) h (λ q. refl) (λ q e k. priority_right s q k n sane) (λ q. refl)
      (no_offer s rid h r found (none_holds (idle_causes id r) allows).0)) fit
