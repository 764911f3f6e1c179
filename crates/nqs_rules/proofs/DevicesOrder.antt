-- Changes of complexes, devices and parameters: a state in order stays so.
use Rattle.std.proofs.Common.{◌≡◌, ℕ, ◌+◌, Bool, true, false, not, ◌&&◌, ◌==◌, nat_lt, nat_le, List, [], ◌∷◌, ◌++◌, map, length, Option, None, Some, true≢false}
use Rattle.std.proofs.Common.{refl, sym, ap, ◌∙◌, arith}
use Rattle.std.proofs.lemmas.Bool.{and_parts, and_left, leb-true, le-leb, ltb-true, not-true, not_from_false}
use Rattle.std.proofs.lemmas.List.{map-append, length-append, length-map}
use Rattle.std.specs.List.{list_any, list_all}
use Rattle.nqs_state.specs.State.{State}
use Rattle.nqs_base.specs.Same.{name_eq, name_exact}
use Rattle.nqs_base_tables.specs.Table.{change_first, without_first}
use Rattle.nqs_state.specs.Keys.{is_complex, is_device}
use Rattle.nqs_types.specs.declared.request.Row.{Row}
use Rattle.nqs_types.specs.declared.request.Promise.{Promise}
use Rattle.nqs_types.specs.declared.queue.QueueDef.{QueueDef}
use Rattle.nqs_types.specs.declared.queue.ComplexDef.{ComplexDef}
use Rattle.nqs_types.specs.declared.queue.DeviceDef.{DeviceDef}
use Rattle.nqs_types.specs.declared.edit.DevicesEdit.TheVariants.{DeleteDevice}
use Rattle.nqs_rules.specs.Tests.{passes, is_running}
use Rattle.nqs_rules.specs.Edits.{change_complex, change_device}
use Rattle.nqs_rules.specs.Find.{has_queue, has_device, has_complex}
use Rattle.nqs_rules.specs.Access.{without_name}
use Rattle.nqs_rules.specs.Devices.{same_name_as, runs_on, is_busy, without_device, devices_applied}
use Rattle.nqs_rules.specs.Conf.{is_wait}
use Rattle.nqs_rules.specs.InOrder.{IsInOrder, are_distinct, is_default_there, is_queue_right, is_complex_right, is_device_there, has_no_device, is_row_right}
use Rattle.nqs_rules.specs.InOrder.{is_promise_right}
use Rattle.nqs_rules.proofs.Sublists.{without_part, filter_part, map_part, part_length, part_all, part_distinct}
use Rattle.nqs_rules.proofs.ListFacts.{list_all-weaker, list_all-changed, list_all-found, map-changed}
use Rattle.nqs_rules.proofs.ListMaps.{list_any-map}
use Rattle.nqs_rules.proofs.KeyFacts.{all-both, filter_all, all-added, any-before, any-changed, any-without_other, all_from_none, distinct-added}
use Rattle.nqs_rules.proofs.KeyFacts.{length_changed, turned}
use Rattle.nqs_rules.proofs.FindKept.{all-mapped, map-kept}
use Rattle.nqs_rules.proofs.StateFacts.{parameters_kept, default_kept, parameters_are, parameters_right, short_are, short_with, keys_are, keys_with}
use Rattle.nqs_rules.proofs.SameBut.{with_conf, with_more_conf}
use Rattle.nqs_rules.proofs.RowFacts.{same_name, row_is, row_kept_by, promise_is, promise_right}
use Rattle.nqs_rules.proofs.RowChanges.{waits, queued_is}
use Rattle.nqs_rules.proofs.QueuesOrder.{complex_kept, queue_is, queue_right}

module _ {E : Type 0} where
  -- complexes

  -- other complexes, each with queues that are there
  with_complexes : (s : State E) (cs : List ComplexDef) → IsInOrder s → nat_le (length cs) 64 ≡ true → are_distinct name_eq (map (λ c. c.name) cs) ≡ true
      → list_all (is_complex_right s) cs ≡ true → IsInOrder (record s { complexes = cs })
  with_complexes s cs h few names right =
      let t : State E = record s { complexes = cs } in
      with_more_conf s t h (record { me = refl; site = refl; seq = omega arith; arrivals = omega arith; queues = λ q k. k; devices = λ d k. k })
      (parameters_kept s t refl (λ q k. k) h.parameters) (short_with s 1 few h.short) (keys_with s 1 names h.keys) h.queues right

  pub complex_changed : (s : State E) (c : List ℕ) (f : ComplexDef → ComplexDef) → IsInOrder s → ((d : ComplexDef) → (f d).name ≡ d.name)
      → ((d : ComplexDef) → is_complex_right s d ≡ true → is_complex_right s (f d) ≡ true) → IsInOrder (change_complex c f s)
  complex_changed s c f h names right =
      with_complexes s (change_first (is_complex c) f s.complexes) h (ap (λ n. nat_le n 64) (length_changed (is_complex c) f s.complexes)
      ∙ (short_are s h.short).complexes)
      (ap (are_distinct name_eq) (map-changed (λ d. d.name) (is_complex c) f names s.complexes) ∙ (keys_are s h.keys).complexes)
      (list_all-changed (is_complex_right s) (is_complex c) f s.complexes h.complexes
      (λ d found. right d (list_all-found (is_complex_right s) (is_complex c) s.complexes d h.complexes found)))

  pub complex_added : (s : State E) (c : ComplexDef) → IsInOrder s → is_complex_right s c ≡ true → has_complex c.name s ≡ false
      → nat_lt (length s.complexes) 64 ≡ true → IsInOrder (record s { complexes = s.complexes ++ c ∷ [] })
  complex_added s c h right new few =
      let grown : length (s.complexes ++ c ∷ []) ≡ length s.complexes + length (c ∷ []) = length-append s.complexes (c ∷ []) in
      let one : length (c ∷ []) ≡ 1 = refl in
      let below = ltb-true (length s.complexes) 64 few in
      with_complexes s (s.complexes ++ c ∷ []) h (le-leb (length (s.complexes ++ c ∷ [])) 64 (omega (arith, grown, one, below)))
      (ap (are_distinct name_eq) (map-append (λ d. d.name) s.complexes (c ∷ []))
      ∙ distinct-added name_eq name_exact same_name (map (λ d. d.name) s.complexes) c.name (list_any-map (λ d. d.name) (name_eq c.name) s.complexes ∙ new)
      (keys_are s h.keys).complexes)
      (all-added (is_complex_right s) s.complexes c h.complexes right)

  pub complex_deleted : (s : State E) (c : List ℕ) → IsInOrder s → IsInOrder (record s { complexes = without_first (is_complex c) s.complexes })
  complex_deleted s c h =
      let part = without_part (is_complex c) s.complexes in
      let fewer = part_length part in
      let few = leb-true (length s.complexes) 64 (short_are s h.short).complexes in
      with_complexes s (without_first (is_complex c) s.complexes) h (le-leb (length (without_first (is_complex c) s.complexes)) 64 (omega (arith, fewer, few)))
      (part_distinct name_eq (map_part (λ d. d.name) part) (keys_are s h.keys).complexes)
      (part_all (is_complex_right s) part h.complexes)

  -- devices

  -- other devices, among them all that were there
  with_devices : (s : State E) (ds : List DeviceDef) → IsInOrder s → nat_le (length ds) 64 ≡ true → are_distinct name_eq (map (λ d. d.name) ds) ≡ true
      → ((n : List ℕ) → has_device n s ≡ true → list_any (is_device n) ds ≡ true) → IsInOrder (record s { devices = ds })
  with_devices s ds h few names there =
      let t : State E = record s { devices = ds } in
      with_more_conf s t h (record { me = refl; site = refl; seq = omega arith; arrivals = omega arith; queues = λ q k. k; devices = there })
      (parameters_kept s t refl (λ q k. k) h.parameters) (short_with s 2 few h.short) (keys_with s 2 names h.keys)
      (list_all-weaker (is_queue_right s) (is_queue_right t) queue s.queues h.queues) h.complexes
    where
      queue : (d : QueueDef) → is_queue_right s d ≡ true → is_queue_right (record s { devices = ds }) d ≡ true
      queue d k =
          let p = queue_is s d k in
          queue_right (record s { devices = ds }) d (record {
            priority = p.priority;
            run_limit = p.run_limit;
            user_limit = p.user_limit;
            access =
                p.access;
            few_dests = p.few_dests;
            dests = p.dests;
            few_devices = p.few_devices;
            devices =
                list_all-weaker (λ n. has_device n s) (λ n. list_any (is_device n) ds) there d.devices p.devices;
            once = p.once;
          })

  pub device_changed : (s : State E) (d : List ℕ) (f : DeviceDef → DeviceDef) → IsInOrder s → ((x : DeviceDef) → (f x).name ≡ x.name)
      → IsInOrder (change_device d f s)
  device_changed s d f h names =
      with_devices s (change_first (is_device d) f s.devices) h (ap (λ n. nat_le n 64) (length_changed (is_device d) f s.devices)
      ∙ (short_are s h.short).devices)
      (ap (are_distinct name_eq) (map-changed (λ x. x.name) (is_device d) f names s.devices) ∙ (keys_are s h.keys).devices)
      (λ n k. any-changed name_eq (λ x. x.name) name_exact same_name (is_device d) f names n s.devices ∙ k)

  pub device_added : (s : State E) (d : DeviceDef) → IsInOrder s → has_device d.name s ≡ false → nat_lt (length s.devices) 64 ≡ true
      → IsInOrder (record s { devices = s.devices ++ d ∷ [] })
  device_added s d h new few =
      let grown : length (s.devices ++ d ∷ []) ≡ length s.devices + length (d ∷ []) = length-append s.devices (d ∷ []) in
      let one : length (d ∷ []) ≡ 1 = refl in
      let below = ltb-true (length s.devices) 64 few in
      with_devices s (s.devices ++ d ∷ []) h (le-leb (length (s.devices ++ d ∷ [])) 64 (omega (arith, grown, one, below)))
      (ap (are_distinct name_eq) (map-append (λ x. x.name) s.devices (d ∷ []))
      ∙ distinct-added name_eq name_exact same_name (map (λ x. x.name) s.devices) d.name (list_any-map (λ x. x.name) (name_eq d.name) s.devices ∙ new)
      (keys_are s h.keys).devices)
      (λ n k. any-before (is_device n) s.devices (d ∷ []) k)

  -- a device that no request runs on goes, from the queues too
  pub device_deleted : (s : State E) (d : List ℕ) → IsInOrder s → is_busy d s ≡ false → IsInOrder (devices_applied (DeleteDevice d) s)
  device_deleted s d h free =
      let keys = keys_are s h.keys in
      let short = short_are s h.short in
      let t : State E = devices_applied (DeleteDevice d) s in
      let qs = map (without_device d) s.queues in
      let part = without_part (is_device d) s.devices in
      let fewer = part_length part in
      let few = leb-true (length s.devices) 64 short.devices in
      let there_queue : (n : List ℕ) → has_queue n s ≡ true → has_queue n t ≡ true =
      λ n k. list_any-map (without_device d) (λ q. name_eq n q.name) s.queues ∙ k in
      with_conf s t h (parameters_kept s t refl there_queue h.parameters)
      (short_with (record s { queues = qs }) 2 (le-leb (length t.devices) 64 (omega (arith, fewer, few)))
      (short_with s 0 (ap (λ n. nat_le n 256) (length-map s.queues (without_device d)) ∙ short.queues) h.short))
      (keys_with (record s { queues = qs }) 2 (part_distinct name_eq (map_part (λ x. x.name) part) keys.devices)
      (keys_with s 0 (ap (are_distinct name_eq) (map-kept (λ q. q.name) (without_device d) (λ q. refl) s.queues) ∙ keys.queues) h.keys))
      (all-mapped (is_queue_right s) (is_queue_right t) (without_device d) queue s.queues h.queues)
      (list_all-weaker (is_complex_right s) (is_complex_right t) (complex_kept s t there_queue) s.complexes h.complexes)
      (all-both (is_row_right s) (λ r. not (runs_on d r)) (is_row_right t) (λ r k e. row r k (not-true _ e)) s.rows h.rows
      (all_from_none (λ r. not (runs_on d r)) (runs_on d) (λ r e. not_from_false _ e) s.rows free))
      (list_all-weaker (is_promise_right s) (is_promise_right t) promise s.promises h.promises)
    where
      there : (n : List ℕ) → name_eq d n ≡ false → has_device n s ≡ true → has_device n (devices_applied (DeleteDevice d) s) ≡ true
      there n other k = any-without_other name_eq (λ x. x.name) name_exact same_name n d s.devices (turned name_eq name_exact same_name d n other) ∙ k

      queue : (q : QueueDef) → is_queue_right s q ≡ true → is_queue_right (devices_applied (DeleteDevice d) s) (without_device d q) ≡ true
      queue q k =
          let p = queue_is s q k in
          let fewer = part_length (filter_part (λ n. not (name_eq d n)) q.devices) in
          let few = leb-true (length q.devices) 64 p.few_devices in
          queue_right (devices_applied (DeleteDevice d) s) (without_device d q) (record {
            priority = p.priority;
            run_limit = p.run_limit;
            user_limit = p.user_limit;
            access = p.access;
            few_dests = p.few_dests;
            dests = p.dests;
            few_devices = le-leb (length (without_name d q.devices)) 64 (omega (arith, fewer, few));
            devices = filter_all (λ n. not (name_eq d n)) (λ n. has_device n s) (λ n. has_device n (devices_applied (DeleteDevice d) s))
                (λ n e k. there n (not-true _ e) k) q.devices p.devices;
            once = part_distinct name_eq (filter_part (λ n. not (name_eq d n)) q.devices) p.once;
          })

      -- the device of a row is another one
      row_device : (o : Option (List ℕ)) (b : Bool) → (b ≡ false → not (passes (λ _. true) o) ≡ true) → (b && same_name_as d o) ≡ false
          → is_device_there o s ≡ true → is_device_there o (devices_applied (DeleteDevice d) s) ≡ true
      row_device None b waiting other k = refl
      row_device (Some n) true waiting other k = there n other k
      row_device (Some n) false waiting other k = absurd (true≢false (sym (waiting refl)))

      row : (r : Row E) → is_row_right s r ≡ true → runs_on d r ≡ false → is_row_right (devices_applied (DeleteDevice d) s) r ≡ true
      row r k other =
          let p = row_is s r k in
          row_kept_by s (devices_applied (DeleteDevice d) s) r refl refl (omega arith) (omega arith)
          (list_any-map (without_device d) (λ q. name_eq r.queue q.name) s.queues ∙ p.queue)
          (row_device r.device (is_running r.state) (λ e. (and_parts (r.starts == r.lost) (has_no_device r) (waits r e p.count)).1) other p.device) k

      promise : (p : Promise E) → is_promise_right s p ≡ true → is_promise_right (devices_applied (DeleteDevice d) s) p ≡ true
      promise p k =
          let m = promise_is s p k in
          promise_right (devices_applied (DeleteDevice d) s) p (record {
            row =
                row p.row m.row (and_left (is_running p.row.state) (same_name_as d p.row.device) (ap is_running (queued_is p.row.state m.queued)));
            queued =
                m.queued;
            some = m.some;
            opens = m.opens;
          })

  -- parameters

  -- other managers and operators, few of each
  pub with_staff : (s : State E) (managers operators : List (List ℕ)) → IsInOrder s → nat_le (length managers) 256 ≡ true → nat_le (length operators) 256 ≡ true
      → IsInOrder (record s { managers = managers; operators = operators })
  with_staff s managers operators h few_managers few_operators =
      let t : State E = record s { managers = managers; operators = operators } in
      with_more_conf s t h (record { me = refl; site = refl; seq = omega arith; arrivals = omega arith; queues = λ q k. k; devices = λ d k. k })
      (parameters_kept s t refl (λ q k. k) h.parameters)
      (short_with (record s { managers = managers }) 4 few_operators (short_with s 3 few_managers h.short)) h.keys h.queues h.complexes

  -- other parameters within their limits
  pub with_parameters : (s : State E) (queue : Option (List ℕ)) (limit patience wait : ℕ) → IsInOrder s → is_default_there queue s ≡ true
      → nat_le limit 10000 ≡ true → is_wait patience ≡ true → is_wait wait ≡ true
      → IsInOrder (record s { default_queue = queue; global_limit = limit; patience = patience; retry_wait = wait })
  with_parameters s queue limit patience wait h there few patient waiting =
      let p = parameters_are s h.parameters in
      let t : State E = record s { default_queue = queue; global_limit = limit; patience = patience; retry_wait = wait } in
      with_more_conf s t h (record { me = refl; site = refl; seq = omega arith; arrivals = omega arith; queues = λ q k. k; devices = λ d k. k })
      (parameters_right t (record {
        limit = few;
        patience = patient;
        wait = waiting;
        seq = p.seq;
        arrivals = p.arrivals;
        file_some = p.file_some;
        file = p.file;
        queue = default_kept s t (λ q k. k) queue there;
      })) h.short h.keys h.queues h.complexes
