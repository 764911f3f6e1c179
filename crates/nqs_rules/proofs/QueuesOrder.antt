-- Changes of queues: a state in order stays so.
use Rattle.std.proofs.Common.{◌≡◌, ℕ, ◌+◌, ◌≤◌, Bool, true, false, not, nat_lt, nat_le, List, [], ◌∷◌, ◌++◌, map, filter, find, length, Option, None, Some}
use Rattle.std.proofs.Common.{refl, ap, ◌∙◌, arith, if◌then◌else◌}
use Rattle.std.proofs.lemmas.Bool.{and_parts, and_from, leb-true, le-leb, ltb-true, ltb-false, not-true}
use Rattle.std.proofs.lemmas.List.{map-append, length-append, length-map}
use Rattle.std.specs.List.{list_any, list_all}
use Rattle.nqs_state.specs.State.{State}
use Rattle.nqs_base.specs.Same.{name_eq, name_exact}
use Rattle.nqs_base_tables.specs.Table.{change_first}
use Rattle.nqs_state.specs.Keys.{is_queue}
use Rattle.nqs_types.specs.declared.request.Row.{Row}
use Rattle.nqs_types.specs.declared.request.Promise.{Promise}
use Rattle.nqs_types.specs.declared.queue.QueueDef.{QueueDef}
use Rattle.nqs_types.specs.declared.queue.ComplexDef.{ComplexDef}
use Rattle.nqs_rules.specs.Edits.{change_queue}
use Rattle.nqs_rules.specs.Find.{has_queue, has_device}
use Rattle.nqs_rules.specs.Access.{without_name}
use Rattle.nqs_rules.specs.Conf.{at_most, row_in, promise_in, held_in, without_member, default_without, add_queue, conf_applied}
use Rattle.nqs_types.specs.declared.edit.ConfEdit.TheVariants.{DeleteQueue}
use Rattle.nqs_rules.specs.InOrder.{IsInOrder, are_distinct, is_user_list_short, is_dest_right, is_default_there, is_queue_right, is_complex_right}
use Rattle.nqs_rules.specs.InOrder.{is_device_there, is_row_right, is_promise_right}
use Rattle.nqs_rules.proofs.Chains.{each, chained}
use Rattle.nqs_rules.proofs.Sublists.{without_part, map_part, part_length, part_all, part_distinct}
use Rattle.nqs_rules.proofs.ListFacts.{list_all-weaker, list_all-changed, list_all-found, map-changed}
use Rattle.nqs_rules.proofs.ListMaps.{list_any-map}
use Rattle.nqs_rules.proofs.KeyFacts.{all-both, none_passes, filter_all, all-added, any-before, any-changed, any-without_other, distinct-added, length_changed}
use Rattle.nqs_rules.proofs.KeyFacts.{turned}
use Rattle.nqs_rules.proofs.FindKept.{all-mapped, map-kept}
use Rattle.nqs_rules.proofs.StateFacts.{parameters_kept, parameters_are, parameters_right, short_are, short_with, keys_are, keys_with}
use Rattle.nqs_rules.proofs.SameBut.{with_conf, with_more_conf}
use Rattle.nqs_rules.proofs.RowFacts.{same_name, row_is, row_kept_by, promise_is, promise_right}

module _ {E : Type 0} where
  pub record IsQueue (s : State E) (d : QueueDef) : Type 0 where
    pub priority : nat_le d.priority 63 ≡ true
    pub run_limit : nat_le d.run_limit 10000 ≡ true
    pub user_limit : at_most 10000 d.user_limit ≡ true
    pub access : is_user_list_short d.access ≡ true
    pub few_dests : nat_le (length d.dests) 16 ≡ true
    pub dests : list_all (is_dest_right s) d.dests ≡ true
    pub few_devices : nat_le (length d.devices) 64 ≡ true
    pub devices : list_all (λ n. has_device n s) d.devices ≡ true
    pub once : are_distinct name_eq d.devices ≡ true

  abbrev tests : State E → QueueDef → List Bool
  tests s d = nat_le d.run_limit 10000 ∷ at_most 10000 d.user_limit ∷ is_user_list_short d.access ∷ nat_le (length d.dests) 16
      ∷ list_all (is_dest_right s) d.dests ∷ nat_le (length d.devices) 64 ∷ list_all (λ n. has_device n s) d.devices ∷ are_distinct name_eq d.devices ∷ []

  pub queue_is : (s : State E) (d : QueueDef) → is_queue_right s d ≡ true → IsQueue s d
  queue_is s d h =
      let p = each (nat_le d.priority 63) (tests s d) h in
      record {
        priority = p.0;
        run_limit = p.1.0;
        user_limit = p.1.1.0;
        access = p.1.1.1.0;
        few_dests = p.1.1.1.1.0;
        dests = p.1.1.1.1.1.0;
        few_devices =
            p.1.1.1.1.1.1.0;
        devices = p.1.1.1.1.1.1.1.0;
        once = p.1.1.1.1.1.1.1.1.0;
      }

  pub queue_right : (s : State E) (d : QueueDef) → IsQueue s d → is_queue_right s d ≡ true
  queue_right s d h = chained (nat_le d.priority 63) (tests s d) (
    h.priority,
    (h.run_limit, (h.user_limit, (h.access, (h.few_dests, (h.dests, (h.few_devices, (h.devices, (h.once, tt)))))))),
  )

  pub complex_kept : (s t : State E) → ((q : List ℕ) → has_queue q s ≡ true → has_queue q t ≡ true) → (c : ComplexDef) → is_complex_right s c ≡ true
      → is_complex_right t c ≡ true
  complex_kept s t queues c h =
      let p = and_parts (nat_le c.limit 10000) (list_all (λ q. has_queue q s) c.queues) h in
      and_from (nat_le c.limit 10000) (list_all (λ q. has_queue q t) c.queues) p.0
      (list_all-weaker (λ q. has_queue q s) (λ q. has_queue q t) queues c.queues p.1)

  -- other queues, where each name that was there still is
  with_queues : (s : State E) (queues : List QueueDef) → IsInOrder s → nat_le (length queues) 256 ≡ true
      → are_distinct name_eq (map (λ d. d.name) queues) ≡ true → list_all (is_queue_right s) queues ≡ true
      → ((n : List ℕ) → has_queue n s ≡ true → list_any (is_queue n) queues ≡ true) → IsInOrder (record s { queues = queues })
  with_queues s queues h few names right there =
      let t : State E = record s { queues = queues } in
      with_more_conf s t h (record { me = refl; site = refl; seq = omega arith; arrivals = omega arith; queues = there; devices = λ d k. k })
      (parameters_kept s t refl there h.parameters) (short_with s 0 few h.short) (keys_with s 0 names h.keys) right
      (list_all-weaker (is_complex_right s) (is_complex_right t) (complex_kept s t there) s.complexes h.complexes)

  -- one queue changes, and keeps its name
  pub queue_changed : (s : State E) (q : List ℕ) (f : QueueDef → QueueDef) → IsInOrder s → ((d : QueueDef) → (f d).name ≡ d.name)
      → ((d : QueueDef) → find (is_queue q) s.queues ≡ Some d → is_queue_right s d ≡ true → is_queue_right s (f d) ≡ true) → IsInOrder (change_queue q f s)
  queue_changed s q f h names right =
      with_queues s (change_first (is_queue q) f s.queues) h
      (ap (λ n. nat_le n 256) (length_changed (is_queue q) f s.queues) ∙ (short_are s h.short).queues)
      (ap (are_distinct name_eq) (map-changed (λ d. d.name) (is_queue q) f names s.queues) ∙ (keys_are s h.keys).queues)
      (list_all-changed (is_queue_right s) (is_queue q) f s.queues h.queues
      (λ d found. right d found (list_all-found (is_queue_right s) (is_queue q) s.queues d h.queues found)))
      (λ n k. any-changed name_eq (λ d. d.name) name_exact same_name (is_queue q) f names n s.queues ∙ k)

  -- one queue more
  pub queue_added : (s : State E) (d : QueueDef) → IsInOrder s → is_queue_right s d ≡ true → has_queue d.name s ≡ false → nat_lt (length s.queues) 256 ≡ true
      → IsInOrder (add_queue d s)
  queue_added s d h right new few =
      let grown : length (s.queues ++ d ∷ []) ≡ length s.queues + length (d ∷ []) = length-append s.queues (d ∷ []) in
      let one : length (d ∷ []) ≡ 1 = refl in
      let below = ltb-true (length s.queues) 256 few in
      with_queues s (s.queues ++ d ∷ []) h (le-leb (length (s.queues ++ d ∷ [])) 256 (omega (arith, grown, one, below)))
      (ap (are_distinct name_eq) (map-append (λ d. d.name) s.queues (d ∷ []))
      ∙ distinct-added name_eq name_exact same_name (map (λ d. d.name) s.queues) d.name
      (list_any-map (λ d. d.name) (name_eq d.name) s.queues ∙ new) (keys_are s h.keys).queues)
      (all-added (is_queue_right s) s.queues d h.queues right) (λ n k. any-before (is_queue n) s.queues (d ∷ []) k)

  -- a queue that nothing is in goes, from the complexes and as the default one too
  pub queue_deleted : (s : State E) (q : List ℕ) → IsInOrder s → nat_lt 0 (held_in q s) ≡ false → IsInOrder (conf_applied (DeleteQueue q) s)
  queue_deleted s q h empty =
      let keys = keys_are s h.keys in
      let short = short_are s h.short in
      let p = parameters_are s h.parameters in
      let t : State E = conf_applied (DeleteQueue q) s in
      let part = without_part (is_queue q) s.queues in
      let fewer = part_length part in
      let few = leb-true (length s.queues) 256 short.queues in
      let held : length (filter (row_in q) s.rows) + length (filter (promise_in q) s.promises) ≤ 0 = ltb-false 0 (held_in q s) empty in
      with_conf s t h
      (parameters_right t (record {
        limit = p.limit;
        patience = p.patience;
        wait = p.wait;
        seq = p.seq;
        arrivals = p.arrivals;
        file_some = p.file_some;
        file = p.file;
        queue = default_there s.default_queue p.queue;
      }))
      (short_with (record s { queues = t.queues }) 1 (ap (λ n. nat_le n 64) (length-map s.complexes (without_member q)) ∙ short.complexes)
      (short_with s 0 (le-leb (length t.queues) 256 (omega (arith, fewer, few))) h.short))
      (keys_with (record s { queues = t.queues }) 1
      (ap (are_distinct name_eq) (map-kept (λ c. c.name) (without_member q) (λ c. refl) s.complexes) ∙ keys.complexes)
      (keys_with s 0 (part_distinct name_eq (map_part (λ d. d.name) part) keys.queues) h.keys))
      (part_all (is_queue_right s) part h.queues)
      (all-mapped (is_complex_right s) (is_complex_right t) (without_member q) complex s.complexes h.complexes)
      (all-both (is_row_right s) (λ r. not (row_in q r)) (is_row_right t) row s.rows h.rows (none_passes (row_in q) s.rows (omega (arith, held))))
      (all-both (is_promise_right s) (λ p. not (promise_in q p)) (is_promise_right t) promise s.promises h.promises
      (none_passes (promise_in q) s.promises (omega (arith, held))))
    where
      there : (n : List ℕ) → name_eq q n ≡ false → has_queue n s ≡ true → has_queue n (conf_applied (DeleteQueue q) s) ≡ true
      there n other k = any-without_other name_eq (λ d. d.name) name_exact same_name n q s.queues (turned name_eq name_exact same_name q n other) ∙ k

      default_there : (o : Option (List ℕ)) → is_default_there o s ≡ true → is_default_there (default_without q o) (conf_applied (DeleteQueue q) s) ≡ true
      default_there None k = refl
      default_there (Some n) k = by (name_eq q n) refl
        where
          by : (b : Bool) → name_eq q n ≡ b → is_default_there (if b then None else Some n) (conf_applied (DeleteQueue q) s) ≡ true
          by true e = refl
          by false e = there n e k

      complex : (c : ComplexDef) → is_complex_right s c ≡ true → is_complex_right (conf_applied (DeleteQueue q) s) (without_member q c) ≡ true
      complex c k =
          let p = and_parts (nat_le c.limit 10000) (list_all (λ n. has_queue n s) c.queues) k in
          and_from (nat_le c.limit 10000) (list_all (λ n. has_queue n (conf_applied (DeleteQueue q) s)) (without_name q c.queues)) p.0
          (filter_all (λ n. not (name_eq q n)) (λ n. has_queue n s) (λ n. has_queue n (conf_applied (DeleteQueue q) s))
          (λ n e k. there n (not-true _ e) k) c.queues p.1)

      same_device : (o : Option (List ℕ)) → is_device_there o s ≡ true → is_device_there o (conf_applied (DeleteQueue q) s) ≡ true
      same_device None k = refl
      same_device (Some d) k = k

      row : (r : Row E) → is_row_right s r ≡ true → not (row_in q r) ≡ true → is_row_right (conf_applied (DeleteQueue q) s) r ≡ true
      row r k other = let p = row_is s r k in row_kept_by s (conf_applied (DeleteQueue q) s) r refl refl (omega arith) (omega arith)
          (there r.queue (not-true _ other) p.queue) (same_device r.device p.device) k

      promise : (p : Promise E) → is_promise_right s p ≡ true → not (promise_in q p) ≡ true → is_promise_right (conf_applied (DeleteQueue q) s) p ≡ true
      promise p k other = let m = promise_is s p k in promise_right (conf_applied (DeleteQueue q) s) p
          (record { row = row p.row m.row other; queued = m.queued; some = m.some; opens = m.opens })
