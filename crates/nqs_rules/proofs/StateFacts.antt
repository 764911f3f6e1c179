-- The tests of a state in order, part by part.
use Rattle.std.proofs.Common.{◌≡◌, ℕ, Bool, true, ◌==◌, nat_le, nat_lt, List, [], ◌∷◌, map, length, slice_set, Option, None, Some, refl, ◌∙◌, arith}
use Rattle.std.proofs.lemmas.Bool.Decides.{nat_tests}
use Rattle.nqs_state.specs.State.{State}
use Rattle.nqs_base.specs.Same.{name_eq}
use Rattle.nqs_types.specs.declared.ids.HostId.{HostId}
use Rattle.nqs_types.specs.Ids.{id_eq, peer_number_eq, hand_key, promise_key, stage_key}
use Rattle.nqs_rules.specs.Tests.{last_u64, last_seq}
use Rattle.nqs_rules.specs.Conf.{is_wait}
use Rattle.nqs_rules.specs.Find.{held_count, has_queue}
use Rattle.nqs_rules.specs.Fits.{is_site_host}
use Rattle.nqs_rules.specs.InOrder.{are_distinct, same_number, is_default_there, are_keys_distinct, is_site_right, are_lists_short, are_parameters_right}
use Rattle.nqs_rules.proofs.Chains.{all_of, each, chained, replaced}

lower : (n m : ℕ) → nat_lt n m ≡ true → nat_le m 16 ≡ true → nat_lt n 16 ≡ true
lower n m less few = grind (arith, nat_tests)

module _ {E : Type 0} where
  pub record IsSite (s : State E) : Type 0 where
    pub some : nat_le 1 (length s.site) ≡ true
    pub few : nat_le (length s.site) 16 ≡ true
    pub me : is_site_host s.me s ≡ true
    pub peers : (length s.peers == length s.site) ≡ true

  abbrev sites_tests : State E → List Bool
  sites_tests s = nat_le (length s.site) 16 ∷ is_site_host s.me s ∷ (length s.peers == length s.site) ∷ []

  pub sites_are : (s : State E) → is_site_right s ≡ true → IsSite s
  sites_are s h =
      let p = each (nat_le 1 (length s.site)) (sites_tests s) h in
      record {
        some = p.0;
        few = p.1.0;
        me = p.1.1.0;
        peers = p.1.1.1.0;
      }

  -- a host of the site is one of sixteen
  pub host_below : (s : State E) (host : HostId) → is_site_right s ≡ true → is_site_host host s ≡ true → nat_lt host.0 16 ≡ true
  host_below s host right inside = lower host.0 (length s.site) inside (sites_are s right).few

  pub sites_right : (s : State E) → IsSite s → is_site_right s ≡ true
  sites_right s h = chained (nat_le 1 (length s.site)) (sites_tests s) (h.some, (h.few, (h.me, (h.peers, tt))))

  pub record IsParameters (s : State E) : Type 0 where
    pub limit : nat_le s.global_limit 10000 ≡ true
    pub patience : is_wait s.patience ≡ true
    pub wait : is_wait s.retry_wait ≡ true
    pub seq : nat_le s.seq last_seq ≡ true
    pub arrivals : nat_le s.arrivals last_u64 ≡ true
    pub file_some : nat_le 1 s.file_next ≡ true
    pub file : nat_le s.file_next last_u64 ≡ true
    pub queue : is_default_there s.default_queue s ≡ true

  abbrev parameters_tests : State E → List Bool
  parameters_tests s = is_wait s.patience ∷ is_wait s.retry_wait ∷ nat_le s.seq last_seq ∷ nat_le s.arrivals last_u64 ∷ nat_le 1 s.file_next
      ∷ nat_le s.file_next last_u64 ∷ is_default_there s.default_queue s ∷ []

  pub parameters_are : (s : State E) → are_parameters_right s ≡ true → IsParameters s
  parameters_are s h =
      let p = each (nat_le s.global_limit 10000) (parameters_tests s) h in
      record {
        limit = p.0;
        patience = p.1.0;
        wait = p.1.1.0;
        seq = p.1.1.1.0;
        arrivals = p.1.1.1.1.0;
        file_some = p.1.1.1.1.1.0;
        file = p.1.1.1.1.1.1.0;
        queue = p.1.1.1.1.1.1.1.0;
      }

  pub parameters_right : (s : State E) → IsParameters s → are_parameters_right s ≡ true
  parameters_right s h = chained (nat_le s.global_limit 10000) (parameters_tests s)
      (h.limit, (h.patience, (h.wait, (h.seq, (h.arrivals, (h.file_some, (h.file, (h.queue, tt))))))))

  pub record IsShort (s : State E) : Type 0 where
    pub queues : nat_le (length s.queues) 256 ≡ true
    pub complexes : nat_le (length s.complexes) 64 ≡ true
    pub devices : nat_le (length s.devices) 64 ≡ true
    pub managers : nat_le (length s.managers) 256 ≡ true
    pub operators : nat_le (length s.operators) 256 ≡ true
    pub held : nat_le (held_count s) 10000 ≡ true

  abbrev short_tests : State E → List Bool
  short_tests s = nat_le (length s.complexes) 64 ∷ nat_le (length s.devices) 64 ∷ nat_le (length s.managers) 256 ∷ nat_le (length s.operators) 256
      ∷ nat_le (held_count s) 10000 ∷ []

  pub short_are : (s : State E) → are_lists_short s ≡ true → IsShort s
  short_are s h =
      let p = each (nat_le (length s.queues) 256) (short_tests s) h in
      record {
        queues = p.0;
        complexes = p.1.0;
        devices = p.1.1.0;
        managers = p.1.1.1.0;
        operators = p.1.1.1.1.0;
        held = p.1.1.1.1.1.0;
      }

  pub short_right : (s : State E) → IsShort s → are_lists_short s ≡ true
  short_right s h = chained (nat_le (length s.queues) 256) (short_tests s) (h.queues, (h.complexes, (h.devices, (h.managers, (h.operators, (h.held, tt))))))

  -- another test in the place of one: 0 of queues, 1 of complexes, 2 of devices, 3 of managers, 4
  -- of operators, 5 of what is held
  pub short_with : (s : State E) (n : ℕ) {c : Bool} → c ≡ true → are_lists_short s ≡ true
      → all_of (slice_set (nat_le (length s.queues) 256 ∷ short_tests s) n c) ≡ true
  short_with s = replaced (nat_le (length s.queues) 256) (short_tests s)

  pub record IsKeyed (s : State E) : Type 0 where
    pub queues : are_distinct name_eq (map (λ q. q.name) s.queues) ≡ true
    pub complexes : are_distinct name_eq (map (λ c. c.name) s.complexes) ≡ true
    pub devices : are_distinct name_eq (map (λ d. d.name) s.devices) ≡ true
    pub rows : are_distinct id_eq (map (λ r. r.id) s.rows) ≡ true
    pub hands : are_distinct peer_number_eq (map hand_key s.hands) ≡ true
    pub promises : are_distinct peer_number_eq (map promise_key s.promises) ≡ true
    pub stages : are_distinct peer_number_eq (map stage_key s.stages) ≡ true
    pub files : are_distinct same_number (map (λ f. f.number) s.files) ≡ true

  abbrev keys_tests : State E → List Bool
  keys_tests s = are_distinct name_eq (map (λ c. c.name) s.complexes) ∷ are_distinct name_eq (map (λ d. d.name) s.devices)
      ∷ are_distinct id_eq (map (λ r. r.id) s.rows) ∷ are_distinct peer_number_eq (map hand_key s.hands)
      ∷ are_distinct peer_number_eq (map promise_key s.promises) ∷ are_distinct peer_number_eq (map stage_key s.stages)
      ∷ are_distinct same_number (map (λ f. f.number) s.files) ∷ []

  pub keys_are : (s : State E) → are_keys_distinct s ≡ true → IsKeyed s
  keys_are s h =
      let p = each (are_distinct name_eq (map (λ q. q.name) s.queues)) (keys_tests s) h in
      record {
        queues = p.0;
        complexes = p.1.0;
        devices = p.1.1.0;
        rows = p.1.1.1.0;
        hands = p.1.1.1.1.0;
        promises = p.1.1.1.1.1.0;
        stages = p.1.1.1.1.1.1.0;
        files = p.1.1.1.1.1.1.1.0;
      }

  pub keys_right : (s : State E) → IsKeyed s → are_keys_distinct s ≡ true
  keys_right s h = chained (are_distinct name_eq (map (λ q. q.name) s.queues)) (keys_tests s)
      (h.queues, (h.complexes, (h.devices, (h.rows, (h.hands, (h.promises, (h.stages, (h.files, tt))))))))

  -- another test in the place of one: 0 of queues, 1 of complexes, 2 of devices, 3 of rows, 4 of
  -- hands, 5 of promises, 6 of stages, 7 of files
  pub keys_with : (s : State E) (n : ℕ) {c : Bool} → c ≡ true → are_keys_distinct s ≡ true
      → all_of (slice_set (are_distinct name_eq (map (λ q. q.name) s.queues) ∷ keys_tests s) n c) ≡ true
  keys_with s = replaced (are_distinct name_eq (map (λ q. q.name) s.queues)) (keys_tests s)

  -- the host's parameters, where its default queue stays

  pub default_kept : (s t : State E) → ((q : List ℕ) → has_queue q s ≡ true → has_queue q t ≡ true) → (o : Option (List ℕ)) → is_default_there o s ≡ true
      → is_default_there o t ≡ true
  default_kept s t queues None h = refl
  default_kept s t queues (Some q) h = queues q h

  abbrev pub numbers : State E → ℕ × ℕ × ℕ × ℕ × ℕ × ℕ × Option (List ℕ)
  numbers s = (s.global_limit, s.patience, s.retry_wait, s.seq, s.arrivals, s.file_next, s.default_queue)

  pub parameters_kept : (s t : State E) → numbers t ≡ numbers s → ((q : List ℕ) → has_queue q s ≡ true → has_queue q t ≡ true) → are_parameters_right s ≡ true
      → are_parameters_right t ≡ true
  parameters_kept s t same queues h =
      let p = parameters_are s h in
      parameters_right t (record {
        limit = (λ j. nat_le (same j).0 10000) ∙ p.limit;
        patience = (λ j. is_wait (same j).1) ∙ p.patience;
        wait = (λ j. is_wait (same j).2) ∙ p.wait;
        seq = (λ j. nat_le (same j).3 last_seq) ∙ p.seq;
        arrivals = (λ j. nat_le (same j).4 last_u64) ∙ p.arrivals;
        file_some = (λ j. nat_le 1 (same j).5) ∙ p.file_some;
        file = (λ j. nat_le (same j).5 last_u64) ∙ p.file;
        queue = (λ j. is_default_there (same j).6 t) ∙ default_kept s t queues s.default_queue p.queue;
      })
