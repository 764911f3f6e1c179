-- A state in order stays so with other lists or numbers, where these are right.
use Rattle.std.proofs.Common.{◌≡◌, ℕ, ◌+◌, true, ◌&&◌, nat_le, List, ◌++◌, map, filter, length, refl, arith}
use Rattle.std.specs.List.{list_all}
use Rattle.nqs_state.specs.State.{State}
use Rattle.nqs_base.specs.Path.{is_path}
use Rattle.nqs_types.specs.Ids.{id_eq, peer_number_eq, hand_key, promise_key, stage_key}
use Rattle.nqs_types.specs.declared.request.Row.{Row}
use Rattle.nqs_types.specs.declared.request.Hand.{Hand}
use Rattle.nqs_types.specs.declared.request.Promise.{Promise}
use Rattle.nqs_types.specs.declared.request.Stage.{Stage}
use Rattle.nqs_types.specs.declared.request.FileOut.{FileOut}
use Rattle.nqs_rules.specs.Tests.{last_u64}
use Rattle.nqs_rules.specs.Fits.{is_offered_hand}
use Rattle.nqs_rules.specs.InOrder.{IsInOrder, are_distinct, same_number, is_given, is_queue_right, is_complex_right, is_row_right, is_promise_right}
use Rattle.nqs_rules.specs.InOrder.{is_hand_right}
use Rattle.nqs_rules.specs.InOrder.{is_stage_right, has_few_hands, are_keys_distinct, are_lists_short, are_parameters_right}
use Rattle.nqs_rules.proofs.StateFacts.{default_kept, parameters_kept, parameters_are, parameters_right, short_with, keys_with}
use Rattle.nqs_rules.proofs.RowFacts.{Keeps, rows_kept, promises_kept}

module _ {E : Type 0} where
  -- with the queues, complexes, devices, staff, parameters and counts of t
  abbrev pub with_conf_of : State E → State E → State E
  with_conf_of t s = record s {
    queues = t.queues;
    complexes = t.complexes;
    devices = t.devices;
    managers = t.managers;
    operators = t.operators;
    default_queue = t.default_queue;
    global_limit = t.global_limit;
    patience = t.patience;
    retry_wait = t.retry_wait;
    seq = t.seq;
    arrivals = t.arrivals;
  }

  module _ (s t : State E) (h : IsInOrder s) where
    abbrev u : State E
    u = with_conf_of t s

    -- another configuration
    pub with_conf : are_parameters_right u ≡ true → are_lists_short u ≡ true → are_keys_distinct u ≡ true → list_all (is_queue_right u) t.queues ≡ true
        → list_all (is_complex_right u) t.complexes ≡ true → list_all (is_row_right u) s.rows ≡ true → list_all (is_promise_right u) s.promises ≡ true
        → IsInOrder u
    with_conf parameters short keys queues complexes rows promises = record {
      site = h.site;
      parameters = parameters;
      short = short;
      keys = keys;
      arrivals = h.arrivals;
      queues = queues;
      complexes = complexes;
      rows = rows;
      promises = promises;
      hands = h.hands;
      few = h.few;
      offers = h.offers;
      peers = h.peers;
      stages = h.stages;
      files = h.files;
    }

    -- the same, where each queue and device that was there still is
    pub with_more_conf : Keeps s u → are_parameters_right u ≡ true → are_lists_short u ≡ true → are_keys_distinct u ≡ true
        → list_all (is_queue_right u) t.queues ≡ true → list_all (is_complex_right u) t.complexes ≡ true → IsInOrder u
    with_more_conf keeps parameters short keys queues complexes = with_conf parameters short keys queues complexes
        (rows_kept s u keeps s.rows h.rows) (promises_kept s u keeps refl s.promises h.promises)

  -- other requests and promises
  pub with_requests : (s : State E) (rows : List (Row E)) (promises : List (Promise E)) → IsInOrder s → nat_le (length rows + length promises) 10000 ≡ true
      → are_distinct id_eq (map (λ r. r.id) rows) ≡ true → are_distinct peer_number_eq (map promise_key promises) ≡ true
      → are_distinct same_number (map (λ r. r.arrival) rows ++ map (λ p. p.row.arrival) promises) ≡ true
      → list_all (is_row_right s) rows ≡ true → list_all (is_promise_right s) promises ≡ true
      → list_all (is_hand_right (record s { rows = rows; promises = promises })) s.hands ≡ true
      → IsInOrder (record s { rows = rows; promises = promises })
  with_requests s rows promises h few ids numbers arrivals right promised hands =
      let t : State E = record s { rows = rows; promises = promises } in
      let keeps : Keeps s t = record { me = refl; site = refl; seq = omega arith; arrivals = omega arith; queues = λ q k. k; devices = λ d k. k } in
      record {
        site = h.site;
        parameters = parameters_kept s t refl (λ q k. k) h.parameters;
        short = short_with s 5 few h.short;
        keys = keys_with (record s { rows = rows }) 5 numbers (keys_with s 3 ids h.keys);
        arrivals = arrivals;
        queues = h.queues;
        complexes = h.complexes;
        rows = rows_kept s t keeps rows right;
        promises = promises_kept s t keeps refl promises promised;
        hands = hands;
        few = h.few;
        offers = h.offers;
        peers = h.peers;
        stages = h.stages;
        files = h.files;
      }

  -- other handovers
  pub with_hands : (s : State E) (hands : List Hand) → IsInOrder s → are_distinct peer_number_eq (map hand_key hands) ≡ true
      → list_all (is_hand_right s) hands ≡ true → list_all (has_few_hands (record s { hands = hands })) hands ≡ true
      → are_distinct id_eq (map (λ h. h.id) (filter is_offered_hand hands)) ≡ true → IsInOrder (record s { hands = hands })
  with_hands s hands h numbers right few offers =
      let t : State E = record s { hands = hands } in
      let keeps : Keeps s t = record { me = refl; site = refl; seq = omega arith; arrivals = omega arith; queues = λ q k. k; devices = λ d k. k } in
      record {
        site = h.site;
        parameters = parameters_kept s t refl (λ q k. k) h.parameters;
        short = h.short;
        keys = keys_with s 4 numbers h.keys;
        arrivals = h.arrivals;
        queues = h.queues;
        complexes = h.complexes;
        rows = rows_kept s t keeps s.rows h.rows;
        promises = promises_kept s t keeps refl s.promises h.promises;
        hands = right;
        few = few;
        offers = offers;
        peers = h.peers;
        stages = h.stages;
        files = h.files;
      }

  -- other stages and files, and another number for the next file
  pub with_outputs : (s : State E) (stages : List (Stage E)) (files : List (FileOut E)) (next : ℕ) → IsInOrder s → nat_le 1 next ≡ true
      → nat_le next last_u64 ≡ true → are_distinct peer_number_eq (map stage_key stages) ≡ true → are_distinct same_number (map (λ f. f.number) files) ≡ true
      → list_all (is_stage_right s) stages ≡ true → list_all (λ f. is_path f.path && is_given f.number next) files ≡ true
      → IsInOrder (record s { stages = stages; files = files; file_next = next })
  with_outputs s stages files next h some last stage_keys numbers right_stages right_files =
      let t : State E = record s { stages = stages; files = files; file_next = next } in
      let keeps : Keeps s t = record { me = refl; site = refl; seq = omega arith; arrivals = omega arith; queues = λ q k. k; devices = λ d k. k } in
      let p = parameters_are s h.parameters in
      record {
        site = h.site;
        parameters = parameters_right t (record {
          limit = p.limit;
          patience = p.patience;
          wait = p.wait;
          seq = p.seq;
          arrivals = p.arrivals;
          file_some = some;
          file = last;
          queue = default_kept s t (λ q k. k) s.default_queue p.queue;
        });
        short = h.short;
        keys = keys_with (record s { stages = stages }) 7 numbers (keys_with s 6 stage_keys h.keys);
        arrivals = h.arrivals;
        queues = h.queues;
        complexes = h.complexes;
        rows = rows_kept s t keeps s.rows h.rows;
        promises = promises_kept s t keeps refl s.promises h.promises;
        hands = h.hands;
        few = h.few;
        offers = h.offers;
        peers = h.peers;
        stages = right_stages;
        files = right_files;
      }
