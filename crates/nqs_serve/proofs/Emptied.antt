-- A host in order stays so without its stored bytes.
use Rattle.std.proofs.Common.{◌≡◌, ℕ, ◌++◌, true, not, ◌||◌, nat_le, List, refl, ap, ◌∙◌, Option, None, Some}
use Rattle.std.proofs.lemmas.Simd.{map-map}
use Rattle.nqs_rules.proofs.ListFacts.{list_all-weaker}
use Rattle.nqs_types.specs.Ids.{id_eq, peer_number_eq, promise_key, stage_key}
use Rattle.nqs_types.specs.declared.request.Row.{Row}
use Rattle.nqs_types.specs.declared.request.Promise.{Promise}
use Rattle.nqs_types.specs.declared.request.Hand.{Hand}
use Rattle.nqs_state.specs.State.{State}
use Rattle.nqs_rules.specs.Tests.{passes, is_offered}
use Rattle.nqs_rules.specs.Find.{find_row}
use Rattle.nqs_rules.specs.Plain.{map_row, map_promise, map_stage, map_file, map_state}
use Rattle.nqs_rules.specs.InOrder.{IsInOrder, are_distinct, same_number, is_device_there, is_default_there, arrivals_of, is_row_right, is_promise_right}
use Rattle.nqs_rules.specs.InOrder.{is_hand_right, is_stage_right, is_file_right, is_routing_row}
use Rattle.nqs_rules.proofs.FindKept.{all-mapped}
use Rattle.nqs_rules.proofs.FoundPlain.{find_row-map, passes-map, held_count-map}
use Rattle.nqs_rules.proofs.RowFacts.{row_is, row_right, promise_is, promise_right}
use Rattle.nqs_rules.proofs.RowsOrder.{hand_is, hand_right}
use Rattle.nqs_rules.proofs.StateFacts.{parameters_are, parameters_right, short_are, short_right, keys_are, keys_right}

module _ {E F : Type 0} (f : E → F) (s : State E) (h : IsInOrder s) where
  abbrev t : State F
  t = map_state f s

  device : (o : Option (List ℕ)) → is_device_there o s ≡ true → is_device_there o t ≡ true
  device None k = refl
  device (Some d) k = k

  default : (o : Option (List ℕ)) → is_default_there o s ≡ true → is_default_there o t ≡ true
  default None k = refl
  default (Some q) k = k

  row_stays : (r : Row E) → is_row_right s r ≡ true → is_row_right t (map_row f r) ≡ true
  row_stays r right =
      let k = row_is s r right in
      row_right t (map_row f r) (record {
        id = k.id;
        given = k.given;
        job = k.job;
        queue = k.queue;
        device = device r.device k.device;
        refused = k.refused;
        arrival = k.arrival;
        lost = k.lost;
        count = k.count;
        hop = k.hop;
      })

  promise_stays : (p : Promise E) → is_promise_right s p ≡ true → is_promise_right t (map_promise f p) ≡ true
  promise_stays p right = let k = promise_is s p right in promise_right t (map_promise f p)
      (record { row = row_stays p.row k.row; queued = k.queued; some = k.some; opens = k.opens })

  hand_stays : (x : Hand) → is_hand_right s x ≡ true → is_hand_right t x ≡ true
  hand_stays x right =
      let k = hand_is s x right in
      let same : passes is_routing_row (find_row x.id t) ≡ passes is_routing_row (find_row x.id s) =
      ap (passes is_routing_row) (find_row-map f x.id s) ∙ passes-map (map_row f) is_routing_row (find_row x.id s) in
      hand_right t x (record { id = k.id; given = k.given; stands = ap (λ b. not (is_offered x.phase) || b) same ∙ k.stands })

  arrivals_same : arrivals_of t ≡ arrivals_of s
  arrivals_same = λ j. map-map (λ r. r.arrival) (map_row f) s.rows j ++ map-map (λ p. p.row.arrival) (map_promise f) s.promises j

  pub order_stays : IsInOrder (map_state f s)
  order_stays = record {
    site = h.site;
    parameters = let k = parameters_are s h.parameters in
        parameters_right t (record {
          limit = k.limit;
          patience = k.patience;
          wait = k.wait;
          seq = k.seq;
          arrivals = k.arrivals;
          file_some = k.file_some;
          file = k.file;
          queue = default s.default_queue k.queue;
        });
    short = let k = short_are s h.short in
        short_right t (record {
          queues = k.queues;
          complexes = k.complexes;
          devices = k.devices;
          managers = k.managers;
          operators = k.operators;
          held = ap (λ n. nat_le n 10000) (held_count-map f s) ∙ k.held;
        });
    keys = let k = keys_are s h.keys in
        keys_right t (record {
          queues = k.queues;
          complexes = k.complexes;
          devices = k.devices;
          rows = ap (are_distinct id_eq) (map-map (λ r. r.id) (map_row f) s.rows) ∙ k.rows;
          hands = k.hands;
          promises = ap (are_distinct peer_number_eq) (map-map promise_key (map_promise f) s.promises) ∙ k.promises;
          stages = ap (are_distinct peer_number_eq) (map-map stage_key (map_stage f) s.stages) ∙ k.stages;
          files = ap (are_distinct same_number) (map-map (λ x. x.number) (map_file f) s.files) ∙ k.files;
        });
    arrivals = ap (are_distinct same_number) arrivals_same ∙ h.arrivals;
    queues = h.queues;
    complexes = h.complexes;
    rows = all-mapped (is_row_right s) (is_row_right t) (map_row f) row_stays s.rows h.rows;
    promises = all-mapped (is_promise_right s) (is_promise_right t) (map_promise f) promise_stays s.promises h.promises;
    hands = list_all-weaker (is_hand_right s) (is_hand_right t) hand_stays s.hands h.hands;
    few = h.few;
    offers = h.offers;
    peers = h.peers;
    stages = all-mapped (is_stage_right s) (is_stage_right t) (map_stage f) (λ x k. k) s.stages h.stages;
    files = all-mapped (is_file_right s) (is_file_right t) (map_file f) (λ x k. k) s.files h.files;
  }
