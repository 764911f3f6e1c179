-- A state is sound exactly where it is in order and consistent.
use Rattle.std.proofs.Common.{◌≡◌, Bool, true, ◌&&◌, List, [], ◌∷◌}
use Rattle.std.proofs.lemmas.Bool.{and_parts, and_from}
use Rattle.std.specs.List.{list_all}
use Rattle.nqs_base.specs.declared.extent.Extent.{Extent}
use Rattle.nqs_types.specs.Ids.{id_eq}
use Rattle.nqs_state.specs.State.{State}
use Rattle.nqs_rules.specs.InOrder.{IsInOrder, IsConsistent, are_distinct, same_number, is_site_right, are_parameters_right, are_lists_short}
use Rattle.nqs_rules.specs.InOrder.{are_keys_distinct, arrivals_of, is_queue_right, is_complex_right, is_row_right, is_promise_right}
use Rattle.nqs_rules.specs.InOrder.{is_hand_right, offered_ids, is_peer_right, is_stage_right, is_file_right}
use Rattle.nqs_rules.specs.InOrder.{is_doom_right, is_hold_right, has_hand, is_promise_free, is_hand_of_given}
use Rattle.nqs_rules.proofs.Chains.{each, chained}
use Rattle.nqs_snapshot.specs.Sound.{are_bounds_right, are_values_right, are_hands_few, are_numbers_distinct, is_right, is_consistent, is_sound}
use Rattle.nqs_snapshot.specs.Sound.{SoundIsInOrder}

-- the tests of a state's values, behind the first
abbrev value_tests : State Extent → List Bool
value_tests s =
    list_all (is_complex_right s) s.complexes ∷ list_all (is_row_right s) s.rows ∷ list_all (is_promise_right s) s.promises
    ∷ list_all (is_hand_right s) s.hands ∷ list_all is_peer_right s.peers ∷ list_all (is_stage_right s) s.stages ∷ list_all (is_file_right s) s.files ∷ []

abbrev consistent_tests : State Extent → List Bool
consistent_tests s =
    list_all is_hold_right s.rows ∷ list_all (has_hand s) s.rows ∷ list_all is_promise_free s.promises ∷ list_all (is_hand_of_given s) s.hands ∷ []

order_of : (s : State Extent) → are_keys_distinct s ≡ true → is_right s ≡ true → IsInOrder s
unfolding is_right are_bounds_right are_values_right are_hands_few are_numbers_distinct
order_of s keys h =
    let p = and_parts (are_bounds_right s) (are_values_right s && (are_hands_few s && are_numbers_distinct s)) h in
    let q = and_parts (are_values_right s) (are_hands_few s && are_numbers_distinct s) p.1 in
    let r = and_parts (are_hands_few s) (are_numbers_distinct s) q.1 in
    let b = each (is_site_right s) (are_parameters_right s ∷ are_lists_short s ∷ []) p.0 in
    let v = each (list_all (is_queue_right s) s.queues) (value_tests s) q.0 in
    let n = and_parts (are_distinct same_number (arrivals_of s)) (are_distinct id_eq (offered_ids s)) r.1 in
    record {
      site = b.0;
      parameters = b.1.0;
      short = b.1.1.0;
      keys = keys;
      arrivals = n.0;
      queues = v.0;
      complexes = v.1.0;
      rows = v.1.1.0;
      promises = v.1.1.1.0;
      hands = v.1.1.1.1.0;
      few = r.0;
      offers = n.1;
      peers = v.1.1.1.1.1.0;
      stages = v.1.1.1.1.1.1.0;
      files = v.1.1.1.1.1.1.1.0;
    }

right_of : (s : State Extent) → IsInOrder s → is_right s ≡ true
unfolding is_right are_bounds_right are_values_right are_hands_few are_numbers_distinct
right_of s h =
    let b : are_bounds_right s ≡ true =
    chained (is_site_right s) (are_parameters_right s ∷ are_lists_short s ∷ []) (h.site, (h.parameters, (h.short, tt))) in
    let v : are_values_right s ≡ true =
    chained (list_all (is_queue_right s) s.queues) (value_tests s)
    (h.queues, (h.complexes, (h.rows, (h.promises, (h.hands, (h.peers, (h.stages, (h.files, tt)))))))) in
    let n : are_numbers_distinct s ≡ true =
    and_from (are_distinct same_number (arrivals_of s)) (are_distinct id_eq (offered_ids s)) h.arrivals h.offers in
    and_from (are_bounds_right s) (are_values_right s && (are_hands_few s && are_numbers_distinct s)) b
    (and_from (are_values_right s) (are_hands_few s && are_numbers_distinct s) v (and_from (are_hands_few s) (are_numbers_distinct s) h.few n))

consistent_of : (s : State Extent) → is_consistent s ≡ true → IsConsistent s
unfolding is_consistent
consistent_of s h =
    let p = each (list_all is_doom_right s.rows) (consistent_tests s) h in
    record { doomed = p.0; held = p.1.0; routing = p.1.1.0; promises = p.1.1.1.0; given = p.1.1.1.1.0 }

is_so : (s : State Extent) → IsConsistent s → is_consistent s ≡ true
unfolding is_consistent
is_so s h = chained (list_all is_doom_right s.rows) (consistent_tests s) (h.doomed, (h.held, (h.routing, (h.promises, (h.given, tt)))))

pub sound_is_in_order : SoundIsInOrder
unfolding is_sound
sound_is_in_order s = (
  λ h.
      let p = and_parts (are_keys_distinct s) (is_right s && is_consistent s) h in
      let q = and_parts (is_right s) (is_consistent s) p.1 in
      (order_of s p.0 q.0, consistent_of s q.1),
  λ h. and_from (are_keys_distinct s) (is_right s && is_consistent s) h.0.keys
      (and_from (is_right s) (is_consistent s) (right_of s h.0) (is_so s h.1)),
)
