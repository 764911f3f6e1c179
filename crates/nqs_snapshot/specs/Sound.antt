-- States from which a host goes on: those in order that are consistent.
use Rattle.std.specs.Prelude.{◌≡◌, ◌↔◌, Bool, true, ◌&&◌}
use Rattle.std.specs.List.{list_all}
use Rattle.nqs_base.specs.declared.extent.Extent.{Extent}
use Rattle.nqs_types.specs.Ids.{id_eq}
use Rattle.nqs_state.specs.State.{State}
use Rattle.nqs_rules.specs.InOrder.{IsInOrder, IsConsistent, are_distinct, same_number, is_site_right, are_parameters_right, are_lists_short, are_parts_short}
use Rattle.nqs_rules.specs.InOrder.{are_keys_distinct, arrivals_of, is_queue_right, is_complex_right, is_row_right, is_promise_right}
use Rattle.nqs_rules.specs.InOrder.{is_hand_right, has_few_hands, offered_ids, is_peer_right, is_stage_right, is_file_right}
use Rattle.nqs_rules.specs.InOrder.{is_doom_right, is_hold_right, has_hand, is_promise_free, is_hand_of_given}

-- the site, the parameters and the lengths of the lists are within their limits
unfoldable pub are_bounds_right : State Extent → Bool
are_bounds_right s = is_site_right s && are_parameters_right s && are_lists_short s

-- each value of each list is right
unfoldable pub are_values_right : State Extent → Bool
are_values_right s =
    list_all (is_queue_right s) s.queues && list_all (is_complex_right s) s.complexes && list_all (is_row_right s) s.rows
    && list_all (is_promise_right s) s.promises && list_all (is_hand_right s) s.hands && list_all is_peer_right s.peers
    && list_all (is_stage_right s) s.stages && list_all (is_file_right s) s.files

-- at most eight hands go to each host that hands go to
unfoldable pub are_hands_few : State Extent → Bool
are_hands_few s = list_all (has_few_hands s) s.hands

-- no arrival comes twice, and no request has two offers
unfoldable pub are_numbers_distinct : State Extent → Bool
are_numbers_distinct s = are_distinct same_number (arrivals_of s) && are_distinct id_eq (offered_ids s)

-- what the rules ask of a state in order, but that its keys are distinct
unfoldable pub is_right : State Extent → Bool
is_right s = are_bounds_right s && (are_values_right s && (are_hands_few s && are_numbers_distinct s))

-- what besides holds of a host at every moment
unfoldable pub is_consistent : State Extent → Bool
is_consistent s =
    list_all is_doom_right s.rows && list_all is_hold_right s.rows && list_all (has_hand s) s.rows && list_all is_promise_free s.promises
    && list_all (is_hand_of_given s) s.hands

-- whether a host may go on from a state
unfoldable pub is_sound : State Extent → Bool
is_sound s = are_keys_distinct s && (is_right s && is_consistent s)

-- each script of a state has at most 1,048,576 bytes, each output at most 32,768
abbrev pub HasShortParts : State Extent → Type 0
HasShortParts s = are_parts_short (λ (x : Extent). x.length) s ≡ true

-- a host may go on from a state exactly where it is in order and consistent
abbrev pub SoundIsInOrder : Type 0
SoundIsInOrder = (s : State Extent) → is_sound s ≡ true ↔ IsInOrder s × IsConsistent s
