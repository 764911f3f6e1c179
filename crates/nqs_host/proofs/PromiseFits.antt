-- What a promise or a handover that fits has.
use Rattle.std.proofs.Common.{◌≡◌, ℕ, ◌<◌, false, not, List, [], ◌∷◌, true}
use Rattle.std.proofs.lemmas.Bool.{leb-false}
use Rattle.nqs_state.specs.State.{State}
use Rattle.nqs_types.specs.declared.ids.HostId.{HostId}
use Rattle.nqs_types.specs.declared.request.Carried.{Carried}
use Rattle.nqs_rules.specs.Tests.{passes, last_u64}
use Rattle.nqs_rules.specs.Find.{has_queue, has_promise, find_peer}
use Rattle.nqs_rules.specs.Routing.{has_room_for_hand, is_within_window}
use Rattle.nqs_rules.specs.Rows.{arrivals_used}
use Rattle.nqs_types.specs.declared.ids.RequestId.{RequestId}
use Rattle.nqs_rules.specs.Fits.{hand_fits, promise_fits, is_next, may_hop, row_passes, is_open_number, is_site_host, is_unknown, offer_full}
use Rattle.nqs_rules.proofs.Chains.{Each, each}
use Rattle.nqs_rules.proofs.ListFacts.{not_true}

module _ {E : Type 0} (s : State E) (peer : HostId) (number low : ℕ) (queue : List ℕ) (c : Carried) (fit : promise_fits peer number low queue c s ≡ true) where
  parts : Each (has_queue queue s ∷ passes (is_open_number number) (find_peer peer s) ∷ not (has_promise peer number s) ∷ is_site_host c.id.host s
      ∷ is_unknown c.id s ∷ not (offer_full peer low s) ∷ not (arrivals_used s) ∷ [])
  parts = each (has_queue queue s) (passes (is_open_number number) (find_peer peer s) ∷ not (has_promise peer number s) ∷ is_site_host c.id.host s
      ∷ is_unknown c.id s ∷ not (offer_full peer low s) ∷ not (arrivals_used s) ∷ []) fit

  pub promise_new : has_promise peer number s ≡ false
  promise_new = not_true (has_promise peer number s) parts.1.1.0

  pub promise_arrival : s.arrivals < last_u64
  promise_arrival = leb-false last_u64 s.arrivals (not_true (arrivals_used s) parts.1.1.1.1.1.1.0)

-- a handover that fits has the next number of its peer
pub hand_next : {E : Type 0} (s : State E) (peer : HostId) (number : ℕ) (id : RequestId) → hand_fits peer number id s ≡ true
    → passes (is_next number) (find_peer peer s) ≡ true
hand_next s peer number id fit =
    (each (row_passes may_hop id s) (passes (is_next number) (find_peer peer s) ∷ has_room_for_hand peer s
    ∷ passes (is_within_window peer s) (find_peer peer s) ∷ []) fit).1.0
