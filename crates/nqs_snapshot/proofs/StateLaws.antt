-- Bytes are read as a state exactly where they are its spelling.
use Rattle.std.proofs.Common.{◌≡◌, ℕ, List, [], None, refl, Ok}
use Rattle.nqs_base.specs.declared.extent.Extent.{Extent}
use Rattle.nqs_types.specs.declared.request.Peer.{Peer}
use Rattle.nqs_state.specs.State.{State}
use Rattle.nqs_records.specs.Reading.{Reading}
use Rattle.nqs_records.specs.Changes.{AreBytes}
use Rattle.nqs_records.proofs.IsRead.{IsRead}
use Rattle.nqs_records.proofs.Numbers.{u16_read, u32_read, u64_read}
use Rattle.nqs_records.proofs.Named.{name_read}
use Rattle.nqs_records.proofs.Chains.{both_read, mapped_read, last_read, opt_read}
use Rattle.nqs_records.proofs.PartLaws.{host_law}
use Rattle.nqs_records.proofs.Whole.{alone_found, alone_taken}
use Rattle.nqs_snapshot.specs.declared.parts.SitePart.{SitePart}
use Rattle.nqs_snapshot.specs.declared.parts.RequestPart.{RequestPart}
use Rattle.nqs_snapshot.specs.declared.parts.DealingPart.{DealingPart}
use Rattle.nqs_snapshot.specs.declared.parts.CounterPart.{CounterPart}
use Rattle.nqs_snapshot.specs.declared.parts.Parts.{Parts}
use Rattle.nqs_snapshot.specs.Spelling.{site_part, request_part, dealing_part, counter_part, state_by}
use Rattle.nqs_snapshot.specs.Values.{MayStandSite, MayStandRequests, MayStandDealings, MayStandCounters, MayStandBy}
use Rattle.nqs_snapshot.specs.Reading.{site_at, requests_at, dealings_at, counters_of, counters_at, parts_at, state_of, whole_of}
use Rattle.nqs_snapshot.proofs.PartLaws.{many_law, queue_law, complex_law, device_law, row_law, hand_law, promise_law, stage_law, file_law}

-- parts without values, of which one is looked at
abbrev none : Parts
none = record {
  site = record { me = record { 0 = 0 }; site = []; queues = []; complexes = []; devices = [] };
  requests = record { rows = []; hands = []; promises = [] };
  peers = [];
  dealings = record { stages = []; files = []; managers = []; operators = [] };
  counters = record { default_queue = None; global_limit = 0; patience = 0; retry_wait = 0; seq = 0; arrivals = 0; file_next = 0 };
}

-- a state with this part
abbrev of_site : SitePart → State Extent
of_site p = state_of (record none { site = p })

site_law : IsRead (λ p. MayStandSite (of_site p)) (λ p. site_part (of_site p)) site_at
unfolding site_at site_part
site_law =
    mapped_read (λ p. MayStandSite (of_site p)) (λ p. site_part (of_site p))
    (λ v. record { me = v.0; site = v.1.0; queues = v.1.1.0; complexes = v.1.1.1.0; devices = v.1.1.1.1 })
    (λ p. (p.me, (p.site, (p.queues, (p.complexes, p.devices)))))
    (λ p. refl)
    (λ v is. (is.0, is.1.0, is.1.1.0, is.1.1.1.0, is.1.1.1.1))
    (λ p is. (is.0, (is.1, (is.2, (is.3, is.4)))))
    (λ v. refl)
    (both_read host_law λ _ _. both_read (many_law name_read) λ _ _. both_read (many_law queue_law) λ _ _. both_read (many_law complex_law) λ _ _.
    last_read (many_law device_law))

abbrev of_requests : RequestPart → State Extent
of_requests p = state_of (record none { requests = p })

requests_law : IsRead (λ p. MayStandRequests (of_requests p)) (λ p. request_part (of_requests p)) requests_at
unfolding requests_at request_part
requests_law =
    mapped_read (λ p. MayStandRequests (of_requests p)) (λ p. request_part (of_requests p))
    (λ v. record { rows = v.0; hands = v.1.0; promises = v.1.1 }) (λ p. (p.rows, (p.hands, p.promises)))
    (λ p. refl) (λ v is. (is.0, is.1.0, is.1.1)) (λ p is. (is.0, (is.1, is.2))) (λ v. refl)
    (both_read (many_law row_law) λ _ _. both_read (many_law hand_law) λ _ _. last_read (many_law promise_law))

abbrev of_dealings : DealingPart → State Extent
of_dealings p = state_of (record none { dealings = p })

dealings_law : IsRead (λ p. MayStandDealings (of_dealings p)) (λ p. dealing_part (of_dealings p)) dealings_at
unfolding dealings_at dealing_part
dealings_law =
    mapped_read (λ p. MayStandDealings (of_dealings p)) (λ p. dealing_part (of_dealings p))
    (λ v. record { stages = v.0; files = v.1.0; managers = v.1.1.0; operators = v.1.1.1 })
    (λ p. (p.stages, (p.files, (p.managers, p.operators))))
    (λ p. refl)
    (λ v is. (is.0, is.1.0, is.1.1.0, is.1.1.1))
    (λ p is. (is.0, (is.1, (is.2, is.3))))
    (λ v. refl)
    (both_read (many_law stage_law) λ _ _. both_read (many_law file_law) λ _ _. both_read (many_law name_read) λ _ _.
    last_read (many_law name_read))

abbrev of_counters : CounterPart → State Extent
of_counters p = state_of (record none { counters = p })

counters_law : IsRead (λ p. MayStandCounters (of_counters p)) (λ p. counter_part (of_counters p)) counters_at
unfolding counters_at counter_part
counters_law =
    mapped_read (λ p. MayStandCounters (of_counters p)) (λ p. counter_part (of_counters p)) counters_of
    (λ p. (p.default_queue, (p.global_limit, (p.patience, (p.retry_wait, (p.seq, (p.arrivals, p.file_next)))))))
    (λ p. refl)
    (λ v is. (is.0, is.1.0, is.1.1.0, is.1.1.1.0, is.1.1.1.1.0, is.1.1.1.1.1.0, is.1.1.1.1.1.1))
    (λ p is. (is.0, (is.1, (is.2, (is.3, (is.4, (is.5, is.6)))))))
    (λ v. refl)
    (both_read (opt_read name_read) λ _ _. both_read u16_read λ _ _. both_read u64_read λ _ _. both_read u64_read λ _ _. both_read u32_read λ _ _.
    both_read u64_read λ _ _. last_read u64_read)

-- the values of the parts, and their fields, are those of the state
pub parts_law : {IsKnown : Peer → Type 0} {peer : Peer → List ℕ} {r : Reading Peer} → IsRead IsKnown peer r
    → IsRead (λ p. MayStandBy IsKnown (state_of p)) (λ p. state_by peer (state_of p)) (parts_at r)
unfolding parts_at state_by site_part request_part dealing_part counter_part
parts_law {IsKnown} {peer} {r} one =
    mapped_read (λ p. MayStandBy IsKnown (state_of p)) (λ p. state_by peer (state_of p))
    (λ v. record { site = v.0; requests = v.1.0; peers = v.1.1.0; dealings = v.1.1.1.0; counters = v.1.1.1.1 })
    (λ p. (p.site, (p.requests, (p.peers, (p.dealings, p.counters)))))
    (λ p. refl)
    (λ v is. (is.0, is.1.0, is.1.1.0, is.1.1.1.0, is.1.1.1.1))
    (λ p is. (is.0, (is.1, (is.2, (is.3, is.4)))))
    (λ v. refl)
    (both_read site_law λ _ _. both_read requests_law λ _ _. both_read (many_law one) λ _ _. both_read dealings_law λ _ _. last_read counters_law)

-- the parts of a state
abbrev pub parts_of : State Extent → Parts
parts_of s = record {
  site = record { me = s.me; site = s.site; queues = s.queues; complexes = s.complexes; devices = s.devices };
  requests = record { rows = s.rows; hands = s.hands; promises = s.promises };
  peers = s.peers;
  dealings = record { stages = s.stages; files = s.files; managers = s.managers; operators = s.operators };
  counters = record {
    default_queue = s.default_queue;
    global_limit = s.global_limit;
    patience = s.patience;
    retry_wait = s.retry_wait;
    seq = s.seq;
    arrivals = s.arrivals;
    file_next = s.file_next;
  };
}

-- ---- the whole list

module _ {IsKnown : Peer → Type 0} {peer : Peer → List ℕ} {r : Reading Peer} (one : IsRead IsKnown peer r) where
  pub whole_spelled : (bytes : List ℕ) (p : Parts) → AreBytes bytes → whole_of r bytes ≡ Ok p
      → (bytes ≡ state_by peer (state_of p)) × MayStandBy IsKnown (state_of p)
  unfolding whole_of
  whole_spelled bytes p fits e = alone_found (parts_law one) bytes 0 p fits e

  pub spelled_whole : (bytes : List ℕ) (s : State Extent) → AreBytes bytes → bytes ≡ state_by peer s → MayStandBy IsKnown s
      → whole_of r bytes ≡ Ok (parts_of s)
  unfolding whole_of
  spelled_whole bytes s fits is ok = alone_taken (parts_law one) bytes 0 (parts_of s) fits is ok
