-- States whose tables are still to be filled.
use Rattle.std.specs.Prelude.{◌≡◌, Bool, ◌&&◌, List, [], map}
use Rattle.nqs_base.specs.Same.{name_eq}
use Rattle.nqs_types.specs.Ids.{id_eq, peer_number_eq, hand_key, promise_key, stage_key}
use Rattle.nqs_base.specs.declared.extent.Extent.{Extent}
use Rattle.nqs_types.specs.declared.request.Peer.{Peer}
use Rattle.nqs_state.specs.State.{State}
use Rattle.nqs_rules.specs.InOrder.{are_distinct, same_number}
use Rattle.nqs_snapshot.specs.declared.parts.SitePart.{SitePart}
use Rattle.nqs_snapshot.specs.declared.parts.RequestPart.{RequestPart}
use Rattle.nqs_snapshot.specs.declared.parts.DealingPart.{DealingPart}
use Rattle.nqs_snapshot.specs.declared.parts.CounterPart.{CounterPart}

-- no table has a value
pub record IsBlank (s : State Extent) : Type 0 where
  pub queues : s.queues ≡ []
  pub complexes : s.complexes ≡ []
  pub devices : s.devices ≡ []
  pub rows : s.rows ≡ []
  pub hands : s.hands ≡ []
  pub promises : s.promises ≡ []
  pub stages : s.stages ≡ []
  pub files : s.files ≡ []

-- the keys of each table of a part are distinct

-- no two queues, complexes or devices have one name
abbrev pub are_names_distinct : SitePart → Bool
are_names_distinct p =
    are_distinct name_eq (map (λ q. q.name) p.queues) && are_distinct name_eq (map (λ c. c.name) p.complexes)
    && are_distinct name_eq (map (λ d. d.name) p.devices)

-- no two requests are one, nor two handovers or promises
abbrev pub are_requests_distinct : RequestPart → Bool
are_requests_distinct p =
    are_distinct id_eq (map (λ r. r.id) p.rows) && are_distinct peer_number_eq (map hand_key p.hands)
    && are_distinct peer_number_eq (map promise_key p.promises)

-- no two stages or files are one
abbrev pub are_outputs_distinct : DealingPart → Bool
are_outputs_distinct p = are_distinct peer_number_eq (map stage_key p.stages) && are_distinct same_number (map (λ f. f.number) p.files)

-- a state with this part in place of its own
abbrev pub with_site : SitePart → State Extent → State Extent
with_site p s = record s { me = p.me; site = p.site; queues = p.queues; complexes = p.complexes; devices = p.devices }

-- the same of the requests
abbrev pub with_requests : RequestPart → State Extent → State Extent
with_requests p s = record s { rows = p.rows; hands = p.hands; promises = p.promises }

-- the same of the peers
abbrev pub with_peers : List Peer → State Extent → State Extent
with_peers peers s = record s { peers = peers }

-- the same of the dealings
abbrev pub with_dealings : DealingPart → State Extent → State Extent
with_dealings p s = record s { stages = p.stages; files = p.files; managers = p.managers; operators = p.operators }

-- the same of the parameters and counters
abbrev pub with_counters : CounterPart → State Extent → State Extent
with_counters p s = record s {
  default_queue = p.default_queue;
  global_limit = p.global_limit;
  patience = p.patience;
  retry_wait = p.retry_wait;
  seq = p.seq;
  arrivals = p.arrivals;
  file_next = p.file_next;
}
