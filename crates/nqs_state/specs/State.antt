-- All that a host holds, as plain lists and numbers.
use Rattle.std.specs.Prelude.{ℕ, List, Option}
use Rattle.nqs_types.specs.declared.ids.HostId.{HostId}
use Rattle.nqs_base.specs.declared.extent.Extent.{Extent}
use Rattle.nqs_types.specs.declared.queue.QueueDef.{QueueDef}
use Rattle.nqs_types.specs.declared.queue.ComplexDef.{ComplexDef}
use Rattle.nqs_types.specs.declared.queue.DeviceDef.{DeviceDef}
use Rattle.nqs_types.specs.declared.request.Row.{Row}
use Rattle.nqs_types.specs.declared.request.Hand.{Hand}
use Rattle.nqs_types.specs.declared.request.Promise.{Promise}
use Rattle.nqs_types.specs.declared.request.Peer.{Peer}
use Rattle.nqs_types.specs.declared.request.Stage.{Stage}
use Rattle.nqs_types.specs.declared.request.FileOut.{FileOut}
use Rattle.nqs_state.specs.declared.state.HostState.{HostState}

-- E is what stands for bytes in the spool: an extent, or the bytes themselves
pub record State (E : Type 0) : Type 0 where
  pub me : HostId
  pub site : List (List ℕ)
  pub queues : List QueueDef
  pub complexes : List ComplexDef
  pub devices : List DeviceDef
  pub rows : List (Row E)
  pub hands : List Hand
  pub promises : List (Promise E)
  pub peers : List Peer
  pub stages : List (Stage E)
  pub files : List (FileOut E)
  pub managers : List (List ℕ)
  pub operators : List (List ℕ)
  pub default_queue : Option (List ℕ)
  pub global_limit : ℕ
  pub patience : ℕ
  pub retry_wait : ℕ
  pub seq : ℕ
  pub arrivals : ℕ
  pub file_next : ℕ

-- a plain state: the bytes themselves
abbrev pub Plain : Type 0
Plain = State (List ℕ)

-- what a host's state holds, beside the room that it has
abbrev pub content : HostState → State Extent
content h = record {
  me = h.me;
  site = h.site;
  queues = h.queues.items;
  complexes = h.complexes.items;
  devices = h.devices.items;
  rows = h.rows.items;
  hands = h.hands.items;
  promises = h.promises.items;
  peers = h.peers;
  stages = h.stages.items;
  files = h.files.items;
  managers = h.managers;
  operators = h.operators;
  default_queue = h.default_queue;
  global_limit = h.global_limit;
  patience = h.patience;
  retry_wait = h.retry_wait;
  seq = h.seq;
  arrivals = h.arrivals;
  file_next = h.file_next;
}
