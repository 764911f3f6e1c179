-- Changes of one queue, complex, device, row or peer, and what stands in all.
use Rattle.std.specs.Prelude.{ℕ, zero, suc, List, [], ◌∷◌}
use Rattle.nqs_state.specs.State.{State}
use Rattle.nqs_base_tables.specs.Table.{change_first, without_first}
use Rattle.nqs_state.specs.Keys.{is_queue, is_complex, is_device, is_row}
use Rattle.nqs_types.specs.declared.ids.HostId.{HostId}
use Rattle.nqs_types.specs.declared.ids.RequestId.{RequestId}
use Rattle.nqs_types.specs.declared.queue.QueueDef.{QueueDef}
use Rattle.nqs_types.specs.declared.queue.ComplexDef.{ComplexDef}
use Rattle.nqs_types.specs.declared.queue.DeviceDef.{DeviceDef}
use Rattle.nqs_types.specs.declared.request.Row.{Row}
use Rattle.nqs_types.specs.declared.request.Peer.{Peer}

-- the value at a place is changed by f
abbrev pub change_at : {V : Type 0} → ℕ → (V → V) → List V → List V
change_at place f [] = []
change_at zero f (v ∷ vs) = f v ∷ vs
change_at (suc place) f (v ∷ vs) = v ∷ change_at place f vs

module _ {E : Type 0} where
  -- with a request changed
  abbrev pub change_row : RequestId → (Row E → Row E) → State E → State E
  change_row id f s = record s { rows = change_first (is_row id) f s.rows }

  -- without a request
  abbrev pub drop_row : RequestId → State E → State E
  drop_row id s = record s { rows = without_first (is_row id) s.rows }

  -- with a queue changed
  abbrev pub change_queue : List ℕ → (QueueDef → QueueDef) → State E → State E
  change_queue name f s = record s { queues = change_first (is_queue name) f s.queues }

  -- with a complex changed
  abbrev pub change_complex : List ℕ → (ComplexDef → ComplexDef) → State E → State E
  change_complex name f s = record s { complexes = change_first (is_complex name) f s.complexes }

  -- with a device changed
  abbrev pub change_device : List ℕ → (DeviceDef → DeviceDef) → State E → State E
  change_device name f s = record s { devices = change_first (is_device name) f s.devices }

  -- with a peer changed
  abbrev pub change_peer : HostId → (Peer → Peer) → State E → State E
  change_peer host f s = record s { peers = change_at host.0 f s.peers }
