-- What of a state is meant by a name or a number, and whether it is there.
use Rattle.std.specs.Prelude.{ℕ, Bool, List, find, length, position, ◌+◌, slice_get, Option, None, Some}
use Rattle.std.specs.Option.{option_map}
use Rattle.std.specs.List.{list_any}
use Rattle.nqs_base.specs.Same.{name_eq}
use Rattle.nqs_state.specs.State.{State}
use Rattle.nqs_state.specs.Keys.{is_queue, is_complex, is_device, is_row, is_hand, is_promise, is_stage}
use Rattle.nqs_types.specs.declared.ids.HostId.{HostId}
use Rattle.nqs_types.specs.declared.ids.RequestId.{RequestId}
use Rattle.nqs_types.specs.declared.ids.PeerNumber.{PeerNumber}
use Rattle.nqs_types.specs.declared.ids.Named.{Named}
use Rattle.nqs_types.specs.declared.ids.NamedDest.{NamedDest}
use Rattle.nqs_types.specs.declared.ids.Dest.{Dest}
use Rattle.nqs_types.specs.declared.queue.QueueDef.{QueueDef}
use Rattle.nqs_types.specs.declared.queue.ComplexDef.{ComplexDef}
use Rattle.nqs_types.specs.declared.queue.DeviceDef.{DeviceDef}
use Rattle.nqs_types.specs.declared.request.Row.{Row}
use Rattle.nqs_types.specs.declared.request.Hand.{Hand}
use Rattle.nqs_types.specs.declared.request.Promise.{Promise}
use Rattle.nqs_types.specs.declared.request.Peer.{Peer}

-- a peer and a number, as a key
abbrev pub peer_number : HostId → ℕ → PeerNumber
peer_number peer number = record { peer = peer; number = number }

-- a list has the name
abbrev pub has_name : List (List ℕ) → List ℕ → Bool
has_name names name = list_any (name_eq name) names

-- the host at a place of the site, from 0
abbrev pub host_at : ℕ → HostId
host_at place = record { 0 = place }

-- a request by its number, if its host is of the site
abbrev pub request_of : ℕ → Option HostId → Option RequestId
request_of seq None = None
request_of seq (Some host) = Some (record { seq = seq; host = host })

-- a destination by its queue, if its host is of the site
abbrev pub dest_of : List ℕ → Option HostId → Option Dest
dest_of queue None = None
dest_of queue (Some host) = Some (record { queue = queue; host = host })

module _ {E : Type 0} where
  -- the host of the site that has this name
  abbrev pub host_named : List ℕ → State E → Option HostId
  host_named name s = option_map host_at (position (name_eq name) s.site)

  -- the queue of this name
  abbrev pub find_queue : List ℕ → State E → Option QueueDef
  find_queue q s = find (is_queue q) s.queues

  -- whether there is a queue of this name
  abbrev pub has_queue : List ℕ → State E → Bool
  has_queue q s = list_any (is_queue q) s.queues

  -- the complex of this name
  abbrev pub find_complex : List ℕ → State E → Option ComplexDef
  find_complex c s = find (is_complex c) s.complexes

  -- whether there is a complex of this name
  abbrev pub has_complex : List ℕ → State E → Bool
  has_complex c s = list_any (is_complex c) s.complexes

  -- the device of this name
  abbrev pub find_device : List ℕ → State E → Option DeviceDef
  find_device d s = find (is_device d) s.devices

  -- whether there is a device of this name
  abbrev pub has_device : List ℕ → State E → Bool
  has_device d s = list_any (is_device d) s.devices

  -- the request
  abbrev pub find_row : RequestId → State E → Option (Row E)
  find_row id s = find (is_row id) s.rows

  -- whether the host has the request
  abbrev pub has_row : RequestId → State E → Bool
  has_row id s = list_any (is_row id) s.rows

  -- the handover to a peer under a number
  abbrev pub find_hand : HostId → ℕ → State E → Option Hand
  find_hand peer number s = find (is_hand (peer_number peer number)) s.hands

  -- the promise to a peer under a number
  abbrev pub find_promise : HostId → ℕ → State E → Option (Promise E)
  find_promise peer number s = find (is_promise (peer_number peer number)) s.promises

  -- whether there is a promise to a peer under a number
  abbrev pub has_promise : HostId → ℕ → State E → Bool
  has_promise peer number s = list_any (is_promise (peer_number peer number)) s.promises

  -- whether there is a stage to a peer under a number
  abbrev pub has_stage : HostId → ℕ → State E → Bool
  has_stage peer number s = list_any (is_stage (peer_number peer number)) s.stages

  -- what the host knows of a peer
  abbrev pub find_peer : HostId → State E → Option Peer
  find_peer host s = slice_get s.peers host.0

  -- the request that is typed so
  abbrev pub meant_request : Named → State E → Option RequestId
  meant_request r s = request_of r.seq (host_named r.host s)

  -- the request that is meant, if one is
  abbrev pub row_of : Option RequestId → State E → Option (Row E)
  row_of None s = None
  row_of (Some id) s = find_row id s

  -- the row of the request that is typed so
  abbrev pub meant_row : Named → State E → Option (Row E)
  meant_row r s = row_of (meant_request r s) s

  -- the destination that is typed so
  abbrev pub meant_dest : NamedDest → State E → Option Dest
  meant_dest d s = dest_of d.queue (host_named d.host s)

  -- how many rows and promises a host has
  abbrev pub held_count : State E → ℕ
  held_count s = length s.rows + length s.promises
