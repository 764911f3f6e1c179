-- Tests on small values.
pub use Rattle.nqs_types.specs.RowStates.{is_queued, is_routing, is_running, is_active, is_unheld, is_ready}
use Rattle.std.specs.Prelude.{ℕ, Bool, true, false, ◌&&◌, ◌==◌, Option, Some, None}
use Rattle.nqs_base.specs.Same.{name_eq}
use Rattle.nqs_types.specs.declared.ids.HostId.{HostId}
use Rattle.nqs_types.specs.declared.ids.Dest.{Dest}
use Rattle.nqs_types.specs.declared.request.Phase.{Phase}
use Rattle.nqs_types.specs.declared.request.Phase.TheVariants.{Offered, Committed}
use Rattle.nqs_types.specs.declared.queue.Kind.{Kind}
use Rattle.nqs_types.specs.declared.queue.Kind.TheVariants.{Batch, Device, Pipe}

-- whether a hand waits for its peer's promise
abbrev pub is_offered : Phase → Bool
is_offered Offered = true
is_offered Committed = false

-- whether a hand's peer has promised
abbrev pub is_committed : Phase → Bool
is_committed Offered = false
is_committed Committed = true

-- whether a queue runs scripts
abbrev pub is_batch : Kind → Bool
is_batch Batch = true
is_batch Device = false
is_batch Pipe = false

-- whether a queue feeds devices
abbrev pub is_device_kind : Kind → Bool
is_device_kind Batch = false
is_device_kind Device = true
is_device_kind Pipe = false

-- whether a queue carries requests to other queues
abbrev pub is_pipe : Kind → Bool
is_pipe Batch = false
is_pipe Device = false
is_pipe Pipe = true

-- whether two hosts are one
abbrev pub same_host : HostId → HostId → Bool
same_host a b = a.0 == b.0

-- whether two destinations are one: the queue and its host
abbrev pub same_dest : Dest → Dest → Bool
same_dest a b = name_eq a.queue b.queue && same_host a.host b.host

-- there is a value, and it passes the test
abbrev pub passes : {V : Type 0} → (V → Bool) → Option V → Bool
passes test None = false
passes test (Some v) = test v

-- the greatest number of 64 bits
abbrev pub last_u64 : ℕ
last_u64 = 18446744073709551615

-- the greatest number of a request
abbrev pub last_seq : ℕ
last_seq = 4294967294
