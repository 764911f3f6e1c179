-- What was asked of the outside, with its answers.
use Rattle.std.specs.Prelude.{ℕ, ◌≤◌, Bool, List, take, Ok, Err}
use Rattle.std.specs.declared.option.Option.{Option}
use Rattle.std.specs.declared.option.Option.TheVariants.{None, Some}
use Rattle.std.specs.declared.result.Result.{Result}
use Rattle.nqs_types.specs.declared.ids.RequestId.{RequestId}
use Rattle.nqs_types.specs.declared.event.LaunchOrder.{LaunchOrder}
use Rattle.nqs_outside.specs.declared.source.Failed.{Failed}
use Rattle.nqs_outside.specs.declared.wire.Address.{Address}
use Rattle.nqs_outside.specs.declared.wire.Received.{Received}
use Rattle.nqs_outside.specs.declared.wire.Received.TheVariants.{Datagram, Quiet}
use Rattle.nqs_outside.specs.declared.runner.RunEnd.{RunEnd}

-- a receive says no more bytes than the buffer has
abbrev pub IsWithin : Received → ℕ → Type 0
IsWithin (Datagram n) room = n ≤ room
IsWithin Quiet room = Unit {0}

-- what a receive brought
pub data Arrival : Type 0 where
  came : (bytes : List ℕ) → Arrival
  quiet : Arrival

-- what a receive brought, by its answer and the buffer
abbrev pub arrival : Received → List ℕ → Arrival
arrival (Datagram n) buf = came (take n buf)
arrival Quiet buf = quiet

-- a datagram that was to be sent
pub record Packet : Type 0 where
  pub to : Address
  pub bytes : List ℕ

-- a datagram of these bytes to this address
abbrev pub packet : Address → List ℕ → Packet
packet to bytes = record { to = to; bytes = bytes }

-- what passed a wire in one call: what a receive brought, or a datagram that was to be sent
pub data Traffic : Type 0 where
  inbound : (arrival : Arrival) → Traffic
  outbound : (packet : Packet) → Traffic

-- what was asked of a launcher, and whether it did it
pub data Asked : Type 0 where
  launched : (order : LaunchOrder) (script : List ℕ) (ok : Bool) → Asked
  killed : (id : RequestId) (start : ℕ) (ok : Bool) → Asked

-- what was to be printed on a device, and whether it was
pub record Print : Type 0 where
  pub device : List ℕ
  pub order : LaunchOrder
  pub bytes : List ℕ
  pub ok : Bool

-- what was to be printed, made of its parts
abbrev pub printed : List ℕ → LaunchOrder → List ℕ → Bool → Print
printed device order bytes ok = record { device = device; order = order; bytes = bytes; ok = ok }

-- a file that was to be written, and whether it was
pub record Filing : Type 0 where
  pub path : List ℕ
  pub bytes : List ℕ
  pub ok : Bool

-- a file that was to be written, made of its parts
abbrev pub filed : List ℕ → List ℕ → Bool → Filing
filed path bytes ok = record { path = path; bytes = bytes; ok = ok }

-- a job that was to be run, and how it ended, if it was
pub record Job : Type 0 where
  pub id : RequestId
  pub start : ℕ
  pub end : Option RunEnd

-- how a job ended, if it was run
abbrev pub end_of : Result RunEnd Failed → Option RunEnd
end_of (Ok end) = Some end
end_of (Err failed) = None

-- a job that was to be run, made of its parts
abbrev pub ran : RequestId → ℕ → Option RunEnd → Job
ran id start end = record { id = id; start = start; end = end }
