-- Messages that come and go as datagrams.
use Rattle.std.specs.Prelude.{◌≡◌, ℕ, ◌≤◌, Bool, false, List, [], ◌∷◌, ◌++◌, length, Ok, Err}
use Rattle.std.specs.List.{list_any}
use Rattle.std.specs.declared.option.Option.{Option}
use Rattle.std.specs.declared.option.Option.TheVariants.{None, Some}
use Rattle.std.specs.declared.result.Result.{Result}
use Rattle.nqs_types.specs.declared.ids.HostId.{HostId}
use Rattle.nqs_types.specs.declared.message.Body.{Body}
use Rattle.nqs_types.specs.declared.message.Message.{Message}
use Rattle.nqs_outside.specs.Asked.{Arrival, came, quiet, Packet, packet, Traffic, inbound}
use Rattle.nqs_outside.specs.Causes.{Rose}
use Rattle.nqs_outside.specs.Told.{Extends}
use Rattle.nqs_outside.specs.declared.wire.Address.TheVariants.{Host}
use Rattle.nqs_packets.specs.Reading.{message_of}
use Rattle.nqs_packets.specs.Spelling.{spelling}
use Rattle.nqs_packets.specs.declared.fault.PacketFault.{PacketFault}
use Rattle.nqs_clients.specs.declared.datagram.WaitStop.{WaitStop}
use Rattle.nqs_clients.specs.declared.datagram.WaitStop.TheVariants.{Fault, Unread, Memory}

-- what was read, if it is a message
abbrev pub read_of : Result Message PacketFault → Option Message
read_of (Ok message) = Some message
read_of (Err fault) = None

-- the message that came, if one did
abbrev pub message_in : Arrival → Option Message
message_in (came bytes) = read_of (message_of bytes)
message_in quiet = None

-- a message from a host to itself
abbrev pub at_home : HostId → Body → Message
at_home host body = record { from = host; to = host; body = body }

-- the datagram that says this to that host
abbrev pub datagram : HostId → Body → Packet
datagram host body = packet (Host host) (spelling (at_home host body))

-- One receive, behind these sends: what it brought is answered so, or it failed, or there was no
-- memory to read it.
abbrev pub Receives : {A : Type 0} → List Traffic → (Arrival → A) → Option (List Traffic) → Option (List Traffic) → Result A WaitStop → Type 0
Receives {A} sends what was now (Ok answer) = (a : Arrival) × Extends was now (sends ++ inbound a ∷ []) × (answer ≡ what a)
Receives {A} sends what was now (Err Fault) = Extends was now sends
Receives {A} sends what was now (Err (Unread unread)) = (a : Arrival) × Extends was now (sends ++ inbound a ∷ [])
Receives {A} sends what was now (Err (Memory memory)) = ⊥

-- the count of receives that failed has not fallen, and it rose where the wait stopped for a fault;
-- else none failed
abbrev pub StopsFor : {A : Type 0} → ℕ → ℕ → Result A WaitStop → Type 0
StopsFor {A} before now (Err Fault) = (before ≤ now) × Rose before now
StopsFor {A} before now _ = now ≡ before

-- at most ten came, of which none before the last was what is waited for
abbrev pub UpTo : (Arrival → Bool) → List Arrival → Arrival → Type 0
UpTo test arrivals last = (before : List Arrival) × (arrivals ≡ before ++ last ∷ []) × (length arrivals ≤ 10) × (list_any test before ≡ false)
