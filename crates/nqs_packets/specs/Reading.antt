-- A whole datagram, read as a message.
use Rattle.std.specs.Prelude.{◌≡◌, ℕ, Bool, true, false, ◌&&◌, ◌==◌, nat_le, List, if◌then◌else◌, Ok, Err}
use Rattle.std.specs.declared.result.Result.{Result}
use Rattle.nqs_types.specs.declared.message.Message.{Message}
use Rattle.nqs_records.specs.declared.fault.RecordFault.{RecordFault}
use Rattle.nqs_records.specs.declared.fault.RecordFault.TheVariants as record_fault
use Rattle.nqs_records.specs.Reading.{◌>>=◌, Read, Reading, alone, numbered}
use Rattle.nqs_records.specs.Fields.{u8_at}
use Rattle.nqs_records.specs.Parts.{host_at}
use Rattle.nqs_packets.specs.declared.fault.PacketFault.{PacketFault}
use Rattle.nqs_packets.specs.declared.fault.PacketFault.TheVariants.{Short, Version, Kind, BadField, Trailing, Memory}
use Rattle.nqs_packets.specs.Bodies.{bodies, no_body}

-- what is wrong with a field is wrong with the datagram
abbrev pub as_packet_fault : RecordFault → PacketFault
as_packet_fault (record_fault.Short end) = Short end
as_packet_fault (record_fault.Kind place) = Kind
as_packet_fault (record_fault.BadField place) = BadField place
as_packet_fault (record_fault.Trailing place) = Trailing place
as_packet_fault (record_fault.Memory memory) = Memory memory

-- a value, or the fault of the datagram
abbrev pub or_packet_fault : {A : Type 0} → Read A → Result A PacketFault
or_packet_fault {A} (Ok a) = Ok a
or_packet_fault {A} (Err fault) = Err (as_packet_fault fault)

-- whether a byte is the number of a kind
abbrev pub is_kind : ℕ → Bool
is_kind n = nat_le 1 n && nat_le n 16

-- the number of a kind
unfoldable pub kind_at : Reading ℕ
kind_at bytes place = do
  kind ← u8_at bytes place
  if is_kind kind.0 then Ok kind else Err (record_fault.Kind place)

-- the kind, the sender, the receiver, and the fields of the kind
unfoldable pub message_at : Reading Message
message_at bytes place = do
  kind ← kind_at bytes place
  from ← host_at bytes kind.1
  to ← host_at bytes from.1
  body ← numbered bodies kind.0 no_body bytes to.1
  Ok (record { from = from.0; to = to.0; body = body.0 }, body.1)

-- a message, and nothing behind it
unfoldable pub rest_of : List ℕ → ℕ → Read Message
rest_of bytes place = alone message_at bytes place

-- the message of these bytes, or the first fault from the left
unfoldable pub message_of : List ℕ → Result Message PacketFault
message_of bytes = do
  version ← or_packet_fault (u8_at bytes 0)
  if version.0 == 2 then or_packet_fault (rest_of bytes version.1) else Err Version

-- want of memory
abbrev pub is_fault_of_memory : PacketFault → Bool
is_fault_of_memory (Memory memory) = true
is_fault_of_memory _ = false

-- whether memory was wanting
abbrev pub is_wanting : {A : Type 0} → Result A PacketFault → Bool
is_wanting {A} (Err fault) = is_fault_of_memory fault
is_wanting {A} (Ok a) = false

-- what is read, unless memory is wanting
abbrev pub AnswersPacket : {A : Type 0} → Result A PacketFault → Result A PacketFault → Type 0
AnswersPacket {A} read answer = is_wanting answer ≡ false → answer ≡ read
