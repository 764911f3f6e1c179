-- The datagram by hand, computed.
use Rattle.std.proofs.Common.{◌≡◌, ℕ, [], ◌∷◌, Ok, Err, refl, ap}
use Rattle.nqs_types.specs.declared.event.Event.TheVariants.{Arrived}
use Rattle.nqs_types.specs.declared.message.Body.TheVariants.{Done}
use Rattle.nqs_types.specs.declared.message.Message.{Message}
use Rattle.nqs_records.specs.Fields.{u8_at, u64_at, number_at}
use Rattle.nqs_records.specs.Parts.{host_at}
use Rattle.nqs_packets.specs.Parts.{number_at as handover_at}
use Rattle.nqs_packets.specs.Bodies.{bodies, done_at}
use Rattle.nqs_packets.specs.Reading.{kind_at, message_at, rest_of, message_of}
use Rattle.nqs_packets.specs.declared.fault.PacketFault.TheVariants.{Short, Version}
use Rattle.nqs_packets.proofs.FirstFaults.{one_byte}
use Rattle.nqs_serve.specs.Samples.{done_by, done_from, one_of_two}
use Rattle.nqs_serve.specs.Sorted.{read_sorted, sorted}
use Rattle.nqs_serve.specs.declared.sort.IgnoreCause.TheVariants.{Unread, NotHere, Stranger}
use Rattle.nqs_serve.specs.declared.sort.Sorted.TheVariants.{Event, Ignored}

-- what these bytes say
abbrev pub said_by : ℕ → Message
said_by host = record { from = record { 0 = host }; to = record { 0 = 0 }; body = Done 1 }

reads_one : message_of (done_from 1) ≡ Ok (said_by 1)
unfolding message_of rest_of message_at kind_at host_at bodies done_at handover_at u64_at u8_at number_at
reads_one = refl

reads_five : message_of (done_from 5) ≡ Ok (said_by 5)
unfolding message_of rest_of message_at kind_at host_at bodies done_at handover_at u64_at u8_at number_at
reads_five = refl

reads_older : message_of (done_by 1 1) ≡ Err Version
unfolding message_of u8_at number_at
reads_older = refl

pub is_event : sorted (one_of_two 0) (done_from 1) ≡ Event (Arrived 0 (said_by 1))
is_event = ap (read_sorted (one_of_two 0)) reads_one

pub is_elsewhere : sorted (one_of_two 1) (done_from 1) ≡ Ignored NotHere
is_elsewhere = ap (read_sorted (one_of_two 1)) reads_one

pub is_stranger : sorted (one_of_two 0) (done_from 5) ≡ Ignored Stranger
is_stranger = ap (read_sorted (one_of_two 0)) reads_five

pub is_cut : sorted (one_of_two 0) (2 ∷ []) ≡ Ignored (Unread (Short 1))
is_cut = ap (read_sorted (one_of_two 0)) one_byte

pub is_older : sorted (one_of_two 0) (done_by 1 1) ≡ Ignored (Unread Version)
is_older = ap (read_sorted (one_of_two 0)) reads_older
