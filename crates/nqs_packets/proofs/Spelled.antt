-- Bytes are read as a message exactly where they are its spelling.
use Rattle.std.proofs.Common.{◌≡◌, ℕ, Bool, true, false, cond, ◌==◌, List, ◌++◌, drop, refl, sym, ap, ◌∙◌, arith}
use Rattle.std.proofs.Common.{Ok, Err, IfOk, IfErr}
use Rattle.std.specs.declared.result.Result.{Result}
use Rattle.std.proofs.lemmas.Bool.{eqb-true}
use Rattle.nqs_base.proofs.Readings.{bound, bind, never}
use Rattle.nqs_base.proofs.Plain.{rest_behind}
use Rattle.nqs_types.specs.declared.message.Message.{Message}
use Rattle.nqs_codec.specs.Fields.{u8_field}
use Rattle.nqs_records.specs.Reading.{Read}
use Rattle.nqs_records.specs.Fields.{u8_at}
use Rattle.nqs_records.specs.Changes.{AreBytes}
use Rattle.nqs_records.proofs.Numbers.{u8_read}
use Rattle.nqs_records.proofs.Whole.{alone_found, alone_taken}
use Rattle.nqs_packets.specs.declared.fault.PacketFault.{PacketFault}
use Rattle.nqs_packets.specs.declared.fault.PacketFault.TheVariants.{Version}
use Rattle.nqs_packets.specs.Spelling.{spelling}
use Rattle.nqs_packets.specs.Values.{MaySend}
use Rattle.nqs_packets.specs.Reading.{or_packet_fault, rest_of, message_of, is_fault_of_memory, AnswersPacket}
use Rattle.nqs_packets.specs.Messages.{ReadsTheSpelling, IsSpelledBy, SpellsNone}
use Rattle.nqs_packets.proofs.MessageLaws.{behind, message_law}

packet_Ok : {A : Type 0} (r : Read A) (a : A) → or_packet_fault r ≡ Ok a → r ≡ Ok a
packet_Ok (Ok b) a e = cc
packet_Ok (Err x) a e = cc

of_version : (t : Bool) (r : Result Message PacketFault) (m : Message) → cond t r (Err Version) ≡ Ok m → (t ≡ true) × (r ≡ Ok m)
of_version true r m e = (refl, e)
of_version false r m e = cc

rest_spelled : (bytes : List ℕ) (place : ℕ) (m : Message) → AreBytes bytes → rest_of bytes place ≡ Ok m → (drop place bytes ≡ behind m) × MaySend m
unfolding rest_of
rest_spelled bytes place m fits e = alone_found message_law bytes place m fits e

spelled_rest : (bytes : List ℕ) (place : ℕ) (m : Message) → AreBytes bytes → drop place bytes ≡ behind m → MaySend m → rest_of bytes place ≡ Ok m
unfolding rest_of
spelled_rest bytes place m fits is ok = alone_taken message_law bytes place m fits is ok

pub is_spelled : (bytes : List ℕ) (m : Message) → AreBytes bytes → message_of bytes ≡ Ok m → (bytes ≡ spelling m) × MaySend m
unfolding message_of spelling
is_spelled bytes m fits e =
    let v = bound (or_packet_fault (u8_at bytes 0)) (λ v. cond (v.0 == 2) (or_packet_fault (rest_of bytes v.1)) (Err Version)) m e in
    let p = of_version (v.0.0 == 2) (or_packet_fault (rest_of bytes v.0.1)) m v.2 in
    let first = (u8_read.found bytes 0 v.0.0 v.0.1 fits (packet_Ok (u8_at bytes 0) v.0 v.1)).1 in
    let later = rest_spelled bytes v.0.1 m fits (packet_Ok (rest_of bytes v.0.1) m p.1) in
    (first.text ∙ (λ j. u8_field (eqb-true v.0.0 2 p.0 j) ++ later.0 j), later.1)

pub spelled_is : (bytes : List ℕ) (m : Message) → AreBytes bytes → bytes ≡ spelling m → MaySend m → message_of bytes ≡ Ok m
unfolding message_of spelling u8_field
spelled_is bytes m fits is ok =
    let rest = spelled_rest bytes 1 m fits (rest_behind bytes 0 (u8_field 2) (behind m) is) ok in
    bind (or_packet_fault (u8_at bytes 0)) _ _ _ (ap or_packet_fault (u8_read.taken bytes (behind m) 0 2 fits (omega arith) is)) (ap or_packet_fault rest)

pub reads_the_spelling : ReadsTheSpelling
reads_the_spelling bytes m fits = (λ e. is_spelled bytes m fits e, λ p. spelled_is bytes m fits p.0 p.1)

-- ---- what the call answers

pub if_read : (bytes : List ℕ) (answer : Result Message PacketFault) → AreBytes bytes → AnswersPacket (message_of bytes) answer
    → IfOk answer (IsSpelledBy bytes)
if_read bytes (Ok m) fits answers = is_spelled bytes m fits (sym (answers refl))
if_read bytes (Err fault) fits answers = tt

pub if_refused : (bytes : List ℕ) (answer : Result Message PacketFault) → AreBytes bytes → AnswersPacket (message_of bytes) answer
    → IfErr answer (λ fault. is_fault_of_memory fault ≡ false → SpellsNone bytes)
if_refused bytes (Ok m) fits answers = tt
if_refused bytes (Err fault) fits answers = λ other m ok is. never (message_of bytes) m fault (spelled_is bytes m fits is ok) (sym (answers other))
