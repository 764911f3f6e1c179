-- Each fault beside that of a field comes exactly where bytes are so.
use Rattle.std.proofs.Common.{◌≡◌, ◌≢◌, ℕ, ◌+◌, ◌<◌, Bool, true, false, cond, ◌==◌, nat_lt, List, [], ◌∷◌, ◌++◌, length, drop, refl, sym, ap, ◌∙◌, subst, arith}
use Rattle.std.proofs.Common.{ne_eqb, Ok, Err}
use Rattle.std.specs.Prelude.{⊤}
use Rattle.std.specs.declared.result.Result.{Result}
use Rattle.std.proofs.lemmas.Bool.{eqb-true, ltb-true}
use Rattle.std.proofs.lemmas.List.{length-drop}
use Rattle.nqs_base.proofs.Readings.{bind, fail}
use Rattle.nqs_types.specs.declared.message.Message.{Message}
use Rattle.nqs_codec.specs.Fields.{u8_field}
use Rattle.nqs_records.specs.declared.fault.RecordFault.TheVariants as record_fault
use Rattle.nqs_records.specs.Reading.{◌>>=◌, Read, numbered}
use Rattle.nqs_records.specs.Fields.{u8_at, number_at}
use Rattle.nqs_records.specs.Parts.{host_at}
use Rattle.nqs_records.specs.Changes.{AreBytes}
use Rattle.nqs_records.specs.Whole.{IsFollowed}
use Rattle.nqs_records.proofs.Numbers.{u8_read}
use Rattle.nqs_records.proofs.FirstFaults.{u8_first}
use Rattle.nqs_records.proofs.Whole.{followed_by}
use Rattle.nqs_packets.specs.declared.fault.PacketFault.{PacketFault}
use Rattle.nqs_packets.specs.declared.fault.PacketFault.TheVariants as fault
use Rattle.nqs_packets.specs.Bodies.{bodies, no_body}
use Rattle.nqs_packets.specs.Spelling.{spelling}
use Rattle.nqs_packets.specs.Values.{MaySend}
use Rattle.nqs_packets.specs.Reading.{or_packet_fault, is_kind, kind_at, message_at, rest_of, message_of}
use Rattle.nqs_packets.specs.Faults.{HasOtherVersion, HasOtherKind, FirstFaults}
use Rattle.nqs_packets.proofs.MessageLaws.{behind, message_law}
use Rattle.nqs_packets.proofs.Fields.{IsField, then, host_fields}
use Rattle.nqs_packets.proofs.Bodies.{body_fields}

u8_second : (v k : ℕ) (rest : List ℕ) → AreBytes (v ∷ k ∷ rest) → u8_at (v ∷ k ∷ rest) 1 ≡ Ok (k, 2)
unfolding u8_field
u8_second v k rest fits = u8_read.taken (v ∷ k ∷ rest) rest 1 k fits (fits 1) refl

-- ---- the first byte

no_bytes : message_of [] ≡ Err (fault.Short 0)
unfolding message_of u8_at number_at
no_bytes = refl

by_version : (v : ℕ) (rest : List ℕ) → AreBytes (v ∷ rest) → message_of (v ∷ rest) ≡ cond (v == 2) (or_packet_fault (rest_of (v ∷ rest) 1)) (Err fault.Version)
unfolding message_of
by_version v rest fits = bind (or_packet_fault (u8_at (v ∷ rest) 0)) (λ w. cond (w.0 == 2) (or_packet_fault (rest_of (v ∷ rest) w.1)) (Err fault.Version))
    (v, 1) _ (ap or_packet_fault (u8_first v rest fits)) refl

other_version : (v : ℕ) (rest : List ℕ) → AreBytes (v ∷ rest) → (v == 2) ≡ false → message_of (v ∷ rest) ≡ Err fault.Version
other_version v rest fits is = by_version v rest fits ∙ ap (λ (t : Bool). cond t (or_packet_fault (rest_of (v ∷ rest) 1)) (Err fault.Version)) is

this_version : (rest : List ℕ) → AreBytes (2 ∷ rest) → message_of (2 ∷ rest) ≡ or_packet_fault (rest_of (2 ∷ rest) 1)
this_version rest fits = by_version 2 rest fits

-- ---- the second byte

pub one_byte : message_of (2 ∷ []) ≡ Err (fault.Short 1)
unfolding message_of rest_of message_at kind_at u8_at number_at
one_byte = refl

by_kind : (k : ℕ) (rest : List ℕ) → AreBytes (2 ∷ k ∷ rest) → kind_at (2 ∷ k ∷ rest) 1 ≡ cond (is_kind k) (Ok (k, 2)) (Err (record_fault.Kind 1))
unfolding kind_at
by_kind k rest fits =
    bind (u8_at (2 ∷ k ∷ rest) 1) (λ kind. cond (is_kind kind.0) (Ok kind) (Err (record_fault.Kind 1))) (k, 2) _ (u8_second 2 k rest fits) refl

abbrev kind_or : ℕ → Bool → Read (ℕ × ℕ)
kind_or k t = cond t (Ok (k, 2)) (Err (record_fault.Kind 1))

stops : (bytes : List ℕ) → kind_at bytes 1 ≡ Err (record_fault.Kind 1) → rest_of bytes 1 ≡ Err (record_fault.Kind 1)
unfolding rest_of message_at
stops bytes e = fail (message_at bytes 1) _ _ (fail (kind_at bytes 1) _ _ e)

other_kind : (k : ℕ) (rest : List ℕ) → AreBytes (2 ∷ k ∷ rest) → is_kind k ≡ false → message_of (2 ∷ k ∷ rest) ≡ Err fault.Kind
other_kind k rest fits is = this_version (k ∷ rest) fits ∙ ap or_packet_fault (stops (2 ∷ k ∷ rest) (by_kind k rest fits ∙ ap (kind_or k) is))

-- ---- what is behind the kind

-- a message behind the kind
ends_of : List ℕ → ℕ → ℕ → Read (Message × ℕ)
ends_of bytes kind place =
    host_at bytes place >>= (λ from. host_at bytes from.1 >>= (λ to. numbered bodies kind no_body bytes to.1 >>=
    (λ body. Ok (record { from = from.0; to = to.0; body = body.0 }, body.1))))

ends_fields : (bytes : List ℕ) (kind place : ℕ) → is_kind kind ≡ true → IsField bytes (ends_of bytes kind place)
unfolding ends_of
ends_fields bytes kind place is =
    then bytes (host_at bytes place) (λ from. host_at bytes from.1 >>= (λ to. numbered bodies kind no_body bytes to.1 >>=
    (λ body. Ok (record { from = from.0; to = to.0; body = body.0 }, body.1)))) (host_fields bytes place)
    (λ from. then bytes (host_at bytes from.1) (λ to. numbered bodies kind no_body bytes to.1 >>=
    (λ body. Ok (record { from = from.0; to = to.0; body = body.0 }, body.1))) (host_fields bytes from.1)
    (λ to. then bytes (numbered bodies kind no_body bytes to.1) (λ body. Ok (record { from = from.0; to = to.0; body = body.0 }, body.1))
    (body_fields kind is bytes to.1) (λ body. tt)))

message_fields : (k : ℕ) (rest : List ℕ) → AreBytes (2 ∷ k ∷ rest) → is_kind k ≡ true → IsField (2 ∷ k ∷ rest) (message_at (2 ∷ k ∷ rest) 1)
unfolding message_at ends_of
message_fields k rest fits is =
    let bytes = 2 ∷ k ∷ rest in
    subst (IsField bytes) (sym (bind (kind_at bytes 1) (λ kind. ends_of bytes kind.0 kind.1) (k, 2) (ends_of bytes k 2)
    (by_kind k rest fits ∙ ap (kind_or k) is) refl))
    (ends_fields bytes k 2 is)

-- what an answer tells of the bytes
abbrev Tells : List ℕ → Result Message PacketFault → Type 0
Tells bytes (Ok m) = ⊤
Tells bytes (Err (fault.Short end)) = end ≡ length bytes
Tells bytes (Err fault.Version) = HasOtherVersion bytes
Tells bytes (Err fault.Kind) = HasOtherKind bytes
Tells bytes (Err (fault.BadField place)) = ⊤
Tells bytes (Err (fault.Trailing place)) = IsFollowed MaySend spelling bytes place
Tells bytes (Err (fault.Memory memory)) = ⊥

size : (m : Message) → 1 + length (behind m) ≡ length (spelling m)
unfolding spelling u8_field
size m = omega arith

followed : (tail : List ℕ) (m : Message) (n : ℕ) → AreBytes (2 ∷ tail) → message_at (2 ∷ tail) 1 ≡ Ok (m, n) → n < length (2 ∷ tail)
    → IsFollowed MaySend spelling (2 ∷ tail) n
unfolding spelling u8_field
followed tail m n fits e less =
    let here = message_law.found (2 ∷ tail) 1 m n fits e in
    record {
      value = m;
      may = here.0;
      rest = drop n (2 ∷ tail);
      some = omega (arith, length-drop n (2 ∷ tail), less);
      text = ap (λ (l : List ℕ). 2 ∷ l) here.1.text;
      is_place = here.1.behind ∙ size m;
    }

rest_tells : (tail : List ℕ) → AreBytes (2 ∷ tail) → IsField (2 ∷ tail) (message_at (2 ∷ tail) 1) → Tells (2 ∷ tail) (or_packet_fault (rest_of (2 ∷ tail) 1))
unfolding rest_of
rest_tells tail fits fields = by (message_at (2 ∷ tail) 1) refl fields
  where
    told : (v : Message × ℕ) → message_at (2 ∷ tail) 1 ≡ Ok v → (t : Bool) → nat_lt v.1 (length (2 ∷ tail)) ≡ t
        → Tells (2 ∷ tail) (or_packet_fault (cond t (Err (record_fault.Trailing v.1)) (Ok v.0)))
    told v e true is = followed tail v.0 v.1 fits e (ltb-true v.1 (length (2 ∷ tail)) is)
    told v e false is = tt

    by : (r : Read (Message × ℕ)) → message_at (2 ∷ tail) 1 ≡ r → IsField (2 ∷ tail) r
        → Tells (2 ∷ tail) (or_packet_fault (r >>= (λ v. cond (nat_lt v.1 (length (2 ∷ tail))) (Err (record_fault.Trailing v.1)) (Ok v.0))))
    by (Ok v) e f = told v e (nat_lt v.1 (length (2 ∷ tail))) refl
    by (Err (record_fault.Short end)) e f = f
    by (Err (record_fault.Kind place)) e f = absurd f
    by (Err (record_fault.BadField place)) e f = tt
    by (Err (record_fault.Trailing place)) e f = absurd f
    by (Err (record_fault.Memory memory)) e f = absurd f

kind_tells : (k : ℕ) (rest : List ℕ) → AreBytes (2 ∷ k ∷ rest) → (t : Bool) → is_kind k ≡ t → Tells (2 ∷ k ∷ rest) (message_of (2 ∷ k ∷ rest))
kind_tells k rest fits false is = subst (Tells (2 ∷ k ∷ rest)) (sym (other_kind k rest fits is)) (refl, is)
kind_tells k rest fits true is = subst (Tells (2 ∷ k ∷ rest)) (sym (this_version (k ∷ rest) fits)) (rest_tells (k ∷ rest) fits (message_fields k rest fits is))

this_tells : (tail : List ℕ) → AreBytes (2 ∷ tail) → Tells (2 ∷ tail) (message_of (2 ∷ tail))
this_tells [] fits = subst (Tells (2 ∷ [])) (sym one_byte) refl
this_tells (k ∷ rest) fits = kind_tells k rest fits (is_kind k) refl

not_this : (v : ℕ) → (v == 2) ≡ false → v ≢ 2
not_this v is e = absurd (let t : (2 == 2) ≡ false = subst (λ (n : ℕ). (n == 2) ≡ false) e is in let no : ⊥ = cc in no)

version_tells : (v : ℕ) (tail : List ℕ) → AreBytes (v ∷ tail) → (t : Bool) → (v == 2) ≡ t → Tells (v ∷ tail) (message_of (v ∷ tail))
version_tells v tail fits false is = subst (Tells (v ∷ tail)) (sym (other_version v tail fits is)) (not_this v is)
version_tells v tail fits true is =
    let same = eqb-true v 2 is in
    subst (λ (n : ℕ). Tells (n ∷ tail) (message_of (n ∷ tail))) (sym same) (this_tells tail (subst (λ (n : ℕ). AreBytes (n ∷ tail)) same fits))

tells : (bytes : List ℕ) → AreBytes bytes → Tells bytes (message_of bytes)
tells [] fits = subst (Tells []) (sym no_bytes) refl
tells (v ∷ tail) fits = version_tells v tail fits (v == 2) refl

-- ---- the other way

version_is : (bytes : List ℕ) → AreBytes bytes → HasOtherVersion bytes → message_of bytes ≡ Err fault.Version
version_is [] fits has = absurd has
version_is (v ∷ rest) fits has = other_version v rest fits (ne_eqb v 2 has)

kind_is : (bytes : List ℕ) → AreBytes bytes → HasOtherKind bytes → message_of bytes ≡ Err fault.Kind
kind_is [] fits has = absurd has
kind_is (v ∷ []) fits has = absurd has
kind_is (v ∷ k ∷ rest) fits has =
    subst (λ (n : ℕ). message_of (n ∷ k ∷ rest) ≡ Err fault.Kind) (sym has.0) (other_kind k rest (subst (λ (n : ℕ). AreBytes (n ∷ k ∷ rest)) has.0 fits) has.1)

trailing_of : (m : Message) (rest : List ℕ) → AreBytes (spelling m ++ rest) → MaySend m → 0 < length rest
    → message_of (spelling m ++ rest) ≡ Err (fault.Trailing (length (spelling m)))
unfolding spelling rest_of u8_field
trailing_of m rest fits may some =
    let tail = behind m ++ rest in
    this_version tail fits
    ∙ ap or_packet_fault (followed_by message_law (2 ∷ tail) rest 1 m fits may refl some)
    ∙ ap (λ (n : ℕ). Err (fault.Trailing n)) (size m)

trailing_is : (bytes : List ℕ) (place : ℕ) → AreBytes bytes → IsFollowed MaySend spelling bytes place → message_of bytes ≡ Err (fault.Trailing place)
trailing_is bytes place fits f =
    ap message_of f.text ∙ trailing_of f.value f.rest (subst AreBytes f.text fits) f.may f.some ∙ ap (λ (n : ℕ). Err (fault.Trailing n)) (sym f.is_place)

pub first_faults : FirstFaults
first_faults bytes fits = record {
  version = (λ e. subst (Tells bytes) e (tells bytes fits), λ has. version_is bytes fits has);
  kind = (λ e. subst (Tells bytes) e (tells bytes fits), λ has. kind_is bytes fits has);
  trailing = λ place. (λ e. subst (Tells bytes) e (tells bytes fits), λ has. trailing_is bytes place fits has);
  short = λ end e. subst (Tells bytes) e (tells bytes fits);
  memory = λ e. subst (Tells bytes) e (tells bytes fits);
}
