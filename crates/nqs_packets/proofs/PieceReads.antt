-- A piece that may be sent is read back from its datagram, whatever numbers its bytes are.
use Rattle.std.proofs.Common.{◌≡◌, ℕ, ◌+◌, ◌≤◌, IsTrue, Bool, List, [], ◌∷◌, ◌++◌, length, take, drop, slice_index, refl, sym, ap, subst, ◌∙◌}
use Rattle.std.proofs.Common.{arith, length-append, append_assoc, append-nil, take_at, Ok}
use Rattle.std.specs.Int.{w16, w32, w64, from_be_bytes}
use Rattle.std.specs.Prelude.{⊤}
use Rattle.std.proofs.lemmas.List.{length-drop}
use Rattle.std.proofs.lemmas.Nat.{from_be_bytes-to_be_bytes_2, from_be_bytes-to_be_bytes_4, from_be_bytes-to_be_bytes_8}
use Rattle.nqs_base.proofs.Readings.{bind}
use Rattle.nqs_base.proofs.Plain.{rest_behind}
use Rattle.nqs_codec.specs.Fields.{u8_field, u16_field, u32_field, u64_field, bytes_field}
use Rattle.nqs_codec.specs.Takes.{IsLong}
use Rattle.nqs_records.specs.Reading.{Reading, both, within, numbered}
use Rattle.nqs_records.specs.Fields.{number_at as sized_at, or_short, u8_at, u16_at, u32_at, u64_at}
use Rattle.nqs_records.specs.Parts.{host_at}
use Rattle.nqs_records.specs.Values.{is_host, IsU8, IsU16, IsU32, IsU64, IsHost}
use Rattle.nqs_records.proofs.ShortFields.{length-u16, length-u32, length-u64}
use Rattle.nqs_records.proofs.Whole.{not_short}
use Rattle.nqs_pieces.specs.declared.piece.Piece.{Piece}
use Rattle.nqs_packets.specs.Bodies.{bodies, no_body, piece_at}
use Rattle.nqs_packets.specs.Letters.{piece_letter}
use Rattle.nqs_packets.specs.Messages.{in_datagram}
use Rattle.nqs_packets.specs.Parts.{is_number, number_at, run_at, bytes_at, is_piece_kind, is_piece_port, is_piece_count, is_piece_length}
use Rattle.nqs_packets.specs.Reading.{or_packet_fault, kind_at, message_at, rest_of, message_of}
use Rattle.nqs_packets.specs.Spelling.{body_field, spelling}
use Rattle.nqs_packets.specs.Values.{IsNumber, IsPieceKind, IsPiecePort, IsPieceCount, IsPieceBytes, MaySend}
use Rattle.nqs_packets.proofs.MessageLaws.{behind, four}

-- what is spelled at a place is read there
pub record IsTaken {A : Type 0} (IsValue : A → Type 0) (field : A → List ℕ) (reading : Reading A) : Type 0 where
  pub taken : (bytes rest : List ℕ) (place : ℕ) (value : A) → IsValue value → drop place bytes ≡ field value ++ rest
      → reading bytes place ≡ Ok (value, place + length (field value))

-- ---- numbers

sized_taken : (size : ℕ) (number : List ℕ → ℕ) (field : List ℕ) (value : ℕ) (bytes rest : List ℕ) (place : ℕ) → length field ≡ size
    → number field ≡ value → drop place bytes ≡ field ++ rest → sized_at size number bytes place ≡ Ok (value, place + length field)
unfolding sized_at
sized_taken size number field value bytes rest place long is_value is =
    let whole : size ≤ length (drop place bytes) = omega (arith, long, ap length is, length-append field rest) in
    let same : number (take size (drop place bytes)) ≡ value = ap number (ap (take size) is ∙ take_at field rest size long) ∙ is_value in
    rw (not_short (length (drop place bytes)) size whole) (λ j. Ok (same j, place + sym long j))

u8_taken : (IsA : ℕ → Type 0) → IsTaken IsA u8_field u8_at
unfolding u8_at u8_field
u8_taken IsA = record {
  taken = λ bytes rest place value is_value is. ap or_short (sized_taken 1 (λ part. slice_index part 0) (value ∷ []) value bytes rest place refl refl is);
}

u16_taken : IsTaken IsU16 u16_field u16_at
unfolding u16_at u16_field
u16_taken = record {
  taken = λ bytes rest place value small is. ap or_short (sized_taken 2 (from_be_bytes w16) (u16_field value) value bytes rest place (length-u16 value)
      (from_be_bytes-to_be_bytes_2 value small) is);
}

u32_taken : IsTaken IsU32 u32_field u32_at
unfolding u32_at u32_field
u32_taken = record {
  taken = λ bytes rest place value small is. ap or_short (sized_taken 4 (from_be_bytes w32) (u32_field value) value bytes rest place (length-u32 value)
      (from_be_bytes-to_be_bytes_4 value small) is);
}

u64_taken : IsTaken IsU64 u64_field u64_at
unfolding u64_at u64_field
u64_taken = record {
  taken = λ bytes rest place value small is. ap or_short (sized_taken 8 (from_be_bytes w64) (u64_field value) value bytes rest place (length-u64 value)
      (from_be_bytes-to_be_bytes_8 value small) is);
}

-- ---- chains

longer : (place : ℕ) (p q : List ℕ) → place + length p + length q ≡ place + length (p ++ q)
longer place p q = omega (arith, length-append p q)

both_taken : {A B : Type 0} {IsA : A → Type 0} {IsB : A → B → Type 0} {fa : A → List ℕ} {fb : A → B → List ℕ} {ra : Reading A} {rb : A → Reading B}
    → IsTaken IsA fa ra → ((a : A) → IsTaken (IsB a) (fb a) (rb a)) → IsTaken (λ v. IsA v.0 × IsB v.0 v.1) (λ v. fa v.0 ++ fb v.0 v.1) (both ra rb)
both_taken {A} {B} {IsA} {IsB} {fa} {fb} {ra} {rb} one other = record {
  taken = λ bytes rest place value is_value is.
      let front = fa value.0 in
      let back = fb value.0 value.1 in
      let text = is ∙ append_assoc front back rest in
      let here = one.taken bytes (back ++ rest) place value.0 is_value.0 text in
      let next = rest_behind bytes place front (back ++ rest) text in
      let there = (other value.0).taken bytes rest (place + length front) value.1 is_value.1 next in
      bind (ra bytes place) _ _ _ here (bind (rb value.0 bytes (place + length front)) _ _ _ there (ap (λ (n : ℕ). Ok (value, n)) (longer place front back)));
}

within_taken : {A : Type 0} {IsA : A → Type 0} {f : A → List ℕ} {r : Reading A} (test : A → Bool) → IsTaken IsA f r
    → IsTaken (λ a. IsTrue (test a) × IsA a) f (within test r)
within_taken {A} {IsA} {f} {r} test one = record {
  taken = λ bytes rest place value is_value is. bind (r bytes place) _ _ _ (one.taken bytes rest place value is_value.1 is) (rw is_value.0 refl);
}

last_taken : {A : Type 0} {IsA : A → Type 0} {f : A → List ℕ} {r : Reading A} → IsTaken IsA f r → IsTaken IsA (λ a. f a ++ []) r
last_taken {A} {IsA} {f} {r} one = subst (λ (g : A → List ℕ). IsTaken IsA g r) (λ j a. sym (append-nil (f a)) j) one

-- ---- the fields of a piece

number_taken : IsTaken IsNumber u64_field number_at
unfolding number_at
number_taken = within_taken is_number u64_taken

run_taken : (count : ℕ) → IsTaken (λ (l : List ℕ). length l ≡ count) (λ l. l) (run_at count)
unfolding run_at
run_taken count = record {
  taken = λ bytes rest place value is_value is.
      let long : count ≤ length (drop place bytes) = omega (arith, is_value, ap length is, length-append value rest) in
      let part : take count (drop place bytes) ≡ value = ap (take count) is ∙ take_at value rest count is_value in
      rw (not_short (length (drop place bytes)) count long) (λ j. Ok (part j, place + sym is_value j));
}

counted_taken : (test : ℕ → Bool) → IsTaken (λ (v : ℕ × List ℕ). (IsTrue (test v.0) × IsU32 v.0) × (length v.1 ≡ v.0)) (λ v. u32_field v.0 ++ v.1)
    (both (within test u32_at) λ count. run_at count)
counted_taken test = both_taken (within_taken test u32_taken) (λ count. run_taken count)

bytes_taken : (test : ℕ → Bool) → IsTaken (λ (l : List ℕ). IsTrue (test (length l)) × IsLong l) bytes_field (bytes_at test)
unfolding bytes_at bytes_field
bytes_taken test = record {
  taken = λ bytes rest place value is_value is.
      bind ((both (within test u32_at) λ count. run_at count) bytes place) _ _ _
      ((counted_taken test).taken bytes rest place (length value, value) (is_value, refl) is) refl;
}

piece_taken : IsTaken (λ (v : ℕ × (ℕ × (ℕ × (ℕ × (ℕ × List ℕ))))).
    IsPieceKind v.0 × (IsPiecePort v.0 v.1.0 × (IsNumber v.1.1.0 × (IsU8 v.1.1.1.0 × (IsPieceCount v.1.1.1.0 v.1.1.1.1.0
    × IsPieceBytes v.1.1.1.0 v.1.1.1.1.0 v.1.1.1.1.1)))))
    (λ v. u8_field v.0 ++ (u16_field v.1.0 ++ (u64_field v.1.1.0 ++ (u8_field v.1.1.1.0 ++ (u8_field v.1.1.1.1.0 ++ (bytes_field v.1.1.1.1.1 ++ []))))))
    (both (within is_piece_kind u8_at) λ kind. both (within (is_piece_port kind) u16_at) λ _. both number_at λ _. both u8_at λ index.
    both (within (is_piece_count index) u8_at) λ count. bytes_at (is_piece_length index count))
piece_taken = both_taken (within_taken is_piece_kind (u8_taken IsU8)) λ kind. both_taken (within_taken (is_piece_port kind) u16_taken) λ _.
    both_taken number_taken λ _. both_taken (u8_taken IsU8) λ index. both_taken (within_taken (is_piece_count index) (u8_taken IsU8)) λ count.
    last_taken (bytes_taken (is_piece_length index count))

-- ---- its datagram

body_taken : (p : Piece) (bytes rest : List ℕ) (place : ℕ) → MaySend (in_datagram p) → drop place bytes ≡ body_field (in_datagram p).body ++ rest
    → numbered bodies 14 no_body bytes place ≡ Ok ((in_datagram p).body, place + length (body_field (in_datagram p).body))
unfolding bodies body_field piece_at
body_taken p bytes rest place ok is =
    let b = ok.2 in
    bind ((both (within is_piece_kind u8_at) λ kind. both (within (is_piece_port kind) u16_at) λ _. both number_at λ _. both u8_at λ index.
    both (within (is_piece_count index) u8_at) λ count. bytes_at (is_piece_length index count)) bytes place) _ _ _
    (piece_taken.taken bytes rest place (p.kind, (p.port, (p.number, (p.index, (p.count, p.bytes))))) (b.0, (b.1, (b.2, (b.3, (b.4, b.5))))) is) refl

kind_taken : (bytes rest : List ℕ) (place : ℕ) → drop place bytes ≡ u8_field 14 ++ rest → kind_at bytes place ≡ Ok (14, place + length (u8_field 14))
unfolding kind_at
kind_taken bytes rest place is = bind (u8_at bytes place) _ _ _ ((u8_taken IsU8).taken bytes rest place 14 (omega arith) is) refl

host_taken : IsTaken IsHost (λ h. u8_field h.0) host_at
unfolding host_at
host_taken = record {
  taken = λ bytes rest place value is_value is. bind (within is_host u8_at bytes place) _ _ _
      ((within_taken is_host (u8_taken (λ _. ⊤))).taken bytes rest place value.0 (is_value, tt) is) refl;
}

datagram_taken : (p : Piece) (bytes rest : List ℕ) (place : ℕ) → MaySend (in_datagram p) → drop place bytes ≡ behind (in_datagram p) ++ rest
    → message_at bytes place ≡ Ok (in_datagram p, place + length (behind (in_datagram p)))
unfolding message_at
datagram_taken p bytes rest place ok is =
    let k = u8_field 14 in
    let f = u8_field p.from.0 in
    let t = u8_field p.to.0 in
    let b = body_field (in_datagram p).body in
    let at_kind = is ∙ append_assoc k (f ++ (t ++ (b ++ []))) rest in
    let at_from = rest_behind bytes place k _ at_kind ∙ append_assoc f (t ++ (b ++ [])) rest in
    let at_to = rest_behind bytes (place + length k) f _ at_from ∙ append_assoc t (b ++ []) rest in
    let at_body = rest_behind bytes (place + length k + length f) t _ at_to ∙ ap (λ (l : List ℕ). l ++ rest) (append-nil b) in
    bind (kind_at bytes place) _ _ _ (kind_taken bytes _ place at_kind)
    (bind (host_at bytes (place + length k)) _ _ _ (host_taken.taken bytes _ (place + length k) p.from ok.0 at_from)
    (bind (host_at bytes (place + length k + length f)) _ _ _ (host_taken.taken bytes _ (place + length k + length f) p.to ok.1 at_to)
    (bind (numbered bodies 14 no_body bytes (place + length k + length f + length t)) _ _ _
    (body_taken p bytes rest (place + length k + length f + length t) ok at_body)
    (ap (λ (n : ℕ). Ok (in_datagram p, n)) (four place k f t b)))))

rest_taken : (p : Piece) (bytes : List ℕ) (place : ℕ) → MaySend (in_datagram p) → drop place bytes ≡ behind (in_datagram p)
    → rest_of bytes place ≡ Ok (in_datagram p)
unfolding rest_of
rest_taken p bytes place ok is =
    let there = datagram_taken p bytes [] place ok (is ∙ sym (append-nil (behind (in_datagram p)))) in
    bind (message_at bytes place) _ _ _ there
    (rw (not_short (place + length (behind (in_datagram p))) (length bytes) (omega (arith, ap length is, length-drop place bytes))) refl)

spelled_taken : (p : Piece) (bytes : List ℕ) → bytes ≡ piece_letter p → MaySend (in_datagram p) → message_of bytes ≡ Ok (in_datagram p)
unfolding message_of spelling u8_field
spelled_taken p bytes is ok =
    let rest = rest_taken p bytes 1 ok (rest_behind bytes 0 (u8_field 2) (behind (in_datagram p)) is) in
    bind (or_packet_fault (u8_at bytes 0)) _ _ _ (ap or_packet_fault ((u8_taken IsU8).taken bytes (behind (in_datagram p)) 0 2 (omega arith) is))
    (ap or_packet_fault rest)

-- a piece that may be sent is what is read of its datagram
pub piece_read : (p : Piece) → MaySend (in_datagram p) → message_of (piece_letter p) ≡ Ok (in_datagram p)
piece_read p ok = spelled_taken p (piece_letter p) refl ok
