-- A message goes out in one datagram, or in its pieces'.
use Rattle.std.proofs.Common.{◌≡◌, ℕ, ◌<◌, ◌≤◌, Bool, true, false, IsTrue, List, [], ◌∷◌, map, length, get_or, refl, sym, ap, subst, ◌∙◌, arith, Ok}
use Rattle.std.specs.List.{range_with_len}
use Rattle.std.specs.Prelude.{if◌then◌else◌}
use Rattle.std.proofs.lemmas.Bool.Decides.{nat_tests}
use Rattle.std.proofs.lemmas.List.{get_or-map, length-map}
use Rattle.std.proofs.lemmas.List.FromFn.{length-range_with_len, get_or-range_with_len}
use Rattle.nqs_types.specs.declared.message.Body.{Body}
use Rattle.nqs_types.specs.declared.message.Body.TheVariants.{Offer, Ask}
use Rattle.nqs_types.specs.declared.message.Message.{Message}
use Rattle.nqs_pieces.specs.Pieces.{piece_count, piece_of, pieces_of, IsPiece}
use Rattle.nqs_pieces.specs.declared.piece.Piece.{Piece}
use Rattle.nqs_records.specs.Values.{IsU16}
use Rattle.nqs_packets.specs.Parts.{is_piece_kind, is_piece_port}
use Rattle.nqs_packets.specs.Spelling.{kind_of, spelling}
use Rattle.nqs_packets.specs.Values.{IsNumber, IsBody, MaySend}
use Rattle.nqs_packets.specs.Messages.{in_datagram, IsOfMessage, WhatIsInFormMaySend}
use Rattle.nqs_packets.specs.Letters.{fits_datagram, port_in, number_in, head_of, piece_letter, letters_of, goes_in_pieces, MayGo, PiecesAreReadBack}
use Rattle.nqs_packets.specs.Reading.{message_of}
use Rattle.nqs_packets.proofs.PieceLaws.{in_form_may}
use Rattle.nqs_packets.proofs.PieceReads.{piece_read}

-- there are so many pieces
pieces_count : (message : List ℕ) (head : Piece) → length (pieces_of message head) ≡ piece_count message
pieces_count message head =
    let n = piece_count message in
    length-map (range_with_len 0 n) (piece_of message head) ∙ length-range_with_len 0 n

-- the one of an index
piece_there : (message : List ℕ) (head : Piece) (i : ℕ) (d : Piece) → i < piece_count message
    → get_or (pieces_of message head) i d ≡ piece_of message head i
piece_there message head i d below =
    let n = piece_count message in
    let inside : i < length (range_with_len 0 n) = omega (arith, below, length-range_with_len 0 n) in
    get_or-map (piece_of message head) (range_with_len 0 n) i 0 d inside
    ∙ ap (piece_of message head) (get_or-range_with_len 0 n i 0 below ∙ (omega arith))

-- the piece at a place
pub at_piece : (message : List ℕ) (head : Piece) (i : ℕ) (ps : List Piece) (p : Piece) → ps ≡ pieces_of message head → i < length ps → p ≡ get_or ps i p
    → (i < piece_count message) × (p ≡ piece_of message head i)
at_piece message head i ps p same less is =
    let count : length ps ≡ piece_count message = ap (λ (l : List Piece). length l) same ∙ pieces_count message head in
    let below : i < piece_count message = omega (arith, less, count) in
    (below, is ∙ ap (λ l. get_or l i p) same ∙ piece_there message head i p below)

-- what the pieces have in common is within its limits

kind_is : (b : Body) → IsTrue (goes_in_pieces b) → IsTrue (is_piece_kind (kind_of b))
kind_is (Offer number low queue carried script) goes = refl
kind_is (Ask port token user tool words script) goes = refl
kind_is b goes = absurd (let no : ⊥ = cc in no)

port_is : (b : Body) → IsTrue (goes_in_pieces b) → IsTrue (is_piece_port (kind_of b) (port_in b))
port_is (Offer number low queue carried script) goes = refl
port_is (Ask port token user tool words script) goes = refl
port_is b goes = absurd (let no : ⊥ = cc in no)

small_port : (b : Body) → IsBody b → IsU16 (port_in b)
small_port (Ask port token user tool words script) is = is.0
small_port b is = omega arith

number_is : (b : Body) → IsBody b → IsTrue (goes_in_pieces b) → IsNumber (number_in b)
number_is (Offer number low queue carried script) is goes = is.0
number_is (Ask port token user tool words script) is goes = (goes, is.1)
number_is b is goes = absurd (let no : ⊥ = cc in no)

-- a piece of a message that may go may be sent
pub piece_may : (m : Message) (i : ℕ) (p : Piece) → MayGo m → 49152 < length (spelling m) → p ≡ piece_of (spelling m) (head_of m) i
    → IsPiece (piece_of (spelling m) (head_of m) i) → WhatIsInFormMaySend → MaySend (in_datagram p)
piece_may m i p go long is form law =
    let goes = go.whole long in
    let of : IsOfMessage (piece_of (spelling m) (head_of m) i) = record {
      from = go.may.0;
      to = go.may.1;
      kind = kind_is m.body goes;
      port = port_is m.body goes;
      number = number_is m.body go.may.2 goes;
    } in
    subst (λ q. MaySend (in_datagram q)) (sym is) (law (piece_of (spelling m) (head_of m) i) (small_port m.body go.may.2) of form)

-- and is what is read of its datagram
pub pieces_read_back : ((bytes : List ℕ) (head : Piece) (i : ℕ) → 48000 < length bytes → length bytes ≤ 1052672 → i < piece_count bytes
    → IsPiece (piece_of bytes head i)) → PiecesAreReadBack
pieces_read_back in_form m go long k d less =
    let bytes = spelling m in
    let head = head_of m in
    let below : k < piece_count bytes = omega (arith, less, pieces_count bytes head) in
    let form = in_form bytes head k (omega (arith, long)) go.short below in
    let may = piece_may m k (piece_of bytes head k) go long refl form in_form_may in
    subst (λ (p : Piece). message_of (piece_letter p) ≡ Ok (in_datagram p)) (sym (piece_there bytes head k d below))
    (piece_read (piece_of bytes head k) may)

-- the datagrams by the bytes of the message

pub long_letters : (m : Message) (bytes : List ℕ) (letters : List (List ℕ)) → bytes ≡ spelling m → 49152 < length bytes
    → letters ≡ map piece_letter (pieces_of bytes (head_of m)) → letters ≡ letters_of m
unfolding letters_of
long_letters m bytes letters spelled long is =
    let more : fits_datagram bytes ≡ false = grind (arith, nat_tests, long) in
    is ∙ sym (ap (λ (b : Bool). if b then bytes ∷ [] else map piece_letter (pieces_of bytes (head_of m))) more)
    ∙ ap (λ (l : List ℕ). if fits_datagram l then l ∷ [] else map piece_letter (pieces_of l (head_of m))) spelled

pub one_letter : (m : Message) (bytes : List ℕ) (letters : List (List ℕ)) → bytes ≡ spelling m → length bytes ≤ 49152 → letters ≡ bytes ∷ []
    → letters ≡ letters_of m
unfolding letters_of
one_letter m bytes letters spelled short is =
    let fits : fits_datagram bytes ≡ true = grind (arith, nat_tests, short) in
    is ∙ sym (ap (λ (b : Bool). if b then bytes ∷ [] else map piece_letter (pieces_of bytes (head_of m))) fits)
    ∙ ap (λ (l : List ℕ). if fits_datagram l then l ∷ [] else map piece_letter (pieces_of l (head_of m))) spelled
