-- The pieces of a message are in form.
use Rattle.std.proofs.Common.{◌≡◌, ℕ, ◌+◌, ◌-◌, ◌*◌, ◌/◌, ◌<◌, ◌≤◌, List, length, take, drop, min, refl, ap, ◌∙◌, arith}
use Rattle.std.proofs.lemmas.List.{length-take, length-drop}
use Rattle.nqs_pieces.specs.declared.piece.Piece.{Piece}
use Rattle.nqs_pieces.specs.Pieces.{piece_count, bytes_of, piece_of, IsPiece}

length-bytes_of : (message : List ℕ) (index : ℕ) → length (bytes_of message index) ≡ min 48000 (length message - 48000 * index)
unfolding bytes_of
length-bytes_of message index =
    length-take 48000 (drop (48000 * index) message) ∙ ap (λ n. min 48000 n) (length-drop (48000 * index) message)

-- how many pieces there are
pub count_is : (message : List ℕ) → piece_count message ≡ (length message + 47999) / 48000
unfolding piece_count
count_is message = refl

pub cut_form : (message : List ℕ) (head : Piece) (index : ℕ) → 48000 < length message → length message ≤ 1052672 → index < piece_count message
    → IsPiece (piece_of message head index)
cut_form message head index long short inside =
    let count = count_is message in
    let bytes = length-bytes_of message index in
    record {
      several = omega arith;
      few = omega arith;
      inside = inside;
      full = λ more. omega arith;
      some = omega arith;
      short = omega arith;
    }

-- each index begins within the message
pub begins_within : (message : List ℕ) (index : ℕ) → index < piece_count message → 48000 * index ≤ length message
begins_within message index inside = omega (arith, count_is message)

-- the bytes of an index, as they are cut
pub bytes_are : (message : List ℕ) (index : ℕ) → take 48000 (drop (48000 * index) message) ≡ bytes_of message index
unfolding bytes_of
bytes_are message index = refl
