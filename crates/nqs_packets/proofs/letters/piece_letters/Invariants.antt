use Rattle.std.proofs.Common.{◌≡◌, take, map}
use Rattle.nqs_packets.specs.Letters.{head_of, piece_letter}
use Rattle.nqs_pieces.specs.Pieces.{pieces_of}
use Rattle.nqs_packets.proofs.letters.piece_letters.Given as goal

abbrev pub invariant-loop-place : goal.invariant-loop-place
invariant-loop-place l = record {
  pieces : l.pieces.items ≡ pieces_of l.bytes (head_of l.message);
  spelled : l.letters.items ≡ map piece_letter (take l.place l.pieces.items);
}
