use Rattle.std.proofs.Common.{◌≡◌, map}
use Rattle.std.specs.List.{range_with_len}
use Rattle.nqs_pieces.specs.Pieces.{piece_count, piece_of}
use Rattle.nqs_pieces.proofs.cutting.all_pieces.Given as goal

abbrev pub invariant-loop-index : goal.invariant-loop-index
invariant-loop-index l = (l.pieces.items ≡ map (piece_of l.message l.head) (range_with_len 0 l.index)) × (l.count ≡ piece_count l.message)
