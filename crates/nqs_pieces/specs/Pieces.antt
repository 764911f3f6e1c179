-- Messages in pieces: how they are cut, and when a piece is in form.
use Rattle.std.specs.Prelude.{◌≡◌, ℕ, ◌+◌, ◌*◌, ◌/◌, ◌<◌, ◌≤◌, List, map, length, take, drop}
use Rattle.std.specs.List.{range_with_len}
use Rattle.nqs_pieces.specs.declared.piece.Piece.{Piece}

-- how many pieces a message has: as few as hold it, 48,000 bytes each
unfoldable pub piece_count : List ℕ → ℕ
piece_count message = (length message + 47999) / 48000

-- the bytes of an index
unfoldable pub bytes_of : List ℕ → ℕ → List ℕ
bytes_of message index = take 48000 (drop (48000 * index) message)

-- the piece of an index: the first five fields of the head, and the bytes of the index
abbrev pub piece_of : List ℕ → Piece → ℕ → Piece
piece_of message head index = record head { index = index; count = piece_count message; bytes = bytes_of message index }

-- a message's pieces in order of index
abbrev pub pieces_of : List ℕ → Piece → List Piece
pieces_of message head = map (piece_of message head) (range_with_len 0 (piece_count message))

-- A piece in form: one of 2 to 22, of 48,000 bytes; the last has 1 to 48,000.
pub record IsPiece (piece : Piece) : Type 0 where
  pub several : 2 ≤ piece.count
  pub few : piece.count ≤ 22
  pub inside : piece.index < piece.count
  pub full : piece.index + 1 < piece.count → length piece.bytes ≡ 48000
  pub some : 0 < length piece.bytes
  pub short : length piece.bytes ≤ 48000
