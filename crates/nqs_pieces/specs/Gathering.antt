-- Gathering: what pieces that come in any order make of what has come.
use Rattle.std.specs.Prelude.{◌≡◌, ℕ, zero, suc, ◌-◌, Bool, not, ◌&&◌, ◌==◌, if◌then◌else◌, List, [], ◌∷◌, ◌++◌, length, drop, filter, replicate, is_some}
use Rattle.std.specs.Prelude.{Option, Some, None, Result, Ok, Err}
use Rattle.std.specs.List.{flat_map, list_all}
use Rattle.nqs_base.specs.declared.memory.Memory.{Memory}
use Rattle.nqs_pieces.specs.declared.piece.Piece.{Piece}
use Rattle.nqs_pieces.specs.declared.piece.MessageKey.{MessageKey}
use Rattle.nqs_pieces.specs.declared.gather.Gathered.{Gathered}
use Rattle.nqs_pieces.specs.declared.gather.Fed.{Fed}
use Rattle.nqs_pieces.specs.declared.gather.Fed.TheVariants.{Whole, NotYet}

-- the key of a piece: its sender, kind, port and number
abbrev pub key_of : Piece → MessageKey
key_of piece = record { from = piece.from; kind = piece.kind; port = piece.port; number = piece.number }

-- one key
abbrev pub same_key : MessageKey → MessageKey → Bool
same_key a b = a.from.0 == b.from.0 && a.kind == b.kind && a.port == b.port && a.number == b.number

-- bytes in a place: those that are there stay
abbrev pub first_come : List ℕ → Option (List ℕ) → Option (List ℕ)
first_come bytes None = Some bytes
first_come bytes (Some there) = Some there

-- bytes that come at an index
unfoldable pub with_bytes : ℕ → List ℕ → List (Option (List ℕ)) → List (Option (List ℕ))
with_bytes index bytes [] = []
with_bytes zero bytes (slot ∷ slots) = first_come bytes slot ∷ slots
with_bytes (suc index) bytes (slot ∷ slots) = slot ∷ with_bytes index bytes slots

-- each index has come
abbrev pub is_whole : List (Option (List ℕ)) → Bool
is_whole slots = list_all is_some slots

-- the bytes that a place has
abbrev pub bytes_at : Option (List ℕ) → List ℕ
bytes_at None = []
bytes_at (Some bytes) = bytes

-- the message: the bytes in order of index
abbrev pub message_of : List (Option (List ℕ)) → List ℕ
message_of slots = flat_map bytes_at slots

-- nothing yet of the message that a piece is of
abbrev pub begun : Piece → Gathered
begun piece = record { key = key_of piece; slots = replicate piece.count None }

-- what has come of a message that was cut in as many pieces as this one says; else it begins anew
abbrev pub counted : Piece → Gathered → Gathered
counted piece message = if length message.slots == piece.count then message else begun piece

-- a message of the piece's key, with the piece
abbrev pub with_piece : Piece → Gathered → Gathered
with_piece piece message = record { key = key_of piece; slots = with_bytes piece.index piece.bytes (counted piece message).slots }

-- a message has the piece's key
abbrev pub is_of : Piece → Gathered → Bool
is_of piece message = same_key message.key (key_of piece)

-- the message of the piece's key, with the piece
unfoldable pub grown : Piece → List Gathered → Gathered
grown piece [] = with_piece piece (begun piece)
grown piece (message ∷ messages) = if is_of piece message then with_piece piece message else grown piece messages

-- all messages, with the piece at the place of its key: a new one stands last
unfoldable pub placed : Piece → List Gathered → List Gathered
placed piece [] = with_piece piece (begun piece) ∷ []
placed piece (message ∷ messages) = if is_of piece message then with_piece piece message ∷ messages else message ∷ placed piece messages

-- the messages of other keys
unfoldable pub forgotten : Piece → List Gathered → List Gathered
forgotten piece messages = filter (λ message. not (is_of piece message)) messages

-- at most eight messages: a ninth drops the first
abbrev pub last_eight : List Gathered → List Gathered
last_eight messages = drop (length messages - 8) messages

-- What a piece makes of a gathering: the messages after it, and the one that it made whole.
pub record Step : Type 0 where
  pub after : List Gathered
  pub whole : Option (List ℕ)

-- A piece is fed: a message that it makes whole is given and its key forgotten.
unfoldable pub fed : Piece → List Gathered → Step
fed piece messages =
    if is_whole (grown piece messages).slots
    then record { after = forgotten piece messages; whole = Some (message_of (grown piece messages).slots) }
    else record { after = last_eight (placed piece messages); whole = None }

-- What a feed answers, of the messages and the buffer before it and after it. After want of memory
-- both are as they were.
unfoldable pub Answers : Piece → List Gathered → List Gathered → List ℕ → List ℕ → Result Fed Memory → Type 0
Answers piece messages after buffer written (Ok Whole) =
    (message : List ℕ) × (fed piece messages ≡ record { after = after; whole = Some message }) × (written ≡ buffer ++ message)
Answers piece messages after buffer written (Ok NotYet) =
    (fed piece messages ≡ record { after = after; whole = None }) × (written ≡ buffer)
Answers piece messages after buffer written (Err memory) = (after ≡ messages) × (written ≡ buffer)
