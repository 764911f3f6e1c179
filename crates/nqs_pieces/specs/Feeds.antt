-- Lists of feeds, and the law of gathering over them.
use Rattle.std.specs.Prelude.{◌≡◌, ℕ, ◌<◌, ◌≤◌, Bool, true, false, ◌&&◌, ◌==◌, if◌then◌else◌, ◌⊎◌, List, [], ◌∷◌, ◌++◌, length, Some, None}
use Rattle.std.specs.List.{list_all, list_any, range_with_len}
use Rattle.nqs_pieces.specs.declared.piece.Piece.{Piece}
use Rattle.nqs_pieces.specs.declared.piece.MessageKey.{MessageKey}
use Rattle.nqs_pieces.specs.declared.gather.Gathered.{Gathered}
use Rattle.nqs_pieces.specs.Pieces.{piece_count, piece_of}
use Rattle.nqs_pieces.specs.Gathering.{key_of, same_key, fed}

-- the messages after feeds, one after the other
unfoldable pub after_feeds : List Piece → List Gathered → List Gathered
after_feeds [] messages = messages
after_feeds (feed ∷ feeds) messages = after_feeds feeds (fed feed messages).after

-- pieces of a key have come, and others lack
abbrev pub is_awaited : MessageKey → List Gathered → Bool
is_awaited key messages = list_any (λ message. same_key message.key key) messages

-- a key is one of these
abbrev pub is_among : MessageKey → List MessageKey → Bool
is_among key keys = list_any (λ other. same_key other key) keys

-- a feed is one of a message's pieces
abbrev pub IsPieceOf : List ℕ → Piece → Piece → Type 0
IsPieceOf message head feed = (index : ℕ) × (index < piece_count message) × (feed ≡ piece_of message head index)

-- feeds are pieces of one message, in any order and with repeats, and between them pieces of others
abbrev pub AreFeeds : List ℕ → Piece → List MessageKey → List Piece → Type 0
AreFeeds message head others [] = Unit {0}
AreFeeds message head others (feed ∷ feeds) =
    (IsPieceOf message head feed ⊎ (is_among (key_of feed) others ≡ true)) × AreFeeds message head others feeds

-- an index of a key has come
abbrev pub has_come : MessageKey → List Piece → ℕ → Bool
has_come key feeds index = list_any (λ feed. same_key (key_of feed) key && feed.index == index) feeds

-- every index of a message has come
abbrev pub all_came : List ℕ → Piece → List Piece → Bool
all_came message head feeds = list_all (has_come (key_of head) feeds) (range_with_len 0 (piece_count message))

-- The law of gathering. From messages without this one's key come its pieces, in any order and with
-- repeats, and between them pieces of fewer than eight other keys. As long as an index lacks, a
-- piece of the message makes nothing whole; the first with which every index has come makes it.
abbrev pub MakesTheMessage : List ℕ → Piece → Type 0
MakesTheMessage message head = (others : List MessageKey) (messages : List Gathered) (feeds : List Piece) (piece : Piece)
    → is_awaited (key_of head) messages ≡ false
    → is_among (key_of head) others ≡ false
    → length others < 8
    → AreFeeds message head others feeds
    → all_came message head feeds ≡ false
    → IsPieceOf message head piece
    → (fed piece (after_feeds feeds messages)).whole ≡ (if all_came message head (feeds ++ piece ∷ []) then Some message else None)

-- A message that was made whole is awaited no more.
abbrev pub ForgetsTheWhole : Piece → List Gathered → List ℕ → Type 0
ForgetsTheWhole piece messages message =
    (fed piece messages).whole ≡ Some message → is_awaited (key_of piece) (fed piece messages).after ≡ false

-- there are eight messages at most, if there were
abbrev pub HoldsEight : Piece → List Gathered → Type 0
HoldsEight piece messages = length messages ≤ 8 → length (fed piece messages).after ≤ 8
