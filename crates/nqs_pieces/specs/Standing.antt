-- Messages that stand at places, as the private calls of a gathering speak of them.
use Rattle.std.specs.Prelude.{◌≡◌, ℕ, ◌<◌, true, false, List, length, take, slice_index_or}
use Rattle.nqs_pieces.specs.declared.piece.MessageKey.{MessageKey}
use Rattle.nqs_pieces.specs.declared.gather.Gathered.{Gathered}
use Rattle.nqs_pieces.specs.Gathering.{same_key, with_bytes}
use Rattle.nqs_pieces.specs.Feeds.{is_awaited}

-- bytes that come to a message
abbrev pub joined : ℕ → List ℕ → Gathered → Gathered
joined index bytes message = record message { slots = with_bytes index bytes message.slots }

-- The first message of a key stands at a place.
pub record StandsAt (key : MessageKey) (messages : List Gathered) (place : ℕ) : Type 0 where
  pub inside : place < length messages
  pub before : is_awaited key (take place messages) ≡ false
  pub there : (d : Gathered) → same_key (slice_index_or messages place d).key key ≡ true
