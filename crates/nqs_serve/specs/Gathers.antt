-- What an arrival is to a daemon, which gathers messages that come in pieces.
use Rattle.std.specs.Prelude.{◌≡◌, ℕ, ◌&&◌, ◌==◌, Bool, true, false, IsTrue, if◌then◌else◌, List, [], ◌∷◌, Ok, Err}
use Rattle.std.specs.declared.option.Option.{Option}
use Rattle.std.specs.declared.option.Option.TheVariants.{None, Some}
use Rattle.std.specs.declared.result.Result.{Result}
use Rattle.nqs_types.specs.declared.message.Message.{Message}
use Rattle.nqs_types.specs.declared.message.Body.{Body}
use Rattle.nqs_types.specs.declared.message.Body.TheVariants as body
use Rattle.nqs_types.specs.declared.event.Event.{Event}
use Rattle.nqs_types.specs.declared.event.Event.TheVariants.{Tick}
use Rattle.nqs_rules.specs.Tests.{same_host}
use Rattle.nqs_outside.specs.Asked.{Arrival, came, quiet}
use Rattle.nqs_pieces.specs.declared.gather.Gathered.{Gathered}
use Rattle.nqs_pieces.specs.declared.piece.Piece.{Piece}
use Rattle.nqs_pieces.specs.declared.piece.MessageKey.{MessageKey}
use Rattle.nqs_pieces.specs.Feeds.{is_awaited}
use Rattle.nqs_pieces.specs.Gathering.{fed, key_of}
use Rattle.nqs_records.specs.Changes.{AreBytes}
use Rattle.nqs_packets.specs.Letters.{fits_datagram, has_short_words, head_of, letters_of, number_in}
use Rattle.nqs_packets.specs.Reading.{message_of}
use Rattle.nqs_packets.specs.Spelling.{kind_of, spelling}
use Rattle.nqs_packets.specs.Values.{MaySend}
use Rattle.nqs_packets.specs.declared.fault.PacketFault.{PacketFault}
use Rattle.nqs_serve.specs.Events.{Here, is_for, is_whole, event_said}
use Rattle.nqs_serve.specs.Sorted.{sorted as how_sorted, taken_of}
use Rattle.nqs_serve.specs.declared.gathering.Came.{Came}
use Rattle.nqs_serve.specs.declared.gathering.Came.TheVariants as came_to
use Rattle.nqs_serve.specs.declared.sort.Sorted.{Sorted}
use Rattle.nqs_serve.specs.declared.sort.Sorted.TheVariants as sorted

-- The event that an arrival is, if it is one, and the messages of which pieces have come then.
pub record Heard : Type 0 where
  pub event : Option Event
  pub gathered : List Gathered

-- the same, made of its parts
abbrev pub heard_so : Option Event → List Gathered → Heard
heard_so e g = record { event = e; gathered = g }

-- the piece that a message is, if it is one
abbrev pub piece_by : Message → Body → Option Piece
piece_by m (body.Piece kind port number index count bytes) =
    Some (record { from = m.from; to = m.to; kind = kind; port = port; number = number; index = index; count = count; bytes = bytes })
piece_by m _ = None

-- the same of its body
abbrev pub piece_in : Message → Option Piece
piece_in m = piece_by m m.body

-- a message has the kind, the sender and the number of a key; its port is no matter
abbrev pub is_keyed : MessageKey → Message → Bool
is_keyed key m = kind_of m.body == key.kind && same_host m.from key.from && number_in m.body == key.number

-- the event of what pieces made, where it is the message that they say
abbrev pub event_keyed : Here → MessageKey → Result Message PacketFault → Option Event
event_keyed here key (Ok m) = if is_keyed key m then event_said here (Ok m) else None
event_keyed here key (Err fault) = None

-- the same of its bytes, which may be too many
abbrev pub event_made : Here → MessageKey → List ℕ → Option Event
event_made here key bytes = if is_whole bytes then event_keyed here key (message_of bytes) else None

-- the event of the message that a piece made whole, if it made one
abbrev pub event_fed : Here → MessageKey → Option (List ℕ) → Option Event
event_fed here key None = None
event_fed here key (Some bytes) = event_made here key bytes

-- by a piece that is for this host, and comes from a host of the site
abbrev pub heard_fed : Here → List Gathered → Piece → Heard
heard_fed here g piece = heard_so (event_fed here (key_of piece) (fed piece g).whole) (fed piece g).after

-- by a message, and the piece that it is, if it is one
abbrev pub heard_by : Here → List Gathered → Message → Option Piece → Heard
heard_by here g m None = heard_so (event_said here (Ok m)) g
heard_by here g m (Some piece) = if is_for here m then heard_fed here g piece else heard_so None g

-- by what was read
abbrev pub heard_said : Here → List Gathered → Result Message PacketFault → Heard
heard_said here g (Ok m) = heard_by here g m (piece_in m)
heard_said here g (Err fault) = heard_so None g

-- An arrival that is longer than a datagram is passed over. A piece is gathered. All else that is
-- for this host is what it says. Where nothing came, what was gathered is forgotten.
unfoldable pub heard : Here → List Gathered → Arrival → Heard
heard here g (came bytes) = if fits_datagram bytes then heard_said here g (message_of bytes) else heard_so None g
heard here g quiet = heard_so (Some (Tick 0)) []

-- of what came

-- by how it is sorted
abbrev pub came_as : Sorted → Came
came_as (sorted.Event e) = came_to.Event e
came_as (sorted.Ignored cause) = came_to.Ignored cause

-- its event, if it is one
abbrev pub taken_by : Came → Option Event
taken_by (came_to.Event e) = Some e
taken_by (came_to.Ignored cause) = None
taken_by came_to.Piece = None

-- an event has P
abbrev pub IfTaken : Came → (Event → Type 0) → Type 0
IfTaken (came_to.Event e) P = P e
IfTaken (came_to.Ignored cause) P = Unit {0}
IfTaken came_to.Piece P = Unit {0}

-- what is heard is what is sorted

-- A datagram that is no piece is heard as it is sorted, and leaves what was gathered.
abbrev pub HeardAsSorted : Type 0
HeardAsSorted = (here : Here) (g : List Gathered) (bytes : List ℕ) → fits_datagram bytes ≡ true
    → ((m : Message) → message_of bytes ≡ Ok m → piece_in m ≡ None) → heard here g (came bytes) ≡ heard_so (taken_of (how_sorted here bytes)) g

-- So are bytes that pieces made, where they are the message that these say.
abbrev pub MadeAsSorted : Type 0
MadeAsSorted = (here : Here) (key : MessageKey) (bytes : List ℕ) (m : Message) → message_of bytes ≡ Ok m → is_keyed key m ≡ true
    → event_made here key bytes ≡ taken_of (how_sorted here bytes)

-- what is said is heard

-- datagrams, in order, bring no event before the last, and with it just this one, if it is one
abbrev pub BringAtLast : Here → List Gathered → List (List ℕ) → Option Event → Type 0
BringAtLast here g [] e = ⊥
BringAtLast here g (letter ∷ []) e = (heard here g (came letter)).event ≡ e
BringAtLast here g (letter ∷ next ∷ more) e =
    ((heard here g (came letter)).event ≡ None) × BringAtLast here (heard here g (came letter)).gathered (next ∷ more) e

-- What one host says to another is heard, whole or in pieces. The datagrams of a message, in order,
-- bring just the event that it is, with the last, where nothing of its key waits. It is no piece
-- itself, it is for this host and comes from a host of the site, and its bytes are bytes.
abbrev pub HeardFromTheirLetters : Type 0
HeardFromTheirLetters = (here : Here) (g : List Gathered) (m : Message) → MaySend m → IsTrue (has_short_words m.body) → AreBytes (spelling m)
    → piece_in m ≡ None → is_for here m ≡ true → is_awaited (key_of (head_of m)) g ≡ false
    → BringAtLast here g (letters_of m) (event_said here (Ok m))
