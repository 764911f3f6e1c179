-- Pieces that are gathered, and what a message is that they made.
use Rattle.std.proofs.Common.{◌≡◌, ℕ, ◌<◌, ◌≤◌, ◌&&◌, Bool, true, false, List, [], ◌++◌, length, Option, None, Some, Result, Ok, Err, refl, sym, ap, subst, ◌∙◌}
use Rattle.std.proofs.Common.{arith}
use Rattle.std.specs.Prelude.{if◌then◌else◌}
use Rattle.std.proofs.lemmas.Bool.{leb-true}
use Rattle.std.proofs.lemmas.Bool.Decides.{nat_tests}
use Rattle.std.proofs.lemmas.Option.{same_Some, none-some}
use Rattle.nqs_types.specs.declared.message.Body.{Body}
use Rattle.nqs_types.specs.declared.message.Body.TheVariants as body
use Rattle.nqs_types.specs.declared.message.Message.{Message}
use Rattle.nqs_types.specs.declared.event.Event.{Event}
use Rattle.nqs_rules.specs.Sane.{is_of_site}
use Rattle.nqs_rules.specs.Tests.{same_host}
use Rattle.nqs_outside.specs.Asked.{came}
use Rattle.nqs_pieces.specs.declared.gather.Gathered.{Gathered}
use Rattle.nqs_pieces.specs.declared.piece.Piece.{Piece}
use Rattle.nqs_pieces.specs.declared.piece.MessageKey.{MessageKey}
use Rattle.nqs_pieces.specs.declared.gather.Fed.{Fed}
use Rattle.nqs_pieces.specs.declared.gather.Fed.TheVariants.{Whole, NotYet}
use Rattle.nqs_pieces.specs.Gathering.{Answers, Step, fed}
use Rattle.nqs_packets.specs.Letters.{fits_datagram}
use Rattle.nqs_packets.specs.Messages.{in_datagram}
use Rattle.nqs_packets.specs.Reading.{message_of}
use Rattle.nqs_packets.specs.declared.fault.PacketFault.{PacketFault}
use Rattle.nqs_serve.specs.Events.{Here, is_for, is_whole, event_said}
use Rattle.nqs_serve.specs.Gathers.{heard_so, piece_by, piece_in, is_keyed, event_keyed, event_made, event_fed, heard_fed, heard_by, heard_said, heard}
use Rattle.nqs_serve.specs.Gathers.{came_as, taken_by, IfTaken, HeardAsSorted, MadeAsSorted}
use Rattle.nqs_serve.specs.Sorted.{sorted as how_sorted, message_sorted, taken_of, HasFault, IfEvent}
use Rattle.nqs_serve.specs.declared.sort.IgnoreCause.{IgnoreCause}
use Rattle.nqs_serve.specs.declared.sort.IgnoreCause.TheVariants as cause
use Rattle.nqs_serve.specs.declared.sort.Sorted.{Sorted}
use Rattle.nqs_serve.specs.declared.sort.Sorted.TheVariants as sorted
use Rattle.nqs_serve.proofs.Sorting.{message_taken, events_are_taken}

-- how it came, by how it is sorted

pub came_taken : (s : Sorted) → taken_by (came_as s) ≡ taken_of s
came_taken (sorted.Event e) = refl
came_taken (sorted.Ignored why) = refl

pub came_has : (P : Event → Type 0) (s : Sorted) → IfEvent s P → IfTaken (came_as s) P
came_has P (sorted.Event e) has = has
came_has P (sorted.Ignored why) has = tt

-- a message that was read and sorted
pub said_taken : (here : Here) (m : Message) (s : Sorted) → s ≡ message_sorted here m → taken_of s ≡ event_said here (Ok m)
said_taken here m s is = ap taken_of is ∙ message_taken here m

-- by what pieces made

pub keyed_taken : (here : Here) (key : MessageKey) (m : Message) (s : Sorted) → is_keyed key m ≡ true → s ≡ message_sorted here m
    → taken_of s ≡ event_keyed here key (Ok m)
keyed_taken here key m s keyed is = said_taken here m s is ∙ sym (ap (λ (b : Bool). if b then event_said here (Ok m) else None) keyed)

pub other_taken : (here : Here) (key : MessageKey) (m : Message) (s : Sorted) (why : IgnoreCause) → is_keyed key m ≡ false → s ≡ sorted.Ignored why
    → taken_of s ≡ event_keyed here key (Ok m)
other_taken here key m s why other is = ap taken_of is ∙ sym (ap (λ (b : Bool). if b then event_said here (Ok m) else None) other)

pub fault_taken : (s : Sorted) (fault : PacketFault) → HasFault fault s → taken_of s ≡ None
fault_taken s fault has = ap taken_of has.0

module _ (here : Here) (key : MessageKey) (bytes : List ℕ) where
  pub made_short : length bytes ≤ 1052672 → event_made here key bytes ≡ event_keyed here key (message_of bytes)
  made_short short =
      let whole : is_whole bytes ≡ true = grind (arith, nat_tests, short) in
      ap (λ (b : Bool). if b then event_keyed here key (message_of bytes) else None) whole

  pub made_long : 1052672 < length bytes → event_made here key bytes ≡ None
  made_long long =
      let whole : is_whole bytes ≡ false = grind (arith, nat_tests, long) in
      ap (λ (b : Bool). if b then event_keyed here key (message_of bytes) else None) whole

  pub made_read : (m : Message) → length bytes ≤ 1052672 → message_of bytes ≡ Ok m → event_made here key bytes ≡ event_keyed here key (Ok m)
  made_read m short read = made_short short ∙ ap (event_keyed here key) read

  pub made_unread : (fault : PacketFault) → length bytes ≤ 1052672 → message_of bytes ≡ Err fault → event_made here key bytes ≡ None
  made_unread fault short read = made_short short ∙ ap (event_keyed here key) read

-- by a datagram

module _ (here : Here) (g : List Gathered) (bytes : List ℕ) where
  pub heard_short : length bytes ≤ 49152 → heard here g (came bytes) ≡ heard_said here g (message_of bytes)
  unfolding heard
  heard_short short =
      let fits : fits_datagram bytes ≡ true = grind (arith, nat_tests, short) in
      ap (λ (b : Bool). if b then heard_said here g (message_of bytes) else heard_so None g) fits

  pub heard_long : 49152 < length bytes → heard here g (came bytes) ≡ heard_so None g
  unfolding heard
  heard_long long =
      let fits : fits_datagram bytes ≡ false = grind (arith, nat_tests, long) in
      ap (λ (b : Bool). if b then heard_said here g (message_of bytes) else heard_so None g) fits

  pub heard_read : (m : Message) → length bytes ≤ 49152 → message_of bytes ≡ Ok m → heard here g (came bytes) ≡ heard_said here g (Ok m)
  heard_read m short read = heard_short short ∙ ap (heard_said here g) read

  pub heard_unread : (fault : PacketFault) → length bytes ≤ 49152 → message_of bytes ≡ Err fault → heard here g (came bytes) ≡ heard_so None g
  heard_unread fault short read = heard_short short ∙ ap (heard_said here g) read

-- a message that is no piece
pub heard_alone : (here : Here) (g : List Gathered) (m : Message) → piece_in m ≡ None → heard_said here g (Ok m) ≡ heard_so (event_said here (Ok m)) g
heard_alone here g m none = ap (heard_by here g m) none

-- a message that is a piece
said_by : (m : Message) (b : Body) (p : Piece) → m.body ≡ b → piece_by m b ≡ Some p → m ≡ in_datagram p
said_by m (body.Piece kind port number index count bytes) p is some =
    (λ j. record { from = m.from; to = m.to; body = is j }) ∙ ap in_datagram (same_Some _ _ some)
said_by m (body.Ready number) p is some = absurd (none-some p some)
said_by m b p is some = absurd (none-some p some)

pub piece_said : (m : Message) (p : Piece) → piece_in m ≡ Some p → m ≡ in_datagram p
piece_said m p some = said_by m m.body p refl some

-- whom a piece is for

pub piece_away : (here : Here) (p : Piece) → same_host here.me p.to ≡ false → is_for here (in_datagram p) ≡ false
piece_away here p away = ap (λ (b : Bool). b && is_of_site (length here.site) p.from && true) away

pub piece_strange : (here : Here) (p : Piece) → is_of_site (length here.site) p.from ≡ false → is_for here (in_datagram p) ≡ false
piece_strange here p strange = ap (λ (b : Bool). same_host here.me p.to && b && true) strange ∙ by (same_host here.me p.to)
  where
    by : (b : Bool) → (b && false && true) ≡ false
    by true = refl
    by false = refl

pub piece_known : (here : Here) (p : Piece) → same_host here.me p.to ≡ true → is_of_site (length here.site) p.from ≡ true
    → is_for here (in_datagram p) ≡ true
piece_known here p home known = ap (λ (b : Bool). b && is_of_site (length here.site) p.from && true) home ∙ ap (λ (b : Bool). b && true) known

-- a piece that isn't for this host, and one that is
pub heard_elsewhere : (here : Here) (g : List Gathered) (p : Piece) → is_for here (in_datagram p) ≡ false
    → heard_by here g (in_datagram p) (Some p) ≡ heard_so None g
heard_elsewhere here g p away = ap (λ (b : Bool). if b then heard_fed here g p else heard_so None g) away

pub heard_here : (here : Here) (g : List Gathered) (p : Piece) → is_for here (in_datagram p) ≡ true
    → heard_by here g (in_datagram p) (Some p) ≡ heard_fed here g p
heard_here here g p is = ap (λ (b : Bool). if b then heard_fed here g p else heard_so None g) is

-- what is ignored is no event, so that an event has anything

pub ignored_has : (P : Event → Type 0) (s : Sorted) (why : IgnoreCause) → s ≡ sorted.Ignored why → IfEvent s P
ignored_has P s why is = subst (λ x. IfEvent x P) (sym is) tt

pub fault_has : (P : Event → Type 0) (s : Sorted) (fault : PacketFault) → HasFault fault s → IfEvent s P
fault_has P s fault has = ignored_has P s (cause.Unread fault) has.0

-- what a fed piece comes to

module _ (here : Here) (key : MessageKey) (piece : Piece) (before after : List Gathered) where
  feeds_more : (buffer written : List ℕ) → Answers piece before after buffer written (Ok NotYet)
      → (None ≡ event_fed here key (fed piece before).whole) × (after ≡ (fed piece before).after)
  unfolding Answers
  feeds_more buffer written has = (sym (ap (λ (x : Step). event_fed here key x.whole) has.0), sym (ap (λ (x : Step). x.after) has.0))

  pub fed_more : (buffer written : List ℕ) (f : Fed) → f ≡ NotYet → Answers piece before after buffer written (Ok f)
      → (None ≡ event_fed here key (fed piece before).whole) × (after ≡ (fed piece before).after)
  fed_more buffer written f is has = feeds_more buffer written (subst (λ (x : Fed). Answers piece before after buffer written (Ok x)) is has)

  feeds_whole : (buffer written : List ℕ) → buffer ≡ [] → Answers piece before after buffer written (Ok Whole)
      → (event_made here key written ≡ event_fed here key (fed piece before).whole) × (after ≡ (fed piece before).after)
  unfolding Answers
  feeds_whole buffer written none has = (
    ap (event_made here key) (has.2 ∙ ap (λ (l : List ℕ). l ++ has.0) none) ∙ sym (ap (λ (x : Step). event_fed here key x.whole) has.1),
    sym (ap (λ (x : Step). x.after) has.1),
  )

  pub fed_whole : (buffer written : List ℕ) (f : Fed) → f ≡ Whole → buffer ≡ [] → Answers piece before after buffer written (Ok f)
      → (event_made here key written ≡ event_fed here key (fed piece before).whole) × (after ≡ (fed piece before).after)
  fed_whole buffer written f is none has =
      feeds_whole buffer written none (subst (λ (x : Fed). Answers piece before after buffer written (Ok x)) is has)

-- what is heard is what is sorted

taken_said : (here : Here) (bytes : List ℕ) → length bytes ≤ 1052672 → taken_of (how_sorted here bytes) ≡ event_said here (message_of bytes)
taken_said here bytes short =
    let whole : is_whole bytes ≡ true = grind (arith, nat_tests, short) in
    events_are_taken here bytes ∙ ap (λ (b : Bool). if b then event_said here (message_of bytes) else None) whole

pub heard_as_sorted : HeardAsSorted
heard_as_sorted here g bytes fits alone = by (message_of bytes) refl
  where
    short : length bytes ≤ 49152
    short = leb-true (length bytes) 49152 fits

    said : taken_of (how_sorted here bytes) ≡ event_said here (message_of bytes)
    said = taken_said here bytes (omega (arith, short))

    by : (r : Result Message PacketFault) → message_of bytes ≡ r → heard here g (came bytes) ≡ heard_so (taken_of (how_sorted here bytes)) g
    by (Ok m) read = heard_read here g bytes m short read ∙ heard_alone here g m (alone m read)
        ∙ sym (ap (λ (o : Option Event). heard_so o g) (said ∙ ap (event_said here) read))
    by (Err fault) read = heard_unread here g bytes fault short read ∙ sym (ap (λ (o : Option Event). heard_so o g) (said ∙ ap (event_said here) read))

pub made_as_sorted : MadeAsSorted
made_as_sorted here key bytes m read keyed = by (is_whole bytes) refl
  where
    by : (b : Bool) → is_whole bytes ≡ b → event_made here key bytes ≡ taken_of (how_sorted here bytes)
    by true whole =
        let short = leb-true (length bytes) 1052672 whole in
        made_read here key bytes m short read ∙ ap (λ (b : Bool). if b then event_said here (Ok m) else None) keyed
        ∙ sym (taken_said here bytes short ∙ ap (event_said here) read)
    by false long =
        ap (λ (b : Bool). if b then event_keyed here key (message_of bytes) else None) long
        ∙ sym (events_are_taken here bytes ∙ ap (λ (b : Bool). if b then event_said here (message_of bytes) else None) long)
