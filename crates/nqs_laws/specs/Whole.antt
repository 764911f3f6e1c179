-- Whole events of a network: what an event sends, and what three of them settle.
use Rattle.std.specs.Prelude.{◌≡◌, ◌⊎◌, ℕ, ◌<◌, Bool, true, length, Option, None, Some}
use Rattle.std.specs.Option.{option_map}
use Rattle.nqs_state.specs.State.{Plain}
use Rattle.nqs_rules.specs.Tests.{passes}
use Rattle.nqs_rules.specs.World.{Host, World, Act, Asks, Ends, Finishes, Fails, Writes, Leaves, Delivers, Newest, Ticks, Clock, Fuse, Crashes, Boots, Shows}
use Rattle.nqs_rules.specs.World.{no_fuses, host_of, packet_at, newest_between}
use Rattle.nqs_rules.specs.Run.{happens}
use Rattle.nqs_types.specs.declared.ids.HostId.{HostId}
use Rattle.nqs_types.specs.declared.message.Message.{Message}
use Rattle.nqs_types.specs.declared.message.Body.TheVariants.{Commit, Abort}
use Rattle.nqs_laws.specs.Handovers.{IsStateOf}
use Rattle.nqs_laws.specs.Sending.{word}

-- the world after an event
abbrev pub after : Act → World → World
after act w = (happens act w).world

-- A host is up. Where it is up after an event that it took, no fuse fell within that event.
abbrev pub is_up : HostId → World → Bool
is_up h w = passes (λ host. host.up) (host_of h w)

-- what holds of the world after an event, where the event leaves this host up
abbrev pub IfUpAfter : Act → HostId → World → (World → Type 0) → Type 0
IfUpAfter act h w holds = is_up h (after act w) ≡ true → holds (after act w)

-- a host is up, and has no fuse that may fall
pub record IsSafe (h : HostId) (w : World) : Type 0 where
  pub host : Host
  pub there : host_of h w ≡ Some host
  pub up : host.up ≡ true
  pub fuses : host.fuses ≡ no_fuses

-- the host that a message goes to
abbrev pub receiver : Message → HostId
receiver m = m.to

-- the host that an event is for: the one that it names, or the receiver of its packet
abbrev pub taker : Act → World → Option HostId
taker (Asks h user c) w = Some h
taker (Ends h id start status output error) w = Some h
taker (Finishes h) w = Some h
taker (Fails h id start) w = Some h
taker (Writes h file) w = Some h
taker (Leaves h file) w = Some h
taker (Delivers k) w = option_map receiver (packet_at k w)
taker (Newest a b) w = option_map receiver (newest_between a b w)
taker (Ticks h) w = Some h
taker (Fuse h disk calls tear) w = Some h
taker (Crashes h) w = Some h
taker (Boots h) w = Some h
taker (Clock moment) w = None
taker Shows w = None

-- the packet of this number is the message, and was sent after the earlier world
pub record IsSentBetween (earlier later : World) (number : ℕ) (m : Message) : Type 0 where
  pub fresh : length earlier.packets < number
  pub there : packet_at number later ≡ Some m

-- a message of this kind was sent between both worlds
abbrev pub WasSentBetween : World → World → Message → Type 0
WasSentBetween earlier later m = (number : ℕ) × IsSentBetween earlier later number m

-- what holds of a host in a world
abbrev pub HoldsAt : World → HostId → (Plain → Type 0) → Type 0
HoldsAt w h holds = (s : Plain) → IsStateOf w h s → holds s

-- a message of this kind was sent between both worlds, and for each that was this holds of its
-- number
pub record SendsThen (earlier later : World) (kind : Message → Type 0) (holds : ℕ → Type 0) : Type 0 where
  pub sends : (number : ℕ) × (m : Message) × IsSentBetween earlier later number m × kind m
  pub each : (number : ℕ) (m : Message) → IsSentBetween earlier later number m → kind m → holds number

-- A matter of a host with another, which three events settle: a tick, by which the host asks; the
-- arrival of what was asked, which is answered; and the arrival of the answer. Each event leaves
-- its host up, so that no fuse falls within it.
module _ (host other : HostId) (asked answered : Message → Type 0) (settled : Plain → Type 0) where
  -- the arrival of this answer settles the matter
  abbrev pub IsSettledBy : World → ℕ → Type 0
  IsSettledBy w answer = IfUpAfter (Delivers answer) host w (λ v. HoldsAt v host settled)

  -- the arrival of this question sends an answer, and each such answer settles the matter
  abbrev pub IsAnsweredTo : World → ℕ → Type 0
  IsAnsweredTo w question = IfUpAfter (Delivers question) other w (λ v. SendsThen w v answered (IsSettledBy v))

  -- a tick of the host sends a question, each such question is answered, and each such answer
  -- settles the matter
  abbrev pub IsSettledInThree : World → Type 0
  IsSettledInThree w = IfUpAfter (Ticks host) host w (λ v. SendsThen w v asked (IsAnsweredTo v))

-- a commit or an abort of this number
abbrev pub IsVerdict : HostId → HostId → ℕ → Message → Type 0
IsVerdict from to number m = (m ≡ word from to (Commit number)) ⊎ (m ≡ word from to (Abort number))
