-- How the disks of a host go on, and what a stop leaves of them.
use Rattle.std.specs.Prelude.{◌≡◌, ◌⊎◌, Bool, List, [], ◌∷◌, Result, MatchResult}
use Rattle.nqs_base.specs.declared.tear.Tear.{Tear}
use Rattle.nqs_types.specs.declared.world.Which.{Which}
use Rattle.nqs_outside.specs.History.{Call, History, extended}
use Rattle.nqs_disk.specs.MemDisk as mem
use Rattle.nqs_disk.specs.declared.lack.Lack.{Lack}
use Rattle.nqs_rules.specs.World.{Host, Ran, seen_of, World as Network, all_starts}
use Rattle.nqs_store.specs.Disks.{histories_of}
use Rattle.nqs_node.specs.Nodes.{history_of}
use Rattle.nqs_net.specs.Lists.{GrowsByFront}
use Rattle.nqs_net.specs.Turns.{IsTorn, IsAt, Turns, Starts}
use Rattle.nqs_net.specs.Worlds.{IsSlot}
use Rattle.nqs_net.specs.declared.slot.Slot.{Slot}
use Rattle.nqs_net.specs.declared.slot.Slot.TheVariants.{Up, Down}
use Rattle.nqs_net.specs.declared.turn.Turn.{Turn}

-- the list of calls that each disk had stands in front of the one that it has now
abbrev pub GoOn : (old now : Which → History) → Type 0
GoOn old now = (which : Which) → (more : List Call) × (now which ≡ extended (old which) more)

-- what the disks of a host did
abbrev pub disks_in : Slot → Which → History
disks_in (Up up) = history_of up.node.value
disks_in (Down down) = histories_of mem.history_of down.disks.value

-- The disks of a host went on. Where it stopped, they went on to some last calls, and are now what
-- the tear left of these.
abbrev pub Follows : Tear → (Which → History) → Slot → Type 0
Follows tear old (Up up) = GoOn old (history_of up.node.value)
Follows tear old (Down down) =
    GoOn old (histories_of mem.history_of down.disks.value) ⊎ ((last : Which → History) × GoOn old last × IsTorn tear last down.disks.value)

-- each slot follows the one that stood at its place, with the tear of this
abbrev pub FollowEach : List Tear → (old now : List Slot) → Type 0
FollowEach [] [] [] = Unit {0}
FollowEach (tear ∷ tears) (slot ∷ slots) (next ∷ nexts) = Follows tear (disks_in slot) next × FollowEach tears slots nexts
FollowEach tears slots nexts = ⊥

-- a slot that stands for a host, and whose disks follow these
pub record StandsAfter (tear : Tear) (old : Which → History) (slot : Slot) (host : Host) : Type 0 where
  pub stands : IsSlot slot host
  pub follows : Follows tear old slot

-- it is the turn of a host that this slot stands for, and whose disks follow these
abbrev pub IsTurnAt : Turn → (old : Which → History) → Slot → Network → Type 0
IsTurnAt turn old slot w = IsAt turn.me (StandsAfter turn.tear old slot) turn.tear turn.packets.now.items w

-- what a turn made of a network, by the slot at its place after it
abbrev pub IsTurned : (before after : Turn) → (old : Which → History) → Network → Ran → Slot → Type 0
IsTurned before after old w ran slot = Turns before.me (StandsAfter before.tear old slot) before.tear after.packets.now.items before.seen.now.items
    after.seen.now.items w ran

-- in a turn a front of what there is to see of this was seen
abbrev pub IsFrontSeen : (before after : Turn) → Ran → Type 0
IsFrontSeen before after ran = GrowsByFront before.seen.now.items after.seen.now.items (seen_of ran)

-- What a call answers that does something at a place. At Ok it was done, and the disks there follow
-- those; at an Err a front of what there is to see of it was seen.
abbrev pub IsDone : (before after : Turn) → (old : Which → History) → Network → Ran → Result Slot Lack → Type 0
IsDone before after old w ran result = MatchResult result (IsTurned before after old w ran) (λ _. IsFrontSeen before after ran)

-- the same of a step of a host, of which is answered too whether the host is to halt
abbrev pub IsStepDone : (before after : Turn) → (old : Which → History) → Network → Ran → Result (Bool × Slot) Lack → Type 0
IsStepDone before after old w ran result = MatchResult result (λ r. IsTurned before after old w ran r.1) (λ _. IsFrontSeen before after ran)

-- the same of the next start of a host
abbrev pub IsStarted : (before after : Turn) → (old : Which → History) → Network → Result (Bool × Slot) Lack → Type 0
IsStarted before after old w result = MatchResult result
    (λ r. Starts before.me r.0 (StandsAfter before.tear old r.1) before.tear after.packets.now.items before.seen.now.items after.seen.now.items w)
    (λ _. IsFrontSeen before after (all_starts before.me w))
