-- What is noted of a run: what is seen of it, and the changes that hosts keep, with why.
use Rattle.std.specs.Prelude.{ℕ, List, map, Option, None, Some}
use Rattle.std.specs.List.{filter_map}
use Rattle.nqs_types.specs.declared.ids.HostId.{HostId}
use Rattle.nqs_types.specs.declared.change.Change.{Change}
use Rattle.nqs_types.specs.declared.event.Event.{Event}
use Rattle.nqs_types.specs.declared.world.Seen.{Seen}

-- why a host makes a change: an event that it takes, a start, or its boot
pub data Why : Type 0 where
  ByEvent : Event → Why
  ByStart : Why
  ByBoot : Why

-- something seen, or a change that a host kept
pub data Note : Type 0 where
  Saw : Seen → Note
  Kept : HostId → Why → Change (List ℕ) → Note

-- things seen, each as a note of its own
abbrev pub saws : List Seen → List Note
saws xs = map Saw xs

-- the thing seen, if the note is of one
abbrev pub sight : Note → Option Seen
sight (Saw x) = Some x
sight (Kept h why c) = None

-- the things seen, in order
abbrev pub sights : List Note → List Seen
sights ns = filter_map sight ns
