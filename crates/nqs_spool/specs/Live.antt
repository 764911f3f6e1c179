-- What is kept of the live extents.
use Rattle.std.specs.Prelude.{ℕ, List, vec_len}
use Rattle.nqs_spool.specs.Extents.{extents_of}
use Rattle.nqs_spool.specs.Slots.{first_fit}
use Rattle.nqs_spool.specs.declared.slot.Slot.{Slot}
use Rattle.nqs_spool.specs.declared.live.LiveExtents.{LiveExtents}
use Rattle.nqs_base.specs.declared.extent.Extent.{Extent}

-- the extents in order of place, none of which is empty
abbrev pub kept : LiveExtents → List Extent
kept live = extents_of live.tree

-- each of them, and where the free bytes before it begin
abbrev pub slots : LiveExtents → List Slot
slots live = live.tree

-- the place behind all of them
abbrev pub end_of : LiveExtents → ℕ
end_of live = live.end

-- for how many more there is memory
abbrev pub room_of : LiveExtents → ℕ
room_of live = vec_len live.rooms

-- the place that so many bytes get
abbrev pub place_for : LiveExtents → ℕ → ℕ
place_for live count = first_fit count live.end live.tree
