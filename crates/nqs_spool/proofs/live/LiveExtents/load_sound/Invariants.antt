use Rattle.std.proofs.Common.{◌≡◌, ◌≤◌, List, ◌++◌, length}
use Rattle.std.specs.List.{AllByRecursion}
use Rattle.nqs_base.specs.declared.extent.Extent.{Extent}
use Rattle.nqs_spool.specs.Extents.{IsWithin, Covers}
use Rattle.nqs_spool.specs.Live.{kept, end_of}
use Rattle.nqs_spool.proofs.live.LiveExtents.load_sound.Given as goal

-- those before the rest are sound, and are in
abbrev pub invariant-extents : goal.invariant-extents
invariant-extents l = (front : List Extent) × (l.live ≡ front ++ l.rest) × AllByRecursion (IsWithin l.size) front × Covers (kept l.loaded) front
    × (end_of l.loaded ≤ l.size)

abbrev pub decreases-extents : goal.decreases-extents
decreases-extents l = length l.rest
