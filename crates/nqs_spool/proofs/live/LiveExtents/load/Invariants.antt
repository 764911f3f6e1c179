use Rattle.std.proofs.Common.{◌≡◌, ◌≤◌, ℕ, List, ◌++◌, length}
use Rattle.std.specs.List.{AllByRecursion}
use Rattle.nqs_base.specs.declared.extent.Extent.{Extent}
use Rattle.nqs_spool.specs.Extents.{past, Covers}
use Rattle.nqs_spool.specs.Live.{kept, end_of}
use Rattle.nqs_spool.proofs.live.LiveExtents.load.Given as goal

-- those before the rest are in
abbrev pub invariant-extents : goal.invariant-extents
invariant-extents l = (front : List Extent) × (l.live ≡ front ++ l.rest) × Covers (kept l.loaded) front
    × ((bound : ℕ) → AllByRecursion (λ extent. past extent ≤ bound) front → end_of l.loaded ≤ bound)

abbrev pub decreases-extents : goal.decreases-extents
decreases-extents l = length l.rest
