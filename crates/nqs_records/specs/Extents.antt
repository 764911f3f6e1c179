-- A change with other extents.
use Rattle.std.specs.Prelude.{List, [], ◌∷◌, drop}
use Rattle.nqs_base.specs.declared.extent.Extent.{Extent}
use Rattle.nqs_types.specs.declared.change.OutPart.{OutPart}
use Rattle.nqs_types.specs.declared.change.Change.{Change}
use Rattle.nqs_types.specs.declared.change.Change.TheVariants.{Submitted, Ended, OldPromised, Promised, StageGot}

-- the first of the extents, and this one where there is none
abbrev pub first_or : Extent → List Extent → Extent
first_or extent [] = extent
first_or extent (x ∷ xs) = x

-- each part with the extent of its place, as far as there are any
abbrev pub parts_with : List (OutPart Extent) → List Extent → List (OutPart Extent)
parts_with [] xs = []
parts_with (part ∷ parts) xs = record { path = part.path; bytes = first_or part.bytes xs } ∷ parts_with parts (drop 1 xs)

-- the change with these extents in place of its own, in order, as far as there are any
abbrev pub with_extents : Change Extent → List Extent → Change Extent
with_extents (Submitted queue job script) xs = Submitted queue job (first_or script xs)
with_extents (Ended id parts) xs = Ended id (parts_with parts xs)
with_extents (OldPromised peer number queue carried script) xs = OldPromised peer number queue carried (first_or script xs)
with_extents (Promised peer number low queue carried script) xs = Promised peer number low queue carried (first_or script xs)
with_extents (StageGot peer number path bytes) xs = StageGot peer number path (first_or bytes xs)
with_extents change xs = change
