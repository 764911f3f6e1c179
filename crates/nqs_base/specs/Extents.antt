-- The bytes of extents.
use Rattle.std.specs.Prelude.{ℕ, List, take, drop}
use Rattle.nqs_base.specs.declared.extent.Extent.{Extent}

-- the bytes of an extent
abbrev pub extent_bytes : List ℕ → Extent → List ℕ
extent_bytes bytes extent = take extent.length (drop extent.place bytes)
