-- What the outputs of a step read.
use Rattle.std.specs.Prelude.{List, Option, None, Some}
use Rattle.std.specs.List.{AllByRecursion}
use Rattle.nqs_base.specs.declared.extent.Extent.{Extent}
use Rattle.nqs_rules.specs.Stepped.{Pending}
use Rattle.nqs_spool.specs.Extents.{Has}
use Rattle.nqs_store.specs.Told.{Host}
use Rattle.nqs_store.specs.Live.{live}

-- the extent, where there is one, is a live one of the host
abbrev pub IsLive : Host → Option Extent → Type 0
IsLive host None = Unit {0}
IsLive host (Some extent) = Has (live host) extent

-- the bytes of each output, where they are read, are those of a live extent
abbrev pub AreLive : Host → List (Pending Extent) → Type 0
AreLive host outputs = AllByRecursion (λ output. IsLive host output.1) outputs
