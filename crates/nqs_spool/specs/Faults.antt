-- What the faults of extents say.
use Rattle.std.specs.Prelude.{ℕ, List}
use Rattle.nqs_base.specs.declared.extent.Extent.{Extent}
use Rattle.nqs_spool.specs.Extents.{IsBadExtent}
use Rattle.nqs_spool.specs.declared.fault.ExtentFault.{ExtentFault}
use Rattle.nqs_spool.specs.declared.fault.ExtentFault.TheVariants.{Bad, Memory}

-- why a disk of so many bytes can't have these extents; want of memory is free
abbrev pub IsFaultOf : ℕ → List Extent → ExtentFault → Type 0
IsFaultOf size extents (Bad place) = IsBadExtent size extents place
IsFaultOf size extents (Memory memory) = Unit {0}
