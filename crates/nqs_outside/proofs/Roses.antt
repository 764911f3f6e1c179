-- Counts of faults over more than one call.
use Rattle.std.proofs.Common.{ℕ, ◌≤◌, arith}
use Rattle.nqs_outside.specs.Causes.{Rose}

-- what rose behind other calls rose since before them
pub rose_since : (before mid now : ℕ) → before ≤ mid → Rose mid now → Rose before now
rose_since before mid now later rose = omega (arith, later, rose)
