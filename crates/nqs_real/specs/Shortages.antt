-- Which failures are for want of what may come back.
use Rattle.std.specs.Prelude.{Bool, true, false}
use Rattle.std.specs.declared.io.ErrorKind.{ErrorKind}
use Rattle.std.specs.declared.io.ErrorKind.TheVariants.{WouldBlock, OutOfMemory, StorageFull, QuotaExceeded}

-- no process, memory, or space on a disk is left for now
abbrev pub is_short_kind : ErrorKind → Bool
is_short_kind WouldBlock = true
is_short_kind OutOfMemory = true
is_short_kind StorageFull = true
is_short_kind QuotaExceeded = true
is_short_kind _ = false
