-- The list of calls that a disk in memory keeps.
use Rattle.std.specs.Prelude.{ℕ, ◌+◌, nat_le, nat_lt, Bool, true, false, not, ◌&&◌, ◌||◌, List, [], ◌∷◌, map, length}
use Rattle.nqs_outside.specs.History.{Call, write, sync}
use Rattle.nqs_disk.specs.declared.calls.DiskCall.{DiskCall}
use Rattle.nqs_disk.specs.declared.calls.DiskCall.TheVariants.{Write, Sync}

-- what was done in a call that is kept
abbrev pub call_of : DiskCall → Call
call_of (Write place bytes done) = write place bytes done
call_of (Sync done) = sync done

-- the same of each
abbrev pub calls_of : List DiskCall → List Call
calls_of calls = map call_of calls

-- a sync that was done
abbrev pub is_synced : Call → Bool
is_synced (write place bytes ok) = false
is_synced (sync ok) = ok

-- no sync of them is done
abbrev pub has_no_sync : List Call → Bool
has_no_sync [] = true
has_no_sync (call ∷ calls) = not (is_synced call) && has_no_sync calls

-- one of their writes has the place
abbrev pub touches : List Call → ℕ → Bool
touches [] i = false
touches (write place bytes ok ∷ calls) i = (nat_le place i && nat_lt i (place + length bytes)) || touches calls i
touches (sync ok ∷ calls) i = touches calls i
