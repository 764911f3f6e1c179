-- Times and sizes that fit 64 bits.
use Rattle.std.specs.Prelude.{ℕ, ◌^◌, ◌&&◌, nat_lt, List, Option, Some, None, is_none, if◌then◌else◌}
use Rattle.nqs_limits.specs.Time.{time_fault, seconds}
use Rattle.nqs_limits.specs.Size.{size_unit, size}

-- the seconds of a time
unfoldable pub time_of : List ℕ → Option ℕ
time_of bytes = if is_none (time_fault bytes) && nat_lt (seconds bytes) (2 ^ 64) then Some (seconds bytes) else None

-- the bytes of a size in this unit, where 64 bits hold them
abbrev pub in_units : List ℕ → Option ℕ → Option ℕ
in_units bytes (Some unit) = if nat_lt (size bytes unit) (2 ^ 64) then Some (size bytes unit) else None
in_units bytes None = None

-- the bytes of a size
unfoldable pub size_of : List ℕ → Option ℕ
size_of bytes = in_units bytes (size_unit bytes)
