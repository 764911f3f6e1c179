-- The low of a host, by the handover to it that has the least number.
use Rattle.std.specs.Prelude.{ℕ, Bool, nat_lt, min, Option, None, Some}
use Rattle.nqs_types.specs.declared.request.Hand.{Hand}

-- whether a handover has a smaller number than another
abbrev pub is_before : Hand → Hand → Bool
is_before hand other = nat_lt hand.number other.number

-- the least of the next number and of the number of a handover that was found
abbrev pub low_with : ℕ → Option (ℕ × Hand) → ℕ
low_with next None = next
low_with next (Some x) = min x.1.number next
