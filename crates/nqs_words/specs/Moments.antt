-- Moments as a number or none.
use Rattle.std.specs.Prelude.{ℕ, ◌+◌, ◌*◌, ◌&&◌, nat_le, nat_lt, Bool, List, Option, Some, None, is_none, if◌then◌else◌, ℤ, pos, negsuc, ◌+ℤ◌, ◌*ℤ◌}
use Rattle.jiff_core.specs.Calendar.{days_in_month, days_from_civil}
use Rattle.nqs_moments.specs.Moment.{moment_misfit}
use Rattle.nqs_moments.specs.Parts.{part}

-- does the calendar have the date, up to the year 9999?
abbrev pub is_date : ℕ → ℕ → ℕ → Bool
is_date year month day = (nat_le year 9999 && (nat_le 1 month && nat_le month 12)) && (nat_le 1 day && nat_le day (days_in_month (pos year) month))

-- is it a time of day, without a leap second?
abbrev pub is_time : ℕ → ℕ → ℕ → Bool
is_time hour minute second = nat_lt hour 24 && (nat_lt minute 60 && nat_lt second 60)

-- the seconds from the first of 1970 to a civil date and time; before it they are negative
unfoldable pub seconds_to : ℕ → ℕ → ℕ → ℕ → ℕ → ℕ → ℤ
seconds_to year month day hour minute second = (days_from_civil (pos year) month day *ℤ pos 86400) +ℤ pos (hour * 3600 + minute * 60 + second)

-- a number that isn't below zero, as a natural one
abbrev pub natural : ℤ → Option ℕ
natural (pos n) = Some n
natural (negsuc n) = None

-- the moment of a civil date and time, from the first of 1970 to the end of the year 9999
unfoldable pub second_of : ℕ → ℕ → ℕ → ℕ → ℕ → ℕ → Option ℕ
second_of year month day hour minute second =
    if is_date year month day && is_time hour minute second then natural (seconds_to year month day hour minute second) else None

-- the moment of a text `YYYY-MM-DDTHH:MM:SS`
unfoldable pub moment_of : List ℕ → Option ℕ
moment_of bytes =
    if is_none (moment_misfit bytes)
    then second_of (part bytes 0 4) (part bytes 5 2) (part bytes 8 2) (part bytes 11 2) (part bytes 14 2) (part bytes 17 2)
    else None
