-- Dates as texts: `YYYY-MM-DDTHH:MM:SS` in UTC, of moments in seconds since 1970.
use Rattle.std.specs.Prelude.{ℕ, zero, suc, ◌+◌, ◌-◌, ◌/◌, ◌%◌, Bool, not, ◌&&◌, ◌||◌, ◌==◌, nat_lt, if◌then◌else◌, List, [], ◌∷◌, ◌++◌}

-- ---- digits

-- the last two digits of a number
unfoldable pub two : ℕ → List ℕ
two n = (48 + n / 10 % 10) ∷ (48 + n % 10) ∷ []

-- the last four digits of a number
unfoldable pub four : ℕ → List ℕ
four n = (48 + n / 1000 % 10) ∷ (48 + n / 100 % 10) ∷ (48 + n / 10 % 10) ∷ (48 + n % 10) ∷ []

-- the text of a civil date and time
unfoldable pub moment_text : ℕ → ℕ → ℕ → ℕ → ℕ → ℕ → List ℕ
moment_text year month day hour minute second = four year ++ 45 ∷ two month ++ 45 ∷ two day ++ 84 ∷ two hour ++ 58 ∷ two minute ++ 58 ∷ two second

-- ---- the calendar, from 1970 on

-- every fourth year, but of the centuries only every fourth
abbrev pub is_leap : ℕ → Bool
is_leap year = (year % 4 == 0) && (not (year % 100 == 0) || (year % 400 == 0))

-- the days of a year
abbrev pub year_days : ℕ → ℕ
year_days year = if is_leap year then 366 else 365

-- thirty days have September, April, June and November
abbrev pub month_days : ℕ → ℕ → ℕ
month_days year month =
    if month == 2 then (if is_leap year then 29 else 28)
    else (if (month == 4) || (month == 6) || (month == 9) || (month == 11) then 30 else 31)

-- days counted from the first of a year: the year that they fall into, among so many from there on,
-- and the days left of it
unfoldable pub year_of : ℕ → ℕ → ℕ → ℕ × ℕ
year_of zero year days = (year, days)
year_of (suc n) year days = if nat_lt days (year_days year) then (year, days) else year_of n (year + 1) (days - year_days year)

-- days counted from the first of a month of a year: the month that they fall into, among so many
-- from there on, and the days left of it
unfoldable pub month_of : ℕ → ℕ → ℕ → ℕ → ℕ × ℕ
month_of zero year month days = (month, days)
month_of (suc n) year month days =
    if nat_lt days (month_days year month) then (month, days) else month_of n year (month + 1) (days - month_days year month)

-- ---- moments

-- the text of a second of a day of a month
unfoldable pub second_text : ℕ → ℕ × ℕ → ℕ → List ℕ
second_text year month second = moment_text year month.0 (month.1 + 1) (second / 3600) (second / 60 % 60) (second % 60)

-- the text of a second of a day of a year, which is counted from 0
unfoldable pub day_text : ℕ × ℕ → ℕ → List ℕ
day_text year second = second_text year.0 (month_of 11 year.0 1 year.1) second

-- the text of a moment, up to the end of the year 9999
unfoldable pub date_text : ℕ → List ℕ
date_text moment = day_text (year_of 8029 1970 (moment / 86400)) (moment % 86400)

-- the first second of the last day that has a date, 9999-12-31
abbrev pub last_moment : ℕ
last_moment = 253402214400
