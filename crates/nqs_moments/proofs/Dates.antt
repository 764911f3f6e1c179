-- The date of a moment, counted on from 1970, is that of its second.
use Rattle.std.proofs.Common.{◌≡◌, ℕ, zero, suc, ◌+◌, ◌-◌, ◌/◌, ◌%◌, ◌<◌, ◌≤◌, Bool, true, false, nat_lt, if◌then◌else◌, refl, ◌∙◌, arith}
use Rattle.std.specs.Prelude.{pos}
use Rattle.std.proofs.lemmas.Bool.Decides.{nat_tests}
use Rattle.std.proofs.lemmas.Int.{ints}
use Rattle.jiff_core.specs.Calendar.{IsDate, day_count, days_from_civil}
use Rattle.jiff_core.proofs.CalendarLemmas.{day_count-epoch, day_count-end, day_count-next_year, day_count-next_month, day_count-day, day_count-last_of_year}
use Rattle.jiff_core.proofs.CalendarLemmas.{days_from_civil-day_count}
use Rattle.jiff_core.proofs.SignedLemmas.{signed_arith}
use Rattle.nqs_text.specs.Dates.{year_days, month_days, year_of, month_of, second_text, day_text, date_text}
use Rattle.nqs_moments.specs.Laws.{DateIsMoment}

-- a year, and days counted from its first, are the day that is counted from the first of another
-- year, and fall into that year
record IsInYear (first last days : ℕ) (y : ℕ × ℕ) : Type 0 where
  pub low : first ≤ y.0
  pub high : y.0 ≤ last
  pub counted : day_count (pos y.0) 1 1 + y.1 ≡ day_count (pos first) 1 1 + days
  pub within : y.1 < year_days y.0

in_year : (n year days : ℕ) → year + n ≡ 9999 → day_count (pos year) 1 1 + days < day_count (pos 10000) 1 1 → IsInYear year 9999 days (year_of n year days)
unfolding year_of
in_year zero year days last few =
    let next = day_count-next_year (pos year) (pos 10000) (omega (arith, signed_arith)) (omega (arith, signed_arith)) in
    record { low = omega arith; high = omega arith; counted = refl; within = omega (arith, next) }
in_year (suc n) year days last few =
    let next = day_count-next_year (pos year) (pos (year + 1)) (omega (arith, signed_arith)) (omega (arith, signed_arith)) in
    let later : year_days year ≤ days → IsInYear (year + 1) 9999 (days - year_days year) (year_of n (year + 1) (days - year_days year)) =
    λ past. in_year n (year + 1) (days - year_days year) (omega arith) (omega (arith, next)) in
    by next later (nat_lt days (year_days year)) refl
  where
    by : day_count (pos (year + 1)) 1 1 ≡ day_count (pos year) 1 1 + year_days year
        → (year_days year ≤ days → IsInYear (year + 1) 9999 (days - year_days year) (year_of n (year + 1) (days - year_days year)))
        → (b : Bool) → nat_lt days (year_days year) ≡ b
        → IsInYear year 9999 days (if b then (year, days) else year_of n (year + 1) (days - year_days year))
    by next later true is = record { low = omega arith; high = omega arith; counted = refl; within = grind (arith, nat_tests) }
    by next later false is =
        let past : year_days year ≤ days = grind (arith, nat_tests) in
        let rest = later past in
        record { low = omega (arith, rest); high = rest.high; counted = rest.counted ∙ omega (arith, next); within = rest.within }

-- the same of a month of a year
record IsInMonth (year first days : ℕ) (m : ℕ × ℕ) : Type 0 where
  pub low : first ≤ m.0
  pub high : m.0 ≤ 12
  pub counted : day_count (pos year) m.0 1 + m.1 ≡ day_count (pos year) first 1 + days
  pub within : m.1 < month_days year m.0

december : (year month days : ℕ) → month ≡ 12 → day_count (pos year) month 1 + days < day_count (pos year) 1 1 + year_days year → days < month_days year month
december year month days is few =
    let moved = day_count-day (pos year) 12 1 31 (omega arith) (omega arith) in
    let last = day_count-last_of_year (pos year) in
    rw is (omega (arith, moved, last, rw is at few))

in_month : (n year month days : ℕ) → month + n ≡ 12 → 1 ≤ month → day_count (pos year) month 1 + days < day_count (pos year) 1 1 + year_days year
    → IsInMonth year month days (month_of n year month days)
unfolding month_of
in_month zero year month days last low few =
    record { low = omega arith; high = omega arith; counted = refl; within = december year month days (omega arith) few }
in_month (suc n) year month days last low few =
    let next = day_count-next_month (pos year) month low in
    let later : month_days year month ≤ days
    → IsInMonth year (month + 1) (days - month_days year month) (month_of n year (month + 1) (days - month_days year month)) =
    λ past. in_month n year (month + 1) (days - month_days year month) (omega arith) (omega arith) (omega (arith, next)) in
    by next later (nat_lt days (month_days year month)) refl
  where
    by : day_count (pos year) (month + 1) 1 ≡ day_count (pos year) month 1 + month_days year month
        → (month_days year month ≤ days
        → IsInMonth year (month + 1) (days - month_days year month) (month_of n year (month + 1) (days - month_days year month)))
        → (b : Bool) → nat_lt days (month_days year month) ≡ b
        → IsInMonth year month days (if b then (month, days) else month_of n year (month + 1) (days - month_days year month))
    by next later true is = record { low = omega arith; high = omega arith; counted = refl; within = grind (arith, nat_tests) }
    by next later false is =
        let past : month_days year month ≤ days = grind (arith, nat_tests) in
        let rest = later past in
        record { low = omega (arith, rest); high = rest.high; counted = rest.counted ∙ omega (arith, next); within = rest.within }

-- a day that is counted from the first of a month is that day of the month
day_is : (year month day days : ℕ) → 1 ≤ month → month ≤ 12 → year ≤ 9999 → day < month_days year month
    → day_count (pos year) month 1 + day ≡ day_count (pos 1970) 1 1 + days
    → IsDate (pos year) (pos month) (pos (day + 1)) × (days_from_civil (pos year) month (day + 1) ≡ pos days)
day_is year month day days low high years within counted =
    let moved = day_count-day (pos year) month 1 (day + 1) (omega arith) (omega arith) in
    let number = days_from_civil-day_count (pos year) month (day + 1) in (
      (
        (omega (arith, signed_arith), omega (arith, signed_arith)),
        (omega (arith, signed_arith), omega (arith, signed_arith)),
        (omega (arith, signed_arith), omega (arith, signed_arith)),
      ),
      omega (arith, signed_arith, moved, number, day_count-epoch),
    )

pub date_is_moment : DateIsMoment
unfolding date_text day_text second_text
date_is_moment moment within =
    let days = moment / 86400 in
    let few : day_count (pos 1970) 1 1 + days < day_count (pos 10000) 1 1 = omega (arith, day_count-epoch, day_count-end) in
    let y = year_of 8029 1970 days in
    let a : IsInYear 1970 9999 days y = in_year 8029 1970 days refl few in
    let m = month_of 11 y.0 1 y.1 in
    let b : IsInMonth y.0 1 y.1 m = in_month 11 y.0 1 y.1 refl (omega arith) (omega (arith, a)) in
    let day = day_is y.0 m.0 m.1 days b.low b.high a.high b.within (b.counted ∙ a.counted) in
    record {
      year = y.0;
      month = m.0;
      day = m.1 + 1;
      hour = moment % 86400 / 3600;
      minute = moment % 86400 / 60 % 60;
      second = moment % 86400 % 60;
      text = refl;
      is_second = record { date = day.0; hours = omega arith; minutes = omega arith; seconds = omega arith; counted = omega (arith, ints, day.1) };
    }
