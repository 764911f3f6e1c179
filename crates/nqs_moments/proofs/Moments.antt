-- A text of the form and the moment that it names.
use Rattle.std.proofs.Common.{◌≡◌, ℕ, ◌+◌, ◌*◌, ◌<◌, ◌≤◌, List, ◌++◌, sym, ap, ◌∙◌, subst, arith, Some, None, Ok, Err}
use Rattle.std.specs.Prelude.{ℤ, pos, negsuc, nat_abs, ◌+ℤ◌, ◌*ℤ◌, ◌≤ℤ◌, ◌/◌, ◌%◌}
use Rattle.std.proofs.Common.{w16, to_z, of_z}
use Rattle.std.proofs.lemmas.Int.{to_z_pos}
use Rattle.jiff_core.specs.Date.{epoch_day}
use Rattle.std.proofs.lemmas.Int.{ints}
use Rattle.jiff_core.specs.Calendar.{IsDate, days_from_civil}
use Rattle.jiff_core.specs.declared.civil.date.Date.{Date}
use Rattle.jiff_core.proofs.DateLemmas.{epoch_day_injective}
use Rattle.jiff_core.proofs.CalendarLemmas.{days_in_month_bounds}
use Rattle.jiff_core.proofs.SignedLemmas.{signed_arith}
use Rattle.nqs_text.specs.Dates.{moment_text}
use Rattle.nqs_moments.specs.Moment.{IsSecond, IsMoment, moment_misfit}
use Rattle.nqs_moments.specs.Parts.{part, IsNamed}
use Rattle.nqs_moments.specs.Laws.{PrintedReadsBack, ReadPrintsBack}
use Rattle.nqs_moments.specs.declared.moment.MomentFault.TheVariants.{Form, Range}
use Rattle.nqs_moments.proofs.Texts.{has_numbers, text_formed, year_part, month_part, day_part, hour_part, minute_part, second_part}

pub moment_formed : (bytes : List ℕ) (moment : ℕ) → IsMoment bytes moment → moment_misfit bytes ≡ None
moment_formed bytes moment is = ap moment_misfit is.text ∙ text_formed is.year is.month is.day is.hour is.minute is.second

pub named_moment : (bytes : List ℕ) (moment : ℕ) → moment_misfit bytes ≡ None → IsNamed bytes moment → IsMoment bytes moment
named_moment bytes moment formed named =
    let has = has_numbers bytes formed in
    let years = ap (λ (l : List ℕ). part l 0 4) has.text ∙ year_part has.year has.month has.day has.hour has.minute has.second has.years in
    let months = ap (λ (l : List ℕ). part l 5 2) has.text ∙ month_part has.year has.month has.day has.hour has.minute has.second has.months in
    let days = ap (λ (l : List ℕ). part l 8 2) has.text ∙ day_part has.year has.month has.day has.hour has.minute has.second has.days in
    let hours = ap (λ (l : List ℕ). part l 11 2) has.text ∙ hour_part has.year has.month has.day has.hour has.minute has.second has.hours in
    let minutes = ap (λ (l : List ℕ). part l 14 2) has.text ∙ minute_part has.year has.month has.day has.hour has.minute has.second has.minutes in
    let seconds = ap (λ (l : List ℕ). part l 17 2) has.text ∙ second_part has.year has.month has.day has.hour has.minute has.second has.seconds in
    record {
      year = part bytes 0 4;
      month = part bytes 5 2;
      day = part bytes 8 2;
      hour = part bytes 11 2;
      minute = part bytes 14 2;
      second = part bytes 17 2;
      text = has.text ∙ sym (λ j. moment_text (years j) (months j) (days j) (hours j) (minutes j) (seconds j));
      is_second = named;
    }

day_bound : (year month day : ℕ) → IsDate (pos year) (pos month) (pos day) → (year ≤ 9999) × (month ≤ 99) × (day ≤ 99)
day_bound year month day date =
    let most = days_in_month_bounds (pos year) month in
    (omega (arith, signed_arith, date), omega (arith, signed_arith, date), omega (arith, signed_arith, date, most))

text_named : (year month day hour minute second moment : ℕ) → IsSecond year month day hour minute second moment
    → IsNamed (moment_text year month day hour minute second) moment
text_named year month day hour minute second moment is =
    let bound = day_bound year month day is.date in
    let years = year_part year month day hour minute second bound.0 in
    let months = month_part year month day hour minute second bound.1 in
    let days = day_part year month day hour minute second bound.2 in
    let hours = hour_part year month day hour minute second (omega (arith, is.hours)) in
    let minutes = minute_part year month day hour minute second (omega (arith, is.minutes)) in
    let seconds = second_part year month day hour minute second (omega (arith, is.seconds)) in
    rw (years, months, days, hours, minutes, seconds) is

pub moment_named : (bytes : List ℕ) (moment : ℕ) → IsMoment bytes moment → IsNamed bytes moment
moment_named bytes moment is = subst (λ (l : List ℕ). IsNamed l moment) (sym is.text)
    (text_named is.year is.month is.day is.hour is.minute is.second moment is.is_second)

-- ---- the second of a date and what is left of its day

pub year_is : (year : ℤ) (n : ℕ) → pos 0 ≤ℤ year → year ≤ℤ pos 9999 → n ≡ nat_abs (to_z w16 (of_z w16 year)) → pos n ≡ year
year_is (pos k) n low high is = ap pos (is ∙ ap nat_abs (to_z_pos w16 k (omega (arith, signed_arith, high))))
year_is (negsuc k) n low high is = absurd (omega (arith, signed_arith, low))

date_is : (d : Date) → IsDate d.year (pos d.month) (pos d.day)
date_is d = (
  d.year_in,
  (omega (arith, signed_arith, d.month_in), omega (arith, signed_arith, d.month_in)),
  (omega (arith, signed_arith, d.day_in), omega (arith, signed_arith, d.day_in)),
)

pub second_is : (d : Date) (year moment : ℕ) → pos year ≡ d.year → epoch_day d ≡ pos (moment / 86400)
    → IsSecond year d.month d.day (moment % 86400 / 3600) (moment % 86400 / 60 % 60) (moment % 86400 % 60) moment
second_is d year moment is_year is_day =
    let days : days_from_civil (pos year) d.month d.day ≡ pos (moment / 86400) = ap (λ (y : ℤ). days_from_civil y d.month d.day) is_year ∙ is_day in
    record {
      date = subst (λ (y : ℤ). IsDate y (pos d.month) (pos d.day)) (sym is_year) (date_is d);
      hours = omega arith;
      minutes = omega arith;
      seconds = omega arith;
      counted = omega (arith, ints, days);
    }

-- ---- one moment a text, one text a moment

pub one_moment : (bytes : List ℕ) (m n : ℕ) → IsMoment bytes m → IsMoment bytes n → m ≡ n
one_moment bytes m n is other =
    let same : pos m ≡ pos n = (moment_named bytes m is).counted ∙ sym (moment_named bytes n other).counted in
    cc

day_split : (d e : ℤ) (s t : ℕ) (m : ℕ) → s < 86400 → t < 86400 → pos m ≡ (d *ℤ pos 86400) +ℤ pos s → pos m ≡ (e *ℤ pos 86400) +ℤ pos t → (d ≡ e) × (s ≡ t)
day_split d e s t m few small is other = (omega (arith, ints), omega (arith, ints))

time_split : (h i : ℕ) (m n : ℕ) (s t : ℕ) → m < 60 → n < 60 → s < 60 → t < 60 → h * 3600 + m * 60 + s ≡ i * 3600 + n * 60 + t → (h ≡ i) × (m ≡ n) × (s ≡ t)
time_split h i m n s t a b c d same = (omega arith, omega arith, omega arith)

calendar_date : (year month day : ℕ) → IsDate (pos year) (pos month) (pos day) → Date
calendar_date year month day date = record {
  year = pos year;
  month = month;
  day = day;
  year_in = date.0;
  month_in = (omega (arith, signed_arith, date), omega (arith, signed_arith, date));
  day_in = (omega (arith, signed_arith, date), omega (arith, signed_arith, date));
}

pub one_text : (text other : List ℕ) (moment : ℕ) → IsMoment text moment → IsMoment other moment → text ≡ other
unfolding calendar_date
one_text text other moment is was =
    let a = is.is_second in
    let b = was.is_second in
    let parts = day_split (days_from_civil (pos is.year) is.month is.day) (days_from_civil (pos was.year) was.month was.day)
    (is.hour * 3600 + is.minute * 60 + is.second) (was.hour * 3600 + was.minute * 60 + was.second) moment (omega (arith, a))
    (omega (arith, b)) a.counted b.counted in
    let time = time_split is.hour was.hour is.minute was.minute is.second was.second a.minutes b.minutes a.seconds b.seconds parts.1 in
    let date = epoch_day_injective (calendar_date is.year is.month is.day a.date) (calendar_date was.year was.month was.day b.date) parts.0 in
    let years : is.year ≡ was.year = cc in
    let months : is.month ≡ was.month = date.1 in
    let days : is.day ≡ was.day = date.2 in
    let hours = time.0 in
    let minutes = time.1 in
    let seconds = time.2 in
    is.text ∙ (λ j. moment_text (years j) (months j) (days j) (hours j) (minutes j) (seconds j)) ∙ sym was.text

pub printed_reads_back : PrintedReadsBack
printed_reads_back text moment (Ok found) is reads = ap (λ (m : ℕ). Ok m) (one_moment text found moment reads is)
printed_reads_back text moment (Err (Form place)) is reads =
    let no : Some place ≡ None = sym reads ∙ moment_formed text moment is in
    absurd (let never : ⊥ = cc in never)
printed_reads_back text moment (Err Range) is reads = absurd (reads.1 moment is)

pub read_prints_back : ReadPrintsBack
read_prints_back text old new moment reads prints = prints.3 ∙ ap (λ (l : List ℕ). old ++ l) (one_text prints.1 text moment prints.2 reads)
