use Rattle.std.proofs.Common.{◌≡◌, ℕ, suc, ◌+◌, ◌-◌, ◌<◌, ◌≤◌, List, [], ◌∷◌, length, arith, refl, ap, Some, None, Option, cond, Bool, true, false, ◌/◌}
use Rattle.std.proofs.Common.{◌%◌, ◌==◌}
use Rattle.nqs_base.specs.Name.{is_digit}
use Rattle.std.specs.Prelude.{ℤ, pos, neg_ℤ, unsigned_abs, ◌+ℤ◌, ◌-ℤ◌, ◌*ℤ◌, ◌<ℤ◌, ◌≤ℤ◌}
use Rattle.std.proofs.Common.{zero, add-zero, subst, negsuc, ◌⊎◌, inl, inr}
use Rattle.jiff_core.specs.Calendar.{days_of_years, days_of_months, day_count, days_from_civil}
use Rattle.jiff_core.specs.Date.{epoch_day}
use Rattle.jiff_core.specs.declared.civil.date.Date.{Date}
use Rattle.jiff_core.proofs.IsoWeekLemmas.{epoch_day-year}
use Rattle.jiff_core.proofs.SignedLemmas.{signed_arith}
use Rattle.std.proofs.Common.{nat_lt}
use Rattle.std.proofs.lemmas.Int.{ints}
use Rattle.std.proofs.lemmas.Bool.Decides.{nat_tests}
use Rattle.nqs_text.specs.Number.{decimal}
use Rattle.nqs_moments.specs.Moment.{misfit, suits, moment_form}

pub no_second : (days : ℤ) (seconds moment : ℕ) → days <ℤ pos 0 → seconds < 86400 → pos moment ≡ (days *ℤ pos 86400) +ℤ pos seconds → ⊥
no_second days seconds moment before few is = omega (arith, ints)

fitting : (b : Bool) (place : ℕ) (next : Option ℕ) → cond b next (Some place) ≡ None → next ≡ None
fitting true place next e = e
fitting false place next e = cc

pub formed-length : (form : List ℕ) (place : ℕ) (bytes : List ℕ) → misfit form place bytes ≡ None → length bytes ≡ length form
unfolding misfit
formed-length [] place [] e = refl
formed-length [] place (b ∷ bs) e = cc
formed-length (t ∷ ts) place [] e = cc
formed-length (t ∷ ts) place (b ∷ bs) e = ap suc (formed-length ts (place + 1) bs (fitting (suits t b) place (misfit ts (place + 1) bs) e))

-- ---- the text

below_ten : (n : ℕ) → n % 10 < 10
below_ten n = omega arith

digit_is : (n : ℕ) → is_digit (48 + n % 10) ≡ true
digit_is n = let h = below_ten n in grind (arith, nat_tests)

fit_digit : (n place : ℕ) (t : ℕ) (ts bs : List ℕ) → is_digit t ≡ true → misfit (t ∷ ts) place ((48 + n % 10) ∷ bs) ≡ misfit ts (place + 1) bs
unfolding misfit
fit_digit n place t ts bs h = rw (h, digit_is n) refl

fit_mark : (place : ℕ) (t : ℕ) (ts bs : List ℕ) → is_digit t ≡ false → (t == t) ≡ true → misfit (t ∷ ts) place (t ∷ bs) ≡ misfit ts (place + 1) bs
unfolding misfit
fit_mark place t ts bs h e = rw (h, e) refl

pub text-formed : (a b c d e f g h i j k l m n : ℕ) → misfit moment_form 0
    ((48 + a % 10) ∷ (48 + b % 10) ∷ (48 + c % 10) ∷ (48 + d % 10) ∷ 45 ∷ (48 + e % 10) ∷ (48 + f % 10) ∷ 45 ∷ (48 + g % 10) ∷ (48 + h % 10) ∷ 84
    ∷ (48 + i % 10) ∷ (48 + j % 10) ∷ 58 ∷ (48 + k % 10) ∷ (48 + l % 10) ∷ 58 ∷ (48 + m % 10) ∷ (48 + n % 10) ∷ []) ≡ None
unfolding misfit
text-formed a b c d e f g h i j k l m n = rw (
  digit_is a,
  digit_is b,
  digit_is c,
  digit_is d,
  digit_is e,
  digit_is f,
  digit_is g,
  digit_is h,
  digit_is i,
  digit_is j,
  digit_is k,
  digit_is l,
  digit_is m,
  digit_is n,
) refl

pub two-digits : (n : ℕ) → n ≤ 99 → decimal ((48 + n / 10 % 10) ∷ (48 + n % 10) ∷ []) ≡ n
unfolding decimal
two-digits n h = omega arith

pub four-digits : (n : ℕ) → n ≤ 9999 → decimal ((48 + n / 1000 % 10) ∷ (48 + n / 100 % 10) ∷ (48 + n / 10 % 10) ∷ (48 + n % 10) ∷ []) ≡ n
unfolding decimal
four-digits n h = omega arith

-- ---- years

years_more : (a k : ℕ) → days_of_years a ≤ days_of_years (a + k)
unfolding days_of_years
years_more a zero = rw (add-zero a) (omega arith)
years_more a (suc k) =
    let more = years_more a k in
    let e : a + suc k ≡ suc (a + k) = omega arith in
    rw e (omega (arith, more))

years_up : (a b : ℕ) → a ≤ b → days_of_years a ≤ days_of_years b
years_up a b h = let e : a + (b - a) ≡ b = omega arith in subst (λ (n : ℕ). days_of_years a ≤ days_of_years n) e (years_more a (b - a))

before_days : (a b : ℕ) → a ≤ b → (pos a -ℤ pos b) ≤ℤ pos 0
before_days a b h = omega (arith, signed_arith)

abs_of : (z : ℤ) → pos 0 ≤ℤ z → pos (unsigned_abs z) ≡ z
abs_of (pos n) h = refl
abs_of (negsuc n) h = absurd (omega (arith, signed_arith))

first_days : (y : ℤ) → neg_ℤ (pos 10000) ≤ℤ y → y ≤ℤ pos 1970 → days_from_civil y 1 1 ≤ℤ pos 0
unfolding days_from_civil day_count days_of_months
first_days y low high =
    let is = abs_of (y +ℤ pos 10000) (omega (arith, signed_arith)) in
    let more = years_up (unsigned_abs (y +ℤ pos 10000)) 11970 (omega (arith, signed_arith, is)) in
    before_days (days_of_years (unsigned_abs (y +ℤ pos 10000)) + 0) (days_of_years 11970 + 0) (omega (arith, more))

order : (m n : ℕ) → (m < n) ⊎ (n ≤ m)
order m n = by (nat_lt m n) refl
  where
    by : (t : Bool) → nat_lt m n ≡ t → (m < n) ⊎ (n ≤ m)
    by true is = inl (grind (arith, nat_tests))
    by false is = inr (grind (arith, nat_tests))

late : (y e f : ℤ) (days : ℕ) → e ≡ pos days → e <ℤ f → ((y +ℤ pos 1) ≤ℤ pos 1970 → f ≤ℤ pos 0) → pos 1970 ≤ℤ y
late (pos n) e f days is before h = by (order n 1970)
  where
    by : (n < 1970) ⊎ (1970 ≤ n) → pos 1970 ≤ℤ pos n
    by (inl early) = let first = h (omega (arith, signed_arith)) in absurd (omega (arith, signed_arith, first))
    by (inr past) = omega (arith, signed_arith)
late (negsuc n) e f days is before h = let first = h (omega (arith, signed_arith)) in absurd (omega (arith, signed_arith, first))

pub since_1970 : (d : Date) (days : ℕ) → epoch_day d ≡ pos days → pos 1970 ≤ℤ d.year
since_1970 d days is =
    let next = d.year +ℤ pos 1 in
    let after = (epoch_day-year d next refl).1 in
    late d.year (epoch_day d) (days_from_civil next 1 1) days is after (first_days next (omega (arith, signed_arith, d.year_in)))
