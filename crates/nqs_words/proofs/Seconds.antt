-- The moment of a text as a function says what reading a moment does.
use Rattle.std.proofs.Common.{◌≡◌, ℕ, ◌+◌, ◌*◌, ◌<◌, List, sym, ap, refl, arith, Some, None, Option, Ok, Err, Bool, true, false, cond, ◌&&◌, nat_le}
use Rattle.std.proofs.Common.{nat_lt}
use Rattle.std.specs.Prelude.{ℤ, pos, negsuc, ◌+ℤ◌, ◌*ℤ◌}
use Rattle.std.proofs.lemmas.Bool.{and_parts, and_from, le-leb, lt-ltb, ltb-true, leb-true}
use Rattle.jiff_core.specs.Calendar.{IsDate, days_in_month, days_from_civil}
use Rattle.jiff_core.proofs.SignedLemmas.{signed_arith}
use Rattle.nqs_moments.specs.Moment.{IsSecond, ReadsMoment}
use Rattle.nqs_moments.specs.Parts.{part}
use Rattle.nqs_moments.specs.declared.moment.MomentFault.{MomentFault}
use Rattle.nqs_moments.specs.declared.moment.MomentFault.TheVariants.{Form, Range}
use Rattle.nqs_moments.proofs.Moments.{moment_formed, moment_named, named_moment}
use Rattle.nqs_words.specs.Moments.{is_date, is_time, seconds_to, natural, second_of, moment_of}

dated : (year month day : ℕ) → IsDate (pos year) (pos month) (pos day) → is_date year month day ≡ true
dated year month day d =
    and_from _ _ (and_from _ _ (le-leb year 9999 (omega (arith, signed_arith, d)))
    (and_from _ _ (le-leb 1 month (omega (arith, signed_arith, d))) (le-leb month 12 (omega (arith, signed_arith, d)))))
    (and_from _ _ (le-leb 1 day (omega (arith, signed_arith, d))) (le-leb day (days_in_month (pos year) month) (omega (arith, signed_arith, d))))

timed : (hour minute second : ℕ) → hour < 24 → minute < 60 → second < 60 → is_time hour minute second ≡ true
timed hour minute second h m s = and_from _ _ (lt-ltb hour 24 h) (and_from _ _ (lt-ltb minute 60 m) (lt-ltb second 60 s))

date_of : (year month day : ℕ) → is_date year month day ≡ true → IsDate (pos year) (pos month) (pos day)
date_of year month day t =
    let p = and_parts (nat_le year 9999 && (nat_le 1 month && nat_le month 12)) (nat_le 1 day && nat_le day (days_in_month (pos year) month)) t in
    let q = and_parts (nat_le year 9999) (nat_le 1 month && nat_le month 12) p.0 in
    let m = and_parts (nat_le 1 month) (nat_le month 12) q.1 in
    let d = and_parts (nat_le 1 day) (nat_le day (days_in_month (pos year) month)) p.1 in
    let years = leb-true year 9999 q.0 in
    let low_month = leb-true 1 month m.0 in
    let high_month = leb-true month 12 m.1 in
    let low_day = leb-true 1 day d.0 in
    let high_day = leb-true day (days_in_month (pos year) month) d.1 in (
      (omega (arith, signed_arith), omega (arith, signed_arith)),
      (omega (arith, signed_arith), omega (arith, signed_arith)),
      (omega (arith, signed_arith), omega (arith, signed_arith)),
    )

second_says : (year month day hour minute second moment : ℕ) → IsSecond year month day hour minute second moment
    → second_of year month day hour minute second ≡ Some moment
unfolding second_of seconds_to
second_says year month day hour minute second moment is =
    let good = and_from (is_date year month day) (is_time hour minute second) (dated year month day is.date)
    (timed hour minute second is.hours is.minutes is.seconds) in
    rw good (ap natural (sym is.counted))

said_second : (year month day hour minute second moment : ℕ) → second_of year month day hour minute second ≡ Some moment
    → IsSecond year month day hour minute second moment
unfolding second_of seconds_to
said_second year month day hour minute second moment e = by (is_date year month day && is_time hour minute second) refl e
  where
    count : ℤ
    count = (days_from_civil (pos year) month day *ℤ pos 86400) +ℤ pos (hour * 3600 + minute * 60 + second)

    counted : (z : ℤ) → natural z ≡ Some moment → pos moment ≡ z
    counted (pos n) h = let same : n ≡ moment = cc in ap pos (sym same)
    counted (negsuc n) h = cc

    by : (t : Bool) → (is_date year month day && is_time hour minute second) ≡ t → cond t (natural count) None ≡ Some moment
        → IsSecond year month day hour minute second moment
    by false is h = cc
    by true is h =
        let p = and_parts (is_date year month day) (is_time hour minute second) is in
        let q = and_parts (nat_lt hour 24) (nat_lt minute 60 && nat_lt second 60) p.1 in
        let r = and_parts (nat_lt minute 60) (nat_lt second 60) q.1 in
        record {
          date = date_of year month day p.0;
          hours = ltb-true hour 24 q.0;
          minutes = ltb-true minute 60 r.0;
          seconds = ltb-true second 60 r.1;
          counted =
              counted count h;
        }

pub moment_of-Ok : (bytes : List ℕ) (moment : ℕ) → ReadsMoment bytes (Ok moment) → Some moment ≡ moment_of bytes
unfolding moment_of
moment_of-Ok bytes moment is =
    rw (moment_formed bytes moment is) (sym (second_says (part bytes 0 4) (part bytes 5 2) (part bytes 8 2) (part bytes 11 2) (part bytes 14 2)
    (part bytes 17 2) moment (moment_named bytes moment is)))

none_of : {A : Type 0} (o : Option A) → ((a : A) → o ≡ Some a → ⊥) → None ≡ o
none_of None h = refl
none_of (Some a) h = absurd (h a refl)

pub moment_of-Err : (bytes : List ℕ) (e : MomentFault) → ReadsMoment bytes (Err e) → None ≡ moment_of bytes
unfolding moment_of
moment_of-Err bytes (Form place) is = rw is refl
moment_of-Err bytes Range is =
    rw is.0 (none_of (second_of (part bytes 0 4) (part bytes 5 2) (part bytes 8 2) (part bytes 11 2) (part bytes 14 2) (part bytes 17 2))
    (λ m h. is.1 m (named_moment bytes m is.0 (said_second (part bytes 0 4) (part bytes 5 2) (part bytes 8 2) (part bytes 11 2) (part bytes 14 2)
    (part bytes 17 2) m h))))
