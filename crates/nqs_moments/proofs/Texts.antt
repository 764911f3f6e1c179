-- Texts of the form of a moment are the texts of six numbers.
use Rattle.std.proofs.Common.{◌≡◌, ℕ, ◌+◌, ◌-◌, ◌*◌, ◌/◌, ◌%◌, ◌≤◌, List, [], ◌∷◌, ◌++◌, refl, ap, ◌∙◌, arith, Some, None, Option, cond, Bool, true, false}
use Rattle.std.proofs.Common.{◌==◌}
use Rattle.std.proofs.lemmas.Bool.Decides.{nat_tests}
use Rattle.nqs_base.specs.Name.{is_digit}
use Rattle.nqs_text.specs.Dates.{two, four, moment_text}
use Rattle.nqs_moments.specs.Moment.{misfit, suits, moment_misfit}
use Rattle.nqs_moments.specs.Parts.{part}
use Rattle.nqs_moments.proofs.Facts.{text-formed, two-digits, four-digits}

-- the first byte of a text of the form, and the rest of it
record Begins (t : ℕ) (ts : List ℕ) (place : ℕ) (bytes : List ℕ) : Type 0 where
  pub byte : ℕ
  pub rest : List ℕ
  pub text : bytes ≡ byte ∷ rest
  pub suit : suits t byte ≡ true
  pub more : misfit ts (place + 1) rest ≡ None

suited : (test : Bool) (place : ℕ) (next : Option ℕ) → cond test next (Some place) ≡ None → (test ≡ true) × (next ≡ None)
suited true place next e = (refl, e)
suited false place next e = absurd (let no : ⊥ = cc in no)

begins : (t : ℕ) (ts : List ℕ) (place : ℕ) (bytes : List ℕ) → misfit (t ∷ ts) place bytes ≡ None → Begins t ts place bytes
unfolding misfit
begins t ts place [] e = absurd (let no : ⊥ = cc in no)
begins t ts place (b ∷ bs) e =
    let both = suited (suits t b) place (misfit ts (place + 1) bs) e in
    record { byte = b; rest = bs; text = refl; suit = both.0; more = both.1 }

digit_bounds : (b : ℕ) → is_digit b ≡ true → (48 ≤ b) × (b ≤ 57)
digit_bounds b h = (grind (arith, nat_tests), grind (arith, nat_tests))

-- a mark of the form
record Marked (t : ℕ) (ts : List ℕ) (place : ℕ) (bytes : List ℕ) : Type 0 where
  pub rest : List ℕ
  pub text : bytes ≡ t ∷ rest
  pub more : misfit ts (place + 1) rest ≡ None

same_mark : (t b : ℕ) → is_digit t ≡ false → suits t b ≡ true → b ≡ t
same_mark t b is suited' = by (is_digit t) is suited'
  where
    by : (test : Bool) → test ≡ false → cond test (is_digit b) (b == t) ≡ true → b ≡ t
    by true e yes' = absurd (let impossible : ⊥ = cc in impossible)
    by false e yes' = grind (arith, nat_tests)

marked : (t : ℕ) (ts : List ℕ) (place : ℕ) (bytes : List ℕ) → is_digit t ≡ false → misfit (t ∷ ts) place bytes ≡ None → Marked t ts place bytes
marked t ts place bytes is e =
    let first = begins t ts place bytes e in
    record { rest = first.rest; text = first.text ∙ ap (λ (b : ℕ). b ∷ first.rest) (same_mark t first.byte is first.suit); more = first.more }

-- two digits of the form
record IsPair (ts : List ℕ) (place : ℕ) (bytes : List ℕ) : Type 0 where
  pub number : ℕ
  pub small : number ≤ 99
  pub rest : List ℕ
  pub text : bytes ≡ two number ++ rest
  pub more : misfit ts (place + 1 + 1) rest ≡ None

pair : (ts : List ℕ) (place : ℕ) (bytes : List ℕ) → misfit (48 ∷ 48 ∷ ts) place bytes ≡ None → IsPair ts place bytes
unfolding two
pair ts place bytes e =
    let a = begins 48 (48 ∷ ts) place bytes e in
    let b = begins 48 ts (place + 1) a.rest a.more in
    let x = digit_bounds a.byte a.suit in
    let y = digit_bounds b.byte b.suit in
    let n = (a.byte - 48) * 10 + (b.byte - 48) in
    let tens : a.byte ≡ 48 + n / 10 % 10 = omega (arith, x, y) in
    let ones : b.byte ≡ 48 + n % 10 = omega (arith, x, y) in
    record {
      number = n;
      small = omega (arith, x, y);
      rest = b.rest;
      text = a.text ∙ ap (λ (l : List ℕ). a.byte ∷ l) b.text ∙ (λ j. tens j ∷ ones j ∷ b.rest);
      more = b.more;
    }

-- four digits of the form
record IsFour (ts : List ℕ) (place : ℕ) (bytes : List ℕ) : Type 0 where
  pub number : ℕ
  pub small : number ≤ 9999
  pub rest : List ℕ
  pub text : bytes ≡ four number ++ rest
  pub more : misfit ts (place + 1 + 1 + 1 + 1) rest ≡ None

quad : (ts : List ℕ) (place : ℕ) (bytes : List ℕ) → misfit (48 ∷ 48 ∷ 48 ∷ 48 ∷ ts) place bytes ≡ None → IsFour ts place bytes
unfolding two four
quad ts place bytes e =
    let a = pair (48 ∷ 48 ∷ ts) place bytes e in
    let b = pair ts (place + 1 + 1) a.rest a.more in
    let n = a.number * 100 + b.number in
    let p : 48 + a.number / 10 % 10 ≡ 48 + n / 1000 % 10 = omega (arith, a.small, b.small) in
    let q : 48 + a.number % 10 ≡ 48 + n / 100 % 10 = omega (arith, a.small, b.small) in
    let r : 48 + b.number / 10 % 10 ≡ 48 + n / 10 % 10 = omega (arith, a.small, b.small) in
    let s : 48 + b.number % 10 ≡ 48 + n % 10 = omega (arith, a.small, b.small) in
    record {
      number = n;
      small = omega (arith, a.small, b.small);
      rest = b.rest;
      text = a.text ∙ ap (λ (l : List ℕ). two a.number ++ l) b.text ∙ (λ j. p j ∷ q j ∷ r j ∷ s j ∷ b.rest);
      more = b.more;
    }

ended : (place : ℕ) (bytes : List ℕ) → misfit [] place bytes ≡ None → bytes ≡ []
unfolding misfit
ended place [] e = refl
ended place (b ∷ bs) e = absurd (let no : ⊥ = cc in no)

then_mark : (t : ℕ) (bytes rest others : List ℕ) → bytes ≡ t ∷ rest → rest ≡ others → bytes ≡ t ∷ others
then_mark t bytes rest others is same = is ∙ ap (λ (l : List ℕ). t ∷ l) same

then_two : (n : ℕ) (bytes rest others : List ℕ) → bytes ≡ two n ++ rest → rest ≡ others → bytes ≡ two n ++ others
then_two n bytes rest others is same = is ∙ ap (λ (l : List ℕ). two n ++ l) same

-- the numbers of a text of the form
pub record HasNumbers (bytes : List ℕ) : Type 0 where
  pub year : ℕ
  pub month : ℕ
  pub day : ℕ
  pub hour : ℕ
  pub minute : ℕ
  pub second : ℕ
  pub text : bytes ≡ moment_text year month day hour minute second
  pub years : year ≤ 9999
  pub months : month ≤ 99
  pub days : day ≤ 99
  pub hours : hour ≤ 99
  pub minutes : minute ≤ 99
  pub seconds : second ≤ 99

pub has_numbers : (bytes : List ℕ) → moment_misfit bytes ≡ None → HasNumbers bytes
unfolding moment_text two four
has_numbers bytes e =
    let y = quad (45 ∷ 48 ∷ 48 ∷ 45 ∷ 48 ∷ 48 ∷ 84 ∷ 48 ∷ 48 ∷ 58 ∷ 48 ∷ 48 ∷ 58 ∷ 48 ∷ 48 ∷ []) 0 bytes e in
    let a = marked 45 (48 ∷ 48 ∷ 45 ∷ 48 ∷ 48 ∷ 84 ∷ 48 ∷ 48 ∷ 58 ∷ 48 ∷ 48 ∷ 58 ∷ 48 ∷ 48 ∷ []) 4 y.rest refl y.more in
    let m = pair (45 ∷ 48 ∷ 48 ∷ 84 ∷ 48 ∷ 48 ∷ 58 ∷ 48 ∷ 48 ∷ 58 ∷ 48 ∷ 48 ∷ []) 5 a.rest a.more in
    let b = marked 45 (48 ∷ 48 ∷ 84 ∷ 48 ∷ 48 ∷ 58 ∷ 48 ∷ 48 ∷ 58 ∷ 48 ∷ 48 ∷ []) 7 m.rest refl m.more in
    let d = pair (84 ∷ 48 ∷ 48 ∷ 58 ∷ 48 ∷ 48 ∷ 58 ∷ 48 ∷ 48 ∷ []) 8 b.rest b.more in
    let t = marked 84 (48 ∷ 48 ∷ 58 ∷ 48 ∷ 48 ∷ 58 ∷ 48 ∷ 48 ∷ []) 10 d.rest refl d.more in
    let h = pair (58 ∷ 48 ∷ 48 ∷ 58 ∷ 48 ∷ 48 ∷ []) 11 t.rest t.more in
    let v = marked 58 (48 ∷ 48 ∷ 58 ∷ 48 ∷ 48 ∷ []) 13 h.rest refl h.more in
    let i = pair (58 ∷ 48 ∷ 48 ∷ []) 14 v.rest v.more in
    let w = marked 58 (48 ∷ 48 ∷ []) 16 i.rest refl i.more in
    let s = pair [] 17 w.rest w.more in
    let last : s.rest ≡ [] = ended 19 s.rest s.more in
    let to_second = then_two s.number w.rest s.rest [] s.text last in
    let to_minute = then_mark 58 i.rest w.rest _ w.text to_second in
    let to_hour = then_mark 58 h.rest v.rest _ v.text (then_two i.number v.rest i.rest _ i.text to_minute) in
    let to_day = then_mark 84 d.rest t.rest _ t.text (then_two h.number t.rest h.rest _ h.text to_hour) in
    let to_month = then_mark 45 m.rest b.rest _ b.text (then_two d.number b.rest d.rest _ d.text to_day) in
    let to_year = then_mark 45 y.rest a.rest _ a.text (then_two m.number a.rest m.rest _ m.text to_month) in
    record {
      year = y.number;
      month = m.number;
      day = d.number;
      hour = h.number;
      minute = i.number;
      second = s.number;
      text = y.text ∙ ap (λ (l : List ℕ). four y.number ++ l) to_year;
      years = y.small;
      months = m.small;
      days = d.small;
      hours = h.small;
      minutes = i.small;
      seconds = s.small;
    }

-- ---- and back

pub text_formed : (year month day hour minute second : ℕ) → moment_misfit (moment_text year month day hour minute second) ≡ None
unfolding moment_text two four
text_formed year month day hour minute second =
    text-formed (year / 1000) (year / 100) (year / 10) year (month / 10) month (day / 10) day (hour / 10) hour (minute / 10) minute (second / 10) second

pub year_part : (year month day hour minute second : ℕ) → year ≤ 9999 → part (moment_text year month day hour minute second) 0 4 ≡ year
unfolding part moment_text two four
year_part year month day hour minute second few = four-digits year few

pub month_part : (year month day hour minute second : ℕ) → month ≤ 99 → part (moment_text year month day hour minute second) 5 2 ≡ month
unfolding part moment_text two four
month_part year month day hour minute second few = two-digits month few

pub day_part : (year month day hour minute second : ℕ) → day ≤ 99 → part (moment_text year month day hour minute second) 8 2 ≡ day
unfolding part moment_text two four
day_part year month day hour minute second few = two-digits day few

pub hour_part : (year month day hour minute second : ℕ) → hour ≤ 99 → part (moment_text year month day hour minute second) 11 2 ≡ hour
unfolding part moment_text two four
hour_part year month day hour minute second few = two-digits hour few

pub minute_part : (year month day hour minute second : ℕ) → minute ≤ 99 → part (moment_text year month day hour minute second) 14 2 ≡ minute
unfolding part moment_text two four
minute_part year month day hour minute second few = two-digits minute few

pub second_part : (year month day hour minute second : ℕ) → second ≤ 99 → part (moment_text year month day hour minute second) 17 2 ≡ second
unfolding part moment_text two four
second_part year month day hour minute second few = two-digits second few
