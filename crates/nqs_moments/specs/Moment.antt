-- Moments: seconds since the first of 1970 in UTC, and their text `YYYY-MM-DDTHH:MM:SS`.
use Rattle.std.specs.Prelude.{◌≡◌, ℕ, ◌+◌, ◌*◌, ◌<◌, ◌≤◌, Bool, ◌==◌, List, [], ◌∷◌, ◌++◌, codes, Option, Some, None, if◌then◌else◌, pos, ◌+ℤ◌, ◌*ℤ◌}
use Rattle.std.specs.Prelude.{Ok, Err}
use Rattle.std.specs.declared.result.Result.{Result}
use Rattle.jiff_core.specs.Calendar.{IsDate, days_from_civil}
use Rattle.nqs_base.specs.Name.{is_digit}
use Rattle.nqs_text.specs.Dates.{last_moment, moment_text}
use Rattle.nqs_moments.specs.declared.moment.MomentFault.{MomentFault}
use Rattle.nqs_moments.specs.declared.moment.MomentFault.TheVariants.{Form, Range}
use Rattle.nqs_moments.specs.declared.moment.PrintFault.{PrintFault}
use Rattle.nqs_moments.specs.declared.moment.PrintFault.TheVariants as print

-- a digit of the form stands for any digit, another byte for itself
abbrev pub suits : ℕ → ℕ → Bool
suits wanted b = if is_digit wanted then is_digit b else b == wanted

-- the first place, from a first one on, where the bytes leave the form
unfoldable pub misfit : List ℕ → ℕ → List ℕ → Option ℕ
misfit [] place [] = None
misfit [] place (b ∷ bs) = Some place
misfit (t ∷ ts) place [] = Some place
misfit (t ∷ ts) place (b ∷ bs) = if suits t b then misfit ts (place + 1) bs else Some place

-- the form of a moment; a `0` stands for any digit
abbrev pub moment_form : List ℕ
moment_form = codes "0000-00-00T00:00:00"

-- the first place where the bytes leave the form of a moment
abbrev pub moment_misfit : List ℕ → Option ℕ
moment_misfit bytes = misfit moment_form 0 bytes

-- the second since 1970 of a civil date and time; none is before it, since a moment is a natural
-- number
pub record IsSecond (year month day hour minute second moment : ℕ) : Type 0 where
  pub date : IsDate (pos year) (pos month) (pos day)
  pub hours : hour < 24
  pub minutes : minute < 60
  pub seconds : second < 60
  pub counted : pos moment ≡ (days_from_civil (pos year) month day *ℤ pos 86400) +ℤ pos (hour * 3600 + minute * 60 + second)

-- the bytes are the text of the date and time at that second
pub record IsMoment (bytes : List ℕ) (moment : ℕ) : Type 0 where
  pub year : ℕ
  pub month : ℕ
  pub day : ℕ
  pub hour : ℕ
  pub minute : ℕ
  pub second : ℕ
  pub text : bytes ≡ moment_text year month day hour minute second
  pub is_second : IsSecond year month day hour minute second moment

-- what reading a moment answers; the cases exclude each other
abbrev pub ReadsMoment : List ℕ → Result ℕ MomentFault → Type 0
ReadsMoment bytes (Ok moment) = IsMoment bytes moment
ReadsMoment bytes (Err (Form place)) = moment_misfit bytes ≡ Some place
ReadsMoment bytes (Err Range) = (moment_misfit bytes ≡ None) × ((moment : ℕ) → IsMoment bytes moment → ⊥)

-- what printing a moment behind the old bytes answers
abbrev pub PrintsMoment : List ℕ → ℕ → Result (Unit {0}) PrintFault → List ℕ → Type 0
PrintsMoment old moment (Ok done) new = (moment ≤ last_moment) × (text : List ℕ) × IsMoment text moment × (new ≡ old ++ text)
PrintsMoment old moment (Err print.Range) new = (last_moment < moment) × (new ≡ old)
PrintsMoment old moment (Err (print.Memory memory)) new = (moment ≤ last_moment) × (new ≡ old)
