-- Reading and printing undo each other, and the date of a moment is its text.
use Rattle.std.specs.Prelude.{◌≡◌, ℕ, ◌≤◌, List, ◌++◌, Ok}
use Rattle.std.specs.declared.result.Result.{Result}
use Rattle.nqs_moments.specs.declared.moment.MomentFault.{MomentFault}
use Rattle.nqs_text.specs.Dates.{date_text, last_moment}
use Rattle.nqs_moments.specs.Moment.{IsMoment, ReadsMoment, PrintsMoment}

-- a printed text reads as the moment that was printed
abbrev pub PrintedReadsBack : Type 0
PrintedReadsBack = (text : List ℕ) (moment : ℕ) (answer : Result ℕ MomentFault) → IsMoment text moment → ReadsMoment text answer → answer ≡ Ok moment

-- a moment that a text was read as prints as that text
abbrev pub ReadPrintsBack : Type 0
ReadPrintsBack = (text old new : List ℕ) (moment : ℕ) → ReadsMoment text (Ok moment) → PrintsMoment old moment (Ok tt) new → new ≡ old ++ text

-- the date of a moment, up to the last that is printed, is the text of its second
abbrev pub DateIsMoment : Type 0
DateIsMoment = (moment : ℕ) → moment ≤ last_moment → IsMoment (date_text moment) moment
