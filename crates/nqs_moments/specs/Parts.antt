-- The numbers of a text of the form of a moment.
use Rattle.std.specs.Prelude.{ℕ, List, take, drop}
use Rattle.nqs_text.specs.Number.{decimal}
use Rattle.nqs_moments.specs.Moment.{IsSecond}

-- the number at a place of the text
unfoldable pub part : List ℕ → ℕ → ℕ → ℕ
part bytes place width = decimal (take width (drop place bytes))

-- the second that the numbers of the text name
abbrev pub IsNamed : List ℕ → ℕ → Type 0
IsNamed bytes = IsSecond (part bytes 0 4) (part bytes 5 2) (part bytes 8 2) (part bytes 11 2) (part bytes 14 2) (part bytes 17 2)
