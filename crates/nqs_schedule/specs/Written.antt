-- How the words of a line are written, apart from how they are split.
use Rattle.std.specs.Prelude.{◌≡◌, ◌≢◌, ◌⊎◌, ◌↔◌, ℕ, Bool, true, false, List, [], ◌∷◌, ◌++◌, All}
use Rattle.nqs_words.specs.Quoted.{quoted_text}
use Rattle.nqs_schedule.specs.Schedule.{IsLine}
use Rattle.nqs_schedule.specs.Events.{words_behind}
use Rattle.nqs_schedule.specs.Lines.{line_words}

-- nothing but spaces
abbrev pub AreSpaces : List ℕ → Type 0
AreSpaces gap = All (λ b. b ≡ 32) gap

-- there is a first byte, which is no quote
abbrev pub BeginsPlain : List ℕ → Type 0
BeginsPlain [] = ⊥
BeginsPlain (b ∷ bs) = b ≢ 34

-- some bytes that begin with no quote and have no space in them
abbrev pub IsPlain : List ℕ → Type 0
IsPlain text = BeginsPlain text × All (λ b. b ≢ 32) text

-- a word stands for itself, or is written within quotes
abbrev pub Writes : List ℕ → List ℕ → Type 0
Writes text word = (IsPlain text × (word ≡ text)) ⊎ (text ≡ 34 ∷ quoted_text word)

-- the line's end or a space
abbrev pub EndsWord : List ℕ → Type 0
EndsWord rest = (rest ≡ []) ⊎ ((more : List ℕ) × (rest ≡ 32 ∷ more))

-- spaces, a word, and what follows it
pub record BeginsWith (line word rest : List ℕ) : Type 0 where
  pub gap : List ℕ
  pub text : List ℕ
  pub written : line ≡ gap ++ (text ++ rest)
  pub spaces : AreSpaces gap
  pub writes : Writes text word
  pub over : EndsWord rest

-- spaces, and a quote that begins no quoted word
pub record BeginsBadly (line : List ℕ) : Type 0 where
  pub gap : List ℕ
  pub rest : List ℕ
  pub written : line ≡ gap ++ 34 ∷ rest
  pub spaces : AreSpaces gap
  pub unquoted : (word more : List ℕ) → rest ≡ quoted_text word ++ more → EndsWord more → ⊥

-- the line holds these words, and behind them nothing or a badly quoted one
abbrev pub Holds : List ℕ → List (List ℕ) → Bool → Type 0
Holds line [] false = AreSpaces line
Holds line [] true = BeginsBadly line
Holds line (word ∷ words) bad = (rest : List ℕ) × BeginsWith line word rest × Holds rest words bad

-- a line is split into the words that it holds
abbrev pub SplitsLines : Type 0
SplitsLines = (line : List ℕ) (words : List (List ℕ)) (bad : Bool) → IsLine line
    → ((words_behind (line_words line) 0 ≡ words) × ((line_words line).bad ≡ bad)) ↔ Holds line words bad
