-- Words of a line, with their places in bytes.
use Rattle.std.specs.Prelude.{ℕ, ◌+◌, ◌-◌, ◌≤◌, Bool, not, ◌||◌, ◌==◌, List, length, drop, Option, option_map, unwrap_or}
use Rattle.std.specs.List.{position}
use Rattle.nqs_words.specs.declared.words.Word.{Word}
use Rattle.nqs_words.specs.declared.words.Gaps.{Gaps}
use Rattle.nqs_words.specs.declared.words.Gaps.TheVariants.{Spaces, SpacesAndTabs}

-- which bytes part words
abbrev pub is_gap : Gaps → ℕ → Bool
is_gap Spaces b = b == 32
is_gap SpacesAndTabs b = b == 32 || b == 9

-- where a word that starts there ends
unfoldable pub end_of : Gaps → List ℕ → ℕ → ℕ
end_of gaps line start = start + unwrap_or (position (is_gap gaps) (drop start line)) (length line - start)

-- the first word from a place on
unfoldable pub next_word : Gaps → List ℕ → ℕ → Option Word
next_word gaps line place =
    option_map (λ gap. record { start = place + gap; end = end_of gaps line (place + gap) })
    (position (λ b. not (is_gap gaps b)) (drop place line))

-- the word lies in the line
pub record Fits (line : List ℕ) (word : Word) : Type 0 where
  pub order : word.start ≤ word.end
  pub inside : word.end ≤ length line
