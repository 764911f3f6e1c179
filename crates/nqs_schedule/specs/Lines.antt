-- A line's words, parted by spaces; a quoted word stands for its bytes.
use Rattle.std.specs.Prelude.{ℕ, zero, suc, ◌+◌, ◌-◌, ◌≤◌, Bool, true, false, ◌==◌, List, [], ◌∷◌, length, drop, slice_range, Option, Some, None, if◌then◌else◌}
use Rattle.nqs_words.specs.Words.{next_word}
use Rattle.nqs_words.specs.Quoted.{Quoted, quoted}
use Rattle.nqs_words.specs.declared.words.Word.{Word}
use Rattle.nqs_words.specs.declared.words.Gaps.TheVariants.{Spaces}
use Rattle.nqs_schedule.specs.declared.words.LineWords.{LineWords}
use Rattle.nqs_schedule.specs.declared.words.Next.{Next}
use Rattle.nqs_schedule.specs.declared.words.Next.TheVariants.{End, BadQuote, Found}

-- is a word over here?
abbrev pub is_over : List ℕ → Bool
is_over [] = true
is_over (b ∷ bs) = b == 32

-- does a quoted word begin here?
abbrev pub begins_with_quote : List ℕ → Bool
begins_with_quote [] = false
begins_with_quote (b ∷ bs) = b == 34

-- a quoted word, by its bytes and what follows it
abbrev pub by_quoted : List ℕ → Quoted → Next
by_quoted line None = BadQuote
by_quoted line (Some p) = if is_over p.1 then Found (record { text = p.0; end = length line - length p.1 }) else BadQuote

-- the word that begins with the quote there
unfoldable pub quoted_word : List ℕ → ℕ → Next
quoted_word line start = by_quoted line (quoted (length (drop (start + 1) line)) (drop (start + 1) line))

-- the word that begins there, quoted or plain
unfoldable pub word_there : List ℕ → Word → Next
word_there line word = if begins_with_quote (drop word.start line) then quoted_word line word.start else
    Found (record { text = slice_range line word.start word.end; end = word.end })

-- the word that begins there, or the end of the line
abbrev pub or_end : List ℕ → Option Word → Next
or_end line None = End
or_end line (Some word) = word_there line word

-- what stands next in a line
unfoldable pub next_of : List ℕ → ℕ → Next
next_of line place = or_end line (next_word Spaces line place)

-- a next word ends within the line
abbrev pub NextFits : List ℕ → Next → Type 0
NextFits line (Found word) = word.end ≤ length line
NextFits line _ = Unit {0}

-- the words from a next one on
abbrev pub by_next : Next → (ℕ → LineWords) → LineWords
by_next End more = record { words = []; bad = false }
by_next BadQuote more = record { words = []; bad = true }
by_next (Found word) more = record { words = word ∷ (more word.end).words; bad = (more word.end).bad }

-- at most so many words from a place on, up to a bad quote
unfoldable pub words_from : ℕ → List ℕ → ℕ → LineWords
words_from zero line place = record { words = []; bad = false }
words_from (suc n) line place = by_next (next_of line place) (words_from n line)

-- the words of a line
abbrev pub line_words : List ℕ → LineWords
line_words line = words_from (length line) line 0
