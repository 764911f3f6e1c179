-- Words and keywords at a place of a line, and values behind keywords.
use Rattle.std.specs.Prelude.{ℕ, ◌+◌, ◌-◌, ◌≤◌, nat_lt, List, length, codes, Option, Some, None, option_map, if◌then◌else◌, Ok, Err, unwrap_or, slice_range}
use Rattle.std.specs.declared.result.Result.{Result}
use Rattle.nqs_base.specs.Same.{name_eq}
use Rattle.nqs_types.specs.declared.ids.Named.{Named}
use Rattle.nqs_types.specs.declared.fault.GrammarFault.{GrammarFault}
use Rattle.nqs_types.specs.declared.fault.GrammarFault.TheVariants as fault
use Rattle.nqs_words.specs.Words.{next_word, Fits}
use Rattle.nqs_words.specs.Values.{name_of, named_of, number_of, place_of}
use Rattle.nqs_words.specs.Amounts.{time_of, size_of}
use Rattle.nqs_words.specs.Keywords.{keyword_of}
use Rattle.nqs_words.specs.declared.words.Word.{Word}
use Rattle.nqs_words.specs.declared.words.Gaps.TheVariants.{SpacesAndTabs}
use Rattle.nqs_words.specs.declared.keyword.Keyword.{Keyword}
use Rattle.nqs_words.specs.declared.keywords.NoKeyword.{NoKeyword}
use Rattle.nqs_words.specs.declared.keywords.NoKeyword.TheVariants.{Unknown, Ambiguous}
use Rattle.nqs_words.specs.declared.values.NotNamed.{NotNamed}
use Rattle.nqs_words.specs.declared.values.NotNamed.TheVariants.{BadNumber, BadName}
use Rattle.nqs_qmgr.specs.declared.head.Head.{Head}
use Rattle.nqs_qmgr.specs.declared.value.Amount.{Amount}
use Rattle.nqs_qmgr.specs.declared.value.Amount.TheVariants.{Count, Time, Size}
use Rattle.nqs_qmgr.specs.Read.{Read, ◌>>=◌, or_fault}

-- the keyword's word lies in the line, and its stem in it
pub record FitsLine (line : List ℕ) (head : Head) : Type 0 where
  pub word : Fits line head.word
  pub above : head.word.start ≤ head.stem
  pub below : head.stem ≤ head.word.end

-- the bytes of a word of the line
abbrev pub word_text : List ℕ → Word → List ℕ
word_text line word = slice_range line word.start word.end

-- ---- words

-- the next word, or that it is missing, at the end of the line
unfoldable pub word_at : List ℕ → ℕ → Read Word
word_at line place = or_fault (next_word SpacesAndTabs line place) (fault.Missing (length line))

-- the name that stands next, and the place behind it
unfoldable pub name_at : List ℕ → ℕ → Read (List ℕ × ℕ)
name_at line place = do
  word ← word_at line place
  name ← or_fault (name_of (word_text line word)) (fault.BadName word.start)
  Ok (name, word.end)

-- the request that a word says, or the fault at the place of that word
abbrev pub or_not_named : ℕ → Result Named NotNamed → Read Named
or_not_named place (Ok id) = Ok id
or_not_named place (Err BadNumber) = Err (fault.BadNumber place)
or_not_named place (Err BadName) = Err (fault.BadName place)

-- the request that stands next, and the place behind it
unfoldable pub request_at : List ℕ → ℕ → Read (Named × ℕ)
request_at line place = do
  word ← word_at line place
  id ← or_not_named word.start (named_of (word_text line word))
  Ok (id, word.end)

-- a word that is left is one too many
abbrev pub nothing_more : Option Word → Read (Unit {0})
nothing_more None = Ok tt
nothing_more (Some word) = Err (fault.Extra word.start)

-- no word may stand from the place on
unfoldable pub nothing_after : List ℕ → ℕ → Read (Unit {0})
nothing_after line place = nothing_more (next_word SpacesAndTabs line place)

-- a name, and nothing behind it
unfoldable pub last_name : List ℕ → ℕ → Read (List ℕ)
last_name line place = do
  name ← name_at line place
  done ← nothing_after line name.1
  Ok name.0

-- ---- keywords

-- where the word's first `=` stands, or its end
unfoldable pub stem_of : List ℕ → Word → ℕ
stem_of line word = word.start + unwrap_or (place_of 61 (word_text line word)) (word.end - word.start)

-- the keyword that a word names, or the fault at the place of that word
abbrev pub chosen : ℕ → Result Keyword NoKeyword → Read Keyword
chosen place (Ok keyword) = Ok keyword
chosen place (Err Unknown) = Err (fault.UnknownWord place)
chosen place (Err Ambiguous) = Err (fault.Ambiguous place)

-- the keyword that a word names, up to its first `=`
unfoldable pub head_of : List Keyword → List ℕ → Word → Read Head
head_of keywords line word = do
  keyword ← chosen word.start (keyword_of keywords (slice_range line word.start (stem_of line word)))
  Ok (record { keyword = keyword; word = word; stem = stem_of line word })

-- the keyword that the next word names
unfoldable pub head_at : List Keyword → List ℕ → ℕ → Read Head
head_at keywords line place = do
  word ← word_at line place
  head_of keywords line word

-- the place behind a keyword that takes no value
unfoldable pub bare : Head → Read ℕ
bare head = if nat_lt head.stem head.word.end then Err (fault.Extra head.word.start) else Ok head.word.end

-- ---- values

-- the place of the keyword's value
unfoldable pub value_at : Head → Read ℕ
value_at head = if nat_lt head.stem head.word.end then Ok (head.stem + 1) else Err (fault.Missing head.word.end)

-- the keyword's value, as its text reads
unfoldable pub valued : {A : Type 0} → (List ℕ → Option A) → (ℕ → GrammarFault) → List ℕ → Head → Read A
valued read bad line head = do
  place ← value_at head
  or_fault (read (slice_range line place head.word.end)) (bad place)

-- a count, a time or a size
abbrev pub amount_of : Amount → List ℕ → Option ℕ
amount_of Count bytes = number_of 0 10000 bytes
amount_of Time bytes = time_of bytes
amount_of Size bytes = size_of bytes

-- an amount, or `none`
unfoldable pub limit_of : Amount → List ℕ → Option (Option ℕ)
limit_of amount bytes = if name_eq (codes "none") bytes then Some None else option_map (λ n. Some n) (amount_of amount bytes)
