-- Words of the command and of a script's line, one after another.
use Rattle.std.specs.Prelude.{ℕ, ◌+◌, ◌&&◌, nat_lt, nat_le, List, [], length, get_or, slice_range, Option, Some, None, option_map, if◌then◌else◌, Ok, Err}
use Rattle.std.specs.declared.result.Result.{Result}
pub use Rattle.nqs_base.specs.Reads.{◌>>=◌, or_fault}
use Rattle.nqs_types.specs.declared.fault.WordsFault.{WordsFault}
use Rattle.nqs_types.specs.declared.fault.WordsCause.{WordsCause}
use Rattle.nqs_words.specs.Words.{next_word}
use Rattle.nqs_words.specs.declared.words.Word.{Word}
use Rattle.nqs_words.specs.declared.words.Gaps.TheVariants.{SpacesAndTabs}
use Rattle.nqs_qsub.specs.declared.token.Source.{Source}
use Rattle.nqs_qsub.specs.declared.token.Source.TheVariants.{Command, Script}
use Rattle.nqs_qsub.specs.declared.token.Place.{Place}
use Rattle.nqs_qsub.specs.declared.token.Place.TheVariants.{InCommand, InScript}
use Rattle.nqs_qsub.specs.declared.token.Token.{Token}
use Rattle.nqs_qsub.specs.declared.token.Stated.{Stated}

-- what a part of the words gives, or the first fault
abbrev pub Read : Type 0 → Type 0
Read A = Result A WordsFault

-- a fault of a word, by its line and its number in it
abbrev pub fault_at : ℕ → ℕ → WordsCause → WordsFault
fault_at line number cause = record { cause = cause; line = line; word = number }

-- the fault of what a word says
abbrev pub located : {A : Type 0} → ℕ → ℕ → Result A WordsCause → Read A
located {A} line number (Ok a) = Ok a
located {A} line number (Err cause) = Err (fault_at line number cause)

-- a word that states a value, by its place, its line and its number in it
abbrev pub stated : Place → ℕ → ℕ → Stated
stated at line number = record { at = at; line = line; number = number }

-- a word of the script, and the place behind it
abbrev pub word_token : Word → Token
word_token word = record { at = InScript word; after = word.end }

-- the next word from a place on: of the command's words, or of the front of a script up to a line's
-- end
unfoldable pub next_token : Source → List (List ℕ) → List ℕ → ℕ → Option Token
next_token Command words text place = if nat_lt place (length words) then Some (record { at = InCommand place; after = place + 1 }) else None
next_token Script words text place = if nat_le place (length text) then option_map word_token (next_word SpacesAndTabs text place) else None

-- the bytes of a word
unfoldable pub text_of : List (List ℕ) → List ℕ → Place → List ℕ
text_of words script (InCommand i) = get_or words i []
text_of words script (InScript word) = if nat_le word.start word.end && nat_le word.end (length script) then slice_range script word.start word.end else []
