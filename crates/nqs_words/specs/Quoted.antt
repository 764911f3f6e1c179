-- Quoted words, from the byte behind the quote on.
use Rattle.std.specs.Prelude.{◌≡◌, ℕ, zero, suc, ◌==◌, List, [], ◌∷◌, ◌++◌, length, drop, flat_map, Option, Some, None, if◌then◌else◌, Ok, Err}
use Rattle.std.specs.declared.result.Result.{Result}
use Rattle.std.specs.Global.{Vec}
use Rattle.nqs_words.specs.declared.quoted.Step.{Step}
use Rattle.nqs_words.specs.declared.quoted.Step.TheVariants.{End, Bad, Byte}
use Rattle.nqs_words.specs.declared.quoted.QuoteFault.{QuoteFault}
use Rattle.nqs_words.specs.declared.quoted.QuoteFault.TheVariants.{BadQuote, Memory}

-- what follows a backslash
abbrev pub escape_of : List ℕ → Step
escape_of [] = Bad
escape_of (c ∷ cs) = if c == 110 then Byte 10 2 else (if c == 34 then Byte 34 2 else (if c == 92 then Byte 92 2 else Bad))

-- what stands first within quotes: the end, a byte, or neither
unfoldable pub step_of : List ℕ → Step
step_of [] = Bad
step_of (b ∷ bs) = if b == 34 then End else (if b == 92 then escape_of bs else Byte b 1)

-- the bytes of a quoted word, and what follows its end
abbrev pub Quoted : Type 0
Quoted = Option (List ℕ × List ℕ)

-- with more bytes in front of the word
abbrev pub after : List ℕ → Quoted → Quoted
after word None = None
after word (Some p) = Some (word ++ p.0, p.1)

-- a quoted word by what stands first: its end, no word at all, or a byte and then the rest
abbrev pub by_step : List ℕ → Step → (List ℕ → Quoted) → Quoted
by_step bytes Bad next = None
by_step bytes End next = Some ([], drop 1 bytes)
by_step bytes (Byte b taken) next = after (b ∷ []) (next (drop taken bytes))

-- the word that ends within so many steps
unfoldable pub quoted : ℕ → List ℕ → Quoted
quoted zero bytes = None
quoted (suc n) bytes = by_step bytes (step_of bytes) (quoted n)

-- what reading a quoted word answers; the cases exclude each other
abbrev pub ReadsQuoted : List ℕ → Result (Vec ℕ × ℕ) QuoteFault → Type 0
ReadsQuoted bytes (Ok p) = quoted (length bytes) bytes ≡ Some (p.0.items, drop p.1 bytes)
ReadsQuoted bytes (Err BadQuote) = quoted (length bytes) bytes ≡ None
ReadsQuoted bytes (Err (Memory memory)) = Unit {0}

-- how a byte is written within quotes
abbrev pub escaped : ℕ → List ℕ
escaped b = if b == 10 then 92 ∷ 110 ∷ [] else (if b == 34 then 92 ∷ 34 ∷ [] else (if b == 92 then 92 ∷ 92 ∷ [] else b ∷ []))

-- how a word is written within quotes, with the quote at its end
abbrev pub quoted_text : List ℕ → List ℕ
quoted_text word = flat_map escaped word ++ 34 ∷ []
