-- The grammar: which lines say a command, apart from how they are read.
use Rattle.std.specs.Prelude.{◌≡◌, ℕ, ◌+◌, ◌<◌, ◌≤◌, true, false, List, [], ◌∷◌, Option, Some, None, is_some, Ok, slice_range}
use Rattle.nqs_types.specs.declared.ids.Named.{Named}
use Rattle.nqs_types.specs.declared.ids.NamedDest.{NamedDest}
use Rattle.nqs_types.specs.declared.event.Command.{Command}
use Rattle.nqs_types.specs.declared.event.Command.TheVariants as command
use Rattle.nqs_words.specs.Words.{next_word}
use Rattle.nqs_words.specs.Values.{name_of, named_of, number_of, dest_of}
use Rattle.nqs_words.specs.Keywords.{keyword_of}
use Rattle.nqs_words.specs.declared.words.Word.{Word}
use Rattle.nqs_words.specs.declared.words.Gaps.TheVariants.{SpacesAndTabs}
use Rattle.nqs_words.specs.declared.keyword.Keyword.{Keyword}
use Rattle.nqs_words.specs.declared.keyword.Keyword.TheVariants as k
use Rattle.nqs_qmgr.specs.declared.head.Head.{Head}
use Rattle.nqs_qmgr.specs.declared.options.Settings.{Settings}
use Rattle.nqs_qmgr.specs.Heads.{word_text, stem_of, limit_of}
use Rattle.nqs_qmgr.specs.Options.{no_settings}
use Rattle.nqs_qmgr.specs.Lines.{verbs, nouns, shape_of}
use Rattle.nqs_qmgr.specs.Shapes.{Shape, nothing, alone, one_name, number, name_value, number_and_name, limit_and_name, two_names, dest_and_name, one_request}
use Rattle.nqs_qmgr.specs.Shapes.{request_and_name, request_and_priority, name_and_forms, made_queue}

-- the next word from a place names one of the keywords
pub record HasHead (keywords : List Keyword) (line : List ℕ) (place : ℕ) (head : Head) : Type 0 where
  pub next : next_word SpacesAndTabs line place ≡ Some head.word
  pub stem : head.stem ≡ stem_of line head.word
  pub named : keyword_of keywords (slice_range line head.word.start head.stem) ≡ Ok head.keyword

-- the keyword has no `=`, and so no value
abbrev pub HasNoValue : Head → Type 0
HasNoValue head = head.word.end ≤ head.stem

-- the keyword has a value, whose text reads as this
abbrev pub Given : {A : Type 0} → (List ℕ → Option A) → List ℕ → Head → A → Type 0
Given read line head a = (head.stem < head.word.end) × (read (slice_range line (head.stem + 1) head.word.end) ≡ Some a)

-- no word is left
abbrev pub Ends : List ℕ → ℕ → Type 0
Ends line place = next_word SpacesAndTabs line place ≡ None

-- a name stands next, up to that place
abbrev pub NameIs : List ℕ → ℕ → List ℕ × ℕ → Type 0
NameIs line place p = (word : Word) × (next_word SpacesAndTabs line place ≡ Some word) × (name_of (word_text line word) ≡ Some p.0) × (p.1 ≡ word.end)

-- a request stands next, up to that place
abbrev pub RequestIs : List ℕ → ℕ → Named × ℕ → Type 0
RequestIs line place p = (word : Word) × (next_word SpacesAndTabs line place ≡ Some word) × (named_of (word_text line word) ≡ Ok p.0) × (p.1 ≡ word.end)

-- a name is all that is left
abbrev pub LastName : List ℕ → ℕ → List ℕ → Type 0
LastName line place name = (after : ℕ) × NameIs line place (name, after) × Ends line after

-- KEYWORD
abbrev pub Alone : List ℕ → Head → Type 0
Alone line head = HasNoValue head × Ends line head.word.end

-- KEYWORD Q
abbrev pub OneName : List ℕ → Head → List ℕ → Type 0
OneName line head q = HasNoValue head × LastName line head.word.end q

-- KEYWORD=VALUE
abbrev pub ValueAlone : {A : Type 0} → (List ℕ → Option A) → List ℕ → Head → A → Type 0
ValueAlone read line head a = Given read line head a × Ends line head.word.end

-- KEYWORD=VALUE Q
abbrev pub ValueAndName : {A : Type 0} → (List ℕ → Option A) → List ℕ → Head → A × List ℕ → Type 0
ValueAndName read line head p = Given read line head p.0 × LastName line head.word.end p.1

-- KEYWORD=VALUE as the last word
abbrev pub LastValue : {A : Type 0} → (List ℕ → Option A) → Keyword → List ℕ → ℕ → A → Type 0
LastValue read keyword line place a = (head : Head) × HasHead (keyword ∷ []) line place head × ValueAlone read line head a

-- KEYWORD SEQ.HOST, and what follows it
abbrev pub RequestThen : {A : Type 0} → (ℕ → A → Type 0) → List ℕ → Head → Named × A → Type 0
RequestThen Follows line head p = HasNoValue head × ((after : ℕ) × RequestIs line head.word.end (p.0, after) × Follows after p.1)

-- KEYWORD Q, and what follows it
abbrev pub NameThen : {A : Type 0} → (ℕ → A → Type 0) → List ℕ → Head → List ℕ × A → Type 0
NameThen Follows line head p = HasNoValue head × ((after : ℕ) × NameIs line head.word.end (p.0, after) × Follows after p.1)

-- KEYWORD SEQ.HOST
abbrev pub OneRequest : List ℕ → Head → Named → Type 0
OneRequest line head r = HasNoValue head × ((after : ℕ) × RequestIs line head.word.end (r, after) × Ends line after)

-- an option that wasn't given before, and the settings with it
abbrev pub GivesOption : List ℕ → Head → Settings → Keyword → Settings → Type 0
GivesOption line head s k.Priority more = (is_some s.priority ≡ false) × ((n : ℕ) × Given (number_of 0 63) line head n
    × (more ≡ record s { priority = Some n }))
GivesOption line head s k.RunLimit more = (is_some s.run_limit ≡ false) ×
    ((n : ℕ) × Given (number_of 0 10000) line head n × (more ≡ record s { run_limit = Some n }))
GivesOption line head s k.PipeOnly more = (s.pipe_only ≡ false) × (HasNoValue head × (more ≡ record s { pipe_only = true }))
GivesOption line head s k.Destination more = (is_some s.destination ≡ false)
    × ((d : NamedDest) × Given dest_of line head d × (more ≡ record s { destination = Some d }))
GivesOption line head s _ more = ⊥

-- options of these keywords, one behind another up to the line's end
abbrev pub GiveOptions : List Keyword → List ℕ → ℕ → Settings → List Head → Settings → Type 0
GiveOptions keywords line place s [] all = Ends line place × (all ≡ s)
GiveOptions keywords line place s (head ∷ heads) all =
    HasHead keywords line place head × ((more : Settings) × GivesOption line head s head.keyword more × GiveOptions keywords line head.word.end more heads all)

-- what the options of these keywords set, up to the end of the line
abbrev pub Options : List Keyword → List ℕ → ℕ → Settings → Type 0
Options keywords line place all = (heads : List Head) × GiveOptions keywords line place no_settings heads all

-- the line has the shape, and its values make the command
abbrev pub HasShape : Shape → List ℕ → Head → Command → Type 0
HasShape nothing line head c = ⊥
HasShape (alone d) line head c = Alone line head × (c ≡ d)
HasShape (one_name f) line head c = (q : List ℕ) × OneName line head q × (c ≡ f q)
HasShape (number low high f) line head c = (n : ℕ) × ValueAlone (number_of low high) line head n × (c ≡ f n)
HasShape (name_value f) line head c = (q : List ℕ) × ValueAlone name_of line head q × (c ≡ f q)
HasShape (number_and_name low high f) line head c = (p : ℕ × List ℕ) × ValueAndName (number_of low high) line head p × (c ≡ f p.0 p.1)
HasShape (limit_and_name amount f) line head c = (p : Option ℕ × List ℕ) × ValueAndName (limit_of amount) line head p × (c ≡ f p.0 p.1)
HasShape (two_names f) line head c = (p : List ℕ × List ℕ) × ValueAndName name_of line head p × (c ≡ f p.0 p.1)
HasShape (dest_and_name f) line head c = (p : NamedDest × List ℕ) × ValueAndName dest_of line head p × (c ≡ f p.0 p.1)
HasShape (one_request f) line head c = (r : Named) × OneRequest line head r × (c ≡ f r)
HasShape (request_and_name f) line head c = (p : Named × List ℕ) × RequestThen (LastName line) line head p × (c ≡ f p.0 p.1)
HasShape (request_and_priority f) line head c = (p : Named × ℕ) × RequestThen (LastValue (number_of 0 63) k.Priority line) line head p × (c ≡ f p.0 p.1)
HasShape (name_and_forms f) line head c = (p : List ℕ × List ℕ) × NameThen (LastValue name_of k.Forms line) line head p × (c ≡ f p.0 p.1)
HasShape (made_queue keywords f) line head c = (p : List ℕ × Settings) × NameThen (Options keywords line) line head p × (c ≡ f p.0 p.1)

-- what the line says behind its verb
abbrev pub AfterVerb : List ℕ → Head → Keyword → Command → Type 0
AfterVerb line verb k.Shutdown c = Alone line verb × (c ≡ command.Shutdown)
AfterVerb line verb keyword c = HasNoValue verb × ((head : Head) × HasHead (nouns keyword) line verb.word.end head
    × HasShape (shape_of keyword head.keyword) line head c)

-- the line says the command
abbrev pub Says : List ℕ → Command → Type 0
Says line c = (verb : Head) × HasHead verbs line 0 verb × AfterVerb line verb verb.keyword c
