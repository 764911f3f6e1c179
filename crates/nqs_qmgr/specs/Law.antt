-- What is read is what the grammar has, and the fault that is answered is the line's first one.
use Rattle.std.specs.Prelude.{◌≡◌, ◌↔◌, ◌⊎◌, ℕ, ◌≤◌, List, length, map, find, Some, is_some, Ok, Err, slice_range}
use Rattle.std.specs.List.{list_any}
use Rattle.std.specs.declared.result.Result.{Result}
use Rattle.nqs_types.specs.declared.event.Command.{Command}
use Rattle.nqs_types.specs.declared.fault.GrammarFault.{GrammarFault}
use Rattle.nqs_types.specs.declared.fault.GrammarFault.TheVariants as fault
use Rattle.nqs_words.specs.Words.{next_word}
use Rattle.nqs_words.specs.declared.words.Word.{Word}
use Rattle.nqs_words.specs.declared.words.Gaps.TheVariants.{SpacesAndTabs}
use Rattle.nqs_words.specs.Keywords.{spelling, is_same, keyword_of}
use Rattle.nqs_words.specs.declared.keyword.Keyword.{Keyword}
use Rattle.nqs_words.specs.declared.keywords.NoKeyword.{NoKeyword}
use Rattle.nqs_qmgr.specs.Shapes.{Shape}
use Rattle.nqs_qmgr.specs.Lines.{Line, table, is_line, verbs, nouns, shape_of, qmgr_line}
use Rattle.nqs_qmgr.specs.Says.{Says}
use Rattle.nqs_qmgr.specs.Faults.{Faults}

-- a line is read as a command exactly where the grammar has it
abbrev pub ReadsWhatIsSaid : Type 0
ReadsWhatIsSaid = (line : List ℕ) (command : Command) → qmgr_line line ≡ Ok command ↔ Says line command

-- a fault is answered exactly where the line has it
abbrev pub FindsTheFault : Type 0
FindsTheFault = (line : List ℕ) (fault : GrammarFault) → qmgr_line line ≡ Err fault ↔ Faults line fault

-- each line says a command or has a first fault
abbrev pub SaysOrFaults : Type 0
SaysOrFaults = (line : List ℕ) → ((command : Command) × Says line command) ⊎ ((fault : GrammarFault) × Faults line fault)

-- none has both
abbrev pub NeverBoth : Type 0
NeverBoth = (line : List ℕ) (command : Command) (fault : GrammarFault) → Says line command → Faults line fault → ⊥

-- none says two commands
abbrev pub OneCommand : Type 0
OneCommand = (line : List ℕ) (c d : Command) → Says line c → Says line d → c ≡ d

-- none has two first faults
abbrev pub OneFault : Type 0
OneFault = (line : List ℕ) (f g : GrammarFault) → Faults line f → Faults line g → f ≡ g

-- ---- the table

-- what is told of a line: the keywords that two words name, and what stands from there on
abbrev pub Telling : Type 0
Telling = Result Keyword NoKeyword × (Result Keyword NoKeyword × Shape)

-- what the keywords of a line tell, written in full: among the verbs, and among the second ones of
-- the verb
abbrev pub told_by : Line → Telling
told_by l = (keyword_of verbs (spelling l.verb), (keyword_of (nouns l.verb) (spelling l.noun), shape_of l.verb l.noun))

-- the line itself
abbrev pub as_it_stands : Line → Telling
as_it_stands l = (Ok l.verb, (Ok l.noun, l.shape))

-- each line of the table is told by its keywords: none is hidden by another
abbrev pub EachLineIsTold : Type 0
EachLineIsTold = map told_by table ≡ map as_it_stands table

-- a keyword stands among the second ones of a verb just where the table has a line of the two
abbrev pub NounsAreOfLines : Type 0
NounsAreOfLines = (verb noun : Keyword) → list_any (is_same noun) (nouns verb) ≡ is_some (find (is_line verb noun) table)

-- ---- a fault is decided by the words up to it

-- the words of the one line that end up to a byte stand in the other one too, with the same bytes
abbrev pub SharesWords : List ℕ → List ℕ → ℕ → Type 0
SharesWords line other end =
    ((place : ℕ) (word : Word) → next_word SpacesAndTabs line place ≡ Some word → word.end ≤ end → next_word SpacesAndTabs other place ≡ Some word)
    × ((from to : ℕ) → to ≤ end → slice_range line from to ≡ slice_range other from to)

-- the place that a fault tells, in bytes from the start of the line
abbrev pub place_of : GrammarFault → ℕ
place_of (fault.UnknownWord place) = place
place_of (fault.Ambiguous place) = place
place_of (fault.Missing place) = place
place_of (fault.Extra place) = place
place_of (fault.BadName place) = place
place_of (fault.BadNumber place) = place

-- the fault is told at the word, within it or right behind it
abbrev pub IsAt : GrammarFault → Word → Type 0
IsAt f word = (word.start ≤ place_of f) × (place_of f ≤ word.end)

-- a fault other than a missing word is at a word, and whatever follows that word, the line has this
-- fault: no command begins with these words
abbrev pub NoCommandBeginsSo : Type 0
NoCommandBeginsSo = (line : List ℕ) (f : GrammarFault) → Faults line f
    → (f ≡ fault.Missing (length line))
    ⊎ ((word : Word) × IsAt f word × ((other : List ℕ) → SharesWords line other word.end → Faults other f × ((command : Command) → Says other command → ⊥)))

-- the answer to a line: what it says, or its first fault
abbrev pub Answers : List ℕ → Result Command GrammarFault → Type 0
Answers line (Ok command) = Says line command
Answers line (Err fault) = Faults line fault
