-- The grammar: which words and which scripts give which options, apart from how they are read.
use Rattle.std.specs.Prelude.{◌≡◌, ◌⊎◌, ℕ, ◌+◌, ◌≤◌, true, false, List, [], ◌∷◌, length, take, drop, Option, Some, None, Ok}
use Rattle.nqs_types.specs.Scripts.{longest_script}
use Rattle.nqs_qsub.specs.declared.token.Source.{Source}
use Rattle.nqs_qsub.specs.declared.token.Source.TheVariants.{Command, Script}
use Rattle.nqs_qsub.specs.declared.token.Token.{Token}
use Rattle.nqs_qsub.specs.declared.options.Flag.{Flag}
use Rattle.nqs_qsub.specs.declared.options.Options.{Options}
use Rattle.nqs_qsub.specs.declared.reading.Progress.{Progress}
use Rattle.nqs_qsub.specs.declared.script.LineKind.TheVariants.{Last, Remark, Words}
use Rattle.nqs_rules.specs.Step.{within}
use Rattle.nqs_qsub.specs.declared.token.Stated.{Stated}
use Rattle.nqs_qsub.specs.Tokens.{next_token, stated, text_of}
use Rattle.nqs_qsub.specs.Options.{flag_of, no_options, is_given, is_both, takes_value, marked, valued}
use Rattle.nqs_qsub.specs.Script.{line_kind, line_end, next_line}
use Rattle.nqs_qsub.specs.Qsub.{merged}

-- ---- words

-- the option wasn't given before, nor the one that excludes it
abbrev pub MayStand : Options → Flag → Type 0
MayStand o f = (is_given o f ≡ false) × (is_both o f ≡ false)

-- the option takes no value
abbrev pub GivesMark : ℕ → Token → Options → Flag → Progress → Type 0
GivesMark n token o f p = (takes_value f ≡ false) × (p ≡ record { options = marked o f; number = n + 1; place = token.after })

-- the option takes a value, which is the next word of the line
abbrev pub GivesValue : Source → List (List ℕ) → List ℕ → ℕ → ℕ → Token → Options → Flag → Progress → Type 0
GivesValue source words text line n token o f p =
    (takes_value f ≡ true)
    × ((value : Token) × (next_token source words text token.after ≡ Some value)
    × ((more : Options) × (valued o f (text_of words text value.at) (stated value.at line (n + 1)) ≡ Ok more)
    × (p ≡ record { options = more; number = n + 2; place = value.after })))

-- an option stands next in the line, from the word of number n on; behind it there are these
-- options and that place
abbrev pub GivesOption : Source → List (List ℕ) → List ℕ → ℕ → ℕ → ℕ → Options → Progress → Type 0
GivesOption source words text line n place o p =
    (token : Token) × (next_token source words text place ≡ Some token)
    × ((f : Flag) × (flag_of (text_of words text token.at) ≡ Some f)
    × (MayStand o f × (GivesMark n token o f p ⊎ GivesValue source words text line n token o f p)))

-- options one behind another, up to the last word
abbrev pub GiveOptions : Source → List (List ℕ) → List ℕ → ℕ → ℕ → ℕ → Options → List Progress → Options → Type 0
GiveOptions source words text line n place o [] all = (next_token source words text place ≡ None) × (all ≡ o)
GiveOptions source words text line n place o (p ∷ steps) all = GivesOption source words text line n place o p
    × GiveOptions source words text line p.number p.place p.options steps all

-- the words of the line, 0 for the command, give from a place on these options besides those before
abbrev pub WordsGive : Source → List (List ℕ) → List ℕ → ℕ → ℕ → Options → Options → Type 0
WordsGive source words text line place o all = (steps : List Progress) × GiveOptions source words text line 1 place o steps all

-- ---- lines of the script

-- a line of this number that begins at the place, and isn't the last that is looked at: a remark,
-- or one of words behind its mark
abbrev pub LineGives : List ℕ → ℕ → ℕ → Options → Options → Type 0
LineGives script line place o more =
    ((line_kind (drop place script) ≡ Remark) × (more ≡ o))
    ⊎ ((line_kind (drop place script) ≡ Words) × WordsGive Script [] (take (line_end script place) script) line (place + 3) o more)

-- lines one behind another, up to one that ends the reading; the options behind each of them
abbrev pub GiveLines : List ℕ → ℕ → ℕ → Options → List Options → Options → Type 0
GiveLines script line place o [] all = (line_kind (drop place script) ≡ Last) × (all ≡ o)
GiveLines script line place o (more ∷ lines) all = LineGives script line place o more × GiveLines script (line + 1) (next_line script place) more lines all

-- the lines of the script give these options
abbrev pub ScriptGives : List ℕ → Options → Type 0
ScriptGives script all = (lines : List Options) × GiveLines script 1 0 no_options lines all

-- ---- submissions

-- a stated path has at most 255 bytes in the folder
abbrev pub PathFits : List (List ℕ) → List ℕ → Option (List ℕ) → Option Stated → Type 0
PathFits words script folder None = Unit {0}
PathFits words script folder (Some path) = length (within folder (text_of words script path.at)) ≤ 255

-- both paths of outputs do
abbrev pub PathsFit : List (List ℕ) → List ℕ → Options → Type 0
PathsFit words script o = PathFits words script o.folder o.out × PathFits words script o.folder o.error

-- the command's words and the script give these options: the command's where it has one, else the
-- script's; the paths fit into the folder
abbrev pub Says : List (List ℕ) → List ℕ → Options → Type 0
Says words script o =
    (length script ≤ longest_script) × ((command : Options) × WordsGive Command words [] 0 0 no_options command
    × ((scripted : Options) × ScriptGives script scripted × (PathsFit words script (merged command scripted) × (o ≡ merged command scripted))))
