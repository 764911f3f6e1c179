-- The first fault of a submission, apart from how it is read: the words before it give options, and
-- the word at its place doesn't give one more.
use Rattle.std.specs.Prelude.{◌≡◌, ◌⊎◌, ℕ, ◌+◌, ◌≤◌, ◌<◌, true, false, List, [], ◌∷◌, length, take, drop, Option, Some, None, Err}
use Rattle.nqs_types.specs.Scripts.{longest_script}
use Rattle.nqs_types.specs.declared.fault.WordsFault.{WordsFault}
use Rattle.nqs_types.specs.declared.fault.WordsCause.{WordsCause}
use Rattle.nqs_types.specs.declared.fault.WordsCause.TheVariants as cause
use Rattle.nqs_qsub.specs.declared.token.Source.{Source}
use Rattle.nqs_qsub.specs.declared.token.Source.TheVariants.{Command, Script}
use Rattle.nqs_qsub.specs.declared.token.Token.{Token}
use Rattle.nqs_qsub.specs.declared.options.Flag.{Flag}
use Rattle.nqs_qsub.specs.declared.options.Options.{Options}
use Rattle.nqs_qsub.specs.declared.reading.Progress.{Progress}
use Rattle.nqs_qsub.specs.declared.script.LineKind.TheVariants.{Words}
use Rattle.nqs_rules.specs.Step.{within}
use Rattle.nqs_qsub.specs.declared.token.Stated.{Stated}
use Rattle.nqs_qsub.specs.Tokens.{fault_at, stated, next_token, text_of}
use Rattle.nqs_qsub.specs.Options.{flag_of, no_options, is_given, is_both, takes_value, valued}
use Rattle.nqs_qsub.specs.Script.{line_kind, line_end, next_line}
use Rattle.nqs_qsub.specs.Qsub.{merged}
use Rattle.nqs_qsub.specs.Says.{MayStand, GivesOption, WordsGive, LineGives, ScriptGives, PathFits}

-- ---- words; faults are told at a line of the script, 0 for the command, and a number of a word

-- the option's value is missing, or its text isn't of its form or within its limits
abbrev pub NoValue : Source → List (List ℕ) → List ℕ → ℕ → ℕ → Token → Options → Flag → WordsFault → Type 0
NoValue source words text line n token o f fault =
    ((next_token source words text token.after ≡ None) × (fault ≡ fault_at line n cause.Missing))
    ⊎ ((value : Token) × (next_token source words text token.after ≡ Some value)
    × ((why : WordsCause) × (valued o f (text_of words text value.at) (stated value.at line (n + 1)) ≡ Err why)
    × (fault ≡ fault_at line (n + 1) why)))

-- the option was given before, or the one that excludes it, or its value doesn't stand
abbrev pub Misgiven : Source → List (List ℕ) → List ℕ → ℕ → ℕ → Token → Options → Flag → WordsFault → Type 0
Misgiven source words text line n token o f fault =
    ((is_given o f ≡ true) × (fault ≡ fault_at line n cause.Repeated))
    ⊎ (((is_given o f ≡ false) × ((is_both o f ≡ true) × (fault ≡ fault_at line n cause.Both)))
    ⊎ (MayStand o f × ((takes_value f ≡ true) × NoValue source words text line n token o f fault)))

-- the next word, of number n, is no option, or one that may not stand there
abbrev pub NoOption : Source → List (List ℕ) → List ℕ → ℕ → ℕ → ℕ → Options → WordsFault → Type 0
NoOption source words text line n place o fault =
    (token : Token) × (next_token source words text place ≡ Some token)
    × (((flag_of (text_of words text token.at) ≡ None) × (fault ≡ fault_at line n cause.Unknown))
    ⊎ ((f : Flag) × (flag_of (text_of words text token.at) ≡ Some f) × Misgiven source words text line n token o f fault))

-- behind these options, one after another, comes the fault
abbrev pub FaultsBehind : Source → List (List ℕ) → List ℕ → ℕ → ℕ → ℕ → Options → List Progress → WordsFault → Type 0
FaultsBehind source words text line n place o [] fault = NoOption source words text line n place o fault
FaultsBehind source words text line n place o (p ∷ steps) fault = GivesOption source words text line n place o p
    × FaultsBehind source words text line p.number p.place p.options steps fault

-- the words from a place on give options up to the first fault, which is this
abbrev pub WordsFail : Source → List (List ℕ) → List ℕ → ℕ → ℕ → Options → WordsFault → Type 0
WordsFail source words text line place o fault = (steps : List Progress) × FaultsBehind source words text line 1 place o steps fault

-- ---- lines of the script

-- behind these lines, one after another, comes the line with the fault
abbrev pub FaultsBelow : List ℕ → ℕ → ℕ → Options → List Options → WordsFault → Type 0
FaultsBelow script line place o [] fault = (line_kind (drop place script) ≡ Words)
    × WordsFail Script [] (take (line_end script place) script) line (place + 3) o fault
FaultsBelow script line place o (more ∷ lines) fault = LineGives script line place o more
    × FaultsBelow script (line + 1) (next_line script place) more lines fault

-- the lines of the script give options up to the first fault, which is this
abbrev pub ScriptFails : List ℕ → WordsFault → Type 0
ScriptFails script fault = (lines : List Options) × FaultsBelow script 1 0 no_options lines fault

-- ---- submissions

-- a stated path has over 255 bytes in the folder, which is told at its word
abbrev pub PathFails : List (List ℕ) → List ℕ → Option (List ℕ) → Option Stated → WordsFault → Type 0
PathFails words script folder None fault = ⊥
PathFails words script folder (Some path) fault =
    (255 < length (within folder (text_of words script path.at))) × (fault ≡ fault_at path.line path.number cause.BadPath)

-- the output's path has, or else the error output's
abbrev pub PathsFail : List (List ℕ) → List ℕ → Options → WordsFault → Type 0
PathsFail words script o fault =
    PathFails words script o.folder o.out fault ⊎ (PathFits words script o.folder o.out × PathFails words script o.folder o.error fault)

-- the first fault: a script that is too long, then the command's, then the script's, then that of
-- paths that don't fit into the folder
abbrev pub Faults : List (List ℕ) → List ℕ → WordsFault → Type 0
Faults words script fault =
    ((longest_script < length script) × (fault ≡ fault_at 0 0 cause.ScriptTooLong))
    ⊎ ((length script ≤ longest_script) × (WordsFail Command words [] 0 0 no_options fault
    ⊎ ((command : Options) × WordsGive Command words [] 0 0 no_options command × (ScriptFails script fault
    ⊎ ((scripted : Options) × ScriptGives script scripted × PathsFail words script (merged command scripted) fault)))))
