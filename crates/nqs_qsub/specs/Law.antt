-- What is read is what the grammar has, and the fault that is answered is the submission's first
-- one.
use Rattle.std.specs.Prelude.{◌≡◌, ◌↔◌, ◌⊎◌, ℕ, List, [], ◌∷◌, ◌++◌, codes, Some, Ok, Err}
use Rattle.std.specs.declared.result.Result.{Result}
use Rattle.nqs_types.specs.declared.fault.WordsFault.{WordsFault}
use Rattle.nqs_types.specs.declared.event.Submission.{Submission}
use Rattle.nqs_words.specs.Values.{name_of}
use Rattle.nqs_qsub.specs.declared.options.Options.{Options}
use Rattle.nqs_qsub.specs.Qsub.{qsub_options, submission}
use Rattle.nqs_qsub.specs.Says.{Says}
use Rattle.nqs_qsub.specs.Faults.{Faults}

-- words and a script are read as options exactly where the grammar has them
abbrev pub ReadsWhatIsSaid : Type 0
ReadsWhatIsSaid = (words : List (List ℕ)) (script : List ℕ) (o : Options) → qsub_options words script ≡ Ok o ↔ Says words script o

-- a fault is answered exactly where they have it
abbrev pub FindsTheFault : Type 0
FindsTheFault = (words : List (List ℕ)) (script : List ℕ) (fault : WordsFault) → qsub_options words script ≡ Err fault ↔ Faults words script fault

-- words and a script give options or have a first fault
abbrev pub SaysOrFaults : Type 0
SaysOrFaults = (words : List (List ℕ)) (script : List ℕ) → ((o : Options) × Says words script o) ⊎ ((fault : WordsFault) × Faults words script fault)

-- none have both
abbrev pub NeverBoth : Type 0
NeverBoth = (words : List (List ℕ)) (script : List ℕ) (o : Options) (fault : WordsFault) → Says words script o → Faults words script fault → ⊥

-- none have two first faults
abbrev pub OneFault : Type 0
OneFault = (words : List (List ℕ)) (script : List ℕ) (f g : WordsFault) → Faults words script f → Faults words script g → f ≡ g

-- words that end with the folder's option and a name put the outputs into the folder of that name,
-- whatever stands before them and in the script
abbrev pub LastFolderHolds : Type 0
LastFolderHolds = (own : List (List ℕ)) (name script : List ℕ) (o : Options) → name_of name ≡ Some name
    → Says (own ++ codes "-do" ∷ name ∷ []) script o → o.folder ≡ Some name

-- the answer to words and a script: the submission that they make, or their first fault
abbrev pub Answers : List ℕ → List (List ℕ) → List ℕ → Result Submission WordsFault → Type 0
Answers user words script (Ok s) = (o : Options) × Says words script o × (s ≡ submission user words script o)
Answers user words script (Err f) = Faults words script f
