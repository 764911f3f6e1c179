-- What words of qstat and qdel say, and their first faults, apart from how they are read.
use Rattle.std.specs.Prelude.{◌≡◌, ◌≢◌, ◌⊎◌, ◌↔◌, ℕ, ◌+◌, Bool, true, false, List, [], ◌∷◌, ◌++◌, length, codes, Option, Some, None, Ok, Err}
use Rattle.nqs_base.specs.Name.{IsName}
use Rattle.nqs_types.specs.declared.ids.Named.{Named}
use Rattle.nqs_types.specs.declared.event.Command.{Command}
use Rattle.nqs_types.specs.declared.event.Command.TheVariants as command
use Rattle.nqs_types.specs.declared.fault.WordsFault.{WordsFault}
use Rattle.nqs_types.specs.declared.fault.WordsCause.{WordsCause}
use Rattle.nqs_types.specs.declared.fault.WordsCause.TheVariants as cause
use Rattle.nqs_words.specs.Spelled.{IsRequest, HasNoSeq, HasNoHost}
use Rattle.nqs_query.specs.Words.{Read, Asked, fault_at, stat_of, delete_of}

-- ---- qstat [-u USER] [QUEUE]..

-- `-u USER` in front, where the requests of one user are asked for
abbrev pub user_words : Option (List ℕ) → List (List ℕ)
user_words None = []
user_words (Some user) = codes "-u" ∷ user ∷ []

-- the words that ask for this
abbrev pub stat_words : Asked → List (List ℕ)
stat_words asked = user_words asked.user ++ asked.queues

-- each word is a name
abbrev pub AreNames : List (List ℕ) → Type 0
AreNames [] = Unit {0}
AreNames (word ∷ words) = IsName word × AreNames words

-- the user, where one is named, has a name
abbrev pub MayBeName : Option (List ℕ) → Type 0
MayBeName None = Unit {0}
MayBeName (Some user) = IsName user

-- only names are asked for
abbrev pub HasNames : Asked → Type 0
HasNames asked = MayBeName asked.user × AreNames asked.queues

-- the words are those that ask for this
abbrev pub SaysStat : List (List ℕ) → Asked → Type 0
SaysStat words asked = (words ≡ stat_words asked) × HasNames asked

-- behind words that ask for something stands one that is no name, nor the option in front
pub record IsBadQueue (words : List (List ℕ)) (asked : Asked) (word : List ℕ) : Type 0 where
  pub more : List (List ℕ)
  pub written : words ≡ stat_words asked ++ word ∷ more
  pub before : HasNames asked
  pub bad : IsName word → ⊥
  pub no_option : stat_words asked ≡ [] → word ≢ codes "-u"

-- the first fault of words of qstat
abbrev pub FaultsStat : List (List ℕ) → WordsFault → Type 0
FaultsStat words fault =
    ((words ≡ codes "-u" ∷ []) × (fault ≡ fault_at 1 cause.Missing))
    ⊎ ((user : List ℕ) × (more : List (List ℕ)) × (words ≡ codes "-u" ∷ user ∷ more) × (IsName user → ⊥) × (fault ≡ fault_at 2 cause.BadName))
    ⊎ ((asked : Asked) × (word : List ℕ) × IsBadQueue words asked word × (fault ≡ fault_at (length (stat_words asked) + 1) cause.BadName))

-- the words of qstat ask for this, or this is their first fault
abbrev pub SaysStatOrFaults : List (List ℕ) → Read Asked → Type 0
SaysStatOrFaults words (Ok asked) = SaysStat words asked
SaysStatOrFaults words (Err fault) = FaultsStat words fault

-- words are read as what they say, or by their first fault, and each is just one of these
abbrev pub ReadsStats : Type 0
ReadsStats = (words : List (List ℕ)) (answer : Read Asked) → stat_of words ≡ answer ↔ SaysStatOrFaults words answer

-- ---- qdel [-k] SEQ.HOST

-- `-k` in front, where a running job is to be ended
abbrev pub kill_words : Bool → List (List ℕ)
kill_words true = codes "-k" ∷ []
kill_words false = []

-- the words of a deletion
pub record SaysDelete (words : List (List ℕ)) (c : Command) : Type 0 where
  pub kill : Bool
  pub text : List ℕ
  pub id : Named
  pub written : words ≡ kill_words kill ++ text ∷ []
  pub request : IsRequest text id
  pub asks : c ≡ command.Delete id kill

-- the word of a request, which isn't the option
pub record HasWord (words : List (List ℕ)) (kill : Bool) (text : List ℕ) (more : List (List ℕ)) : Type 0 where
  pub written : words ≡ kill_words kill ++ text ∷ more
  pub no_option : kill ≡ false → text ≢ codes "-k"

-- why a word is no request
abbrev pub IsNoRequest : List ℕ → WordsCause → Type 0
IsNoRequest text cause.BadNumber = HasNoSeq text
IsNoRequest text cause.BadName = HasNoHost text
IsNoRequest text _ = ⊥

-- the first fault of words of qdel
abbrev pub FaultsDelete : List (List ℕ) → WordsFault → Type 0
FaultsDelete words fault =
    ((kill : Bool) × (words ≡ kill_words kill) × (fault ≡ fault_at (length words + 1) cause.Missing))
    ⊎ ((kill : Bool) × (text : List ℕ) × (more : List (List ℕ)) × (why : WordsCause) × HasWord words kill text more × IsNoRequest text why
    × (fault ≡ fault_at (length (kill_words kill) + 1) why))
    ⊎ ((kill : Bool) × (text : List ℕ) × (id : Named) × (word : List ℕ) × (more : List (List ℕ)) × (words ≡ kill_words kill ++ text ∷ word ∷ more)
    × IsRequest text id × (fault ≡ fault_at (length (kill_words kill) + 2) cause.Unknown))

-- the words of qdel ask for this, or this is their first fault
abbrev pub SaysDeleteOrFaults : List (List ℕ) → Read Command → Type 0
SaysDeleteOrFaults words (Ok c) = SaysDelete words c
SaysDeleteOrFaults words (Err fault) = FaultsDelete words fault

-- words of qdel are read as what they say, or by their first fault, and each is just one of these
abbrev pub ReadsDeletes : Type 0
ReadsDeletes = (words : List (List ℕ)) (answer : Read Command) → delete_of words ≡ answer ↔ SaysDeleteOrFaults words answer
