-- The words of qstat and qdel.
use Rattle.std.specs.Prelude.{◌≡◌, ℕ, ◌+◌, Bool, true, false, nat_le, List, [], ◌∷◌, drop, codes, Option, Some, None, if◌then◌else◌, Ok, Err}
use Rattle.std.specs.declared.result.Result.{Result}
use Rattle.std.specs.Global.{Vec}
pub use Rattle.nqs_base.specs.Reads.{◌>>=◌}
use Rattle.nqs_base.specs.Same.{name_eq}
use Rattle.nqs_base.specs.declared.name.Name.{Name}
use Rattle.nqs_query.specs.declared.words.NotNames.{NotNames}
use Rattle.nqs_query.specs.declared.words.NotNames.TheVariants.{Bad, Memory}
use Rattle.nqs_types.specs.declared.ids.Named.{Named}
use Rattle.nqs_types.specs.declared.event.Command.{Command}
use Rattle.nqs_types.specs.declared.event.Command.TheVariants as command
use Rattle.nqs_types.specs.declared.fault.WordsFault.{WordsFault}
use Rattle.nqs_types.specs.declared.fault.WordsCause.{WordsCause}
use Rattle.nqs_types.specs.declared.fault.WordsCause.TheVariants as cause
use Rattle.nqs_words.specs.Values.{name_of, named_of}
use Rattle.nqs_words.specs.declared.values.NotNamed.{NotNamed}
use Rattle.nqs_words.specs.declared.values.NotNamed.TheVariants.{BadNumber, BadName}

-- what words give, or the first fault
abbrev pub Read : Type 0 → Type 0
Read A = Result A WordsFault

-- the number of a word; the last 32 bits have goes for all that are further behind
abbrev pub word_number : ℕ → ℕ
word_number n = if nat_le n 4294967295 then n else 4294967295

-- a fault of the word of this number, counted from 1
abbrev pub fault_at : ℕ → WordsCause → WordsFault
fault_at number cause = record { cause = cause; line = 0; word = word_number number }

-- ---- qstat

-- one more name in front
abbrev pub with_name : Option (List ℕ) → Result (List (List ℕ)) ℕ → Result (List (List ℕ)) ℕ
with_name None others = Err 0
with_name (Some name) (Ok names) = Ok (name ∷ names)
with_name (Some name) (Err place) = Err (place + 1)

-- the words as names, or the place of the first that is none
unfoldable pub names_of : List (List ℕ) → Result (List (List ℕ)) ℕ
names_of [] = Ok []
names_of (word ∷ words) = with_name (name_of word) (names_of words)

-- what reading words as names answers; the cases exclude each other, but that memory may be wanting
abbrev pub ReadsNames : List (List ℕ) → Result (Vec Name) NotNames → Type 0
ReadsNames words (Ok names) = names_of words ≡ Ok names.items
ReadsNames words (Err (Bad place)) = names_of words ≡ Err place
ReadsNames words (Err (Memory memory)) = Unit {0}

-- the names of queues, the first of which is the word of this number
abbrev pub or_bad_name : ℕ → Result (List (List ℕ)) ℕ → Read (List (List ℕ))
or_bad_name number (Ok names) = Ok names
or_bad_name number (Err place) = Err (fault_at (number + place) cause.BadName)

-- the queues that words name, the first of which has this number, or the first fault
abbrev pub queues_from : ℕ → List (List ℕ) → Read (List (List ℕ))
queues_from number words = or_bad_name number (names_of words)

-- is the first word `-u`?
abbrev pub is_user_option : List (List ℕ) → Bool
is_user_option [] = false
is_user_option (word ∷ words) = name_eq (codes "-u") word

-- the user's name, or the fault of the second word
abbrev pub user_or_fault : Option (List ℕ) → Read (List ℕ)
user_or_fault (Some name) = Ok name
user_or_fault None = Err (fault_at 2 cause.BadName)

-- the user, who is the second word
abbrev pub user_word : List (List ℕ) → Read (List ℕ)
user_word [] = Err (fault_at 1 cause.Missing)
user_word (option ∷ []) = Err (fault_at 1 cause.Missing)
user_word (option ∷ user ∷ words) = user_or_fault (name_of user)

-- what words ask for: a user, where one is given, and queues
pub record Asked : Type 0 where
  pub user : Option (List ℕ)
  pub queues : List (List ℕ)

-- what is asked for behind `-u`: the requests of one user, in all queues or in those that are named
abbrev pub of_user : List (List ℕ) → Read Asked
of_user words = user_word words >>= (λ user. queues_from 3 (drop 2 words) >>= (λ queues. Ok (record { user = Some user; queues = queues })))

-- what is asked for without it: the requests of all users, in all queues or in those that are named
abbrev pub of_all : List (List ℕ) → Read Asked
of_all words = queues_from 1 words >>= (λ queues. Ok (record { user = None; queues = queues }))

-- what the words of qstat ask for, or the first fault
unfoldable pub stat_of : List (List ℕ) → Read Asked
stat_of words = if is_user_option words then of_user words else of_all words

-- the queues that are read are those that the words give, or their first fault is
abbrev pub ReadsQueues : ℕ → List (List ℕ) → Result (List Name) WordsFault → Type 0
ReadsQueues number words (Ok queues) = queues_from number words ≡ Ok queues
ReadsQueues number words (Err f) = queues_from number words ≡ Err f

-- a command is what was read, or its fault is
abbrev pub Stats : Read Asked → Result Command WordsFault → Type 0
Stats r (Ok c) = (asked : Asked) × (r ≡ Ok asked) × (c ≡ command.Stat asked.user asked.queues)
Stats r (Err f) = r ≡ Err f

-- what reading the words of qstat answers
abbrev pub ReadsStat : List (List ℕ) → Result Command WordsFault → Type 0
ReadsStat words answer = Stats (stat_of words) answer

-- ---- qdel

-- the request that the word of this number names, or its fault
abbrev pub named_or_fault : ℕ → Result Named NotNamed → Read Named
named_or_fault number (Ok id) = Ok id
named_or_fault number (Err BadNumber) = Err (fault_at number cause.BadNumber)
named_or_fault number (Err BadName) = Err (fault_at number cause.BadName)

-- no word stands there; it would have this number
abbrev pub nothing_more : ℕ → List (List ℕ) → Read (Unit {0})
nothing_more number [] = Ok tt
nothing_more number (word ∷ words) = Err (fault_at number cause.Unknown)

-- one request, whose word has this number
abbrev pub request_from : ℕ → Bool → List (List ℕ) → Read Command
request_from number kill [] = Err (fault_at number cause.Missing)
request_from number kill (word ∷ words) = named_or_fault number (named_of word) >>=
    (λ id. nothing_more (number + 1) words >>= (λ done. Ok (command.Delete id kill)))

-- is the word `-k`?
abbrev pub is_kill_option : List ℕ → Bool
is_kill_option word = name_eq (codes "-k") word

-- what the words of qdel ask for, or the first fault
unfoldable pub delete_of : List (List ℕ) → Read Command
delete_of [] = request_from 1 false []
delete_of (word ∷ words) = if is_kill_option word then request_from 2 true words else request_from 1 false (word ∷ words)
