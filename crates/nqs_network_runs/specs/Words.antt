-- The words of the command line, and what they ask for.
use Rattle.std.specs.Prelude.{◌≡◌, ℕ, ◌≤◌, Bool, true, false, List, [], ◌∷◌, codes, Option, Some, None, Ok, Err}
use Rattle.std.specs.Str.{bytes_eq}
use Rattle.std.specs.declared.result.Result.{Result}
use Rattle.clap.specs.Words.{App, Rule, Text, Kinds, new_app, new_rule, with_rule, fault_of, matches_of, first_of, first_value}
use Rattle.clap.specs.Simple.{on_top}
use Rattle.clap.specs.declared.builder.action.ArgAction.TheVariants.{Set, SetTrue}
use Rattle.clap.specs.declared.error.kind.ErrorKind.{ErrorKind}
use Rattle.clap.specs.declared.error.kind.ErrorKind.TheVariants as kind
use Rattle.clap.specs.declared.parser.matches.Found.{Found}
use Rattle.nqs_words.specs.Values.{number_of}
use Rattle.nqs_network_runs.specs.declared.words.Generation.{Generation}
use Rattle.nqs_network_runs.specs.declared.words.Ask.{Ask}
use Rattle.nqs_network_runs.specs.declared.words.WordsStop.{WordsStop}
use Rattle.nqs_network_runs.specs.declared.words.WordsStop.TheVariants as stop

-- an option with a value
abbrev pub option_rule : Text → Rule
option_rule name = record (new_rule name) { long = Some name; action = Some Set }

-- an option without a value
abbrev pub flag_rule : Text → Rule
flag_rule name = record (new_rule name) { long = Some name; action = Some SetTrue }

-- a command whose words are all options; it has no help
abbrev pub bare_app : App
bare_app = on_top (λ s. record s { no_binary_name = true; disable_help_flag = true }) (new_app (codes "nqs_replay"))

-- the flag and the three options
unfoldable pub replay_app : App
replay_app = with_rule (with_rule (with_rule (with_rule bare_app
    (flag_rule (codes "summary"))) (option_rule (codes "generate")))
    (option_rule (codes "hosts"))) (option_rule (codes "events"))

-- the value of an option, where it is given
unfoldable pub value_of : Text → List Text → Option Text
value_of name words = first_of name (matches_of replay_app words)

-- the schedule of a seed, on so many hosts, with so many events
abbrev pub generated : Option ℕ → Option ℕ → Option ℕ → Option (Option Generation)
generated (Some seed) (Some hosts) (Some events) = Some (Some (record { seed = seed; hosts = hosts; events = events }))
generated _ _ _ = None

-- the three options are all there, with plain numbers within their limits, or none of them is
unfoldable pub generation_of : Option Text → Option Text → Option Text → Option (Option Generation)
generation_of None None None = Some None
generation_of (Some seed) (Some hosts) (Some events) = generated (number_of 0 18446744073709551615 seed) (number_of 1 16 hosts) (number_of 0 100000 events)
generation_of _ _ _ = None

-- whether the flag was given: it then has the value `true`
abbrev pub is_true : Option Text → Bool
is_true None = false
is_true (Some text) = bytes_eq text (codes "true")

-- the summary or the transcript of what is to be run, where that is in form
abbrev pub with_summary : Bool → Option (Option Generation) → Option Ask
with_summary summary (Some generation) = Some (record { summary = summary; generation = generation })
with_summary summary None = None

-- what values of the options ask for
unfoldable pub asked_of : Option Text → Option Text → Option Text → Option Text → Option Ask
asked_of summary seed hosts events = with_summary (is_true summary) (generation_of seed hosts events)

-- what is asked where no word is at fault
abbrev pub without_fault : Kinds → Option Ask → Option Ask
without_fault [] ask = ask
without_fault (k ∷ ks) ask = None

-- what words ask for, where they are in form: `clap` finds no fault in them, and the values of the
-- options are in form
unfoldable pub asked : List Text → Option Ask
asked words = without_fault (fault_of replay_app words)
    (asked_of (value_of (codes "summary") words) (value_of (codes "generate") words) (value_of (codes "hosts") words) (value_of (codes "events") words))

-- what reading the words answers; the cases exclude each other, but that memory may be wanting
abbrev pub ReadsWords : List Text → Result Ask WordsStop → Type 0
ReadsWords words (Ok ask) = asked words ≡ Some ask
ReadsWords words (Err stop.BadWords) = asked words ≡ None
ReadsWords words (Err (stop.Memory want)) = Unit {0}
ReadsWords words (Err (stop.Unparsed refused)) = Unit {0}

-- what an error of this kind says of the words
abbrev pub StopsBy : ErrorKind → WordsStop → Type 0
StopsBy k stop.BadWords = k ≡ kind.OutOfMemory → ⊥
StopsBy k (stop.Memory want) = ⊥
StopsBy k (stop.Unparsed refused) = k ≡ kind.OutOfMemory

-- what the values that `clap` found ask for
abbrev pub asked_by : Found → Option Ask
asked_by f = asked_of (first_value f (codes "summary")) (first_value f (codes "generate")) (first_value f (codes "hosts")) (first_value f (codes "events"))

-- what is read of the matches that `clap` gives
abbrev pub GivenBy : Found → Result Ask WordsStop → Type 0
GivenBy f (Ok ask) = asked_by f ≡ Some ask
GivenBy f (Err stop.BadWords) = asked_by f ≡ None
GivenBy f (Err (stop.Memory want)) = ⊥
GivenBy f (Err (stop.Unparsed refused)) = ⊥

-- so many hosts as a site has
abbrev pub IsWithin : Option Generation → Type 0
IsWithin None = Unit {0}
IsWithin (Some g) = (1 ≤ g.hosts) × (g.hosts ≤ 16)
