-- What a line says: nothing, the hosts of the site, or an event.
use Rattle.std.specs.Prelude.{◌≡◌, ℕ, Bool, true, false, ◌&&◌, ◌==◌, nat_le, List, [], ◌∷◌, ◌++◌, length, drop, Option, Some, None, if◌then◌else◌, Ok}
use Rattle.std.specs.Prelude.{Err, slice_get}
use Rattle.std.specs.declared.result.Result.{Result}
use Rattle.nqs_rules.specs.Find.{has_name}
use Rattle.nqs_words.specs.Values.{name_of}
use Rattle.nqs_schedule.specs.declared.cause.Cause.TheVariants as cause
use Rattle.nqs_schedule.specs.declared.words.LineWord.{LineWord}
use Rattle.nqs_schedule.specs.declared.words.LineWords.{LineWords}
use Rattle.nqs_schedule.specs.declared.plan.Verb.{Verb}
use Rattle.nqs_schedule.specs.declared.plan.Verb.TheVariants as verb
use Rattle.nqs_schedule.specs.declared.line.Says.{Says}
use Rattle.nqs_schedule.specs.declared.line.Says.TheVariants.{Nothing, Hosts, Event}
use Rattle.nqs_schedule.specs.declared.line.ReadError.{ReadError}
use Rattle.nqs_schedule.specs.declared.line.ReadError.TheVariants.{Bad, Memory}
use Rattle.nqs_schedule.specs.Lines.{line_words}
use Rattle.nqs_schedule.specs.Words.{Read, ◌>>=◌, or_fault, no_word}
use Rattle.nqs_schedule.specs.Plans.{verb_of, plan_of}
use Rattle.nqs_schedule.specs.Events.{event_of}

-- a further host of a site
abbrev pub further_host : List (List ℕ) → Option (List ℕ) → Read (List ℕ)
further_host site None = Err cause.BadName
further_host site (Some name) = if has_name site name then Err cause.HostTwice else
    (if nat_le 16 (length site) then Err cause.TooManyHosts else Ok name)

-- the hosts that words name, behind those of a site
unfoldable pub hosts_from : List (List ℕ) → List LineWord → Bool → Read (List (List ℕ))
hosts_from site [] bad = if bad then Err cause.BadQuote else Ok site
hosts_from site (word ∷ words) bad = further_host site (name_of word.text) >>= (λ name. hosts_from (site ++ name ∷ []) words bad)

-- the hosts that words name, at least one
abbrev pub some_hosts : Bool → List LineWord → Read (List (List ℕ))
some_hosts bad [] = Err (no_word bad)
some_hosts bad (word ∷ words) = hosts_from [] (word ∷ words) bad

-- the hosts of a line of hosts, from its second word on
unfoldable pub hosts_of : LineWords → Read (List (List ℕ))
hosts_of ws = some_hosts ws.bad (drop 1 ws.words)

-- the answer is what is read, but that memory may be wanting
abbrev pub Answers : {A : Type 0} → Result A ReadError → Read A → Type 0
Answers {A} (Ok a) r = r ≡ Ok a
Answers {A} (Err (Bad why)) r = r ≡ Err why
Answers {A} (Err (Memory memory)) r = Unit {0}

-- an empty line, or one that begins with `#`
abbrev pub is_remark : List ℕ → Bool
is_remark [] = true
is_remark (b ∷ bs) = b == 35

-- is it the verb of a line of hosts?
abbrev pub is_hosts : Verb → Bool
is_hosts verb.Hosts = true
is_hosts _ = false

-- what a line of hosts says
abbrev pub hosts_say : LineWords → Read Says
hosts_say ws = hosts_of ws >>= (λ hosts. Ok (Hosts hosts))

-- the event of a verb's line
abbrev pub event_says : List (List ℕ) → List ℕ → LineWords → Verb → Read Says
event_says site line ws v = plan_of site ws v >>= (λ plan. Ok (Event (event_of line ws plan)))

-- what the line of a verb says; `is_open`: no line before it said anything
unfoldable pub verb_says : List (List ℕ) → Bool → List ℕ → LineWords → Verb → Read Says
verb_says site is_open line ws v = if is_hosts v && is_open then hosts_say ws else event_says site line ws v

-- what a line says by its first word, or nothing where it has no word
abbrev pub first_says : List (List ℕ) → Bool → List ℕ → LineWords → Option LineWord → Read Says
first_says site is_open line ws None = if ws.bad then Err cause.BadQuote else Ok Nothing
first_says site is_open line ws (Some word) = or_fault (verb_of word.text) cause.UnknownWord >>= (λ v. verb_says site is_open line ws v)

-- what a line says that is no remark
unfoldable pub words_say : List (List ℕ) → Bool → List ℕ → LineWords → Read Says
words_say site is_open line ws = first_says site is_open line ws (slice_get ws.words 0)

-- what a line says, or the first cause why it is bad
unfoldable pub line_says : List (List ℕ) → Bool → List ℕ → Read Says
line_says site is_open line = if is_remark line then Ok Nothing else words_say site is_open line (line_words line)
