-- What the words of a line say, or their first fault, apart from how they are read.
use Rattle.std.specs.Prelude.{◌≡◌, ◌≢◌, ◌⊎◌, ◌↔◌, ◌<◌, ◌≤◌, ℕ, Bool, true, false, List, [], ◌∷◌, ◌++◌, length, Ok, Err}
use Rattle.nqs_base.specs.Name.{IsName}
use Rattle.nqs_rules.specs.Find.{has_name}
use Rattle.nqs_schedule.specs.declared.cause.Cause.{Cause}
use Rattle.nqs_schedule.specs.declared.cause.Cause.TheVariants as cause
use Rattle.nqs_schedule.specs.declared.words.LineWords.{LineWords}
use Rattle.nqs_schedule.specs.declared.plan.Verb.{Verb}
use Rattle.nqs_schedule.specs.declared.plan.Verb.TheVariants as verb
use Rattle.nqs_schedule.specs.declared.line.Says.{Says}
use Rattle.nqs_schedule.specs.declared.line.Says.TheVariants.{Nothing, Hosts, Event}
use Rattle.nqs_schedule.specs.Words.{Read, no_word}
use Rattle.nqs_schedule.specs.Events.{words_behind, qmgr_text}
use Rattle.nqs_schedule.specs.Says.{words_say}
use Rattle.nqs_schedule.specs.Forms.{verb_text, form_of}
use Rattle.nqs_schedule.specs.Spelled.{HasBadQuote, Spells, Faults}

-- ---- hosts NAME..

-- a name that the site doesn't have, which has fewer than sixteen
pub record IsNewHost (site : List (List ℕ)) (word : List ℕ) : Type 0 where
  pub name : IsName word
  pub new : has_name site word ≡ false
  pub few : length site < 16

-- why a word names no further host: it is no name, the site has it, or the site has sixteen
abbrev pub NoNewHost : List (List ℕ) → List ℕ → Cause → Type 0
NoNewHost site word why =
    ((IsName word → ⊥) × (why ≡ cause.BadName))
    ⊎ (IsName word × (has_name site word ≡ true) × (why ≡ cause.HostTwice))
    ⊎ (IsName word × (has_name site word ≡ false) × (16 ≤ length site) × (why ≡ cause.TooManyHosts))

-- the words name the hosts of a site, behind those that it has
abbrev pub NameHosts : List (List ℕ) → List (List ℕ) → List (List ℕ) → Type 0
NameHosts site [] all = all ≡ site
NameHosts site (word ∷ more) all = IsNewHost site word × NameHosts (site ++ word ∷ []) more all

-- the first word that names no further host, or a bad quote behind them
abbrev pub NameNoHosts : Bool → List (List ℕ) → List (List ℕ) → Cause → Type 0
NameNoHosts bad site [] why = HasBadQuote bad why
NameNoHosts bad site (word ∷ more) why = NoNewHost site word why ⊎ (IsNewHost site word × NameNoHosts bad (site ++ word ∷ []) more why)

-- the words of a line of hosts name these, at least one
abbrev pub HostsSay : Bool → List (List ℕ) → List (List ℕ) → Type 0
HostsSay bad [] all = ⊥
HostsSay bad (word ∷ more) all = (bad ≡ false) × NameHosts [] (word ∷ more) all

-- the first fault of the words of a line of hosts
abbrev pub HostsFault : Bool → List (List ℕ) → Cause → Type 0
HostsFault bad [] why = why ≡ no_word bad
HostsFault bad (word ∷ more) why = NameNoHosts bad [] (word ∷ more) why

-- ---- all words; `is_open`: no line before this one said anything

-- the words behind the verb say this
abbrev pub FirstSays : List (List ℕ) → Bool → List ℕ → Bool → Verb → List (List ℕ) → Says → Type 0
FirstSays site is_open line bad v more Nothing = ⊥
FirstSays site is_open line bad v more (Hosts all) = (v ≡ verb.Hosts) × (is_open ≡ true) × HostsSay bad more all
FirstSays site is_open line bad v more (Event e) = Spells site line bad (form_of v) more e

-- the first word is a verb, and the others say this
abbrev pub WordsSay : List (List ℕ) → Bool → List ℕ → Bool → List (List ℕ) → Says → Type 0
WordsSay site is_open line bad [] says = (says ≡ Nothing) × (bad ≡ false)
WordsSay site is_open line bad (word ∷ more) says = (v : Verb) × (word ≡ verb_text v) × FirstSays site is_open line bad v more says

-- a line of hosts at its place
abbrev pub NamesSite : Bool → Verb → Type 0
NamesSite is_open v = (v ≡ verb.Hosts) × (is_open ≡ true)

-- the fault of words behind a verb
abbrev pub FirstFaults : List (List ℕ) → Bool → Bool → Verb → List (List ℕ) → Cause → Type 0
FirstFaults site is_open bad v more why = (NamesSite is_open v × HostsFault bad more why) ⊎ ((NamesSite is_open v → ⊥) × Faults site bad (form_of v) more why)

-- no word is a bad quote at most; the first word is no verb; or it is one and the others are at
-- fault
abbrev pub WordsFault : List (List ℕ) → Bool → Bool → List (List ℕ) → Cause → Type 0
WordsFault site is_open bad [] why = HasBadQuote bad why
WordsFault site is_open bad (word ∷ more) why =
    (((v : Verb) → word ≢ verb_text v) × (why ≡ cause.UnknownWord))
    ⊎ ((v : Verb) × (word ≡ verb_text v) × FirstFaults site is_open bad v more why)

-- the words of a line say this, or this is their first fault
abbrev pub WordsSayOrFault : List (List ℕ) → Bool → List ℕ → Bool → List (List ℕ) → Read Says → Type 0
WordsSayOrFault site is_open line bad texts (Ok says) = WordsSay site is_open line bad texts says
WordsSayOrFault site is_open line bad texts (Err why) = WordsFault site is_open bad texts why

-- words of a line say one thing or have one first fault, and are read so
abbrev pub ReadsWords : Type 0
ReadsWords = (site : List (List ℕ)) (is_open : Bool) (line : List ℕ) (ws : LineWords) (answer : Read Says)
    → words_say site is_open line ws ≡ answer ↔ WordsSayOrFault site is_open (qmgr_text line ws) ws.bad (words_behind ws 0) answer
