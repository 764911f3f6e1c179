-- Which words spell which event, and the first fault of words that spell none, apart from how they
-- are read.
use Rattle.std.specs.Prelude.{◌≡◌, ◌≢◌, ◌⊎◌, ◌↔◌, ◌<◌, ◌≤◌, ℕ, ◌+◌, Bool, true, false, List, [], ◌∷◌, ◌++◌, length, codes, Some, Ok, Err}
use Rattle.std.specs.List.{position}
use Rattle.nqs_base.specs.Same.{name_eq}
use Rattle.nqs_base.specs.Name.{IsName}
use Rattle.nqs_types.specs.declared.ids.HostId.{HostId}
use Rattle.nqs_types.specs.declared.ids.RequestId.{RequestId}
use Rattle.nqs_types.specs.declared.ids.Named.{Named}
use Rattle.nqs_base.specs.declared.tear.Tear.{Tear}
use Rattle.nqs_base.specs.declared.tear.Tear.TheVariants as tear
use Rattle.nqs_types.specs.declared.world.Which.{Which}
use Rattle.nqs_types.specs.declared.world.Which.TheVariants as which
use Rattle.nqs_types.specs.declared.world.WorldEvent.{WorldEvent}
use Rattle.nqs_text.specs.Number.{decimal, AreDigits}
use Rattle.nqs_rules.specs.Tests.{last_u64}
use Rattle.nqs_words.specs.Spelled.{IsRequest}
use Rattle.nqs_schedule.specs.declared.cause.Cause.{Cause}
use Rattle.nqs_schedule.specs.declared.cause.Cause.TheVariants as cause
use Rattle.nqs_schedule.specs.declared.words.LineWords.{LineWords}
use Rattle.nqs_schedule.specs.declared.plan.Verb.{Verb}
use Rattle.nqs_schedule.specs.declared.line.Says.{Says}
use Rattle.nqs_schedule.specs.declared.line.Says.TheVariants.{Event}
use Rattle.nqs_schedule.specs.Words.{Read, no_word}
use Rattle.nqs_schedule.specs.Events.{words_behind, qmgr_text}
use Rattle.nqs_schedule.specs.Says.{event_says}
use Rattle.nqs_schedule.specs.Forms.{Form, never, done, host, name, request, number, disk, tear, text, words, outputs, rest, form_of}

-- ---- one word

-- there is no such thing, which is the cause
abbrev pub IsNone : {A : Type 0} → (A → Type 0) → Cause → Cause → Type 0
IsNone {A} P none why = ((a : A) → P a → ⊥) × (why ≡ none)

-- the word is this name
abbrev pub IsNameWord : List ℕ → List ℕ → Type 0
IsNameWord word n = IsName word × (n ≡ word)

-- the word is no name
abbrev pub NoName : List ℕ → Cause → Type 0
NoName word why = IsNone (IsNameWord word) cause.BadName why

-- plain digits of a number within two bounds
abbrev pub IsNumber : ℕ → ℕ → List ℕ → ℕ → Type 0
IsNumber low high word n = AreDigits word × (n ≡ decimal word) × (low ≤ n) × (n ≤ high)

-- the word is no such number
abbrev pub NoNumber : ℕ → ℕ → List ℕ → Cause → Type 0
NoNumber low high word why = IsNone (IsNumber low high word) cause.BadNumber why

-- the place of a name in the site
abbrev pub IsPlace : List (List ℕ) → List ℕ → HostId → Type 0
IsPlace site n h = (position (name_eq n) site ≡ Some h.0) × (h.0 < 16)

-- the site has no host of this name
abbrev pub NoPlace : List (List ℕ) → List ℕ → Cause → Type 0
NoPlace site n why = IsNone (IsPlace site n) cause.NoSuchHost why

-- the word is the name of this host
abbrev pub IsHost : List (List ℕ) → List ℕ → HostId → Type 0
IsHost site word h = (n : List ℕ) × IsNameWord word n × IsPlace site n h

-- the word is no name, or the site has no host of this name
abbrev pub NoHost : List (List ℕ) → List ℕ → Cause → Type 0
NoHost site word why = NoName word why ⊎ ((n : List ℕ) × IsNameWord word n × NoPlace site n why)

-- the word is the `SEQ.HOST` of this request, whose host is of the site
abbrev pub IsId : List (List ℕ) → List ℕ → RequestId → Type 0
IsId site word id = (named : Named) × IsRequest word named × ((h : HostId) × IsPlace site named.host h × (id ≡ record { seq = named.seq; host = h }))

-- the word is no `SEQ.HOST`, or its host is not of the site
abbrev pub NoId : List (List ℕ) → List ℕ → Cause → Type 0
NoId site word why = IsNone (IsRequest word) cause.BadRequest why ⊎ ((named : Named) × IsRequest word named × NoPlace site named.host why)

-- the word of a disk
abbrev pub disk_text : Which → List ℕ
disk_text which.Root = codes "root"
disk_text which.First = codes "first"
disk_text which.Second = codes "second"
disk_text which.Spool = codes "spool"

-- the word is that of this disk
abbrev pub IsDisk : List ℕ → Which → Type 0
IsDisk word d = word ≡ disk_text d

-- the word is that of no disk
abbrev pub NoDisk : List ℕ → Cause → Type 0
NoDisk word why = IsNone (IsDisk word) cause.UnknownWord why

-- these stand behind `mixed:`
abbrev pub IsMixed : List ℕ → List ℕ → Type 0
IsMixed word digits = word ≡ codes "mixed:" ++ digits

-- the word is that of the tear: `old`, `new`, or `mixed:` with a number of 64 bits
abbrev pub IsTear : List ℕ → Tear → Type 0
IsTear word tear.Old = word ≡ codes "old"
IsTear word tear.New = word ≡ codes "new"
IsTear word (tear.Mixed n) = (digits : List ℕ) × IsMixed word digits × IsNumber 0 last_u64 digits n

-- `mixed:` without a number, or none of the three
abbrev pub NoTear : List ℕ → Cause → Type 0
NoTear word why =
    ((digits : List ℕ) × IsMixed word digits × NoNumber 0 last_u64 digits why)
    ⊎ ((word ≢ codes "old") × (word ≢ codes "new") × ((digits : List ℕ) → IsMixed word digits → ⊥) × (why ≡ cause.UnknownWord))

-- the word may be any, and these are its bytes
abbrev pub IsText : List ℕ → List ℕ → Type 0
IsText word t = t ≡ word

-- so no word is at fault
abbrev pub NoText : List ℕ → Cause → Type 0
NoText word why = ⊥

-- the output isn't too long
abbrev pub IsShort : List ℕ → Type 0
IsShort word = length word ≤ 16384

-- the output is too long
abbrev pub IsTooLong : List ℕ → Cause → Type 0
IsTooLong word why = (16384 < length word) × (why ≡ cause.OutputTooLong)

-- ---- words one behind another; `bad`: behind them stands a badly quoted one

-- the first word is this, and what it makes of the others
abbrev pub FirstIs : {A : Type 0} → (List ℕ → A → Type 0) → (A → List (List ℕ) → Type 0) → List (List ℕ) → Type 0
FirstIs Is Behind [] = ⊥
FirstIs {A} Is Behind (word ∷ more) = (a : A) × Is word a × Behind a more

-- there is no first word, it isn't this, or it is and the others are at fault
abbrev pub FirstFault : {A : Type 0} → (List ℕ → A → Type 0) → (List ℕ → Cause → Type 0) → (A → List (List ℕ) → Type 0) → Bool → List (List ℕ) → Cause → Type 0
FirstFault Is No Behind bad [] why = why ≡ no_word bad
FirstFault {A} Is No Behind bad (word ∷ more) why = No word why ⊎ ((a : A) × Is word a × Behind a more)

-- no word is left
abbrev pub IsOver : Bool → List (List ℕ) → Type 0
IsOver bad texts = (texts ≡ []) × (bad ≡ false)

-- a word is left, good or badly quoted, which is one too many
abbrev pub IsNotOver : Bool → List (List ℕ) → Cause → Type 0
IsNotOver bad texts why = (IsOver bad texts → ⊥) × (why ≡ cause.ExtraWord)

-- behind the words stands a badly quoted one
abbrev pub HasBadQuote : Bool → Cause → Type 0
HasBadQuote bad why = (bad ≡ true) × (why ≡ cause.BadQuote)

-- the words are a job's outputs: none, OUT, or OUT and ERR
abbrev pub AreOutputs : (List ℕ → List ℕ → WorldEvent) → Bool → List (List ℕ) → WorldEvent → Type 0
AreOutputs f bad [] e = (bad ≡ false) × (e ≡ f [] [])
AreOutputs f bad (out ∷ []) e = IsShort out × ((bad ≡ false) × (e ≡ f out []))
AreOutputs f bad (out ∷ err ∷ more) e = IsShort out × (IsShort err × (IsOver bad more × (e ≡ f out err)))

-- the first fault of the words of a job's outputs
abbrev pub AreNoOutputs : Bool → List (List ℕ) → Cause → Type 0
AreNoOutputs bad [] why = HasBadQuote bad why
AreNoOutputs bad (out ∷ []) why = IsTooLong out why ⊎ (IsShort out × HasBadQuote bad why)
AreNoOutputs bad (out ∷ err ∷ more) why = IsTooLong out why ⊎ (IsShort out × (IsTooLong err why ⊎ (IsShort err × IsNotOver bad more why)))

-- words of the form spell the event; `line` is the rest of the line behind the user
unfoldable pub Spells : List (List ℕ) → List ℕ → Bool → Form → List (List ℕ) → WorldEvent → Type 0
Spells site line bad (never why) texts e = ⊥
Spells site line bad (done d) texts e = IsOver bad texts × (e ≡ d)
Spells site line bad (host f) texts e = FirstIs (IsHost site) (λ h more. Spells site line bad (f h) more e) texts
Spells site line bad (name f) texts e = FirstIs IsNameWord (λ n more. Spells site line bad (f n) more e) texts
Spells site line bad (request f) texts e = FirstIs (IsId site) (λ id more. Spells site line bad (f id) more e) texts
Spells site line bad (number low high f) texts e = FirstIs (IsNumber low high) (λ n more. Spells site line bad (f n) more e) texts
Spells site line bad (disk f) texts e = FirstIs IsDisk (λ d more. Spells site line bad (f d) more e) texts
Spells site line bad (tear f) texts e = FirstIs IsTear (λ t more. Spells site line bad (f t) more e) texts
Spells site line bad (text f) texts e = FirstIs IsText (λ t more. Spells site line bad (f t) more e) texts
Spells site line bad (words f) texts e = (bad ≡ false) × (e ≡ f texts)
Spells site line bad (outputs f) texts e = AreOutputs f bad texts e
Spells site line bad (rest f) texts e = e ≡ f line

-- the first fault of words that spell no event of the form
unfoldable pub Faults : List (List ℕ) → Bool → Form → List (List ℕ) → Cause → Type 0
Faults site bad (never because) texts why = why ≡ because
Faults site bad (done d) texts why = IsNotOver bad texts why
Faults site bad (host f) texts why = FirstFault (IsHost site) (NoHost site) (λ h more. Faults site bad (f h) more why) bad texts why
Faults site bad (name f) texts why = FirstFault IsNameWord NoName (λ n more. Faults site bad (f n) more why) bad texts why
Faults site bad (request f) texts why = FirstFault (IsId site) (NoId site) (λ id more. Faults site bad (f id) more why) bad texts why
Faults site bad (number low high f) texts why = FirstFault (IsNumber low high) (NoNumber low high) (λ n more. Faults site bad (f n) more why) bad texts why
Faults site bad (disk f) texts why = FirstFault IsDisk NoDisk (λ d more. Faults site bad (f d) more why) bad texts why
Faults site bad (tear f) texts why = FirstFault IsTear NoTear (λ t more. Faults site bad (f t) more why) bad texts why
Faults site bad (text f) texts why = FirstFault IsText NoText (λ t more. Faults site bad (f t) more why) bad texts why
Faults site bad (words f) texts why = HasBadQuote bad why
Faults site bad (outputs f) texts why = AreNoOutputs bad texts why
Faults site bad (rest f) texts why = ⊥

-- the words of the form spell this event, or this is their first fault
abbrev pub SpellsOrFaults : List (List ℕ) → List ℕ → Bool → Form → List (List ℕ) → Read WorldEvent → Type 0
SpellsOrFaults site line bad form texts (Ok e) = Spells site line bad form texts e
SpellsOrFaults site line bad form texts (Err why) = Faults site bad form texts why

-- the event of a line, or why there is none
abbrev pub as_event : Read WorldEvent → Read Says
as_event (Ok e) = Ok (Event e)
as_event (Err why) = Err why

-- the line of a verb says the event that its words spell, and is bad by their first fault; each is
-- just one of these
abbrev pub ReadsEvents : Type 0
ReadsEvents = (site : List (List ℕ)) (line : List ℕ) (ws : LineWords) (v : Verb) (answer : Read WorldEvent)
    → event_says site line ws v ≡ as_event answer ↔ SpellsOrFaults site (qmgr_text line ws) ws.bad (form_of v) (words_behind ws 1) answer
