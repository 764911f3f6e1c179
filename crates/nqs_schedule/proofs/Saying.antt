-- Words of a line are read as what they say.
use Rattle.std.proofs.Common.{◌≡◌, ◌⊎◌, inl, inr, ◌↔◌, ℕ, ◌<◌, ◌≤◌, List, [], ◌∷◌, ◌++◌, length, map, refl, ap, sym, subst, ◌∙◌, Some, None, Option, Ok, Err}
use Rattle.std.proofs.Common.{Bool, true, false, cond, ◌&&◌, arith, nat_le}
use Rattle.std.specs.Prelude.{codes}
use Rattle.std.proofs.lemmas.Bool.{and_parts, and_from}
use Rattle.std.proofs.lemmas.Bool.Decides.{nat_tests}
use Rattle.nqs_base.proofs.Readings.{Reads, given, apart, reads-bind, reads-map}
use Rattle.nqs_base.specs.Name.{IsName}
use Rattle.nqs_types.specs.declared.world.WorldEvent.{WorldEvent}
use Rattle.nqs_rules.specs.Find.{has_name}
use Rattle.nqs_words.specs.Values.{name_of}
use Rattle.nqs_words.proofs.Requests.{name-is, is-name, named}
use Rattle.nqs_schedule.specs.declared.cause.Cause.{Cause}
use Rattle.nqs_schedule.specs.declared.cause.Cause.TheVariants as cause
use Rattle.nqs_schedule.specs.declared.words.LineWord.{LineWord}
use Rattle.nqs_schedule.specs.declared.words.LineWords.{LineWords}
use Rattle.nqs_schedule.specs.declared.plan.Verb.{Verb}
use Rattle.nqs_schedule.specs.declared.plan.Verb.TheVariants as verb
use Rattle.nqs_schedule.specs.declared.line.Says.{Says}
use Rattle.nqs_schedule.specs.declared.line.Says.TheVariants.{Nothing, Hosts, Event}
use Rattle.nqs_schedule.specs.Words.{Read, ◌>>=◌, or_fault, no_word}
use Rattle.nqs_schedule.specs.declared.plan.Plan.{Plan}
use Rattle.nqs_schedule.specs.Plans.{verb_of, plan_of}
use Rattle.nqs_schedule.specs.Events.{text_of_word, words_behind, qmgr_text, event_of}
use Rattle.nqs_schedule.specs.Says.{further_host, hosts_from, some_hosts, hosts_of, is_hosts, hosts_say, event_says, verb_says, words_say}
use Rattle.nqs_schedule.specs.Forms.{verb_text, form_of}
use Rattle.nqs_schedule.specs.Spelled.{IsNone, HasBadQuote, Spells, Faults}
use Rattle.nqs_schedule.specs.Sayings.{IsNewHost, NoNewHost, NameHosts, NameNoHosts, HostsSay, HostsFault, FirstSays, WordsSay, NamesSite}
use Rattle.nqs_schedule.specs.Sayings.{FirstFaults, WordsFault, ReadsWords}
use Rattle.nqs_schedule.proofs.Readings.{reads-Ok, reads-Err, reads-cause, reads-same}
use Rattle.nqs_schedule.proofs.Leaves.{pick}
use Rattle.nqs_schedule.proofs.Verbs.{events_are_read}

-- ---- verbs

verb-is : (word : List ℕ) (v : Verb) → verb_of word ≡ Some v → word ≡ verb_text v
unfolding verb_of
verb-is word v e =
    pick verb_text (codes "hosts") word verb.Hosts v _ refl e (λ e.
    pick verb_text (codes "submit") word verb.Submit v _ refl e (λ e.
    pick verb_text (codes "qsub") word verb.Qsub v _ refl e (λ e.
    pick verb_text (codes "qmgr") word verb.Qmgr v _ refl e (λ e.
    pick verb_text (codes "qstat") word verb.Qstat v _ refl e (λ e.
    pick verb_text (codes "qdel") word verb.Qdel v _ refl e (λ e.
    pick verb_text (codes "end") word verb.End v _ refl e (λ e.
    pick verb_text (codes "finish") word verb.Finish v _ refl e (λ e.
    pick verb_text (codes "fail") word verb.Fail v _ refl e (λ e.
    pick verb_text (codes "written") word verb.Written v _ refl e (λ e.
    pick verb_text (codes "unwritten") word verb.Unwritten v _ refl e (λ e.
    pick verb_text (codes "deliver") word verb.Deliver v _ refl e (λ e.
    pick verb_text (codes "newest") word verb.Newest v _ refl e (λ e.
    pick verb_text (codes "tick") word verb.Tick v _ refl e (λ e.
    pick verb_text (codes "clock") word verb.Clock v _ refl e (λ e.
    pick verb_text (codes "fuse") word verb.Fuse v _ refl e (λ e.
    pick verb_text (codes "crash") word verb.Crash v _ refl e (λ e.
    pick verb_text (codes "boot") word verb.Boot v _ refl e (λ e.
    pick verb_text (codes "show") word verb.Show v _ refl e (λ e. cc)))))))))))))))))))

verb-said : (v : Verb) → verb_of (verb_text v) ≡ Some v
unfolding verb_of
verb-said verb.Hosts = refl
verb-said verb.Submit = refl
verb-said verb.Qsub = refl
verb-said verb.Qmgr = refl
verb-said verb.Qstat = refl
verb-said verb.Qdel = refl
verb-said verb.End = refl
verb-said verb.Finish = refl
verb-said verb.Fail = refl
verb-said verb.Written = refl
verb-said verb.Unwritten = refl
verb-said verb.Deliver = refl
verb-said verb.Newest = refl
verb-said verb.Tick = refl
verb-said verb.Clock = refl
verb-said verb.Fuse = refl
verb-said verb.Crash = refl
verb-said verb.Boot = refl
verb-said verb.Show = refl

abbrev IsVerb : List ℕ → Verb → Type 0
IsVerb word v = word ≡ verb_text v

reads-verb : (word : List ℕ) → Reads (or_fault (verb_of word) cause.UnknownWord) (IsVerb word) (IsNone (IsVerb word) cause.UnknownWord)
reads-verb word = reads-cause (verb_of word) (IsVerb word) cause.UnknownWord (λ v. (verb-is word v, (λ e. ap verb_of e ∙ verb-said v)))

-- ---- hosts

pass : (n : ℕ) → nat_le 16 n ≡ false → n < 16
pass n h = grind (arith, nat_tests)

full : (n : ℕ) → nat_le 16 n ≡ true → 16 ≤ n
full n h = grind (arith, nat_tests)

few_full : (n : ℕ) → n < 16 → 16 ≤ n → ⊥
few_full n p q = omega (arith, p, q)

both_ways : (b : Bool) → b ≡ true → b ≡ false → ⊥
both_ways b p q = let e : true ≡ false = sym p ∙ q in cc

abbrev IsHere : List (List ℕ) → List ℕ → List ℕ → Type 0
IsHere site word n = IsNewHost site word × (n ≡ word)

-- a host that is refused for this cause
refuses : (site : List (List ℕ)) (word : List ℕ) (c : Cause) → (IsNewHost site word → ⊥) → NoNewHost site word c
    → ((why : Cause) → NoNewHost site word why → why ≡ c) → Reads {A = List ℕ} (Err c) (IsHere site word) (NoNewHost site word)
refuses site word c never is one = reads-same {A = List ℕ} (Err c) (λ n. ⊥) (IsHere site word) (λ why. why ≡ c) (NoNewHost site word) (reads-Err {A = List ℕ} c)
    (λ n. ((λ x. absurd x), (λ h. absurd (never h.0)))) (λ why. ((λ e. subst (NoNewHost site word) (sym e) is), one why))

takes : (site : List (List ℕ)) (word : List ℕ) → IsNewHost site word → Reads {A = List ℕ} (Ok word) (IsHere site word) (NoNewHost site word)
takes site word is = reads-same {A = List ℕ} (Ok word) (λ n. n ≡ word) (IsHere site word) (λ why. ⊥) (NoNewHost site word) (reads-Ok word)
    (λ n. ((λ e. (is, e)), (λ h. h.1))) (λ why. ((λ x. absurd x), never why))
  where
    never : (why : Cause) → NoNewHost site word why → ⊥
    never why (inl h) = h.0 is.name
    never why (inr (inl h)) = both_ways (has_name site word) h.1 is.new
    never why (inr (inr h)) = few_full (length site) is.few h.2

tested_host : Bool → Bool → List ℕ → Read (List ℕ)
tested_host t u word = cond t (Err cause.HostTwice) (cond u (Err cause.TooManyHosts) (Ok word))

reads-tested : (site : List (List ℕ)) (word : List ℕ) → IsName word → (t u : Bool) → has_name site word ≡ t → nat_le 16 (length site) ≡ u
    → Reads (tested_host t u word) (IsHere site word) (NoNewHost site word)
unfolding tested_host
reads-tested site word n true u here many = refuses site word cause.HostTwice (λ h. both_ways (has_name site word) here h.new) (inr (inl (n, here, refl))) one
  where
    one : (why : Cause) → NoNewHost site word why → why ≡ cause.HostTwice
    one why (inl h) = absurd (h.0 n)
    one why (inr (inl h)) = h.2
    one why (inr (inr h)) = absurd (both_ways (has_name site word) here h.1)
reads-tested site word n false true here many = refuses site word cause.TooManyHosts (λ h. few_full (length site) h.few (full (length site) many))
    (inr (inr (n, here, full (length site) many, refl))) one
  where
    one : (why : Cause) → NoNewHost site word why → why ≡ cause.TooManyHosts
    one why (inl h) = absurd (h.0 n)
    one why (inr (inl h)) = absurd (both_ways (has_name site word) h.1 here)
    one why (inr (inr h)) = h.3
reads-tested site word n false false here many = takes site word (record { name = n; new = here; few = pass (length site) many })

reads-new : (site : List (List ℕ)) (word : List ℕ) → Reads (further_host site (name_of word)) (IsHere site word) (NoNewHost site word)
unfolding tested_host
reads-new site word = by (named word)
  where
    unnamed : (IsName word → ⊥) → (why : Cause) → NoNewHost site word why → why ≡ cause.BadName
    unnamed never why (inl h) = h.1
    unnamed never why (inr (inl h)) = absurd (never h.0)
    unnamed never why (inr (inr h)) = absurd (never h.0)

    by : (IsName word × (name_of word ≡ Some word)) ⊎ ((IsName word → ⊥) × (name_of word ≡ None))
        → Reads (further_host site (name_of word)) (IsHere site word) (NoNewHost site word)
    by (inl n) = subst (λ (o : Option (List ℕ)). Reads (further_host site o) (IsHere site word) (NoNewHost site word)) (sym n.1)
        (reads-tested site word n.0 (has_name site word) (nat_le 16 (length site)) refl refl)
    by (inr n) = subst (λ (o : Option (List ℕ)). Reads (further_host site o) (IsHere site word) (NoNewHost site word)) (sym n.1)
        (refuses site word cause.BadName (λ h. n.0 h.name) (inl (n.0, refl)) (unnamed n.0))

-- ---- a line of hosts

abbrev texts : List LineWord → List (List ℕ)
texts words = map text_of_word words

all_named : Bool → List (List ℕ) → Read (List (List ℕ))
all_named bad site = cond bad (Err cause.BadQuote) (Ok site)

reads-named : (bad : Bool) (site : List (List ℕ)) → Reads (all_named bad site) (λ all. (bad ≡ false) × (all ≡ site)) (HasBadQuote bad)
unfolding all_named
reads-named true site = reads-same {A = List (List ℕ)} (Err cause.BadQuote) (λ all. ⊥) (λ all. (true ≡ false) × (all ≡ site)) (λ why. why ≡ cause.BadQuote)
    (HasBadQuote true) (reads-Err {A = List (List ℕ)} cause.BadQuote)
    (λ all. ((λ x. absurd x), (λ h. absurd (both_ways true refl h.0)))) (λ why. ((λ e. (refl, e)), (λ h. h.1)))
reads-named false site = reads-same {A = List (List ℕ)} (Ok site) (λ all. all ≡ site) (λ all. (false ≡ false) × (all ≡ site)) (λ why. ⊥) (HasBadQuote false)
    (reads-Ok site)
    (λ all. ((λ e. (refl, e)), (λ h. h.1))) (λ why. ((λ x. absurd x), (λ h. absurd (both_ways false h.0 refl))))

reads-hosts : (words : List LineWord) (bad : Bool) (site : List (List ℕ))
    → Reads (hosts_from site words bad) (λ all. (bad ≡ false) × NameHosts site (texts words) all) (NameNoHosts bad site (texts words))
unfolding hosts_from all_named
reads-hosts [] bad site = reads-named bad site
reads-hosts (word ∷ words) bad site =
    reads-same (further_host site (name_of word.text) >>= f) (λ all. (n : List ℕ) × IsHere site word.text n
    × ((bad ≡ false) × NameHosts (site ++ n ∷ []) (texts words) all))
    (λ all. (bad ≡ false) × (IsNewHost site word.text × NameHosts (site ++ word.text ∷ []) (texts words) all))
    (λ why. NoNewHost site word.text why ⊎ ((n : List ℕ) × IsHere site word.text n × NameNoHosts bad (site ++ n ∷ []) (texts words) why))
    (NameNoHosts bad site (texts (word ∷ words)))
    (reads-bind (further_host site (name_of word.text)) f (IsHere site word.text) (NoNewHost site word.text)
    (λ n all. (bad ≡ false) × NameHosts (site ++ n ∷ []) (texts words) all) (λ n why. NameNoHosts bad (site ++ n ∷ []) (texts words) why)
    (reads-new site word.text) (λ n. reads-hosts words bad (site ++ n ∷ [])))
    (λ all. (
      (λ h. (h.2.0, (h.1.0, subst (λ (n : List ℕ). NameHosts (site ++ n ∷ []) (texts words) all) h.1.1 h.2.1))),
      (λ h. (word.text, (h.1.0, refl), (h.0, h.1.1))),
    ))
    (λ why. (there why, back why))
  where
    f : List ℕ → Read (List (List ℕ))
    f name = hosts_from (site ++ name ∷ []) words bad

    there : (why : Cause) → NoNewHost site word.text why ⊎ ((n : List ℕ) × IsHere site word.text n × NameNoHosts bad (site ++ n ∷ []) (texts words) why)
        → NameNoHosts bad site (texts (word ∷ words)) why
    there why (inl h) = inl h
    there why (inr h) = inr (h.1.0, subst (λ (n : List ℕ). NameNoHosts bad (site ++ n ∷ []) (texts words) why) h.1.1 h.2)

    back : (why : Cause) → NameNoHosts bad site (texts (word ∷ words)) why
        → NoNewHost site word.text why ⊎ ((n : List ℕ) × IsHere site word.text n × NameNoHosts bad (site ++ n ∷ []) (texts words) why)
    back why (inl h) = inl h
    back why (inr h) = inr (word.text, (h.0, refl), h.1)

reads-some : (bad : Bool) (words : List LineWord) → Reads (some_hosts bad words) (HostsSay bad (texts words)) (HostsFault bad (texts words))
reads-some bad [] = reads-Err {A = List (List ℕ)} (no_word bad)
reads-some bad (word ∷ words) = reads-hosts (word ∷ words) bad []

-- ---- all words

abbrev behind : LineWord → List LineWord → Bool → LineWords
behind word words bad = record { words = word ∷ words; bad = bad }

reads-site : (word : LineWord) (words : List LineWord) (bad : Bool) → Reads (hosts_say (behind word words bad))
    (λ says. (all : List (List ℕ)) × HostsSay bad (texts words) all × (says ≡ Hosts all)) (HostsFault bad (texts words))
unfolding hosts_of
reads-site word words bad = reads-map (some_hosts bad words) (λ all. Hosts all) (HostsSay bad (texts words)) (HostsFault bad (texts words))
    (reads-some bad words)

-- what an event's line says
abbrev SaysEvent : (WorldEvent → Type 0) → Says → Type 0
SaysEvent P Nothing = ⊥
SaysEvent P (Hosts all) = ⊥
SaysEvent P (Event e) = P e

abbrev IsFirst : List (List ℕ) → Bool → LineWord → List LineWord → Bool → List ℕ → Verb → Says → Type 0
IsFirst site is_open word words bad line v says = FirstSays site is_open (qmgr_text line (behind word words bad)) bad v (texts words) says

hosts-verb : (v : Verb) → is_hosts v ≡ true → v ≡ verb.Hosts
hosts-verb verb.Hosts h = refl
hosts-verb verb.Submit h = cc
hosts-verb verb.Qsub h = cc
hosts-verb verb.Qmgr h = cc
hosts-verb verb.Qstat h = cc
hosts-verb verb.Qdel h = cc
hosts-verb verb.End h = cc
hosts-verb verb.Finish h = cc
hosts-verb verb.Fail h = cc
hosts-verb verb.Written h = cc
hosts-verb verb.Unwritten h = cc
hosts-verb verb.Deliver h = cc
hosts-verb verb.Newest h = cc
hosts-verb verb.Tick h = cc
hosts-verb verb.Clock h = cc
hosts-verb verb.Fuse h = cc
hosts-verb verb.Crash h = cc
hosts-verb verb.Boot h = cc
hosts-verb verb.Show h = cc

abbrev told : WorldEvent → Read Says
told e = Ok (Event e)

says-event : (site : List (List ℕ)) (line : List ℕ) (ws : LineWords) (v : Verb) (says : Says) → event_says site line ws v ≡ Ok says
    → (e : WorldEvent) × (says ≡ Event e)
says-event site line ws v says h = by (plan_of site ws v) h
  where
    by : (r : Read Plan) → (r >>= (λ p. told (event_of line ws p))) ≡ Ok says → (e : WorldEvent) × (says ≡ Event e)
    by (Ok p) e = (event_of line ws p, given (Event (event_of line ws p)) says e)
    by (Err x) e = absurd (apart says x (sym e))

reads-event : (site : List (List ℕ)) (line : List ℕ) (ws : LineWords) (v : Verb)
    → Reads (event_says site line ws v) (SaysEvent (Spells site (qmgr_text line ws) ws.bad (form_of v) (words_behind ws 1)))
    (Faults site ws.bad (form_of v) (words_behind ws 1))
reads-event site line ws v = (
  (λ says. ((λ h. there says h), back says)),
  (λ why. events_are_read site line ws v (Err why)),
)
  where
    Words : Says → Type 0
    Words says = SaysEvent (Spells site (qmgr_text line ws) ws.bad (form_of v) (words_behind ws 1)) says

    there : (says : Says) → event_says site line ws v ≡ Ok says → Words says
    there says h =
        let e = says-event site line ws v says h in
        subst Words (sym e.1) ((events_are_read site line ws v (Ok e.0)).0 (h ∙ ap (λ (s : Says). Ok s) e.1))

    back : (says : Says) → Words says → event_says site line ws v ≡ Ok says
    back Nothing h = absurd h
    back (Hosts all) h = absurd h
    back (Event e) h = (events_are_read site line ws v (Ok e)).1 h

no_hosts_event : (site : List (List ℕ)) (line : List ℕ) (bad : Bool) (v : Verb) (more : List (List ℕ)) (e : WorldEvent) → v ≡ verb.Hosts
    → Spells site line bad (form_of v) more e → ⊥
unfolding form_of Spells
no_hosts_event site line bad v more e is h = subst (λ (w : Verb). Spells site line bad (form_of w) more e) is h

site_back : (site : List (List ℕ)) (is_open bad : Bool) (v : Verb) (more : List (List ℕ)) (why : Cause) → NamesSite is_open v
    → FirstFaults site is_open bad v more why → HostsFault bad more why
site_back site is_open bad v more why is (inl h) = h.1
site_back site is_open bad v more why is (inr h) = absurd (h.0 is)

event_back : (site : List (List ℕ)) (is_open bad : Bool) (v : Verb) (more : List (List ℕ)) (why : Cause) → (NamesSite is_open v → ⊥)
    → FirstFaults site is_open bad v more why → Faults site bad (form_of v) more why
event_back site is_open bad v more why never (inl h) = absurd (never h.0)
event_back site is_open bad v more why never (inr h) = h.1

hosts_in : (all others : List (List ℕ)) → ◌≡◌ {A = Says} (Hosts all) (Hosts others) → all ≡ others
hosts_in all others e = cc

reads-first : (site : List (List ℕ)) (is_open : Bool) (line : List ℕ) (word : LineWord) (words : List LineWord) (bad : Bool) (v : Verb)
    → Reads (verb_says site is_open line (behind word words bad) v) (IsFirst site is_open word words bad line v) (FirstFaults site is_open bad v (texts words))
unfolding verb_says
reads-first site is_open line word words bad v = by (is_hosts v && is_open) refl
  where
    ws : LineWords
    ws = behind word words bad

    Goal : Read Says → Type 0
    Goal m = Reads m (IsFirst site is_open word words bad line v) (FirstFaults site is_open bad v (texts words))

    open_is : is_hosts v ≡ true → is_open ≡ true → (is_hosts v && is_open) ≡ true
    open_is p q = and_from (is_hosts v) is_open p q

    closed : (is_hosts v && is_open) ≡ false → NamesSite is_open v → ⊥
    closed is n = both_ways (is_hosts v && is_open) (open_is (ap is_hosts n.0) n.1) is

    hosts : (is : NamesSite is_open v) (says : Says) → ((all : List (List ℕ)) × HostsSay bad (texts words) all
        × (says ≡ Hosts all)) ↔ IsFirst site is_open word words bad line v says
    hosts is Nothing = ((λ h. let e = h.2 in cc), (λ x. absurd x))
    hosts is (Hosts all) = (
      (λ h. let e : all ≡ h.0 = hosts_in all h.0 h.2 in (is.0, is.1, subst (HostsSay bad (texts words)) (sym e) h.1)),
      (λ h. (all, h.2, refl)),
    )
    hosts is (Event e) = ((λ h. let e = h.2 in cc), (λ h. absurd (no_hosts_event site (qmgr_text line ws) bad v (texts words) e is.0 h)))

    site_faults : (is : NamesSite is_open v) (why : Cause) → HostsFault bad (texts words) why ↔ FirstFaults site is_open bad v (texts words) why
    site_faults is why = ((λ h. inl (is, h)), site_back site is_open bad v (texts words) why is)

    events : (never : NamesSite is_open v → ⊥) (says : Says) → SaysEvent (Spells site (qmgr_text line ws) bad (form_of v)
        (texts words)) says ↔ IsFirst site is_open word words bad line v says
    events never Nothing = ((λ x. x), (λ x. x))
    events never (Hosts all) = ((λ x. absurd x), (λ h. never (h.0, h.1)))
    events never (Event e) = ((λ h. h), (λ h. h))

    event_faults : (never : NamesSite is_open v → ⊥) (why : Cause) → Faults site bad (form_of v) (texts words) why ↔ FirstFaults site is_open bad v
        (texts words) why
    event_faults never why = ((λ h. inr (never, h)), event_back site is_open bad v (texts words) why never)

    by : (t : Bool) → (is_hosts v && is_open) ≡ t → Goal (cond t (hosts_say ws) (event_says site line ws v))
    by true is =
        let p = and_parts (is_hosts v) is_open is in
        let names : NamesSite is_open v = (hosts-verb v p.0, p.1) in
        reads-same (hosts_say ws) (λ says. (all : List (List ℕ)) × HostsSay bad (texts words) all × (says ≡ Hosts all))
        (IsFirst site is_open word words bad line v) (HostsFault bad (texts words)) (FirstFaults site is_open bad v (texts words))
        (reads-site word words bad) (hosts names) (site_faults names)
    by false is =
        let never = closed is in
        reads-same (event_says site line ws v) (SaysEvent (Spells site (qmgr_text line ws) bad (form_of v) (texts words)))
        (IsFirst site is_open word words bad line v) (Faults site bad (form_of v) (texts words)) (FirstFaults site is_open bad v (texts words))
        (reads-event site line ws v) (events never) (event_faults never)

nothing_said : Bool → Read Says
nothing_said bad = cond bad (Err cause.BadQuote) (Ok Nothing)

reads-none : (bad : Bool) → Reads (nothing_said bad) (λ says. (says ≡ Nothing) × (bad ≡ false)) (HasBadQuote bad)
unfolding nothing_said
reads-none true = reads-same {A = Says} (Err cause.BadQuote) (λ says. ⊥) (λ says. (says ≡ Nothing) × (true ≡ false)) (λ why. why ≡ cause.BadQuote)
    (HasBadQuote true) (reads-Err {A = Says} cause.BadQuote)
    (λ says. ((λ x. absurd x), (λ h. absurd (both_ways true refl h.1)))) (λ why. ((λ e. (refl, e)), (λ h. h.1)))
reads-none false = reads-same {A = Says} (Ok Nothing) (λ says. says ≡ Nothing) (λ says. (says ≡ Nothing) × (false ≡ false)) (λ why. ⊥) (HasBadQuote false)
    (reads-Ok Nothing)
    (λ says. ((λ e. (e, refl)), (λ h. h.0))) (λ why. ((λ x. absurd x), (λ h. absurd (both_ways false h.0 refl))))

reads-words : (site : List (List ℕ)) (is_open : Bool) (line : List ℕ) (words : List LineWord) (bad : Bool)
    → Reads (words_say site is_open line (record { words = words; bad = bad }))
    (WordsSay site is_open (qmgr_text line (record { words = words; bad = bad })) bad (texts words)) (WordsFault site is_open bad (texts words))
unfolding words_say nothing_said
reads-words site is_open line [] bad = reads-none bad
reads-words site is_open line (word ∷ words) bad =
    reads-bind (or_fault (verb_of word.text) cause.UnknownWord) (λ v. verb_says site is_open line (behind word words bad) v) (IsVerb word.text)
    (IsNone (IsVerb word.text) cause.UnknownWord)
    (λ v says. IsFirst site is_open word words bad line v says) (λ v why. FirstFaults site is_open bad v (texts words) why) (reads-verb word.text)
    (reads-first site is_open line word words bad)

pub words_are_read : ReadsWords
words_are_read site is_open line ws (Ok says) = (reads-words site is_open line ws.words ws.bad).0 says
words_are_read site is_open line ws (Err why) = (reads-words site is_open line ws.words ws.bad).1 why
