-- Hosts named one after another, and events.
use Rattle.std.proofs.Common.{◌≡◌, ℕ, ◌+◌, ◌<◌, ◌≤◌, List, [], ◌∷◌, ◌++◌, length, drop, get_or, refl, ap, sym, ◌∙◌, Ok, Err, Bool, true, false}
use Rattle.std.proofs.lemmas.List.{drop_all, drop_more}
use Rattle.nqs_words.specs.Values.{name_of}
use Rattle.nqs_schedule.specs.declared.cause.Cause.{Cause}
use Rattle.nqs_schedule.specs.declared.cause.Cause.TheVariants as cause
use Rattle.nqs_schedule.specs.declared.words.LineWord.{LineWord}
use Rattle.nqs_schedule.specs.declared.words.LineWords.{LineWords}
use Rattle.nqs_schedule.specs.declared.plan.Verb.{Verb}
use Rattle.nqs_schedule.specs.declared.plan.Plan.{Plan}
use Rattle.nqs_schedule.specs.declared.line.Says.TheVariants.{Event}
use Rattle.nqs_schedule.specs.Words.{Read, ◌>>=◌, no_word, text_at, text_there}
use Rattle.nqs_schedule.specs.Plans.{plan_of}
use Rattle.nqs_schedule.specs.Events.{event_of}
use Rattle.nqs_schedule.specs.Says.{further_host, hosts_from, hosts_of, event_says}

one_cause : (a b : Cause) → ◌≡◌ {A = Read (Unit {0})} (Err a) (Err b) → a ≡ b
one_cause a b e = cc

pub no_hosts : (words : List LineWord) (bad : Bool) (why : Cause) → text_there (record { words = words; bad = bad }) 1 ≡ Err why
    → hosts_of (record { words = words; bad = bad }) ≡ Err why
unfolding text_there text_at hosts_of
no_hosts [] bad why e = ap (λ (x : Cause). Err x) (one_cause (no_word bad) why e)
no_hosts (w ∷ []) bad why e = ap (λ (x : Cause). Err x) (one_cause (no_word bad) why e)
no_hosts (w ∷ v ∷ vs) bad why e = cc

pub some_hosts : (words : List LineWord) (bad : Bool) (u : Unit {0}) → text_there (record { words = words; bad = bad }) 1 ≡ Ok u
    → hosts_from [] (drop 1 words) bad ≡ hosts_of (record { words = words; bad = bad })
unfolding text_there text_at hosts_of
some_hosts [] bad u e = cc
some_hosts (w ∷ []) bad u e = cc
some_hosts (w ∷ v ∷ vs) bad u e = refl

there : (words : List LineWord) (bad : Bool) (site : List (List ℕ)) (i : ℕ) (d : LineWord) → i < length words → d ≡ get_or words i d
    → hosts_from site (drop i words) bad ≡ (further_host site (name_of d.text) >>= (λ name. hosts_from (site ++ name ∷ []) (drop (i + 1) words) bad))
unfolding hosts_from
there words bad site i d less is =
    ap (λ (l : List LineWord). hosts_from site l bad) (drop_more words i d less ∙ ap (λ (w : LineWord). w ∷ drop (i + 1) words) (sym is))

pub host_fails : (words : List LineWord) (bad : Bool) (site : List (List ℕ)) (i : ℕ) (d : LineWord) (all : Read (List (List ℕ))) (why : Cause)
    → i < length words → d ≡ get_or words i d
    → hosts_from site (drop i words) bad ≡ all → further_host site (name_of d.text) ≡ Err why → all ≡ Err why
host_fails words bad site i d all why less is before fails = sym before ∙ (there words bad site i d less is ∙ rw fails refl)

pub host_more : (words : List LineWord) (bad : Bool) (site : List (List ℕ)) (i : ℕ) (d : LineWord) (all : Read (List (List ℕ))) (name : List ℕ)
    → i < length words → d ≡ get_or words i d
    → hosts_from site (drop i words) bad ≡ all → further_host site (name_of d.text) ≡ Ok name → hosts_from (site ++ name ∷ []) (drop (i + 1) words) bad ≡ all
host_more words bad site i d all name less is before found =
    let e : hosts_from site (drop i words) bad ≡ hosts_from (site ++ name ∷ []) (drop (i + 1) words) bad = there words bad site i d less is ∙ rw found refl in
    sym e ∙ before

pub hosts_bad : (words : List LineWord) (bad : Bool) (site : List (List ℕ)) (i : ℕ) (all : Read (List (List ℕ))) → length words ≤ i
    → hosts_from site (drop i words) bad ≡ all → bad ≡ true → all ≡ Err cause.BadQuote
unfolding hosts_from
hosts_bad words bad site i all past before is = rw (drop_all i words past, is) at (sym before)

pub hosts_end : (words : List LineWord) (bad : Bool) (site : List (List ℕ)) (i : ℕ) (all : Read (List (List ℕ))) → length words ≤ i
    → hosts_from site (drop i words) bad ≡ all → bad ≡ false → all ≡ Ok site
unfolding hosts_from
hosts_end words bad site i all past before is = rw (drop_all i words past, is) at (sym before)

pub planned : (site : List (List ℕ)) (line : List ℕ) (ws : LineWords) (v : Verb) (plan : Plan) → plan_of site ws v ≡ Ok plan
    → event_says site line ws v ≡ Ok (Event (event_of line ws plan))
planned site line ws v plan e = rw e refl

pub unplanned : (site : List (List ℕ)) (line : List ℕ) (ws : LineWords) (v : Verb) (why : Cause) → plan_of site ws v ≡ Err why
    → event_says site line ws v ≡ Err why
unplanned site line ws v why e = rw e refl
