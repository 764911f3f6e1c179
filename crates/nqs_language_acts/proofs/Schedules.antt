-- Each event of a schedule is within the limits, and its site has 1 to 16 hosts.
use Rattle.std.proofs.Common.{◌≡◌, ℕ, ◌+◌, ◌<◌, ◌≤◌, Bool, true, false, cond, ◌&&◌, nat_le, nat_lt, List, [], ◌∷◌, ◌++◌, length, drop, slice_get, refl, subst}
use Rattle.std.proofs.Common.{◌∙◌, arith, Option, Some, None, Ok, Err, IfOk}
use Rattle.std.proofs.lemmas.Bool.{and_from, le-leb, ltb-false, leb-false}
use Rattle.std.proofs.lemmas.List.{length-append}
use Rattle.std.proofs.lemmas.List.Folds.{list_all-map}
use Rattle.std.specs.List.{list_all}
use Rattle.nqs_types.specs.declared.world.WorldEvent.{WorldEvent}
use Rattle.nqs_types.specs.declared.world.WorldEvent.TheVariants as event
use Rattle.nqs_rules.specs.Find.{has_name}
use Rattle.nqs_rules.specs.Sane.{is_short_output}
use Rattle.nqs_rules.proofs.KeyFacts.{all-added}
use Rattle.nqs_laws.specs.Sane.{IsSite, is_sane_act}
use Rattle.nqs_words.specs.Values.{name_of}
use Rattle.nqs_schedule.specs.declared.cause.Cause.TheVariants as cause
use Rattle.nqs_schedule.specs.declared.words.LineWord.{LineWord}
use Rattle.nqs_schedule.specs.declared.words.LineWords.{LineWords}
use Rattle.nqs_schedule.specs.declared.plan.Verb.{Verb}
use Rattle.nqs_schedule.specs.declared.plan.Verb.TheVariants as verb
use Rattle.nqs_schedule.specs.declared.plan.Plan.{Plan}
use Rattle.nqs_schedule.specs.declared.line.Says.{Says}
use Rattle.nqs_schedule.specs.declared.line.Says.TheVariants.{Nothing, Hosts, Event}
use Rattle.nqs_schedule.specs.Lines.{line_words}
use Rattle.nqs_schedule.specs.Words.{Read, or_fault, text_there, name_at, number_at, host_at, request_at, disk_at, tear_at, short_enough, output_at, nothing_at}
use Rattle.nqs_schedule.specs.Words.{all_good}
use Rattle.nqs_schedule.specs.Plans.{verb_of, submit_plan, qsub_plan, qmgr_plan, qstat_plan, qdel_plan, end_plan, one_host, fail_plan, host_and_file}
use Rattle.nqs_schedule.specs.Plans.{deliver_plan, newest_plan, clock_plan, fuse_plan, show_plan, plan_of}
use Rattle.nqs_schedule.specs.Events.{text_in, event_of}
use Rattle.nqs_schedule.specs.Says.{further_host, hosts_from, some_hosts, hosts_of, is_remark, is_hosts, hosts_say, event_says, verb_says, first_says}
use Rattle.nqs_schedule.specs.Says.{words_say, line_says}
use Rattle.nqs_schedule.specs.Schedule.{State, start, after, lines_say}
use Rattle.nqs_language_acts.specs.Acts.{act_of, is_sane_line}
use Rattle.nqs_language_acts.specs.Laws.{SchedulesAreSane, SitesAreRight, ActsAreSane}
use Rattle.nqs_language_acts.proofs.Steps.{each_step, next_step, unless}
use Rattle.nqs_language_acts.proofs.Submissions.{submissions_are_sane}
use Rattle.nqs_language_acts.proofs.Edits.{edits_are_sane}
use Rattle.nqs_language_acts.proofs.Questions.{lists_are_sane, deletions_are_sane}

-- ---- events

-- the outputs of a job that ends are short
abbrev pub HasShortOutputs : WorldEvent → Type 0
HasShortOutputs (event.End host id n status output error) = (is_short_output output && is_short_output error) ≡ true
HasShortOutputs _ = Unit {0}

pub event_sane : (e : WorldEvent) → HasShortOutputs e → is_sane_line e ≡ true
event_sane (event.End host id n status output error) h = h
event_sane (event.Submit user name) h = submissions_are_sane user _ []
event_sane (event.Qsub host user script words) h = submissions_are_sane user words script
event_sane (event.Qmgr host user text) h = edits_are_sane text
event_sane (event.Qstat host user words) h = lists_are_sane words
event_sane (event.Qdel host user words) h = deletions_are_sane words
event_sane _ h = refl

-- ---- plans

short : (word : Option LineWord) (bad : Bool) (done : Unit {0}) → short_enough word bad ≡ Ok done → is_short_output (text_in word) ≡ true
short (Some word) bad done e = by (nat_lt 16384 (length word.text)) refl e
  where
    by : (t : Bool) → nat_lt 16384 (length word.text) ≡ t → ◌≡◌ {A = Read (Unit {0})} (cond t (Err cause.OutputTooLong) (Ok tt)) (Ok done)
        → is_short_output word.text ≡ true
    by true is h = cc
    by false is h = le-leb (length word.text) 16384 (ltb-false 16384 (length word.text) is)
short None bad done e = refl

abbrev Fits : List ℕ → LineWords → Plan → Type 0
Fits line ws plan = HasShortOutputs (event_of line ws plan)

end_fits : (site : List (List ℕ)) (line : List ℕ) (ws : LineWords) → IfOk (end_plan site ws) (Fits line ws)
unfolding end_plan output_at
end_fits site line ws =
    each_step (Fits line ws) (host_at site ws 1) _ (λ host a.
    each_step (Fits line ws) (request_at site ws 2) _ (λ id b.
    each_step (Fits line ws) (number_at 0 65535 ws 3) _ (λ n c.
    each_step (Fits line ws) (number_at 0 255 ws 4) _ (λ status d.
    each_step (Fits line ws) (short_enough (slice_get ws.words 5) ws.bad) _ (λ out e.
    each_step (Fits line ws) (short_enough (slice_get ws.words 6) ws.bad) _ (λ err f.
    each_step (Fits line ws) (nothing_at ws 7) _ (λ done g.
    and_from _ _ (short (slice_get ws.words 5) ws.bad out e) (short (slice_get ws.words 6) ws.bad err f))))))))

-- the event of no other line is the end of a job
plan_fits : (site : List (List ℕ)) (line : List ℕ) (ws : LineWords) (v : Verb) → IfOk (plan_of site ws v) (Fits line ws)
unfolding plan_of submit_plan qsub_plan qmgr_plan qstat_plan qdel_plan fail_plan deliver_plan newest_plan clock_plan fuse_plan show_plan
plan_fits site line ws verb.Hosts = tt
plan_fits site line ws verb.Submit = each_step (Fits line ws) (name_at ws 1) _
    (λ user a. each_step (Fits line ws) (name_at ws 2) _ (λ name b. each_step (Fits line ws) (nothing_at ws 3) _ (λ done c. tt)))
plan_fits site line ws verb.Qsub = each_step (Fits line ws) (host_at site ws 1) _
    (λ host a. each_step (Fits line ws) (name_at ws 2) _ (λ user b. each_step (Fits line ws) (text_there ws 3) _
    (λ script c. each_step (Fits line ws) (all_good ws) _ (λ done d. tt))))
plan_fits site line ws verb.Qmgr = each_step (Fits line ws) (host_at site ws 1) _ (λ host a. each_step (Fits line ws) (name_at ws 2) _ (λ user b. tt))
plan_fits site line ws verb.Qstat = each_step (Fits line ws) (host_at site ws 1) _
    (λ host a. each_step (Fits line ws) (name_at ws 2) _ (λ user b. each_step (Fits line ws) (all_good ws) _ (λ done c. tt)))
plan_fits site line ws verb.Qdel = each_step (Fits line ws) (host_at site ws 1) _
    (λ host a. each_step (Fits line ws) (name_at ws 2) _ (λ user b. each_step (Fits line ws) (all_good ws) _ (λ done c. tt)))
plan_fits site line ws verb.End = end_fits site line ws
plan_fits site line ws verb.Finish = each_step (Fits line ws) (one_host site ws) _ (λ host a. tt)
plan_fits site line ws verb.Fail = each_step (Fits line ws) (host_at site ws 1) _
    (λ host a. each_step (Fits line ws) (request_at site ws 2) _ (λ id b. each_step (Fits line ws) (number_at 0 65535 ws 3) _
    (λ n c. each_step (Fits line ws) (nothing_at ws 4) _ (λ done d. tt))))
plan_fits site line ws verb.Written = each_step (Fits line ws) (host_and_file site ws) _ (λ p a. tt)
plan_fits site line ws verb.Unwritten = each_step (Fits line ws) (host_and_file site ws) _ (λ p a. tt)
plan_fits site line ws verb.Deliver = each_step (Fits line ws) (number_at 1 18446744073709551615 ws 1) _
    (λ packet a. each_step (Fits line ws) (nothing_at ws 2) _ (λ done b. tt))
plan_fits site line ws verb.Newest = each_step (Fits line ws) (host_at site ws 1) _
    (λ one a. each_step (Fits line ws) (host_at site ws 2) _ (λ other b. each_step (Fits line ws) (nothing_at ws 3) _ (λ done c. tt)))
plan_fits site line ws verb.Tick = each_step (Fits line ws) (one_host site ws) _ (λ host a. tt)
plan_fits site line ws verb.Clock = each_step (Fits line ws) (number_at 0 18446744073709551615 ws 1) _
    (λ moment a. each_step (Fits line ws) (nothing_at ws 2) _ (λ done b. tt))
plan_fits site line ws verb.Fuse = each_step (Fits line ws) (host_at site ws 1) _
    (λ host a. each_step (Fits line ws) (disk_at ws 2) _ (λ disk b. each_step (Fits line ws) (number_at 0 18446744073709551615 ws 3) _
    (λ calls c. each_step (Fits line ws) (tear_at ws 4) _ (λ tear d. each_step (Fits line ws) (nothing_at ws 5) _ (λ done e. tt)))))
plan_fits site line ws verb.Crash = each_step (Fits line ws) (one_host site ws) _ (λ host a. tt)
plan_fits site line ws verb.Boot = each_step (Fits line ws) (one_host site ws) _ (λ host a. tt)
plan_fits site line ws verb.Show = each_step (Fits line ws) (nothing_at ws 1) _ (λ done a. tt)

-- ---- hosts

further : (site : List (List ℕ)) (name : Option (List ℕ)) → IfOk (further_host site name) (λ n. length site < 16)
further site None = tt
further site (Some name) =
    unless Room (has_name site name) cause.HostTwice _ (λ once.
    unless Room (nat_le 16 (length site)) cause.TooManyHosts (Ok name) (λ few. leb-false 16 (length site) few))
  where
    Room : List ℕ → Type 0
    Room n = length site < 16

hosts_right : (site : List (List ℕ)) (words : List LineWord) (bad : Bool) → 1 ≤ length site + length words → length site ≤ 16
    → IfOk (hosts_from site words bad) IsSite
unfolding hosts_from
hosts_right site [] bad some few = unless IsSite bad cause.BadQuote (Ok site) (λ good. (omega arith, few))
hosts_right site (word ∷ words) bad some few =
    next_step (λ (n : List ℕ). length site < 16) IsSite (further_host site (name_of word.text)) _ (further site (name_of word.text)) (λ name room.
    hosts_right (site ++ name ∷ []) words bad (omega (arith, length-append site (name ∷ []))) (omega (arith, length-append site (name ∷ []))))

site_right : (ws : LineWords) → IfOk (hosts_of ws) IsSite
unfolding hosts_of
site_right ws = by (drop 1 ws.words)
  where
    by : (words : List LineWord) → IfOk (some_hosts ws.bad words) IsSite
    by [] = tt
    by (word ∷ words) = hosts_right [] (word ∷ words) ws.bad (omega arith) (omega arith)

-- ---- lines

-- what a line says is within the limits
abbrev SaysRight : Says → Type 0
SaysRight Nothing = Unit {0}
SaysRight (Hosts site) = IsSite site
SaysRight (Event e) = is_sane_line e ≡ true

verb_right : (site : List (List ℕ)) (is_open : Bool) (line : List ℕ) (ws : LineWords) (v : Verb) → IfOk (verb_says site is_open line ws v) SaysRight
unfolding verb_says
verb_right site is_open line ws v = by (is_hosts v && is_open)
  where
    by : (t : Bool) → IfOk (cond t (hosts_say ws) (event_says site line ws v)) SaysRight
    by true = next_step IsSite SaysRight (hosts_of ws) _ (site_right ws) (λ hosts right. right)
    by false = next_step (Fits line ws) SaysRight (plan_of site ws v) _ (plan_fits site line ws v) (λ plan fits. event_sane (event_of line ws plan) fits)

first_right : (site : List (List ℕ)) (is_open : Bool) (line : List ℕ) (ws : LineWords) (word : Option LineWord)
    → IfOk (first_says site is_open line ws word) SaysRight
first_right site is_open line ws None = unless SaysRight ws.bad cause.BadQuote (Ok Nothing) (λ good. tt)
first_right site is_open line ws (Some word) = each_step SaysRight (or_fault (verb_of word.text) cause.UnknownWord) _
    (λ v is. verb_right site is_open line ws v)

line_right : (site : List (List ℕ)) (is_open : Bool) (line : List ℕ) → IfOk (line_says site is_open line) SaysRight
unfolding line_says words_say
line_right site is_open line = by (is_remark line)
  where
    by : (t : Bool) → IfOk (cond t (Ok Nothing) (words_say site is_open line (line_words line))) SaysRight
    by true = tt
    by false = first_right site is_open line (line_words line) (slice_get (line_words line).words 0)

-- ---- schedules

pub record IsRight (s : State) : Type 0 where
  pub events : list_all is_sane_line s.events ≡ true
  pub site : IsSite s.site

after_right : (s : State) (says : Says) → IsRight s → SaysRight says → IsRight (after s says)
after_right s Nothing h right = h
after_right s (Hosts site) h right = record { events = h.events; site = right }
after_right s (Event e) h right = record { events = all-added is_sane_line s.events e h.events right; site = h.site }

lines_right : (lines : List (List ℕ)) (s : State) → IsRight s → IfOk (lines_say s lines) IsRight
unfolding lines_say
lines_right [] s h = h
lines_right (line ∷ lines) s h = next_step SaysRight IsRight (line_says s.site s.is_open line) _ (line_right s.site s.is_open line)
    (λ says right. lines_right lines (after s says) (after_right s says h right))

said : (lines : List (List ℕ)) (state : State) → lines_say start lines ≡ Ok state → IsRight state
said lines state say =
    let all : IfOk (lines_say start lines) IsRight = lines_right lines start (record { events = refl; site = (omega arith, omega arith) }) in
    subst (λ (r : Read State). IfOk r IsRight) say all

pub schedules_are_sane : SchedulesAreSane
schedules_are_sane bytes state (lines, front) = (said lines state front.say).events

pub sites_are_right : SitesAreRight
sites_are_right bytes state (lines, front) = (said lines state front.say).site

pub acts_are_sane : ActsAreSane
acts_are_sane events h = list_all-map is_sane_act act_of events ∙ h
