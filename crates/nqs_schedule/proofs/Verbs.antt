-- The line of a verb is read by the verb's form.
use Rattle.std.proofs.Common.{◌≡◌, ℕ, List, refl, ap, sym, ◌∙◌, Some, None, Option, Ok, Err}
use Rattle.std.specs.Prelude.{slice_get}
use Rattle.nqs_base.proofs.Readings.{refused, apart}
use Rattle.nqs_types.specs.declared.world.WorldEvent.{WorldEvent}
use Rattle.nqs_types.specs.declared.world.WorldEvent.TheVariants as event
use Rattle.nqs_schedule.specs.declared.cause.Cause.{Cause}
use Rattle.nqs_schedule.specs.declared.cause.Cause.TheVariants as cause
use Rattle.nqs_schedule.specs.declared.words.LineWord.{LineWord}
use Rattle.nqs_schedule.specs.declared.words.LineWords.{LineWords}
use Rattle.nqs_schedule.specs.declared.plan.Verb.{Verb}
use Rattle.nqs_schedule.specs.declared.plan.Verb.TheVariants as verb
use Rattle.nqs_schedule.specs.declared.plan.Plan.{Plan}
use Rattle.nqs_schedule.specs.declared.plan.Plan.TheVariants as plan
use Rattle.nqs_schedule.specs.declared.line.Says.{Says}
use Rattle.nqs_schedule.specs.declared.line.Says.TheVariants.{Event}
use Rattle.nqs_schedule.specs.Words.{Read, ◌>>=◌, text_or, text_at, text_there, name_at, number_at, host_at, request_at, disk_at, tear_at, output_at}
use Rattle.nqs_schedule.specs.Words.{nothing_at, all_good}
use Rattle.nqs_schedule.specs.Plans.{submit_plan, qsub_plan, qmgr_plan, qstat_plan, qdel_plan, end_plan, one_host, fail_plan, host_and_file, deliver_plan}
use Rattle.nqs_schedule.specs.Plans.{newest_plan, clock_plan, fuse_plan, show_plan, plan_of}
use Rattle.nqs_schedule.specs.Events.{text_in, bytes_at, event_of}
use Rattle.nqs_schedule.specs.Says.{event_says}
use Rattle.nqs_schedule.specs.Forms.{words, form_of}
use Rattle.nqs_schedule.specs.Spelled.{as_event, ReadsEvents}
use Rattle.nqs_schedule.proofs.Spelling.{outputs_at, read_form, reads-form}

-- one step of two readings at once
step : {A B C D : Type 0} (m : Read A) (f : A → Read B) (g : A → Read C) (k : B → Read D) (l : C → Read D) → ((a : A) → (f a >>= k) ≡ (g a >>= l))
    → ((m >>= f) >>= k) ≡ ((m >>= g) >>= l)
step (Ok a) f g k l h = h a
step (Err x) f g k l h = refl

abbrev made : List ℕ → LineWords → Plan → Read Says
made line ws p = Ok (Event (event_of line ws p))

abbrev said : WorldEvent → Read Says
said e = Ok (Event e)

-- a step before a reading that is taken up once more
inner : {A B C D E : Type 0} (m : Read A) (f : A → Read B) (h : B → Read C) (g : A → Read E) (k : C → Read D) (l : E → Read D)
    → ((a : A) → ((f a >>= h) >>= k) ≡ (g a >>= l)) → (((m >>= f) >>= h) >>= k) ≡ ((m >>= g) >>= l)
inner (Ok a) f h g k l e = e a
inner (Err x) f h g k l e = refl

abbrev found : Read (Unit {0})
found = Ok tt

-- the script of a submission
script : {B D : Type 0} (ws : LineWords) (i : ℕ) (r : Read B) (g : List ℕ → Read WorldEvent) (k : B → Read D) (l : WorldEvent → Read D)
    → (r >>= k) ≡ (g (bytes_at ws i) >>= l) → ((text_there ws i >>= (λ u. r)) >>= k) ≡ ((text_at ws i >>= g) >>= l)
unfolding text_there text_at
script {B} {D} ws i r g k l = by (slice_get ws.words i)
  where
    by : (o : Option LineWord) → (r >>= k) ≡ (g (text_in o) >>= l) → (((text_or o ws.bad >>= (λ t. found)) >>= (λ u. r)) >>= k)
        ≡ ((text_or o ws.bad >>= g) >>= l)
    by (Some w) h = h
    by None h = refl

by-form : (site : List (List ℕ)) (line : List ℕ) (ws : LineWords) (v : Verb) → event_says site line ws v ≡ (read_form site line ws (form_of v) 1 >>= said)
unfolding plan_of form_of read_form submit_plan qsub_plan qmgr_plan qstat_plan qdel_plan end_plan one_host fail_plan host_and_file deliver_plan newest_plan
    clock_plan fuse_plan show_plan outputs_at
by-form site line ws verb.Hosts = refl
by-form site line ws verb.Submit = step (name_at ws 1) _ _ _ _ (λ user. step (name_at ws 2) _ _ _ _ (λ title. step (nothing_at ws 3) _ _ _ _ (λ u. refl)))
by-form site line ws verb.Qsub = step (host_at site ws 1) _ _ _ _ (λ h. step (name_at ws 2) _ _ _ _
    (λ user. script ws 3 _ _ _ _ (step (all_good ws) _ _ _ _ (λ u. refl))))
by-form site line ws verb.Qmgr = step (host_at site ws 1) _ _ _ _ (λ h. step (name_at ws 2) _ _ _ _ (λ user. refl))
by-form site line ws verb.Qstat = step (host_at site ws 1) _ _ _ _ (λ h. step (name_at ws 2) _ _ _ _ (λ user. step (all_good ws) _ _ _ _ (λ u. refl)))
by-form site line ws verb.Qdel = step (host_at site ws 1) _ _ _ _ (λ h. step (name_at ws 2) _ _ _ _ (λ user. step (all_good ws) _ _ _ _ (λ u. refl)))
by-form site line ws verb.End = step (host_at site ws 1) _ _ _ _ (λ h. step (request_at site ws 2) _ _ _ _
    (λ id. step (number_at 0 65535 ws 3) _ _ _ _ (λ start. step (number_at 0 255 ws 4) _ _ _ _ (λ status.
    step (output_at ws 5) _ _ _ _ (λ u. step (output_at ws 6) _ _ _ _ (λ v. step (nothing_at ws 7) _ _ _ _ (λ w. refl)))))))
by-form site line ws verb.Finish = inner (host_at site ws 1) _ _ _ _ _ (λ h. inner (nothing_at ws 2) _ _ _ _ _ (λ u. refl))
by-form site line ws verb.Fail = step (host_at site ws 1) _ _ _ _ (λ h. step (request_at site ws 2) _ _ _ _
    (λ id. step (number_at 0 65535 ws 3) _ _ _ _ (λ start. step (nothing_at ws 4) _ _ _ _ (λ u. refl))))
by-form site line ws verb.Written = inner (host_at site ws 1) _ _ _ _ _ (λ h. inner (number_at 0 18446744073709551615 ws 2) _ _ _ _ _
    (λ file. inner (nothing_at ws 3) _ _ _ _ _ (λ u. refl)))
by-form site line ws verb.Unwritten = inner (host_at site ws 1) _ _ _ _ _
    (λ h. inner (number_at 0 18446744073709551615 ws 2) _ _ _ _ _ (λ file. inner (nothing_at ws 3) _ _ _ _ _ (λ u. refl)))
by-form site line ws verb.Deliver = step (number_at 1 18446744073709551615 ws 1) _ _ _ _ (λ packet. step (nothing_at ws 2) _ _ _ _ (λ u. refl))
by-form site line ws verb.Newest = step (host_at site ws 1) _ _ _ _ (λ one. step (host_at site ws 2) _ _ _ _
    (λ other. step (nothing_at ws 3) _ _ _ _ (λ u. refl)))
by-form site line ws verb.Tick = inner (host_at site ws 1) _ _ _ _ _ (λ h. inner (nothing_at ws 2) _ _ _ _ _ (λ u. refl))
by-form site line ws verb.Clock = step (number_at 0 18446744073709551615 ws 1) _ _ _ _ (λ moment. step (nothing_at ws 2) _ _ _ _ (λ u. refl))
by-form site line ws verb.Fuse = step (host_at site ws 1) _ _ _ _ (λ h. step (disk_at ws 2) _ _ _ _
    (λ d. step (number_at 0 18446744073709551615 ws 3) _ _ _ _ (λ calls. step (tear_at ws 4) _ _ _ _ (λ t. step (nothing_at ws 5) _ _ _ _ (λ u. refl)))))
by-form site line ws verb.Crash = inner (host_at site ws 1) _ _ _ _ _ (λ h. inner (nothing_at ws 2) _ _ _ _ _ (λ u. refl))
by-form site line ws verb.Boot = inner (host_at site ws 1) _ _ _ _ _ (λ h. inner (nothing_at ws 2) _ _ _ _ _ (λ u. refl))
by-form site line ws verb.Show = step (nothing_at ws 1) _ _ _ _ (λ u. refl)

one_event : (a b : WorldEvent) → ◌≡◌ {A = Read Says} (said a) (said b) → a ≡ b
one_event a b e = cc

-- the event that was read
read-event : (r answer : Read WorldEvent) → (r >>= said) ≡ as_event answer → r ≡ answer
read-event (Ok a) (Ok b) e = ap (λ (x : WorldEvent). Ok x) (one_event a b e)
read-event (Ok a) (Err x) e = absurd (apart (Event a) x e)
read-event (Err x) (Ok b) e = absurd (apart (Event b) x (sym e))
read-event (Err x) (Err y) e = ap (λ (c : Cause). Err c) (sym (refused {A = Says} x y e))

event-read : (r answer : Read WorldEvent) → r ≡ answer → (r >>= said) ≡ as_event answer
event-read r (Ok a) e = ap (λ (x : Read WorldEvent). x >>= said) e
event-read r (Err x) e = ap (λ (x : Read WorldEvent). x >>= said) e

pub events_are_read : ReadsEvents
events_are_read site line ws v (Ok e) =
    let form = read_form site line ws (form_of v) 1 in
    let is = by-form site line ws v in
    let law = (reads-form site line ws (form_of v) 1).0 e in
    ((λ h. law.0 (read-event form (Ok e) (sym is ∙ h))), (λ s. is ∙ event-read form (Ok e) (law.1 s)))
events_are_read site line ws v (Err why) =
    let form = read_form site line ws (form_of v) 1 in
    let is = by-form site line ws v in
    let law = (reads-form site line ws (form_of v) 1).1 why in
    ((λ h. law.0 (read-event form (Err why) (sym is ∙ h))), (λ s. is ∙ event-read form (Err why) (law.1 s)))
