-- Each event of a schedule that a seed gives is within the limits, and its site is right.
use Rattle.std.proofs.Common.{◌≡◌, ℕ, zero, suc, ◌+◌, ◌*◌, ◌%◌, ◌/◌, Bool, true, false, cond, ◌==◌, nat_lt, List, [], ◌∷◌, ◌++◌, length, codes, refl, ◌∙◌}
use Rattle.std.proofs.Common.{arith}
use Rattle.std.proofs.lemmas.Bool.{and_from}
use Rattle.std.proofs.lemmas.List.{length-append}
use Rattle.std.proofs.lemmas.List.Folds.{list_all-append}
use Rattle.std.specs.List.{list_all}
use Rattle.nqs_types.specs.declared.world.WorldEvent.{WorldEvent}
use Rattle.nqs_types.specs.declared.world.WorldEvent.TheVariants as event
use Rattle.nqs_rules.specs.Find.{host_at}
use Rattle.nqs_schedule.specs.Generated.{host_name, root_line, link_line, set_up, for_hosts, piped, submitted_once, drawn, drawn_from, generator_of}
use Rattle.nqs_schedule.specs.Generated.{booted, generated, generated_site}
use Rattle.nqs_language_acts.specs.Acts.{is_sane_line}
use Rattle.nqs_language_acts.specs.Laws.{GeneratedSchedulesAreSane, GeneratedSitesAreRight}
use Rattle.nqs_language_acts.proofs.Schedules.{HasShortOutputs, event_sane}

-- a drawn event that is the end of no long job
record Short (e : WorldEvent) : Type 0 where
  outputs : HasShortOutputs e

record Sane (events : List WorldEvent) : Type 0 where
  all : list_all is_sane_line events ≡ true

none : Sane []
none = record { all = refl }

one_more : {e : WorldEvent} {events : List WorldEvent} → Short e → Sane events → Sane (e ∷ events)
one_more {e} {events} short h = record { all = and_from (is_sane_line e) (list_all is_sane_line events) (event_sane e short.outputs) h.all }

joined : {one other : List WorldEvent} → Sane one → Sane other → Sane (one ++ other)
joined {one} {other} h k = record {
  all = list_all-append is_sane_line one other
      ∙ and_from (list_all is_sane_line one) (list_all is_sane_line other) h.all k.all;
}

hosts_sane : (f : ℕ → List WorldEvent) (n : ℕ) → ((i : ℕ) → Sane (f i)) → Sane (for_hosts f n)
unfolding for_hosts
hosts_sane f zero h = none
hosts_sane f (suc n) h = joined (hosts_sane f n h) (h n)

line_short : (i : ℕ) (text : List ℕ) → Short (root_line i text)
line_short i text = record { outputs = tt }

set_up_sane : (hosts i : ℕ) → Sane (set_up hosts i)
set_up_sane hosts i =
    one_more (line_short i (link_line ((i + 1) % hosts))) (one_more (line_short i (codes "enable queue link"))
    (one_more (line_short i (codes "start queue link")) (one_more (line_short i (codes "start queue batch")) none)))

either : {one other : WorldEvent} (t : Bool) → Short one → Short other → Short (cond t one other)
either true h k = h
either false h k = k

drawn_short : (hosts k word : ℕ) → Short (drawn hosts k word)
unfolding drawn
drawn_short hosts k word =
    either (nat_lt kind 4) (short (piped a word) tt)
    (either (kind == 4) (short (submitted_once a) tt)
    (either (nat_lt kind 11) (short (event.Newest (host_at a) (host_at ((a + 1) % hosts))) tt)
    (either (kind == 11) (short (event.Tick (host_at a)) tt)
    (either (kind == 12) (short (event.Finish (host_at a)) tt)
    (either (kind == 13) (either (word / 65536 % 4 == 0) (short (event.Crash (host_at a)) tt) (short (event.Boot (host_at a)) tt))
    (either (kind == 14) (short (event.Boot (host_at a)) tt) (short (event.Clock (30 * k)) tt)))))))
  where
    kind : ℕ
    kind = word % 16

    a : ℕ
    a = word / 16 % hosts

    short : (e : WorldEvent) → HasShortOutputs e → Short e
    short e h = record { outputs = h }

drawn_sane : (hosts k : ℕ) (g : _) (n : ℕ) → Sane (drawn_from hosts k g n)
unfolding drawn_from
drawn_sane hosts k g zero = none
drawn_sane hosts k g (suc n) = one_more (drawn_short hosts k _) (drawn_sane hosts (k + 1) _ n)

booted_sane : (i : ℕ) → Sane (booted i)
booted_sane i = one_more (record { outputs = tt }) none

pub generated_schedules_are_sane : GeneratedSchedulesAreSane
unfolding generated
generated_schedules_are_sane seed hosts events =
    let shown : Sane (event.Show ∷ []) = one_more (record { outputs = tt }) none in
    (joined (joined (joined (hosts_sane (set_up hosts) hosts (set_up_sane hosts)) (drawn_sane hosts 1 (generator_of seed) events))
    (hosts_sane booted hosts booted_sane)) shown).all

length_site : (n : ℕ) → length (generated_site n) ≡ n
unfolding generated_site
length_site zero = refl
length_site (suc n) = omega (arith, length-append (generated_site n) (host_name n ∷ []), length_site n)

pub generated_sites_are_right : GeneratedSitesAreRight
generated_sites_are_right hosts some few = (omega (arith, length_site hosts), omega (arith, length_site hosts))
