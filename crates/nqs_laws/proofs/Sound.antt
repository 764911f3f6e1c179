-- What holds at every moment of a run: each host is in order, and each packet within its limits.
use Rattle.std.proofs.Common.{◌≡◌, ℕ, ◌+◌, ◌≤◌, Bool, true, false, if◌then◌else◌, ◌==◌, List, [], ◌∷◌, ◌++◌, map, length, slice_get, Option, None, Some}
use Rattle.std.proofs.Common.{true≢false, zero, suc, refl, sym, ap, subst, ◌∙◌, arith}
use Rattle.std.proofs.lemmas.Bool.{and_parts, and_from, eqb-true, eq-eqb}
use Rattle.std.proofs.lemmas.Option.{same_Some, none-some}
use Rattle.std.proofs.lemmas.List.Folds.{list_all-append}
use Rattle.std.specs.Option.{IfSome}
use Rattle.std.specs.List.{list_all, filter_map, cons_option}
use Rattle.nqs_base.proofs.Plain.{all-true}
use Rattle.nqs_state.specs.State.{Plain}
use Rattle.nqs_types.specs.declared.ids.HostId.{HostId}
use Rattle.nqs_types.specs.declared.request.Carried.{Carried}
use Rattle.nqs_types.specs.declared.message.Message.{Message}
use Rattle.nqs_types.specs.declared.change.Change.{Change}
use Rattle.nqs_types.specs.declared.change.Change.TheVariants.{Submitted, Started, Boot, HandOpened, OldPromised, Promised, MovedLocal, RefusedLocal, HeldFar}
use Rattle.nqs_types.specs.declared.event.Event.{Event}
use Rattle.nqs_types.specs.declared.event.Event.TheVariants as event
use Rattle.nqs_types.specs.declared.event.Output.TheVariants as out
use Rattle.nqs_types.specs.declared.world.Seen.{Seen}
use Rattle.nqs_rules.specs.Applied.{applied, may_start_again}
use Rattle.nqs_rules.specs.Edits.{change_at}
use Rattle.nqs_rules.specs.Find.{host_at}
use Rattle.nqs_rules.specs.Fits.{fits}
use Rattle.nqs_rules.specs.Format.{formatted}
use Rattle.nqs_rules.specs.InOrder.{IsInOrder, IsConsistent}
use Rattle.nqs_rules.specs.Tests.{is_running}
use Rattle.nqs_rules.specs.Sane.{is_short_script, is_short_change, is_sane_message, is_sane_event, is_sane_change}
use Rattle.nqs_rules.specs.Start.{start}
use Rattle.nqs_rules.specs.Starts.{after_change}
use Rattle.nqs_rules.specs.Step.{step}
use Rattle.nqs_rules.specs.Stepped.{shown}
use Rattle.nqs_rules.specs.World.{World, Act, new_world, hosts_from, boot_output}
use Rattle.nqs_rules.specs.Run.{run}
use Rattle.nqs_rules.specs.Handover.{carried_of}
use Rattle.nqs_rules.proofs.ListFacts.{list_all-weaker}
use Rattle.nqs_rules.proofs.KeyFacts.{all_get}
use Rattle.nqs_rules.proofs.PeersOrder.{get-other}
use Rattle.nqs_rules.proofs.ChangesOrder.{applied_order}
use Rattle.nqs_rules.proofs.ChangesConsistent.{applied_consistent}
use Rattle.nqs_rules.proofs.MessagesFit.{step_fits}
use Rattle.nqs_rules.proofs.StartIs.{StartsRow, start_is}
use Rattle.nqs_rules.proofs.Until.{steady}
use Rattle.nqs_rules.proofs.Formatted.{formatted_order}
use Rattle.nqs_rules.specs.Notes.{Note, Saw}
use Rattle.nqs_rules.specs.Picked.{PlainRow}
use Rattle.nqs_laws.specs.History.{history}
use Rattle.nqs_laws.specs.Words.{body_passes}
use Rattle.nqs_laws.specs.Sane.{AreSane}
use Rattle.nqs_laws.proofs.Frame.{Moment, moment, put_state, Comes, Way, Taken, Begun, Booted, change_by, why_by, outputs_by, sent_in, IsIdle, noted, silent}
use Rattle.nqs_laws.proofs.Frame.{whole, cut, Frames, Steps, steps_of, run_kept}
use Rattle.nqs_laws.proofs.RowTests.{IsKept, NewPasses, AllPass, change_passes}
use Rattle.nqs_rules.proofs.Sides.{head, head_kept, AreShort, short_kept}
use Rattle.nqs_laws.proofs.Sent.{is_fine_message, all_sent, step_fine, start_sends, step_stores}

abbrev pub is_script_short : PlainRow → Bool
is_script_short r = is_short_script r.script

-- a host of a site, at its place
pub record IsHost (site : List (List ℕ)) (place : ℕ) (s : Plain) : Type 0 where
  pub head : head s ≡ (host_at place, site)
  pub order : IsInOrder s
  pub calm : IsConsistent s
  pub scripts : AllPass is_script_short s
  pub outputs : AreShort length s

pub record IsSound (site : List (List ℕ)) (m : Moment) : Type 0 where
  pub hosts : (place : ℕ) (s : Plain) → slice_get m.states place ≡ Some s → IsHost site place s
  pub count : length m.states ≡ length site
  pub packets : list_all (is_sane_message (length site)) m.packets ≡ true

script_kept : IsKept is_script_short
script_kept = record { stays = λ r q e k. ap (λ (c : _). is_short_script c.2) e.core ∙ k; again = λ r may k. k }

-- a host after a change that fits

module _ (site : List (List ℕ)) (place : ℕ) (s : Plain) (h : IsHost site place s) where
  abbrev site_is : s.site ≡ site
  site_is = λ j. (h.head j).1

  new_short : (c : Change (List ℕ)) → is_short_change length c ≡ true → NewPasses is_script_short c s
  new_short (Submitted queue job script) k = k
  new_short (OldPromised peer number queue c script) k = k
  new_short (Promised peer number low queue c script) k = k
  new_short c k = tt

  pub host_kept : (c : Change (List ℕ)) → fits c s ≡ true → is_sane_change c ≡ true → is_short_change length c ≡ true → IsHost site place (applied c s)
  host_kept c fit sane short = record {
    head = head_kept c s fit ∙ h.head;
    order = applied_order c s h.order sane fit;
    calm = applied_consistent s h.order h.calm c fit;
    scripts = change_passes is_script_short script_kept c s fit (new_short c short) h.scripts;
    outputs = short_kept length c s fit short h.outputs;
  }

-- what a host does

pub event_sane : (packets : List Message) (h : HostId) (n : ℕ) (e : Event) → list_all (is_sane_message n) packets ≡ true → Comes packets h e
    → is_sane_event n e ≡ true
event_sane packets h n (event.Ask now port token user c) all comes = comes
event_sane packets h n (event.Arrived now m) all comes = all_get (is_sane_message n) packets comes.1.0 m all comes.1.1
event_sane packets h n (event.Ended now port id start status output error) all comes = comes
event_sane packets h n (event.Unlaunched now id start) all comes = refl
event_sane packets h n (event.Written now file) all comes = refl
event_sane packets h n (event.Unwritten now file) all comes = refl
event_sane packets h n (event.Tick now) all comes = refl

-- a change that a host may make
pub record Suits (s : Plain) (c : Change (List ℕ)) : Type 0 where
  pub fit : fits c s ≡ true
  pub sane : is_sane_change c ≡ true
  pub short : is_short_change length c ≡ true

pub some-if : {V : Type 0} (P : V → Type 0) (o : Option V) (v : V) → IfSome o P → o ≡ Some v → P v
some-if P None v k e = absurd (none-some v e)
some-if P (Some u) v k e = subst P (same_Some u v e) k

boot_sends : (n : ℕ) (test : Carried → Bool) (rows : List PlainRow) → list_all (is_fine_message n test) (sent_in (filter_map boot_output rows)) ≡ true
boot_sends n test [] = refl
boot_sends n test (r ∷ rows) = by (is_running r.state) (may_start_again r) (boot_sends n test rows)
  where
    by : (b c : Bool) → list_all (is_fine_message n test) (sent_in (filter_map boot_output rows)) ≡ true
        → list_all (is_fine_message n test) (sent_in (cons_option (if b then Some (if c then out.Again r.id else out.Lost r.id) else None)
        (filter_map boot_output rows))) ≡ true
    by true true rest = rest
    by true false rest = rest
    by false c rest = rest

-- a start stores nothing
begun_short : (s : Plain) (r : PlainRow) (c : Change (List ℕ)) → StartsRow s r c → is_short_change length c ≡ true
begun_short s r (Started id device) starts = refl
begun_short s r (HeldFar id) starts = refl
begun_short s r (MovedLocal id queue) starts = refl
begun_short s r (RefusedLocal id queue refusal) starts = refl
begun_short s r (HandOpened peer number id queue since) starts = refl
begun_short s r c starts = absurd starts

module _ (site : List (List ℕ)) (m : Moment) (k : IsSound site m) (h : HostId) (s : Plain) (there : slice_get m.states h.0 ≡ Some s) where
  abbrev host : IsHost site h.0 s
  host = k.hosts h.0 s there

  pub me_is : s.me ≡ h
  me_is = λ j. (host.head j).0

  pub all_sane : list_all (is_sane_message (length s.site)) m.packets ≡ true
  all_sane = ap (λ l. list_all (is_sane_message (length l)) m.packets) (site_is site h.0 s host) ∙ k.packets

  pub way_suits : (way : Way m.packets h s) (c : Change (List ℕ)) → change_by way ≡ Some c → Suits s c
  way_suits (Taken e comes) c is =
      let sane = event_sane m.packets h (length s.site) e all_sane comes in
      let p = some-if (λ c. (fits c s ≡ true) × (is_sane_change c ≡ true)) (step e s).change c (step_fits s host.order e sane) is in
      record {
        fit = p.0;
        sane = p.1;
        short = some-if (λ c. is_short_change length c ≡ true) (step e s).change c
            (step_stores s host.order (λ c. true) (λ id. true) host.scripts host.outputs (all-true s.rows) e sane) is;
      }
  way_suits (Begun now x begins) c is =
      let started = start_is now s x (steady s host.order) begins in
      let same : started.change ≡ c = same_Some started.change c (sym started.makes ∙ is) in
      subst (Suits s) same (record { fit = started.may.0; sane = started.may.1; short = begun_short s started.row started.change started.starts })
  way_suits Booted c is = subst (Suits s) (same_Some Boot c is) (record { fit = refl; sane = refl; short = refl })

  pub way_sends : (test : Carried → Bool) → list_all (λ (r : PlainRow). test (carried_of r)) s.rows ≡ true → (way : Way m.packets h s)
      → list_all (is_fine_message (length s.site) test) (sent_in (outputs_by way)) ≡ true
  way_sends test carries (Taken e comes) =
      all_sent s host.order test (λ id. true) (map shown (step e s).outputs)
      (step_fine s host.order test (λ id. true) host.scripts host.outputs carries e (event_sane m.packets h (length s.site) e all_sane comes)
      (λ queue job script submits. refl))
  way_sends test carries (Begun now x begins) = start_sends s host.order test (λ id. true) host.scripts host.outputs carries now x begins
      (λ c is. (way_suits (Begun now x begins) c is).fit)
  way_sends test carries Booted = boot_sends (length s.site) test s.rows

  sent_sane : (way : Way m.packets h s) → list_all (is_sane_message (length site)) (m.packets ++ sent_in (outputs_by way)) ≡ true
  sent_sane way =
      list_all-append (is_sane_message (length site)) m.packets (sent_in (outputs_by way))
      ∙ and_from (list_all (is_sane_message (length site)) m.packets) (list_all (is_sane_message (length site)) (sent_in (outputs_by way))) k.packets
      (ap (λ l. list_all (is_sane_message (length l)) (sent_in (outputs_by way))) (sym (site_is site h.0 s host))
      ∙ list_all-weaker (is_fine_message (length s.site) (λ c. true)) (is_sane_message (length s.site))
      (λ x p. (and_parts (is_sane_message (length s.site) x) (body_passes (λ c. true) x.body) p).0) (sent_in (outputs_by way))
      (way_sends (λ c. true) (all-true s.rows) way))

-- another state of one host

pub get-here : {V : Type 0} (n : ℕ) (v u : V) (vs : List V) → slice_get vs n ≡ Some u → slice_get (change_at n (λ _. v) vs) n ≡ Some v
get-here n v u [] e = absurd (none-some u e)
get-here zero v u (x ∷ vs) e = refl
get-here (suc n) v u (x ∷ vs) e = get-here n v u vs e

pub length-put : {V : Type 0} (n : ℕ) (v : V) (vs : List V) → length (change_at n (λ _. v) vs) ≡ length vs
length-put n v [] = refl
length-put zero v (x ∷ vs) = refl
length-put (suc n) v (x ∷ vs) = ap suc (length-put n v vs)

pub hosts_put : (site : List (List ℕ)) (states : List Plain) (h : HostId) (s u : Plain) → slice_get states h.0 ≡ Some s
    → ((place : ℕ) (v : Plain) → slice_get states place ≡ Some v → IsHost site place v) → IsHost site h.0 u
    → (place : ℕ) (v : Plain) → slice_get (put_state h u states) place ≡ Some v → IsHost site place v
hosts_put site states h s u there all new place v at = by (h.0 == place) refl
  where
    by : (b : Bool) → (h.0 == place) ≡ b → IsHost site place v
    by true e =
        let here : h.0 ≡ place = eqb-true h.0 place e in
        let same : u ≡ v = same_Some u v (sym (get-here h.0 u s states there) ∙ ap (slice_get (put_state h u states)) here ∙ at) in
        subst (λ n. IsHost site n v) here (subst (IsHost site h.0) same new)
    by false e = all place v (sym (get-other h.0 place (λ _. u) states (λ here. true≢false (sym (eq-eqb h.0 place here) ∙ e))) ∙ at)

module _ (site : List (List ℕ)) where
  after_kept : (place : ℕ) (s : Plain) → IsHost site place s → (o : Option (Change (List ℕ))) → ((c : Change (List ℕ)) → o ≡ Some c → Suits s c)
      → IsHost site place (after_change o s)
  after_kept place s h None suits = h
  after_kept place s h (Some c) suits = let k = suits c refl in host_kept site place s h c k.fit k.sane k.short

  pub sound_frames : Frames (IsSound site)
  sound_frames = record {
    idle = λ m x idle k. record { hosts = k.hosts; count = k.count; packets = k.packets };
    kept = λ m h s there way c is k. (let suits = way_suits site m k h s there way c is in
        record {
          hosts = hosts_put site m.states h s (applied c s) there k.hosts (host_kept site h.0 s (k.hosts h.0 s there) c suits.fit suits.sane suits.short);
          count = length-put h.0 (applied c s) m.states ∙ k.count;
          packets = k.packets;
        });
    made = λ m h s there way k. record {
      hosts = hosts_put site m.states h s (after_change (change_by way) s) there k.hosts
          (after_kept h.0 s (k.hosts h.0 s there) (change_by way) (way_suits site m k h s there way));
      count = length-put h.0 (after_change (change_by way) s) m.states ∙ k.count;
      packets = sent_sane site m k h s there way;
    };
  }

  pub new_hosts : (few : length site ≤ 16) (place : ℕ) (names : List (List ℕ)) → place + length names ≡ length site → (n : ℕ) (s : Plain)
      → slice_get (map (λ h. h.state) (hosts_from place site names)) n ≡ Some s → IsHost site (place + n) s
  new_hosts few place [] all n s e = absurd (none-some s e)
  new_hosts few place (name ∷ names) all zero s e =
      let me : HostId = record { 0 = place } in
      let new : IsHost site place (formatted me site) = record {
        head = refl;
        order = formatted_order me site (omega arith) few;
        calm = record { doomed = refl; held = refl; routing = refl; promises = refl; given = refl };
        scripts = record { rows = refl; promises = refl };
        outputs = record { stages = refl; files = refl };
      } in
      let at : place ≡ place + 0 = omega arith in
      subst (λ n. IsHost site n s) at (subst (IsHost site place) (same_Some (formatted me site) s e) new)
  new_hosts few place (name ∷ names) all (suc n) s e =
      let at : (place + 1) + n ≡ place + suc n = omega arith in
      subst (λ n. IsHost site n s) at (new_hosts few (place + 1) names (omega arith) n s e)

  new_length : (place : ℕ) (names : List (List ℕ)) → length (map (λ h. h.state) (hosts_from place site names)) ≡ length names
  new_length place [] = refl
  new_length place (name ∷ names) = ap suc (new_length (place + 1) names)

  pub new_sound : length site ≤ 16 → IsSound site (moment (new_world site) [])
  new_sound few = record {
    hosts = λ place s at. (let e : 0 + place ≡ place = omega arith in subst (λ n. IsHost site n s) e (new_hosts few 0 site (omega arith) place s at));
    count = new_length 0 site;
    packets = refl;
  }

  -- every run is sound
  pub run_sound : length site ≤ 16 → (acts : List Act) → AreSane acts → IsSound site (moment (run acts (new_world site)).world (history acts (new_world site)))
  run_sound few acts sane = run_kept (IsSound site) (steps_of (IsSound site) sound_frames) acts (new_world site) [] sane (new_sound few)

-- laws on sound runs

pub record Keeps (site : List (List ℕ)) (P : Moment → Type 0) : Type 0 where
  pub idle : (m : Moment) (x : Seen) → IsSound site m → IsIdle x → P m → P (noted m (Saw x ∷ []))
  pub kept : (m : Moment) → IsSound site m → (h : HostId) (s : Plain) → slice_get m.states h.0 ≡ Some s → (way : Way m.packets h s) (c : Change (List ℕ))
      → change_by way ≡ Some c → Suits s c → P m → P (silent m h s (why_by way) c)
  pub made : (m : Moment) → IsSound site m → (h : HostId) (s : Plain) → slice_get m.states h.0 ≡ Some s → (way : Way m.packets h s)
      → ((c : Change (List ℕ)) → change_by way ≡ Some c → Suits s c) → P m → P (whole m h s way)

pub record Both (P Q : Moment → Type 0) (m : Moment) : Type 0 where
  pub first : P m
  pub second : Q m

module _ (site : List (List ℕ)) (P : Moment → Type 0) (f : Keeps site P) where
  keeps_frames : Frames (Both (IsSound site) P)
  keeps_frames = record {
    idle = λ m x idle k. record { first = (sound_frames site).idle m x idle k.first; second = f.idle m x k.first idle k.second };
    kept = λ m h s there way c is k. record {
      first = (sound_frames site).kept m h s there way c is k.first;
      second =
          f.kept m k.first h s there way c is (way_suits site m k.first h s there way c is) k.second;
    };
    made = λ m h s there way k. record {
      first = (sound_frames site).made m h s there way k.first;
      second =
          f.made m k.first h s there way (way_suits site m k.first h s there way) k.second;
    };
  }

  -- what each step keeps holds of every run of a new network
  pub runs_keep : length site ≤ 16 → P (moment (new_world site) []) → (acts : List Act) → AreSane acts
      → P (moment (run acts (new_world site)).world (history acts (new_world site)))
  runs_keep few new acts sane = (run_kept (Both (IsSound site) P) (steps_of (Both (IsSound site) P) keeps_frames) acts (new_world site) [] sane
      (record { first = new_sound site few; second = new })).second

  -- and of what comes behind any moment
  pub goes_on : (w : World) (ns : List Note) → IsSound site (moment w ns) → P (moment w ns) → (more : List Act) → AreSane more
      → P (moment (run more w).world (ns ++ history more w))
  goes_on w ns sound k more sane = (run_kept (Both (IsSound site) P) (steps_of (Both (IsSound site) P) keeps_frames) more w ns sane
      (record { first = sound; second = k })).second

-- the same, where a kept change goes with the stop behind it

pub record KeepsStops (site : List (List ℕ)) (P : Moment → Type 0) : Type 0 where
  pub idle : (m : Moment) (x : Seen) → IsSound site m → IsIdle x → P m → P (noted m (Saw x ∷ []))
  pub stopped : (m : Moment) → IsSound site m → (h : HostId) (s : Plain) → slice_get m.states h.0 ≡ Some s → (way : Way m.packets h s) (c : Change (List ℕ))
      → change_by way ≡ Some c → Suits s c → P m → P (cut m h s (why_by way) c)
  pub made : (m : Moment) → IsSound site m → (h : HostId) (s : Plain) → slice_get m.states h.0 ≡ Some s → (way : Way m.packets h s)
      → ((c : Change (List ℕ)) → change_by way ≡ Some c → Suits s c) → P m → P (whole m h s way)

module _ (site : List (List ℕ)) (P : Moment → Type 0) (f : KeepsStops site P) where
  keeps_steps : Steps (Both (IsSound site) P)
  keeps_steps = record {
    idle = λ m x idle k. record { first = (sound_frames site).idle m x idle k.first; second = f.idle m x k.first idle k.second };
    stopped = λ m h s there way c is k. record {
      first = (steps_of (IsSound site) (sound_frames site)).stopped m h s there way c is k.first;
      second = f.stopped m k.first h s there way c is (way_suits site m k.first h s there way c is) k.second;
    };
    made = λ m h s there way k. record {
      first = (sound_frames site).made m h s there way k.first;
      second =
          f.made m k.first h s there way (way_suits site m k.first h s there way) k.second;
    };
  }

  pub stops_keep : length site ≤ 16 → P (moment (new_world site) []) → (acts : List Act) → AreSane acts
      → P (moment (run acts (new_world site)).world (history acts (new_world site)))
  stops_keep few new acts sane = (run_kept (Both (IsSound site) P) keeps_steps acts (new_world site) [] sane
      (record { first = new_sound site few; second = new })).second
