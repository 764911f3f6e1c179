-- A run with one event more.
use Rattle.std.proofs.Common.{◌≡◌, Bool, true, false, ◌&&◌, List, [], ◌∷◌, ◌++◌, ℕ, map, take, drop, refl, sym, ap, subst, ◌∙◌, append_assoc, take-append-drop}
use Rattle.std.specs.List.{list_all}
use Rattle.std.proofs.lemmas.List.{append-nil, map-append}
use Rattle.std.proofs.lemmas.List.Folds.{list_all-append}
use Rattle.std.proofs.lemmas.List.Concat.{flat_map-append}
use Rattle.nqs_types.specs.declared.world.Seen.{Seen}
use Rattle.nqs_types.specs.declared.world.WorldEvent.{WorldEvent}
use Rattle.nqs_rules.specs.Notes.{sights}
use Rattle.nqs_rules.specs.World.{Act, World as Network, Ran, seen_of, new_world}
use Rattle.nqs_rules.specs.Run.{happens, run}
use Rattle.nqs_rules.specs.Transcript.{seen_text, transcript}
use Rattle.nqs_laws.proofs.Told.{sights-append}
use Rattle.nqs_language_acts.specs.Acts.{act_of, is_sane_line}
use Rattle.nqs_schedule.specs.Summary.{nothing_seen, counted, summary_of}
use Rattle.nqs_schedule.specs.declared.summary.Summary.{Summary}
use Rattle.std.specs.declared.result.Result.{Result}
use Rattle.std.specs.Prelude.{Ok, Err, OnOk}
use Rattle.std.proofs.lemmas.Bool.{and_parts}
use Rattle.nqs_laws.proofs.Closing.{run-append}
use Rattle.nqs_net.specs.Worlds.{IsWorld}
use Rattle.nqs_net.specs.declared.world.World.{World}
use Rattle.nqs_network_runs.specs.Running.{ran, text_of}
use Rattle.nqs_network_runs.specs.Writing.{GoesOn, Tells}
use Rattle.nqs_network_runs.specs.Fronts.{BeginsWith}

run_seen : (acts more : List Act) (w : Network) → seen_of (run (acts ++ more) w) ≡ seen_of (run acts w) ++ seen_of (run more (run acts w).world)
run_seen [] more w = refl
run_seen (a ∷ acts) more w =
    let r = happens a w in
    let first = run acts r.world in
    let last = run more first.world in
    sights-append r.notes (run (acts ++ more) r.world).notes ∙ ap (λ (l : List Seen). seen_of r ++ l) (run_seen acts more r.world)
    ∙ sym (append_assoc (seen_of r) (seen_of first) (seen_of last)) ∙ ap (λ (l : List Seen). l ++ seen_of last) (sym (sights-append r.notes first.notes))

ran_split : (site : List (List ℕ)) (before more : List WorldEvent) → ran site (before ++ more) ≡ run (map act_of before ++ map act_of more) (new_world site)
ran_split site before more = ap (λ (acts : List Act). run acts (new_world site)) (map-append act_of before more)

pub ran_world : (site : List (List ℕ)) (before : List WorldEvent) (event : WorldEvent)
    → (ran site (before ++ event ∷ [])).world ≡ (happens (act_of event) (ran site before).world).world
ran_world site before event = ap (λ (r : Ran). r.world) (ran_split site before (event ∷ []))
    ∙ run-append (map act_of before) (act_of event ∷ []) (new_world site)

seen_after : (site : List (List ℕ)) (before more : List WorldEvent) → seen_of (ran site (before ++ more))
    ≡ seen_of (ran site before) ++ seen_of (run (map act_of more) (ran site before).world)
seen_after site before more = ap seen_of (ran_split site before more) ∙ run_seen (map act_of before) (map act_of more) (new_world site)

pub ran_seen : (site : List (List ℕ)) (before : List WorldEvent) (event : WorldEvent)
    → seen_of (ran site (before ++ event ∷ [])) ≡ seen_of (ran site before) ++ seen_of (happens (act_of event) (ran site before).world)
ran_seen site before event = seen_after site before (event ∷ []) ∙ ap (λ (l : List Seen). seen_of (ran site before) ++ l)
    (ap sights (append-nil (happens (act_of event) (ran site before).world).notes))

-- the transcript of what was seen before and then
pub told_more : (site : List (List ℕ)) (before seen : List Seen) → transcript site (before ++ seen) ≡ transcript site before ++ transcript site seen
told_more site before seen = flat_map-append (seen_text site) before seen

-- a transcript begins with that of the events before a place
pub begins_before : (site : List (List ℕ)) (events : List WorldEvent) (i : ℕ) → BeginsWith (text_of false site events) (text_of false site (take i events))
begins_before site events i =
    let before = take i events in
    let more = seen_of (run (map act_of (drop i events)) (ran site before).world) in (
      transcript site more,
      ap (text_of false site) (sym (take-append-drop i events)) ∙ ap (transcript site) (seen_after site before (drop i events))
          ∙ told_more site (seen_of (ran site before)) more,
    )

-- nothing counted
pub summed_none : (s : Summary) → summary_of s [] ≡ s
unfolding summary_of
summed_none s = refl

-- counts go on
pub summed_more : (s : Summary) (before seen : List Seen) → summary_of s (before ++ seen) ≡ summary_of (summary_of s before) seen
unfolding summary_of
summed_more s [] seen = refl
summed_more s (x ∷ before) seen = summed_more (counted s x) before seen

-- the events before a place are sane too
pub sane_before : (events : List WorldEvent) (i : ℕ) → list_all is_sane_line events ≡ true → list_all is_sane_line (take i events) ≡ true
sane_before events i sane =
    (and_parts (list_all is_sane_line (take i events)) (list_all is_sane_line (drop i events))
    (sym (list_all-append is_sane_line (take i events) (drop i events)) ∙ ap (list_all is_sane_line) (take-append-drop i events) ∙ sane)).0

-- a world that took an event, with what was seen of it
pub went_on : (site : List (List ℕ)) (before : List WorldEvent) (event : WorldEvent) (world : World) (old seen : List Seen)
    → IsWorld world (happens (act_of event) (ran site before).world).world
    → seen ≡ old ++ seen_of (happens (act_of event) (ran site before).world) → old ≡ [] → GoesOn site before event world seen
went_on site before event world old seen is told none = (
  subst (IsWorld world) (sym (ran_world site before event)) is,
  ran_seen site before event
      ∙ ap (λ (l : List Seen). seen_of (ran site before) ++ l) (sym (told ∙ ap
      (λ (l : List Seen). l ++ seen_of (happens (act_of event) (ran site before).world)) none)),
)

pub goes_on : {E : Type 0} (site : List (List ℕ)) (before : List WorldEvent) (event : WorldEvent) (world : World) (old seen : List Seen)
    (r : Result (Unit {0}) E)
    → OnOk r (IsWorld world (happens (act_of event) (ran site before).world).world)
    → OnOk r (seen ≡ old ++ seen_of (happens (act_of event) (ran site before).world)) → old ≡ [] → OnOk r (GoesOn site before event world seen)
goes_on site before event world old seen (Ok done) is told none = went_on site before event world old seen is told none
goes_on site before event world old seen (Err e) is told none = tt

-- and what that adds to the transcript
pub tells : (site : List (List ℕ)) (before : List WorldEvent) (event : WorldEvent) (world : World) (seen : List Seen) (text : List ℕ)
    → GoesOn site before event world seen → text ≡ transcript site seen → Tells site before event world text
tells site before event world seen text on is =
    let first = seen_of (ran site before) in
    (on.0, ap (transcript site) on.1 ∙ told_more site first seen ∙ ap (λ (l : List ℕ). transcript site first ++ l) (sym is))

-- the transcript of the events up to a place, and what the one there adds
pub told_there : (site : List (List ℕ)) (before after : List WorldEvent) (event : WorldEvent) (world : World) (text piece : List ℕ)
    → after ≡ before ++ event ∷ [] → Tells site before event world text → piece ≡ text → text_of false site after ≡ text_of false site before ++ piece
told_there site before after event world text piece more told is =
    ap (text_of false site) more ∙ told.1 ∙ ap (λ (l : List ℕ). text_of false site before ++ l) (sym is)

-- the world after the events up to a place
pub world_there : (site : List (List ℕ)) (before after : List WorldEvent) (event : WorldEvent) (world : World) → after ≡ before ++ event ∷ []
    → IsWorld world (ran site (before ++ event ∷ [])).world → IsWorld world (ran site after).world
world_there site before after event world more is = subst (λ (events : List WorldEvent). IsWorld world (ran site events).world) (sym more) is

-- the counts after the events up to a place
pub counted_there : (site : List (List ℕ)) (before after : List WorldEvent) (event : WorldEvent) (world : World) (seen : List Seen) (old : Summary)
    → after ≡ before ++ event ∷ [] → GoesOn site before event world seen → old ≡ summary_of nothing_seen (seen_of (ran site before))
    → summary_of old seen ≡ summary_of nothing_seen (seen_of (ran site after))
counted_there site before after event world seen old more on is =
    ap (λ (s : Summary). summary_of s seen) is ∙ sym (summed_more nothing_seen (seen_of (ran site before)) seen) ∙ ap (summary_of nothing_seen) (sym on.1)
    ∙ ap (λ (events : List WorldEvent). summary_of nothing_seen (seen_of (ran site events))) (sym more)
