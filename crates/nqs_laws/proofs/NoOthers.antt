-- What lies anywhere was acknowledged, or a stop cut its submission off.
use Rattle.std.proofs.Common.{◌≡◌, ℕ, ◌⊎◌, inl, inr, Bool, true, false, ◌&&◌, ◌||◌, ◌==◌, List, [], ◌∷◌, ◌++◌, map, length, Option, None, Some, is_some, Result}
use Rattle.std.proofs.Common.{Ok, Err, true≢false, refl, sym, ap, subst, ◌∙◌, arith}
use Rattle.std.proofs.lemmas.Bool.{and_from, or_left, or_right, eq-eqb}
use Rattle.std.proofs.lemmas.Option.{same_Some, none-some}
use Rattle.std.proofs.lemmas.List.{append_assoc}
use Rattle.nqs_types.specs.Ids.{id_eq}
use Rattle.nqs_state.specs.State.{Plain}
use Rattle.nqs_types.specs.declared.ids.HostId.{HostId}
use Rattle.nqs_types.specs.declared.refusal.Refusal.{Refusal}
use Rattle.nqs_types.specs.declared.change.Change.{Change}
use Rattle.nqs_types.specs.declared.change.Change.TheVariants.{Submitted, Boot}
use Rattle.nqs_types.specs.declared.event.Submission.{Submission}
use Rattle.nqs_types.specs.declared.event.Command.TheVariants as command
use Rattle.nqs_types.specs.declared.event.Event.{Event}
use Rattle.nqs_types.specs.declared.event.Event.TheVariants as event
use Rattle.nqs_types.specs.declared.world.Seen.TheVariants as seen
use Rattle.nqs_rules.specs.Tests.{same_host}
use Rattle.nqs_rules.specs.Causes.{first_refusal}
use Rattle.nqs_rules.specs.Access.{rank, may_command}
use Rattle.nqs_rules.specs.Edits.{change_at}
use Rattle.nqs_rules.specs.Rows.{queue_meant, submit_causes}
use Rattle.nqs_rules.specs.Applied.{applied, next_id}
use Rattle.nqs_rules.specs.Stepped.{Stepped, shown}
use Rattle.nqs_rules.specs.Starts.{after_change}
use Rattle.nqs_rules.specs.Step.{Asker, unless_refused, submit_to, on_allowed, step}
use Rattle.nqs_rules.specs.World.{Act, new_world}
use Rattle.nqs_rules.specs.Run.{run, states_of}
use Rattle.nqs_rules.proofs.RowFacts.{same_id}
use Rattle.nqs_rules.proofs.StartIs.{StartsRow, start_is}
use Rattle.nqs_rules.proofs.Until.{steady}
use Rattle.nqs_rules.specs.Notes.{Note, Saw, Kept, saws}
use Rattle.nqs_rules.specs.Picked.{PlainRow}
use Rattle.nqs_laws.specs.History.{history}
use Rattle.nqs_laws.specs.Sane.{AreSane, IsSite}
use Rattle.nqs_laws.specs.Words.{replayed}
use Rattle.nqs_laws.specs.Launches.{is_acknowledged, lies}
use Rattle.nqs_laws.specs.Numbers.{numbers_given, next_numbered}
use Rattle.nqs_laws.specs.CutOff.{stops_now, was_cut_off}
use Rattle.nqs_laws.proofs.Frame.{Moment, put_state, put-same, silent, cut, Way, Taken, Begun, Booted, change_by, why_by, seen_from, kept_of}
use Rattle.nqs_laws.proofs.Sound.{IsSound, KeepsStops, Suits, some-if, sound_frames, new_sound, stops_keep}
use Rattle.nqs_laws.proofs.Makes.{Follows, step_makes, BringsNone, is_new_or_far, follows_other}
use Rattle.nqs_laws.proofs.After.{Request}
use Rattle.nqs_laws.proofs.Views.{host_same}
use Rattle.nqs_laws.proofs.Paired.{At}
use Rattle.nqs_laws.proofs.TabledRuns.{new_net, new_nowhere}
use Rattle.nqs_laws.proofs.Entries.{entry_at, entry_is}
use Rattle.nqs_laws.proofs.Away.{new_away}
use Rattle.nqs_laws.proofs.LicensedRuns.{IsHistory, history_keeps}
use Rattle.nqs_laws.proofs.Walks.{acknowledged-append}
use Rattle.nqs_laws.proofs.Launched.{seen_by}
use Rattle.nqs_laws.proofs.Numbered.{came, next_is}

-- which change gives a number

module _ (s : Plain) (ch : Change (List ℕ)) (gives : numbers_given ch ≡ 1) where
  no_number : (d : Change (List ℕ)) → numbers_given d ≡ 0 → ch ≡ d → ⊥
  no_number d none is = let e : numbers_given ch ≡ numbers_given d = ap numbers_given is in absurd (omega (arith, e, none, gives))

  follows_none : (e : Event) → BringsNone e → Follows e s ch → ⊥
  follows_none e none f = follows_other s ch (of ch gives) e none f
    where
      of : (d : Change (List ℕ)) → numbers_given d ≡ 1 → is_new_or_far d ≡ true
      of (Submitted queue job script) k = refl
      of d k = absurd (omega (arith, k))

  starts_none : (r : PlainRow) (d : Change (List ℕ)) → StartsRow s r d → ch ≡ d → ⊥
  starts_none r (Submitted queue job script) starts is = starts
  starts_none r d starts is = no_number d refl is

-- what gives a number tells it

module _ (h : HostId) (s : Plain) (n : ℕ) where
  abbrev Tells : Stepped (List ℕ) → Type 0
  Tells y = (c : Change (List ℕ)) → y.change ≡ Some c → numbers_given c ≡ 1 → is_acknowledged (next_id s) (saws (seen_from h n (map shown y.outputs))) ≡ true

  unless_tells : (a : Asker) (r : Result (Unit {0}) Refusal) (done : Stepped (List ℕ)) → Tells done → Tells (unless_refused a r done)
  unless_tells a (Err x) done k c is gives = absurd (none-some c is)
  unless_tells a (Ok u) done k c is gives = k c is gives

  submit_tells : (a : Asker) (sub : Submission) (o : Option (List ℕ)) → Tells (submit_to a sub s o)
  submit_tells a sub None c is gives = absurd (none-some c is)
  submit_tells a sub (Some q) c is gives = or_left (id_eq (next_id s) (next_id s)) false (same_id (next_id s))

  step_tells : (e : Event) → Tells (step e s)
  step_tells (event.Ask now port token user (command.Submit sub)) =
      let a : Asker = record { port = port; token = token } in
      unless_tells a (may_command (rank user s) (command.Submit sub)) (on_allowed now a user (command.Submit sub) s)
      (unless_tells a (first_refusal (submit_causes sub s)) (submit_to a sub s (queue_meant sub.queue s.default_queue))
      (submit_tells a sub (queue_meant sub.queue s.default_queue)))
  step_tells (event.Ask now port token user c) = λ ch is gives. absurd (follows_none s ch gives (event.Ask now port token user c) tt
      (some-if (Follows (event.Ask now port token user c) s) (step (event.Ask now port token user c) s).change ch
      (step_makes s (event.Ask now port token user c)) is))
  step_tells e = λ ch is gives. absurd (follows_none s ch gives e tt (some-if (Follows e s) (step e s).change ch (step_makes s e) is))

way_tells : (site : List (List ℕ)) (m : Moment) (k : IsSound site m) (h : HostId) (s : Plain) (there : At m.states h s) (n : ℕ) (way : Way m.packets h s)
    (c : Change (List ℕ)) → change_by way ≡ Some c → numbers_given c ≡ 1 → is_acknowledged (next_id s) (saws (seen_by h n way)) ≡ true
way_tells site m k h s there n (Taken e comes) c is gives = step_tells h s n e c is gives
way_tells site m k h s there n (Begun now x begun) c is gives =
    let started = start_is now s x (steady s (k.hosts h.0 s there).order) begun in
    absurd (starts_none s c gives started.row started.change started.starts (sym (same_Some started.change c (sym started.makes ∙ is))))
way_tells site m k h s there n Booted c is gives = absurd (no_number s c gives Boot refl (sym (same_Some Boot c is)))

-- more notes

cut_more : (x : Request) (ns more : List Note) (states : List Plain) → was_cut_off x states ns ≡ true → was_cut_off x states (ns ++ more) ≡ true
cut_more x [] more states k = absurd (true≢false (sym k))
cut_more x (Saw y ∷ ns) more states k = cut_more x ns more states k
cut_more x (Kept h why c ∷ ns) more states k = by ((numbers_given c == 1) && id_eq x (next_numbered h states)) (stops_now h ns) refl k
    (cut_more x ns more (change_at h.0 (applied c) states))
  where
    stops : (ns : List Note) → stops_now h ns ≡ true → stops_now h (ns ++ more) ≡ true
    stops [] k = absurd (true≢false (sym k))
    stops (Saw (seen.Stop g) ∷ ns) k = k
    stops (Saw y ∷ ns) k = absurd (true≢false (sym k))
    stops (Kept g why c ∷ ns) k = absurd (true≢false (sym k))

    by : (a b : Bool) → stops_now h ns ≡ b → ((a && b) || was_cut_off x (change_at h.0 (applied c) states) ns) ≡ true
        → (was_cut_off x (change_at h.0 (applied c) states) ns ≡ true → was_cut_off x (change_at h.0 (applied c) states) (ns ++ more) ≡ true)
        → ((a && stops_now h (ns ++ more)) || was_cut_off x (change_at h.0 (applied c) states) (ns ++ more)) ≡ true
    by true true e k rest = or_left (stops_now h (ns ++ more)) _ (stops ns e)
    by true false e k rest = or_right (stops_now h (ns ++ more)) _ (rest k)
    by false b e k rest = rest k

cut_behind : (x : Request) (ns more : List Note) (states : List Plain) → was_cut_off x (replayed ns states) more ≡ true
    → was_cut_off x states (ns ++ more) ≡ true
cut_behind x [] more states k = k
cut_behind x (Saw y ∷ ns) more states k = cut_behind x ns more states k
cut_behind x (Kept h why c ∷ ns) more states k = or_right ((numbers_given c == 1) && id_eq x (next_numbered h states) && stops_now h (ns ++ more)) _
    (cut_behind x ns more (change_at h.0 (applied c) states) k)

-- no other request

abbrev IsKnown : Request → List Plain → List Note → Type 0
IsKnown x first ns = (is_acknowledged x ns || was_cut_off x first ns) ≡ true

known_more : (x : Request) (first : List Plain) (ns more : List Note) → IsKnown x first ns → IsKnown x first (ns ++ more)
known_more x first ns more k = by (is_acknowledged x ns) refl k
  where
    by : (b : Bool) → is_acknowledged x ns ≡ b → (b || was_cut_off x first ns) ≡ true → IsKnown x first (ns ++ more)
    by true e k = or_left _ _ (acknowledged-append x ns more ∙ or_left (is_acknowledged x ns) (is_acknowledged x more) e)
    by false e k = or_right (is_acknowledged x (ns ++ more)) _ (cut_more x ns more first k)

pub record IsTelling (first : List Plain) (m : Moment) : Type 0 where
  pub history : IsHistory first m
  pub known : (x : Request) → lies x m.states ≡ true → IsKnown x first m.notes

module _ (site : List (List ℕ)) (first : List Plain) (m : Moment) (sound : IsSound site m) (k : IsTelling first m) (h : HostId) (s : Plain)
    (there : At m.states h s) (way : Way m.packets h s) where
  module _ (c : Change (List ℕ)) (is : change_by way ≡ Some c) (suits : Suits s c) (x : Request)
      (now : lies x (put_state h (applied c s) m.states) ≡ true) where
    -- a request that lies there lay there before, or is the one that was submitted
    before_or_new : (lies x m.states ≡ true) ⊎ ((numbers_given c ≡ 1) × (x ≡ next_numbered h m.states))
    before_or_new = by (lies x m.states) refl
      where
        by : (b : Bool) → lies x m.states ≡ b → (lies x m.states ≡ true) ⊎ ((numbers_given c ≡ 1) × (x ≡ next_numbered h m.states))
        by true e = inl e
        by false e = inr (came site first m sound k.history h s there way c is suits x e now)

    stopped_known : IsKnown x first (m.notes ++ (Kept h (why_by way) c ∷ Saw (seen.Stop h) ∷ []))
    stopped_known = by before_or_new
      where
        by : (lies x m.states ≡ true) ⊎ ((numbers_given c ≡ 1) × (x ≡ next_numbered h m.states))
            → IsKnown x first (m.notes ++ (Kept h (why_by way) c ∷ Saw (seen.Stop h) ∷ []))
        by (inl e) = known_more x first m.notes _ (k.known x e)
        by (inr q) =
            let one = eq-eqb (numbers_given c) 1 q.0 in
            let same : id_eq x (next_numbered h m.states) ≡ true = ap (id_eq x) (sym q.1) ∙ same_id x in
            or_right (is_acknowledged x (m.notes ++ (Kept h (why_by way) c ∷ Saw (seen.Stop h) ∷ []))) _
            (cut_behind x m.notes (Kept h (why_by way) c ∷ Saw (seen.Stop h) ∷ []) first
            (subst (λ l. was_cut_off x l (Kept h (why_by way) c ∷ Saw (seen.Stop h) ∷ []) ≡ true) (sym k.history.leads)
            (or_left ((numbers_given c == 1) && id_eq x (next_numbered h m.states) && same_host h h) _
            (and_from ((numbers_given c == 1) && id_eq x (next_numbered h m.states)) (same_host h h)
            (and_from (numbers_given c == 1) (id_eq x (next_numbered h m.states)) one same) (host_same h)))))

    made_known : IsKnown x first (m.notes ++ (Kept h (why_by way) c ∷ saws (seen_by h (length m.packets) way)))
    made_known = by before_or_new
      where
        by : (lies x m.states ≡ true) ⊎ ((numbers_given c ≡ 1) × (x ≡ next_numbered h m.states))
            → IsKnown x first (m.notes ++ (Kept h (why_by way) c ∷ saws (seen_by h (length m.packets) way)))
        by (inl e) = known_more x first m.notes _ (k.known x e)
        by (inr q) =
            let number : x ≡ next_id s = q.1 ∙ sym (next_is site first m sound k.history h s there way c is suits) in
            let told : is_acknowledged x (saws (seen_by h (length m.packets) way)) ≡ true =
            ap (λ i. is_acknowledged i (saws (seen_by h (length m.packets) way))) number
            ∙ way_tells site m sound h s there (length m.packets) way c is q.0 in
            or_left _ _ (acknowledged-append x m.notes (Kept h (why_by way) c ∷ saws (seen_by h (length m.packets) way))
            ∙ or_right (is_acknowledged x m.notes) _ told)

  whole_known : ((c : Change (List ℕ)) → change_by way ≡ Some c → Suits s c) → (o : Option (Change (List ℕ))) → change_by way ≡ o → (x : Request)
      → lies x (put_state h (after_change o s) m.states) ≡ true → IsKnown x first
      (m.notes ++ (kept_of h (why_by way) o ++ saws (seen_by h (length m.packets) way)))
  whole_known suits None is x now = known_more x first m.notes _ (k.known x (ap (lies x) (sym (put-same h.0 s m.states there)) ∙ now))
  whole_known suits (Some c) is x now = made_known c is (suits c is) x now

stopped_history : (site : List (List ℕ)) (first : List Plain) (m : Moment) → IsSound site m → (h : HostId) (s : Plain) → At m.states h s
    → (way : Way m.packets h s) (c : Change (List ℕ)) → change_by way ≡ Some c → Suits s c → IsHistory first m → IsHistory first (cut m h s (why_by way) c)
stopped_history site first m sound h s there way c is suits k =
    (history_keeps site first).idle (silent m h s (why_by way) c) (seen.Stop h) ((sound_frames site).kept m h s there way c is sound) tt
    ((history_keeps site first).kept m sound h s there way c is suits k)

telling_keeps : (site : List (List ℕ)) (first : List Plain) → KeepsStops site (IsTelling first)
telling_keeps site first = record {
  idle = λ m x sound idle k. record {
    history = (history_keeps site first).idle m x sound idle k.history;
    known = λ y now. known_more y first m.notes (Saw x ∷ []) (k.known y now);
  };
  stopped = λ m sound h s there way c is suits k. record {
    history = stopped_history site first m sound h s there way c is suits k.history;
    known = λ x now. subst (IsKnown x first) (sym (append_assoc m.notes (Kept h (why_by way) c ∷ []) (Saw (seen.Stop h) ∷ [])))
        (stopped_known site first m sound k h s there way c is suits x now);
  };
  made = λ m sound h s there way suits k. record {
    history = (history_keeps site first).made m sound h s there way suits k.history;
    known = λ x now. whole_known site first m sound k h s there way suits (change_by way) refl x now;
  };
}

-- in a new network no request lies anywhere
none_lies : (site : List (List ℕ)) → IsSite site → (x : Request) → lies x (states_of (new_world site)) ≡ false
none_lies site few x =
    ap is_some (entry_is (states_of (new_world site)) (new_net site).table (new_net site).told (λ b u at. ((new_sound site few.1).hosts b.0 u at).order)
    x ∙ ap entry_at (new_nowhere site x))

pub no_others : (site : List (List ℕ)) → IsSite site → (acts : List Act) → AreSane acts → (x : Request)
    → lies x (states_of (run acts (new_world site)).world) ≡ true → IsKnown x (states_of (new_world site)) (history acts (new_world site))
no_others site few acts sane =
    let first = states_of (new_world site) in
    (stops_keep site (IsTelling first) (telling_keeps site first) few.1 (record {
      history = record { net = new_net site; away = new_away site; leads = refl; licensed = tt };
      known = λ x now. absurd (true≢false (sym now ∙ none_lies site few x));
    }) acts sane).known
