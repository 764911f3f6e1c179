-- An acknowledged request lies somewhere until it is taken out, and what was taken out never comes
-- back.
use Rattle.std.proofs.Common.{◌≡◌, ℕ, ◌+◌, Bool, true, false, not, ◌&&◌, ◌||◌, List, [], ◌∷◌, ◌++◌, map, length, slice_get, Option, None, Some, is_some, Result}
use Rattle.std.proofs.Common.{Ok, Err, true≢false, refl, sym, ap, subst, ◌∙◌, arith, if◌then◌else◌}
use Rattle.std.proofs.lemmas.Bool.{and_parts, and_from, or_left, not-true}
use Rattle.std.proofs.lemmas.Option.{same_Some, none-some}
use Rattle.std.proofs.lemmas.List.{append_assoc}
use Rattle.std.specs.List.{list_all, filter_map, cons_option}
use Rattle.nqs_base.proofs.Plain.{all-true}
use Rattle.nqs_types.specs.Ids.{id_eq, id_exact}
use Rattle.nqs_state.specs.State.{Plain}
use Rattle.nqs_types.specs.declared.ids.HostId.{HostId}
use Rattle.nqs_types.specs.declared.ids.RequestId.{RequestId}
use Rattle.nqs_types.specs.declared.request.Job.{Job}
use Rattle.nqs_types.specs.declared.request.Peer.{Peer}
use Rattle.nqs_types.specs.declared.request.Carried.{Carried}
use Rattle.nqs_types.specs.declared.refusal.Refusal.{Refusal}
use Rattle.nqs_types.specs.declared.change.Change.{Change}
use Rattle.nqs_types.specs.declared.change.Change.TheVariants.{Submitted}
use Rattle.nqs_types.specs.declared.event.Output.{Output}
use Rattle.nqs_types.specs.declared.event.Output.TheVariants as out
use Rattle.nqs_types.specs.declared.event.Reply.TheVariants as reply
use Rattle.nqs_types.specs.declared.world.Seen.{Seen}
use Rattle.nqs_types.specs.declared.world.Seen.TheVariants as seen
use Rattle.nqs_rules.specs.Tests.{is_running}
use Rattle.nqs_rules.specs.Causes.{first_refusal}
use Rattle.nqs_rules.specs.Edits.{change_at}
use Rattle.nqs_rules.specs.Find.{find_peer}
use Rattle.nqs_rules.specs.Handover.{opened_with}
use Rattle.nqs_rules.specs.Applied.{applied, next_id, may_start_again}
use Rattle.nqs_rules.specs.Net.{Entry, entry_of}
use Rattle.nqs_rules.specs.Start.{moving_by, local_causes}
use Rattle.nqs_rules.specs.Starts.{after_change}
use Rattle.nqs_rules.specs.Step.{step}
use Rattle.nqs_rules.specs.Stepped.{Stepped, shown}
use Rattle.nqs_rules.specs.World.{World, Act, new_world, boot_output, sent_by}
use Rattle.nqs_rules.specs.Run.{happens, run, states_of}
use Rattle.nqs_rules.proofs.RowFacts.{same_id}
use Rattle.nqs_rules.specs.Notes.{Note, Saw, Kept, saws}
use Rattle.nqs_rules.specs.Picked.{PlainRow}
use Rattle.nqs_laws.specs.History.{history}
use Rattle.nqs_laws.specs.Sane.{AreSane, IsSite}
use Rattle.nqs_laws.specs.Words.{replayed}
use Rattle.nqs_laws.specs.Launches.{is_acknowledged, lies, was_taken_out}
use Rattle.nqs_laws.proofs.Frame.{Moment, put_state, put-same, Way, Taken, Begun, Booted, change_by, why_by, seen_from, kept_of, IsIdle}
use Rattle.nqs_laws.proofs.Told.{at-value}
use Rattle.nqs_laws.proofs.Sent.{is_fine_output, Begins, Launches, Prints, Holds, Moves, Opens, begins, step_fine}
use Rattle.nqs_laws.proofs.Sound.{IsSound, Keeps, Suits, me_is, event_sane, all_sane, get-here, runs_keep}
use Rattle.nqs_laws.proofs.After.{Request}
use Rattle.nqs_laws.proofs.Paired.{At}
use Rattle.nqs_laws.proofs.TabledRuns.{new_net}
use Rattle.nqs_laws.proofs.Advance.{seq_after}
use Rattle.nqs_laws.proofs.Away.{new_away}
use Rattle.nqs_laws.proofs.LicensedRuns.{IsHistory, history_keeps}
use Rattle.nqs_laws.proofs.Walks.{acknowledged-append, taken-append}
use Rattle.nqs_laws.proofs.Launched.{seen_by, seen_of_start}
use Rattle.nqs_laws.proofs.LaunchRuns.{IsGiven, given_kept, never_new, came_from}
use Rattle.nqs_laws.proofs.LaunchLaws.{lies_given}
use Rattle.nqs_laws.proofs.Numbered.{new_lies}

-- which step acknowledges

abbrev is_submission : Option (Change (List ℕ)) → Bool
is_submission (Some (Submitted queue job script)) = true
is_submission o = false

record Submits (o : Option (Change (List ℕ))) : Type 0 where
  pub queue : List ℕ
  pub job : Job
  pub script : List ℕ
  pub is : o ≡ Some (Submitted queue job script)

submission_is : (o : Option (Change (List ℕ))) → is_submission o ≡ true → Submits o
submission_is None k = absurd (true≢false (sym k))
submission_is (Some (Submitted queue job script)) k = record { queue = queue; job = job; script = script; is = refl }
submission_is (Some c) k = absurd (true≢false (sym k))

module _ (x : Request) (hosts : ℕ) (test : Carried → Bool) (may : RequestId → Bool) (h : HostId) where
  acknowledged_in : (n : ℕ) (os : List Output) → list_all (is_fine_output hosts test may) os ≡ true → is_acknowledged x (saws (seen_from h n os)) ≡ true
      → may x ≡ true
  acknowledged_in n [] fine k = absurd (true≢false (sym k))
  acknowledged_in n (o ∷ os) fine k =
      let p = and_parts (is_fine_output hosts test may o) (list_all (is_fine_output hosts test may) os) fine in
      of o p.0 (acknowledged_in (n + length (sent_by o)) os p.1) k
    where
      by : (id : RequestId) → may id ≡ true → (rest : Bool) → (rest ≡ true → may x ≡ true) → (b : Bool) → id_eq x id ≡ b → (b || rest) ≡ true → may x ≡ true
      by id m rest f true e k = ap may (id_exact x id e) ∙ m
      by id m rest f false e k = f k

      of : (o : Output) → is_fine_output hosts test may o ≡ true → (is_acknowledged x (saws (seen_from h (n + length (sent_by o)) os)) ≡ true → may x ≡ true)
          → is_acknowledged x (saws (seen_from h n (o ∷ os))) ≡ true → may x ≡ true
      of (out.Reply port token (reply.Submitted id queue)) fine rest k = by id fine (is_acknowledged x (saws (seen_from h (n + 0) os))) rest (id_eq x id) refl k
      of o fine rest k = rest k

boot_says : (x : Request) (h : HostId) (n : ℕ) (rows : List PlainRow) → is_acknowledged x (saws (seen_from h n (filter_map boot_output rows))) ≡ false
boot_says x h n [] = refl
boot_says x h n (r ∷ rows) = by (is_running r.state) (may_start_again r) (λ k. boot_says x h k rows)
  where
    by : (b c : Bool) → ((k : ℕ) → is_acknowledged x (saws (seen_from h k (filter_map boot_output rows))) ≡ false)
        → is_acknowledged x (saws (seen_from h n (cons_option (if b then Some (if c then out.Again r.id else out.Lost r.id) else None)
        (filter_map boot_output rows)))) ≡ false
    by true true told = told (n + 0)
    by true false told = told (n + 0)
    by false c told = told n

start_says : (x : Request) (h : HostId) (s : Plain) (n now : ℕ) (y : Stepped (List ℕ)) → Begins now s y → is_acknowledged x (saws (seen_of_start h n y)) ≡ false
start_says x h s n now y (Launches r found is) = subst (λ (y : Stepped (List ℕ)). is_acknowledged x (saws (seen_of_start h n y)) ≡ false) is refl
start_says x h s n now y (Prints r device found is) = subst (λ (y : Stepped (List ℕ)). is_acknowledged x (saws (seen_of_start h n y)) ≡ false) is refl
start_says x h s n now y (Holds r found is) = subst (λ (y : Stepped (List ℕ)). is_acknowledged x (saws (seen_of_start h n y)) ≡ false) is refl
start_says x h s n now y (Moves r dest found is) = subst (λ (y : Stepped (List ℕ)). is_acknowledged x (saws (seen_of_start h n y)) ≡ false) is
    (by (first_refusal (local_causes dest.queue s r)))
  where
    by : (o : Result (Unit {0}) Refusal) → is_acknowledged x (saws (seen_of_start h n (moving_by o dest.queue r))) ≡ false
    by (Ok u) = refl
    by (Err refusal) = refl
start_says x h s n now y (Opens r dest found is) = subst (λ (y : Stepped (List ℕ)). is_acknowledged x (saws (seen_of_start h n y)) ≡ false) is
    (by (find_peer dest.host s))
  where
    by : (o : Option Peer) → is_acknowledged x (saws (seen_of_start h n (opened_with o dest now s r))) ≡ false
    by None = refl
    by (Some p) = refl

idle_says : (x : Request) (y : Seen) → IsIdle y → is_acknowledged x (Saw y ∷ []) ≡ false
idle_says x (seen.Reply r) idle = absurd idle
idle_says x y idle = refl

-- an acknowledged request is the one that is just submitted
way_says : (site : List (List ℕ)) (m : Moment) (k : IsSound site m) (h : HostId) (s : Plain) (there : slice_get m.states h.0 ≡ Some s) (x : Request) (n : ℕ)
    (way : Way m.packets h s)
    → is_acknowledged x (saws (seen_by h n way)) ≡ true → Submits (change_by way) × (x ≡ next_id s)
way_says site m k h s there x n (Taken e comes) said =
    let host = k.hosts h.0 s there in
    let may : RequestId → Bool = λ id. id_eq id (next_id s) && is_submission (step e s).change in
    let fine = step_fine s host.order (λ c. true) may host.scripts host.outputs (all-true s.rows) e
    (event_sane m.packets h (length s.site) e (all_sane site m k h s there) comes)
    (λ queue job script is. and_from (id_eq (next_id s) (next_id s)) (is_submission (step e s).change) (same_id (next_id s)) (ap is_submission is)) in
    let p = and_parts (id_eq x (next_id s)) (is_submission (step e s).change)
    (acknowledged_in x (length s.site) (λ c. true) may h n (map shown (step e s).outputs) fine said) in
    (submission_is (step e s).change p.1, id_exact x (next_id s) p.0)
way_says site m k h s there x n (Begun now y begun) said = absurd (true≢false
    (sym said ∙ start_says x h s n now y (begins s (k.hosts h.0 s there).order now y begun)))
way_says site m k h s there x n Booted said = absurd (true≢false (sym said ∙ boot_says x h n s.rows))

-- what was taken out is gone, and its number stays given
pub record IsGone (x : Request) (states : List Plain) : Type 0 where
  pub given : IsGiven x states
  pub away : lies x states ≡ false

pub record IsSaid (x : Request) (first states : List Plain) (ns : List Note) : Type 0 where
  pub given : IsGiven x states
  pub stays : lies x states ≡ not (was_taken_out x first ns)

pub record HasTaken (first states : List Plain) (ns : List Note) : Type 0 where
  pub gone : (x : Request) → was_taken_out x first ns ≡ true → IsGone x states
  pub said : (x : Request) → is_acknowledged x ns ≡ true → IsSaid x first states ns

-- sights

lies_on : (b : Bool) → (b && not b) ≡ false
lies_on true = refl
lies_on false = refl

sights_take : (x : Request) (states : List Plain) (xs : List Seen) → was_taken_out x states (saws xs) ≡ false
sights_take x states [] = refl
sights_take x states (y ∷ xs) = ap (λ b. b || was_taken_out x states (saws xs)) (lies_on (lies x states)) ∙ sights_take x states xs

or_false : (b : Bool) → (b || false) ≡ b
or_false true = refl
or_false false = refl

module _ (first states : List Plain) (ns : List Note) (k : HasTaken first states ns) where
  same_taken : (x : Request) (xs : List Seen) → was_taken_out x first (ns ++ saws xs) ≡ was_taken_out x first ns
  same_taken x xs = taken-append x ns (saws xs) first ∙ (ap (λ b. was_taken_out x first ns || b) (sights_take x (replayed ns first) xs)
      ∙ or_false (was_taken_out x first ns))

  sights_more : (xs : List Seen) → ((x : Request) → is_acknowledged x (saws xs) ≡ true → IsSaid x first states ns) → HasTaken first states (ns ++ saws xs)
  sights_more xs tells = record {
    gone = λ x t. k.gone x (sym (same_taken x xs) ∙ t);
    said = λ x t. (let p = by x (is_acknowledged x ns) refl (sym (acknowledged-append x ns (saws xs)) ∙ t) in
        record { given = p.given; stays = p.stays ∙ ap not (sym (same_taken x xs)) });
  }
    where
      by : (x : Request) (b : Bool) → is_acknowledged x ns ≡ b → (b || is_acknowledged x (saws xs)) ≡ true → IsSaid x first states ns
      by x true e t = k.said x e
      by x false e t = tells x t

-- changes

module _ (site : List (List ℕ)) (first : List Plain) (m : Moment) (sound : IsSound site m) (history : IsHistory first m) (k : HasTaken first m.states m.notes)
    (h : HostId) (s : Plain) (there : At m.states h s) (way : Way m.packets h s) where
  module _ (c : Change (List ℕ)) (is : change_by way ≡ Some c) (suits : Suits s c) where
    abbrev states : List Plain
    states = put_state h (applied c s) m.states

    abbrev note : Note
    note = Kept h (why_by way) c

    -- what is taken out with the change
    taken_is : (x : Request) → was_taken_out x first (m.notes ++ note ∷ []) ≡ (was_taken_out x first m.notes || (lies x m.states && not (lies x states)))
    taken_is x =
        let after : change_at h.0 (applied c) m.states ≡ states = at-value h.0 (applied c) s m.states there in
        taken-append x m.notes (note ∷ []) first
        ∙ ap (λ b. was_taken_out x first m.notes || b)
        (ap (λ l. (lies x l && not (lies x (change_at h.0 (applied c) l))) || false) history.leads
        ∙ (or_false (lies x m.states && not (lies x (change_at h.0 (applied c) m.states))) ∙ ap (λ l. lies x m.states && not (lies x l)) after))

    is_there : (x : Request) (l : List Plain) → lies x l ≡ true → (e : Entry) × (entry_of x l ≡ Some e)
    is_there x l t = of (entry_of x l) refl t
      where
        of : (o : Option Entry) → entry_of x l ≡ o → is_some o ≡ true → (e : Entry) × (entry_of x l ≡ Some e)
        of None e t = absurd (true≢false (sym t))
        of (Some f) e t = (f, e)

    was_there : (x : Request) → lies x m.states ≡ true → IsGiven x m.states
    was_there x t = let e = is_there x m.states t in lies_given site m sound history.net x e.0 e.1

    -- it doesn't come back
    not_back : (x : Request) → IsGone x m.states → lies x states ≡ false
    not_back x gone = by (lies x states) refl
      where
        by : (b : Bool) → lies x states ≡ b → b ≡ false
        by false e = refl
        by true e =
            let f = is_there x states e in
            let q = came_from site first m sound history h s there way c is suits x gone.given f.0 f.1 in
            absurd (true≢false (sym (ap is_some q.1) ∙ gone.away))

    kept_gone : (x : Request) → (was_taken_out x first m.notes || (lies x m.states && not (lies x states))) ≡ true → IsGone x states
    kept_gone x t = by (was_taken_out x first m.notes) refl t
      where
        by : (b : Bool) → was_taken_out x first m.notes ≡ b → (b || (lies x m.states && not (lies x states))) ≡ true → IsGone x states
        by true e t = let gone = k.gone x e in record {
          given = given_kept site first m sound history h s there way c is suits x gone.given;
          away =
              not_back x gone;
        }
        by false e t =
            let p = and_parts (lies x m.states) (not (lies x states)) t in
            record { given = given_kept site first m sound history h s there way c is suits x (was_there x p.0); away = not-true (lies x states) p.1 }

    kept_said : (x : Request) → IsSaid x first m.states m.notes → lies x states
        ≡ not (was_taken_out x first m.notes || (lies x m.states && not (lies x states)))
    kept_said x said = by (was_taken_out x first m.notes) refl said.stays
      where
        stays_or_goes : (b : Bool) → b ≡ not (not b)
        stays_or_goes true = refl
        stays_or_goes false = refl

        by : (b : Bool) → was_taken_out x first m.notes ≡ b → lies x m.states ≡ not b → lies x states ≡ not (b || (lies x m.states && not (lies x states)))
        by true e stays = not_back x (record { given = said.given; away = stays })
        by false e stays = stays_or_goes (lies x states) ∙ ap (λ b. not (b && not (lies x states))) (sym stays)

    taken_more : HasTaken first states (m.notes ++ note ∷ [])
    taken_more = record {
      gone = λ x t. kept_gone x (sym (taken_is x) ∙ t);
      said = λ x t. (let said = k.said x (sym (acknowledged-append x m.notes (note ∷ []) ∙ or_false (is_acknowledged x m.notes)) ∙ t) in record {
        given = given_kept site first m sound history h s there way c is suits x said.given;
        stays = kept_said x said ∙ ap not (sym (taken_is x));
      });
    }

  -- a submission that was just kept
  module _ (queue : List ℕ) (job : Job) (script : List ℕ) (is : change_by way ≡ Some (Submitted queue job script))
      (suits : Suits s (Submitted queue job script)) where
    abbrev submission : Change (List ℕ)
    submission = Submitted queue job script

    abbrev then_states : List Plain
    then_states = put_state h (applied submission s) m.states

    then_there : At then_states h (applied submission s)
    then_there = get-here h.0 (applied submission s) s m.states there

    lies_now : lies (next_id s) then_states ≡ true
    lies_now = new_lies site first m sound history h s there way submission is suits refl

    given_now : IsGiven (next_id s) then_states
    given_now u at =
        let mine : h ≡ s.me = sym (me_is site m sound h s there) in
        let same : applied submission s ≡ u = same_Some (applied submission s) u (sym then_there ∙ ((λ j. slice_get then_states (mine j).0) ∙ at)) in
        let a : u.seq ≡ s.seq + 1 = ap (λ (v : Plain). v.seq) (sym same) ∙ seq_after submission s suits.fit in
        omega (arith, a)

    never_before : (x : Request) → x ≡ next_id s → IsGiven x m.states → ⊥
    never_before x e given = never_new site first m sound history h s there way submission is suits x given e

    untaken : was_taken_out (next_id s) first m.notes ≡ false
    untaken = by (was_taken_out (next_id s) first m.notes) refl
      where
        by : (b : Bool) → was_taken_out (next_id s) first m.notes ≡ b → b ≡ false
        by false e = refl
        by true e = absurd (never_before (next_id s) refl (k.gone (next_id s) e).given)

    still : (b : Bool) → (b && not true) ≡ false
    still true = refl
    still false = refl

    said_now : (x : Request) → x ≡ next_id s → IsSaid x first then_states (m.notes ++ Kept h (why_by way) submission ∷ [])
    said_now x e = subst (λ y. IsSaid y first then_states (m.notes ++ Kept h (why_by way) submission ∷ [])) (sym e) (record {
      given = given_now;
      stays = lies_now ∙ ap not (sym (taken_is submission is suits (next_id s) ∙ (λ j. untaken j || (lies (next_id s) m.states && not (lies_now j)))
          ∙ still (lies (next_id s) m.states)));
    })

  made_more : (n : ℕ) → ((c : Change (List ℕ)) → change_by way ≡ Some c → Suits s c) → (o : Option (Change (List ℕ))) → change_by way ≡ o
      → HasTaken first (put_state h (after_change o s) m.states) (m.notes ++ (kept_of h (why_by way) o ++ saws (seen_by h n way)))
  made_more n suits None is =
      subst (λ states. HasTaken first states (m.notes ++ saws (seen_by h n way))) (sym (put-same h.0 s m.states there))
      (sights_more first m.states m.notes k (seen_by h n way) (λ x said. (let q = (way_says site m sound h s there x n way said).0 in
      absurd (none-some _ (sym is ∙ q.is)))))
  made_more n suits (Some c) is =
      subst (HasTaken first (put_state h (applied c s) m.states)) (append_assoc m.notes (Kept h (why_by way) c ∷ []) (saws (seen_by h n way)))
      (sights_more first (put_state h (applied c s) m.states) (m.notes ++ Kept h (why_by way) c ∷ []) (taken_more c is (suits c is)) (seen_by h n way)
      (λ x said. (let q = way_says site m sound h s there x n way said in
      let same : Submitted q.0.queue q.0.job q.0.script ≡ c = same_Some (Submitted q.0.queue q.0.job q.0.script) c (sym q.0.is ∙ is) in
      subst (λ d. IsSaid x first (put_state h (applied d s) m.states) (m.notes ++ Kept h (why_by way) d ∷ [])) same
      (said_now q.0.queue q.0.job q.0.script q.0.is (suits (Submitted q.0.queue q.0.job q.0.script) q.0.is) x q.1))))

pub record IsTaking (first : List Plain) (m : Moment) : Type 0 where
  pub history : IsHistory first m
  pub has : HasTaken first m.states m.notes

taking_keeps : (site : List (List ℕ)) (first : List Plain) → Keeps site (IsTaking first)
taking_keeps site first = record {
  idle = λ m x sound idle k. record {
    history = (history_keeps site first).idle m x sound idle k.history;
    has = sights_more first m.states m.notes k.has (x ∷ []) (λ y said. absurd (true≢false (sym said ∙ idle_says y x idle)));
  };
  kept = λ m sound h s there way c is suits k. record {
    history = (history_keeps site first).kept m sound h s there way c is suits k.history;
    has = taken_more site first m sound k.history k.has h s there way c is suits;
  };
  made = λ m sound h s there way suits k. record {
    history = (history_keeps site first).made m sound h s there way suits k.history;
    has = made_more site first m sound k.history k.has h s there way (length m.packets) suits (change_by way) refl;
  };
}

pub run_takes : (site : List (List ℕ)) → IsSite site → (acts : List Act) → AreSane acts
    → HasTaken (states_of (new_world site)) (states_of (run acts (new_world site)).world) (history acts (new_world site))
run_takes site few acts sane =
    let first = states_of (new_world site) in
    (runs_keep site (IsTaking first) (taking_keeps site first) few.1 (record {
      history = record { net = new_net site; away = new_away site; leads = refl; licensed = tt };
      has = record { gone = λ x t. absurd (true≢false (sym t)); said = λ x t. absurd (true≢false (sym t)) };
    }) acts sane).has

-- what was taken out stays out, however the run goes on

history-append : (a b : List Act) (w : World) → history (a ++ b) w ≡ history a w ++ history b (run a w).world
history-append [] b w = refl
history-append (x ∷ a) b w = ap (λ l. (happens x w).notes ++ l) (history-append a b (happens x w).world)
    ∙ sym (append_assoc (happens x w).notes (history a (happens x w).world) (history b (run a (happens x w).world).world))

pub stays_out : (site : List (List ℕ)) → IsSite site → (acts more : List Act) → AreSane (acts ++ more) → (x : RequestId)
    → was_taken_out x (states_of (new_world site)) (history acts (new_world site)) ≡ true
    → lies x (states_of (run (acts ++ more) (new_world site)).world) ≡ false
stays_out site few acts more sane x out =
    let first = states_of (new_world site) in
    let w = new_world site in
    ((run_takes site few (acts ++ more) sane).gone x
    (ap (was_taken_out x first) (history-append acts more w)
    ∙ (taken-append x (history acts w) (history more (run acts w).world) first
    ∙ or_left (was_taken_out x first (history acts w)) (was_taken_out x (replayed (history acts w) first) (history more (run acts w).world)) out))).away
