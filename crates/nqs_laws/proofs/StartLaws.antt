-- Starts and losses are counted, and told at boots alone.
use Rattle.std.proofs.Common.{◌≡◌, ℕ, ◌+◌, Bool, true, false, ◌&&◌, ◌||◌, ◌==◌, nat_le, List, [], ◌∷◌, ◌++◌, map, length, slice_get, Option, None, Some, Result}
use Rattle.std.proofs.Common.{Ok, Err, true≢false, zero, suc, refl, sym, ap, subst, ◌∙◌, if◌then◌else◌}
use Rattle.std.proofs.lemmas.Bool.{and_parts, and_from, or_left, eqb-true, eq-eqb}
use Rattle.std.proofs.lemmas.Option.{same_Some, none-some}
use Rattle.std.proofs.lemmas.List.Folds.{list_all-append}
use Rattle.std.specs.List.{list_all, filter_map, cons_option}
use Rattle.nqs_base.proofs.Plain.{all-true}
use Rattle.nqs_state.specs.State.{Plain}
use Rattle.nqs_types.specs.declared.ids.HostId.{HostId}
use Rattle.nqs_types.specs.declared.request.RowState.{RowState}
use Rattle.nqs_types.specs.declared.request.RowState.TheVariants.{Queued, Routing, Running}
use Rattle.nqs_types.specs.declared.request.Hold.{Hold}
use Rattle.nqs_types.specs.declared.request.Hold.TheVariants.{No, User, System}
use Rattle.nqs_types.specs.declared.request.Promise.{Promise}
use Rattle.nqs_types.specs.declared.request.Peer.{Peer}
use Rattle.nqs_types.specs.declared.request.Carried.{Carried}
use Rattle.nqs_types.specs.declared.refusal.Refusal.{Refusal}
use Rattle.nqs_types.specs.declared.change.Change.{Change}
use Rattle.nqs_types.specs.declared.message.Body.{Body}
use Rattle.nqs_types.specs.declared.message.Body.TheVariants as body
use Rattle.nqs_types.specs.declared.event.Output.{Output}
use Rattle.nqs_types.specs.declared.event.Output.TheVariants as out
use Rattle.nqs_types.specs.declared.world.Seen.{Seen}
use Rattle.nqs_types.specs.declared.world.Seen.TheVariants as seen
use Rattle.nqs_rules.specs.Tests.{passes, is_running, is_queued, same_host}
use Rattle.nqs_rules.specs.Causes.{first_refusal}
use Rattle.nqs_rules.specs.Applied.{may_start_again}
use Rattle.nqs_rules.specs.Find.{host_at, find_peer}
use Rattle.nqs_rules.specs.Handover.{opened_with}
use Rattle.nqs_rules.specs.InOrder.{IsInOrder, is_row_right, is_promise_right, is_count_right}
use Rattle.nqs_rules.specs.Net.{Entry, row_entry, promise_entry, is_arriving, arriving, entries_from, entries}
use Rattle.nqs_rules.specs.Sane.{is_sane_low, is_sane_message, is_sane_body, is_of_site, is_sane_carried, is_sane_id, is_sane_job}
use Rattle.nqs_rules.specs.Start.{moving_by, local_causes}
use Rattle.nqs_rules.specs.Starts.{after_change}
use Rattle.nqs_rules.specs.Step.{step}
use Rattle.nqs_rules.specs.Stepped.{Stepped, shown}
use Rattle.nqs_rules.specs.World.{Act, seen_of, new_world, hosts_from, boot_output, sent_by, seen_output}
use Rattle.nqs_rules.specs.Run.{states_of, run, run_of}
use Rattle.nqs_rules.proofs.Chains.{each}
use Rattle.nqs_rules.proofs.ListFacts.{list_all-weaker}
use Rattle.nqs_rules.proofs.FindKept.{all-mapped}
use Rattle.nqs_rules.proofs.RowFacts.{row_is, promise_is}
use Rattle.nqs_rules.proofs.Sublists.{part_all, filter_part}
use Rattle.nqs_rules.specs.Notes.{Why, ByStart, Note, saws, sights}
use Rattle.nqs_laws.specs.History.{history}
use Rattle.nqs_laws.specs.Sane.{AreSane, IsSite}
use Rattle.nqs_laws.specs.Words.{is_counted, is_never_lost, is_carried_counted, is_carried_never_lost, body_passes, offers_pass, boots_tell}
use Rattle.nqs_laws.proofs.Frame.{Moment, moment, put_state, Way, Taken, Begun, Booted, change_by, why_by, outputs_by, first_by, sent_in, seen_from, kept_of}
use Rattle.nqs_laws.proofs.Frame.{IsIdle}
use Rattle.nqs_laws.proofs.Told.{all_seen, sights-append}
use Rattle.nqs_laws.proofs.RowTests.{IsKept, NewPasses, AllPass, change_passes}
use Rattle.nqs_laws.proofs.Sent.{is_fine_message, is_fine_output, Begins, Launches, Prints, Holds, Moves, Opens, begins, step_fine}
use Rattle.nqs_laws.proofs.Sound.{IsSound, Keeps, Suits, event_sane, all_sane, way_sends, get-here, runs_keep, run_sound}
use Rattle.nqs_laws.proofs.NewRows.{row_passes, carried_passes}
use Rattle.nqs_rules.proofs.PeersOrder.{get-other}
use Rattle.nqs_rules.specs.Picked.{PlainRow}
use Rattle.nqs_laws.proofs.Views.{host_same}

-- all entries

module _ (t : Entry → Bool) (states : List Plain) where
  abbrev Passes : Plain → Type 0
  Passes s = (h : HostId) → (list_all (λ r. t (row_entry h r)) s.rows ≡ true) × (list_all (λ p. t (promise_entry h p)) s.promises ≡ true)

  entries_pass : (place : ℕ) (rest : List Plain) → ((n : ℕ) (s : Plain) → slice_get rest n ≡ Some s → Passes s)
      → list_all t (entries_from place states rest) ≡ true
  entries_pass place [] all = refl
  entries_pass place (s ∷ rest) all =
      let h : HostId = host_at place in
      let p = all 0 s refl h in
      let rows = map (row_entry h) s.rows in
      let promises = map (promise_entry h) (arriving states h s) in
      list_all-append t (rows ++ promises) (entries_from (place + 1) states rest)
      ∙ and_from (list_all t (rows ++ promises)) (list_all t (entries_from (place + 1) states rest))
      (list_all-append t rows promises
      ∙ and_from (list_all t rows) (list_all t promises) (all-mapped (λ r. t (row_entry h r)) t (row_entry h) (λ r k. k) s.rows p.0)
      (all-mapped (λ x. t (promise_entry h x)) t (promise_entry h) (λ x k. k) (arriving states h s)
      (part_all (λ x. t (promise_entry h x)) (filter_part (is_arriving states h) s.promises) p.1)))
      (entries_pass (place + 1) rest (λ n u at. all (suc n) u at))

-- starts are counted

counted_row : (h : HostId) (r : PlainRow) → is_count_right r ≡ true → is_counted (row_entry h r) ≡ true
counted_row h r k = by r.state r.hold k
  where
    by : (st : RowState) (hold : Hold) → is_count_right (record r { state = st; hold = hold }) ≡ true
        → is_counted (row_entry h (record r { state = st; hold = hold })) ≡ true
    by Running hold k = k
    by Routing hold k = (and_parts (r.starts == r.lost) _ k).0
    by Queued No k = (and_parts (r.starts == r.lost) _ k).0
    by Queued User k = (and_parts (r.starts == r.lost) _ k).0
    by Queued System k = (and_parts (r.starts == r.lost) _ k).0

counted_promise : (h : HostId) (p : Promise (List ℕ)) → is_queued p.row.state ≡ true → is_count_right p.row ≡ true → is_counted (promise_entry h p) ≡ true
counted_promise h p queued k = by p.row.state queued k
  where
    by : (st : RowState) → is_queued st ≡ true → is_count_right (record (p.row) { state = st }) ≡ true → (p.row.starts == p.row.lost) ≡ true
    by Queued q k = (and_parts (p.row.starts == p.row.lost) _ k).0
    by Routing q k = absurd (true≢false (sym q))
    by Running q k = absurd (true≢false (sym q))

order_counted : (s : Plain) → IsInOrder s → (h : HostId) → (list_all (λ r. is_counted (row_entry h r)) s.rows ≡ true)
    × (list_all (λ p. is_counted (promise_entry h p)) s.promises ≡ true)
order_counted s o h = (
  list_all-weaker (is_row_right s) (λ r. is_counted (row_entry h r)) (λ r k. counted_row h r (row_is s r k).count) s.rows o.rows,
  list_all-weaker (is_promise_right s) (λ p. is_counted (promise_entry h p))
      (λ p k. let q = promise_is s p k in counted_promise h p q.queued (row_is s p.row q.row).count) s.promises o.promises,
)

pub all_counted : (site : List (List ℕ)) (acts : List Act) → IsSite site → AreSane acts
    → list_all is_counted (entries (states_of (run_of site acts).world)) ≡ true
all_counted site acts few sane =
    let k = run_sound site few.1 acts sane in
    let states = states_of (run_of site acts).world in
    entries_pass is_counted states 0 states (λ n s at. order_counted s (k.hosts n s at).order)

carried_counted : (n : ℕ) (b : Body) → is_sane_body n b ≡ true → body_passes is_carried_counted b ≡ true
carried_counted n (body.Offer number low queue c script) k =
    let p = each (nat_le 1 number) (is_sane_low low number ∷ is_sane_carried c ∷ is_of_site n c.id.host ∷ _ ∷ []) k in
    let q = each (is_sane_id c.id) (is_sane_job c.job ∷ _ ∷ (c.lost == c.starts) ∷ _ ∷ []) p.1.1.0 in
    eq-eqb c.starts c.lost (sym (eqb-true c.lost c.starts q.1.1.1.0))
carried_counted n b k = refl

pub offers_counted : (site : List (List ℕ)) (acts : List Act) → IsSite site → AreSane acts
    → list_all (offers_pass is_carried_counted) (run_of site acts).world.packets ≡ true
offers_counted site acts few sane =
    list_all-weaker (is_sane_message (length site)) (offers_pass is_carried_counted)
    (λ m k. carried_counted (length site) m.body (and_parts (is_of_site (length site) m.from) (is_sane_body (length site) m.body) k).1)
    (run_of site acts).world.packets (run_sound site few.1 acts sane).packets

-- a request that isn't rerunnable was never lost

abbrev pub is_never : PlainRow → Bool
is_never r = r.job.rerun || r.lost == 0

never_kept : IsKept is_never
never_kept = record {
  stays = λ r q e k. (λ j. (e.core j).1 || (e.lost j == 0)) ∙ k;
  again = λ r may k. or_left r.job.rerun (r.lost + 1 == 0) (and_parts r.job.rerun _ (and_parts (r.job.rerun && _) _ may).0).0;
}

pub record IsNever (m : Moment) : Type 0 where
  pub rows : (place : ℕ) (s : Plain) → slice_get m.states place ≡ Some s → AllPass is_never s
  pub packets : list_all (offers_pass is_carried_never_lost) m.packets ≡ true

none_lost : (b : Bool) → (b || 0 == 0) ≡ true
none_lost true = refl
none_lost false = refl

module _ (site : List (List ℕ)) (m : Moment) (k : IsSound site m) (p : IsNever m) (h : HostId) (s : Plain) (there : slice_get m.states h.0 ≡ Some s) where
  way_new : (way : Way m.packets h s) (c : Change (List ℕ)) → change_by way ≡ Some c → NewPasses is_never c s
  way_new way c is = row_passes is_never h s m.packets (carried_passes is_carried_never_lost m.packets p.packets) c (λ queue job script is. none_lost job.rerun)
      (k.hosts h.0 s there).order way is

  rows_put : (o : Option (Change (List ℕ))) → ((c : Change (List ℕ)) → o ≡ Some c → Suits s c × NewPasses is_never c s) → (place : ℕ) (u : Plain)
      → slice_get (put_state h (after_change o s) m.states) place ≡ Some u → AllPass is_never u
  rows_put o new place u at = by (h.0 == place) refl
    where
      after : (o : Option (Change (List ℕ))) → ((c : Change (List ℕ)) → o ≡ Some c → Suits s c × NewPasses is_never c s) → AllPass is_never (after_change o s)
      after None new = p.rows h.0 s there
      after (Some c) new = let q = new c refl in change_passes is_never never_kept c s q.0.fit q.1 (p.rows h.0 s there)

      by : (b : Bool) → (h.0 == place) ≡ b → AllPass is_never u
      by true e =
          let here : h.0 ≡ place = eqb-true h.0 place e in
          subst (AllPass is_never) (same_Some (after_change o s) u (sym (get-here h.0 (after_change o s) s m.states there)
          ∙ ap (slice_get (put_state h (after_change o s) m.states)) here ∙ at)) (after o new)
      by false e = p.rows place u (sym (get-other h.0 place (λ _. after_change o s) m.states (λ here. true≢false (sym (eq-eqb h.0 place here) ∙ e))) ∙ at)

  packets_put : (way : Way m.packets h s) → list_all (offers_pass is_carried_never_lost) (m.packets ++ sent_in (outputs_by way)) ≡ true
  packets_put way =
      list_all-append (offers_pass is_carried_never_lost) m.packets (sent_in (outputs_by way))
      ∙ and_from (list_all (offers_pass is_carried_never_lost) m.packets) (list_all (offers_pass is_carried_never_lost) (sent_in (outputs_by way))) p.packets
      (list_all-weaker (is_fine_message (length s.site) is_carried_never_lost) (offers_pass is_carried_never_lost)
      (λ x q. (and_parts (is_sane_message (length s.site) x) (body_passes is_carried_never_lost x.body) q).1) (sent_in (outputs_by way))
      (way_sends site m k h s there is_carried_never_lost (p.rows h.0 s there).rows way))

pub never_keeps : (site : List (List ℕ)) → Keeps site IsNever
never_keeps site = record {
  idle = λ m x k idle p. record { rows = p.rows; packets = p.packets };
  kept = λ m k h s there way c is suits p. record {
    rows = rows_put site m k p h s there (Some c) (λ d e. (let same : c ≡ d = same_Some c d e in
        (subst (Suits s) same suits, subst (λ y. NewPasses is_never y s) same (way_new site m k p h s there way c is))));
    packets = p.packets;
  };
  made = λ m k h s there way suits p. record {
    rows = rows_put site m k p h s there (change_by way) (λ c is. (suits c is, way_new site m k p h s there way c is));
    packets = packets_put site m k p h s there way;
  };
}

pub new_never : (site : List (List ℕ)) → IsNever (moment (new_world site) [])
new_never site = record { rows = λ place s at. new 0 site place s at; packets = refl }
  where
    new : (place : ℕ) (names : List (List ℕ)) (n : ℕ) (s : Plain) → slice_get (map (λ x. x.state) (hosts_from place site names)) n ≡ Some s → AllPass is_never s
    new place [] n s e = absurd (none-some s e)
    new place (name ∷ names) zero s e = subst (AllPass is_never) (same_Some _ s e) (record { rows = refl; promises = refl })
    new place (name ∷ names) (suc n) s e = new (place + 1) names n s e

run_never : (site : List (List ℕ)) (acts : List Act) → IsSite site → AreSane acts
    → IsNever (moment (run acts (new_world site)).world (history acts (new_world site)))
run_never site acts few sane = runs_keep site IsNever (never_keeps site) few.1 (new_never site) acts sane

pub never_lost : (site : List (List ℕ)) (acts : List Act) → IsSite site → AreSane acts
    → list_all is_never_lost (entries (states_of (run_of site acts).world)) ≡ true
never_lost site acts few sane =
    let k = run_never site acts few sane in
    let states = states_of (run_of site acts).world in
    entries_pass is_never_lost states 0 states (λ n s at h. ((k.rows n s at).rows, (k.rows n s at).promises))

pub offers_never_lost : (site : List (List ℕ)) (acts : List Act) → IsSite site → AreSane acts
    → list_all (offers_pass is_carried_never_lost) (run_of site acts).world.packets ≡ true
offers_never_lost site acts few sane = (run_never site acts few sane).packets

-- what boots tell

tells-any : (xs : List Seen) (h : Option HostId) → boots_tell None xs ≡ true → boots_tell h xs ≡ true
tells-any [] h k = refl
tells-any (seen.Boot g ∷ xs) h k = k
tells-any (seen.Again g id ∷ xs) h k = absurd (true≢false (sym k))
tells-any (seen.Lost g id ∷ xs) h k = absurd (true≢false (sym k))
tells-any (x ∷ xs) h k = k

tells-append : (xs ys : List Seen) (h : Option HostId) → boots_tell h xs ≡ true → boots_tell None ys ≡ true → boots_tell h (xs ++ ys) ≡ true
tells-append [] ys h k l = tells-any ys h l
tells-append (seen.Boot g ∷ xs) ys h k l = tells-append xs ys (Some g) k l
tells-append (seen.Again g id ∷ xs) ys h k l = let p = and_parts (passes (same_host g) h) (boots_tell h xs) k in
    and_from (passes (same_host g) h) (boots_tell h (xs ++ ys)) p.0 (tells-append xs ys h p.1 l)
tells-append (seen.Lost g id ∷ xs) ys h k l = let p = and_parts (passes (same_host g) h) (boots_tell h xs) k in
    and_from (passes (same_host g) h) (boots_tell h (xs ++ ys)) p.0 (tells-append xs ys h p.1 l)
tells-append (x ∷ xs) ys h k l = tells-append xs ys None k l

abbrev is_untold : Output → Bool
is_untold (out.Again id) = false
is_untold (out.Lost id) = false
is_untold o = true

fine_untold : (n : ℕ) (test : Carried → Bool) (o : Output) → is_fine_output n test (λ id. true) o ≡ true → is_untold o ≡ true
fine_untold n test (out.Again id) k = k
fine_untold n test (out.Lost id) k = k
fine_untold n test o k = refl

untold_output : (h : HostId) (n : ℕ) (o : Output) → is_untold o ≡ true → boots_tell None (seen_output h n o) ≡ true
untold_output h n (out.Again id) k = absurd (true≢false (sym k))
untold_output h n (out.Lost id) k = absurd (true≢false (sym k))
untold_output h n o k = refl

untold_outputs : (h : HostId) (n : ℕ) (os : List Output) → list_all is_untold os ≡ true → boots_tell None (seen_from h n os) ≡ true
untold_outputs h n [] k = refl
untold_outputs h n (o ∷ os) k =
    let p = and_parts (is_untold o) (list_all is_untold os) k in
    tells-append (seen_output h (n + 1) o) (seen_from h (n + length (sent_by o)) os) None (untold_output h (n + 1) o p.0)
    (untold_outputs h (n + length (sent_by o)) os p.1)

start_untold : (now : ℕ) (s : Plain) (x : Stepped (List ℕ)) → Begins now s x → list_all is_untold (map shown x.outputs) ≡ true
start_untold now s x (Launches r found is) = subst (λ (y : Stepped (List ℕ)). list_all is_untold (map shown y.outputs) ≡ true) is refl
start_untold now s x (Prints r device found is) = subst (λ (y : Stepped (List ℕ)). list_all is_untold (map shown y.outputs) ≡ true) is refl
start_untold now s x (Holds r found is) = subst (λ (y : Stepped (List ℕ)). list_all is_untold (map shown y.outputs) ≡ true) is refl
start_untold now s x (Moves r dest found is) = subst (λ (y : Stepped (List ℕ)). list_all is_untold (map shown y.outputs) ≡ true) is
    (by (first_refusal (local_causes dest.queue s r)))
  where
    by : (o : Result (Unit {0}) Refusal) → list_all is_untold (map shown (moving_by o dest.queue r).outputs) ≡ true
    by (Ok u) = refl
    by (Err refusal) = refl
start_untold now s x (Opens r dest found is) = subst (λ (y : Stepped (List ℕ)). list_all is_untold (map shown y.outputs) ≡ true) is (by (find_peer dest.host s))
  where
    by : (o : Option Peer) → list_all is_untold (map shown (opened_with o dest now s r).outputs) ≡ true
    by None = refl
    by (Some p) = refl

boot_tells : (h : HostId) (n : ℕ) (rows : List PlainRow) → boots_tell (Some h) (seen_from h n (filter_map boot_output rows)) ≡ true
boot_tells h n [] = refl
boot_tells h n (r ∷ rows) = by (is_running r.state) (may_start_again r) (λ k. boot_tells h k rows)
  where
    by : (b c : Bool) → ((k : ℕ) → boots_tell (Some h) (seen_from h k (filter_map boot_output rows)) ≡ true)
        → boots_tell (Some h) (seen_from h n (cons_option (if b then Some (if c then out.Again r.id else out.Lost r.id) else None)
        (filter_map boot_output rows))) ≡ true
    by true true told = and_from (same_host h h) _ (host_same h) (told (n + 0))
    by true false told = and_from (same_host h h) _ (host_same h) (told (n + 0))
    by false c told = told n

abbrev Tells : Moment → Type 0
Tells m = boots_tell None (sights m.notes) ≡ true

more_told : (ns : List Note) (h : HostId) (why : Why) (o : Option (Change (List ℕ))) (xs : List Seen) → boots_tell None (sights ns) ≡ true
    → boots_tell None xs ≡ true → boots_tell None (sights (ns ++ (kept_of h why o ++ saws xs))) ≡ true
more_told ns h why o xs k l =
    subst (λ ys. boots_tell None ys ≡ true) (sym (sights-append ns (kept_of h why o ++ saws xs) ∙ ap (λ ys. sights ns ++ ys) (of o)))
    (tells-append (sights ns) xs None k l)
  where
    of : (o : Option (Change (List ℕ))) → sights (kept_of h why o ++ saws xs) ≡ xs
    of None = all_seen xs
    of (Some c) = all_seen xs

idle_told : (x : Seen) → IsIdle x → boots_tell None (x ∷ []) ≡ true
idle_told (seen.Again h id) idle = absurd idle
idle_told (seen.Lost h id) idle = absurd idle
idle_told x idle = refl

way_told : (site : List (List ℕ)) (m : Moment) (k : IsSound site m) (h : HostId) (s : Plain) (there : slice_get m.states h.0 ≡ Some s) (way : Way m.packets h s)
    (n : ℕ) → boots_tell None (first_by way ++ seen_from h n (outputs_by way)) ≡ true
way_told site m k h s there (Taken e comes) n =
    let host = k.hosts h.0 s there in
    untold_outputs h n (map shown (step e s).outputs)
    (list_all-weaker (is_fine_output (length s.site) (λ c. true) (λ id. true)) is_untold (λ o p. fine_untold (length s.site) (λ c. true) o p)
    (map shown (step e s).outputs)
    (step_fine s host.order (λ c. true) (λ id. true) host.scripts host.outputs (all-true s.rows) e
    (event_sane m.packets h (length s.site) e (all_sane site m k h s there) comes) (λ queue job script submits. refl)))
way_told site m k h s there (Begun now x begun) n = untold_outputs h n (map shown x.outputs)
    (start_untold now s x (begins s (k.hosts h.0 s there).order now x begun))
way_told site m k h s there Booted n = boot_tells h n s.rows

tells_keeps : (site : List (List ℕ)) → Keeps site Tells
tells_keeps site = record {
  idle = λ m x k idle p. more_told m.notes (record { 0 = 0 }) ByStart None (x ∷ []) p (idle_told x idle);
  kept = λ m k h s there way c is suits p. more_told m.notes h (why_by way) (Some c) [] p refl;
  made = λ m k h s there way suits p. more_told m.notes h (why_by way) (change_by way) (first_by way ++ seen_from h (length m.packets) (outputs_by way)) p
      (way_told site m k h s there way (length m.packets));
}

pub all_told : (site : List (List ℕ)) (acts : List Act) → IsSite site → AreSane acts → boots_tell None (seen_of (run_of site acts)) ≡ true
all_told site acts few sane = runs_keep site Tells (tells_keeps site) few.1 refl acts sane
