-- A boot, a purge and an abort reach all that they mean, and a tick each silent offer.
use Rattle.std.proofs.Common.{◌≡◌, ℕ, ◌⊎◌, inl, inr, Bool, true, false, not, ◌&&◌, List, None, Some, refl, sym, ap, subst, ◌∙◌, if◌then◌else◌}
use Rattle.std.proofs.lemmas.Bool.{not-true, not_from_false}
use Rattle.std.proofs.lemmas.Option.{same_Some, none-some}
use Rattle.std.specs.Option.{IfSome}
use Rattle.std.specs.List.{list_all}
use Rattle.nqs_base.specs.Same.{name_eq}
use Rattle.nqs_base.proofs.Plain.{all-true}
use Rattle.nqs_state.specs.State.{Plain}
use Rattle.nqs_state.specs.Keys.{is_row}
use Rattle.nqs_types.specs.declared.ids.HostId.{HostId}
use Rattle.nqs_types.specs.declared.request.RowState.{RowState}
use Rattle.nqs_types.specs.declared.request.RowState.TheVariants.{Queued, Routing, Running}
use Rattle.nqs_types.specs.declared.request.Hold.{Hold}
use Rattle.nqs_types.specs.declared.request.Hold.TheVariants.{No, User, System}
use Rattle.nqs_types.specs.declared.table_row.NetState.TheVariants.{Arriving}
use Rattle.nqs_types.specs.declared.change.Change.{Change}
use Rattle.nqs_types.specs.declared.change.Change.TheVariants.{Boot, Edited, HandsSilent}
use Rattle.nqs_types.specs.declared.edit.Edit.TheVariants.{Conf, Rows as RowsOf}
use Rattle.nqs_types.specs.declared.edit.ConfEdit.TheVariants.{PurgeQueue}
use Rattle.nqs_types.specs.declared.edit.RowsEdit.TheVariants.{AbortQueue}
use Rattle.nqs_types.specs.declared.message.Message.{Message}
use Rattle.nqs_types.specs.declared.event.Command.TheVariants as command
use Rattle.nqs_types.specs.declared.event.Event.{Event}
use Rattle.nqs_types.specs.declared.event.Event.TheVariants as event
use Rattle.nqs_rules.specs.Tests.{is_running, is_queued}
use Rattle.nqs_rules.specs.Find.{find_row}
use Rattle.nqs_rules.specs.Conf.{is_queued_in}
use Rattle.nqs_rules.specs.Rows.{doomed_in}
use Rattle.nqs_rules.specs.Edits.{change_at}
use Rattle.nqs_rules.specs.Handover.{silent_hands}
use Rattle.nqs_rules.specs.Applied.{applied, may_start_again, lost_row, booted_row}
use Rattle.nqs_rules.specs.InOrder.{IsInOrder}
use Rattle.nqs_rules.specs.Net.{Entry, entry_of, row_entry}
use Rattle.nqs_rules.specs.Text.{seen_state}
use Rattle.nqs_rules.specs.Starts.{after_step}
use Rattle.nqs_rules.specs.Step.{step}
use Rattle.nqs_rules.specs.World.{Act, new_world}
use Rattle.nqs_rules.specs.Run.{run}
use Rattle.nqs_rules.proofs.ListFacts.{list_all-found}
use Rattle.nqs_rules.proofs.KeyFacts.{filter_all}
use Rattle.nqs_rules.proofs.FindKept.{all-filter_map, all-mapped}
use Rattle.nqs_rules.specs.Notes.{ByEvent}
use Rattle.nqs_rules.specs.Picked.{PlainRow}
use Rattle.nqs_laws.specs.Sane.{AreSane, IsSite}
use Rattle.nqs_laws.specs.Handovers.{IsStateOf}
use Rattle.nqs_laws.specs.AtOnce.{is_run, is_waiting, runs, waits_in, runs_on_in, NoneAt, LeavesNone, has_no_silence, tick_moment, TakesBackAll}
use Rattle.nqs_laws.proofs.Frame.{Moment, silent, Way, Taken, Begun, Booted, change_by, why_by}
use Rattle.nqs_laws.proofs.Told.{at-value}
use Rattle.nqs_laws.proofs.Sound.{IsSound, Suits, some-if, sound_frames, run_sound, get-here}
use Rattle.nqs_laws.proofs.Makes.{Follows, step_makes}
use Rattle.nqs_laws.proofs.After.{Request}
use Rattle.nqs_laws.proofs.Views.{host_same}
use Rattle.nqs_laws.proofs.Paired.{At}
use Rattle.nqs_laws.proofs.Tabled.{Place, Nowhere, Sits, Arrives, row_in}
use Rattle.nqs_laws.proofs.TabledRuns.{IsNet}
use Rattle.nqs_laws.proofs.Entries.{entry_at, entry_is}
use Rattle.nqs_laws.proofs.LicensedRuns.{IsHistory, history_keeps}
use Rattle.nqs_laws.proofs.Kept.{OfMoments}
use Rattle.nqs_laws.proofs.Silence.{no_silence, silence_ends}

-- what of an entry its row tells

run_seen : (r : PlainRow) → is_run (seen_state r) ≡ is_running r.state
run_seen r = by r.state r.hold
  where
    by : (st : RowState) (hold : Hold) → is_run (seen_state (record r { state = st; hold = hold })) ≡ is_running st
    by Running hold = refl
    by Routing hold = refl
    by Queued No = refl
    by Queued User = refl
    by Queued System = refl

waiting_seen : (r : PlainRow) → is_waiting (seen_state r) ≡ is_queued r.state
waiting_seen r = by r.state r.hold
  where
    by : (st : RowState) (hold : Hold) → is_waiting (seen_state (record r { state = st; hold = hold })) ≡ is_queued st
    by Running hold = refl
    by Routing hold = refl
    by Queued No = refl
    by Queued User = refl
    by Queued System = refl

-- a request that lies with a host is a row of it, or arrives there

module _ (site : List (List ℕ)) (m : Moment) (sound : IsSound site m) (net : IsNet m) (h : HostId) (s : Plain) (there : At m.states h s) where
  row_or_arriving : (x : Request) (e : Entry) → entry_of x m.states ≡ Some e → e.host ≡ h
      → ((r : PlainRow) × (find_row x s ≡ Some r) × (e ≡ row_entry h r)) ⊎ (e.state ≡ Arriving)
  row_or_arriving x e lies here = of (net.table x) refl (sym (entry_is m.states net.table net.told (λ b u at. (sound.hosts b.0 u at).order) x)
      ∙ lies)
    where
      of : (t : Place) → net.table x ≡ t → entry_at (net.table x) ≡ Some e
          → ((r : PlainRow) × (find_row x s ≡ Some r) × (e ≡ row_entry h r)) ⊎ (e.state ≡ Arriving)
      of Nowhere f k = absurd (none-some e (sym (ap entry_at f) ∙ k))
      of (Sits g r) f k =
          let is : row_entry g r ≡ e = same_Some (row_entry g r) e (sym (ap entry_at f) ∙ k) in
          let host : g ≡ h = ap (λ (y : Entry). y.host) is ∙ here in
          let found : find_row x s ≡ Some r = net.told.rows h s there x ∙
          (ap (row_in h) f ∙ ((λ j. row_in h (Sits (host j) r)) ∙ ap (λ (b : Bool). if b then Some r else None) (host_same h))) in
          inl (r, found, sym is ∙ (λ j. row_entry (host j) r))
      of (Arrives a b n r) f k = inr (sym (ap (λ (y : Entry). y.state) (same_Some _ e (sym (ap entry_at f) ∙ k))))

  -- what no row passes, and nothing that arrives
  none_at : (t : Entry → Bool) (u : PlainRow → Bool) → ((r : PlainRow) → u r ≡ true → t (row_entry h r) ≡ false)
      → ((e : Entry) → e.state ≡ Arriving → t e ≡ false) → list_all u s.rows ≡ true → NoneAt t h m.states
  none_at t u row arriving all x e lies here = of (row_or_arriving x e lies here)
    where
      of : ((r : PlainRow) × (find_row x s ≡ Some r) × (e ≡ row_entry h r)) ⊎ (e.state ≡ Arriving) → t e ≡ false
      of (inl q) = ap t q.2 ∙ row q.0 (list_all-found u (is_row x) s.rows q.0 all q.1)
      of (inr a) = arriving e a

-- rows after such a change

none_runs : (s : Plain) → list_all (λ (r : PlainRow). not (is_running r.state)) (applied Boot s).rows ≡ true
none_runs s = all-filter_map (λ (r : PlainRow). true) (λ (r : PlainRow). not (is_running r.state)) booted_row
    (λ r k. by r (is_running r.state) refl (may_start_again r)) s.rows (all-true s.rows)
  where
    by : (r : PlainRow) (b : Bool) → is_running r.state ≡ b → (c : Bool) → IfSome (if b then (if c then Some (lost_row r) else None) else Some r)
        (λ q. not (is_running q.state) ≡ true)
    by r true e true = refl
    by r true e false = tt
    by r false e c = not_from_false (is_running r.state) e

none_waits : (q : List ℕ) (s : Plain) → list_all (λ (r : PlainRow). not (is_queued_in q r)) (applied (Edited (Conf (PurgeQueue q))) s).rows ≡ true
none_waits q s = filter_all (λ (r : PlainRow). not (is_queued_in q r)) (λ (r : PlainRow). true) (λ (r : PlainRow). not (is_queued_in q r))
    (λ r keep k. keep) s.rows (all-true s.rows)

abbrev is_doomed_there : List ℕ → PlainRow → Bool
is_doomed_there q r = not (is_running r.state && name_eq q r.queue && not r.doomed)

all_doomed : (q : List ℕ) (s : Plain) → list_all (is_doomed_there q) (applied (Edited (RowsOf (AbortQueue q))) s).rows ≡ true
all_doomed q s = all-mapped (λ (r : PlainRow). true) (is_doomed_there q) (doomed_in q) (λ r k. by r (is_running r.state) refl (name_eq q r.queue) refl) s.rows
    (all-true s.rows)
  where
    last : (b : Bool) → not (b && false) ≡ true
    last true = refl
    last false = refl

    by : (r : PlainRow) (a : Bool) → is_running r.state ≡ a → (b : Bool) → name_eq q r.queue ≡ b
        → is_doomed_there q (if a && b then record r { doomed = true } else r) ≡ true
    by r true e true f = last (is_running r.state && name_eq q r.queue)
    by r true e false f = (λ j. not (e j && f j && not r.doomed))
    by r false e b f = (λ j. not (e j && name_eq q r.queue && not r.doomed))

-- states that arrive pass none of the tests
arriving_runs : (e : Entry) → e.state ≡ Arriving → runs e ≡ false
arriving_runs e a = ap is_run a

arriving_waits : (q : List ℕ) (e : Entry) → e.state ≡ Arriving → waits_in q e ≡ false
arriving_waits q e a = ap (λ st. is_waiting st && name_eq q e.queue) a

arriving_runs_on : (q : List ℕ) (e : Entry) → e.state ≡ Arriving → runs_on_in q e ≡ false
arriving_runs_on q e a = ap (λ st. is_run st && name_eq q e.queue && not e.doomed) a

module _ (site : List (List ℕ)) (first : List Plain) (m : Moment) (sound : IsSound site m) (k : IsHistory first m) (h : HostId) (s : Plain)
    (there : At m.states h s) (way : Way m.packets h s) (c : Change (List ℕ)) (is : change_by way ≡ Some c) (suits : Suits s c) where
  none_then : (t : Entry → Bool) (u : PlainRow → Bool) → ((r : PlainRow) → u r ≡ true → t (row_entry h r) ≡ false)
      → ((e : Entry) → e.state ≡ Arriving → t e ≡ false) → list_all u (applied c s).rows ≡ true → NoneAt t h (change_at h.0 (applied c) m.states)
  none_then t u row arriving all =
      subst (NoneAt t h) (sym (at-value h.0 (applied c) s m.states there))
      (none_at site (silent m h s (why_by way) c) ((sound_frames site).kept m h s there way c is sound)
      ((history_keeps site first).kept m sound h s there way c is suits k).net h (applied c s)
      (get-here h.0 (applied c s) s m.states there) t u row arriving all)

pub leaves_none : (site : List (List ℕ)) (first : List Plain) → OfMoments site first LeavesNone
leaves_none site first m sound k h s there way Boot is suits =
    none_then site first m sound k h s there way Boot is suits runs (λ r. not (is_running r.state))
    (λ r e. run_seen r ∙ not-true (is_running r.state) e) arriving_runs (none_runs s)
leaves_none site first m sound k h s there way (Edited (Conf (PurgeQueue q))) is suits =
    none_then site first m sound k h s there way (Edited (Conf (PurgeQueue q))) is suits (waits_in q) (λ r. not (is_queued_in q r))
    (λ r e. ap (λ b. b && name_eq q r.queue) (waiting_seen r) ∙ not-true (is_queued_in q r) e) (arriving_waits q) (none_waits q s)
leaves_none site first m sound k h s there way (Edited (RowsOf (AbortQueue q))) is suits =
    none_then site first m sound k h s there way (Edited (RowsOf (AbortQueue q))) is suits (runs_on_in q) (is_doomed_there q)
    (λ r e. ap (λ b. b && name_eq q r.queue && not r.doomed) (run_seen r) ∙ not-true (is_running r.state && name_eq q r.queue && not r.doomed) e)
    (arriving_runs_on q) (all_doomed q s)
leaves_none site first m sound k h s there way c is suits = tt

-- ticks

module _ (s : Plain) (o : IsInOrder s) (c : Change (List ℕ)) where
  taken_back : (now until : ℕ) → c ≡ HandsSilent until (silent_hands now s) → has_no_silence now (applied c s) ≡ true
  taken_back now until e = ap (λ d. has_no_silence now (applied d s)) e ∙ no_silence now s o until

  event_takes : (e : Event) → Follows e s c → (now : ℕ) → tick_moment (ByEvent e) ≡ Some now → has_no_silence now (applied c s) ≡ true
  event_takes (event.Tick at) f now is = subst (λ n. has_no_silence n (applied c s) ≡ true) (same_Some at now is) (taken_back at f.0 f.1)
  event_takes (event.Ask at port token user command.Tick) f now is = subst (λ n. has_no_silence n (applied c s) ≡ true) (same_Some at now is)
      (taken_back at f.0 f.1)
  event_takes (event.Ask at port token user b) f now is = absurd (none-some now is)
  event_takes e f now is = absurd (none-some now is)

  way_takes : {packets : List Message} {h : HostId} (way : Way packets h s) → change_by way ≡ Some c → (now : ℕ) → tick_moment (why_by way) ≡ Some now
      → has_no_silence now (applied c s) ≡ true
  way_takes (Taken e comes) is now tick = event_takes e (some-if (Follows e s) (step e s).change c (step_makes s e) is) now tick
  way_takes (Begun n x begun) is now tick = absurd (none-some now tick)
  way_takes Booted is now tick = absurd (none-some now tick)

pub takes_back_all : (site : List (List ℕ)) (first : List Plain) → OfMoments site first TakesBackAll
takes_back_all site first m sound k h s there way c is suits now tick t at =
    subst (λ u. has_no_silence now (applied c u) ≡ true) (same_Some s t (sym there ∙ at)) (way_takes s (sound.hosts h.0 s there).order c way is now tick)

pub ticks_end_silence : (site : List (List ℕ)) → IsSite site → (acts : List Act) → AreSane acts → (host : HostId) (s : Plain)
    → IsStateOf (run acts (new_world site)).world host s → (now : ℕ) → has_no_silence now (after_step (step (event.Tick now) s) s) ≡ true
ticks_end_silence site few acts sane host s at now = silence_ends now s ((run_sound site few.1 acts sane).hosts host.0 s at).order
