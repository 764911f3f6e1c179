-- The laws of launches over a whole run.
use Rattle.std.proofs.Common.{◌≡◌, ℕ, ◌+◌, ◌<◌, ◌≤◌, Bool, true, false, ◌||◌, ◌==◌, nat_le, List, [], ◌∷◌, ◌++◌, length, Option, None, Some, true≢false, refl}
use Rattle.std.proofs.Common.{sym, ap, subst, ◌∙◌, arith, if◌then◌else◌}
use Rattle.std.proofs.lemmas.Bool.{and_parts, eqb-true, leb-true, leb-false}
use Rattle.std.proofs.lemmas.Option.{none-some}
use Rattle.std.proofs.lemmas.List.{append_assoc}
use Rattle.std.specs.List.{AllByRecursion}
use Rattle.nqs_state.specs.Keys.{is_row}
use Rattle.nqs_state.specs.State.{Plain}
use Rattle.nqs_types.specs.declared.ids.HostId.{HostId}
use Rattle.nqs_types.specs.declared.change.Change.{Change}
use Rattle.nqs_types.specs.declared.change.Change.TheVariants.{Started}
use Rattle.nqs_types.specs.declared.world.Seen.{Seen}
use Rattle.nqs_types.specs.declared.table_row.NetState.TheVariants as net
use Rattle.nqs_rules.specs.Tests.{passes, is_ready, is_queued, is_unheld}
use Rattle.nqs_rules.specs.Find.{find_row}
use Rattle.nqs_rules.specs.Applied.{applied, started_row}
use Rattle.nqs_rules.specs.Fits.{row_passes, device_fits}
use Rattle.nqs_rules.specs.InOrder.{is_row_right}
use Rattle.nqs_rules.specs.Net.{Entry, row_entry, entry_of}
use Rattle.nqs_rules.specs.Starts.{after_change}
use Rattle.nqs_rules.specs.World.{Act, new_world}
use Rattle.nqs_rules.specs.Run.{run, states_of}
use Rattle.nqs_rules.proofs.ListFacts.{list_all-found}
use Rattle.nqs_rules.proofs.RowFacts.{row_is, same_id}
use Rattle.nqs_rules.proofs.RowChanges.{ready_queued}
use Rattle.nqs_rules.specs.Notes.{Note, Saw, Kept, saws}
use Rattle.nqs_laws.specs.History.{history}
use Rattle.nqs_laws.specs.Sane.{AreSane, IsSite}
use Rattle.nqs_laws.specs.Words.{replayed}
use Rattle.nqs_laws.specs.Launches.{Launch, launched, launches, IsStarted, IsStartedIn}
use Rattle.nqs_laws.proofs.Frame.{Moment, put_state, put-same, silent, Way, change_by, why_by, kept_of}
use Rattle.nqs_laws.proofs.Sound.{IsSound, Keeps, Suits, sound_frames, get-here, runs_keep}
use Rattle.nqs_laws.proofs.After.{Request, changed_at, row_after}
use Rattle.nqs_laws.proofs.StartLaws.{IsNever, is_never, never_keeps, new_never}
use Rattle.nqs_laws.proofs.Paired.{At}
use Rattle.nqs_laws.proofs.Tabled.{sits_here}
use Rattle.nqs_laws.proofs.TabledRuns.{IsNet, new_net}
use Rattle.nqs_laws.proofs.Entries.{entry_at, entry_is}
use Rattle.nqs_laws.proofs.RowSteps.{seen_queued}
use Rattle.nqs_laws.proofs.Away.{new_away}
use Rattle.nqs_laws.proofs.LicensedRuns.{IsHistory, history_keeps}
use Rattle.nqs_laws.proofs.Walks.{pending_at, pending-append, launches-append}
use Rattle.nqs_laws.proofs.Launched.{Launching, Nothing, One, seen_by, way_launches, idle_launches}
use Rattle.nqs_laws.proofs.LaunchRuns.{IsGiven, IsPast, HasLaunches, quiet_more, launch_more, kept_more}
use Rattle.std.proofs.lemmas.List.{append-nil}
use Rattle.nqs_base.proofs.Plain.{all_weaker}
use Rattle.nqs_rules.specs.Picked.{PlainRow}

-- where requests lie

pub entry_here : (site : List (List ℕ)) (m : Moment) → IsSound site m → IsNet m → (h : HostId) (s : Plain) → At m.states h s → (x : Request) (r : PlainRow)
    → find_row x s ≡ Some r → entry_of x m.states ≡ Some (row_entry h r)
entry_here site m sound net h s there x r found =
    entry_is m.states net.table net.told (λ b u at. (sound.hosts b.0 u at).order) x
    ∙ ap entry_at (sits_here h (net.table x) r (sym (net.told.rows h s there x) ∙ found))

-- a request that lies somewhere has a number that was given
pub lies_given : (site : List (List ℕ)) (m : Moment) → IsSound site m → IsNet m → (x : Request) (e : Entry) → entry_of x m.states ≡ Some e → IsGiven x m.states
lies_given site m sound net x e lies s at = by (nat_le x.seq s.seq) refl
  where
    by : (b : Bool) → nat_le x.seq s.seq ≡ b → x.seq ≤ s.seq
    by true k = leb-true x.seq s.seq k
    by false k =
        let more : s.seq < x.seq = leb-false x.seq s.seq k in
        absurd (none-some e (sym (entry_is m.states net.table net.told (λ b u at. (sound.hosts b.0 u at).order) x
        ∙ ap entry_at (net.told.given x s at more)) ∙ lies))

pub record IsLaunching (first : List Plain) (m : Moment) : Type 0 where
  pub history : IsHistory first m
  pub never : IsNever m
  pub has : HasLaunches first m.states m.notes

module _ (site : List (List ℕ)) (first : List Plain) (m : Moment) (sound : IsSound site m) (k : IsLaunching first m) (h : HostId) (s : Plain)
    (there : At m.states h s) (way : Way m.packets h s) where
  -- one launch
  module _ (r : PlainRow) (device : Option (List ℕ)) (y : Seen) (found : find_row r.id s ≡ Some r) (is : change_by way ≡ Some (Started r.id device))
      (suits : Suits s (Started r.id device)) (tells : launched (Saw y) ≡ Some (r.id, r.starts + 1))
      (told : (states : List Plain) → IsStarted states h (r.id, r.starts + 1) → IsStartedIn states (Saw y)) where
    abbrev c : Change (List ℕ)
    c = Started r.id device

    abbrev l : Launch
    l = (r.id, r.starts + 1)

    abbrev note : Note
    note = Kept h (why_by way) c

    abbrev states : List Plain
    states = put_state h (applied c s) m.states

    waits : is_ready r ≡ true
    waits = sym (ap (passes is_ready) found) ∙ (and_parts (row_passes is_ready r.id s) (device_fits device s) suits.fit).0

    before : entry_of r.id m.states ≡ Some (row_entry h r)
    before = entry_here site m sound k.history.net h s there r.id r found

    then_sound : IsSound site (silent m h s (why_by way) c)
    then_sound = (sound_frames site).kept m h s there way c is sound

    then_net : IsNet (silent m h s (why_by way) c)
    then_net = ((history_keeps site first).kept m sound h s there way c is suits k.history).net

    then_there : At states h (applied c s)
    then_there = get-here h.0 (applied c s) s m.states there

    then_found : find_row r.id (applied c s) ≡ Some (started_row device r)
    then_found =
        row_after r.id c s (sound.hosts h.0 s there).order suits.fit ∙ (ap (λ o. changed_at r.id (started_row device) r.id o) found
        ∙ ap (λ (b : Bool). if b then Some (started_row device r) else Some r) (same_id r.id))

    lies : entry_of r.id states ≡ Some (row_entry h (started_row device r))
    lies = entry_here site (silent m h s (why_by way) c) then_sound then_net h (applied c s) then_there r.id (started_row device r) then_found

    begun : IsStarted states h l
    begun =
        let order = (then_sound.hosts h.0 (applied c s) then_there).order in
        let lost : r.starts + 1 ≡ r.lost + 1 = eqb-true (r.starts + 1) (r.lost + 1)
        (row_is (applied c s) (started_row device r) (list_all-found (is_row_right (applied c s)) (is_row r.id) (applied c s).rows
        (started_row device r) order.rows then_found)).count in
        record {
          entry = row_entry h (started_row device r);
          lies = lies;
          here = refl;
          runs = refl;
          starts = refl;
          lost = lost;
          once = λ plain. (let none = eqb-true r.lost 0 (ap (λ (b : Bool). b || r.lost == 0) (sym plain)
              ∙ list_all-found is_never (is_row r.id) s.rows r (k.never.rows h.0 s there).rows found) in omega (arith, lost, none));
        }

    calm : pending_at r.id first false m.notes ≡ false
    calm = by (pending_at r.id first false m.notes) refl
      where
        by : (b : Bool) → pending_at r.id first false m.notes ≡ b → b ≡ false
        by false e = refl
        by true e =
            let queued = seen_queued r (ready_queued r waits) (and_parts (is_queued r.state) (is_unheld r.hold) waits).1 in
            let runs = (k.has.pending r.id e).runs (row_entry h r) before in
            absurd (let f : net.Queued ≡ net.Running = sym queued ∙ runs in let no : ⊥ = cc in no)

    still_calm : pending_at r.id first false (m.notes ++ note ∷ []) ≡ false
    still_calm = pending-append r.id m.notes (note ∷ []) first false ∙ ap (λ b. pending_at r.id (replayed m.notes first) b (note ∷ [])) calm

    pub one_more : HasLaunches first states (m.notes ++ (note ∷ Saw y ∷ []))
    one_more =
        let kept = kept_more site first m sound k.history h s there way c is suits k.has in
        let same : launches m.notes ≡ launches (m.notes ++ note ∷ []) = sym (launches-append m.notes (note ∷ []) ∙ append-nil (launches m.notes)) in
        subst (HasLaunches first states) (append_assoc m.notes (note ∷ []) (Saw y ∷ []))
        (launch_more first states (m.notes ++ note ∷ []) kept y l tells h begun (told states begun)
        (lies_given site (silent m h s (why_by way) c) then_sound then_net r.id (row_entry h (started_row device r)) lies)
        (subst (AllByRecursion _) same (all_weaker (IsPast m.states) _ (λ q p e.
        (let less = p.before (row_entry h r) ((λ j. entry_of (e j) m.states) ∙ before) in omega (arith, less))) (launches m.notes) k.has.past)) still_calm)

  made_more : ((c : Change (List ℕ)) → change_by way ≡ Some c → Suits s c) → Launching h s (length m.packets) way
      → HasLaunches first (put_state h (after_change (change_by way) s) m.states)
      (m.notes ++ (kept_of h (why_by way) (change_by way) ++ saws (seen_by h (length m.packets) way)))
  made_more suits (One r device y found is sees tells told) =
      subst (λ o. HasLaunches first (put_state h (after_change o s) m.states)
      (m.notes ++ (kept_of h (why_by way) o ++ saws (seen_by h (length m.packets) way)))) (sym is)
      (subst (λ xs. HasLaunches first (put_state h (applied (Started r.id device) s) m.states)
      (m.notes ++ (Kept h (why_by way) (Started r.id device) ∷ saws xs))) (sym sees)
      (one_more r device y found is (suits (Started r.id device) is) tells told))
  made_more suits (Nothing none) = of (change_by way) refl
    where
      xs : List Seen
      xs = seen_by h (length m.packets) way

      of : (o : Option (Change (List ℕ))) → change_by way ≡ o → HasLaunches first (put_state h (after_change o s) m.states)
          (m.notes ++ (kept_of h (why_by way) o ++ saws xs))
      of None is = subst (λ states. HasLaunches first states (m.notes ++ saws xs)) (sym (put-same h.0 s m.states there))
          (quiet_more first m.states m.notes k.has xs none)
      of (Some c) is =
          subst (HasLaunches first (put_state h (applied c s) m.states)) (append_assoc m.notes (Kept h (why_by way) c ∷ []) (saws xs))
          (quiet_more first (put_state h (applied c s) m.states) (m.notes ++ Kept h (why_by way) c ∷ [])
          (kept_more site first m sound k.history h s there way c is (suits c is) k.has) xs none)

launch_keeps : (site : List (List ℕ)) (first : List Plain) → Keeps site (IsLaunching first)
launch_keeps site first = record {
  idle = λ m x sound idle k. record {
    history = (history_keeps site first).idle m x sound idle k.history;
    never = (never_keeps site).idle m x sound idle k.never;
    has = quiet_more first m.states m.notes k.has (x ∷ []) (idle_launches x idle);
  };
  kept = λ m sound h s there way c is suits k. record {
    history = (history_keeps site first).kept m sound h s there way c is suits k.history;
    never = (never_keeps site).kept m sound h s there way c is suits k.never;
    has = kept_more site first m sound k.history h s there way c is suits k.has;
  };
  made = λ m sound h s there way suits k. record {
    history = (history_keeps site first).made m sound h s there way suits k.history;
    never = (never_keeps site).made m sound h s there way suits k.never;
    has = made_more site first m sound k h s there way suits (way_launches site m sound h s there (length m.packets) way);
  };
}

pub run_launches : (site : List (List ℕ)) → IsSite site → (acts : List Act) → AreSane acts
    → HasLaunches (states_of (new_world site)) (states_of (run acts (new_world site)).world) (history acts (new_world site))
run_launches site few acts sane =
    let first = states_of (new_world site) in
    (runs_keep site (IsLaunching first) (launch_keeps site first) few.1 (record {
      history = record { net = new_net site; away = new_away site; leads = refl; licensed = tt };
      never = new_never site;
      has = record { leads = refl; distinct = refl; past = tt; apart = λ x. tt; pending = λ x p. absurd (true≢false (sym p)); started = tt };
    }) acts sane).has
