-- A commit from its two parts: a checkpoint, where one is due, and the calls of the change.
use Rattle.std.proofs.Common.{◌≡◌, inl, inr, ℕ, ◌+◌, ◌≤◌, Bool, true, false, not, IsTrue, if◌then◌else◌, List, [], ◌∷◌, ◌++◌, length, map, Ok, refl, sym}
use Rattle.std.proofs.Common.{OnOk, ap, true≢false}
use Rattle.std.proofs.Common.{subst, ◌∙◌, arith, length-append}
use Rattle.std.proofs.lemmas.List.{length-map, append-nil}
use Rattle.std.proofs.lemmas.Result.{on_ok_weaker}
use Rattle.std.specs.declared.result.Result.{Result}
use Rattle.nqs_state.specs.State.{Plain}
use Rattle.nqs_types.specs.declared.change.Change.{Change}
use Rattle.nqs_types.specs.declared.world.Which.{Which}
use Rattle.nqs_types.specs.declared.world.Which.TheVariants.{Root, Spool}
use Rattle.nqs_outside.specs.History.{Call, History, content, extended, state, moment}
use Rattle.nqs_outside.specs.declared.disk.Disk as disk
use Rattle.nqs_journal.specs.Plan.{append_calls, begin_calls, front_calls}
use Rattle.nqs_journal.specs.Text.{snapshot_front}
use Rattle.nqs_rules.specs.Journals.{journal_on, is_due, byte_of}
use Rattle.nqs_rules.specs.Stepped.{stored_parts}
use Rattle.nqs_rules.specs.World.{spool_calls}
use Rattle.nqs_snapshot.specs.Reading.{snapshot_of}
use Rattle.nqs_store.specs.Told.{Host}
use Rattle.nqs_store.specs.Active.{Active, journal_of, other_of, turned_to, ready}
use Rattle.nqs_store.specs.Hosts.{HostCall, failed_on, on, part, Runs, StopsShort as HostStops}
use Rattle.nqs_store.specs.Plan.{puts_calls, change_calls, checkpoint_calls, due_calls, commit_calls, CommitsBy}
use Rattle.nqs_store.specs.Spells.{SpellsBy, Spells, spelling_at}
use Rattle.nqs_store.specs.Images.{IsTold, TellsOneOf}
use Rattle.nqs_store.specs.Moments.{Moments}
use Rattle.nqs_store.specs.Commits.{AreClear, FailsFirst, LeavesHost, IsPast, calls_before, record_moment, root_calls, IsKept, IsBegun, HasOneMore}
use Rattle.nqs_store.specs.Commits.{before_record, Keeping, IsAtHostGate}
use Rattle.nqs_store.specs.Commits.{IsCutAt, IsCutOn}
use Rattle.nqs_store.specs.Changing.{Turning, Changing, IsTurned, IsTurnCut, IsChangeCut}
use Rattle.nqs_store.specs.Stores.{Tells, plain_of, history_of, active_of}
use Rattle.nqs_store.specs.declared.store.Store.{Store}
use Rattle.nqs_store.proofs.HostRuns.{part_own, part_append, runs_both, runs_none, length_on, moments_both, moments_weaker, moments_none}
use Rattle.nqs_store.proofs.HostRuns.{no_pending}
use Rattle.nqs_store.proofs.HostRuns.{none_stops, stops_size}
use Rattle.nqs_store.proofs.EachDisk.{root_is_no_journal, root_apart, spool_apart}
use Rattle.nqs_store.proofs.Committed.{quiet}
use Rattle.nqs_store.proofs.TellsNow.{told_now}
use Rattle.nqs_store.proofs.Changed.{part_apart}
use Rattle.nqs_store.proofs.Runs.{stops_before, stops_behind}

-- where no checkpoint is due
module _ (a : Active) (not_due : is_due a.is_old a.records ≡ false) where
  pub here : ready a ≡ a
  here = ap (λ (b : Bool). if b then turned_to a else a) not_due

  pub here_calls : (snapshot places : List ℕ) (puts : List (List ℕ)) (gate : ℕ) (payload : List ℕ)
      → commit_calls a snapshot places puts gate payload ≡ change_calls a places puts gate payload
  here_calls snapshot places puts gate payload =
      ap (λ (b : Bool). (if b then checkpoint_calls a snapshot else []) ++ change_calls (if b then turned_to a else a) places puts gate payload) not_due

  pub here_before : calls_before a ≡ 0
  here_before = ap (λ (b : Bool). if b then 2 else 0) not_due

  -- the journal made no call of a checkpoint
  pub here_record : (snapshot : List ℕ) (old : Which → History) → before_record a snapshot old ≡ old (journal_of a)
  here_record snapshot old =
      ap (λ (b : Bool). extended (old (journal_of (if b then turned_to a else a))) (part (journal_of (if b then turned_to a else a))
      (if b then checkpoint_calls a snapshot else []))) not_due
      ∙ ap (λ (l : List Call). let e : History = record { start = (old (journal_of a)).start; calls = l } in e) (append-nil (old (journal_of a)).calls)

  pub here_root : (old : History) → old ≡ extended old (root_calls a)
  here_root old = sym (ap (λ (b : Bool). extended old (if b then begin_calls (byte_of (not a.second) ∷ []) else [])) not_due
      ∙ ap (λ (l : List Call). let e : History = record { start = old.start; calls = l } in e) (append-nil old.calls))

  pub here_past : (fails : Which → ℕ → Bool) (old : Which → History) → IsPast a fails old
  here_past fails old = record { other = λ due. absurd (true≢false (sym due ∙ not_due)); root = λ due. absurd (true≢false (sym due ∙ not_due)) }

  pub here_moment : (old : Which → History) → record_moment a old ≡ moment (old (journal_of a))
  here_moment old = (λ j. moment (old (journal_of (here j))) + here_before j)
      ∙ (let none : moment (old (journal_of a)) + 0 ≡ moment (old (journal_of a)) = omega arith in none)

-- where one is due
module _ (a : Active) (due : is_due a.is_old a.records ≡ true) where
  pub there : ready a ≡ turned_to a
  there = ap (λ (b : Bool). if b then turned_to a else a) due

  pub there_calls : (snapshot places : List ℕ) (puts : List (List ℕ)) (gate : ℕ) (payload : List ℕ)
      → commit_calls a snapshot places puts gate payload ≡ checkpoint_calls a snapshot ++ change_calls (turned_to a) places puts gate payload
  there_calls snapshot places puts gate payload =
      ap (λ (b : Bool). (if b then checkpoint_calls a snapshot else []) ++ change_calls (if b then turned_to a else a) places puts gate payload) due

  pub there_record : (snapshot : List ℕ) (old : Which → History)
      → before_record a snapshot old ≡ extended (old (other_of a)) (part (other_of a) (checkpoint_calls a snapshot))
  there_record snapshot old =
      ap (λ (b : Bool). extended (old (journal_of (if b then turned_to a else a))) (part (journal_of (if b then turned_to a else a))
      (if b then checkpoint_calls a snapshot else []))) due

  pub there_moment : (old : Which → History) → record_moment a old ≡ moment (old (other_of a)) + 2
  there_moment old = ap (λ (b : Bool). moment (old (journal_of (if b then turned_to a else a))) + (if b then 2 else 0)) due

-- a change's calls are four or more
many_calls : (a : Active) (places : List ℕ) (puts : List (List ℕ)) (gate : ℕ) (payload : List ℕ) → 4 ≤ length (change_calls a places puts gate payload)
many_calls a places puts gate payload = omega (
  arith,
  length-append (on Spool (puts_calls places puts)) (on (journal_of a) (append_calls gate payload)),
  length_on (journal_of a) (append_calls gate payload),
)

-- no call of a commit was made
pub none_begun : (a : Active) (snapshot places : List ℕ) (puts : List (List ℕ)) (gate : ℕ) (payload : List ℕ)
    → HostStops (commit_calls a snapshot places puts gate payload) []
none_begun a snapshot places puts gate payload =
    none_stops (due_calls a snapshot) (change_calls (ready a) places puts gate payload)
    (none_stops (on Spool (puts_calls places puts)) (on (journal_of (ready a)) (append_calls gate payload)) tt)

-- what stands to the calls of a commit so stands to them in a weaker way
abbrev pub by_weaker : {Stands Other : List HostCall → List HostCall → Type 0} {a : Active} {puts : List (List ℕ)} {old now : Which → History}
    → CommitsBy Stands a puts old now → ((planned run : List HostCall) → Stands planned run → Other planned run) → CommitsBy Other a puts old now
by_weaker c weaker = record {
  snapshot = c.snapshot;
  places = c.places;
  gate = c.gate;
  payload = c.payload;
  run = c.run;
  many = c.many;
  stands = weaker _ c.run c.stands;
  made = c.made;
}

-- nothing was done
abbrev pub idle_by : (a : Active) (old now : Which → History) (puts : List (List ℕ)) → ((w : Which) → now w ≡ old w) → CommitsBy HostStops a puts old now
idle_by a old now puts same = record {
  snapshot = [];
  places = map (λ _. 0) puts;
  gate = 0;
  payload = [];
  run = [];
  many = length-map puts (λ _. 0);
  stands = none_begun a [] (map (λ _. 0) puts) puts 0 [];
  made = runs_none old now same;
}

module _ {D : Type 0} {g : disk.Ghosts D} where
  pub idle_keeping : IsTrue g.tells → (old : Store D g) (host : Host) → Tells old host → (now : Which → History) (puts : List (List ℕ)) (later : Plain)
      → ((w : Which) → now w ≡ history_of old w) → Keeping (active_of old) puts (history_of old) now (plain_of old host) later
  idle_keeping told old host tells now puts later same =
      let a = active_of old in
      let m = moments_none (history_of old) (TellsOneOf (plain_of old host) later)
      (λ w. no_pending (state (history_of old w)) (content (history_of old w)) (quiet told old host tells w))
      (λ images leaves. inl (told_now old host tells told images leaves).0) in
      record {
        calls = by_weaker (idle_by a (history_of old) now puts same) (λ planned run short. inr short);
        told = m.told;
        settled = m.settled;
        one_more = λ is. absurd (omega (
          arith,
          ap length is,
          length-append (due_calls a []) (change_calls (ready a) (map (λ _. 0) puts) puts 0 []),
          many_calls (ready a) (map (λ _. 0) puts) puts 0 [],
        ));
      }

  -- only the calls of the change
  module _ (old now : Store D g) (puts : List (List ℕ)) (host : Host) (later : Plain)
      (not_due : is_due (active_of old).is_old (active_of old).records ≡ false) where
    abbrev a : Active
    a = active_of old

    abbrev pub here_by : {Stands : List HostCall → List HostCall → Type 0} → Changing Stands old now puts host later
        → CommitsBy Stands a puts (history_of old) (history_of now)
    here_by {Stands} c = record {
      snapshot = [];
      places = c.places;
      gate = c.gate;
      payload = c.payload;
      run = c.run;
      many = c.many;
      stands = subst (λ l. Stands l c.run) (sym (here_calls a not_due [] c.places puts c.gate c.payload)) c.stands;
      made = c.made;
    }

    pub here_keeping : {Stands : List HostCall → List HostCall → Type 0} → ((planned run : List HostCall) → Stands planned run → IsBegun planned run)
        → Changing Stands old now puts host later → Tells old host → Keeping a puts (history_of old) (history_of now) (plain_of old host) later
    here_keeping {Stands} begins c tells = record {
      calls = by_weaker (here_by c) begins;
      told = (c.at tells).told;
      settled = (c.at tells).settled;
      one_more = λ is.
          let more = c.one_more tells (is ∙ here_calls a not_due [] c.places puts c.gate c.payload) in
          subst (λ b. HasOneMore (before_record a [] (history_of old)) (history_of now (journal_of b))) (sym (here a not_due))
          (subst (λ h. HasOneMore h (history_of now (journal_of a))) (sym (here_record a not_due [] (history_of old))) more);
    }

    pub here_kept : (fails : Which → ℕ → Bool) → Changing (λ planned run. run ≡ planned) old now puts host later
        → AreClear (fails Spool) (moment (history_of old Spool)) (spool_calls puts)
        → AreClear (fails (journal_of a)) (moment (history_of old (journal_of a))) 4 → IsKept a fails puts (history_of old) (history_of now)
    here_kept fails c spool journal = record {
      calls = here_by c;
      past = here_past a not_due fails (history_of old);
      spool = spool;
      journal = subst (λ b. AreClear (fails (journal_of b)) (record_moment a (history_of old)) 4) (sym (here a not_due))
          (subst (λ t. AreClear (fails (journal_of a)) t 4) (sym (here_moment a not_due (history_of old))) journal);
    }

    pub here_cut : (fails : Which → ℕ → Bool) (before : Plain) (which : Which)
        → IsChangeCut a fails puts (history_of old) (history_of now) before later which
        → IsCutAt a fails puts (history_of old) (history_of now) before later which
    here_cut fails before which (inl cut) = subst (IsCutAt a fails puts (history_of old) (history_of now) before later) (sym cut.0) (record {
      past = here_past a not_due fails (history_of old);
      at = cut.1.at;
      failed = cut.1.failed;
      root = cut.1.root ∙ here_root a not_due (history_of old Root);
      told = subst (LeavesHost (history_of now) before) (sym (here a not_due)) cut.1.told;
    })
    here_cut fails before which (inr cut) =
        subst (IsCutAt a fails puts (history_of old) (history_of now) before later) (sym cut.0) (by a.second refl (inr (
          ap (λ (b : Active). b.second) (here a not_due),
          record {
            past = here_past a not_due fails (history_of old);
            spool = cut.1.spool;
            at = cut.1.at;
            failed = subst (λ b. FailsFirst (fails (journal_of b)) (record_moment a (history_of old)) 4 cut.1.at) (sym (here a not_due))
                (subst (λ t. FailsFirst (fails (journal_of a)) t 4 cut.1.at) (sym (here_moment a not_due (history_of old))) cut.1.failed);
            root = cut.1.root ∙ here_root a not_due (history_of old Root);
            told = λ few. subst (LeavesHost (history_of now) before) (sym (here a not_due)) (cut.1.told few);
            gate = λ late. subst (λ b. IsAtHostGate b (history_of now) before later) (sym (here a not_due)) (cut.1.gate late);
          },
        )))
      where
        by : (b : Bool) → a.second ≡ b → IsCutOn a fails puts (history_of old) (history_of now) before later a.second
            → IsCutAt a fails puts (history_of old) (history_of now) before later (journal_on a.second)
        by true is cut = subst (λ c. IsCutAt a fails puts (history_of old) (history_of now) before later (journal_on c)) (sym is)
            (subst (IsCutOn a fails puts (history_of old) (history_of now) before later) is cut)
        by false is cut = subst (λ c. IsCutAt a fails puts (history_of old) (history_of now) before later (journal_on c)) (sym is)
            (subst (IsCutOn a fails puts (history_of old) (history_of now) before later) is cut)

  -- only the calls of a checkpoint, which one of them cut off
  module _ (old now : Store D g) (puts : List (List ℕ)) (host : Host) (later : Plain) (snapshot : List ℕ)
      (due : is_due (active_of old).is_old (active_of old).records ≡ true)
      (t : Turning HostStops old now snapshot host) where
    abbrev a' : Active
    a' = active_of old

    abbrev no_places : List ℕ
    no_places = map (λ _. 0) puts

    pub turn_stops : HostStops (commit_calls a' snapshot no_places puts 0 []) t.run
    turn_stops = subst (λ l. HostStops l t.run) (sym (there_calls a' due snapshot no_places puts 0 []))
        (stops_before failed_on (checkpoint_calls a' snapshot) (change_calls (turned_to a') no_places puts 0 []) t.run t.stands)

    abbrev pub turn_by : CommitsBy HostStops a' puts (history_of old) (history_of now)
    turn_by = record {
      snapshot = snapshot;
      places = no_places;
      gate = 0;
      payload = [];
      run = t.run;
      many = length-map puts (λ _. 0);
      stands = turn_stops;
      made = t.made;
    }

    pub turn_keeping : snapshot_of snapshot ≡ Ok host → Tells old host → Keeping a' puts (history_of old) (history_of now) (plain_of old host) later
    turn_keeping reads tells =
        let m = moments_weaker (history_of old) t.run _ (TellsOneOf (plain_of old host) later) (λ images is. inl is) (t.at reads tells) in
        record {
          calls = by_weaker turn_by (λ planned run short. inr short);
          told = m.told;
          settled = m.settled;
          one_more = λ is. absurd (omega (
            arith,
            ap length (is ∙ there_calls a' due snapshot no_places puts 0 []),
            length-append (checkpoint_calls a' snapshot) (change_calls (turned_to a') no_places puts 0 []),
            many_calls (turned_to a') no_places puts 0 [],
            stops_size (checkpoint_calls a' snapshot) t.run t.stands,
          ));
        }

    pub turn_cut : (fails : Which → ℕ → Bool) (before : Plain) (which : Which) → IsTurnCut a' fails (history_of old) (history_of now) before which
        → IsCutAt a' fails puts (history_of old) (history_of now) before later which
    turn_cut fails before which (inl cut) =
        subst (IsCutAt a' fails puts (history_of old) (history_of now) before later) (sym cut.0) (by (not a'.second) refl (inl (refl, due, cut.1)))
      where
        by : (b : Bool) → not a'.second ≡ b → IsCutOn a' fails puts (history_of old) (history_of now) before later (not a'.second)
            → IsCutAt a' fails puts (history_of old) (history_of now) before later (journal_on (not a'.second))
        by true is cut = subst (λ c. IsCutAt a' fails puts (history_of old) (history_of now) before later (journal_on c)) (sym is)
            (subst (IsCutOn a' fails puts (history_of old) (history_of now) before later) is cut)
        by false is cut = subst (λ c. IsCutAt a' fails puts (history_of old) (history_of now) before later (journal_on c)) (sym is)
            (subst (IsCutOn a' fails puts (history_of old) (history_of now) before later) is cut)
    turn_cut fails before which (inr cut) = subst (IsCutAt a' fails puts (history_of old) (history_of now) before later) (sym cut.0) (due, cut.1)

  -- the calls of a checkpoint, and then those of the change
  module _ (old mid now : Store D g) (puts : List (List ℕ)) (host : Host) (later : Plain) (snapshot : List ℕ)
      (due : is_due (active_of old).is_old (active_of old).records ≡ true)
      (turned : active_of mid ≡ turned_to (active_of old)) (t : Turning (λ planned run. run ≡ planned) old mid snapshot host) where
    abbrev b : Active
    b = active_of old

    checkpoint_run : Runs (history_of old) (history_of mid) (checkpoint_calls b snapshot)
    checkpoint_run = subst (Runs (history_of old) (history_of mid)) t.stands t.made

    -- the plan of the whole
    abbrev whole : List ℕ → ℕ → List ℕ → List HostCall
    whole places gate payload = checkpoint_calls b snapshot ++ change_calls (active_of mid) places puts gate payload

    whole_is : (places : List ℕ) (gate : ℕ) (payload : List ℕ) → commit_calls b snapshot places puts gate payload ≡ whole places gate payload
    whole_is places gate payload = there_calls b due snapshot places puts gate payload
        ∙ ap (λ c. checkpoint_calls b snapshot ++ change_calls c places puts gate payload) (sym turned)

    abbrev there_as : {Stands Other : List HostCall → List HostCall → Type 0}
        → ((planned run : List HostCall) → Stands planned run → Other (checkpoint_calls b snapshot ++ planned) (checkpoint_calls b snapshot ++ run))
        → Changing Stands mid now puts host later → CommitsBy Other b puts (history_of old) (history_of now)
    there_as {Stands} {Other} behind c = record {
      snapshot = snapshot;
      places = c.places;
      gate = c.gate;
      payload = c.payload;
      run = checkpoint_calls b snapshot ++ c.run;
      many = c.many;
      stands = subst (λ l. Other l (checkpoint_calls b snapshot ++ c.run)) (sym (whole_is c.places c.gate c.payload)) (behind _ c.run c.stands);
      made = runs_both (history_of old) (history_of mid) (history_of now) (checkpoint_calls b snapshot) c.run checkpoint_run c.made;
    }

    pub there_by : {Stands : List HostCall → List HostCall → Type 0}
        → ((planned run : List HostCall) → Stands planned run → Stands (checkpoint_calls b snapshot ++ planned) (checkpoint_calls b snapshot ++ run))
        → Changing Stands mid now puts host later → CommitsBy Stands b puts (history_of old) (history_of now)
    there_by {Stands} behind c = there_as {Stands = Stands} {Other = Stands} behind c

    -- the journal that the record goes to, before it
    mid_record : history_of mid (journal_of (active_of mid)) ≡ before_record b snapshot (history_of old)
    mid_record = ap (λ c. history_of mid (journal_of c)) turned ∙ checkpoint_run (other_of b) ∙ sym (there_record b due snapshot (history_of old))

    pub there_keeping : {Stands : List HostCall → List HostCall → Type 0} → ((planned run : List HostCall) → Stands planned run → IsBegun planned run)
        → Changing Stands mid now puts host later → snapshot_of snapshot ≡ Ok host → Tells old host → Tells mid host → plain_of mid host ≡ plain_of old host
        → Keeping b puts (history_of old) (history_of now) (plain_of old host) later
    there_keeping {Stands} begins c reads tells tells' same =
        let first = subst (λ r. Moments (history_of old) r (λ images. IsTold images (plain_of old host))) t.stands (t.at reads tells) in
        let m = moments_both (history_of old) (history_of mid) (checkpoint_calls b snapshot) c.run (TellsOneOf (plain_of old host) later) checkpoint_run
        (moments_weaker (history_of old) (checkpoint_calls b snapshot) _ _ (λ images is. inl is) first)
        (subst (λ p. Moments (history_of mid) c.run (TellsOneOf p later)) same (c.at tells')) in
        record {
          calls = there_as {Stands = Stands} {Other = IsBegun} (λ planned run stands. elim (begins planned run stands) [
            | inl is ↦ inl (ap (λ l. checkpoint_calls b snapshot ++ l) is)
            | inr is ↦ inr (stops_behind failed_on (checkpoint_calls b snapshot) planned run is)
          ]) c;
          told = m.told;
          settled = m.settled;
          one_more = λ is.
              let more = c.one_more tells' (append_same (checkpoint_calls b snapshot) c.run (change_calls (active_of mid) c.places puts c.gate c.payload)
              (is ∙ whole_is c.places c.gate c.payload)) in
              subst (λ d. HasOneMore (before_record b snapshot (history_of old)) (history_of now (journal_of d))) (sym (there b due))
              (subst (λ d. HasOneMore (before_record b snapshot (history_of old)) (history_of now (journal_of d))) turned
              (subst (λ h. HasOneMore h (history_of now (journal_of (active_of mid)))) mid_record more));
        }
      where
        append_same : (xs ys zs : List HostCall) → xs ++ ys ≡ xs ++ zs → ys ≡ zs
        append_same [] ys zs is = is
        append_same (x ∷ xs) ys zs is = append_same xs ys zs (ap (λ (l : List HostCall). elim l [ [] ↦ [] | y ∷ l' ↦ l' ]) is)

    there_past : (fails : Which → ℕ → Bool) → IsTurned b fails (history_of old) → IsPast b fails (history_of old)
    there_past fails past = record { other = λ _. past.other; root = λ _. past.root }

    -- the spool made no call
    spool_moment : moment (history_of mid Spool) ≡ moment (history_of old Spool)
    spool_moment = omega (
      arith,
      ap moment (checkpoint_run Spool),
      length-append ((history_of old Spool).calls) (part Spool (checkpoint_calls b snapshot)),
      ap length (part_append Spool (on (other_of b) (front_calls (snapshot_front snapshot))) (on Root (begin_calls (byte_of (not b.second) ∷ [])))),
      ap length (part_apart Spool (other_of b) (front_calls (snapshot_front snapshot)) (spool_apart (not b.second))),
    )

    -- the journal that the record goes to made two
    journal_moment : moment (history_of mid (journal_of (active_of mid))) ≡ record_moment b (history_of old)
    journal_moment = ap (λ c. moment (history_of mid (journal_of c))) turned ∙ omega (
      arith,
      ap moment (checkpoint_run (other_of b)),
      length-append ((history_of old (other_of b)).calls) (part (other_of b) (checkpoint_calls b snapshot)),
      ap length (part_append (other_of b) (on (other_of b) (front_calls (snapshot_front snapshot))) (on Root (begin_calls (byte_of (not b.second) ∷ [])))),
      length-append
          (part (other_of b) (on (other_of b) (front_calls (snapshot_front snapshot))))
          (part (other_of b) (on Root (begin_calls (byte_of (not b.second) ∷ [])))),
      ap length (part_own (other_of b) (front_calls (snapshot_front snapshot))),
      ap length (part_apart (other_of b) Root (begin_calls (byte_of (not b.second) ∷ [])) (root_is_no_journal (not b.second))),
      there_moment b due (history_of old),
    )

    -- the root made the two of a checkpoint
    mid_root : history_of mid Root ≡ extended (history_of old Root) (root_calls b)
    mid_root = checkpoint_run Root ∙ ap (extended (history_of old Root))
        (part_append Root (on (other_of b) (front_calls (snapshot_front snapshot))) (on Root (begin_calls (byte_of (not b.second) ∷ [])))
        ∙ (λ j. part_apart Root (other_of b) (front_calls (snapshot_front snapshot)) (root_apart (not b.second)) j
        ++ part_own Root (begin_calls (byte_of (not b.second) ∷ [])) j)
        ∙ sym (ap (λ (d : Bool). if d then begin_calls (byte_of (not b.second) ∷ []) else []) due))

    turned_ready : active_of mid ≡ ready b
    turned_ready = turned ∙ sym (there b due)

    pub there_kept : (fails : Which → ℕ → Bool) → IsTurned b fails (history_of old)
        → Changing (λ planned run. run ≡ planned) mid now puts host later
        → AreClear (fails Spool) (moment (history_of mid Spool)) (spool_calls puts)
        → AreClear (fails (journal_of (active_of mid))) (moment (history_of mid (journal_of (active_of mid)))) 4
        → IsKept b fails puts (history_of old) (history_of now)
    there_kept fails past c spool journal = record {
      calls = there_by (λ planned run is. ap (λ l. checkpoint_calls b snapshot ++ l) is) c;
      past = there_past fails past;
      spool = subst (λ m. AreClear (fails Spool) m (spool_calls puts)) spool_moment spool;
      journal = subst (λ d. AreClear (fails (journal_of d)) (record_moment b (history_of old)) 4) turned_ready
          (subst (λ m. AreClear (fails (journal_of (active_of mid))) m 4) journal_moment journal);
    }

    pub there_cut : (fails : Which → ℕ → Bool) (before : Plain) → IsTurned b fails (history_of old) → (which : Which)
        → IsChangeCut (active_of mid) fails puts (history_of mid) (history_of now) before later which
        → IsCutAt b fails puts (history_of old) (history_of now) before later which
    there_cut fails before past which (inl cut) = subst (IsCutAt b fails puts (history_of old) (history_of now) before later) (sym cut.0) (record {
      past = there_past fails past;
      at = cut.1.at;
      failed = subst (λ m. FailsFirst (fails Spool) m (spool_calls puts) cut.1.at) spool_moment cut.1.failed;
      root = cut.1.root ∙ mid_root;
      told = subst (LeavesHost (history_of now) before) turned_ready cut.1.told;
    })
    there_cut fails before past which (inr cut) =
        subst (IsCutAt b fails puts (history_of old) (history_of now) before later) (sym cut.0) (by (active_of mid).second refl
        (inr (
          sym (ap (λ (d : Active). d.second) turned_ready),
          record {
            past = there_past fails past;
            spool = subst (λ m. AreClear (fails Spool) m (spool_calls puts)) spool_moment cut.1.spool;
            at = cut.1.at;
            failed = subst (λ d. FailsFirst (fails (journal_of d)) (record_moment b (history_of old)) 4 cut.1.at) turned_ready
                (subst (λ m. FailsFirst (fails (journal_of (active_of mid))) m 4 cut.1.at) journal_moment cut.1.failed);
            root = cut.1.root ∙ mid_root;
            told = λ few. subst (LeavesHost (history_of now) before) turned_ready (cut.1.told few);
            gate = λ late. subst (λ d. IsAtHostGate d (history_of now) before later) turned_ready (cut.1.gate late);
          },
        )))
      where
        by : (s : Bool) → (active_of mid).second ≡ s → IsCutOn b fails puts (history_of old) (history_of now) before later (active_of mid).second
            → IsCutAt b fails puts (history_of old) (history_of now) before later (journal_on (active_of mid).second)
        by true is cut = subst (λ s. IsCutAt b fails puts (history_of old) (history_of now) before later (journal_on s)) (sym is)
            (subst (IsCutOn b fails puts (history_of old) (history_of now) before later) is cut)
        by false is cut = subst (λ s. IsCutAt b fails puts (history_of old) (history_of now) before later (journal_on s)) (sym is)
            (subst (IsCutOn b fails puts (history_of old) (history_of now) before later) is cut)

-- The same of a change whose record spells it.

-- where no checkpoint is due
here_spells : (a : Active) (old now : Which → History) (c : Change (List ℕ)) → is_due a.is_old a.records ≡ false → SpellsBy (change_calls a) c old now
    → Spells a c old now
here_spells a old now c not_due s = (
  [],
  record {
    places = s.places;
    gate = s.gate;
    many = s.many;
    made = subst (Runs old now) (sym (here_calls a not_due [] s.places (stored_parts c) s.gate (spelling_at s.places c))) s.made;
  },
)

-- behind a checkpoint
there_spells : (a b : Active) (old mid now : Which → History) (c : Change (List ℕ)) (snapshot : List ℕ) → is_due a.is_old a.records ≡ true
    → b ≡ turned_to a → Runs old mid (checkpoint_calls a snapshot) → SpellsBy (change_calls b) c mid now → Spells a c old now
there_spells a b old mid now c snapshot due turned first s = (
  snapshot,
  record {
    places = s.places;
    gate = s.gate;
    many = s.many;
    made = subst (Runs old now)
        (sym (there_calls a due snapshot s.places (stored_parts c) s.gate (spelling_at s.places c)
        ∙ ap (λ (d : Active). checkpoint_calls a snapshot ++ change_calls d s.places (stored_parts c) s.gate (spelling_at s.places c)) (sym turned)))
        (runs_both old mid now (checkpoint_calls a snapshot) (change_calls b s.places (stored_parts c) s.gate (spelling_at s.places c)) first s.made);
  },
)

module _ {D : Type 0} {g : disk.Ghosts D} {E : Type 0} (r : Result (Unit {0}) E) (old now : Store D g) (c : Change (List ℕ)) where
  pub here_spelled : is_due (active_of old).is_old (active_of old).records ≡ false
      → OnOk r (SpellsBy (change_calls (active_of old)) c (history_of old) (history_of now))
      → OnOk r (Spells (active_of old) c (history_of old) (history_of now))
  here_spelled not_due = on_ok_weaker r (here_spells (active_of old) (history_of old) (history_of now) c not_due)

  pub there_spelled : (mid : Store D g) (host : Host) (snapshot : List ℕ) → is_due (active_of old).is_old (active_of old).records ≡ true
      → active_of mid ≡ turned_to (active_of old) → Turning (λ planned run. run ≡ planned) old mid snapshot host
      → OnOk r (SpellsBy (change_calls (active_of mid)) c (history_of mid) (history_of now))
      → OnOk r (Spells (active_of old) c (history_of old) (history_of now))
  there_spelled mid host snapshot due turned t = on_ok_weaker r
      (there_spells (active_of old) (active_of mid) (history_of old) (history_of mid) (history_of now) c snapshot due turned
      (subst (Runs (history_of old) (history_of mid)) t.stands t.made))
