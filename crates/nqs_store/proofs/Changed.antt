-- How the calls of a change end, from what they did.
use Rattle.std.proofs.Common.{◌≡◌, ◌≢◌, ◌⊎◌, inl, inr, ℕ, ◌+◌, ◌≤◌, Bool, not, IsTrue, List, [], ◌∷◌, ◌++◌, length, refl, sym, ap}
use Rattle.std.proofs.Common.{subst, ◌∙◌, arith, length-append, map, Some}
use Rattle.std.proofs.Math.Seq.{take-length}
use Rattle.std.specs.declared.result.Result.{Result}
use Rattle.std.specs.declared.result.Result.TheVariants as result
use Rattle.nqs_state.specs.State.{Plain}
use Rattle.nqs_store.specs.declared.fault.StoreFault.{StoreFault}
use Rattle.nqs_store.specs.declared.fault.StoreFault.TheVariants as store
use Rattle.nqs_types.specs.declared.world.Which.{Which}
use Rattle.nqs_types.specs.declared.world.Which.TheVariants.{Root, First, Second, Spool}
use Rattle.nqs_types.specs.declared.change.Change.{Change}
use Rattle.nqs_base.specs.declared.extent.Extent.{Extent}
use Rattle.nqs_outside.specs.History.{Call, History, fresh, content, extended, state, moment, after, state_at, IsImage, MayLeave, EachSince, StopsShort}
use Rattle.nqs_outside.specs.History.{IsExact, IsQuiet}
use Rattle.nqs_outside.specs.declared.disk.Disk as disk
use Rattle.nqs_spool.specs.Spooled as spool
use Rattle.nqs_spool.specs.declared.spool.Spool.{Spool as SpoolOf}
use Rattle.nqs_journal.specs.Text.{StandsAfter}
use Rattle.nqs_journal.specs.Either.{StandsBy, front_of, version_of}
use Rattle.nqs_journal.specs.Open as journal
use Rattle.nqs_journal.specs.Plan.{append_calls}
use Rattle.nqs_journal.specs.Gate.{IsAtGate}
use Rattle.nqs_rules.specs.Applied.{applied}
use Rattle.nqs_rules.specs.Filled.{filled}
use Rattle.nqs_rules.specs.Journals.{is_second, journal_on}
use Rattle.nqs_rules.specs.World.{spool_calls}
use Rattle.nqs_records.specs.Changes.{spelling}
use Rattle.nqs_records.specs.Extents.{with_extents}
use Rattle.nqs_store.specs.Told.{Host, told_by}
use Rattle.nqs_store.specs.Live.{live}
use Rattle.nqs_store.specs.Active.{Active, IsActive, recorded}
use Rattle.nqs_store.specs.Hosts.{failed_on, on, part, Runs, StopsShort as HostStops}
use Rattle.nqs_store.specs.Plan.{puts_calls, change_calls}
use Rattle.nqs_store.specs.Spells.{SpellsBy, spelling_at}
use Rattle.nqs_store.specs.Puts.{place_of}
use Rattle.nqs_store.specs.Putting.{ArePartlyPut, ArePutFor}
use Rattle.nqs_store.specs.Images.{IsTold, TellsOneOf}
use Rattle.nqs_store.specs.Moments.{Moments}
use Rattle.nqs_store.specs.Commits.{AreClear, FailsFirst, LeavesHost, AreImages}
use Rattle.nqs_store.specs.Changing.{Changing, CutSpool, CutRecord, IsChangeCut}
use Rattle.nqs_store.specs.Steps.{HasAppended, HasAppendedShort}
use Rattle.nqs_store.specs.Stores.{Tells, plain_of, history_of, fails_of, is_starved, active_of, journal_in, pick}
use Rattle.nqs_store.specs.declared.store.Store.{Store}
use Rattle.nqs_store.proofs.TellsNow.{only_image, active_image}
use Rattle.nqs_store.proofs.EachDisk.{each_of, with_disk, but_disk, journal_apart, stands_on, history_on}
use Rattle.nqs_store.proofs.Filled.{filled_bytes}
use Rattle.nqs_store.proofs.Spelling.{spelled_at}
use Rattle.nqs_store.proofs.Runs.{cut_short, never_short, stops_behind}
use Rattle.nqs_store.proofs.HostRuns.{part_own, part_other, part_append, same_or, runs_on, runs_both, moments_both, moments_weaker, on_stops, last_stops}
use Rattle.nqs_store.proofs.Committed.{Keeps, IsPut, told_before, named_image, stands_image, append_moments, put_moments}

pub spool_rest : (old now : Which → History) → now Root ≡ old Root → now First ≡ old First → now Second ≡ old Second → (w : Which) → w ≢ Spool
    → now w ≡ old w
spool_rest old now root first second Root other = root
spool_rest old now root first second First other = first
spool_rest old now root first second Second other = second
spool_rest old now root first second Spool other = absurd (other refl)

pub part_apart : (v w : Which) (calls : List Call) → v ≢ w → part v (on w calls) ≡ []
part_apart v w calls other = elim (same_or v w) [ inl is ↦ absurd (other is) | inr apart ↦ part_other v w calls apart.1 ]

-- the journal's part of a change's calls
pub part_journal : (b : Bool) (xs ys : List Call) → part (journal_on b) (on Spool xs ++ on (journal_on b) ys) ≡ ys
part_journal b xs ys = part_append (journal_on b) (on Spool xs) (on (journal_on b) ys)
    ∙ (λ j. part_apart (journal_on b) Spool xs (journal_apart b) j ++ part_own (journal_on b) ys j)

-- the last moment's state is the state now
pub last_state : (h : History) → state_at h (moment h) ≡ state h
last_state h = ap (after (fresh h.start)) (take-length h.calls)

pub last_image : (h : History) (image : List ℕ) → IsImage (state h) image → MayLeave h (moment h) image
last_image h image is = subst (λ s. IsImage s image) (sym (last_state h)) is

module _ {D : Type 0} {g : disk.Ghosts D} (old now : Store D g) (puts : List (List ℕ)) (host : Host) (later : Plain) where
  abbrev o : Which → History
  o = history_of old

  abbrev n : Which → History
  n = history_of now

  abbrev x : Which
  x = journal_on old.on_second

  -- a call of the spool failed
  pub spool_failed : IsTrue g.tells → (put : ArePartlyPut puts (o Spool) (n Spool)) → ((w : Which) → w ≢ Spool → n w ≡ o w)
      → (Tells old host → EachSince (moment (o Spool)) (n Spool) (λ image. Keeps host (content (o Spool)) image))
      → Changing HostStops old now puts host later
  spool_failed told put rest kept = record {
    places = put.places;
    gate = 0;
    payload = [];
    run = on Spool put.calls;
    many = put.many;
    stands = on_stops Spool (puts_calls put.places puts) put.calls (on x (append_calls 0 [])) put.short;
    made = runs_on o n Spool put.calls put.made rest;
    at = λ is_told. moments_weaker o (on Spool put.calls) _ _ (λ images is. inl is)
        (put_moments told old host is_told (n Spool) put.calls put.made (kept is_told));
    one_more = λ is_told same. absurd (none (ap (λ r. length (part x r)) same));
  }
    where
      none : length (part x (on Spool put.calls)) ≡ length (part x (change_calls (active_of old) put.places puts 0 [])) → ⊥
      none same = omega (
        arith,
        same,
        ap length (part_apart x Spool put.calls (journal_apart old.on_second)),
        ap length (part_journal old.on_second (puts_calls put.places puts) (append_calls 0 [])),
      )

  module _ (yes : IsTrue g.tells) (change next : Change Extent) (text : List ℕ) (mid : SpoolOf D g)
      (done : ArePutFor change next puts text old.spool mid)
      (is_put : Tells old host → IsPut old host change next puts text mid) (many : length (map place_of done.are_put.added) ≡ length puts)
      (root : n Root ≡ o Root) (resting : pick (not old.on_second) now.first now.second ≡ pick (not old.on_second) old.first old.second)
      (spooled : n Spool ≡ spool.history_of mid) where
    abbrev w : Which → History
    w = with_disk Spool (spool.history_of mid) o

    abbrev places : List ℕ
    places = map place_of done.are_put.added

    pub journal_same : o x ≡ journal.history_of (journal_in old.on_second old)
    journal_same = history_on old.on_second old

    journal_now : n x ≡ journal.history_of (journal_in old.on_second now)
    journal_now = history_on old.on_second now

    with_journal : w x ≡ journal.history_of (journal_in old.on_second old)
    with_journal = but_disk Spool (spool.history_of mid) o x (journal_apart old.on_second) ∙ journal_same

    puts_run : Runs o w (on Spool (puts_calls places puts))
    puts_run = runs_on o w Spool (puts_calls places puts) (done.are_put.made yes) (λ v other. but_disk Spool (spool.history_of mid) o v other)

    did_journal : (calls : List Call) → journal.history_of (journal_in old.on_second now) ≡ extended (journal.history_of (journal_in old.on_second old)) calls
        → n x ≡ extended (w x) calls
    did_journal calls did = journal_now ∙ did ∙ ap (λ h. extended h calls) (sym with_journal)

    journal_run : (calls : List Call) → journal.history_of (journal_in old.on_second now) ≡ extended (journal.history_of (journal_in old.on_second old)) calls
        → Runs w n (on x calls)
    journal_run calls did = runs_on w n x calls (did_journal calls did)
        (each_of old.on_second (λ v. v ≢ x → n v ≡ w v) (λ other. root) (λ other. absurd (other refl))
        (λ other. history_on (not old.on_second) now ∙ ap journal.history_of resting ∙ sym (history_on (not old.on_second) old)
        ∙ sym (but_disk Spool (spool.history_of mid) o (journal_on (not old.on_second)) (journal_apart (not old.on_second))))
        (λ other. spooled))

    all_moments : (calls : List Call) → journal.history_of (journal_in old.on_second now) ≡ extended (journal.history_of (journal_in old.on_second old)) calls
        → later ≡ applied (filled change puts) (plain_of old host)
        → ((front : List ℕ) (payloads : List (List ℕ)) → journal.Tells (journal_in old.on_second old) front payloads
        → EachSince (moment (journal.history_of (journal_in old.on_second old))) (journal.history_of (journal_in old.on_second now))
        (journal.BeforeOrAfter front payloads text))
        → Tells old host → Moments o (on Spool (puts_calls places puts) ++ on x calls) (TellsOneOf (plain_of old host) later)
    all_moments calls did is any is_told =
        subst (λ p. Moments o (on Spool (puts_calls places puts) ++ on x calls) (TellsOneOf (plain_of old host) p)) (sym is)
        (moments_both o w (on Spool (puts_calls places puts)) (on x calls) _ puts_run
        (moments_weaker o (on Spool (puts_calls places puts)) _ _ (λ images one. inl one)
        (put_moments yes old host is_told (spool.history_of mid) (puts_calls places puts) (done.are_put.made yes) (is_put is_told).kept))
        (append_moments yes old host is_told (is_put is_told) (n x) calls (did_journal calls did)
        (subst (λ h. EachSince (moment h) (n x) (journal.BeforeOrAfter (front_of is_told.form is_told.snapshot) is_told.payloads text)) (sym journal_same)
        (subst (λ h. EachSince (moment (journal.history_of (journal_in old.on_second old))) h
        (journal.BeforeOrAfter (front_of is_told.form is_told.snapshot) is_told.payloads text)) (sym journal_now)
        (any (front_of is_told.form is_told.snapshot) is_told.payloads is_told.journal)))))

    -- a call of the journal failed
    pub journal_failed : later ≡ applied (filled change puts) (plain_of old host)
        → HasAppendedShort (journal_in old.on_second old) (journal_in old.on_second now) text → Changing HostStops old now puts host later
    journal_failed is short =
        let broken = short.broken yes in
        record {
          places = places;
          gate = journal.gate_of (journal_in old.on_second old);
          payload = text;
          run = on Spool (puts_calls places puts) ++ on x broken.0;
          many = many;
          stands = stops_behind failed_on (on Spool (puts_calls places puts)) (on x (append_calls (journal.gate_of (journal_in old.on_second old)) text))
              (on x broken.0) (last_stops x (append_calls (journal.gate_of (journal_in old.on_second old)) text) broken.0 broken.2);
          made = runs_both o w n (on Spool (puts_calls places puts)) (on x broken.0) puts_run (journal_run broken.0 broken.1);
          at = all_moments broken.0 broken.1 is (short.any_moment yes);
          one_more = λ is_told same. absurd (none broken.0 broken.2 (ap (part x) same));
        }
      where
        none : (calls : List Call) → StopsShort (append_calls (journal.gate_of (journal_in old.on_second old)) text) calls
            → part x (on Spool (puts_calls places puts) ++ on x calls)
            ≡ part x (change_calls (active_of old) places puts (journal.gate_of (journal_in old.on_second old)) text) → ⊥
        none calls cut same =
            let plan = append_calls (journal.gate_of (journal_in old.on_second old)) text in
            let is = sym (part_journal old.on_second (puts_calls places puts) calls) ∙ same ∙ part_journal old.on_second (puts_calls places puts) plan in
            never_short plan plan refl (refl, (refl, (refl, (refl, tt)))) (subst (StopsShort plan) is cut)

    -- all was done
    pub all_done : later ≡ applied (filled change puts) (plain_of old host)
        → HasAppended (journal_in old.on_second old) (journal_in old.on_second now) text → Changing (λ planned run. run ≡ planned) old now puts host later
    all_done is whole =
        let plan = append_calls (journal.gate_of (journal_in old.on_second old)) text in
        record {
          places = places;
          gate = journal.gate_of (journal_in old.on_second old);
          payload = text;
          run = on Spool (puts_calls places puts) ++ on x plan;
          many = many;
          stands = refl;
          made = runs_both o w n (on Spool (puts_calls places puts)) (on x plan) puts_run (journal_run plan (whole.made yes));
          at = all_moments plan (whole.made yes) is (whole.any_moment yes);
          one_more = λ is_told same.
              let opened = whole.acknowledged yes (front_of is_told.form is_told.snapshot) is_told.payloads is_told.journal in
              record {
                form = is_told.form;
                snapshot = is_told.snapshot;
                payloads = is_told.payloads;
                payload = text;
                before = λ image leaves. stands_image yes old host is_told image leaves;
                after = λ image leaves. (
                  is_told.is,
                  subst (λ b. StandsAfter (front_of is_told.form is_told.snapshot) b (is_told.payloads ++ text ∷ []))
                      (only_image (journal.history_of (journal_in old.on_second now)) image opened.quiet
                      (subst (λ h. IsImage (state h) image) journal_now leaves))
                      opened.stands,
                );
              };
        }

    -- and the record spells the change
    pub all_spelled : HasAppended (journal_in old.on_second old) (journal_in old.on_second now) text → Tells old host
        → SpellsBy (change_calls (active_of old)) (filled change puts) o n
    all_spelled whole is_told =
        let gate = journal.gate_of (journal_in old.on_second old) in
        let plan = append_calls gate text in
        let run = runs_both o w n (on Spool (puts_calls places puts)) (on x plan) puts_run (journal_run plan (whole.made yes)) in
        let stored = filled_bytes change puts (is_put is_told).many in
        let spells : text ≡ spelling_at places (filled change puts) =
        done.spelled ∙ ap spelling (done.change ∙ ap (with_extents change) done.are_put.is)
        ∙ spelled_at change puts (content (spool.history_of mid)) done.are_put.added (is_put is_told).many
        (done.are_put.held yes (live host) is_told.spool) in
        record {
          places = places;
          gate = gate;
          many = many ∙ ap length (sym stored);
          made = subst (Runs o n) (λ j. change_calls (active_of old) places (sym stored j) gate (spells j)) run;
        }

  module _ (yes : IsTrue g.tells) (is_told : Tells old host) (root : n Root ≡ o Root) where
    abbrev a : Active
    a = active_of old

    -- the root still names the journal
    named_still : (image : List ℕ) → IsImage (state (n Root)) image → is_second image ≡ old.on_second
    named_still image leaves = named_image yes old host is_told image (subst (λ h. IsImage (state h) image) root leaves)

    module _ (kept : EachSince (moment (o Spool)) (n Spool) (λ image. Keeps host (content (o Spool)) image)) (grown : moment (o Spool) ≤ moment (n Spool)) where
      keeps_now : (image : List ℕ) → IsImage (state (n Spool)) image → Keeps host (content (o Spool)) image
      keeps_now image leaves = kept (moment (n Spool)) image grown (omega arith) (last_image (n Spool) image leaves)

      before_both : (images : Which → List ℕ) → is_second (images Root) ≡ old.on_second → StandsBy (images x) is_told.form is_told.snapshot is_told.payloads
          → IsImage (state (n Spool)) (images Spool) → IsTold images (plain_of old host) × IsActive images a
      before_both images named stands leaves =
          (told_before yes old host is_told images named stands (keeps_now (images Spool) leaves), active_image old host is_told images named stands)

      told_still : ((image : List ℕ) → IsImage (state (n x)) image → StandsBy image is_told.form is_told.snapshot is_told.payloads)
          → LeavesHost n (plain_of old host) a
      told_still stands = λ images leaves. before_both images (named_still (images Root) (leaves Root)) (stands (images x) (leaves x)) (leaves Spool)

      -- a call of the spool failed
      pub cut_spool : (starved : Bool) → n x ≡ o x
          → IsTrue starved ⊎ (i : ℕ) × FailsFirst (fails_of old Spool) (moment (o Spool)) (spool_calls puts) i
          → IsTrue starved ⊎ CutSpool a (fails_of old) puts o n (plain_of old host) later
      cut_spool starved same (inl is) = inl is
      cut_spool starved same (inr at) = inr (record {
        at = at.0;
        failed = at.1;
        root = root;
        told = told_still (λ image leaves. stands_image yes old host is_told image (subst (λ h. IsImage (state h) image) same leaves));
      })

      abbrev n' : History
      n' = journal.history_of (journal_in old.on_second now)

      abbrev o' : History
      o' = journal.history_of (journal_in old.on_second old)

      -- a call of the journal failed
      pub cut_record : (text : List ℕ) → AreClear (fails_of old Spool) (moment (o Spool)) (spool_calls puts)
          → HasAppendedShort (journal_in old.on_second old) (journal_in old.on_second now) text
          → ((images : Which → List ℕ) → is_second (images Root) ≡ old.on_second
          → StandsBy (images x) is_told.form is_told.snapshot (is_told.payloads ++ text ∷ []) → IsImage (state (n Spool)) (images Spool)
          → IsTold images later)
          → IsTrue (is_starved now x) ⊎ CutRecord a (fails_of old) puts o n (plain_of old host) later
      cut_record text clear short told_later =
          let gate = journal.gate_of (journal_in old.on_second old) in
          let front = front_of is_told.form is_told.snapshot in
          let broken = short.broken yes in
          elim (cut_short (fails_of old x) (is_starved old x) (is_starved now x) (o x) (n x) (append_calls gate text) broken.0
          (refl, (refl, (refl, (refl, tt)))) (made broken.0 broken.1) broken.2 exact) [
            | inl is ↦ inl is
            | inr cut ↦ inr (record {
              at = cut.at;
              spool = clear;
              failed = cut.first;
              root = root;
              told = λ few. told_still (λ image leaves. (
                is_told.is,
                short.until_third yes front is_told.payloads is_told.journal
                    (moment n') image (omega (arith, size broken.0 broken.1)) (omega (arith, size broken.0 broken.1, cut.size, few)) (omega arith)
                    (last_image n' image (subst (λ h. IsImage (state h) image) journal_now' leaves)),
              ));
              gate = λ late. record {
                gate = gate;
                decides = decided gate (subst (λ u. IsAtGate u gate (λ image. StandsAfter front image is_told.payloads)
                    (λ image. StandsAfter front image (is_told.payloads ++ text ∷ []))) (last_state n' ∙ ap state (sym journal_now'))
                    (short.at_the_gate yes front is_told.payloads is_told.journal (moment n')
                    (omega (arith, size broken.0 broken.1, cut.size, late)) (omega arith)));
              };
            })
          ]
        where
          journal_now' : n x ≡ n'
          journal_now' = history_on old.on_second now

          made : (calls : List Call) → n' ≡ extended o' calls → n x ≡ extended (o x) calls
          made calls did = journal_now' ∙ did ∙ ap (λ h. extended h calls) (sym (history_on old.on_second old))

          exact : IsExact (fails_of old x) (is_starved old x) (is_starved now x) (o x) (n x)
              (append_calls (journal.gate_of (journal_in old.on_second old)) text)
          exact =
              let nd = journal.disk_of (journal_in old.on_second now) in
              let plan = append_calls (journal.gate_of (journal_in old.on_second old)) text in
              subst (λ d. IsExact (fails_of old x) (is_starved old x) (g.starved d) (o x) (g.history d) plan) (sym (stands_on old.on_second now))
              (subst (λ d. IsExact (g.fails d) (g.starved d) (g.starved nd) (g.history d) (g.history nd) plan) (sym (stands_on old.on_second old))
              (short.exact yes))

          size : (calls : List Call) → n' ≡ extended o' calls → moment n' ≡ moment o' + length calls
          size calls did = ap moment did ∙ length-append (o'.calls) calls

          decided : (gate : ℕ) → IsAtGate (state (n x)) gate (λ image. StandsAfter (front_of is_told.form is_told.snapshot) image is_told.payloads)
              (λ image. StandsAfter (front_of is_told.form is_told.snapshot) image (is_told.payloads ++ text ∷ []))
              → IsAtGate (state (n x)) gate
              (λ image. (images : Which → List ℕ) → AreImages n images x image → IsTold images (plain_of old host) × IsActive images a)
              (λ image. (images : Which → List ℕ) → AreImages n images x image → IsTold images later × IsActive images (recorded a))
          decided gate at = record {
            pending = at.pending;
            within = at.within;
            same_length = at.same_length;
            shut = at.shut;
            wide = at.wide;
            if_shut = λ image leaves byte images are. before_both images (named_still (images Root) (are.0 Root))
                (subst (λ b. StandsBy b is_told.form is_told.snapshot is_told.payloads) (sym are.1) (is_told.is, at.if_shut image leaves byte))
                (are.0 Spool);
            if_wide = λ image leaves byte images are.
                let named = named_still (images Root) (are.0 Root) in
                let stands = subst (λ b. StandsBy b is_told.form is_told.snapshot (is_told.payloads ++ text ∷ [])) (sym are.1)
                (is_told.is, at.if_wide image leaves byte) in (
                  told_later images named stands (are.0 Spool),
                  record {
                    named = named;
                    form = is_told.form;
                    snapshot = is_told.snapshot;
                    payloads = is_told.payloads ++ text ∷ [];
                    stands = stands;
                    many = length-append is_told.payloads (text ∷ []) ∙ ap (λ m. m + 1) is_told.many;
                    old = is_told.old;
                  },
                );
          }

-- which disk an answer names
pub same_which : (k which : Which) → ◌≡◌ {A = Result (Unit {0}) StoreFault} (result.Err (store.Disk k)) (result.Err (store.Disk which)) → k ≡ which
same_which k which is = cc

module _ {D : Type 0} {g : disk.Ghosts D} (old now : Store D g) (puts : List (List ℕ)) (before later : Plain) where
  pub spool_at : (which : Which) → Spool ≡ which
      → IsTrue (is_starved now Spool) ⊎ CutSpool (active_of old) (fails_of old) puts (history_of old) (history_of now) before later
      → IsTrue (is_starved now which) ⊎ IsChangeCut (active_of old) (fails_of old) puts (history_of old) (history_of now) before later which
  spool_at which is cut =
      subst (λ w. IsTrue (is_starved now w) ⊎ IsChangeCut (active_of old) (fails_of old) puts (history_of old) (history_of now) before later w) is
      (elim cut [ inl starves ↦ inl starves | inr fell ↦ inr (inl (refl, fell)) ])

  pub record_at : (which : Which) → journal_on old.on_second ≡ which
      → IsTrue (is_starved now (journal_on old.on_second)) ⊎ CutRecord (active_of old) (fails_of old) puts (history_of old) (history_of now) before later
      → IsTrue (is_starved now which) ⊎ IsChangeCut (active_of old) (fails_of old) puts (history_of old) (history_of now) before later which
  record_at which is cut =
      subst (λ w. IsTrue (is_starved now w) ⊎ IsChangeCut (active_of old) (fails_of old) puts (history_of old) (history_of now) before later w) is
      (elim cut [ inl starves ↦ inl starves | inr fell ↦ inr (inr (refl, fell)) ])

module _ {D : Type 0} {g : disk.Ghosts D} (old now : Store D g) where
  -- at the end the store tells the host after the change
  pub tells_later : (host next : Host) (tells : Tells old host) (text : List ℕ) → now.on_second ≡ old.on_second
      → pick (not old.on_second) now.first now.second ≡ pick (not old.on_second) old.first old.second → now.root ≡ old.root
      → journal.Tells (journal_in old.on_second now) (front_of tells.form tells.snapshot) (tells.payloads ++ text ∷ [])
      → journal.count_of (journal_in old.on_second now) ≡ journal.count_of (journal_in old.on_second old) + 1
      → journal.is_old (journal_in old.on_second now) ≡ journal.is_old (journal_in old.on_second old)
      → told_by (version_of tells.form) tells.snapshot (tells.payloads ++ text ∷ []) ≡ Some next → spool.Tells now.spool (live next) → Tells now next
  tells_later host next tells text on resting root told counted stays records spooled = record {
    form = tells.form;
    snapshot = tells.snapshot;
    payloads = tells.payloads ++ text ∷ [];
    is = tells.is;
    journal = subst (λ b. journal.Tells (journal_in b now) (front_of tells.form tells.snapshot) (tells.payloads ++ text ∷ [])) (sym on) told;
    many = length-append tells.payloads (text ∷ []) ∙ ap (λ m. m + 1) tells.many ∙ sym counted ∙ ap (λ b. journal.count_of (journal_in b now)) (sym on);
    old = ap (λ b. journal.is_old (journal_in b now)) on ∙ stays ∙ tells.old;
    records = records;
    named = ap (λ d. is_second (content (g.history d))) root ∙ tells.named ∙ sym on;
    root = subst (λ d. IsQuiet (g.history d)) (sym root) tells.root;
    rest = subst (λ b. IsQuiet (history_of now (journal_on (not b)))) (sym on) (subst IsQuiet (sym (history_on (not old.on_second) now
        ∙ ap journal.history_of resting ∙ sym (history_on (not old.on_second) old))) tells.rest);
    spool = spooled;
  }

  pub journal_clear : {n : ℕ} → AreClear (g.fails (journal.disk_of (journal_in old.on_second old)))
      (moment (journal.history_of (journal_in old.on_second old))) n
      → AreClear (fails_of old (journal_on old.on_second)) (moment (history_of old (journal_on old.on_second))) n
  journal_clear {n} clear = subst (λ d. AreClear (g.fails d) (moment (g.history d)) n) (sym (stands_on old.on_second old)) clear

-- none of the record's calls was to fail
pub record_clear : {D : Type 0} {g : disk.Ghosts D} (old : Store D g)
    → AreClear (g.fails (journal.disk_of (journal_in old.on_second old))) (moment (journal.history_of (journal_in old.on_second old))) 4
    → AreClear (fails_of old (journal_on old.on_second)) (moment (history_of old (journal_on old.on_second))) 4
record_clear {D} {g} old clear = subst (λ d. AreClear (g.fails d) (moment (g.history d)) 4) (sym (stands_on old.on_second old)) clear
