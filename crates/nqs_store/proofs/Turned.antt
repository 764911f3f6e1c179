-- How a checkpoint ends, from what its calls did.
use Rattle.std.proofs.Common.{◌≡◌, ◌≢◌, ◌⊎◌, inl, inr, ℕ, Bool, true, false, not, IsTrue, List, [], ◌∷◌, ◌++◌, Ok, refl, sym, ap, subst, ◌∙◌}
use Rattle.std.proofs.Common.{arith}
use Rattle.nqs_state.specs.State.{Plain}
use Rattle.nqs_types.specs.declared.world.Which.{Which}
use Rattle.nqs_types.specs.declared.world.Which.TheVariants.{Root, Spool}
use Rattle.nqs_outside.specs.History.{Call, State, History, IsQuiet, content, extended, state, moment, IsImage, IsExact, StopsShort}
use Rattle.nqs_outside.specs.declared.disk.Disk as disk
use Rattle.nqs_journal.specs.Open as journal
use Rattle.nqs_journal.specs.Opened.{IsOpen}
use Rattle.nqs_journal.specs.Text.{snapshot_front}
use Rattle.nqs_journal.specs.Plan.{begin_calls, front_calls}
use Rattle.nqs_rules.specs.Journals.{journal_on, byte_of, behind_byte}
use Rattle.nqs_spool.specs.Spooled as spool
use Rattle.nqs_snapshot.specs.Reading.{snapshot_of}
use Rattle.nqs_store.specs.Told.{Host, told_behind}
use Rattle.nqs_store.specs.Live.{live}
use Rattle.nqs_store.specs.Hosts.{failed_on, on, Runs, StopsShort as HostStops}
use Rattle.nqs_store.specs.Images.{IsTold}
use Rattle.nqs_store.specs.Moments.{Moments}
use Rattle.nqs_store.specs.Commits.{AreClear, IsCutAtOther, IsCutAtRoot}
use Rattle.nqs_store.specs.Changing.{Turning, IsTurnCut}
use Rattle.nqs_store.specs.Steps.{IsTextOf, HasBegun, HasBegunShort}
use Rattle.nqs_store.specs.Stores.{Tells, history_of, plain_of, active_of, fails_of, is_starved, journal_in, pick}
use Rattle.nqs_store.specs.declared.store.Store.{Store}
use Rattle.nqs_store.proofs.Runs.{cut_short, stops_behind}
use Rattle.nqs_store.proofs.HostRuns.{runs_on, runs_both, moments_both, on_stops, last_stops}
use Rattle.nqs_store.proofs.EachDisk.{each_of, with_disk, at_disk, but_disk, root_apart, spool_apart, journals_apart, stands_on, history_on}
use Rattle.nqs_store.proofs.TellsNow.{active_quiet}
use Rattle.nqs_store.proofs.Turning.{root_quiet, root_names, root_pending, quiet_told, either_told, snapshot_stands, root_moments, other_moments}

twice : (b : Bool) → not (not b) ≡ b
twice true = refl
twice false = refl

module _ {D : Type 0} {g : disk.Ghosts D} (old now : Store D g) (text snapshot : List ℕ) (host : Host) (is_text : IsTextOf text snapshot)
    (resting : pick old.on_second now.first now.second ≡ pick old.on_second old.first old.second) (same_spool : now.spool ≡ old.spool) where
  abbrev o : Which → History
  o = history_of old

  abbrev n : Which → History
  n = history_of now

  abbrev y : Which
  y = journal_on (not old.on_second)

  -- the calls of the other journal are those of a front
  front_is : begin_calls text ≡ front_calls (snapshot_front snapshot)
  front_is = ap begin_calls is_text.is

  active_same : n (journal_on old.on_second) ≡ o (journal_on old.on_second)
  active_same = history_on old.on_second now ∙ ap journal.history_of resting ∙ sym (history_on old.on_second old)

  spool_same : n Spool ≡ o Spool
  spool_same = ap spool.history_of same_spool

  other_did : (calls : List Call) → journal.history_of (journal_in (not old.on_second) now)
      ≡ extended (journal.history_of (journal_in (not old.on_second) old)) calls
      → n y ≡ extended (o y) calls
  other_did calls did = history_on (not old.on_second) now ∙ did ∙ ap (λ h. extended h calls) (sym (history_on (not old.on_second) old))

  -- a call of the other journal failed
  module _ (yes : IsTrue g.tells) (root : n Root ≡ o Root) (short : HasBegunShort (journal_in (not old.on_second) old)
      (journal_in (not old.on_second) now) text) where
    other_run : (calls : List Call) → n y ≡ extended (o y) calls → Runs o n (on y calls)
    other_run calls did = runs_on o n y calls did (each_of old.on_second (λ w. w ≢ y → n w ≡ o w) (λ other. root) (λ other. active_same)
        (λ other. absurd (other refl)) (λ other. spool_same))

    pub other_failed : Turning HostStops old now snapshot host
    other_failed =
        let broken = short.broken yes in
        let did = other_did broken.0 broken.1 in
        record {
          run = on y broken.0;
          stands = on_stops y (front_calls (snapshot_front snapshot)) broken.0 (on Root (begin_calls (byte_of (not old.on_second) ∷ [])))
              (subst (λ l. StopsShort l broken.0) front_is broken.2);
          made = other_run broken.0 did;
          at = λ reads tells. other_moments yes old host tells (n y) broken.0 did;
        }

    exact_other : IsExact (fails_of old y) (is_starved old y) (is_starved now y) (o y) (n y) (begin_calls text)
    exact_other =
        let nd = journal.disk_of (journal_in (not old.on_second) now) in
        subst (λ d. IsExact (fails_of old y) (is_starved old y) (g.starved d) (o y) (g.history d) (begin_calls text)) (sym (stands_on (not old.on_second) now))
        (subst (λ d. IsExact (g.fails d) (g.starved d) (g.starved nd) (g.history d) (g.history nd) (begin_calls text)) (sym (stands_on (not old.on_second) old))
        (short.exact yes))

    pub other_cut : Tells old host → IsTrue (is_starved now y) ⊎ IsCutAtOther (active_of old) (fails_of old) o n (plain_of old host)
    other_cut tells =
        let broken = short.broken yes in
        elim (cut_short (fails_of old y) (is_starved old y) (is_starved now y) (o y) (n y) (begin_calls text) broken.0 (refl, (refl, tt))
        (other_did broken.0 broken.1) broken.2 exact_other) [
          | inl is ↦ inl is
          | inr cut ↦ inr (record {
            at = cut.at;
            failed = cut.first;
            root = root;
            told = λ images leaves. quiet_told yes old host tells images (subst (λ h. IsImage (state h) (images Root)) root (leaves Root))
                (subst (λ h. IsImage (state h) (images (journal_on old.on_second))) active_same (leaves (journal_on old.on_second)))
                (subst (λ h. IsImage (state h) (images Spool)) spool_same (leaves Spool));
          })
        ]

  -- the other journal begins with the snapshot
  module _ (yes : IsTrue g.tells) (begun : HasBegun (journal_in (not old.on_second) old) (journal_in (not old.on_second) now) text) where
    other_made : n y ≡ extended (o y) (front_calls (snapshot_front snapshot))
    other_made = other_did (front_calls (snapshot_front snapshot)) (begun.made yes
        ∙ ap (extended (journal.history_of (journal_in (not old.on_second) old))) front_is)

    opened : IsOpen (n y) (snapshot_front snapshot) (journal.gate_of (journal_in (not old.on_second) now)) []
    opened =
        let is = begun.tells yes snapshot is_text.is in
        subst (λ h. IsOpen h (snapshot_front snapshot) (journal.gate_of (journal_in (not old.on_second) now)) []) (sym (history_on (not old.on_second) now)) is

    abbrev mid : Which → History
    mid = with_disk y (n y) o

    first_run : Runs o mid (on y (front_calls (snapshot_front snapshot)))
    first_run = runs_on o mid y (front_calls (snapshot_front snapshot)) (at_disk y (n y) o ∙ other_made) (λ w other. but_disk y (n y) o w other)

    root_did : (calls : List Call) → n Root ≡ extended (o Root) calls → n Root ≡ extended (mid Root) calls
    root_did calls did = did ∙ ap (λ h. extended h calls) (sym (but_disk y (n y) o Root (root_apart (not old.on_second))))

    root_run : (calls : List Call) → n Root ≡ extended (o Root) calls → Runs mid n (on Root calls)
    root_run calls did = runs_on mid n Root calls (root_did calls did) (each_of old.on_second (λ w. w ≢ Root → n w ≡ mid w) (λ other. absurd (other refl))
        (λ other. active_same ∙ sym (but_disk y (n y) o (journal_on old.on_second) (journals_apart old.on_second)))
        (λ other. sym (at_disk y (n y) o))
        (λ other. spool_same ∙ sym (but_disk y (n y) o Spool (spool_apart (not old.on_second)))))

    all_moments : (calls : List Call) → n Root ≡ extended (o Root) calls → snapshot_of snapshot ≡ Ok host → Tells old host
        → Moments o (on y (front_calls (snapshot_front snapshot)) ++ on Root calls) (λ images. IsTold images (plain_of old host))
    all_moments calls did reads tells = moments_both o mid (on y (front_calls (snapshot_front snapshot))) (on Root calls) _ first_run
        (other_moments yes old host tells (n y) (front_calls (snapshot_front snapshot)) other_made)
        (root_moments yes old host tells snapshot is_text.small reads (n y) _ opened (n Root) calls (root_did calls did))

    abbrev root_plan : List Call
    root_plan = begin_calls (byte_of (not old.on_second) ∷ [])

    -- a call of the root failed
    pub root_failed : (calls : List Call) → n Root ≡ extended (o Root) calls → StopsShort root_plan calls → Turning HostStops old now snapshot host
    root_failed calls did cut = record {
      run = on y (front_calls (snapshot_front snapshot)) ++ on Root calls;
      stands = stops_behind failed_on (on y (front_calls (snapshot_front snapshot))) (on Root root_plan) (on Root calls) (last_stops Root root_plan calls cut);
      made = runs_both o mid n (on y (front_calls (snapshot_front snapshot))) (on Root calls) first_run (root_run calls did);
      at = all_moments calls did;
    }

    pub other_clear : AreClear (g.fails (journal.disk_of (journal_in (not old.on_second) old)))
        (moment (journal.history_of (journal_in (not old.on_second) old))) 2 → AreClear (fails_of old y) (moment (o y)) 2
    other_clear clear = subst (λ d. AreClear (g.fails d) (moment (g.history d)) 2) (sym (stands_on (not old.on_second) old)) clear

    pub root_cut : (was starved : Bool) (calls : List Call) → n Root ≡ extended (o Root) calls → StopsShort root_plan calls
        → snapshot_of snapshot ≡ Ok host → Tells old host → IsExact (fails_of old Root) was starved (o Root) (n Root) root_plan
        → IsTrue starved ⊎ IsCutAtRoot (active_of old) (fails_of old) o n (plain_of old host)
    root_cut was starved calls did short reads tells exact =
        elim (cut_short (fails_of old Root) was starved (o Root) (n Root) root_plan calls (refl, (refl, tt)) did short exact) [
          | inl is ↦ inl is
          | inr cut ↦ inr (record {
            other = other_clear (begun.clear yes);
            at = cut.at;
            failed = cut.first;
            pending = root_pending (o Root) (n Root) (not old.on_second) calls tells.root did short (omega (arith, cut.size))
                ∙ ap (λ (b : Bool). let s : State = record {
                  synced = content (o Root);
                  content = byte_of (not b) ∷ behind_byte (content (o Root));
                  ranges = (0, 1) ∷ [];
                } in s) (sym tells.named);
            told = λ images leaves. either_told yes old host tells snapshot is_text.small reads images
                (subst (λ h. IsImage (state h) (images (journal_on old.on_second))) active_same (leaves (journal_on old.on_second)))
                (subst (λ h. IsImage (state h) (images Spool)) spool_same (leaves Spool))
                (snapshot_stands yes old host tells snapshot is_text.small reads (n y) _ opened (images y) (leaves y));
          })
        ]

    -- all was done
    module _ (named : n Root ≡ extended (o Root) root_plan) where
      pub all_turned : Turning (λ planned run. run ≡ planned) old now snapshot host
      all_turned = record {
        run = on y (front_calls (snapshot_front snapshot)) ++ on Root root_plan;
        stands = refl;
        made = runs_both o mid n (on y (front_calls (snapshot_front snapshot))) (on Root root_plan) first_run (root_run root_plan named);
        at = all_moments root_plan named;
      }

      pub turned_tells : now.on_second ≡ not old.on_second → snapshot_of snapshot ≡ Ok host → Tells old host → Tells now host
      turned_tells flipped reads tells = record {
        form = 2;
        snapshot = snapshot;
        payloads = [];
        is = is_text.small;
        journal = subst (λ b. journal.Tells (journal_in b now) (snapshot_front snapshot) []) (sym flipped) (begun.tells yes snapshot is_text.is);
        many = sym begun.counted ∙ ap (λ b. journal.count_of (journal_in b now)) (sym flipped);
        old = ap (λ b. journal.is_old (journal_in b now)) flipped ∙ begun.new;
        records = ap (λ r. told_behind r []) reads;
        named = root_names (o Root) (n Root) (not old.on_second) named ∙ sym flipped;
        root = root_quiet (o Root) (n Root) (not old.on_second) named;
        rest = subst (λ b. IsQuiet (n (journal_on b))) (sym (twice old.on_second) ∙ ap not (sym flipped))
            (subst IsQuiet (sym active_same) (active_quiet old host tells));
        spool = subst (λ s. spool.Tells s (live host)) (sym same_spool) tells.spool;
      }

module _ {D : Type 0} {g : disk.Ghosts D} (old now : Store D g) (before : Plain) where
  pub other_at : (which : Which) → journal_on (not old.on_second) ≡ which
      → IsTrue (is_starved now (journal_on (not old.on_second))) ⊎ IsCutAtOther (active_of old) (fails_of old) (history_of old) (history_of now) before
      → IsTrue (is_starved now which) ⊎ IsTurnCut (active_of old) (fails_of old) (history_of old) (history_of now) before which
  other_at which is cut =
      subst (λ w. IsTrue (is_starved now w) ⊎ IsTurnCut (active_of old) (fails_of old) (history_of old) (history_of now) before w) is
      (elim cut [ inl starves ↦ inl starves | inr fell ↦ inr (inl (refl, fell)) ])

  pub root_at : (which : Which) → Root ≡ which
      → IsTrue (is_starved now Root) ⊎ IsCutAtRoot (active_of old) (fails_of old) (history_of old) (history_of now) before
      → IsTrue (is_starved now which) ⊎ IsTurnCut (active_of old) (fails_of old) (history_of old) (history_of now) before which
  root_at which is cut =
      subst (λ w. IsTrue (is_starved now w) ⊎ IsTurnCut (active_of old) (fails_of old) (history_of old) (history_of now) before w) is
      (elim cut [ inl starves ↦ inl starves | inr fell ↦ inr (inr (refl, fell)) ])

-- none of the other journal's calls was to fail
pub turned_clear : {D : Type 0} {g : disk.Ghosts D} (old : Store D g)
    → AreClear (g.fails (journal.disk_of (journal_in (not old.on_second) old))) (moment (journal.history_of (journal_in (not old.on_second) old))) 2
    → AreClear (fails_of old (journal_on (not old.on_second))) (moment (history_of old (journal_on (not old.on_second)))) 2
turned_clear {D} {g} old clear = subst (λ d. AreClear (g.fails d) (moment (g.history d)) 2) (sym (stands_on (not old.on_second) old)) clear
