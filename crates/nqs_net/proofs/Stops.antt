-- What a stop in a change leaves of a host's disks, by how the change ended.
use Rattle.std.proofs.Common.{◌≡◌, inl, inr, ℕ, ◌<◌, ◌≤◌, Bool, true, false, not, IsTrue, ◌||◌, List, [], refl, sym, ap, subst, ◌∙◌}
use Rattle.std.specs.Prelude.{if◌then◌else◌, MatchBool}
use Rattle.std.proofs.lemmas.Bool.{cases_lt}
use Rattle.nqs_state.specs.State.{Plain}
use Rattle.nqs_types.specs.declared.world.Which.{Which}
use Rattle.nqs_types.specs.declared.world.Which.TheVariants.{Root, First, Second, Spool}
use Rattle.nqs_outside.specs.History.{State, History, extended, fresh, state, content, moment, IsImage, IsQuiet}
use Rattle.nqs_outside.proofs.Images.{fresh_image}
use Rattle.nqs_disk.specs.Torn.{torn}
use Rattle.nqs_rules.specs.Journals.{is_second, active, is_due, names_same, torn_root}
use Rattle.nqs_rules.specs.World.{Host, Fate, Made, StoppedBefore, StoppedAfter, spool_calls, keeps_gate, falls_at_journal, falls_at_root, turns_over, of_disk}
use Rattle.nqs_rules.specs.World.{torn_over, ready, recorded, cut_off, fate_of_record, fate}
use Rattle.nqs_laws.proofs.AlikeRuns.{ready_tear}
use Rattle.nqs_storage_tears.specs.Roots.{turning}
use Rattle.nqs_storage_tears.proofs.TornGates.{torn_means}
use Rattle.nqs_storage_tears.proofs.TornRoots.{torn_turning}
use Rattle.nqs_store.specs.Active.{Active, IsActive, journal_of, turned_to, named_in, ready as ready_in, recorded as recorded_in}
use Rattle.nqs_store.specs.Commits.{AreClear, FailsFirst, IsPast, IsKept, LeavesHost, IsAtHostGate, IsCutAtOther, IsCutAtRoot, IsCutAtRecord, IsCutAt}
use Rattle.nqs_store.specs.Commits.{root_calls, record_moment, AreImages}
use Rattle.nqs_store.specs.Images.{IsTold}
use Rattle.nqs_net.specs.Worlds.{IsFuse, AreDisks, active_in}
use Rattle.nqs_net.proofs.Burns.{ready_active, ready_disks, spool_then, journal_then}
use Rattle.nqs_net.proofs.Fates.{made_record, spool_record, early_record, late_record, past_fate, past_cut, journal_clear, journal_falls, root_falls}
use Rattle.nqs_net.proofs.Fates.{other_fate, other_cut}
use Rattle.nqs_net.proofs.Fates.{root_fate, root_cut}
use Rattle.nqs_net.proofs.Roots.{ready_root, root_after}

-- the tear stays

pub cut_tear : (host : Host) → (cut_off host).tear ≡ host.tear
cut_tear host = by (not (is_due host.is_old host.records) || falls_at_journal host) (falls_at_root host)
  where
    by : (b c : Bool) → (if b then host else (if c then torn_over host else turns_over host)).tear ≡ host.tear
    by true c = refl
    by false true = refl
    by false false = refl

-- these bytes of the disks tell the state, and the root and the active journal of the host
pub record AreFound (bytes : Which → List ℕ) (s : Plain) (host : Host) : Type 0 where
  pub told : IsTold bytes s
  pub root : bytes Root ≡ host.root
  pub active : IsActive bytes (active_in host)

-- what is found after a stop, by how the change of this host ended
abbrev pub CutsTo : (before after : Plain) → (Which → List ℕ) → Host → Fate → Type 0
CutsTo before after bytes host Made = ⊥
CutsTo before after bytes host StoppedBefore = AreFound bytes before (cut_off host)
CutsTo before after bytes host StoppedAfter = AreFound bytes after (recorded (ready host))

-- of two journals the one that a root names, as the rules count its records, and whether it is old
named_by : (s t old : Bool) (n : ℕ)
    → (let a : Active = record { second = s; records = n; is_old = old } in if (if s then t else not t) then a else turned_to a)
    ≡ record { second = t; records = if (if s then t else not t) then n else 0; is_old = if (if s then t else not t) then old else false }
named_by true true old n = refl
named_by true false old n = refl
named_by false true old n = refl
named_by false false old n = refl

named_torn : (host : Host) (root : List ℕ) → named_in root (active_in host)
    ≡ record {
      second = is_second root;
      records = if names_same host.root root then host.records else 0;
      is_old = if names_same host.root root then host.is_old else false;
    }
named_torn host root = named_by (is_second host.root) (is_second root) host.is_old host.records

module _ (host : Host) (fails : Which → ℕ → Bool) (old : Which → History) (disks : AreDisks host old fails) (puts : List (List ℕ)) (now : Which → History)
    (before after : Plain) (images : (which : Which) → IsImage (state (now which)) (torn host.tear (state (now which)))) (quiet : IsQuiet (old Root))
    (holds : content (old Root) ≡ host.root) where
  abbrev a : Active
  a = active_in host

  abbrev left : Which → List ℕ
  left which = torn host.tear (state (now which))

  -- where nothing of the root is pending
  found : (s : Plain) (at : Active) (h : Host) → LeavesHost now s at → at ≡ active_in h → state (now Root) ≡ fresh h.root → AreFound left s h
  found s at h leaves is root = record {
    told = (leaves left images).0;
    root = fresh_image h.root (left Root) (subst (λ (u : State). IsImage u (left Root)) root (images Root));
    active = subst (IsActive left) is (leaves left images).1;
  }

  cut_other : IsTrue (is_due a.is_old a.records) → IsCutAtOther a fails old now before → CutsTo before after left host (fate puts host)
  cut_other due cut =
      let root = ap state cut.root ∙ quiet ∙ ap fresh holds in
      let falls = journal_falls host fails old disks puts cut.at cut.failed in
      subst (CutsTo before after left host) (sym (other_fate host fails old disks puts due falls))
      (subst (AreFound left before) (sym (other_cut host fails old disks puts due falls)) (found before a host cut.told refl root))

  cut_root : IsTrue (is_due a.is_old a.records) → IsCutAtRoot a fails old now before → CutsTo before after left host (fate puts host)
  cut_root due cut =
      let none = journal_clear host fails old disks puts cut.other in
      let falls = root_falls host fails old disks puts cut.at cut.failed in
      let torn_now : left Root ≡ torn_root host.tear host.root = ap (torn host.tear) (cut.pending ∙ ap turning holds) ∙ torn_turning host.root host.tear in
      let told = cut.told left images in
      let over : AreFound left before (torn_over host) = record {
        told = told.0;
        root = torn_now;
        active = subst (IsActive left) (ap (λ r. named_in r a) torn_now ∙ named_torn host (torn_root host.tear host.root)) told.1;
      } in
      subst (CutsTo before after left host) (sym (root_fate host fails old disks puts due none falls))
      (subst (AreFound left before) (sym (root_cut host fails old disks puts due none falls)) over)

  -- past a checkpoint
  module _ (past : IsPast a fails old) (made : now Root ≡ extended (old Root) (root_calls a)) where
    abbrev r : Host
    r = ready host

    root : state (now Root) ≡ fresh r.root
    root = root_after (old Root) (now Root) host.root (is_due host.is_old host.records) quiet holds made ∙ ap fresh (sym (ready_root host))

    root_left : left Root ≡ r.root
    root_left = fresh_image r.root (left Root) (subst (λ (u : State). IsImage u (left Root)) root (images Root))

    spool_fuse : IsFuse r.fuses.spool (moment (old Spool)) (fails Spool)
    spool_fuse = subst (λ t. IsFuse r.fuses.spool t (fails Spool)) (spool_then old a []) (ready_disks host fails old disks [] past Spool).fuse

    journal_fuse : IsFuse (of_disk (active r.root) r.fuses) (record_moment a old) (fails (journal_of (ready_in a)))
    journal_fuse = subst (λ j. IsFuse (of_disk j r.fuses) (record_moment a old) (fails (journal_of (ready_in a)))) (sym (ap journal_of (ready_active host)))
        (subst (λ t. IsFuse (of_disk (journal_of (ready_in a)) r.fuses) t (fails (journal_of (ready_in a)))) (journal_then old a [])
        (ready_disks host fails old disks [] past (journal_of (ready_in a))).fuse)

    -- not kept
    not_kept : LeavesHost now before (ready_in a) → fate_of_record puts r ≡ StoppedBefore → CutsTo before after left host (fate puts host)
    not_kept leaves is = subst (CutsTo before after left host) (sym (past_fate host fails old disks puts past ∙ is))
        (subst (AreFound left before) (sym (past_cut host fails old disks puts past)) (found before (ready_in a) r leaves (sym (ready_active host)) root))

    cut_spool : (at : ℕ) → FailsFirst (fails Spool) (moment (old Spool)) (spool_calls puts) at → LeavesHost now before (ready_in a)
        → CutsTo before after left host (fate puts host)
    cut_spool at failed leaves = not_kept leaves (spool_record r puts (moment (old Spool)) (record_moment a old) (fails Spool) (fails (journal_of (ready_in a)))
        spool_fuse journal_fuse at failed)

    module _ (clear : AreClear (fails Spool) (moment (old Spool)) (spool_calls puts)) (at : ℕ)
        (failed : FailsFirst (fails (journal_of (ready_in a))) (record_moment a old) 4 at) where
      cut_early : at < 2 → LeavesHost now before (ready_in a) → CutsTo before after left host (fate puts host)
      cut_early early leaves = not_kept leaves (early_record r puts (moment (old Spool)) (record_moment a old) (fails Spool) (fails (journal_of (ready_in a)))
          spool_fuse journal_fuse clear at failed early)

      late_fate : 2 ≤ at → fate puts host ≡ (if keeps_gate host.tear then StoppedAfter else StoppedBefore)
      late_fate late = past_fate host fails old disks puts past
          ∙ late_record r puts (moment (old Spool)) (record_moment a old) (fails Spool)
          (fails (journal_of (ready_in a))) spool_fuse journal_fuse clear at failed late
          ∙ ap (λ t. if keeps_gate t then StoppedAfter else StoppedBefore) (ready_tear host)

      by_gate : (k : Bool) → MatchBool k (IsTold left after × IsActive left (recorded_in (ready_in a))) (IsTold left before × IsActive left (ready_in a))
          → CutsTo before after left host (if k then StoppedAfter else StoppedBefore)
      by_gate true told = record {
        told = told.0;
        root = root_left;
        active = subst (IsActive left) (ap recorded_in (sym (ready_active host))) told.1;
      }
      by_gate false told = subst (AreFound left before) (sym (past_cut host fails old disks puts past))
          (record { told = told.0; root = root_left; active = subst (IsActive left) (sym (ready_active host)) told.1 })

  -- at the gate, by what the tear leaves of it
  module _ (gate : IsAtHostGate (ready_in a) now before after) where
    abbrev j : Which
    j = journal_of (ready_in a)

    gate_tells : MatchBool (keeps_gate host.tear) (IsTold left after × IsActive left (recorded_in (ready_in a)))
        (IsTold left before × IsActive left (ready_in a))
    gate_tells = by (keeps_gate host.tear) (torn_means (state (now j)) gate.gate _ _ gate.decides host.tear (images j))
      where
        by : (k : Bool)
            → MatchBool k ((bytes : Which → List ℕ) → AreImages now bytes j (left j) → IsTold bytes after × IsActive bytes (recorded_in (ready_in a)))
            ((bytes : Which → List ℕ) → AreImages now bytes j (left j) → IsTold bytes before × IsActive bytes (ready_in a))
            → MatchBool k (IsTold left after × IsActive left (recorded_in (ready_in a))) (IsTold left before × IsActive left (ready_in a))
        by true told = told left (images, refl)
        by false told = told left (images, refl)

  cut_record : IsCutAtRecord a fails puts old now before after → CutsTo before after left host (fate puts host)
  cut_record cut = elim (cases_lt cut.at 2) [
    | inl early ↦ cut_early cut.past cut.root cut.spool cut.at cut.failed early (cut.told early)
    | inr late ↦ subst (CutsTo before after left host) (sym (late_fate cut.past cut.root cut.spool cut.at cut.failed late))
        (by_gate cut.past cut.root cut.spool cut.at cut.failed (keeps_gate host.tear) (gate_tells (cut.gate late)))
  ]

  pub cut_fate : (which : Which) → IsCutAt a fails puts old now before after which → CutsTo before after left host (fate puts host)
  cut_fate Root cut = cut_root cut.0 cut.1
  cut_fate First (inl cut) = cut_other cut.1 cut.2
  cut_fate First (inr cut) = cut_record cut.1
  cut_fate Second (inl cut) = cut_other cut.1 cut.2
  cut_fate Second (inr cut) = cut_record cut.1
  cut_fate Spool cut = cut_spool cut.past cut.root cut.at cut.failed cut.told

module _ (host : Host) (fails : Which → ℕ → Bool) (old : Which → History) (disks : AreDisks host old fails) (puts : List (List ℕ)) (now : Which → History) where
  pub kept_fate : IsKept (active_in host) fails puts old now → fate puts host ≡ Made
  kept_fate kept =
      let r = ready host in
      let a = active_in host in
      let fuses = ready_disks host fails old disks [] kept.past in
      past_fate host fails old disks puts kept.past
      ∙ made_record r puts (moment (old Spool)) (record_moment a old) (fails Spool) (fails (journal_of (ready_in a)))
      (subst (λ t. IsFuse r.fuses.spool t (fails Spool)) (spool_then old a []) (fuses Spool).fuse)
      (subst (λ j. IsFuse (of_disk j r.fuses) (record_moment a old) (fails (journal_of (ready_in a)))) (sym (ap journal_of (ready_active host)))
      (subst (λ t. IsFuse (of_disk (journal_of (ready_in a)) r.fuses) t (fails (journal_of (ready_in a)))) (journal_then old a [])
      (fuses (journal_of (ready_in a))).fuse)) kept.spool kept.journal
