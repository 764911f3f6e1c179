-- No journal of a host has more than 4,096 records or is old, and no root has more than one byte.
use Rattle.std.proofs.Common.{◌≡◌, ℕ, zero, suc, ◌+◌, ◌≤◌, ◌%◌, ◌==◌, Bool, true, false, not, ◌||◌, nat_le, List, [], ◌∷◌, length, slice_get, Some, refl, sym}
use Rattle.std.proofs.Common.{subst, ◌∙◌}
use Rattle.std.proofs.Common.{arith}
use Rattle.std.specs.Prelude.{if◌then◌else◌}
use Rattle.std.proofs.lemmas.Bool.{leb-false, or_parts}
use Rattle.std.proofs.lemmas.Option.{same_Some, none-some}
use Rattle.nqs_base.specs.declared.tear.Tear.{Tear}
use Rattle.nqs_base.specs.declared.tear.Tear.TheVariants.{Old, New, Mixed}
use Rattle.nqs_rules.specs.Journals.{is_due, turned, torn_root, torn_byte, names_same}
use Rattle.nqs_rules.specs.World.{Host, Act, ready, turns_over, cut_off, recorded, used, stopped, falls_at_journal, falls_at_root, new_host}
use Rattle.nqs_rules.specs.World.{hosts_from, new_world}
use Rattle.nqs_rules.specs.Run.{run}
use Rattle.nqs_laws.specs.Checkpoints.{AreDisksSmall}
use Rattle.nqs_laws.proofs.HostRuns.{HostFrames, run_all}

turned_small : (root : List ℕ) → length root ≤ 1 → length (turned root) ≤ 1
turned_small [] small = omega arith
turned_small (byte ∷ bytes) small = small

torn_small : (tear : Tear) (root : List ℕ) → length root ≤ 1 → length (torn_root tear root) ≤ 1
torn_small Old root small = small
torn_small New root small = turned_small root small
torn_small (Mixed n) (byte ∷ bytes) small = small
torn_small (Mixed n) [] small = by (n % 2 == 1)
  where
    by : (b : Bool) → length (if b then torn_byte (n % 4) 0 1 ∷ [] else []) ≤ 1
    by true = omega arith
    by false = omega arith

turned_over : (h : Host) → AreDisksSmall h → AreDisksSmall (turns_over h)
turned_over h small = record { records = omega arith; new = refl; root = turned_small h.root small.root }

-- room for a record more
ready_small : (h : Host) → AreDisksSmall h → AreDisksSmall (recorded (ready h))
ready_small h small = by (is_due h.is_old h.records) refl
  where
    by : (b : Bool) → is_due h.is_old h.records ≡ b → AreDisksSmall (recorded (if b then turns_over h else h))
    by true due = record { records = omega arith; new = refl; root = turned_small h.root small.root }
    by false early =
        let parts = or_parts h.is_old (nat_le 4096 h.records) early in
        record { records = (let few = leb-false 4096 h.records parts.1 in omega (arith, few)); new = parts.0; root = small.root }

cut_small : (h : Host) → AreDisksSmall h → AreDisksSmall (cut_off h)
cut_small h small = by (not (is_due h.is_old h.records) || falls_at_journal h) (falls_at_root h) (names_same h.root (torn_root h.tear h.root))
  where
    torn : (b : Bool)
        → AreDisksSmall (record h { root = torn_root h.tear h.root; records = if b then h.records else 0; is_old = if b then h.is_old else false })
    torn true = record { records = small.records; new = small.new; root = torn_small h.tear h.root small.root }
    torn false = record { records = omega arith; new = refl; root = torn_small h.tear h.root small.root }

    by : (a b c : Bool) → AreDisksSmall (if a then h
        else (if b then record h { root = torn_root h.tear h.root; records = if c then h.records else 0; is_old = if c then h.is_old else false }
        else turns_over h))
    by true b c = small
    by false true c = torn c
    by false false c = turned_over h small

same_small : (g h : Host) → g.root ≡ h.root → g.records ≡ h.records → g.is_old ≡ h.is_old → AreDisksSmall h → AreDisksSmall g
same_small g h roots counts old small = record {
  records = subst (λ n. n ≤ 4096) (sym counts) small.records;
  new = old ∙ small.new;
  root = subst (λ r. length r ≤ 1) (sym roots) small.root;
}

keeps_small : HostFrames AreDisksSmall
keeps_small = record {
  made = λ puts s h small. same_small (used puts s h) (recorded (ready h)) refl refl refl (ready_small h small);
  before = λ h small. same_small (stopped h.state (cut_off h)) (cut_off h) refl refl refl (cut_small h small);
  after = λ s h small. same_small (stopped s (recorded (ready h))) (recorded (ready h)) refl refl refl (ready_small h small);
  halted = λ h small. same_small (stopped h.state h) h refl refl refl small;
  fused = λ disk calls tear h small. same_small _ h refl refl refl small;
}

new_small : (site : List (List ℕ)) (place : ℕ) (names : List (List ℕ)) (n : ℕ) (h : Host) → slice_get (hosts_from place site names) n ≡ Some h → AreDisksSmall h
new_small site place [] n h is = absurd (none-some h is)
new_small site place (name ∷ names) zero h is =
    subst AreDisksSmall (same_Some (new_host site place) h is) (record { records = omega arith; new = refl; root = omega arith })
new_small site place (name ∷ names) (suc n) h is = new_small site (place + 1) names n h is

pub run_small : (site : List (List ℕ)) (acts : List Act) (place : ℕ) (h : Host) → slice_get (run acts (new_world site)).world.hosts place ≡ Some h
    → AreDisksSmall h
run_small site acts = run_all AreDisksSmall keeps_small acts (new_world site) (new_small site 0 site)
