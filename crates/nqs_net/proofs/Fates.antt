-- How a change of a host ends, by its fuses: what its disks did says the same as the rules.
use Rattle.std.proofs.Common.{◌≡◌, ℕ, ◌+◌, ◌-◌, ◌<◌, ◌≤◌, nat_le, Bool, true, false, not, ◌&&◌, ◌||◌, List, Option, None, Some, true≢false, refl, sym, ap, ◌∙◌}
use Rattle.std.proofs.Common.{arith}
use Rattle.std.specs.Prelude.{if◌then◌else◌}
use Rattle.std.proofs.lemmas.Bool.Decides.{nat_tests}
use Rattle.nqs_types.specs.declared.world.Which.{Which}
use Rattle.nqs_types.specs.declared.world.Which.TheVariants.{Root}
use Rattle.nqs_outside.specs.History.{History, moment}
use Rattle.nqs_rules.specs.Journals.{active, is_due}
use Rattle.nqs_rules.specs.World.{Host, Fate, Made, StoppedBefore, StoppedAfter, falls, falls_at_gate, falls_at_journal, falls_at_root, keeps_gate, spool_calls}
use Rattle.nqs_rules.specs.World.{turns_over, torn_over, ready, cut_off, fate_of_record, fate, of_disk}
use Rattle.nqs_store.specs.Active.{Active, other_of}
use Rattle.nqs_store.specs.Commits.{AreClear, FailsFirst, IsPast}
use Rattle.nqs_node.specs.Carried.{IsBlown}
use Rattle.nqs_net.specs.Worlds.{IsFuse, AreDisks, active_in}

-- one fuse

pub clear_falls : (fuse : Option ℕ) (made n : ℕ) (fails : ℕ → Bool) → IsFuse fuse made fails → AreClear fails made n → falls fuse n ≡ false
clear_falls None made n fails is clear = refl
clear_falls (Some left) made n fails is clear = by (nat_le left n) refl
  where
    by : (b : Bool) → nat_le left n ≡ b → b ≡ false
    by false e = refl
    by true e =
        let within : left - 1 < n = grind (arith, nat_tests, e, is.0) in
        let here : nat_le (made + (left - 1)) (made + (left - 1)) ≡ true = grind (arith, nat_tests) in
        absurd (true≢false (sym here ∙ sym (is.1 (made + (left - 1))) ∙ clear (left - 1) within))

-- the first call that is to fail is the fuse's
module _ (left made n at : ℕ) (fails : ℕ → Bool) (is : IsFuse (Some left) made fails) (first : FailsFirst fails made n at) where
  first_is : left ≡ at + 1
  first_is = by (nat_le at (left - 1)) refl
    where
      due : nat_le (made + (left - 1)) (made + at) ≡ true
      due = sym (is.1 (made + at)) ∙ first.due

      by : (b : Bool) → nat_le at (left - 1) ≡ b → left ≡ at + 1
      by true e = grind (arith, nat_tests, e, due, is.0)
      by false e =
          let below : left - 1 < at = grind (arith, nat_tests, e) in
          let here : nat_le (made + (left - 1)) (made + (left - 1)) ≡ true = grind (arith, nat_tests) in
          absurd (true≢false (sym here ∙ sym (is.1 (made + (left - 1))) ∙ first.clear (left - 1) below))

first_falls : (fuse : Option ℕ) (made n at : ℕ) (fails : ℕ → Bool) → IsFuse fuse made fails → FailsFirst fails made n at → fuse ≡ Some (at + 1)
first_falls None made n at fails is first = absurd (true≢false (sym first.due ∙ is (made + at)))
first_falls (Some left) made n at fails is first = ap Some (first_is left made n at fails is first)

falls_within : (at n : ℕ) → at < n → falls (Some (at + 1)) n ≡ true
falls_within at n below = grind (arith, nat_tests, below)

-- no call so far was to fail
pub unblown : (fuse : Option ℕ) (h : History) (fails : ℕ → Bool) → IsFuse fuse (moment h) fails → IsBlown fails h → ⊥
unblown None h fails is blown = true≢false (sym blown.2 ∙ is blown.0)
unblown (Some left) h fails is blown =
    let later : nat_le (moment h + (left - 1)) blown.0 ≡ true = sym (is.1 blown.0) ∙ blown.2 in
    absurd (let no : ⊥ = grind (arith, nat_tests, later, blown.1) in no)

-- how a change without a checkpoint ends, by its three tests
abbrev record_fate : Bool → Bool → Bool → Fate
record_fate spool journal gate = if spool then StoppedBefore else (if journal then (if gate then StoppedAfter else StoppedBefore) else Made)

-- the calls of a change without a checkpoint
module _ (r : Host) (puts : List (List ℕ)) (at_spool at_journal : ℕ) (spool_fails journal_fails : ℕ → Bool) (spool : IsFuse r.fuses.spool at_spool spool_fails)
    (journal : IsFuse (of_disk (active r.root) r.fuses) at_journal journal_fails) where
  abbrev fuse : Option ℕ
  fuse = of_disk (active r.root) r.fuses

  abbrev gate_kept : Bool
  gate_kept = falls_at_gate fuse && keeps_gate r.tear

  spool_clear : AreClear spool_fails at_spool (spool_calls puts) → falls r.fuses.spool (spool_calls puts) ≡ false
  spool_clear clear = clear_falls r.fuses.spool at_spool (spool_calls puts) spool_fails spool clear

  pub made_record : AreClear spool_fails at_spool (spool_calls puts) → AreClear journal_fails at_journal 4 → fate_of_record puts r ≡ Made
  made_record clear rest = ap (λ b. record_fate b (falls fuse 4) gate_kept) (spool_clear clear)
      ∙ ap (λ b. record_fate false b gate_kept) (clear_falls fuse at_journal 4 journal_fails journal rest)

  pub spool_record : (at : ℕ) → FailsFirst spool_fails at_spool (spool_calls puts) at → fate_of_record puts r ≡ StoppedBefore
  spool_record at first = ap (λ b. record_fate b (falls fuse 4) gate_kept) (ap (λ f. falls f (spool_calls puts))
      (first_falls r.fuses.spool at_spool (spool_calls puts) at spool_fails spool first) ∙ falls_within at (spool_calls puts) first.within)

  module _ (clear : AreClear spool_fails at_spool (spool_calls puts)) (at : ℕ) (first : FailsFirst journal_fails at_journal 4 at) where
    set : fuse ≡ Some (at + 1)
    set = first_falls fuse at_journal 4 at journal_fails journal first

    cut_record : fate_of_record puts r ≡ (if gate_kept then StoppedAfter else StoppedBefore)
    cut_record = ap (λ b. record_fate b (falls fuse 4) gate_kept) (spool_clear clear)
        ∙ ap (λ b. record_fate false b gate_kept) (ap (λ f. falls f 4) set ∙ falls_within at 4 first.within)

    pub early_record : at < 2 → fate_of_record puts r ≡ StoppedBefore
    early_record early =
        let no : falls_at_gate (Some (at + 1)) ≡ false = grind (arith, nat_tests, early) in
        cut_record ∙ ap (λ b. if b && keeps_gate r.tear then StoppedAfter else StoppedBefore) (ap falls_at_gate set ∙ no)

    pub late_record : 2 ≤ at → fate_of_record puts r ≡ (if keeps_gate r.tear then StoppedAfter else StoppedBefore)
    late_record late =
        let yes : falls_at_gate (Some (at + 1)) ≡ true = grind (arith, nat_tests, late) in
        cut_record ∙ ap (λ b. if b && keeps_gate r.tear then StoppedAfter else StoppedBefore) (ap falls_at_gate set ∙ yes)

-- the calls of a checkpoint, where one is due
module _ (host : Host) (fails : Which → ℕ → Bool) (old : Which → History) (disks : AreDisks host old fails) (puts : List (List ℕ)) where
  abbrev a : Active
  a = active_in host

  abbrev by_checkpoint : Bool → Bool → Fate
  by_checkpoint due falls = if due && falls then StoppedBefore else fate_of_record puts (ready host)

  pub journal_clear : AreClear (fails (other_of a)) (moment (old (other_of a))) 2 → falls_at_journal host ≡ false
  journal_clear clear = clear_falls (of_disk (other_of a) host.fuses) (moment (old (other_of a))) 2 (fails (other_of a)) (disks (other_of a)).fuse clear

  pub root_clear : AreClear (fails Root) (moment (old Root)) 2 → falls_at_root host ≡ false
  root_clear clear = clear_falls host.fuses.root (moment (old Root)) 2 (fails Root) (disks Root).fuse clear

  pub journal_falls : (at : ℕ) → FailsFirst (fails (other_of a)) (moment (old (other_of a))) 2 at → falls_at_journal host ≡ true
  journal_falls at first = ap (λ f. falls f 2) (first_falls (of_disk (other_of a) host.fuses) (moment (old (other_of a))) 2 at (fails (other_of a))
      (disks (other_of a)).fuse first) ∙ falls_within at 2 first.within

  pub root_falls : (at : ℕ) → FailsFirst (fails Root) (moment (old Root)) 2 at → falls_at_root host ≡ true
  root_falls at first = ap (λ f. falls f 2) (first_falls host.fuses.root (moment (old Root)) 2 at (fails Root) (disks Root).fuse first)
      ∙ falls_within at 2 first.within

  -- its calls weren't to fail
  pub past_fate : IsPast a fails old → fate puts host ≡ fate_of_record puts (ready host)
  past_fate past = by (is_due host.is_old host.records) refl
    where
      by : (b : Bool) → is_due host.is_old host.records ≡ b → by_checkpoint b (falls_at_journal host || falls_at_root host) ≡ fate_of_record puts (ready host)
      by false idle = refl
      by true due = ap (λ b. by_checkpoint true (b || falls_at_root host)) (journal_clear (past.other due))
          ∙ ap (by_checkpoint true) (root_clear (past.root due))

  -- then a stop leaves what the checkpoint made
  pub past_cut : IsPast a fails old → cut_off host ≡ ready host
  past_cut past = by (is_due host.is_old host.records) refl
    where
      by : (b : Bool) → is_due host.is_old host.records ≡ b
          → (if not b || falls_at_journal host then host else (if falls_at_root host then torn_over host else turns_over host))
          ≡ (if b then turns_over host else host)
      by false idle = refl
      by true due = ap (λ b. if b then host else (if falls_at_root host then torn_over host else turns_over host)) (journal_clear (past.other due))
          ∙ ap (λ b. if b then torn_over host else turns_over host) (root_clear (past.root due))

  -- it was cut off
  module _ (due : is_due host.is_old host.records ≡ true) where
    pub other_fate : falls_at_journal host ≡ true → fate puts host ≡ StoppedBefore
    other_fate falls = ap (λ b. by_checkpoint b (falls_at_journal host || falls_at_root host)) due
        ∙ ap (λ b. by_checkpoint true (b || falls_at_root host)) falls

    pub other_cut : falls_at_journal host ≡ true → cut_off host ≡ host
    other_cut falls =
        ap (λ b. if not b || falls_at_journal host then host else (if falls_at_root host then torn_over host else turns_over host)) due
        ∙ ap (λ b. if b then host else (if falls_at_root host then torn_over host else turns_over host)) falls

    pub root_fate : falls_at_journal host ≡ false → falls_at_root host ≡ true → fate puts host ≡ StoppedBefore
    root_fate clear falls = ap (λ b. by_checkpoint b (falls_at_journal host || falls_at_root host)) due
        ∙ ap (λ b. by_checkpoint true (b || falls_at_root host)) clear ∙ ap (by_checkpoint true) falls

    pub root_cut : falls_at_journal host ≡ false → falls_at_root host ≡ true → cut_off host ≡ torn_over host
    root_cut clear falls =
        ap (λ b. if not b || falls_at_journal host then host else (if falls_at_root host then torn_over host else turns_over host)) due
        ∙ ap (λ b. if b then host else (if falls_at_root host then torn_over host else turns_over host)) clear
        ∙ ap (λ b. if b then torn_over host else turns_over host) falls
