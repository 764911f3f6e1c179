-- The parts of a run, and the disks after it.
use Rattle.std.proofs.Common.{◌≡◌, ◌+◌, Bool, true, false, List, [], ◌++◌, length, refl, sym, ap, ◌∙◌}
use Rattle.std.proofs.lemmas.List.{append_assoc, length-append}
use Rattle.nqs_types.specs.declared.world.Which.{Which}
use Rattle.nqs_types.specs.declared.world.Which.TheVariants.{Root, Spool}
use Rattle.nqs_outside.specs.History.{Call, History, moment, extended}
use Rattle.nqs_rules.specs.Journals.{journal_on}
use Rattle.nqs_store.specs.Hosts.{HostCall, same_disk, on, part}
use Rattle.nqs_store.proofs.HostRuns.{part_own, part_other, part_append}
use Rattle.nqs_store.proofs.Runs.{none_more}

-- a journal stands on neither of the other disks

pub root_other : (second : Bool) → same_disk Root (journal_on second) ≡ false
root_other true = refl
root_other false = refl

pub spool_other : (second : Bool) → same_disk Spool (journal_on second) ≡ false
spool_other true = refl
spool_other false = refl

pub journal_not_root : (second : Bool) → same_disk (journal_on second) Root ≡ false
journal_not_root true = refl
journal_not_root false = refl

pub journal_not_spool : (second : Bool) → same_disk (journal_on second) Spool ≡ false
journal_not_spool true = refl
journal_not_spool false = refl

-- what the disks did after a run
abbrev pub ran : (Which → History) → List HostCall → Which → History
ran old run which = extended (old which) (part which run)

pub ran_more : (old : Which → History) (xs ys : List HostCall) (which : Which) → ran old (xs ++ ys) which ≡ ran (ran old xs) ys which
ran_more old xs ys which = ap (extended (old which)) (part_append which xs ys) ∙ (let h = old which in
    let e : extended h (part which xs ++ part which ys) ≡ extended (extended h (part which xs)) (part which ys) =
    λ j. record { start = h.start; calls = sym (append_assoc h.calls (part which xs) (part which ys)) j } in e)

pub ran_none : (old : Which → History) (which : Which) → ran old [] which ≡ old which
ran_none old which = sym (none_more (old which))

-- a disk that has no part in a run stays
pub ran_still : (old : Which → History) (run : List HostCall) (which : Which) → part which run ≡ [] → ran old run which ≡ old which
ran_still old run which none = ap (extended (old which)) none ∙ sym (none_more (old which))

-- calls of one disk

pub ran_same : (old : Which → History) (which : Which) (calls : List Call) → ran old (on which calls) which ≡ extended (old which) calls
ran_same old which calls = ap (extended (old which)) (part_own which calls)

pub ran_other : (old : Which → History) (which disk : Which) (calls : List Call) → same_disk which disk ≡ false → ran old (on disk calls) which ≡ old which
ran_other old which disk calls other = ran_still old (on disk calls) which (part_other which disk calls other)

pub moment_more : (h : History) (calls : List Call) → moment (extended h calls) ≡ moment h + length calls
moment_more h calls = length-append h.calls calls
