-- A host without fuses makes every change, and gets none by it, whether a checkpoint is due or not.
use Rattle.std.proofs.Common.{◌≡◌, ℕ, Bool, true, false, ◌&&◌, ◌||◌, List, None, refl, ap, ◌∙◌, if◌then◌else◌}
use Rattle.nqs_state.specs.State.{Plain}
use Rattle.nqs_types.specs.declared.world.Which.{Which}
use Rattle.nqs_types.specs.declared.world.Which.TheVariants.{Root, First, Second, Spool}
use Rattle.nqs_rules.specs.Journals.{active, resting, is_due}
use Rattle.nqs_rules.specs.World.{Host, Fuses, Made, StoppedBefore, StoppedAfter, no_fuses, fate, fate_of_record, falls, falls_at_gate, keeps_gate, of_disk}
use Rattle.nqs_rules.specs.World.{falls_at_root, falls_at_journal, burnt_at, spool_calls, turns_over, ready, used}

-- no disk has a fuse
none_at : (disk : Which) (f : Fuses) → f ≡ no_fuses → of_disk disk f ≡ None
none_at Root f none = ap (λ f. f.root) none
none_at First f none = ap (λ f. f.first) none
none_at Second f none = ap (λ f. f.second) none
none_at Spool f none = ap (λ f. f.spool) none

-- calls bring none
still : (disk : Which) (n : ℕ) (f : Fuses) → f ≡ no_fuses → burnt_at disk n f ≡ no_fuses
still disk n f none = ap (burnt_at disk n) none ∙ by disk
  where
    by : (disk : Which) → burnt_at disk n no_fuses ≡ no_fuses
    by Root = refl
    by First = refl
    by Second = refl
    by Spool = refl

turned_none : (h : Host) → h.fuses ≡ no_fuses → (turns_over h).fuses ≡ no_fuses
turned_none h none = still Root 2 (burnt_at (resting h.root) 2 h.fuses) (still (resting h.root) 2 h.fuses none)

ready_none : (h : Host) → h.fuses ≡ no_fuses → (ready h).fuses ≡ no_fuses
ready_none h none = by (is_due h.is_old h.records)
  where
    by : (b : Bool) → (if b then turns_over h else h).fuses ≡ no_fuses
    by true = turned_none h none
    by false = none

record_made : (puts : List (List ℕ)) (h : Host) → h.fuses ≡ no_fuses → fate_of_record puts h ≡ Made
record_made puts h none =
    let fuse = of_disk (active h.root) h.fuses in
    ap (λ k. if falls k (spool_calls puts) then StoppedBefore
    else (if falls fuse 4 then (if falls_at_gate fuse && keeps_gate h.tear then StoppedAfter else StoppedBefore) else Made)) (none_at Spool h.fuses none)
    ∙ ap (λ k. if falls k 4 then (if falls_at_gate k && keeps_gate h.tear then StoppedAfter else StoppedBefore) else Made)
    (none_at (active h.root) h.fuses none)

-- no fuse falls
pub made : (puts : List (List ℕ)) (h : Host) → h.fuses ≡ no_fuses → fate puts h ≡ Made
made puts h none = by (is_due h.is_old h.records)
  where
    by : (b : Bool) → (if b && (falls_at_journal h || falls_at_root h) then StoppedBefore else fate_of_record puts (if b then turns_over h else h)) ≡ Made
    by true =
        ap (λ k. if falls k 2 || falls_at_root h then StoppedBefore else fate_of_record puts (turns_over h)) (none_at (resting h.root) h.fuses none)
        ∙ ap (λ k. if falls k 2 then StoppedBefore else fate_of_record puts (turns_over h)) (none_at Root h.fuses none)
        ∙ record_made puts (turns_over h) (turned_none h none)
    by false = record_made puts h none

-- and none comes
pub still_none : (puts : List (List ℕ)) (s : Plain) (h : Host) → h.fuses ≡ no_fuses → (used puts s h).fuses ≡ no_fuses
still_none puts s h none = still (active (ready h).root) 4 (burnt_at Spool (spool_calls puts) (ready h).fuses)
    (still Spool (spool_calls puts) (ready h).fuses (ready_none h none))
