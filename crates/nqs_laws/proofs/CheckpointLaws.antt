-- A change that begins with a checkpoint: what it shows and leaves.
use Rattle.std.proofs.Common.{◌≡◌, ◌⊎◌, inl, inr, ℕ, ◌+◌, Bool, true, false, not, ◌&&◌, ◌||◌, nat_le, List, [], ◌∷◌, Some, true≢false, refl, sym, ap, subst}
use Rattle.std.proofs.Common.{◌∙◌}
use Rattle.std.specs.Prelude.{if◌then◌else◌, MatchBool}
use Rattle.std.proofs.lemmas.Bool.{and_parts, or_parts}
use Rattle.nqs_types.specs.declared.ids.HostId.{HostId}
use Rattle.nqs_types.specs.declared.change.Change.{Change}
use Rattle.nqs_types.specs.declared.event.Output.{Output}
use Rattle.nqs_types.specs.declared.world.Seen.{Seen}
use Rattle.nqs_rules.specs.Applied.{applied}
use Rattle.nqs_rules.specs.Stepped.{stored_parts}
use Rattle.nqs_rules.specs.Journals.{active, resting, is_due, torn_root, names_same}
use Rattle.nqs_rules.specs.Notes.{Why, Kept, saws}
use Rattle.nqs_rules.specs.World.{World, Host, Fate, Made, StoppedBefore, StoppedAfter, fate, fate_of_record, host_of, put_host, then_noted, seeing, ready}
use Rattle.nqs_rules.specs.World.{turns_over, torn_over, cut_off, recorded, wrote, used, stopped, falls_at_journal, falls_at_root, emits, change_fated}
use Rattle.nqs_rules.specs.World.{makes_change}
use Rattle.nqs_types.specs.declared.world.Seen.TheVariants as seen
use Rattle.nqs_laws.proofs.TwoJournals.{same_names, turned_active}
use Rattle.nqs_laws.specs.Checkpoints.{stops_in_checkpoint, DifferInDisks, TellsAsBefore, StopsAsItWas, Records}
use Rattle.nqs_laws.proofs.Frame.{emits_world}
use Rattle.nqs_laws.proofs.Sound.{get-here}

pub ready_differs : (h : Host) → DifferInDisks h (ready h)
ready_differs h = by (is_due h.is_old h.records)
  where
    by : (b : Bool) → DifferInDisks h (if b then turns_over h else h)
    by true = refl
    by false = refl

ready_due : (h : Host) → is_due h.is_old h.records ≡ true → ready h ≡ turns_over h
ready_due h due = ap (λ b. if b then turns_over h else h) due

pub ready_early : (h : Host) → is_due h.is_old h.records ≡ false → ready h ≡ h
ready_early h early = ap (λ b. if b then turns_over h else h) early

module _ (h : HostId) (host : Host) (why : Why) (c : Change (List ℕ)) (first : List Seen) (os : List Output) (w : World) where
  -- what a change makes where a checkpoint is due and no fuse falls in it
  module _ (due : is_due host.is_old host.records ≡ true) (spared : (falls_at_journal host || falls_at_root host) ≡ false) where
    same_fate : (puts : List (List ℕ)) → fate puts host ≡ fate_of_record puts (turns_over host)
    same_fate puts = ap (λ b. if b && (falls_at_journal host || falls_at_root host) then StoppedBefore
        else fate_of_record puts (if b then turns_over host else host)) due
        ∙ ap (λ b. if b then StoppedBefore else fate_of_record puts (turns_over host)) spared

    same_cut : cut_off host ≡ turns_over host
    same_cut =
        let both = or_parts (falls_at_journal host) (falls_at_root host) spared in
        ap (λ b. if not b || falls_at_journal host then host else (if falls_at_root host then torn_over host else turns_over host)) due
        ∙ ap (λ b. if b then host else (if falls_at_root host then torn_over host else turns_over host)) both.0
        ∙ ap (λ b. if b then torn_over host else turns_over host) both.1

    same_fated : (f : Fate) → change_fated f h host why c first os w ≡ change_fated f h (turns_over host) why c first os w
    same_fated Made = ap (λ g. then_noted (Kept h why c ∷ saws first) (emits h os (put_host h (record (wrote (stored_parts c) g)
        { up = true; state = applied c host.state; told = host.state ∷ host.told }) w))) (ready_due host due)
    same_fated StoppedBefore = ap (λ g. seeing (seen.Stop h) (put_host h (stopped host.state g) w)) same_cut
    same_fated StoppedAfter = ap (λ g. then_noted (Kept h why c ∷ []) (seeing (seen.Stop h) (put_host h (stopped (applied c host.state) (recorded g)) w)))
        (ready_due host due)

    same_change : makes_change h host why c first os w ≡ makes_change h (turns_over host) why c first os w
    same_change = ap (λ f. change_fated f h host why c first os w) (same_fate (stored_parts c)) ∙ same_fated (fate_of_record (stored_parts c) (turns_over host))

  pub shows_nothing : stops_in_checkpoint host ≡ false → makes_change h host why c first os w ≡ makes_change h (ready host) why c first os w
  shows_nothing k = by (is_due host.is_old host.records) refl
    where
      by : (b : Bool) → is_due host.is_old host.records ≡ b → makes_change h host why c first os w ≡ makes_change h (ready host) why c first os w
      by true due = same_change due (sym (ap (λ b. b && (falls_at_journal host || falls_at_root host)) due) ∙ k)
          ∙ ap (λ g. makes_change h g why c first os w) (sym (ready_due host due))
      by false early = ap (λ g. makes_change h g why c first os w) (sym (ready_early host early))

  -- what a stop in a checkpoint leaves
  torn_tells : TellsAsBefore host (torn_over host)
  torn_tells = by (names_same host.root (torn_root host.tear host.root)) (same_names host.root (torn_root host.tear host.root))
    where
      by : (b : Bool) → MatchBool b (active (torn_root host.tear host.root) ≡ active host.root) (active (torn_root host.tear host.root) ≡ resting host.root)
          → ((active (torn_root host.tear host.root) ≡ active host.root) × ((if b then host.records else 0) ≡ host.records)
          × ((if b then host.is_old else false) ≡ host.is_old))
          ⊎ ((active (torn_root host.tear host.root) ≡ resting host.root) × ((if b then host.records else 0) ≡ 0)
          × ((if b then host.is_old else false) ≡ false))
      by true same = inl (same, refl, refl)
      by false other = inr (other, refl, refl)

  cut_tells : (falls_at_journal host || falls_at_root host) ≡ true
      → TellsAsBefore host (if falls_at_journal host then host else (if falls_at_root host then torn_over host else turns_over host))
  cut_tells falls = by (falls_at_journal host) (falls_at_root host) falls
    where
      by : (a b : Bool) → (a || b) ≡ true → TellsAsBefore host (if a then host else (if b then torn_over host else turns_over host))
      by true b k = inl (refl, refl, refl)
      by false true k = torn_tells
      by false false k = absurd (true≢false (sym k))

  pub stops_as_it_was : stops_in_checkpoint host ≡ true → StopsAsItWas h host w (makes_change h host why c first os w)
  stops_as_it_was k =
      let both = and_parts (is_due host.is_old host.records) (falls_at_journal host || falls_at_root host) k in
      let cut : cut_off host ≡ (if falls_at_journal host then host else (if falls_at_root host then torn_over host else turns_over host)) =
      ap (λ b. if not b || falls_at_journal host then host else (if falls_at_root host then torn_over host else turns_over host)) both.0 in
      record {
        left = cut_off host;
        tells = subst (TellsAsBefore host) (sym cut) (cut_tells both.1);
        is = ap (λ b. change_fated (if b then StoppedBefore else fate_of_record (stored_parts c) (ready host)) h host why c first os w) k;
      }

  -- what a change that is made leaves
  module _ (there : host_of h w ≡ Some host) (made : fate (stored_parts c) host ≡ Made) where
    leaves : (g : Host) → ready host ≡ g → g.is_old ≡ false → Records h (applied c host.state) (active g.root) (g.records + 1)
        (makes_change h host why c first os w).world
    leaves g is new = record {
      host = used (stored_parts c) (applied c host.state) host;
      there = ap (λ f. host_of h (change_fated f h host why c first os w).world) made
          ∙ (ap (host_of h) (emits_world h os (put_host h (used (stored_parts c) (applied c host.state) host) w))
          ∙ get-here h.0 (used (stored_parts c) (applied c host.state) host) host w.hosts there);
      state = refl;
      journal_is = ap (λ g. active g.root) is;
      count = ap (λ g. g.records + 1) is;
      new = ap (λ g. g.is_old) is ∙ new;
    }

    pub leaves_one : is_due host.is_old host.records ≡ true → Records h (applied c host.state) (resting host.root) 1
        (makes_change h host why c first os w).world
    leaves_one due = subst (λ journal. Records h (applied c host.state) journal 1 (makes_change h host why c first os w).world) (turned_active host.root)
        (leaves (turns_over host) (ready_due host due) refl)

    pub leaves_more : is_due host.is_old host.records ≡ false
        → Records h (applied c host.state) (active host.root) (host.records + 1) (makes_change h host why c first os w).world
    leaves_more early = leaves host (ready_early host early) (or_parts host.is_old (nat_le 4096 host.records) early).0
