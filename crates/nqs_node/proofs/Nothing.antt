-- What is told where no call is made.
use Rattle.std.proofs.Common.{◌≡◌, inl, inr, ℕ, Bool, true, false, not, List, [], map, IsTrue, IsErrOf, Err, None, Some, refl, sym, ap, subst}
use Rattle.std.proofs.Common.{arith}
use Rattle.std.proofs.Math.Seq.{take-nil}
use Rattle.nqs_state.specs.State.{Plain}
use Rattle.nqs_base.specs.declared.extent.Extent.{Extent}
use Rattle.nqs_types.specs.declared.change.Change.{Change}
use Rattle.nqs_types.specs.declared.world.Which.{Which}
use Rattle.nqs_types.specs.declared.world.Which.TheVariants.{First, Second}
use Rattle.nqs_outside.specs.History.{State, History, state, after, IsImage, IsQuiet}
use Rattle.nqs_outside.specs.declared.disk.Disk as disk
use Rattle.nqs_rules.specs.Applied.{applied}
use Rattle.nqs_rules.specs.Journals.{journal_on}
use Rattle.nqs_rules.specs.Stepped.{stored_parts}
use Rattle.nqs_store.specs.Active.{Active}
use Rattle.nqs_store.specs.Commits.{EachImage, Keeping}
use Rattle.nqs_store.specs.Sound.{IsSoundHost}
use Rattle.nqs_store.specs.Told.{Host}
use Rattle.nqs_store.specs.Stores.{history_of, plain_of, Tells}
use Rattle.nqs_store.specs.declared.store.Store.{Store}
use Rattle.nqs_store.specs.Images.{IsTold}
use Rattle.nqs_store.specs.Hosts.{StopsShort, part}
use Rattle.nqs_store.proofs.Composed.{by_weaker, idle_by, none_begun}
use Rattle.nqs_store.proofs.EachDisk.{each_disk}
use Rattle.nqs_store.proofs.Kept.{idle_commits, left_alone}
use Rattle.nqs_store.proofs.TellsNow.{told_now, active_quiet}
use Rattle.nqs_node.specs.Carried.{Kept, IsOneOrOther}
use Rattle.nqs_node.specs.Makes.{Makes}

-- A change is to be kept, and no call of its commit was made yet: quiet disks that tell a state
-- still tell it.
none_made : (a : Active) (puts : List (List ℕ)) (old : Which → History) (before later : Plain) → ((which : Which) → IsQuiet (old which))
    → EachImage old (λ images. IsTold images before) → Keeping a puts old old before later
none_made a puts old before later quiet told = record {
  calls = by_weaker (idle_by a old old puts (λ which. refl)) (λ planned run short. inr short);
  told = λ j images within leaves.
      inl (told images (λ which. subst (λ l. IsImage (after (state (old which)) (part which l)) (images which)) (take-nil j) (leaves which)));
  settled = λ j v w apart.
      inl (subst (λ l. (after (state (old v)) (part v l)).ranges ≡ []) (sym (take-nil j)) (ap (λ (s : State). s.ranges) (quiet v)));
  one_more = λ whole. absurd (subst (λ l. StopsShort l []) (sym whole) (none_begun a [] (map (λ _. 0) puts) puts 0 []));
}

-- The same, whatever is to be kept.
pub none_one : (a : Active) (old now : Which → History) → ((which : Which) → now which ≡ old which) → ((which : Which) → IsQuiet (old which)) → (s : Plain)
    → EachImage old (λ images. IsTold images s) → (kept : Kept) → IsOneOrOther a old now kept s
none_one a old now same quiet s told None = (same, told)
none_one a old now same quiet s told (Some c) =
    subst (λ (h : Which → History). Keeping a (stored_parts c) old h s (applied c s)) (λ j which. sym (same which) j)
    (none_made a (stored_parts c) old s (applied c s) quiet told)

-- a store that tells a host

on_both : (P : Which → Type 0) (second : Bool) → P (journal_on second) → P (journal_on (not second)) → P First × P Second
on_both P false one other = (one, other)
on_both P true one other = (other, one)

module _ {D : Type 0} {g : disk.Ghosts D} (store : Store D g) (host : Host) (yes : IsTrue g.tells) (tells : Tells store host) where
  pub all_quiet : (which : Which) → IsQuiet (history_of store which)
  all_quiet =
      let both = on_both (λ which. IsQuiet (history_of store which)) store.on_second (active_quiet store host tells) tells.rest in
      each_disk (λ which. IsQuiet (history_of store which)) tells.root both.0 both.1 (tells.spool.quiet yes)

  pub told_images : EachImage (history_of store) (λ images. IsTold images (plain_of store host))
  told_images images leaves = (told_now store host tells yes images leaves).0

-- An error came before the first call of a change, and it's none of a disk.
pub makes_none : {D E : Type 0} {g : disk.Ghosts D} (store : Store D g) (host : Host) → IsSoundHost host → (change : Change Extent) (puts : List (List ℕ))
    (failed : Which → E) (refused e : E) → ((which : Which) → IsErrOf {T = Unit {0}} (Err e) (failed which) → ⊥)
    → Makes {T = Unit {0}} store store host host change puts failed refused (Err e)
makes_none store host sound change puts failed refused e none = record {
  sound = sound;
  site = refl;
  err = refl;
  bare = tt;
  active = tt;
  told = λ yes tells. tt;
  plain = λ yes tells. tt;
  memory = λ is. left_alone store;
  stops = record { running = tt; broken = λ which is. absurd (none which is); later = λ which. omega arith; fuse = λ yes which i. refl };
  calls = idle_commits store store change puts host failed e (λ which. refl) none;
}
