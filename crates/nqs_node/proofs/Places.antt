-- Lists by places, and reads from a store that hasn't changed.
use Rattle.std.proofs.Common.{Err, Ok, IsErrOf}
use Rattle.std.proofs.Common.{◌≡◌, ℕ, zero, suc, ◌<◌, ◌≤◌, List, [], ◌∷◌, length, get_or, slice_set, refl, sym, ap, subst, ◌∙◌, arith}
use Rattle.std.specs.List.{AllByRecursion}
use Rattle.nqs_outside.proofs.Roses.{rose_since}
use Rattle.nqs_outside.specs.History.{moment}
use Rattle.nqs_rules.specs.Edits.{change_at}
use Rattle.nqs_outside.specs.declared.disk.Disk as disk
use Rattle.nqs_types.specs.declared.world.Which.{Which}
use Rattle.nqs_base.specs.declared.memory.Memory.{Memory}
pub use Rattle.nqs_base.proofs.Plain.{refuted as not_both}
use Rattle.nqs_store.specs.declared.fault.StoreFault.TheVariants as fault
use Rattle.nqs_store.specs.Stores.{OnlyReads, FailedToRead}
use Rattle.nqs_store.specs.declared.store.Store.{Store}

pub set_at : {V : Type 0} (vs : List V) (i : ℕ) (f : V → V) (d : V) → i < length vs → slice_set vs i (f (get_or vs i d)) ≡ change_at i f vs
set_at [] i f d lt = absurd (omega (arith, lt))
set_at (v ∷ vs) zero f d lt = refl
set_at (v ∷ vs) (suc i) f d lt = ap (λ l. v ∷ l) (set_at vs i f d (omega (arith, lt)))

pub none_at : {V : Type 0} (vs : List V) (i : ℕ) (f : V → V) → length vs ≤ i → vs ≡ change_at i f vs
none_at [] i f le = refl
none_at (v ∷ vs) zero f le = absurd (omega (arith, le))
none_at (v ∷ vs) (suc i) f le = ap (λ l. v ∷ l) (none_at vs i f (omega (arith, le)))

pub all_at : {V : Type 0} (P : V → Type 0) (vs : List V) (i : ℕ) (d : V) → AllByRecursion P vs → i < length vs → P (get_or vs i d)
all_at P [] i d all lt = absurd (omega (arith, lt))
all_at P (v ∷ vs) zero d all lt = all.0
all_at P (v ∷ vs) (suc i) d all lt = all_at P vs i d all.1 (omega (arith, lt))

-- a store that is only read, once and again

module _ {D : Type 0} {g : disk.Ghosts D} where
  pub reads_none : (store : Store D g) → OnlyReads store store
  reads_none store = record { same = λ yes which. refl; fuse = λ yes which i. refl; starved = λ yes which. refl; later = λ which. omega arith }

  pub reads_then : (a b c : Store D g) → OnlyReads a b → OnlyReads b c → OnlyReads a c
  reads_then a b c one two = record {
    same = λ yes which. two.same yes which ∙ one.same yes which;
    fuse = λ yes which i. two.fuse yes which i ∙ one.fuse yes which i;
    starved = λ yes which. two.starved yes which ∙ one.starved yes which;
    later = λ which. omega (arith, one.later which, two.later which);
  }

  pub failed_since : (a b c : Store D g) (which : Which) → OnlyReads a b → FailedToRead b c which → FailedToRead a c which
  failed_since a b c which reads failed = record {
    rose = rose_since _ _ _ (reads.later which) failed.rose;
    blown = λ yes.
        let blown = failed.blown yes in
        (blown.0, subst (λ x. blown.0 < moment x) (reads.same yes which) blown.1, sym (reads.fuse yes which blown.0) ∙ blown.2);
  }

-- an answer is one or the other

pub no_error : {T E : Type 0} (x : T) (e : E) → IsErrOf {T = T} {E = E} (Ok x) e → ⊥
no_error x e is = let no : ⊥ = cc in no

pub node_memory : {T : Type 0} (memory : Memory) (which : Which) → IsErrOf {T = T} (Err (fault.Memory memory)) (fault.Disk which) → ⊥
node_memory memory which is = let no : ⊥ = cc in no

pub node_stopped : {T : Type 0} (which : Which) → IsErrOf {T = T} (Err fault.Stopped) (fault.Disk which) → ⊥
node_stopped which is = let no : ⊥ = cc in no

pub node_disk : {T : Type 0} (w which : Which) → IsErrOf {T = T} (Err (fault.Disk w)) (fault.Disk which) → w ≡ which
node_disk w which is = cc
