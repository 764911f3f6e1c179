-- How often a node asks its disks for bytes or for a length.
use Rattle.std.proofs.Common.{◌≡◌, ◌≤◌, ◌+◌, ◌++◌, ℕ, List, [], ◌∷◌, Option, None, Some, option_map, Result, Ok, Err, MatchResult, map, length, refl, sym}
use Rattle.std.proofs.Common.{subst, arith}
use Rattle.nqs_base.specs.declared.extent.Extent.{Extent}
use Rattle.nqs_types.specs.declared.world.Which.{Which}
use Rattle.nqs_types.specs.declared.world.Which.TheVariants.{Root, First, Second, Spool}
use Rattle.nqs_outside.specs.declared.disk.Disk as disk
use Rattle.nqs_rules.specs.Stepped.{Pending, Stepped, map_pending, map_stepped, plan_of, read_at, reads_from}
use Rattle.nqs_store.specs.Disks.{disk_at}
use Rattle.nqs_store.specs.Reads as reads
use Rattle.nqs_store.specs.Reads.{of_spool}
use Rattle.nqs_store.specs.Stores.{disk_of, AsksAtMost, AsksNone}
use Rattle.nqs_store.specs.declared.disks.Disks.{Disks}
use Rattle.nqs_store.specs.declared.fault.LoadFault.{LoadFault}
use Rattle.nqs_store.specs.declared.store.Store.{Store}
use Rattle.nqs_store.proofs.EachDisk.{each_disk}
use Rattle.nqs_node.specs.Nodes as nodes
use Rattle.nqs_node.specs.Reading.{reads_of, reads_for}
use Rattle.nqs_node.specs.declared.node.Node.{Node}

-- a plan reads once for each output whose bytes are kept

reads_made : (f : Extent → List ℕ) (n : ℕ) (ps : List (Pending Extent)) → length (reads_from n ps) ≡ reads_for (map (map_pending f) ps)
reads_made f n [] = refl
reads_made f n (p ∷ ps) = one p.1 (reads_made f (n + 1) ps)
  where
    one : (o : Option Extent) → length (reads_from (n + 1) ps) ≡ reads_for (map (map_pending f) ps)
        → length (read_at n o ++ reads_from (n + 1) ps) ≡ reads_of (option_map f o) + reads_for (map (map_pending f) ps)
    one None same = omega (arith, same)
    one (Some x) same = omega (arith, same)

pub plan_reads : (f : Extent → List ℕ) (done : Stepped Extent) → length (plan_of done).reads ≡ reads_for (map_stepped f done).outputs
plan_reads f done = reads_made f 0 done.outputs

-- a store that is asked once more, and not again

module _ {D : Type 0} {g : disk.Ghosts D} where
  pub asks_then : (a b c : Store D g) (n : ℕ) → AsksAtMost a b (of_spool n) → AsksAtMost b c (of_spool 1) → AsksAtMost a c (of_spool (n + 1))
  asks_then a b c n one two = λ yes.
      each_disk (λ w. g.reads (disk_of w c) ≤ g.reads (disk_of w a) + of_spool (n + 1) w)
      (omega (arith, one yes Root, two yes Root)) (omega (arith, one yes First, two yes First)) (omega (arith, one yes Second, two yes Second))
      (omega (arith, one yes Spool, two yes Spool))

  pub asks_more : (a b : Store D g) (n m : ℕ) → n ≤ m → AsksAtMost a b (of_spool n) → AsksAtMost a b (of_spool m)
  asks_more a b n m more asks = λ yes.
      each_disk (λ w. g.reads (disk_of w b) ≤ g.reads (disk_of w a) + of_spool m w)
      (asks yes Root) (asks yes First) (asks yes Second) (omega (arith, more, asks yes Spool))

  pub asks_no_more : (a b c : Store D g) (times : Which → ℕ) → AsksAtMost a b times → AsksNone b c → AsksAtMost a c times
  asks_no_more a b c times asks none = λ yes w. subst (λ k. k ≤ g.reads (disk_of w a) + times w) (sym (none yes w)) (asks yes w)

  -- disks that were loaded are asked no more, whatever a boot answers
  pub asks_booted : (disks : Disks D) (store : Store D g) (times : Which → ℕ) (r : Result (Node D g) (LoadFault × Disks D))
      → reads.AsksAtMost g (λ at. disk_at at disks) (λ at. disk_of at store) times
      → MatchResult r (λ node. reads.AsksNone g (λ at. disk_of at store) (λ at. nodes.disk_of at node))
      (λ e. reads.AsksNone g (λ at. disk_of at store) (λ at. disk_at at e.1))
      → MatchResult r (λ node. reads.AsksAtMost g (λ at. disk_at at disks) (λ at. nodes.disk_of at node) times)
      (λ e. reads.AsksAtMost g (λ at. disk_at at disks) (λ at. disk_at at e.1) times)
  asks_booted disks store times (Ok node) asks none = λ yes w. subst (λ k. k ≤ g.reads (disk_at w disks) + times w) (sym (none yes w)) (asks yes w)
  asks_booted disks store times (Err e) asks none = λ yes w. subst (λ k. k ≤ g.reads (disk_at w disks) + times w) (sym (none yes w)) (asks yes w)
