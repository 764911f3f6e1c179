use Rattle.std.proofs.Common.{◌≡◌, ◌≤◌, IsTrue, length, map, drop}
use Rattle.nqs_store.specs.Reads.{of_spool}
use Rattle.nqs_store.specs.Stores.{is_stopped, active_of, bytes_of, Tells, OnlyReads, AsksAtMost}
use Rattle.nqs_store.specs.Told.{Host}
use Rattle.nqs_back.specs.Bare.{without_bytes}
use Rattle.nqs_node.specs.Reading.{read_into, zeros, AreLiveReads, AreShort}
use Rattle.nqs_node.proofs.reads.read_all.Given as goal

-- what is left to read comes after what was read
abbrev pub invariant-loop-read : goal.invariant-loop-read
invariant-loop-read g l = record {
  filled : IsTrue g.D.Disk.tells → (host : Host) → Tells l.fn.store host → AreLiveReads host l.reads
      → read_into (bytes_of l.fn.store) (drop l.read-index l.reads) l.outputs.items ≡ read_into (bytes_of l.fn.store) l.reads l.fn.outputs.items;
  short : AreShort (read_into zeros l.reads l.fn.outputs.items) → AreShort (read_into zeros (drop l.read-index l.reads) l.outputs.items);
  as_many : length l.outputs.items ≡ length l.fn.outputs.items;
  alike : map without_bytes l.outputs.items ≡ map without_bytes l.fn.outputs.items;
  reads : OnlyReads l.fn.store l.store;
  stays : (is_stopped l.store ≡ is_stopped l.fn.store) × (active_of l.store ≡ active_of l.fn.store);
  tells : IsTrue g.D.Disk.tells → (host : Host) → Tells l.fn.store host → Tells l.store host;
  asks : AsksAtMost l.fn.store l.store (of_spool l.read-index);
  few : l.read-index ≤ length l.reads;
}
