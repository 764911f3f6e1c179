-- What a call leaves of a disk that it only reads, and what one says of it that failed.
use Rattle.std.specs.Prelude.{◌≡◌, ℕ, ◌<◌, ◌≤◌, IsTrue}
use Rattle.nqs_outside.specs.Causes.{Rose}
use Rattle.nqs_outside.specs.History.{moment}
use Rattle.nqs_outside.specs.declared.disk.Disk as disk

module _ {D : Type 0} (g : disk.Ghosts D) where
  -- The disk made no counted call, which calls are to fail stays, it isn't starved if it wasn't,
  -- and its count of faults didn't fall.
  pub record OnlyReads (old now : D) : Type 0 where
    pub same : IsTrue g.tells → g.history now ≡ g.history old
    pub fuse : IsTrue g.tells → (i : ℕ) → g.fails now i ≡ g.fails old i
    pub ends : IsTrue g.tells → (i : ℕ) → g.ends now i ≡ g.ends old i
    pub starved : IsTrue g.tells → g.starved now ≡ g.starved old
    pub later : g.faults old ≤ g.faults now

  -- A read of the disk failed: its count of faults rose, and a call that was to fail has been made.
  pub record FailedToRead (old now : D) : Type 0 where
    pub rose : Rose (g.faults old) (g.faults now)
    pub blown : IsTrue g.tells → (i : ℕ) × (i < moment (g.history old)) × IsTrue (g.fails old i)
