-- What a call leaves that only reads a host's disks, what one says that failed, and how often a
-- call asks them for bytes or for a length.
use Rattle.std.specs.Prelude.{◌≡◌, ℕ, ◌+◌, ◌≤◌, Bool, if◌then◌else◌, IsTrue}
use Rattle.nqs_types.specs.declared.world.Which.{Which}
use Rattle.nqs_types.specs.declared.world.Which.TheVariants.{Root, First, Second, Spool}
use Rattle.nqs_outside.specs.Reads as one
use Rattle.nqs_outside.specs.declared.disk.Disk as disk

-- the spool is asked so often, and no other disk
abbrev pub of_spool : ℕ → Which → ℕ
of_spool times Root = 0
of_spool times First = 0
of_spool times Second = 0
of_spool times Spool = times

-- A reading of the host asks the root once, for its first byte; the journal that it names, which is
-- that on `second` or isn't, twice, for its length and for its bytes; the other one never; and the
-- spool once, for its length.
abbrev pub of_reading : Bool → Which → ℕ
of_reading second Root = 1
of_reading second First = if second then 0 else 2
of_reading second Second = if second then 2 else 0
of_reading second Spool = 1

module _ {D : Type 0} (g : disk.Ghosts D) (old now : Which → D) where
  -- No disk made a counted call or was given another fuse, none is starved that wasn't, and no
  -- count of faults fell.
  pub record OnlyReads : Type 0 where
    pub same : IsTrue g.tells → (which : Which) → g.history (now which) ≡ g.history (old which)
    pub fuse : IsTrue g.tells → (which : Which) (i : ℕ) → g.fails (now which) i ≡ g.fails (old which) i
    pub starved : IsTrue g.tells → (which : Which) → g.starved (now which) ≡ g.starved (old which)
    pub later : (which : Which) → g.faults (old which) ≤ g.faults (now which)

  -- a read of this disk failed
  abbrev pub FailedToRead : Which → Type 0
  FailedToRead which = one.FailedToRead g (old which) (now which)

  -- each disk was asked for bytes or for its length so often at most
  abbrev pub AsksAtMost : (Which → ℕ) → Type 0
  AsksAtMost times = IsTrue g.tells → (which : Which) → g.reads (now which) ≤ g.reads (old which) + times which

  -- none was
  abbrev pub AsksNone : Type 0
  AsksNone = IsTrue g.tells → (which : Which) → g.reads (now which) ≡ g.reads (old which)
