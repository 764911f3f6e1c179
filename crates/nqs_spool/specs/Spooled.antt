-- What a spool tells.
use Rattle.std.specs.Prelude.{ℕ, ◌≤◌, IsTrue, List, [], ◌∷◌, length}
use Rattle.std.specs.List.{AllByRecursion}
use Rattle.nqs_outside.specs.History.{History, content, IsQuiet}
use Rattle.nqs_outside.specs.declared.disk.Disk as disk
use Rattle.nqs_base.specs.declared.extent.Extent.{Extent}
use Rattle.nqs_spool.specs.Extents.{past, Covers}
use Rattle.nqs_spool.specs.Live as live
use Rattle.nqs_spool.specs.declared.spool.Spool.{Spool}

module _ {D : Type 0} {g : disk.Ghosts D} where
  -- the disk that it keeps its bytes on
  abbrev pub disk_of : Spool D g → D
  disk_of spool = spool.disk

  -- what the disk did
  abbrev pub history_of : Spool D g → History
  history_of spool = g.history spool.disk

  -- how many more extents it has memory for
  abbrev pub room_of : Spool D g → ℕ
  room_of spool = live.room_of spool.live

  -- the place that these bytes get
  abbrev pub place_for : Spool D g → List ℕ → ℕ
  place_for spool [] = 0
  place_for spool (byte ∷ bytes) = live.place_for spool.live (length (byte ∷ bytes))

  -- These are the live extents: no two meet, all lie within the disk, and nothing is pending on it.
  pub record Tells (spool : Spool D g) (extents : List Extent) : Type 0 where
    pub live : Covers (live.kept spool.live) extents
    pub within : IsTrue g.tells → AllByRecursion (λ extent. past extent ≤ length (content (g.history spool.disk))) extents
    pub quiet : IsTrue g.tells → IsQuiet (g.history spool.disk)
