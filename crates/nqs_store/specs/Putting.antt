-- What putting bytes into a spool leaves.
use Rattle.std.specs.Prelude.{◌≡◌, ℕ, IsTrue, List, [], ◌++◌, map, length, Ok}
use Rattle.std.specs.List.{AllByRecursion}
use Rattle.nqs_base.specs.declared.extent.Extent.{Extent}
use Rattle.nqs_outside.specs.History.{Call, History, content, extended, StopsShort}
use Rattle.nqs_outside.specs.declared.disk.Disk as disk
use Rattle.nqs_spool.specs.Spooled.{history_of, Tells}
use Rattle.nqs_spool.specs.declared.spool.Spool.{Spool}
use Rattle.nqs_types.specs.declared.change.Change.{Change}
use Rattle.nqs_records.specs.Values.{IsScript}
use Rattle.nqs_records.specs.Changes.{MayStand, spelling}
use Rattle.nqs_records.specs.Kinds.{record_of}
use Rattle.nqs_records.specs.Extents.{with_extents}
use Rattle.nqs_store.specs.Accounts.{Adds}
use Rattle.nqs_store.specs.Plan.{puts_calls}
use Rattle.nqs_store.specs.Puts.{place_of, length_of, HoldEach}

-- The first of the calls were made, of which only the last may have failed.
pub record ArePartlyPut (puts : List (List ℕ)) (old now : History) : Type 0 where
  pub places : List ℕ
  pub calls : List Call
  pub many : length places ≡ length puts
  pub made : now ≡ extended old calls
  pub short : StopsShort (puts_calls places puts) calls

module _ {D : Type 0} {g : disk.Ghosts D} where
  -- The bytes are in the spool, each in an extent that the list has more than before.
  pub record ArePut (puts : List (List ℕ)) (old now : Spool D g) (before after : List Extent) : Type 0 where
    pub added : List Extent
    pub is : after ≡ before ++ added
    pub many : length added ≡ length puts
    pub small : AllByRecursion IsScript added
    pub lengths : map length_of added ≡ map length puts
    pub made : IsTrue g.tells → history_of now ≡ extended (history_of old) (puts_calls (map place_of added) puts)
    pub tells : (live more : List Extent) → Tells old live → Adds live added more → Tells now more
    pub held : IsTrue g.tells → (live : List Extent) → Tells old live → HoldEach (content (history_of now)) added puts

  -- The same for a change: its extents are set, and the text spells it and is read as it.
  pub record ArePutFor (before now : Change Extent) (puts : List (List ℕ)) (text : List ℕ) (old new : Spool D g) : Type 0 where
    pub extents : List Extent
    pub are_put : ArePut puts old new [] extents
    pub change : now ≡ with_extents before extents
    pub stands : MayStand now
    pub read : record_of text ≡ Ok now
    pub spelled : text ≡ spelling now
