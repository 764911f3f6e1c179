-- Extents, and lists of them.
use Rattle.std.specs.Prelude.{◌≡◌, ◌⊎◌, ◌↔◌, ℕ, ◌+◌, ◌<◌, ◌≤◌, min, max, List, [], ◌∷◌, ◌++◌, map, take, drop, length}
use Rattle.std.specs.List.{AllByRecursion}
use Rattle.nqs_base.specs.declared.extent.Extent.{Extent}
use Rattle.nqs_spool.specs.declared.slot.Slot.{Slot}

-- so many bytes from a place on
abbrev pub extent_at : ℕ → ℕ → Extent
extent_at place count = record { place = place; length = count }

-- the place behind its last byte
abbrev pub past : Extent → ℕ
past extent = extent.place + extent.length

-- no byte is in both
abbrev pub IsApart : Extent → Extent → Type 0
IsApart x y = min (past x) (past y) ≤ max x.place y.place

-- it meets none of the list
abbrev pub IsClearOf : List Extent → Extent → Type 0
IsClearOf live extent = AllByRecursion (IsApart extent) live

-- no two of the list meet
abbrev pub AreApart : List Extent → Type 0
AreApart [] = Unit {0}
AreApart (extent ∷ live) = IsClearOf live extent × AreApart live

-- the least place at which so many bytes meet none of the list
pub record IsLeastPlace (live : List Extent) (count place : ℕ) : Type 0 where
  pub clear : IsClearOf live (extent_at place count)
  pub least : (other : ℕ) → IsClearOf live (extent_at other count) → place ≤ other

-- it is one of the list
abbrev pub Has : List Extent → Extent → Type 0
Has [] extent = ⊥
Has (first ∷ rest) extent = (extent ≡ first) ⊎ Has rest extent

-- the second list is the first with the extent put in somewhere
pub record IsWith (live : List Extent) (extent : Extent) (more : List Extent) : Type 0 where
  pub front : List Extent
  pub back : List Extent
  pub without : live ≡ front ++ back
  pub within : more ≡ front ++ extent ∷ back

-- it ends within so many bytes
abbrev pub IsWithin : ℕ → Extent → Type 0
IsWithin size extent = past extent ≤ size

-- no two meet, and each ends within so many bytes
pub record AreSound (size : ℕ) (extents : List Extent) : Type 0 where
  pub apart : AreApart extents
  pub within : AllByRecursion (IsWithin size) extents

-- The first extent that runs past so many bytes, or meets an earlier one. It begins at the place.
pub record IsBadExtent (size : ℕ) (extents : List Extent) (place : ℕ) : Type 0 where
  pub before : List Extent
  pub extent : Extent
  pub later : List Extent
  pub is : extents ≡ before ++ extent ∷ later
  pub sound : AreSound size before
  pub bad : (size < past extent) ⊎ (IsClearOf before extent → ⊥)
  pub at : place ≡ extent.place

-- an extent of the bytes holds these
pub record Holds (bytes : List ℕ) (extent : Extent) (script : List ℕ) : Type 0 where
  pub within : past extent ≤ length bytes
  pub same : take extent.length (drop extent.place bytes) ≡ script

-- The first list has the extents of the second that aren't empty, of which no two meet.
pub record Covers (kept live : List Extent) : Type 0 where
  pub same : (extent : Extent) → 0 < extent.length → Has live extent ↔ Has kept extent
  pub apart : AreApart live

-- the extent that a slot keeps
abbrev pub extent_of : Slot → Extent
extent_of slot = extent_at slot.place slot.length

-- the extents of slots, in the same order
abbrev pub extents_of : List Slot → List Extent
extents_of slots = map extent_of slots
