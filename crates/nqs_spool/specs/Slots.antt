-- Lists of slots. A slot is an extent with where the free bytes before it begin.
use Rattle.std.specs.Prelude.{◌≡◌, ℕ, Bool, false, ◌+◌, ◌-◌, ◌<◌, ◌≤◌, max, nat_lt, nat_le, eqb, if◌then◌else◌, List, [], ◌∷◌, Option, Some, None}
use Rattle.std.proofs.Props.{props}
use Rattle.nqs_spool.specs.declared.slot.Slot.{Slot}

-- the free bytes before the extent
abbrev pub gap_of : Slot → ℕ
gap_of slot = slot.place - slot.from

-- the place behind its extent
abbrev pub end_of : Slot → ℕ
end_of slot = slot.place + slot.length

-- the most free bytes before one of the extents
abbrev pub widest_of : List Slot → ℕ
widest_of [] = 0
widest_of (slot ∷ slots) = max (gap_of slot) (widest_of slots)

-- Extents that aren't empty, in order of place, none of which meets another: each begins its free
-- bytes where the one before ends.
abbrev pub IsRow : ℕ → List Slot → ℕ → Type 0
IsRow from [] end = from ≡ end
IsRow from (slot ∷ slots) end = (slot.from ≡ from) × (from ≤ slot.place) × (0 < slot.length) × IsRow (end_of slot) slots end

-- a row from some place to some end
abbrev pub IsSomeRow : List Slot → Type 0
IsSomeRow slots = (from : ℕ) × ((end : ℕ) × IsRow from slots end)

-- the free bytes before the extent begin here, if anywhere new
abbrev pub set_from : Option ℕ → Slot → Slot
set_from None slot = slot
set_from (Some from) slot = record slot { from = from }

-- so many bytes from a place on, before which bytes are free from another
abbrev pub slot_at : ℕ → ℕ → ℕ → Slot
slot_at from place count = record { from = from; place = place; length = count }

-- where the first free bytes begin that are so many; those behind all extents have no end
abbrev pub first_fit : ℕ → ℕ → List Slot → ℕ
first_fit count end [] = end
first_fit count end (slot ∷ slots) = if nat_le count (gap_of slot) then slot.from else first_fit count end slots

-- one extent more
abbrev pub inserted : ℕ → ℕ → ℕ → List Slot → List Slot
inserted place count end [] = slot_at end place count ∷ []
inserted place count end (slot ∷ slots) =
    if nat_lt place slot.place then slot_at slot.from place count ∷ set_from (Some (place + count)) slot ∷ slots else slot ∷ inserted place count end slots

-- where its bytes end, if it is the last
abbrev pub ended : ℕ → ℕ → List Slot → Option ℕ
ended place count [] = Some (place + count)
ended place count (slot ∷ slots) = if nat_lt place slot.place then None else ended place count slots

-- the first slot begins its free bytes here
abbrev pub begun_at : ℕ → List Slot → List Slot
begun_at from [] = []
begun_at from (slot ∷ slots) = set_from (Some from) slot ∷ slots

-- without the extent at the place
abbrev pub removed : ℕ → List Slot → List Slot
removed place [] = []
removed place (slot ∷ slots) = if eqb slot.place place then begun_at slot.from slots else slot ∷ removed place slots

-- where its free bytes began, if it was the last
abbrev pub begun_if_empty : ℕ → List Slot → Option ℕ
begun_if_empty from [] = Some from
begun_if_empty from (slot ∷ slots) = None

-- where the free bytes began before the extent at the place, if none is behind it
abbrev pub left_by : ℕ → List Slot → Option ℕ
left_by place [] = None
left_by place (slot ∷ slots) = if eqb slot.place place then begun_if_empty slot.from slots else left_by place slots

-- the bytes from `place` on to `past` lie between these two ends
abbrev pub lies_between : (place past from to : ℕ) → Bool
lies_between place past from to = if nat_le from place then nat_le past to else false

-- whether these bytes are free, where those behind all extents are free up to the limit
abbrev pub is_free : (place past end limit : ℕ) → List Slot → Bool
is_free place past end limit [] = lies_between place past end limit
is_free place past end limit (slot ∷ slots) =
    if nat_lt place slot.place then lies_between place past slot.from slot.place else is_free place past end limit slots

-- It is a proposition, so a type can keep it.
pub IsRow-prop : (from : ℕ) (slots : List Slot) (end : ℕ) → IsProp (IsRow from slots end)
IsRow-prop from [] end = Prim.hlevel props
IsRow-prop from (slot ∷ slots) end =
    let later = IsRow-prop (end_of slot) slots end in
    let place : IsProp (slot.from ≡ from) = Prim.hlevel props in
    let order : IsProp (from ≤ slot.place) = Prim.hlevel props in
    let some : IsProp (0 < slot.length) = Prim.hlevel props in
    λ x y j. (place x.0 y.0 j, order x.1 y.1 j, some x.2 y.2 j, later x.3 y.3 j)
