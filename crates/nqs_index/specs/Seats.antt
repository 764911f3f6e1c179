-- What an index sees of a row.
use Rattle.std.specs.Prelude.{ℕ, ◌+◌, Bool, false, ◌&&◌, List, Option, None, Some}
use Rattle.std.specs.List.Sorted.{IsSortedBy}
use Rattle.nqs_base.specs.Same.{name_eq}
use Rattle.nqs_types.specs.declared.request.Row.{Row}
use Rattle.nqs_types.specs.RowStates.{is_running, is_active, is_ready}
use Rattle.nqs_index.specs.declared.line.Entry.{Entry}
use Rattle.nqs_index.specs.declared.seat.Seat.{Seat}
use Rattle.nqs_index.specs.declared.tally.Tally.{Tally}
use Rattle.nqs_index.specs.declared.tally.Tally.TheVariants.{Active, Running, Owned, Printing}
use Rattle.nqs_index.specs.Classes.{class_of}
use Rattle.nqs_index.specs.Keys.{key_of, is_before}
use Rattle.nqs_index.specs.Lines.{entry_at}
use Rattle.nqs_index.specs.Tallies.{tally_eq, one}

-- the entry of a seat
abbrev pub entry_of : Seat → Entry
entry_of t = entry_at t.key t.id

-- the row of one seat starts before that of the other
abbrev pub starts_before : Seat → Seat → Bool
starts_before t u = is_before t.key u.key

-- no seat's row starts before that of an earlier one
abbrev pub StandInOrder : List Seat → Type 0
StandInOrder = IsSortedBy starts_before

-- the seat waits in the line of the queue: a held one doesn't
abbrev pub waits_in : List ℕ → Seat → Bool
waits_in q t = t.ready && name_eq q t.queue

-- whether there is a name, and it is this one
abbrev pub same_name_as : List ℕ → Option (List ℕ) → Bool
same_name_as d None = false
same_name_as d (Some e) = name_eq d e

-- whether a seat counts under a tally
abbrev pub counts_for : Tally → Seat → Bool
counts_for (Active q) t = is_active t.state && name_eq q t.queue
counts_for (Running q) t = is_running t.state && name_eq q t.queue
counts_for (Owned q o) t = (is_active t.state && name_eq q t.queue) && name_eq o t.class.owner
counts_for (Printing d) t = is_running t.state && same_name_as d t.device

-- whether a tally is that of a device, where there is one
abbrev pub is_of_device : Tally → Option (List ℕ) → Bool
is_of_device k None = false
is_of_device k (Some device) = tally_eq k (Printing device)

-- what an active seat adds to a count
abbrev pub ones_of_active : Tally → Seat → ℕ
ones_of_active k t = one (tally_eq k (Active t.queue)) + one (tally_eq k (Owned t.queue t.class.owner))

-- what a running one adds besides
abbrev pub ones_of_running : Tally → Seat → ℕ
ones_of_running k t = one (tally_eq k (Running t.queue)) + one (is_of_device k t.device)

module _ {E : Type 0} where
  -- what an index sees of a row
  abbrev pub seat_of : Row E → Seat
  seat_of r = record { id = r.id; queue = r.queue; class = class_of r; state = r.state; ready = is_ready r; device = r.device; key = key_of r }
