-- What an index keeps of rows.
use Rattle.std.specs.Prelude.{◌≡◌, ℕ, ◌+◌, ◌*◌, ◌^◌, ◌<◌, nat_lt, Bool, ◌&&◌, ◌||◌, List, length, map}
use Rattle.nqs_types.specs.RowStates.{is_running}
use Rattle.nqs_types.specs.declared.ids.RequestId.{RequestId}
use Rattle.nqs_types.specs.declared.request.Row.{Row}
use Rattle.nqs_index.specs.declared.class.Class.{Class}
use Rattle.nqs_index.specs.declared.classes.ClassLine.{ClassLine}
use Rattle.nqs_index.specs.declared.line.Entry.{Entry}
use Rattle.nqs_index.specs.declared.index.Index.{Index}
use Rattle.nqs_index.specs.declared.seat.Seat.{Seat}
use Rattle.nqs_index.specs.declared.tally.Tally.{Tally}
use Rattle.nqs_index.specs.Classes.{number_in, line_of, AreInOrder, AreFilled, AreApart}
pub use Rattle.nqs_index.specs.Numbers.{number, IsMore}
use Rattle.nqs_index.specs.QueueLines.{classes_under}
use Rattle.nqs_index.specs.Runs.{ids_of}
use Rattle.nqs_index.specs.Seats.{entry_of, waits_in, counts_for, seat_of}
use Rattle.nqs_index.specs.Tallies.{count_of}

-- how many rows the index counts under a tally
abbrev pub counted_in : Tally → Index → ℕ
counted_in tally index = count_of tally index.counters.items

-- the index's classes of a queue; none where the queue has none
abbrev pub classes_in : List ℕ → Index → List ClassLine
classes_in queue index = classes_under queue index.lines.items

-- the entries of a class of a queue; none where nobody of it waits there
abbrev pub line_in : List ℕ → Class → Index → List Entry
line_in queue class index = line_of class (classes_in queue index)

-- the requests that run
abbrev pub running_in : Index → List RequestId
running_in index = ids_of index.runs.items

-- the index has more queues with lines, or more counters, than it may have
abbrev pub is_crowded : Index → Bool
is_crowded index = nat_lt index.most (length index.lines.items) || nat_lt index.most (length index.counters.items)

-- an index that is made of so many rows may have eight times as many queues, and as many counters,
-- and a thousand, before it is crowded
abbrev pub MayHave : ℕ → Index → Type 0
MayHave n index = 8 * n + 1024 < 2 ^ 64 → index.most ≡ 8 * n + 1024

-- Each count is that of the seats that it counts. The lines of a queue's classes have just the
-- entries of those that wait in it, each in the line of its class: by each test as many of the ones
-- pass as of the others. Each line is in order and has an entry, and no class has two. The running
-- requests are those of the seats that run.
pub record Stands (index : Index) (ts : List Seat) : Type 0 where
  pub counts : (tally : Tally) → counted_in tally index ≡ number (counts_for tally) ts
  pub lines : (queue : List ℕ) (test : Class → Entry → Bool) → number_in test (classes_in queue index)
      ≡ number (λ t. waits_in queue t && test t.class (entry_of t)) ts
  pub running : (test : RequestId → Bool) → number test (running_in index) ≡ number (λ t. is_running t.state && test t.id) ts
  pub order : (queue : List ℕ) → AreInOrder (classes_in queue index)
  pub filled : (queue : List ℕ) → AreFilled (classes_in queue index)
  pub apart : (queue : List ℕ) → AreApart (classes_in queue index)

-- the index stands for the rows
abbrev pub StandsForIndex : {E : Type 0} → Index → List (Row E) → Type 0
StandsForIndex index rows = Stands index (map seat_of rows)
