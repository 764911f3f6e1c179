-- The lines of a host's queues.
use Rattle.std.specs.Prelude.{◌≡◌, ℕ, Bool, if◌then◌else◌, List, [], Option, None, Some, find, slice_get, slice_set}
use Rattle.nqs_base_tables.specs.Table.{Roomy, has_key}
use Rattle.nqs_base.specs.Same.{name_eq}
use Rattle.nqs_index.specs.declared.class.Class.{Class}
use Rattle.nqs_index.specs.declared.classes.ClassLine.{ClassLine}
use Rattle.nqs_index.specs.declared.line.Entry.{Entry}
use Rattle.nqs_index.specs.declared.lines.QueueLines.{QueueLines}
use Rattle.nqs_index.specs.Classes.{entered_in, taken_from}

-- whether lines are this queue's
abbrev pub is_queue : List ℕ → QueueLines → Bool
is_queue queue = has_key name_eq (λ q. q.name) queue

-- the classes' lines of a queue; none where there is no queue
abbrev pub lines_for : Option QueueLines → List ClassLine
lines_for None = []
lines_for (Some q) = q.classes.items

-- the classes' lines of the queue of a name
abbrev pub classes_under : List ℕ → List QueueLines → List ClassLine
classes_under queue lines = lines_for (find (is_queue queue) lines)

-- a queue with other lines
abbrev pub with_classes : Roomy ClassLine → QueueLines → QueueLines
with_classes classes q = record { name = q.name; classes = classes }

-- the lines of the queue at a place become others by a rule, and no other queue changes
abbrev pub BecomesAt : ℕ → (List ClassLine → List ClassLine → Type 0) → List QueueLines → List QueueLines → Type 0
BecomesAt place Rule old new = (q : QueueLines) → slice_get old place ≡ Some q
    → (classes : Roomy ClassLine) × Rule q.classes.items classes.items × (new ≡ slice_set old place (with_classes classes q))

-- the lines, with one entry more where it is so
abbrev pub entered_if : Bool → Class → Entry → List ClassLine → List ClassLine
entered_if b c x ls = if b then entered_in c x ls else ls

-- the lines, without one entry where it is so
abbrev pub taken_if : Bool → Class → Entry → List ClassLine → List ClassLine
taken_if b c x ls = if b then taken_from c x ls else ls
