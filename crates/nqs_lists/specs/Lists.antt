-- Words of a line, and the lines of one queue.
use Rattle.std.specs.Prelude.{◌++◌, if◌then◌else◌, List, [], map, codes, Option}
use Rattle.nqs_state.specs.State.{State}
use Rattle.nqs_rules.specs.Text.{Text, listed_rows, is_asked, row_line}
use Rattle.nqs_types.specs.declared.queue.QueueDef.{QueueDef}

-- a word with a space in front
abbrev pub spaced : Text → Text
spaced word = codes " " ++ word

module _ {E : Type 0} where
  -- the lines of a queue's requests, only where the queue is asked for
  abbrev pub asked_lines : Option Text → List Text → State E → QueueDef → List Text
  asked_lines user queues s d = if is_asked queues d then map (row_line s) (listed_rows user s d) else []
