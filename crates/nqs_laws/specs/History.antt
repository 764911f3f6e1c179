-- What happened in a run: what was seen, and the changes that were kept, in their order.
use Rattle.std.specs.Prelude.{List}
use Rattle.nqs_rules.specs.Notes.{Note}
use Rattle.nqs_rules.specs.Run.{run}
use Rattle.nqs_rules.specs.World.{World, Act}

-- what happens in a run
abbrev pub history : List Act → World → List Note
history acts w = (run acts w).notes
