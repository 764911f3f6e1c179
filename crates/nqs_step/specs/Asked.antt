-- Who is answered, and what a step makes for each row.
use Rattle.std.specs.Prelude.{ℕ, if◌then◌else◌, List, [], ◌∷◌}
use Rattle.nqs_rules.specs.Step.{Asker as Asked, kill, runs_in_queue}
use Rattle.nqs_rules.specs.Stepped.{Pending}
use Rattle.nqs_types.specs.declared.request.Row.{Row}
use Rattle.nqs_step.specs.declared.reply.Asker.{Asker}

-- where a reply goes, in the words of the rules
abbrev pub asked : Asker → Asked
asked a = record { port = a.port; token = a.token }

-- a kill of a row's job, only where it runs in the queue
abbrev pub kill_in : {E : Type 0} → List ℕ → Row E → List (Pending E)
kill_in q r = if runs_in_queue q r then kill r ∷ [] else []
