use Rattle.std.proofs.Common.{◌≡◌, true, take}
use Rattle.std.specs.List.{list_all}
use Rattle.nqs_changes.specs.Running.{runs_in}
use Rattle.nqs_store.proofs.tell.running_of.Given as goal

-- of the rows so far no other requests than these run
abbrev pub invariant-loop-place : goal.invariant-loop-place
invariant-loop-place l = list_all (runs_in l.running.items) (take l.place l.state.rows.items) ≡ true
