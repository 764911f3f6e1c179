use Rattle.std.proofs.Common.{◌≡◌, ◌+◌, take, length, Some, IsTrue}
use Rattle.nqs_state.specs.State.{content}
use Rattle.nqs_journal.specs.Text.{records}
use Rattle.nqs_changes.specs.Running.{runs_only}
use Rattle.nqs_store.specs.Told.{told_from}
use Rattle.nqs_store.specs.Sound.{IsSoundHost}
use Rattle.nqs_store.proofs.tell.take_records.Given as goal

-- the records so far make the host, no other requests than these run there, and the next gate
-- stands behind them
abbrev pub invariant-loop-payload : goal.invariant-loop-payload
invariant-loop-payload l = (told_from (Some (content l.initial.state)) (take l.payload-index l.payloads) ≡ Some (content l.state))
    × IsSoundHost (content l.state)
    × (l.at ≡ l.place + length (records (take l.payload-index l.payloads)))
    × IsTrue (runs_only l.running.items (content l.state))
