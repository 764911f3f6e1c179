-- The edits of one request, as tests and changes of its row.
use Rattle.std.specs.Prelude.{ℕ, ◌+◌, List, [], ◌++◌}
use Rattle.nqs_state.specs.State.{State}
use Rattle.nqs_rules.specs.Causes.{Cause}
use Rattle.nqs_rules.specs.Rows.{idle_causes, hold_causes, release_causes, move_causes, held_row, released_row, moved_row, with_priority}
use Rattle.nqs_types.specs.declared.request.Row.{Row}
use Rattle.nqs_types.specs.declared.edit.RowsEdit.{RowsEdit}
use Rattle.nqs_types.specs.declared.edit.RowsEdit.TheVariants.{AbortQueue, HoldRequest, ReleaseRequest, MoveRequest, ModifyRequest}

module _ {E : Type 0} where
  -- why the row of an edit's request refuses it
  abbrev pub row_causes : RowsEdit → State E → Row E → List Cause
  row_causes (AbortQueue _) s r = []
  row_causes (HoldRequest id) s r = hold_causes id r
  row_causes (ReleaseRequest id) s r = release_causes id r
  row_causes (MoveRequest id q) s r = move_causes id q s r
  row_causes (ModifyRequest id _) s r = idle_causes id r

  -- what an edit makes of its request's row; a moved one gets this arrival
  abbrev pub row_edited : RowsEdit → ℕ → Row E → Row E
  row_edited (AbortQueue _) arrival r = r
  row_edited (HoldRequest _) arrival r = held_row r
  row_edited (ReleaseRequest _) arrival r = released_row r
  row_edited (MoveRequest _ q) arrival r = moved_row q arrival r
  row_edited (ModifyRequest _ n) arrival r = with_priority n r
