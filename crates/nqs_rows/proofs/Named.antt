-- What holds of an edit of one request, for each edit.
use Rattle.std.proofs.Common.{◌≡◌, ◌+◌}
use Rattle.nqs_state.specs.State.{State}
use Rattle.nqs_rules.specs.Causes.{first_refusal}
use Rattle.nqs_rules.specs.Find.{meant_request, meant_row}
use Rattle.nqs_rules.specs.Rows.{named_causes, rows_causes, change_meant, rows_applied, next_arrival}
use Rattle.nqs_rows.specs.OneRow.{row_causes, row_edited}
use Rattle.nqs_types.specs.declared.ids.Named.{Named}
use Rattle.nqs_types.specs.declared.edit.RowsEdit.{RowsEdit}

module _ {E : Type 0} (s : State E) (id : Named) where
  -- the causes are those of the request's row
  abbrev pub IsByRow : RowsEdit → Type 0
  IsByRow e = first_refusal (named_causes id (row_causes e s) (meant_row id s)) ≡ first_refusal (rows_causes e s)

  -- the edit changes the request's row alone
  abbrev pub IsOfRow : RowsEdit → Type 0
  IsOfRow e = change_meant (meant_request id s) (row_edited e s.arrivals) s ≡ rows_applied e s

  -- or its row, and the last arrival number
  abbrev pub IsMove : RowsEdit → Type 0
  IsMove e = change_meant (meant_request id s) (row_edited e (s.arrivals + 1)) (next_arrival s) ≡ rows_applied e s
