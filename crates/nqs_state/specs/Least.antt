-- The running request that is the least.
use Rattle.std.specs.Prelude.{Bool, List, Option}
use Rattle.std.specs.Option.{option_map}
use Rattle.nqs_base_tables.specs.Table.{best_from}
use Rattle.nqs_types.specs.RowStates.{is_running}
use Rattle.nqs_types.specs.declared.request.Row.{Row}
use Rattle.nqs_index.specs.Runs.{is_less_id}

module _ {E : Type 0} where
  -- whether a row runs
  abbrev pub runs_now : Row E → Bool
  runs_now r = is_running r.state

  -- whether a row's request is less than another's, by the host of its submission and then by its
  -- number
  abbrev pub is_less_row : Row E → Row E → Bool
  is_less_row a b = is_less_id a.id b.id

  -- the first of the running rows whose request is the least
  abbrev pub least_running : List (Row E) → Option (Row E)
  least_running rows = option_map (λ p. p.1) (best_from runs_now is_less_row 0 rows)
