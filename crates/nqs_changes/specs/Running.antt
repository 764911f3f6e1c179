-- Requests that may run, and what a boot makes of each.
use Rattle.std.specs.Prelude.{Bool, not, ◌||◌, if◌then◌else◌, List, [], ◌∷◌, ◌++◌}
use Rattle.std.specs.List.{list_any, list_all}
use Rattle.nqs_types.specs.Ids.{id_eq}
use Rattle.nqs_state.specs.State.{State}
use Rattle.nqs_types.specs.declared.ids.RequestId.{RequestId}
use Rattle.nqs_types.specs.declared.request.Row.{Row}
use Rattle.nqs_types.specs.declared.change.Change.{Change}
use Rattle.nqs_types.specs.declared.change.Change.TheVariants.{Started, Boot}
use Rattle.nqs_state.specs.Least.{runs_now}
use Rattle.nqs_rules.specs.Tests.{is_running}
use Rattle.nqs_rules.specs.Edits.{change_row, drop_row}
use Rattle.nqs_rules.specs.Fits.{row_passes}
use Rattle.nqs_rules.specs.Applied.{may_start_again, lost_row}

module _ {E : Type 0} where
  -- a row that runs is of one of these requests
  abbrev pub runs_in : List RequestId → Row E → Bool
  runs_in ids r = not (is_running r.state) || list_any (id_eq r.id) ids

  -- no other request than these runs
  abbrev pub runs_only : List RequestId → State E → Bool
  runs_only ids s = list_all (runs_in ids) s.rows

  -- the requests that may run after a change, where these may run before it
  abbrev pub may_run : Change E → List RequestId → List RequestId
  may_run (Started id device) ids = ids ++ id ∷ []
  may_run Boot ids = []
  may_run change ids = ids

  -- what a boot makes of one request
  abbrev pub request_booted : RequestId → State E → State E
  request_booted id s = if row_passes runs_now id s then (if row_passes may_start_again id s then change_row id lost_row s else drop_row id s) else s

  -- one after the other
  abbrev pub requests_booted : List RequestId → State E → State E
  requests_booted [] s = s
  requests_booted (id ∷ ids) s = requests_booted ids (request_booted id s)
