-- What a request is doing in its queue, and whether it is held back.
use Rattle.std.specs.Prelude.{Bool, true, false, ◌&&◌}
use Rattle.nqs_types.specs.declared.request.RowState.{RowState}
use Rattle.nqs_types.specs.declared.request.RowState.TheVariants.{Queued, Routing, Running}
use Rattle.nqs_types.specs.declared.request.Row.{Row}
use Rattle.nqs_types.specs.declared.request.Hold.{Hold}
use Rattle.nqs_types.specs.declared.request.Hold.TheVariants.{No, User, System}

-- whether a request is queued
abbrev pub is_queued : RowState → Bool
is_queued Queued = true
is_queued Routing = false
is_queued Running = false

-- whether a request is being handed over
abbrev pub is_routing : RowState → Bool
is_routing Queued = false
is_routing Routing = true
is_routing Running = false

-- whether a request runs
abbrev pub is_running : RowState → Bool
is_running Queued = false
is_running Routing = false
is_running Running = true

-- a request that runs or is on its way counts against the limits of its queue
abbrev pub is_active : RowState → Bool
is_active Queued = false
is_active Routing = true
is_active Running = true

-- whether a request isn't held
abbrev pub is_unheld : Hold → Bool
is_unheld No = true
is_unheld User = false
is_unheld System = false

-- queued without a hold
abbrev pub is_ready : {E : Type 0} → Row E → Bool
is_ready r = is_queued r.state && is_unheld r.hold
