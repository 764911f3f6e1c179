-- What of the states is in the table: not the bytes of a spool.
use Rattle.std.specs.Prelude.{ℕ, List, []}
use Rattle.nqs_state.specs.State.{Plain, content}
use Rattle.nqs_base.specs.declared.extent.Extent.{Extent}
use Rattle.nqs_types.specs.declared.ids.HostId.{HostId}
use Rattle.nqs_types.specs.declared.request.Row.{Row}
use Rattle.nqs_types.specs.declared.request.Promise.{Promise}
use Rattle.nqs_state.specs.declared.state.HostState.{HostState}
use Rattle.nqs_types.specs.declared.table_row.TableRow.{TableRow}
use Rattle.nqs_rules.specs.Net.{row_entry, promise_entry, table_row}
use Rattle.nqs_rules.specs.Plain.{map_state}

-- in place of what an extent holds: nothing
abbrev pub no_bytes : Extent → List ℕ
no_bytes extent = []

-- the plain state in which each stored text is empty
abbrev pub bare : HostState → Plain
bare state = map_state no_bytes (content state)

-- the table's row for a request in a queue of this host
abbrev pub row_shown : HostId → Row (List ℕ) → TableRow
row_shown host row = table_row (row_entry host row)

-- the table's row for a request that this host was promised
abbrev pub promise_shown : HostId → Promise (List ℕ) → TableRow
promise_shown host promise = table_row (promise_entry host promise)
