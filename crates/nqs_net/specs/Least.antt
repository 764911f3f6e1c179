-- The running request that an end without a number is meant for.
use Rattle.std.specs.Prelude.{ℕ, List, Option}
use Rattle.std.specs.Option.{option_map}
use Rattle.nqs_base_tables.specs.Table.{best_from}
use Rattle.nqs_types.specs.declared.ids.RequestId.{RequestId}
use Rattle.nqs_types.specs.declared.request.Row.{Row}
use Rattle.nqs_rules.specs.Tests.{is_running}
use Rattle.nqs_rules.specs.World.{is_less_id}

-- a row's id, and how often it was started
abbrev pub start_of : {E : Type 0} → ℕ × Row E → RequestId × ℕ
start_of p = (p.1.id, p.1.starts)

-- the least of the rows that run
abbrev pub least_of : {E : Type 0} → List (Row E) → Option (RequestId × ℕ)
least_of rows = option_map start_of (best_from (λ r. is_running r.state) (λ a b. is_less_id a.id b.id) 0 rows)
