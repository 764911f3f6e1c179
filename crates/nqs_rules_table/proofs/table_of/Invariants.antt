use Rattle.std.proofs.Common.{◌≡◌, ◌++◌, map, drop}
use Rattle.nqs_rules.specs.Net.{table, table_from}
use Rattle.nqs_rules_table.specs.Shown.{bare}
use Rattle.nqs_rules_table.proofs.table_of.Given as goal

abbrev pub invariant-loop-place : goal.invariant-loop-place
invariant-loop-place l = l.table.items ++ table_from l.place (map bare l.states) (map bare (drop l.place l.states)) ≡ table (map bare l.states)
