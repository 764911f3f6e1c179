use Rattle.std.proofs.Common.{drop}
use Rattle.std.specs.List.{AllByRecursion}
use Rattle.nqs_base.specs.Name.{IsName}
use Rattle.nqs_base.proofs.name.names_stand.Given as goal

-- if the names from here on are names, all are
abbrev pub invariant-loop-name : goal.invariant-loop-name
invariant-loop-name l = AllByRecursion IsName (drop l.name-index l.names) → AllByRecursion IsName l.names
