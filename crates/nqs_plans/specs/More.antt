-- Plans as they grow.
use Rattle.std.specs.Prelude.{ℕ, false, List, [], ◌++◌, map, length, Some}
use Rattle.nqs_rules.specs.Stepped.{Stepped, Pending, output_of, reads_from}
use Rattle.nqs_base.specs.declared.extent.Extent.{Extent}
use Rattle.nqs_types.specs.declared.change.Change.{Change}
use Rattle.nqs_types.specs.declared.event.Plan.{Plan}

-- a plan of a change that stores these bytes, and of nothing that goes out
abbrev pub change_alone : Change Extent → List (List ℕ) → Plan
change_alone change puts = record { change = Some change; puts = puts; outputs = []; reads = []; halts = false }

-- a step, and more that goes out behind the rest
abbrev pub also : {E : Type 0} → Stepped E → List (Pending E) → Stepped E
also x more = record { change = x.change; outputs = x.outputs ++ more; halts = x.halts }

-- the same of a plan
abbrev pub with_more : Plan → List (Pending Extent) → Plan
with_more p more = record {
  change = p.change;
  puts = p.puts;
  outputs = p.outputs ++ map output_of more;
  reads = p.reads ++ reads_from (length p.outputs) more;
  halts = p.halts;
}
