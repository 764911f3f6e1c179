use Rattle.std.proofs.Common.{◌≡◌, ℕ, List, map, take}
use Rattle.std.specs.List.{filter_map}
use Rattle.nqs_base.specs.declared.extent.Extent.{Extent}
use Rattle.nqs_rules.specs.Plain.{map_row}
use Rattle.nqs_rules.specs.World.{boot_output}
use Rattle.nqs_node.proofs.boot.outputs_of.Given as goal

abbrev pub invariant-loop-place : goal.invariant-loop-place
invariant-loop-place l = (f : Extent → List ℕ) → l.outputs.items ≡ filter_map boot_output (map (map_row f) (take l.place l.state.rows.items))
