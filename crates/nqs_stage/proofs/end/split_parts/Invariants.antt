use Rattle.std.proofs.Common.{◌≡◌, ◌++◌, map, length}
use Rattle.nqs_rules.specs.Stepped.{map_part, part_bytes, no_extent}
use Rattle.nqs_stage.proofs.end.split_parts.Given as goal

abbrev pub invariant-loop-part : goal.invariant-loop-part
invariant-loop-part l = record {
  outputs : l.outputs ++ map (map_part (λ _. no_extent)) l.rest ≡ map (map_part (λ _. no_extent)) l.fn.parts.items;
  puts : l.puts ++ map part_bytes l.rest ≡ map part_bytes l.fn.parts.items;
}

abbrev pub decreases-loop-part : goal.decreases-loop-part
decreases-loop-part l = length l.rest
