use Rattle.std.proofs.Common.{◌≡◌, ◌++◌, ◌+◌, ◌-◌}
use Rattle.nqs_schedule.specs.Generated.{drawn_from, generator_of}
use Rattle.nqs_schedule.proofs.draw.add_drawn.Given as goal

abbrev pub invariant-loop-i : goal.invariant-loop-i
invariant-loop-i l = record {
  so_far : l.events ++ drawn_from l.hosts (l.i + 1) l.generator (l.count - l.i)
      ≡ l.fn.events ++ drawn_from l.hosts 1 (generator_of l.seed) l.count;
}
