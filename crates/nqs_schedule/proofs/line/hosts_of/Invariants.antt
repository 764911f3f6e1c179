use Rattle.std.proofs.Common.{◌≡◌, drop}
use Rattle.nqs_schedule.specs.Says.{hosts_from, hosts_of}
use Rattle.nqs_schedule.proofs.line.hosts_of.Given as goal

abbrev pub invariant-loop-i : goal.invariant-loop-i
invariant-loop-i l = record {
  so_far : hosts_from l.site.items (drop l.i l.all) l.words.bad ≡ hosts_of l.words;
}
