use Rattle.std.proofs.Common.{◌≡◌}
use Rattle.nqs_real.proofs.launcher.ShepherdLauncher.start_each.Given as goal

abbrev pub invariant-loop : goal.invariant-loop
invariant-loop l = l.self.faults ≡ l.initial.self.faults
