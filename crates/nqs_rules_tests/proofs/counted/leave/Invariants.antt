use Rattle.nqs_rules_tests.proofs.counted.leave.Given as goal

abbrev pub ghosts-counted_leave : goal.ghosts-counted_leave
ghosts-counted_leave a = record { name = a.blank.name; parts = a.blank.parts }
