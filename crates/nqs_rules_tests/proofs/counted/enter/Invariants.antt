use Rattle.nqs_rules_tests.proofs.counted.enter.Given as goal

abbrev pub ghosts-counted_enter : goal.ghosts-counted_enter
ghosts-counted_enter a = record { name = a.blank.name; parts = a.blank.parts }
