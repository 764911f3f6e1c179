use Rattle.nqs_rules_tests.proofs.counted.pick.Given as goal

abbrev pub ghosts-counted_pick : goal.ghosts-counted_pick
ghosts-counted_pick a = record { name = a.blank.name; parts = a.blank.parts }
