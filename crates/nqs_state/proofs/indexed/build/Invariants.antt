use Rattle.nqs_state.proofs.indexed.build.Given as goal

abbrev pub ghosts-counted_build : goal.ghosts-counted_build
ghosts-counted_build a = record { name = a.blank.name; parts = a.blank.parts }
