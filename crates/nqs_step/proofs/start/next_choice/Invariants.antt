use Rattle.nqs_step.proofs.start.next_choice.Given as goal

abbrev pub ghosts-counted_choice : goal.ghosts-counted_choice
ghosts-counted_choice a = record { name = a.blank.name; parts = a.blank.parts }
