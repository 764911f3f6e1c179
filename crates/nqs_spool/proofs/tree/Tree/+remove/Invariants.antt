use Rattle.nqs_spool.proofs.tree.Tree.+remove.Given as goal

abbrev pub decreases-remove : goal.decreases-remove
decreases-remove l = goal.size-remove l
