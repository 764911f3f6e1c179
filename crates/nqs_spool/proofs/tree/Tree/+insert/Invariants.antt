use Rattle.nqs_spool.proofs.tree.Tree.+insert.Given as goal

abbrev pub decreases-insert : goal.decreases-insert
decreases-insert l = goal.size-insert l
