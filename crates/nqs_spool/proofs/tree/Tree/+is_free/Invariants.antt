use Rattle.nqs_spool.proofs.tree.Tree.+is_free.Given as goal

abbrev pub decreases-is_free : goal.decreases-is_free
decreases-is_free l = goal.size-is_free l
