use Rattle.nqs_qmgr.proofs.options.+options.Given as goal

abbrev pub decreases-options : goal.decreases-options
decreases-options l = l.left
