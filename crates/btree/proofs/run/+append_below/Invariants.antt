use Rattle.btree.proofs.run.+append_below.Given as goal

abbrev pub decreases-append_below : goal.decreases-append_below
decreases-append_below g l = l.levels
