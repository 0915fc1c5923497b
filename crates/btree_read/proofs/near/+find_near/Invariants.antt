use Rattle.btree_read.proofs.near.+find_near.Given as goal

abbrev pub decreases-find_near : goal.decreases-find_near
decreases-find_near g l = l.levels
