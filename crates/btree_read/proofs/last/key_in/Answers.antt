use Rattle.btree_read.proofs.LastLemmas.{last_cell}
use Rattle.btree_read.proofs.last.key_in.Goals as goal

pub returns : goal.returns
returns c = rw (c.in_ok-last.ensures, c.key.ensures, c.len.ensures.length) (last_cell c.args.leaf.now.cells c.requires.some)
