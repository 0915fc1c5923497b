use Rattle.sqlrecord.proofs.PageLemmas.{node_of}
use Rattle.btree.proofs.page.write_page.Goals as goal

pub write-requires-clause-node : goal.write-requires-clause-node
write-requires-clause-node g c = node_of _ _ c.build_page.ensures.sound
