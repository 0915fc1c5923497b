use Rattle.sqlrecord.proofs.PageLemmas.{node_of}
use Rattle.sqlrecord.proofs.page.is_node.Goals as goal

pub returns-in-Some : goal.returns-in-Some
returns-in-Some c = λ yes. node_of _ _ c.in-Some.ensures.sound
