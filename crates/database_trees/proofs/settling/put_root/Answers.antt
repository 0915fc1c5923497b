use Rattle.std.proofs.Common.{sym}
use Rattle.database_trees.proofs.RootLemmas.{set_root, no_root}
use Rattle.database_trees.proofs.settling.put_root.Goals as goal

pub returns-in-Some : goal.returns-in-Some
returns-in-Some c = set_root c.args.indexes.now c.args.at c.args.root c.in-Some.index.now (sym c.in-Some.ensures.value)

pub returns-in-None : goal.returns-in-None
returns-in-None c = no_root c.args.indexes.now c.args.at c.args.root (sym c.in-None.ensures.value)
