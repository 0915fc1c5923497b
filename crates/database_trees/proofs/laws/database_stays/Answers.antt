use Rattle.database_trees.proofs.DatabaseLemmas.{stays}
use Rattle.database_trees.proofs.laws.database_stays.Goals as goal

pub returns : goal.returns
returns c = stays
