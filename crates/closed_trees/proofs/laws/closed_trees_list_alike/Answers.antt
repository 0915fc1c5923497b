use Rattle.closed_trees.proofs.Seeing.{closed-alike}
use Rattle.closed_trees.proofs.laws.closed_trees_list_alike.Goals as goal

pub returns : goal.returns
returns c = λ tables tree none env others. closed-alike tables tree none env others
