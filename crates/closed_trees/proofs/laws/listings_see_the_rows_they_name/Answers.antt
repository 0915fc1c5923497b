use Rattle.closed_trees.proofs.Seeing.{trees-see}
use Rattle.closed_trees.proofs.laws.listings_see_the_rows_they_name.Goals as goal

pub returns : goal.returns
returns c = λ tables tree env others alike. trees-see tables tree env others alike
