use Rattle.std.proofs.Common.{[], subst}
use Rattle.algebra.specs.Meaning.{TreeMeaning}
use Rattle.executor.specs.Reply.{Lists}
use Rattle.uncorrelated_subqueries.proofs.listing.listed_once.Goals as goal

pub returns-in-Ok : goal.returns-in-Ok
returns-in-Ok g c = record {
  lists = subst (λ (listing : TreeMeaning). Lists c.tree_listed.result (listing [])) (c.kept_trees_mean_the_same.ensures.trees (g.S.Tables.rows_of c.args.tables.now) c.args.tree.now)
      (rw c.in-Ok.ensures.kept at c.tree_listed.ensures.lists);
}
