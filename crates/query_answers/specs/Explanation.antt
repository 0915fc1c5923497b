-- What EXPLAIN shows of a query.
use Rattle.std.specs.Prelude.{◌≡◌, ℕ, List, Some}
use Rattle.algebra.specs.declared.tree.Condition.{Condition}
use Rattle.algebra.specs.declared.tree.StoredTable.{StoredTable}
use Rattle.algebra.specs.declared.tree.Tree.{Tree}
use Rattle.plan_lines.specs.Lines.{explained}
use Rattle.planner.specs.Joins.{AsksPairs, JoinsByKeys}
use Rattle.planner.specs.Looks.{Asks, LooksUp}
use Rattle.rules.specs.declared.rule.Step.{Step}
use Rattle.rules.specs.Applied.{replayed}

-- Steps by which the tree of the query becomes a plan, and that plan: one that looks up the key for
-- which a query of one table asks, and joins by keys where the query of two tables equates columns.
pub record ShowsPlan (tree : Tree) (lines : List (List ℕ)) : Type 0 where
  pub steps : List Step
  pub plan : Tree
  pub leads : replayed steps tree ≡ Some plan
  pub looks : (condition : Condition) (table : StoredTable) → Asks condition table tree → LooksUp condition table plan
  pub joins : (condition : Condition) (left right : StoredTable) → AsksPairs condition left right tree
      → JoinsByKeys left right plan
  pub are : lines ≡ explained steps plan
