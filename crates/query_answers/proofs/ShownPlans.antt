-- That EXPLAIN shows a plan of the query.
use Rattle.std.proofs.Common.{◌≡◌, ℕ, List, Some, Result, Ok, Err, IfOk}
use Rattle.algebra.specs.declared.tree.Condition.{Condition}
use Rattle.algebra.specs.declared.tree.StoredTable.{StoredTable}
use Rattle.algebra.specs.declared.tree.Tree.{Tree}
use Rattle.plan_lines.specs.Lines.{explained}
use Rattle.planner.specs.Joins.{AsksPairs, JoinsByKeys}
use Rattle.planner.specs.Looks.{Asks, LooksUp}
use Rattle.rules.specs.declared.rule.Step.{Step}
use Rattle.rules.specs.Applied.{replayed}
use Rattle.query_answers.specs.Explanation.{ShowsPlan}

-- the lines of steps that lead to a plan, and of that plan
pub shows : {E : Type 0} (steps : List Step) (tree plan : Tree) → replayed steps tree ≡ Some plan
    → ((condition : Condition) (table : StoredTable) → Asks condition table tree → LooksUp condition table plan)
    → ((condition : Condition) (left right : StoredTable) → AsksPairs condition left right tree
    → JoinsByKeys left right plan)
    → (result : Result (List (List ℕ)) E) → IfOk result (λ lines. lines ≡ explained steps plan)
    → IfOk result (ShowsPlan tree)
shows steps tree plan leads looks joins (Ok lines) are = record {
  steps = steps;
  plan = plan;
  leads = leads;
  looks = looks;
  joins = joins;
  are = are;
}
shows steps tree plan leads looks joins (Err error) are = tt
