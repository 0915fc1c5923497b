use Rattle.typing_laws.proofs.ColumnFindings.{holds}
use Rattle.typing_laws.proofs.ColumnFitting.{IsResult}
use Rattle.typing_laws.specs.Statements.{IsOrderedWell}
use Rattle.typing.specs.Order.{ordered_found}
use Rattle.typing.specs.Typing.{query_found, select_found}
use Rattle.typing_laws.proofs.ColumnStatements.{ordered-typed}
use Rattle.typing_laws.proofs.ColumnTrees.{trees-queries, trees-selects}
use Rattle.typing_laws.proofs.column_laws.typed_queries_are_well_typed.Goals as goal

pub returns-clause-queries : goal.returns-clause-queries
returns-clause-queries c known tree outer rows found are is = holds (IsResult known rows) (query_found known tree outer) found (trees-queries known tree outer rows are) is

pub returns-clause-selects : goal.returns-clause-selects
returns-clause-selects c known tree outer rows found are is = holds (IsResult known rows) (select_found known tree outer) found (trees-selects known tree outer rows are) is

pub returns-clause-ordered : goal.returns-clause-ordered
returns-clause-ordered c known tree found is = holds (IsOrderedWell known) (ordered_found known tree) found (ordered-typed known tree) is
