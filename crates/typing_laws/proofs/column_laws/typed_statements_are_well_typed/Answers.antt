use Rattle.typing_laws.specs.Statements.{IsStatementWell}
use Rattle.typing.specs.Known.{known}
use Rattle.typing.specs.Statement.{statement_found}
use Rattle.typing_laws.proofs.ColumnFindings.{holds}
use Rattle.typing_laws.proofs.ColumnStatements.{statements-typed}
use Rattle.typing_laws.proofs.column_laws.typed_statements_are_well_typed.Goals as goal

pub returns : goal.returns
returns c tree schema found is = holds (IsStatementWell (known schema)) (statement_found tree schema) found (statements-typed tree schema) is
