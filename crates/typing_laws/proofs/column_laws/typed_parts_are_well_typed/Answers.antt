use Rattle.std.proofs.Common.{[], ◌∷◌}
use Rattle.typing.specs.Check.{check_found}
use Rattle.typing.specs.Known.{nothing_known}
use Rattle.typing.specs.Part.{Plain}
use Rattle.typing.specs.Table.{frame_of}
use Rattle.typing.specs.Typing.{condition_part, expression_part}
use Rattle.typing_laws.specs.WellTyped.{IsWellTyped, column_types}
use Rattle.typing_laws.proofs.Columns.{Gives}
use Rattle.typing_laws.proofs.ColumnFindings.{holds}
use Rattle.typing_laws.proofs.ColumnStatements.{check-typed}
use Rattle.typing_laws.proofs.ColumnTrees.{trees-conditions, trees-expressions}
use Rattle.typing_laws.proofs.column_laws.typed_parts_are_well_typed.Goals as goal

pub returns-clause-expressions : goal.returns-clause-expressions
returns-clause-expressions c known tree scope rows found are is =
    holds (Gives known rows) ((expression_part known tree).found (record { scope = scope; clause = Plain })) found ((trees-expressions known tree).found (record { scope = scope; clause = Plain }) rows are tt) is

pub returns-clause-conditions : goal.returns-clause-conditions
returns-clause-conditions c known tree scope rows found are is =
    holds (IsWellTyped known rows) ((condition_part known tree).found (record { scope = scope; clause = Plain })) found ((trees-conditions known tree).found (record { scope = scope; clause = Plain }) rows are tt) is

pub returns-clause-checks : goal.returns-clause-checks
returns-clause-checks c name columns tree found is =
    holds (IsWellTyped nothing_known (column_types columns ∷ [])) (check_found (frame_of name columns) tree) found (check-typed name columns tree) is

pub returns-clause-kept : goal.returns-clause-kept
returns-clause-kept c name columns text found reads =
    holds (IsWellTyped nothing_known (column_types columns ∷ [])) (check_found (frame_of name columns) reads.tree) found (check-typed name columns reads.tree) reads.found
