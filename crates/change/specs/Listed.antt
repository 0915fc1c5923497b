-- Rows as sources of VALUES.
use Rattle.std.specs.Prelude.{List, map}
use Rattle.sqlval.specs.Value.{Row}
use Rattle.typing.specs.declared.typed.Expression as typed_expression
use Rattle.typing.specs.declared.typed.Expression.TheVariants as typed
use Rattle.algebra.specs.declared.tree.Expression.{Expression}
use Rattle.algebra.specs.declared.tree.Expression.TheVariants.{Constant}

-- each value a constant
abbrev pub constants_of : Row → List Expression
constants_of row = map (λ value. Constant value) row

abbrev pub constants : List Row → List (List Expression)
constants rows = map constants_of rows

-- and as the rules of names and types leave them
abbrev pub typed_row : Row → List typed_expression.Expression
typed_row row = map (λ value. typed.Constant value) row

abbrev pub typed_rows : List Row → List (List typed_expression.Expression)
typed_rows rows = map typed_row rows
