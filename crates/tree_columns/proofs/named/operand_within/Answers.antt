use Rattle.tree_columns.proofs.NamedNodes.{expression_constant, expression_column, expression_calculation, expression_concatenation, expression_negation, expression_scalar}
use Rattle.tree_columns.proofs.named.operand_within.Goals as goal

pub returns-in-Constant : goal.returns-in-Constant
returns-in-Constant c = rw (c.in-Constant.is, expression_constant)

pub returns-in-Column : goal.returns-in-Column
returns-in-Column c = rw (c.in-Column.is, expression_column) c.is_within.ensures

pub returns-in-Calculation : goal.returns-in-Calculation
returns-in-Calculation c = rw (c.in-Calculation.is, expression_calculation)

pub returns-in-Concatenation : goal.returns-in-Concatenation
returns-in-Concatenation c = rw (c.in-Concatenation.is, expression_concatenation)

pub returns-in-Negation : goal.returns-in-Negation
returns-in-Negation c = rw (c.in-Negation.is, expression_negation)

pub returns-in-Scalar : goal.returns-in-Scalar
returns-in-Scalar c = rw (c.in-Scalar.is, expression_scalar)
