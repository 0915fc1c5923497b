-- The bounds that a condition sets to a column: its conjuncts that compare the column with a
-- literal
-- (ISO/IEC 9075:1992, 8.2), or put it BETWEEN literals (8.3).
use Rattle.std.specs.Prelude.{ℕ, Bool, true, false, List, Option, Some, None, option_and_then}
use Rattle.std.specs.Option.{option_map, option_or}
use Rattle.sqlval.specs.declared.comparison.CompOp.{CompOp}
use Rattle.sqlval.specs.declared.comparison.CompOp.TheVariants as by
use Rattle.sqlval.specs.declared.value.Value.{Value}
use Rattle.algebra.specs.declared.tree.Bound.{Bound}
use Rattle.algebra.specs.declared.tree.Condition.{Condition, Condition-F, out-Condition}
use Rattle.algebra.specs.declared.tree.Expression.{Expression, out-Expression}
use Rattle.key_lookups.specs.Sought.{literal_beside}
use Rattle.rules.specs.Nodes.{Node, first_found}

abbrev pub bound : Bool → Value → Bound
bound inclusive value = record { value = value; inclusive = inclusive }

-- the bound below that `column op literal` sets
abbrev pub low_by : CompOp → Value → Option Bound
low_by by.Greater value = Some (bound false value)
low_by by.GreaterOrEqual value = Some (bound true value)
low_by _ value = None

-- the bound above
abbrev pub high_by : CompOp → Value → Option Bound
high_by by.Less value = Some (bound false value)
high_by by.LessOrEqual value = Some (bound true value)
high_by _ value = None

-- the literal where the operand is the column
abbrev pub literal_by : ℕ → Expression → Expression → Option Value
literal_by column operand other = literal_beside column (out-Expression operand) (out-Expression other)

-- With the literal on the left it is the other way round: `1 < COLUMN` sets a bound below.
abbrev pub low_in : ℕ → Node Condition-F → Option Bound
low_in column (Condition-F.Compare op left right) =
    option_or (option_and_then (low_by op) (literal_by column left right))
    (option_and_then (high_by op) (literal_by column right left))
low_in column (Condition-F.Between operand low high) = option_map (bound true) (literal_by column operand low)
low_in column _ = None

abbrev pub high_in : ℕ → Node Condition-F → Option Bound
high_in column (Condition-F.Compare op left right) =
    option_or (option_and_then (high_by op) (literal_by column left right))
    (option_and_then (low_by op) (literal_by column right left))
high_in column (Condition-F.Between operand low high) = option_map (bound true) (literal_by column operand high)
high_in column _ = None

-- the first bound that one of these conditions sets
abbrev pub low_among : ℕ → List Condition → Option Bound
low_among column = first_found (λ condition. low_in column (out-Condition condition))

abbrev pub high_among : ℕ → List Condition → Option Bound
high_among column = first_found (λ condition. high_in column (out-Condition condition))
