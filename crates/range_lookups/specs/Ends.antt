-- The bounds of a column at one end or the other.
use Rattle.std.specs.Prelude.{ℕ, Bool, true, false, List, Option, Some, None}
use Rattle.std.specs.Option.{option_or}
use Rattle.sqlval.specs.declared.comparison.CompOp.{CompOp}
use Rattle.sqlval.specs.declared.comparison.CompOp.TheVariants as by
use Rattle.sqlval.specs.declared.value.Value.{Value}
use Rattle.algebra.specs.declared.tree.Bound.{Bound}
use Rattle.algebra.specs.declared.tree.Condition.{Condition, Condition-F}
use Rattle.algebra.specs.declared.tree.Expression.{Expression}
use Rattle.rules.specs.Bounds.{bound, high_among, high_in, literal_by, low_among, low_in}
use Rattle.rules.specs.Nodes.{Node}
use Rattle.range_lookups.specs.declared.bounds.End.{End}
use Rattle.range_lookups.specs.declared.bounds.End.TheVariants as end

abbrev pub bound_among : End → ℕ → List Condition → Option Bound
bound_among end.Low = low_among
bound_among end.High = high_among

abbrev pub bound_in : End → ℕ → Node Condition-F → Option Bound
bound_in end.Low = low_in
bound_in end.High = high_in

abbrev pub other_end : End → End
other_end end.Low = end.High
other_end end.High = end.Low

-- whether the literal itself is in the range, if this operator sets a bound at this end
abbrev pub inclusion : End → CompOp → Option Bool
inclusion end.Low by.Greater = Some false
inclusion end.Low by.GreaterOrEqual = Some true
inclusion end.High by.Less = Some false
inclusion end.High by.LessOrEqual = Some true
inclusion _ _ = None

abbrev pub bound_by : Option Bool → Option Value → Option Bound
bound_by (Some inclusive) (Some value) = Some (bound inclusive value)
bound_by _ _ = None

-- of a comparison, whichever side the column stands on
abbrev pub compared_bound : End → ℕ → CompOp → Expression → Expression → Option Bound
compared_bound end column op left right = option_or (bound_by (inclusion end op) (literal_by column left right))
    (bound_by (inclusion (other_end end) op) (literal_by column right left))
