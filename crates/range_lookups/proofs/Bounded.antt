-- The bound that a comparison sets, at either end.
use Rattle.std.proofs.Common.{◌≡◌, refl, ℕ, Option, Some, None}
use Rattle.std.specs.Prelude.{option_and_then}
use Rattle.std.specs.Option.{option_or}
use Rattle.sqlval.specs.declared.comparison.CompOp.{CompOp}
use Rattle.sqlval.specs.declared.comparison.CompOp.TheVariants as by
use Rattle.sqlval.specs.declared.value.Value.{Value}
use Rattle.algebra.specs.declared.tree.Bound.{Bound}
use Rattle.algebra.specs.declared.tree.Condition.{Condition-F}
use Rattle.algebra.specs.declared.tree.Expression.{Expression}
use Rattle.rules.specs.Bounds.{high_by, literal_by, low_by}
use Rattle.range_lookups.specs.Ends.{bound_by, bound_in, compared_bound, inclusion}
use Rattle.range_lookups.specs.declared.bounds.End.{End}
use Rattle.range_lookups.specs.declared.bounds.End.TheVariants as end

low-same : (op : CompOp) (literal : Option Value) → bound_by (inclusion end.Low op) literal ≡ option_and_then (low_by op) literal
low-same by.Equal None = refl
low-same by.Equal (Some value) = refl
low-same by.NotEqual None = refl
low-same by.NotEqual (Some value) = refl
low-same by.Less None = refl
low-same by.Less (Some value) = refl
low-same by.Greater None = refl
low-same by.Greater (Some value) = refl
low-same by.LessOrEqual None = refl
low-same by.LessOrEqual (Some value) = refl
low-same by.GreaterOrEqual None = refl
low-same by.GreaterOrEqual (Some value) = refl

high-same : (op : CompOp) (literal : Option Value) → bound_by (inclusion end.High op) literal ≡ option_and_then (high_by op) literal
high-same by.Equal None = refl
high-same by.Equal (Some value) = refl
high-same by.NotEqual None = refl
high-same by.NotEqual (Some value) = refl
high-same by.Less None = refl
high-same by.Less (Some value) = refl
high-same by.Greater None = refl
high-same by.Greater (Some value) = refl
high-same by.LessOrEqual None = refl
high-same by.LessOrEqual (Some value) = refl
high-same by.GreaterOrEqual None = refl
high-same by.GreaterOrEqual (Some value) = refl

pub compared-is : (at : End) (column : ℕ) (op : CompOp) (left right : Expression)
    → compared_bound at column op left right ≡ bound_in at column (Condition-F.Compare op left right)
compared-is end.Low column op left right =
    λ i. option_or (low-same op (literal_by column left right) i) (high-same op (literal_by column right left) i)
compared-is end.High column op left right =
    λ i. option_or (high-same op (literal_by column left right) i) (low-same op (literal_by column right left) i)
