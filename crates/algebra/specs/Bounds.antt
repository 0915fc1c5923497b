-- Which rows are in a range of an index.
use Rattle.std.specs.Prelude.{ℕ, Bool, true, false, ◌&&◌, List, Option, Some, None, filter}
use Rattle.sqlval.specs.declared.comparison.CompOp.{CompOp}
use Rattle.sqlval.specs.declared.comparison.CompOp.TheVariants.{Less, LessOrEqual, Greater, GreaterOrEqual}
use Rattle.sqlval.specs.declared.truth.Truth.TheVariants.{True}
use Rattle.sqlval.specs.declared.value.Value.{Value}
use Rattle.sqlval.specs.Comparison.{comparison}
use Rattle.sqlval.specs.Matching.{key_of}
use Rattle.sqlval.specs.Truth.{same_truth}
use Rattle.sqlval.specs.Value.{Row}
use Rattle.algebra.specs.declared.tree.Bound.{Bound}
use Rattle.denote.specs.Expression.{cell}

abbrev pub above : Bool → CompOp
above true = GreaterOrEqual
above false = Greater

abbrev pub below : Bool → CompOp
below true = LessOrEqual
below false = Less

-- whether a value is not null and not beyond a bound
abbrev pub meets : (Bool → CompOp) → Value → Option Bound → Bool
meets op x None = true
meets op x (Some bound) = same_truth (comparison (op bound.inclusive) x bound.value) True

-- whether the first of these columns of a row meets both bounds
abbrev pub is_within : List ℕ → Option Bound → Option Bound → Row → Bool
is_within columns low high row = let x = cell (key_of columns row) 0 in meets above x low && meets below x high

-- the rows in a range
abbrev pub rows_within : List ℕ → Option Bound → Option Bound → List Row → List Row
rows_within columns low high rows = filter (is_within columns low high) rows
