-- Which columns a condition may name.
use Rattle.std.specs.Prelude.{ℕ, Bool, true}
use Rattle.rules.specs.Columns.{in_left, in_right, in_half}
use Rattle.tree_columns.specs.declared.reach.Reach.{Reach}
use Rattle.tree_columns.specs.declared.reach.Reach.TheVariants as reach

abbrev pub anywhere : ℕ → ℕ → Bool
anywhere depth place = true

-- where the left row has so many columns
abbrev pub within : Reach → ℕ → ℕ → ℕ → Bool
within reach.Anywhere w = anywhere
within reach.LeftSide w = in_left w
within reach.RightSide w = in_right w
within reach.HalfJoin w = in_half w
