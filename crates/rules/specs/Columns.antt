-- Columns of plain conditions: which they name, and the condition with other columns in their
-- places.
use Rattle.std.specs.Prelude.{ℕ, zero, suc, ◌+◌, ◌-◌, nat_lt, not, Bool, true, false}
use Rattle.algebra.specs.declared.tree.Expression.{Expression, Expression-F, fold-Expression, roll-Expression}
use Rattle.algebra.specs.declared.tree.Expression.TheVariants as e
use Rattle.algebra.specs.declared.tree.Condition.{Condition, fold-Condition, roll-Condition}
use Rattle.algebra.specs.declared.tree.SetFunction.{SetFunction, roll-SetFunction}
use Rattle.algebra.specs.declared.tree.Tree.{Tree, roll-Tree}
use Rattle.algebra.specs.Raising.{Test, condition_plain, function_plain, tree_plain}

-- a column, by how many rows outwards its row stands, and its place there
abbrev pub Place : Type 0
Place = ℕ × ℕ

-- plain, and all columns pass a test
module _ (test : ℕ → ℕ → Bool) where
  abbrev pub expression_names : Test Expression-F → Bool
  expression_names (Expression-F.Constant x) = true
  expression_names (Expression-F.Column depth place) = test depth place
  expression_names (Expression-F.Calculation first others) = false
  expression_names (Expression-F.Concatenation first others) = false
  expression_names (Expression-F.Negation operand) = false
  expression_names (Expression-F.Scalar tree) = false

  unfoldable pub expression_names_only : Expression → Bool
  expression_names_only = fold-Expression _ _ _ _ condition_plain expression_names function_plain tree_plain

  unfoldable pub names_only : Condition → Bool
  names_only = fold-Condition _ _ _ _ condition_plain expression_names function_plain tree_plain

-- with another column in the place of each
abbrev pub SameLayer : ((A B C D : Type 0) → Type 0) → Type 0
SameLayer T = T Condition Expression SetFunction Tree

module _ (to : ℕ → ℕ → Place) where
  abbrev pub expression_moved : SameLayer Expression-F → Expression
  expression_moved (Expression-F.Column depth place) = e.Column (to depth place).0 (to depth place).1
  expression_moved other = roll-Expression other

  unfoldable pub moved_expression : Expression → Expression
  moved_expression = fold-Expression _ _ _ _ roll-Condition expression_moved roll-SetFunction roll-Tree

  unfoldable pub moved : Condition → Condition
  moved = fold-Condition _ _ _ _ roll-Condition expression_moved roll-SetFunction roll-Tree

-- ---- columns of one side of a join, whose left rows have so many columns

-- a column of the left side, or of a row outside
abbrev pub in_left : ℕ → ℕ → ℕ → Bool
in_left w zero place = nat_lt place w
in_left w (suc depth) place = true

-- a column of the right side, or of a row outside
abbrev pub in_right : ℕ → ℕ → ℕ → Bool
in_right w zero place = not (nat_lt place w)
in_right w (suc depth) place = true

-- where a condition of the joined row stands above the right side alone
abbrev pub from_right : ℕ → ℕ → ℕ → Place
from_right w zero place = (zero, place - w)
from_right w (suc depth) place = (suc depth, place)

-- ---- columns in a subquery, beside whose row stands a left row with so many columns

-- no column of the left row past its last one
abbrev pub in_half : ℕ → ℕ → ℕ → Bool
in_half w zero place = true
in_half w (suc zero) place = nat_lt place w
in_half w (suc (suc depth)) place = true

-- Where the two rows are joined: the subquery's own columns come behind the left ones, and rows
-- further outwards stand one nearer.
abbrev pub to_half : ℕ → ℕ → ℕ → Place
to_half w zero place = (zero, w + place)
to_half w (suc zero) place = (zero, place)
to_half w (suc (suc depth)) place = (suc depth, place)
