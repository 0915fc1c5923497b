-- When operands may stand for others, one by one.
use Rattle.std.specs.Prelude.{◌≡◌}
use Rattle.algebra.specs.declared.tree.Expression.{Expression}
use Rattle.rules.specs.Same.{KeepsExpression}
use Rattle.typing.specs.declared.typed.Arithmetic.{Arithmetic}

-- an operator with its operand
abbrev pub KeepsNext : Arithmetic × Expression → Arithmetic × Expression → Type 0
KeepsNext x y = (x.0 ≡ y.0) × KeepsExpression x.1 y.1
