use Rattle.std.proofs.Common.{◌≡◌, subst, IfOk}
use Rattle.rules.specs.Columns.{moved_expression}
use Rattle.moved_conditions.specs.Shifted.{shifted}
use Rattle.moved_conditions.proofs.moving.boxed_operand.Goals as goal

pub returns : goal.returns
returns c = subst (λ x. IfOk c.boxed.result (λ made. made ≡ moved_expression (shifted c.args.shift c.args.width) x))
    c.get.ensures (c.boxed.ensures _ c.moved_operand.ensures)
