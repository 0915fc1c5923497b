use Rattle.std.proofs.Common.{◌≡◌, refl, subst, IfOk}
use Rattle.rules.specs.Columns.{moved}
use Rattle.moved_conditions.specs.Shifted.{shifted}
use Rattle.moved_conditions.proofs.MovedNodes.{condition_compare, condition_between, condition_in_list, condition_like}
use Rattle.moved_conditions.proofs.moving.+moved.Goals as goal

pub boxed_condition-returns : goal.boxed_condition-returns
boxed_condition-returns t c = subst (λ x. IfOk c.boxed.result (λ made. made ≡ moved (shifted c.args.shift c.args.width) x))
    c.get.ensures (c.boxed.ensures _ c.moved.ensures)

pub moved-returns-in_ok-left-in-Compare : goal.moved-returns-in_ok-left-in-Compare
moved-returns-in_ok-left-in-Compare t c = rw (
  c.in-Compare.is,
  condition_compare,
  c.in_ok-left-in-Compare.ensures.first _ c.boxed_operand-left.ensures,
  c.in_ok-left-in-Compare.ensures.second _ c.boxed_operand.ensures,
) refl

pub moved-returns-in_ok-operand-in-Between : goal.moved-returns-in_ok-operand-in-Between
moved-returns-in_ok-operand-in-Between t c = rw (
  c.in-Between.is,
  condition_between,
  c.in_ok-operand-in-Between.ensures.first _ c.boxed_operand-in-Between.ensures,
  c.in_ok-operand-in-Between.ensures.second _ c.boxed_operand-in-Between-2.ensures,
  c.in_ok-operand-in-Between.ensures.third _ c.boxed_operand-in-Between-3.ensures,
) refl

pub moved-returns-in_ok-operand-in-InList : goal.moved-returns-in_ok-operand-in-InList
moved-returns-in_ok-operand-in-InList t c = rw (
  c.in-InList.is,
  condition_in_list,
  c.in_ok-operand-in-InList.ensures.first _ c.boxed_operand-operand.ensures,
  c.in_ok-operand-in-InList.ensures.second _ c.copied_values.ensures,
) refl

pub moved-returns-in_ok-operand-in-Like : goal.moved-returns-in_ok-operand-in-Like
moved-returns-in_ok-operand-in-Like t c = rw (
  c.in-Like.is,
  condition_like,
  c.in_ok-operand-in-Like.ensures.first _ c.boxed_operand-operand-in-Like.ensures,
  c.in_ok-operand-in-Like.ensures.second _ c.boxed_operand-in-Like.ensures,
) refl
