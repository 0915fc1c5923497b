use Rattle.std.proofs.Common.{List, map, refl}
use Rattle.algebra.specs.declared.tree.Expression.{Expression}
use Rattle.algebra.specs.Raising.{some_may, expression_may_raise}
use Rattle.raising.proofs.Asked.{goes_on, says_yes, none_left}
use Rattle.raising.proofs.raising.some_expression.Goals as goal

pub loop-item-preserved : goal.loop-item-preserved
loop-item-preserved c =
    goes_on (λ (xs : List Expression). some_may (map expression_may_raise xs)) expression_may_raise (λ _ _. refl) c.args.items.now _ _
    c.loop-item-test.true c.item-item.is c.if-expression_can_raise.ensures.told c.loop-item.invariant

pub returns-then-expression_can_raise : goal.returns-then-expression_can_raise
returns-then-expression_can_raise c =
    says_yes (λ (xs : List Expression). some_may (map expression_may_raise xs)) expression_may_raise (λ _ _. refl) c.args.items.now _ _
    c.loop-item-test.true c.item-item.is c.if-expression_can_raise.ensures.told c.loop-item.invariant

pub returns : goal.returns
returns c =
    none_left (λ (xs : List Expression). some_may (map expression_may_raise xs)) refl c.args.items.now _ c.loop-item-test.false c.loop-item.invariant
