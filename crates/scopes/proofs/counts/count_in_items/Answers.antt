use Rattle.std.proofs.Common.{◌≡◌, ◌+◌, ◌∙◌, sym, ap, take}
use Rattle.ast.specs.declared.tree.SelectItem.{out-SelectItem}
use Rattle.typing.specs.Typing.{item_part}
use Rattle.scopes.specs.Seen.{capped}
use Rattle.scopes.proofs.Counted.{capped-more, counted-next, item-count}
use Rattle.scopes.proofs.counts.count_in_items.Goals as goal

pub loop-item-preserved : goal.loop-item-preserved
loop-item-preserved c = λ k.
    rw (counted-next (item_part k) c.as_slice-item-items.result.now c.loop-item.item-index c.item-item.result c.loop-item-test.true c.item-item.is)
    (c.saturating_add-count.ensures ∙ capped-more _ _ 0 _ _ (c.loop-item.invariant k) (c.count_in_expression.ensures k ∙ ap capped (sym (item-count k c.item-item.result))))
