use Rattle.std.proofs.Common.{◌∙◌, sym}
use Rattle.query_types.proofs.FunctionLists.{grouped-alone, none-of}
use Rattle.query_types.proofs.parts.is_grouped.Goals as goal

pub returns : goal.returns
returns c = λ k.
    grouped-alone k c.args.tree.now c.count_in_items.result (c.is_empty.ensures.0 c.if-not-is_empty.false)
    (none-of _ (sym c.is_some.ensures ∙ c.if-is_some.false)) (c.count_in_items.ensures k)
