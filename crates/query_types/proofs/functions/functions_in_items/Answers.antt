use Rattle.std.proofs.Common.{sym, map, take}
use Rattle.typing.specs.Part.{functions_of}
use Rattle.typing.specs.Typing.{item_part}
use Rattle.scopes.specs.Seen.{frames}
use Rattle.query_types.proofs.FunctionLists.{found-same, functions-next, functions-all, item-functions}
use Rattle.query_types.proofs.functions.functions_in_items.Goals as goal

pub loop-item-preserved : goal.loop-item-preserved
loop-item-preserved c = λ k.
    found-same c.joined-functions.result (frames c.args.scope.now) _ _
    (functions-next (item_part k) c.args.items.now c.loop-item.item-index c.item-item.result c.loop-item-test.true c.item-item.is)
    (c.joined-functions.ensures (frames c.args.scope.now) (functions_of (map (item_part k) (take c.loop-item.item-index c.args.items.now))) (item_part k c.item-item.result).functions (c.loop-item.invariant k) (found-same c.functions_in_expression.result (frames c.args.scope.now) _ _ (item-functions k c.item-item.result) (c.functions_in_expression.ensures k)))

pub returns : goal.returns
returns c = λ k.
    found-same c.loop-item.functions (frames c.args.scope.now) _ _ (sym (functions-all (item_part k) c.args.items.now c.loop-item.item-index c.loop-item-test.false)) (c.loop-item.invariant k)
