use Rattle.std.proofs.Common.{map}
use Rattle.std.specs.Option.{option_map}
use Rattle.typing.specs.Select.{select_list}
use Rattle.typing.specs.Typing.{item_part}
use Rattle.scopes.proofs.Counted.{past-ok}
use Rattle.scopes.proofs.view.after_items.Goals as goal

pub returns-clause-ok : goal.returns-clause-ok
returns-clause-ok c = λ k. past-ok c.past.result (select_list (option_map (map (item_part k)) c.args.items.now)) _ c.args.view.now c.past.ensures.ok (c.count_in_items.ensures k)
