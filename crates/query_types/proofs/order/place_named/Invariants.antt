use Rattle.std.proofs.Common.{◌≡◌, ◌++◌, drop}
use Rattle.std.specs.Option.{option_to_list}
use Rattle.typing.specs.Order.{named_from}
use Rattle.query_types.proofs.order.place_named.Given as goal

-- the place found so far, and those after it, are all of this name
abbrev pub invariant-loop-place : goal.invariant-loop-place
invariant-loop-place l = option_to_list l.first ++ named_from l.place l.name (drop l.place l.columns) ≡ named_from 0 l.name l.columns
