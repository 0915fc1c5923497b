use Rattle.std.proofs.Common.{◌≡◌, map, take}
use Rattle.typing.specs.From.{result_offer}
use Rattle.type_rules.proofs.tables.result_offers.Given as goal

-- the offers so far
abbrev pub invariant-loop-column : goal.invariant-loop-column
invariant-loop-column l = l.offers ≡ map (result_offer l.shown) (take l.column-index l.columns)
