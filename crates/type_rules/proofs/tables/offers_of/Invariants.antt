use Rattle.std.proofs.Common.{◌≡◌, map, take}
use Rattle.typing.specs.Table.{offer_of}
use Rattle.type_rules.proofs.tables.offers_of.Given as goal

-- the offers so far
abbrev pub invariant-loop-column : goal.invariant-loop-column
invariant-loop-column l = l.offers ≡ map (offer_of l.shown) (take l.column-index l.columns)
