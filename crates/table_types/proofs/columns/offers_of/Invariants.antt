use Rattle.std.proofs.Common.{◌≡◌, map, take}
use Rattle.table_types.specs.Tables.{offer_of}
use Rattle.table_types.proofs.columns.offers_of.Given as goal

-- the offers so far
abbrev pub invariant-loop-definition : goal.invariant-loop-definition
invariant-loop-definition l = l.offers ≡ map (offer_of l.table) (take l.definition-index l.definitions)
