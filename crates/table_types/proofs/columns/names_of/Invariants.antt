use Rattle.std.proofs.Common.{◌≡◌, map, take}
use Rattle.table_types.proofs.columns.names_of.Given as goal

-- the names so far
abbrev pub invariant-loop-definition : goal.invariant-loop-definition
invariant-loop-definition l = l.names ≡ map (λ definition. definition.name) (take l.definition-index l.definitions)
