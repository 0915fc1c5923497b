use Rattle.std.proofs.Common.{◌≡◌, take}
use Rattle.table_types.proofs.names.texts_of.Given as goal

-- the names so far
abbrev pub invariant-loop-name : goal.invariant-loop-name
invariant-loop-name l = l.texts ≡ take l.name-index l.names
