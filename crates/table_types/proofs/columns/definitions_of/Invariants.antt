use Rattle.std.proofs.Common.{◌≡◌, ◌++◌, drop}
use Rattle.table_types.specs.Tables.{defined}
use Rattle.table_types.proofs.columns.definitions_of.Given as goal

-- those so far, and those of the elements that are left
abbrev pub invariant-loop-element : goal.invariant-loop-element
invariant-loop-element l = l.definitions ++ defined (drop l.element-index l.elements) ≡ defined l.elements
