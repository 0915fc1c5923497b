use Rattle.std.proofs.Common.{◌≡◌, ◌++◌, drop}
use Rattle.table_types.specs.Tables.{headings_from}
use Rattle.table_types.proofs.headings.headings_in.Given as goal

-- those so far, and those of the elements that are left
abbrev pub invariant-loop-element : goal.invariant-loop-element
invariant-loop-element l = l.headings ++ headings_from (drop l.element-index l.elements) ≡ headings_from l.elements
