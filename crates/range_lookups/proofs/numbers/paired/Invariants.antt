use Rattle.std.proofs.Common.{◌≡◌, ◌++◌}
use Rattle.std.specs.List.{zip}
use Rattle.range_lookups.proofs.numbers.paired.Given as goal

-- the pairs of what is left come behind those that are put
abbrev pub invariant-loop-row : goal.invariant-loop-row
invariant-loop-row l = l.entries ++ zip l.rest l.row-iterator.rest.items ≡ zip l.numbers l.fn.rows
