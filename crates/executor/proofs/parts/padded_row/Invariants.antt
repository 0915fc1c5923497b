use Rattle.std.proofs.Common.{◌≡◌, ◌++◌}
use Rattle.denote.specs.From.{nulls}
use Rattle.executor.proofs.parts.padded_row.Given as goal

abbrev pub invariant-loop : goal.invariant-loop
invariant-loop l = l.padded ≡ l.row ++ nulls l.counter
