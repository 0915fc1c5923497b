use Rattle.std.proofs.Common.{◌≡◌, drop, None}
use Rattle.std.specs.Option.{option_map}
use Rattle.streams.specs.Numbers.{last_of}
use Rattle.streams.proofs.ranges.last_row.Given as goal

abbrev pub invariant-loop-row : goal.invariant-loop-row
invariant-loop-row l = last_of (option_map (λ row. row.now) l.last) (drop l.row-index l.rows) ≡ last_of None l.rows
