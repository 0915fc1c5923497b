use Rattle.std.proofs.Common.{◌≡◌, drop}
use Rattle.std.specs.List.{list_any}
use Rattle.sqlval.specs.Value.{Row}
use Rattle.denote.specs.Bag.{are_alike}
use Rattle.streams.proofs.alike.is_among.Given as goal

abbrev pub invariant-loop-row : goal.invariant-loop-row
invariant-loop-row l = list_any (λ (row : Row). are_alike row l.wanted) (drop l.row-index l.rows) ≡ list_any (λ (row : Row). are_alike row l.wanted) l.rows
