use Rattle.std.proofs.Common.{◌≡◌, ◌++◌}
use Rattle.std.specs.Prelude.{filter, not}
use Rattle.std.specs.List.{list_any}
use Rattle.sqlval.specs.Value.{Row}
use Rattle.denote.specs.Bag.{are_alike}
use Rattle.streams.proofs.alike.unseen_rows.Given as goal

abbrev pub invariant-loop-row : goal.invariant-loop-row
invariant-loop-row l =
    l.found ++ filter (λ (row : Row). not (list_any (λ (other : Row). are_alike other row) l.seen)) l.row-iterator.rest.items
    ≡ filter (λ (row : Row). not (list_any (λ (other : Row). are_alike other row) l.seen)) l.fn.rows
