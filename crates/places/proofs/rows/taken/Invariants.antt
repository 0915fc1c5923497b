use Rattle.std.proofs.Common.{◌≡◌, ◌++◌, ◌∷◌}
use Rattle.std.specs.Vec.Iter.{into_iter_items}
use Rattle.places.proofs.rows.taken.Given as goal

abbrev pub invariant-loop : goal.invariant-loop
invariant-loop l = l.found ++ into_iter_items l.rows ≡ l.fn.first ∷ into_iter_items l.fn.rows
