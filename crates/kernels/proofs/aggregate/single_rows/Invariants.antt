use Rattle.std.proofs.Common.{◌≡◌, ◌++◌, map, [], ◌∷◌}
use Rattle.kernels.proofs.aggregate.single_rows.Given as goal

abbrev pub invariant-loop-value : goal.invariant-loop-value
invariant-loop-value l = l.rows ++ map (λ x. x ∷ []) l.value-iterator.rest.items ≡ map (λ x. x ∷ []) l.fn.values
