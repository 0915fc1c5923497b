use Rattle.std.proofs.Common.{◌≡◌, ◌++◌, not}
use Rattle.std.specs.Prelude.{filter}
use Rattle.sqlval.specs.Value.{is_null}
use Rattle.kernels.proofs.aggregate.known_values.Given as goal

abbrev pub invariant-loop-value : goal.invariant-loop-value
invariant-loop-value l = l.known ++ filter (λ x. not (is_null x)) l.value-iterator.rest.items ≡ filter (λ x. not (is_null x)) l.fn.values
