use Rattle.std.proofs.Common.{◌≡◌, drop}
use Rattle.std.specs.Prelude.{fold}
use Rattle.kernels.specs.Digest.{mixed, row_digest, value_digest}
use Rattle.kernels.proofs.digest.row_digest.Given as goal

abbrev pub invariant-loop-value : goal.invariant-loop-value
invariant-loop-value l = fold (λ digest value. mixed digest (value_digest value)) l.digest (drop l.value-index l.row) ≡ row_digest l.row
