use Rattle.std.proofs.Common.{◌≡◌, drop}
use Rattle.denote.specs.Answer.{by_keys}
use Rattle.kernels.proofs.sorting.compare_rows.Given as goal

abbrev pub invariant-loop-key : goal.invariant-loop-key
invariant-loop-key l = by_keys (drop l.key-index l.keys) l.a l.b ≡ by_keys l.keys l.a l.b
