use Rattle.std.proofs.Common.{◌≡◌, ℕ, ◌*◌, ◌<◌, ◌≤◌}
use Rattle.journal.specs.Lists.{listed, number_in}
use Rattle.journal.proofs.list.list_of.Given as goal

abbrev pub invariant-loop-image : goal.invariant-loop-image
invariant-loop-image l = record {
  at : l.at ≡ 4 * l.image-index;
  each : (k : ℕ) → k < l.image-index → listed l.list k ≡ number_in l.fn.set k;
  rest : (k : ℕ) → l.image-index ≤ k → k < 1024 → listed l.list k ≡ 4294967295;
}
