use Rattle.std.proofs.Common.{ℕ, ◌<◌, ◌≡◌}
use Rattle.journal.specs.Lists.{number_in}
use Rattle.journaled_file.proofs.reading.copy_image.Given as goal

abbrev pub invariant-loop-at : goal.invariant-loop-at
invariant-loop-at l = (k : ℕ) → k < l.at-index → number_in l.images k ≡ l.number → ⊥
