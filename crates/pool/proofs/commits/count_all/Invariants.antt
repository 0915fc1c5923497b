use Rattle.std.proofs.Common.{◌≡◌, ◌<◌, ◌≤◌, ℕ}
use Rattle.journal.specs.Lists.{number_in}
use Rattle.journal.specs.Versions.{HasPage}
use Rattle.pool.proofs.commits.count_all.Given as goal

abbrev pub invariant-loop-number : goal.invariant-loop-number
invariant-loop-number l = record {
  grows : l.count ≤ l.next;
  below : (k : ℕ) → k < l.number-index → number_in l.images k < l.next;
  covered : (n : ℕ) → l.count ≤ n → n < l.next → HasPage n l.images;
}
