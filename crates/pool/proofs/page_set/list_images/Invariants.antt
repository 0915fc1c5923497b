use Rattle.std.proofs.Common.{◌≡◌, ℕ, ◌<◌, ◌++◌, length}
use Rattle.journal.specs.Lists.{image_in}
use Rattle.pool.proofs.page_set.list_images.Given as goal

abbrev pub invariant-listed : goal.invariant-listed
invariant-listed l = record {
  same : l.images ++ l.pages.entries ≡ l.fn.pages.entries;
  sized : (i : ℕ) → i < length l.images → length (image_in l.images i) ≡ 4096;
}

abbrev pub decreases-listed : goal.decreases-listed
decreases-listed l = length l.pages.entries
