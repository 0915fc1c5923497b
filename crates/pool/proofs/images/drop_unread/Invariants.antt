use Rattle.std.proofs.Common.{◌≡◌, ◌-◌, ◌+◌, ◌<◌, ◌≤◌, ℕ, true, length}
use Rattle.std.specs.List.{list_any}
use Rattle.pool.specs.Images.{covers, reads, with_bytes, pinned_in}
use Rattle.pool.specs.Ready.{KeepsSeen}
use Rattle.pool.proofs.images.drop_unread.Given as goal

abbrev pub invariant-looked : goal.invariant-looked
invariant-looked l = record {
  few : with_bytes l.images ≤ l.count;
  count : l.count + with_bytes l.fn.images ≡ l.fn.count + with_bytes l.images;
  fewer : with_bytes l.images ≤ with_bytes l.fn.images;
  shown : KeepsSeen l.pins l.fn.images l.images;
  needed : (i : ℕ) → i < l.place → list_any (reads l.images i) (pinned_in l.pins) ≡ true;
  covers : (c : ℕ) → covers c l.images ≡ true → covers c l.fn.images ≡ true;
}

abbrev pub decreases-looked : goal.decreases-looked
decreases-looked l = length l.images - l.place
