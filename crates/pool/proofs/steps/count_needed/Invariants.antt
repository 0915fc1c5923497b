use Rattle.std.proofs.Common.{◌≡◌, ◌≤◌, take}
use Rattle.std.specs.Prelude.{sum_by}
use Rattle.pool.specs.Images.{needs, pinned_in}
use Rattle.pool.proofs.steps.count_needed.Given as goal

abbrev pub invariant-loop-page : goal.invariant-loop-page
invariant-loop-page l = record {
  count : l.needed ≡ sum_by (needs l.count (pinned_in l.pins) l.slots) (take l.page-index l.numbers);
  most : l.needed ≤ l.page-index;
}
