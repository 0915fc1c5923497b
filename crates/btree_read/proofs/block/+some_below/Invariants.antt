use Rattle.std.proofs.Common.{◌≡◌, ◌≤◌, ◌+◌, length}
use Rattle.btree_read.proofs.BlockLemmas.{StaysTaken}
use Rattle.btree_read.proofs.block.+some_below.Given as goal

abbrev pub decreases-some_below : goal.decreases-some_below
decreases-some_below g l = l.levels

abbrev pub invariant-loop-i : goal.invariant-loop-i
invariant-loop-i g l = record {
  same : g.R.PageReader.pages l.space ≡ g.R.PageReader.pages l.fn.space;
  stays : StaysTaken (g.R.PageReader.pages l.fn.space) l.page l.start l.key l.most l.fn.found l.found (l.i + 1);
  few : length l.found ≤ l.most;
  whole : g.R.PageReader.is_whole l.fn.space → g.R.PageReader.is_whole l.space;
  rising : g.R.PageReader.refused l.fn.space ≤ g.R.PageReader.refused l.space;
  follows : g.R.PageReader.follows l.fn.space l.space;
}
