use Rattle.std.proofs.Common.{◌≡◌, ◌≤◌, ◌+◌}
use Rattle.btree_read.proofs.SeenLemmas.{StaysBegun}
use Rattle.btree_read.proofs.leaf_block.+block_below.Given as goal

abbrev pub decreases-block_below : goal.decreases-block_below
decreases-block_below g l = l.levels

abbrev pub invariant-loop-i : goal.invariant-loop-i
invariant-loop-i g l = record {
  same : g.R.PageReader.pages l.space ≡ g.R.PageReader.pages l.fn.space;
  stays : StaysBegun (g.R.PageReader.pages l.fn.space) l.page l.fn.start l.key l.fn.seen.wanted l.first l.seen (l.i + 1);
  whole : g.R.PageReader.is_whole l.fn.space → g.R.PageReader.is_whole l.space;
  rising : g.R.PageReader.refused l.fn.space ≤ g.R.PageReader.refused l.space;
  follows : g.R.PageReader.follows l.fn.space l.space;
}
