use Rattle.std.proofs.Common.{◌≤◌, ◌+◌}
use Rattle.btree_remove.proofs.DropLemmas.{StaysDropped}
use Rattle.btree_remove.proofs.tree.+drop_below.Given as goal

abbrev pub decreases-drop_below : goal.decreases-drop_below
decreases-drop_below g l = l.levels

abbrev pub invariant-loop-i : goal.invariant-loop-i
invariant-loop-i g l = record {
  stays : StaysDropped (g.S.PageReader.pages l.fn.space) (g.S.PageReader.pages l.space) l.page (l.i + 1);
  whole : g.S.PageReader.is_whole l.fn.space → g.S.PageReader.is_whole l.space;
  rising : g.S.PageReader.refused l.fn.space ≤ g.S.PageReader.refused l.space;
  follows : g.S.PageReader.follows l.fn.space l.space;
}
