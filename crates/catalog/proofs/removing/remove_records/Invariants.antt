use Rattle.std.proofs.Common.{◌≤◌}
use Rattle.btree.specs.Kept.{LosesNoPage}
use Rattle.catalog.specs.Left.{HasTree}
use Rattle.catalog.proofs.LeftLemmas.{Takes}
use Rattle.catalog.proofs.removing.remove_records.Given as goal

abbrev pub invariant-loop-r : goal.invariant-loop-r
invariant-loop-r g l = record {
  takes : Takes (g.S.PageReader.pages l.fn.space) (g.S.PageReader.pages l.space) l.fn.root l.top l.records l.r-index;
  tree : HasTree (g.S.PageReader.pages l.fn.space) l.fn.root → HasTree (g.S.PageReader.pages l.space) l.top;
  keeps : LosesNoPage (g.S.PageReader.pages l.fn.space) (g.S.PageReader.pages l.space) l.fn.root l.top;
  whole : g.S.PageReader.is_whole l.fn.space → g.S.PageReader.is_whole l.space;
  rising : g.S.PageReader.refused l.fn.space ≤ g.S.PageReader.refused l.space;
  follows : g.S.PageReader.follows l.fn.space l.space;
}
