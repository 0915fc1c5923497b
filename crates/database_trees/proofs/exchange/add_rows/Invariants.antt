use Rattle.std.proofs.Common.{◌≤◌}
use Rattle.btree.specs.Kept.{LosesNoPage}
use Rattle.database_trees.proofs.IndexLemmas.{ArePut}
use Rattle.database_trees.proofs.exchange.add_rows.Given as goal

abbrev pub invariant-loop-at : goal.invariant-loop-at
invariant-loop-at g l = record {
  put : ArePut (g.S.PageReader.pages l.fn.space) (g.S.PageReader.pages l.space) l.root l.columns l.put l.at l.top;
  keeps : LosesNoPage (g.S.PageReader.pages l.fn.space) (g.S.PageReader.pages l.space) l.root l.top;
  whole : g.S.PageReader.is_whole l.fn.space → g.S.PageReader.is_whole l.space;
  rising : g.S.PageReader.refused l.fn.space ≤ g.S.PageReader.refused l.space;
  follows : g.S.PageReader.follows l.fn.space l.space;
}
