use Rattle.std.proofs.Common.{Bool, ◌≤◌}
use Rattle.database_trees.proofs.UnindexLemmas.{MidwayBy}
use Rattle.database_trees.proofs.unindexing.drop_named.Given as goal

abbrev pub invariant-loop-index : goal.invariant-loop-index
invariant-loop-index g l = record {
  midway : (alone : Bool) → MidwayBy alone (g.S.PageReader.pages l.fn.space) (g.S.PageReader.pages l.space) l.name l.indexes l.index-index;
  whole : g.S.PageReader.is_whole l.fn.space → g.S.PageReader.is_whole l.space;
  rising : g.S.PageReader.refused l.fn.space ≤ g.S.PageReader.refused l.space;
  follows : g.S.PageReader.follows l.fn.space l.space;
}
