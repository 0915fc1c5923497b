use Rattle.std.proofs.Common.{Bool, ◌≤◌}
use Rattle.database_trees.proofs.UnindexLemmas.{MidwayTables}
use Rattle.database_trees.proofs.unindexing.unindex_each.Given as goal

abbrev pub invariant-loop-table : goal.invariant-loop-table
invariant-loop-table g l = record {
  midway : (alone : Bool) → MidwayTables alone (g.S.PageReader.pages l.fn.space) (g.S.PageReader.pages l.space) l.root l.name l.tables l.table-index l.top;
  whole : g.S.PageReader.is_whole l.fn.space → g.S.PageReader.is_whole l.space;
  rising : g.S.PageReader.refused l.fn.space ≤ g.S.PageReader.refused l.space;
  follows : g.S.PageReader.follows l.fn.space l.space;
}
