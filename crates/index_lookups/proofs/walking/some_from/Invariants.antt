use Rattle.std.proofs.Common.{◌≡◌, ◌≤◌, List}
use Rattle.std.specs.List.{AllByRecursion}
use Rattle.store.specs.Contents as stored
use Rattle.btree_read.specs.Near.{LiesIn}
use Rattle.tablestore.specs.Held.{RowFits}
use Rattle.index_lookups.specs.Sought.{is_wanted}
use Rattle.index_lookups.specs.Walked.{HoldsIndexed, StandsBefore}
use Rattle.index_lookups.proofs.StandLemmas.{IsWalking}
use Rattle.index_lookups.proofs.walking.some_from.Given as goal

abbrev pub invariant-walked : goal.invariant-walked
invariant-walked g l = record {
  same : g.R.PageReader.pages l.space ≡ g.R.PageReader.pages l.fn.space;
  whole : g.R.PageReader.is_whole l.fn.space → g.R.PageReader.is_whole l.space;
  rising : g.R.PageReader.refused l.fn.space ≤ g.R.PageReader.refused l.space;
  follows : g.R.PageReader.follows l.fn.space l.space;
  lies : LiesIn (g.R.PageReader.pages l.space) l.place.rows_root l.last;
  typed : AllByRecursion (RowFits l.place.types) l.walk.found.rows;
  walks : (rows left : List stored.Entry) → HoldsIndexed (g.R.PageReader.pages l.fn.space) l.place.root l.place.rows_root l.place.types l.place.columns rows → StandsBefore l.place.columns rows l.fn.first left
      → IsWalking l.place.columns rows (is_wanted l.sought l.place.columns) left l.walk;
}
