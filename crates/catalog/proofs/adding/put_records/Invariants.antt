use Rattle.std.proofs.Common.{ℕ, ◌≤◌, List, take}
use Rattle.btree_read.specs.declared.entry.Entry.{Entry}
use Rattle.btree_read.specs.Tree.{IsTree}
use Rattle.btree.specs.Written.{IsWritten}
use Rattle.btree.specs.Kept.{LosesNoPage}
use Rattle.catalog.specs.Held.{AreCoded}
use Rattle.catalog.specs.Changed.{put_all}
use Rattle.catalog.proofs.adding.put_records.Given as goal

abbrev pub invariant-loop-r : goal.invariant-loop-r
invariant-loop-r g l = record {
  put : (owned : List ℕ) (entries : List Entry) → IsTree (g.S.PageReader.pages l.fn.space) l.fn.root owned entries
      → IsWritten (g.S.PageReader.pages l.fn.space) (g.S.PageReader.pages l.space) owned (put_all (take l.r-index l.records) entries) l.top;
  keeps : LosesNoPage (g.S.PageReader.pages l.fn.space) (g.S.PageReader.pages l.space) l.fn.root l.top;
  coded : AreCoded (take l.r-index l.records);
  whole : g.S.PageReader.is_whole l.fn.space → g.S.PageReader.is_whole l.space;
  rising : g.S.PageReader.refused l.fn.space ≤ g.S.PageReader.refused l.space;
  follows : g.S.PageReader.follows l.fn.space l.space;
}
