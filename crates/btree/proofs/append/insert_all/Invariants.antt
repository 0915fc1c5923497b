use Rattle.std.proofs.Common.{◌≡◌, ◌-◌, ◌≤◌, length}
use Rattle.btree.proofs.AppendLemmas.{StaysWritten, StaysKept}
use Rattle.btree.proofs.append.insert_all.Given as goal

abbrev pub invariant-entries : goal.invariant-entries
invariant-entries g l = record {
  few : l.done ≤ length l.entries;
  written : StaysWritten (g.S.PageReader.pages l.fn.space) (g.S.PageReader.pages l.space) l.root l.entries l.done l.top;
  keeps : StaysKept (g.S.PageReader.pages l.fn.space) (g.S.PageReader.pages l.space) l.root l.top;
  whole : g.S.PageReader.is_whole l.fn.space → g.S.PageReader.is_whole l.space;
  rising : g.S.PageReader.refused l.fn.space ≤ g.S.PageReader.refused l.space;
  follows : g.S.PageReader.follows l.fn.space l.space;
}

abbrev pub decreases-entries : goal.decreases-entries
decreases-entries g l = length l.entries - l.done
