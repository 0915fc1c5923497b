use Rattle.std.proofs.Common.{◌++◌, List, map, drop}
use Rattle.catalog_records.specs.declared.record.Record.{Record}
use Rattle.btree_read.specs.declared.entry.Entry.{Entry}
use Rattle.btree_read.specs.Nodes.{entry_of}
use Rattle.catalog.specs.Decoded.{AreLeft}
use Rattle.catalog.proofs.decoding.put_records.Given as goal

abbrev pub invariant-loop-i : goal.invariant-loop-i
invariant-loop-i l = (more : List Entry) (all : List Record) → AreLeft l.fn.records (map entry_of l.leaf.cells ++ more) all → AreLeft l.records (map entry_of (drop l.i l.leaf.cells) ++ more) all
