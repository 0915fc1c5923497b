use Rattle.std.proofs.Common.{◌≡◌, List, drop}
use Rattle.catalog_records.specs.declared.record.Record.{Record}
use Rattle.btree_read.specs.Nodes.{entries_in}
use Rattle.catalog.specs.Held.{entries_of, AreCoded}
use Rattle.catalog.specs.Decoded.{AreLeft}
use Rattle.catalog.proofs.decoding.records_of.Given as goal

abbrev pub invariant-loop-leaf : goal.invariant-loop-leaf
invariant-loop-leaf l = (all : List Record) → AreCoded all → l.entries ≡ entries_of all → AreLeft l.records (entries_in (drop l.leaf-index l.leaves)) all
