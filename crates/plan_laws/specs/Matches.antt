-- What a plan reads that looks a key up.
use Rattle.std.specs.Prelude.{◌≡◌, ℕ, true, List, filter, length}
use Rattle.sqlval.specs.declared.value.Value.{Value}
use Rattle.sqlval.specs.Matching.{matches}
use Rattle.algebra.specs.declared.tree.StoredTable.{StoredTable}
use Rattle.algebra.specs.declared.tree.Tree.{Tree}
use Rattle.places.specs.Left.{Entries}
use Rattle.plan_listings.specs.Loops.{loops_by_no_index}
use Rattle.store.specs.Contents.{Entry}
use Rattle.streams.specs.Reads.{to_begin}

-- It reads as many rows as the table has with this key in these columns, and nothing besides.
pub record ReadsMatches (table : StoredTable) (columns : List ℕ) (key : List Value) (plan : Tree) : Type 0 where
  pub once : loops_by_no_index plan ≡ true
  pub counts : (entries : Entries)
      → to_begin entries plan ≡ length (filter (λ (e : Entry). matches columns key e.1) (entries table.name))
