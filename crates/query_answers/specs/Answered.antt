-- The rows that a reading finds, and the tree of a query over it.
use Rattle.std.specs.Prelude.{◌≡◌, ◌⊎◌, ℕ, List, Result, Err}
use Rattle.refusals.specs.declared.refusal.Refusal.{Refusal}
use Rattle.refusals.specs.declared.refusal.Refusal.TheVariants.{Memory}
use Rattle.sqlval.specs.Value.{Row}
use Rattle.denote.specs.declared.fault.Fault.{Fault}
use Rattle.session_definitions.specs.Refusals.{refusal_of}
use Rattle.typing.specs.declared.typed.OrderedQuery.{OrderedQuery}
use Rattle.algebra.specs.declared.tree.StoredTable.{StoredTable}
use Rattle.algebra.specs.declared.tree.Tree.{Tree}
use Rattle.algebra.specs.Translated.{tree_of_ordered}
use Rattle.denote.specs.Database.{rows_in}
use Rattle.denote.specs.Meaning.{Tables}
use Rattle.store.specs.Contents.{Contents, database_of}

-- the rows under each name
abbrev pub rows_found : Contents → Tables
rows_found contents = rows_in (database_of contents)

-- a tree of the query, whatever it knows of tables beside their names
pub record IsTreeOf (ordered : OrderedQuery) (tree : Tree) : Type 0 where
  pub described : List ℕ → StoredTable
  pub names : (name : List ℕ) → (described name).name ≡ name
  pub is : tree ≡ tree_of_ordered described ordered

-- want of memory, or the fault of a reply
abbrev pub RefusesAs : Result (List Row) Fault → Refusal → Type 0
RefusesAs reply refusal = (refusal ≡ Memory) ⊎ ((fault : Fault) × (refusal ≡ refusal_of fault) × (reply ≡ Err fault))
