-- When the pages of a version are a database.
use Rattle.std.proofs.Common.{◌≡◌, ◌∙◌, ℕ, ◌<◌, zero, suc, List, Option, Some, None, IsSome, refl, sym, ap, subst, ◌⊎◌, inl, inr}
use Rattle.std.specs.FinMap.{get}
use Rattle.std.specs.Option.{is_some}
use Rattle.denote.specs.Database.{Name}
use Rattle.store.specs.Contents.{StoredTable, Contents, Rises}
use Rattle.pagefile.specs.declared.header.FileHeader.{FileHeader}
use Rattle.pagefile.specs.Header.{IsHeader}
use Rattle.pool.specs.Pages.{PageMap, over}
use Rattle.overlay.specs.Bounded.{in_use-bounded}
use Rattle.overlay.specs.InUse.{in_use}
use Rattle.overlay.specs.Whole.{IsFull, IsWholeOver, HasRoot}
use Rattle.btree_read.specs.declared.entry.Entry.{Entry}
use Rattle.btree_read.specs.Nodes.{Node, HasNode}
use Rattle.btree_read.specs.Tree.{Tree, page_of, nodes_of, Holds, IsTree}
use Rattle.stored_tables.specs.Held as plain
use Rattle.database_trees.specs.Held.{TableAt, rows_of_tables, HoldsDatabase, IsAllOwned}
use Rattle.database_trees.specs.Changed.{DatabaseWritten, DatabaseOwned}
use Rattle.database_trees.proofs.DatabaseLemmas.{as_tables, as_any, owned_stays}
use Rattle.stored_tables.specs.Contents.{contents_at}
use Rattle.database_versions.specs.Changed.{IsNow}
use Rattle.database_versions.specs.Databases.{root_in, root_of, IsDatabase, IsOwned}

-- ---- what the laws of databases and tables say

abbrev pub TheyStay : Type 0
TheyStay = (old new : PageMap) (root : ℕ) (tables : List TableAt) → ((n : ℕ) → IsSome (old n) → new n ≡ old n) → HoldsDatabase old root tables → HoldsDatabase new root tables

abbrev pub TheyAreRead : Type 0
TheyAreRead = (pages : PageMap) (root : ℕ) (tables : List plain.TableAt) → ((n : ℕ) → IsSome (pages n) → (0 < n) × (n < 65536)) → plain.HoldsTables pages root tables → contents_at pages root ≡ plain.contents_of tables

abbrev pub TheyRise : Type 0
TheyRise = (pages : PageMap) (root : ℕ) (tables : List plain.TableAt) (name : Name) (table : StoredTable) → plain.HoldsTables pages root tables → get (plain.contents_of tables) name ≡ Some table → Rises table.entries

-- ---- the root

some_same : (a b : List ℕ) → Some a ≡ Some b → a ≡ b
some_same a b h = cc

-- page 0 names the root that its header has
pub root_is : (version written : PageMap) (h : FileHeader) → ((first : List ℕ) → over written version 0 ≡ Some first → IsHeader first h) → IsWholeOver version written → root_of version written ≡ h.catalog_root
root_is version written h says whole = let w = whole.whole.1 in ap root_in w.there ∙ (says w.first w.there).catalog_root

pub named_root : (o : Option (List ℕ)) (root : ℕ) (first : List ℕ) → o ≡ Some first → HasRoot o root → root_in o ≡ root
named_root None root first there has = absurd (cc)
named_root (Some page) root first there has = has

-- a root at which a database is held is 0, or a page in use
pub root_there : (pages : PageMap) (root : ℕ) (tables : List TableAt) → HoldsDatabase pages root tables → (root ≡ 0) ⊎ IsSome (pages root)
root_there pages root tables h = by root h.owned _ h.trees.each.0.tree
  where
    node_there : (page : ℕ) (node : Node) → HasNode pages page node → IsSome (pages page)
    node_there page node h = ap (λ (o : Option (List ℕ)). is_some o) h.there

    first_there : (d : ℕ) (t : Tree d) → Holds pages (nodes_of d t) → IsSome (pages (page_of d t))
    first_there zero t h = node_there t.page _ h.0
    first_there (suc d) t h = node_there t.page _ h.0

    by : (root : ℕ) (owned : List ℕ) (entries : List Entry) → IsTree pages root owned entries → (root ≡ 0) ⊎ IsSome (pages root)
    by zero owned entries tree = inl refl
    by (suc r) owned entries tree = inr (subst (λ (n : ℕ). IsSome (pages n)) tree.at (first_there tree.depth tree.tree tree.holds))

-- ---- a database

pub is_database : TheyAreRead → TheyRise → (version written : PageMap) (tables : List TableAt) → IsWholeOver version written → HoldsDatabase (in_use version written) (root_of version written) tables
    → IsDatabase version written
is_database read rise version written tables whole holds = record {
  whole = whole;
  tables = tables;
  holds = holds;
  read = read (in_use version written) (root_of version written) (rows_of_tables tables) (λ n there. in_use-bounded version written n there) (as_tables (in_use version written) (root_of version written) tables holds);
  rise = λ name table e. rise (in_use version written) (root_of version written) (rows_of_tables tables) name table (as_tables (in_use version written) (root_of version written) tables holds) e;
}

pub becomes : TheyStay → TheyAreRead → TheyRise → (version written next : PageMap) (root : ℕ) (contents : Contents) → ((n : ℕ) → in_use version next n ≡ in_use version written n)
    → HasRoot (over next version 0) root → IsWholeOver version next → DatabaseWritten (in_use version written) contents root → IsNow version next contents
becomes stay read rise version written next root contents same has whole put =
    let is_root : root_of version next ≡ root = named_root (over next version 0) root whole.whole.1.first whole.whole.1.there has in
    let holds : HoldsDatabase (in_use version next) (root_of version next) put.tables = subst (λ (r : ℕ). HoldsDatabase (in_use version next) r put.tables) (sym is_root)
    (stay (in_use version written) (in_use version next) root put.tables (λ n there. same n) put.holds) in
    let is : IsDatabase version next = is_database read rise version next put.tables whole holds in
    record { is = is; shows = read (in_use version next) (root_of version next) (rows_of_tables put.tables) (λ n there. in_use-bounded version next n there) (as_tables (in_use version next) (root_of version next) put.tables holds) ∙ put.shows }

-- where all pages are owned
pub written_any : (pages : PageMap) (contents : Contents) (root : ℕ) → DatabaseOwned pages contents root → DatabaseWritten pages contents root
written_any pages contents root put = record { tables = put.tables; holds = as_any pages root put.tables put.holds; shows = put.shows }

pub becomes_owned : (version written next : PageMap) (root : ℕ) (contents : Contents) → ((n : ℕ) → in_use version next n ≡ in_use version written n)
    → HasRoot (over next version 0) root → IsWholeOver version next → IsNow version next contents → IsFull version → DatabaseOwned (in_use version written) contents root → IsOwned version next
becomes_owned version written next root contents same has whole now start put =
    let is_root : root_of version next ≡ root = named_root (over next version 0) root whole.whole.1.first whole.whole.1.there has in
    record {
      is = now.is;
      start = start;
      tables = put.tables;
      owned = subst (λ (r : ℕ). IsAllOwned (in_use version next) r put.tables) (sym is_root) (owned_stays (in_use version written) (in_use version next) root put.tables same put.holds);
    }
