-- The rows of a table of a database, in blocks.
use Rattle.std.proofs.Common.{◌≡◌, sym, ap, subst, ℕ, List, [], Option, Some, None, arith}
use Rattle.std.specs.Prelude.{take}
use Rattle.std.specs.List.{AllByRecursion}
use Rattle.std.specs.FinMap.{get}
use Rattle.std.proofs.lemmas.List.{take_all}
use Rattle.sqlval.specs.declared.schema.Table.{Table}
use Rattle.denote.specs.Database.{Name}
use Rattle.store.specs.declared.rows.Numbered.{Numbered}
use Rattle.store.specs.Contents as stored
use Rattle.store.specs.Indexes.{entries_of}
use Rattle.store.specs.View.{AreEntries}
use Rattle.page_space.specs.Space.{PageMap}
use Rattle.tablestore.specs.Held.{HoldsFitting}
use Rattle.database_trees.specs.Held.{TableAt, declared_of, trees_of, ItFits, HoldsDatabase, contents_of}
use Rattle.database_trees.specs.Trees.{Lies}
use Rattle.stored_tables.specs.Named.{table_named}
use Rattle.database_trees.proofs.FitLemmas.{its_fits}
use Rattle.database_trees.proofs.ContentLemmas.{is_found, get_found, get_absent}
use Rattle.index_lookups.proofs.PlaceLemmas.{table_lies}

pub none_of_none : (most : ℕ) (found : Numbered) → AreEntries found [] → AreEntries found (take most [])
none_of_none most found are = subst (AreEntries found) (sym (take_all most [] (omega arith))) are

pub rows_found : (pages : PageMap) (root : ℕ) (name : Name) (tables : List TableAt) (table : Table) → HoldsDatabase pages root tables → table_named name (declared_of tables) ≡ Some table
    → (owned : List ℕ) × HoldsFitting pages table.root owned table.columns (entries_of (get (contents_of tables) name))
rows_found pages root name tables table h found =
    let w = is_found name tables table found in
    let lies = table_lies pages w.before w.behind w.at (subst (λ (ts : List TableAt). AllByRecursion (Lies pages) (trees_of ts)) w.is h.trees.each.1) in (
      w.at.owned,
      subst (λ (o : Option stored.StoredTable). HoldsFitting pages table.root w.at.owned table.columns (entries_of o)) (sym (get_found name tables table w))
          (subst (λ (t : Table). HoldsFitting pages t.root w.at.owned t.columns w.at.rows) w.declared (record { holds = lies.0; fits = its_fits w.before w.behind w.at (subst (AllByRecursion ItFits) w.is h.fits) })),
    )

pub no_rows_found : (name : Name) (tables : List TableAt) → table_named name (declared_of tables) ≡ None → entries_of (get (contents_of tables) name) ≡ []
no_rows_found name tables none = ap entries_of (get_absent name tables none)
