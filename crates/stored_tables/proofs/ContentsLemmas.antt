-- What pages hold is what is read there.
use Rattle.std.proofs.Common.{◌≡◌, ℕ, ◌<◌, List, [], ◌∷◌, map, IsSome, refl, ap, ◌∙◌}
use Rattle.std.specs.List.{AllByRecursion}
use Rattle.std.specs.FinMap.{from_entries}
use Rattle.sqlval.specs.declared.schema.Table.{Table}
use Rattle.denote.specs.SchemaOf.{index_of}
use Rattle.store.specs.Contents as stored
use Rattle.page_space.specs.Space.{PageMap}
use Rattle.catalog_records.specs.Records.{schema_records}
use Rattle.catalog.specs.Held as schema
use Rattle.tablestore.specs.Held.{HoldsRows, entries_of}
use Rattle.stored_tables.specs.Held.{TableAt, declared_of, HoldsIts, HoldsTables, entry_at, contents_of}
use Rattle.stored_tables.specs.Trees.{entries_at}
use Rattle.stored_tables.specs.Schemas.{tables_in}
use Rattle.stored_tables.specs.Contents.{row_of, rows_at, table_in, contents_at}
use Rattle.stored_tables.proofs.ValueLemmas.{rows_back}
use Rattle.stored_tables.proofs.TreeLemmas.{tree_back}
use Rattle.stored_tables.proofs.DeclaredLemmas.{tables_back}

abbrev AreBounded : PageMap → Type 0
AreBounded pages = (n : ℕ) → IsSome (pages n) → (0 < n) × (n < 65536)

its_rows : (pages : PageMap) (root : ℕ) (owned : List ℕ) (rows : List stored.Entry) → AreBounded pages → HoldsRows pages root owned rows → rows_at pages root ≡ rows
its_rows pages root owned rows bounded h = ap (map row_of) (tree_back pages root owned (entries_of rows) bounded h.tree) ∙ rows_back rows h.kept

each_back : (pages : PageMap) (tables : List TableAt) → AreBounded pages → AllByRecursion (HoldsIts pages) tables → map (table_in pages) (declared_of tables) ≡ map entry_at tables
each_back pages [] bounded h = refl
each_back pages (t ∷ tables) bounded h =
    let rows = its_rows pages t.declared.root t.owned t.rows bounded h.0 in
    let others = each_back pages tables bounded h.1 in
    λ i. (t.declared.name, record { columns = t.declared.columns; constraints = t.declared.constraints; indexes = map index_of t.declared.indexes; entries = rows i }) ∷ others i

pub contents_back : (pages : PageMap) (root : ℕ) (tables : List TableAt) → AreBounded pages → HoldsTables pages root tables → contents_at pages root ≡ contents_of tables
unfolding contents_at
contents_back pages root tables bounded h =
    let schema_is : tables_in (entries_at pages root) ≡ declared_of tables =
    ap tables_in (tree_back pages root h.owned (schema.entries_of (schema_records (declared_of tables))) bounded h.schema.tree) ∙ tables_back (declared_of tables) h.schema.range h.schema.coded in
    ap (λ (ts : List Table). from_entries (map (table_in pages) ts)) schema_is ∙ ap from_entries (each_back pages tables bounded h.rows)
