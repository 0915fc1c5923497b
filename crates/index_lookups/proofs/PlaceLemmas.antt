-- The index at a place of a table of a database.
use Rattle.std.proofs.Common.{◌≡◌, ◌∙◌, refl, sym, ap, subst, ℕ, zero, suc, List, [], ◌∷◌, ◌++◌, map, Option, Some, None}
use Rattle.std.specs.Prelude.{slice_get}
use Rattle.std.specs.List.{AllByRecursion}
use Rattle.std.specs.Option.{option_map}
use Rattle.std.specs.FinMap.{get}
use Rattle.sqlval.specs.declared.schema.Column.{Column}
use Rattle.sqlval.specs.declared.schema.Table.{Table}
use Rattle.denote.specs.Database.{Name, IndexDeclaration}
use Rattle.denote.specs.SchemaOf.{index_of}
use Rattle.store.specs.Contents as stored
use Rattle.store.specs.Indexes.{columns_at}
use Rattle.page_space.specs.Space.{PageMap}
use Rattle.btree_read.proofs.ListLemmas.{each_left, each_right}
use Rattle.tablestore.specs.Held.{HoldsFitting}
use Rattle.stored_tables.specs.Held as plain
use Rattle.database_trees.specs.Trees.{Lies}
use Rattle.database_trees.specs.Held.{IndexAt, TableAt, indexes_declared, declared_of, trees_of_indexes, table_trees, trees_of, rows_at, ItFits, HoldsDatabase, contents_of}
use Rattle.stored_tables.specs.Named.{table_named}
use Rattle.database_trees.proofs.FitLemmas.{its_fits}
use Rattle.database_trees.proofs.ContentLemmas.{is_found, get_found, get_absent}
use Rattle.index_lookups.specs.declared.places.Place.{Place}
use Rattle.index_lookups.specs.Walked.{HoldsIndexed, IsPlaceOf, place_of}

-- an index over these columns lies there, or there is none
abbrev IsPlace : PageMap → List stored.Entry → Option (List ℕ) → Option Place → Type 0
IsPlace pages rows found None = found ≡ None
IsPlace pages rows found (Some place) = (found ≡ Some place.columns) × HoldsIndexed pages place.root place.rows_root place.types place.columns rows

place_among : (pages : PageMap) (rows : List stored.Entry) (types : List Column) (rows_root : ℕ) (rows_owned : List ℕ) (its : List IndexAt) (n : ℕ) → HoldsFitting pages rows_root rows_owned types rows → AllByRecursion (Lies pages) (trees_of_indexes rows its)
    → IsPlace pages rows (option_map (λ (i : IndexDeclaration). i.columns) (slice_get (map index_of (indexes_declared its)) n)) (option_map (place_of types rows_root) (slice_get (indexes_declared its) n))
place_among pages rows types rows_root rows_owned [] n held h = refl
place_among pages rows types rows_root rows_owned (i ∷ its) zero held h = (refl, record { owned = i.owned; index = h.0; rows_owned = rows_owned; table = held })
place_among pages rows types rows_root rows_owned (i ∷ its) (suc n) held h = place_among pages rows types rows_root rows_owned its n held h.1

as_place : (pages : PageMap) (t : stored.StoredTable) (n : ℕ) (place : Option Place) → IsPlace pages t.entries (columns_at (Some t) n) place → IsPlaceOf pages (Some t) n place
as_place pages t n None h = h
as_place pages t n (Some place) h = h

-- the trees of a table of a database
pub table_lies : (pages : PageMap) (before behind : List TableAt) (t : TableAt) → AllByRecursion (Lies pages) (trees_of (before ++ t ∷ behind)) → AllByRecursion (Lies pages) (table_trees t)
table_lies pages [] behind t h = each_left (Lies pages) (table_trees t) (trees_of behind) h
table_lies pages (b ∷ before) behind t h = table_lies pages before behind t (each_right (Lies pages) (table_trees b) (trees_of (before ++ t ∷ behind)) h)

pub place_found : (pages : PageMap) (root : ℕ) (name : Name) (tables : List TableAt) (table : Table) (n : ℕ) (place : Option Place) → HoldsDatabase pages root tables → table_named name (declared_of tables) ≡ Some table
    → place ≡ option_map (place_of table.columns table.root) (slice_get table.indexes n) → IsPlaceOf pages (get (contents_of tables) name) n place
place_found pages root name tables table n place h found is =
    let w = is_found name tables table found in
    let lies = table_lies pages w.before w.behind w.at (subst (λ (ts : List TableAt). AllByRecursion (Lies pages) (trees_of ts)) w.is h.trees.each.1) in
    let fits = its_fits w.before w.behind w.at (subst (AllByRecursion ItFits) w.is h.fits) in
    let here = place_among pages w.at.rows w.at.columns w.at.root w.at.owned w.at.indexes n (record { holds = lies.0; fits = fits }) lies.1 in
    let same : place ≡ option_map (place_of w.at.columns w.at.root) (slice_get (indexes_declared w.at.indexes) n) =
    is ∙ ap (λ (t : Table). option_map (place_of t.columns t.root) (slice_get t.indexes n)) (sym w.declared) in
    subst (λ (o : Option stored.StoredTable). IsPlaceOf pages o n place) (sym (get_found name tables table w))
    (as_place pages (plain.stored_of (rows_at w.at)) n place
    (subst (IsPlace pages w.at.rows (columns_at (Some (plain.stored_of (rows_at w.at))) n)) (sym same) here))

pub place_absent : (pages : PageMap) (name : Name) (tables : List TableAt) (n : ℕ) → table_named name (declared_of tables) ≡ None → IsPlaceOf pages (get (contents_of tables) name) n None
place_absent pages name tables n none = ap (λ (o : Option stored.StoredTable). columns_at o n) (get_absent name tables none)
