-- What a text declares is right: a table's name is free, CHECKs can be read, columns that are named
-- by their places are there, what foreign keys reference is there, and no table that is dropped is
-- referenced.
use Rattle.std.proofs.Common.{◌≡◌, refl, sym, ◌∙◌, subst, ℕ, true, false, List, length, Some, None, Ok, Err}
use Rattle.std.specs.FinMap.{get, insert}
use Rattle.sqlval.specs.Schema.{same_name}
use Rattle.sqlval.specs.declared.schema.Schema.{Schema}
use Rattle.sqlval.specs.Value.{Row}
use Rattle.lexer.specs.Printing.{HasKinds}
use Rattle.lexer.specs.Token.{Bytes}
use Rattle.lexer.specs.Tokens.{kinds_of}
use Rattle.ast.specs.declared.statement.CreateIndex.{CreateIndex as IndexTree}
use Rattle.ast.specs.declared.statement.CreateTable.{CreateTable as Tree}
use Rattle.ast.specs.declared.statement.Statement.{Statement}
use Rattle.ast.specs.declared.statement.Statement.TheVariants as asks
use Rattle.ast.specs.Grammar.{IsText}
use Rattle.ast.specs.Nesting.{IsNestedWithin}
use Rattle.ast.specs.Notation.{Tokens}
use Rattle.statement_definitions.specs.Reading.{IsRead}
use Rattle.typing.specs.declared.statement.Change.{Change}
use Rattle.typing.specs.declared.statement.Change.TheVariants as change_of
use Rattle.typing.specs.declared.statement.CreateIndex.{CreateIndex}
use Rattle.typing.specs.declared.statement.CreateTable.{CreateTable}
use Rattle.typing.specs.declared.statement.Typed.{Typed}
use Rattle.typing.specs.declared.statement.Typed.TheVariants as does
use Rattle.typing.specs.CreateTable.{create_found}
use Rattle.typing.specs.Finding.{Finding, ◌>>=◌}
use Rattle.typing.specs.Index.{index_found, dropped_index, dropped_table}
use Rattle.typing.specs.Insert.{insert_found}
use Rattle.typing.specs.Known.{Known, known, references}
use Rattle.typing.specs.Order.{ordered_found}
use Rattle.typing.specs.Statement.{answered_found}
use Rattle.typing.specs.Update.{update_found, delete_found}
use Rattle.denote.specs.Change.{created}
use Rattle.denote.specs.Database.{Name, Database, Table, AreReadable, AreReferencesIn, NamesItsColumns, are_places, constraint_columns}
use Rattle.denote.specs.SchemaOf.{IsSchemaOf}
use Rattle.denote_laws.specs.Changed.{DeclaresRightly}
use Rattle.session_definitions.specs.InsertedRows.{insert_of_rows, inserting}
use Rattle.session_definitions.specs.Rules.{Rules, AreRules, Means}

-- what a CREATE TABLE within the limits keeps of its CHECKs can be read
abbrev pub CheckLaw : Type 0
CheckLaw = (known : Known) (tree : Tree) (table : CreateTable) (text : List ℕ) (kinds : Tokens) → HasKinds text kinds → IsNestedWithin 64 kinds
    → IsText (Some 64) kinds (asks.CreateTable tree) → create_found known tree ≡ Ok table → AreReadable table.name table.columns table.constraints

-- what a CREATE TABLE, or a CREATE INDEX, names by places are columns that are there
abbrev pub ColumnLaw : Type 0
ColumnLaw = (known : Known) (tree : Tree) (table : CreateTable) → create_found known tree ≡ Ok table
    → are_places (length table.columns) (constraint_columns table.constraints) ≡ true

abbrev pub IndexLaw : Type 0
IndexLaw = (schema : Schema) (db : Database) (tree : IndexTree) (index : CreateIndex) (table : Table) → IsSchemaOf schema db → index_found (known schema) tree ≡ Ok index
    → get db index.table ≡ Some table → are_places (length table.columns) index.columns ≡ true

-- the tables of a database name columns of their own
abbrev pub NameTheirColumns : Database → Type 0
NameTheirColumns db = (name : Name) (table : Table) → get db name ≡ Some table → NamesItsColumns table

-- the name of a CREATE TABLE is free, and what its foreign keys reference is there then
abbrev pub FreeLaw : Type 0
FreeLaw = (schema : Schema) (db : Database) (tree : Tree) (table : CreateTable) → IsSchemaOf schema db → create_found (known schema) tree ≡ Ok table → get db table.name ≡ None

abbrev pub ReferenceLaw : Type 0
ReferenceLaw = (schema : Schema) (db : Database) (tree : Tree) (table : CreateTable) → IsSchemaOf schema db → NameTheirColumns db → create_found (known schema) tree ≡ Ok table
    → AreReferencesIn (insert db table.name (created table)) table.constraints

-- no other table references one that a DROP TABLE drops
abbrev pub DropLaw : Type 0
DropLaw = (schema : Schema) (db : Database) (name dropped : List ℕ) → IsSchemaOf schema db → dropped_table (known schema) name ≡ Ok dropped
    → (other : List ℕ) (table : Table) → get db other ≡ Some table → same_name other dropped ≡ false → references dropped table.constraints ≡ false

-- what a text declares by these rules is right
abbrev pub DeclareRightly : Rules → Type 0
DeclareRightly rules = (text : Bytes) (x : Statement) (db : Database) (change : Change) → NameTheirColumns db → IsRead text x → Means rules db x (does.Change change) → DeclaresRightly db change

same_change : (c d : Change) → ◌≡◌ {A = Finding Typed} (Ok (does.Change c)) (Ok (does.Change d)) → c ≡ d
same_change c d e = cc

-- a form that is found to be a change of its kind
of_kind : {A : Type 0} (db : Database) (found : Finding A) (f : A → Change) (change : Change) → ((a : A) → found ≡ Ok a → DeclaresRightly db (f a))
    → ◌≡◌ {A = Finding Typed} ((found >>= (λ a. Ok (f a))) >>= (λ c. Ok (does.Change c))) (Ok (does.Change change)) → DeclaresRightly db change
of_kind db (Ok a) f change h e = subst (DeclaresRightly db) (same_change (f a) change e) (h a refl)
of_kind db (Err reasons) f change h e = absurd (cc e)

-- a query is no change
no_change : {A : Type 0} (db : Database) (found : Finding A) (f : A → Typed) (change : Change) → ((a : A) → f a ≡ does.Change change → ⊥)
    → ◌≡◌ {A = Finding Typed} (found >>= (λ a. Ok (f a))) (Ok (does.Change change)) → DeclaresRightly db change
no_change db (Ok a) f change h e = absurd (h a (cc e))
no_change db (Err reasons) f change h e = absurd (cc e)

module _ (checks : CheckLaw) (columns : ColumnLaw) (indexes : IndexLaw) (frees : FreeLaw) (refers : ReferenceLaw) (drops : DropLaw) (schema : Schema) (db : Database) (of : IsSchemaOf schema db)
    (names : NameTheirColumns db) (text : Bytes) (change : Change) where
  created_right : (tree : Tree) → IsRead text (asks.CreateTable tree) → (c : CreateTable) → create_found (known schema) tree ≡ Ok c → DeclaresRightly db (change_of.CreateTable c)
  created_right tree read c found = record {
    free = frees schema db tree c of found;
    readable = checks (known schema) tree c text (kinds_of read.tokens) (record { tokens = read.tokens; are = read.spelled.tokenized; kinds_are = refl }) read.spelled.nested read.statement found;
    named = columns (known schema) tree c found;
    referenced = refers schema db tree c of names found;
  }

  found_right : (x : Statement) → IsRead text x → answered_found x schema ≡ Ok (does.Change change) → DeclaresRightly db change
  found_right (asks.Query tree) read e = no_change db (ordered_found (known schema) tree) does.Query change (λ q f. absurd (cc f)) e
  found_right (asks.Explain tree) read e = no_change db (ordered_found (known schema) tree) does.Explain change (λ q f. absurd (cc f)) e
  found_right (asks.CreateTable tree) read e = of_kind db (create_found (known schema) tree) change_of.CreateTable change (created_right tree read) e
  found_right (asks.DropTable name) read e = of_kind db (dropped_table (known schema) name) change_of.DropTable change (λ n f. drops schema db name n of f) e
  found_right (asks.CreateIndex tree) read e = of_kind db (index_found (known schema) tree) change_of.CreateIndex change
      (λ c f. λ table is. indexes schema db tree c table of f is) e
  found_right (asks.DropIndex name) read e = of_kind db (dropped_index (known schema) name) change_of.DropIndex change (λ n f. tt) e
  found_right (asks.Insert tree) read e = of_kind db (insert_found (known schema) tree) change_of.Insert change (λ i f. tt) e
  found_right (asks.Update tree) read e = of_kind db (update_found (known schema) tree) change_of.Update change (λ u f. tt) e
  found_right (asks.Delete tree) read e = of_kind db (delete_found (known schema) tree) change_of.Delete change (λ d f. tt) e
  found_right (asks.Commit work) read e = absurd (cc e)
  found_right (asks.Rollback work) read e = absurd (cc e)
  found_right (asks.SetTransaction mode) read e = absurd (cc e)
  found_right (asks.DeclareCursor x) read e = absurd (cc e)
  found_right (asks.OpenCursor name) read e = absurd (cc e)
  found_right (asks.Fetch name) read e = absurd (cc e)
  found_right (asks.CloseCursor name) read e = absurd (cc e)

pub declare_rightly : CheckLaw → ColumnLaw → IndexLaw → FreeLaw → ReferenceLaw → DropLaw → (rules : Rules) → AreRules rules → DeclareRightly rules
declare_rightly checks columns indexes frees refers drops rules are text x db change names read m =
    found_right checks columns indexes frees refers drops m.schema db m.of_database names text change x read (sym (are.statements m.schema x) ∙ m.found)

-- an INSERT of rows that are given declares nothing
pub inserts_rightly : (rules : Rules) (table : Name) (rows : List Row) (x : Statement) (db : Database) (change : Change)
    → Means (inserting rules table rows) db x (does.Change change) → DeclaresRightly db change
inserts_rightly rules table rows x db change m = of_kind db (insert_of_rows (known m.schema) table rows) change_of.Insert change (λ i f. tt) m.found
