-- Tables and databases, and when they are good (ISO/IEC 9075:1992, 4.8 to 4.10, 11.3 to 11.9; 11.8
-- with no match type and no action).
use Rattle.std.specs.Prelude.{ℕ, ◌≡◌, Bool, true, false, not, ◌||◌, nat_lt, List, [], ◌∷◌, ◌++◌, length, filter, map, flat_map, Option, Some, None, Ok, Err}
use Rattle.std.specs.List.{All, AllByRecursion, list_any, list_all, filter_map}
use Rattle.std.specs.Cmp.Lexicographic.{pointwise}
use Rattle.std.specs.FinMap.{FinMap, get, keys}
use Rattle.sqlval.specs.declared.schema.Column.{Column}
use Rattle.sqlval.specs.declared.schema.Constraint.{Constraint}
use Rattle.sqlval.specs.declared.schema.Reference.{Reference}
use Rattle.sqlval.specs.declared.schema.Rule.{Rule}
use Rattle.sqlval.specs.declared.schema.Rule.TheVariants.{NotNull, PrimaryKey, Unique, Check, ForeignKey}
use Rattle.sqlval.specs.declared.schema.Table as schema
use Rattle.sqlval.specs.declared.truth.Truth.{Truth}
use Rattle.sqlval.specs.declared.truth.Truth.TheVariants.{False, Unknown, True}
use Rattle.sqlval.specs.Comparison.{text_order}
use Rattle.sqlval.specs.Matching.{key_of, matches}
use Rattle.sqlval.specs.Storing.{fits_column}
use Rattle.sqlval.specs.Value.{Row, is_null}
use Rattle.ast.specs.Nesting.{IsNestedWithin}
use Rattle.typing.specs.declared.typed.Condition.{Condition}
use Rattle.typing.specs.Check.{ReadsCheck}
use Rattle.typing.specs.Kept.{kept_texts}
use Rattle.denote.specs.Evaluation.{Evaluation}
use Rattle.denote.specs.Bag.{Permutes}
use Rattle.denote.specs.Meaning.{truth_at}

-- names of tables, columns, constraints and indexes, as their character codes
abbrev pub Name : Type 0
Name = List ℕ

-- An index, which the standard does not know: our own choice. One that PRIMARY KEY or UNIQUE owns
-- has no name.
pub record IndexDeclaration : Type 0 where
  pub name : Option Name
  pub columns : List ℕ

-- typed columns, named constraints, indexes, and a bag of rows
pub record Table : Type 0 where
  pub columns : List Column
  pub constraints : List Constraint
  pub indexes : List IndexDeclaration
  pub rows : List Row

-- a table of a schema, with these rows; where its trees begin is left out
abbrev pub table_of : schema.Table → List Row → Table
table_of t rows = record { columns = t.columns; constraints = t.constraints; indexes = map (λ i. record { name = i.name; columns = i.columns }) t.indexes; rows = rows }

-- a finite map from names to tables
abbrev pub Database : Type 0
Database = FinMap text_order Table

abbrev pub rows_of : Option Table → List Row
rows_of None = []
rows_of (Some table) = table.rows

-- the rows that a query finds under a table's name
abbrev pub rows_in : Database → Name → List Row
rows_in db name = rows_of (get db name)

-- ---- constraints

-- The condition that the printed text of a CHECK stands for, in the table with this name and these
-- columns: that of the grammar and of the rules of names and types.
abbrev pub CheckReading : Type 0
CheckReading = Name → List Column → List ℕ → Condition

-- what a CHECK is at a row; it has no subquery, so it asks nothing of other tables
abbrev pub check_at : Condition → Row → Evaluation Truth
check_at check row = truth_at (λ _. []) check (row ∷ [])

abbrev pub is_check : Rule → Option (List ℕ)
is_check (NotNull column) = None
is_check (PrimaryKey columns) = None
is_check (Unique columns) = None
is_check (Check text) = Some text
is_check (ForeignKey reference) = None

-- the conditions of a table's CHECKs
abbrev pub checks_of : CheckReading → Name → Table → List Condition
checks_of reading name table = map (reading name table.columns) (filter_map (λ c. is_check c.rule) table.constraints)

abbrev pub is_false : Evaluation Truth → Bool
is_false (Ok False) = true
is_false (Ok Unknown) = false
is_false (Ok True) = false
is_false (Err faults) = false

-- whether one row has null in some of these columns
abbrev pub has_null : List ℕ → List Row → Bool
has_null columns rows = list_any (λ row. list_any is_null (key_of columns row)) rows

-- whether two rows have equal and wholly non-null columns (11.7)
abbrev pub has_twins : List ℕ → List Row → Bool
has_twins columns [] = false
has_twins columns (row ∷ rows) = list_any (matches columns (key_of columns row)) rows || has_twins columns rows

-- Whether a table violates a rule by its own rows. A CHECK is violated only where it is false
-- (4.10.2). PRIMARY KEY is UNIQUE and NOT NULL in one: our own choice. A foreign key asks for the
-- rows of a table, so no table violates it by itself: below.
abbrev pub is_violated : CheckReading → Name → Table → Rule → Bool
is_violated reading name table (NotNull column) = has_null (column ∷ []) table.rows
is_violated reading name table (PrimaryKey columns) = has_null columns table.rows || has_twins columns table.rows
is_violated reading name table (Unique columns) = has_twins columns table.rows
is_violated reading name table (Check text) = list_any (λ row. is_false (check_at (reading name table.columns text) row)) table.rows
is_violated reading name table (ForeignKey reference) = false

-- the names of the constraints that a table violates by its own rows
abbrev pub violated_by : CheckReading → Name → Table → List Name
violated_by reading name table = map (λ c. c.name) (filter (λ c. is_violated reading name table c.rule) table.constraints)

-- ---- foreign keys

-- whether a row satisfies a foreign key, where these are the rows of the table that it references:
-- one of its columns is null, or some row has equal ones (11.8, 8.10 without MATCH)
abbrev pub is_matched : Reference → List Row → Row → Bool
is_matched reference others row = list_any is_null (key_of reference.columns row) || list_any (matches reference.referenced (key_of reference.columns row)) others

-- whether some row does not
abbrev pub has_unmatched : Reference → List Row → List Row → Bool
has_unmatched reference others rows = list_any (λ row. not (is_matched reference others row)) rows

-- whether rows of a table violate a rule that is a foreign key, where these are the rows of every
-- table
abbrev pub is_unmatched : (Name → List Row) → List Row → Rule → Bool
is_unmatched tables rows (NotNull column) = false
is_unmatched tables rows (PrimaryKey columns) = false
is_unmatched tables rows (Unique columns) = false
is_unmatched tables rows (Check text) = false
is_unmatched tables rows (ForeignKey reference) = has_unmatched reference (tables reference.table) rows

-- the names of the foreign keys that these constraints of a table have and these of its rows
-- violate
abbrev pub unmatched_by : (Name → List Row) → List Constraint → List Row → List Name
unmatched_by tables constraints rows = map (λ c. c.name) (filter (λ c. is_unmatched tables rows c.rule) constraints)

-- ---- what a database violates

-- the names of the constraints that the table of a name violates, if there is one
abbrev pub violated_at : CheckReading → Database → Name → Option Table → List Name
violated_at reading db name None = []
violated_at reading db name (Some table) = violated_by reading name table ++ unmatched_by (rows_in db) table.constraints table.rows

-- the names of all constraints that a database violates, of whatever table they are
abbrev pub violated_in : CheckReading → Database → List Name
violated_in reading db = flat_map (λ name. violated_at reading db name (get db name)) (keys db)

-- ---- good databases

-- as many values as columns, each one that its column may hold
abbrev pub fits_columns : List Column → Row → Bool
fits_columns columns row = pointwise (λ value column. fits_column value column.column_type) row columns

-- The text of a CHECK can be read, in the table with this name and these columns: it stands for a
-- condition, and its parentheses nest at most 64 deep.
pub record IsReadable (name : Name) (columns : List Column) (text : List ℕ) : Type 0 where
  pub condition : Condition
  pub reads : ReadsCheck name columns text condition
  pub nested : IsNestedWithin 64 reads.kinds

-- the texts of all CHECKs among these constraints can be read
abbrev pub AreReadable : Name → List Column → List Constraint → Type 0
AreReadable name columns constraints = All (IsReadable name columns) (kept_texts constraints)

-- the columns of its own table that a rule names by their places; a CHECK names its columns in its
-- text
abbrev pub columns_named : Rule → List ℕ
columns_named (NotNull column) = column ∷ []
columns_named (PrimaryKey columns) = columns
columns_named (Unique columns) = columns
columns_named (Check text) = []
columns_named (ForeignKey reference) = reference.columns

abbrev pub constraint_columns : List Constraint → List ℕ
constraint_columns constraints = flat_map (λ c. columns_named c.rule) constraints

abbrev pub index_columns : List IndexDeclaration → List ℕ
index_columns indexes = flat_map (λ index. index.columns) indexes

-- whether these are places of so many columns
abbrev pub are_places : ℕ → List ℕ → Bool
are_places count places = list_all (λ place. nat_lt place count) places

-- the columns that constraints and indexes name are columns of the table
pub record NamesItsColumns (table : Table) : Type 0 where
  pub in_constraints : are_places (length table.columns) (constraint_columns table.constraints) ≡ true
  pub in_indexes : are_places (length table.columns) (index_columns table.indexes) ≡ true

-- The rows fit the columns and violate nothing by themselves, the table's CHECKs can be read, and
-- what its constraints and indexes name are its columns.
pub record IsGoodTable (reading : CheckReading) (name : Name) (table : Table) : Type 0 where
  pub fitting : list_all (fits_columns table.columns) table.rows ≡ true
  pub unviolated : violated_by reading name table ≡ []
  pub readable : AreReadable name table.columns table.constraints
  pub named : NamesItsColumns table

-- A foreign key references columns of a table that there is, as many as it has itself. That they
-- are a key of that table is asked where it is declared, and no part of this.
pub record HasReferenced (db : Database) (reference : Reference) : Type 0 where
  pub table : Table
  pub there : get db reference.table ≡ Some table
  pub places : are_places (length table.columns) reference.referenced ≡ true
  pub count : length reference.referenced ≡ length reference.columns

-- what a rule references, if it is a foreign key, is there
abbrev pub IsReferenceIn : Database → Rule → Type 0
IsReferenceIn db (NotNull column) = Unit {0}
IsReferenceIn db (PrimaryKey columns) = Unit {0}
IsReferenceIn db (Unique columns) = Unit {0}
IsReferenceIn db (Check text) = Unit {0}
IsReferenceIn db (ForeignKey reference) = HasReferenced db reference

-- what the foreign keys among these constraints reference is there
abbrev pub AreReferencesIn : Database → List Constraint → Type 0
AreReferencesIn db constraints = AllByRecursion (λ c. IsReferenceIn db c.rule) constraints

-- A table of a database: it is good by itself, its foreign keys reference what is there, and its
-- rows satisfy them.
pub record IsGoodIn (reading : CheckReading) (db : Database) (name : Name) (table : Table) : Type 0 where
  pub alone : IsGoodTable reading name table
  pub referenced : AreReferencesIn db table.constraints
  pub matched : unmatched_by (rows_in db) table.constraints table.rows ≡ []

abbrev pub IsGood : CheckReading → Database → Type 0
IsGood reading db = (name : Name) (table : Table) → get db name ≡ Some table → IsGoodIn reading db name table

-- ---- databases that are the same up to the order of rows

pub record IsSameTable (t u : Table) : Type 0 where
  pub columns : t.columns ≡ u.columns
  pub constraints : t.constraints ≡ u.constraints
  pub indexes : t.indexes ≡ u.indexes
  pub rows : Permutes t.rows u.rows

abbrev pub AreSame : Option Table → Option Table → Type 0
AreSame None None = Unit {0}
AreSame None (Some u) = ⊥
AreSame (Some t) None = ⊥
AreSame (Some t) (Some u) = IsSameTable t u

abbrev pub IsSameDatabase : Database → Database → Type 0
IsSameDatabase db new = (name : Name) → AreSame (get db name) (get new name)
