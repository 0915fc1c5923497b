-- What a store holds: tables, whose rows have numbers. What is made of them by CREATE, DROP, and by
-- storing, replacing and deleting rows (ISO/IEC 9075:1992, 11.3, 11.18, 13.7, 13.8, 13.10). Row
-- numbers and indexes are our own choice: the standard knows neither, and a database of the
-- definitions has no numbers.
use Rattle.std.specs.Prelude.{ℕ, ◌+◌, ◌<◌, ◌==◌, max, not, if◌then◌else◌, List, [], ◌∷◌, ◌++◌, map, filter, length, slice_index_or, Option, Some, None}
use Rattle.std.specs.List.{enumerate_from, fold}
use Rattle.std.specs.Option.{option_map}
use Rattle.std.specs.FinMap.{FinMap, get, contains_key, insert, remove, entries, from_entries}
use Rattle.sqlval.specs.declared.schema.Column.{Column}
use Rattle.sqlval.specs.declared.schema.Constraint.{Constraint}
use Rattle.sqlval.specs.declared.schema.Index.{Index}
use Rattle.sqlval.specs.declared.schema.Table as schema
use Rattle.sqlval.specs.Comparison.{text_order}
use Rattle.sqlval.specs.Schema.{is_named}
use Rattle.sqlval.specs.Value.{Row}
use Rattle.denote.specs.Database.{Name, IndexDeclaration, Table, Database}
use Rattle.denote.specs.SchemaOf.{index_of}

-- a row with its number
abbrev pub Entry : Type 0
Entry = ℕ × Row

-- what is declared of a table, and its rows in the order of their numbers
pub record StoredTable : Type 0 where
  pub columns : List Column
  pub constraints : List Constraint
  pub indexes : List IndexDeclaration
  pub entries : List Entry

-- tables by their names
abbrev pub Contents : Type 0
Contents = FinMap text_order StoredTable

-- each number is less than the next
abbrev pub Rises : List Entry → Type 0
Rises found = (k : ℕ) (d : Entry) → k + 1 < length found
    → (slice_index_or found k d).0 < (slice_index_or found (k + 1) d).0

-- ---- without the numbers

abbrev pub rows_of : List Entry → List Row
rows_of found = map (λ (e : Entry). e.1) found

abbrev pub table_of : StoredTable → Table
table_of t = record { columns = t.columns; constraints = t.constraints; indexes = t.indexes; rows = rows_of t.entries }

-- the database that a store holds
abbrev pub database_of : Contents → Database
database_of c = from_entries (map (λ (e : Name × StoredTable). (e.0, table_of e.1)) (entries c))

-- ---- what changes make of a table

-- 0 in an empty table, else one more than the greatest number
abbrev pub next_number : List Entry → ℕ
next_number [] = 0
next_number (e ∷ found) = max (e.0 + 1) (next_number found)

-- with these rows at its end, numbered on
abbrev pub with_rows : List Row → StoredTable → StoredTable
with_rows rows t = record t { entries = t.entries ++ enumerate_from (next_number t.entries) rows }

-- with this row in place of the one of this number
abbrev pub with_row : ℕ → Row → StoredTable → StoredTable
with_row number row t = record t { entries = map (λ (e : Entry). if e.0 == number then (number, row) else e) t.entries }

-- without the row of this number
abbrev pub without_row : ℕ → StoredTable → StoredTable
without_row number t = record t { entries = filter (λ (e : Entry). not (e.0 == number)) t.entries }

-- with one more index
abbrev pub with_index : Index → StoredTable → StoredTable
with_index index t = record t { indexes = t.indexes ++ index_of index ∷ [] }

-- without the index of this name
abbrev pub without_index : Name → StoredTable → StoredTable
without_index name t = record t { indexes = filter (λ index. not (is_named name index.name)) t.indexes }

-- as it is declared, without rows
abbrev pub new_table : schema.Table → StoredTable
new_table t = record { columns = t.columns; constraints = t.constraints; indexes = map index_of t.indexes; entries = [] }

-- ---- and of the tables

abbrev pub put_back : Contents → Name → Option StoredTable → Contents
put_back c name None = c
put_back c name (Some t) = insert c name t

-- with a change of the table of this name; where no table has it, as they are
abbrev pub changed : (StoredTable → StoredTable) → Contents → Name → Contents
changed change c name = put_back c name (option_map change (get c name))

abbrev pub appended : Contents → Name → List Row → Contents
appended c name rows = changed (with_rows rows) c name

abbrev pub replaced : Contents → Name → ℕ → Row → Contents
replaced c name number row = changed (with_row number row) c name

abbrev pub deleted : Contents → Name → ℕ → Contents
deleted c name number = changed (without_row number) c name

-- many rows, one after another
abbrev pub replaced_all : Contents → Name → List Entry → Contents
replaced_all c name found = fold (λ (left : Contents) (e : Entry). replaced left name e.0 e.1) c found

abbrev pub deleted_all : Contents → Name → List ℕ → Contents
deleted_all c name numbers = fold (λ (left : Contents) (number : ℕ). deleted left name number) c numbers

-- a new table, where its name is free
abbrev pub with_table : Contents → schema.Table → Contents
with_table c t = if contains_key c t.name then c else insert c t.name (new_table t)

abbrev pub without_table : Contents → Name → Contents
without_table c name = remove c name

abbrev pub indexed : Contents → Name → Index → Contents
indexed c name index = changed (with_index index) c name

abbrev pub unindexed : Contents → Name → Contents
unindexed c name = from_entries (map (λ (e : Name × StoredTable). (e.0, without_index name e.1)) (entries c))
