-- Worked changes of tables and indexes: a statement, a database, and what becomes of it.
use Rattle.std.proofs.Common.{◌≡◌, refl, sym, ap, ◌∙◌, arith, ℕ, List, [], ◌∷◌, length, Option, Some, None, replicate}
use Rattle.std.specs.Cmp.Lexicographic.{nat_list_cmp_total}
use Rattle.std.specs.FinMap.{empty, get, insert, entries, from_entries, put, entries-insert, get-insert, get-remove, len-entries, len-empty}
use Rattle.sqlval.specs.declared.value.Value.TheVariants.{Text}
use Rattle.sqlval.specs.declared.schema.Constraint.{Constraint}
use Rattle.sqlval.specs.declared.schema.Rule.TheVariants.{NotNull, PrimaryKey, Unique, Check}
use Rattle.sqlval.specs.declared.storing.ColumnType.TheVariants.{Varchar}
use Rattle.sqlval.specs.Comparison.{text_order}
use Rattle.typing.specs.declared.statement.Change.TheVariants as does
use Rattle.denote.specs.declared.fault.Fault.TheVariants.{Key}
use Rattle.denote.specs.Database.{Name, Database, Table, IndexDeclaration}
use Rattle.denote.specs.Change.{Changed, Makes, Raises, Violates, changed}
use Rattle.denote.proofs.ExampleTrees.{number, t, s', table, columns_from, one_integer, two_integers, numbered, lettered, no_check, found}

-- the names `I` and `J`
abbrev i : Name
i = 73 ∷ []

abbrev j : Name
j = 74 ∷ []

-- an index on the second column, with this name; and one that a constraint owns, on the first
abbrev named : Name → IndexDeclaration
named name = record { name = Some name; columns = 1 ∷ [] }

abbrev owned : IndexDeclaration
owned = record { name = None; columns = 0 ∷ [] }

-- ---- CREATE TABLE

-- A NOT NULL, PRIMARY KEY (A), CHECK .., CONSTRAINT P UNIQUE (B, A)
abbrev four_constraints : List Constraint
four_constraints = numbered 1 (NotNull 0) ∷ numbered 2 (PrimaryKey (0 ∷ [])) ∷ numbered 3 (Check []) ∷ lettered 80 (Unique (1 ∷ 0 ∷ [])) ∷ []

-- CREATE TABLE T (A INTEGER NOT NULL, B INTEGER, PRIMARY KEY (A), CHECK .., CONSTRAINT P UNIQUE (B,
-- A))
pub keys_own_indexes : (db : Database) →
    changed no_check db (does.CreateTable (record { name = t; columns = columns_from 65 two_integers; constraints = four_constraints }))
    ≡ Makes (insert db t (record (table two_integers four_constraints []) { indexes = owned ∷ record { name = None; columns = 1 ∷ 0 ∷ [] } ∷ [] })) None
keys_own_indexes db = refl

-- ---- CREATE INDEX and DROP INDEX

-- T (A PRIMARY KEY, B) with (1, 1) and (2, 1), and these indexes
abbrev indexed : List IndexDeclaration → Table
indexed indexes = record (table two_integers (numbered 1 (PrimaryKey (0 ∷ [])) ∷ []) ((number 1 ∷ number 1 ∷ []) ∷ (number 2 ∷ number 1 ∷ []) ∷ [])) { indexes = indexes }

-- CREATE INDEX I ON T (B)
pub an_index_comes_last : (db : Database) →
    changed no_check (insert db t (indexed (owned ∷ []))) (does.CreateIndex (record { name = i; table = t; columns = 1 ∷ [] }))
    ≡ Makes (insert (insert db t (indexed (owned ∷ []))) t (indexed (owned ∷ named i ∷ []))) None
an_index_comes_last db = simp found

-- a key of texts of 255, 255 and `last` characters takes 600 bytes where `last` is 76: 8 of row
-- number, and 2 a text that are not its characters
abbrev long_texts : ℕ → List IndexDeclaration → Table
long_texts last indexes =
    record (table (Varchar 255 ∷ Varchar 255 ∷ Varchar 255 ∷ []) [] ((Text (replicate 255 97) ∷ Text (replicate 255 97) ∷ Text (replicate last 97) ∷ []) ∷ [])) { indexes = indexes }

-- CREATE INDEX I ON T (A, B, C)
abbrev index_of_long_texts : Database → ℕ → Changed
index_of_long_texts db last = changed no_check (insert db t (long_texts last [])) (does.CreateIndex (record { name = i; table = t; columns = 0 ∷ 1 ∷ 2 ∷ [] }))

pub a_key_of_600_bytes : (db : Database) →
    index_of_long_texts db 76 ≡ Makes (insert (insert db t (long_texts 76 [])) t (long_texts 76 (record { name = Some i; columns = 0 ∷ 1 ∷ 2 ∷ [] } ∷ []))) None
a_key_of_600_bytes db = simp found

pub a_key_of_601_bytes : (db : Database) → index_of_long_texts db 77 ≡ Raises (Key ∷ [])
a_key_of_601_bytes db = simp found

-- S (A), empty; and a database of S and of T
abbrev in_s : Table
in_s = table one_integer [] []

abbrev of_s_and : Table → Database
of_s_and in_t = from_entries ((s', in_s) ∷ (t, in_t) ∷ [])

no_entries : entries (empty {X = Table} {R = text_order}) ≡ []
no_entries = nothing (entries empty) (sym (len-entries (empty {X = Table} {R = text_order})) ∙ len-empty text_order Table)
  where
    nothing : {A : Type 0} (xs : List A) → length xs ≡ 0 → xs ≡ []
    nothing [] e = refl
    nothing (x ∷ xs) e = absurd (omega (arith, e))

entries_of : (in_t : Table) → entries (of_s_and in_t) ≡ (s', in_s) ∷ (t, in_t) ∷ []
entries_of in_t =
    entries-insert nat_list_cmp_total (insert empty t in_t) s' in_s
    ∙ ap (put text_order s' in_s) (entries-insert nat_list_cmp_total empty t in_t ∙ ap (put text_order t in_t) no_entries)

-- DROP INDEX I, where T has indexes I and J and one that its key owns
pub one_index_goes :
    changed no_check (of_s_and (indexed (owned ∷ named i ∷ named j ∷ []))) (does.DropIndex i) ≡ Makes (of_s_and (indexed (owned ∷ named j ∷ []))) None
one_index_goes = simp entries_of

-- ---- DROP TABLE

-- the table that has a name after a change
abbrev found_after : Changed → Name → Option Table
found_after (Makes db count) name = get db name
found_after (Raises faults) name = None
found_after (Violates names) name = None

-- DROP TABLE T
abbrev dropped : Table → Changed
dropped in_t = changed no_check (of_s_and in_t) (does.DropTable t)

pub a_dropped_table_is_gone : (in_t : Table) → found_after (dropped in_t) t ≡ None
a_dropped_table_is_gone in_t = get-remove nat_list_cmp_total (of_s_and in_t) t t

pub the_other_table_stays : (in_t : Table) → found_after (dropped in_t) s' ≡ Some in_s
the_other_table_stays in_t = get-remove nat_list_cmp_total (of_s_and in_t) t s' ∙ get-insert nat_list_cmp_total (insert empty t in_t) s' in_s s'
