-- CREATE INDEX and DROP INDEX: our own. Index names are distinct over the whole database, and apart
-- from those of tables.
use Rattle.std.specs.Prelude.{ℕ, List, length, Ok, if◌then◌else◌}
use Rattle.typing.specs.Known.{Known, KnownTable}
use Rattle.refusals.specs.declared.limit.Limit.TheVariants as limit
use Rattle.refusals.specs.declared.reason.Reason.TheVariants.{Name, Reference}
use Rattle.ast.specs.declared.statement.CreateIndex.{CreateIndex as Tree}
use Rattle.typing.specs.declared.statement.CreateIndex.{CreateIndex}
use Rattle.typing.specs.Finding.{Finding, ◌>>=◌, also, invalid}
use Rattle.typing.specs.Table.{at_most, distinct_found, is_new, table_found, places_named}

-- a table has at most 8 indexes
abbrev pub room_for_one : KnownTable → Finding (Unit {0})
room_for_one table = at_most 7 limit.Indexes table.indexes

-- of at most 4 columns, no column twice
abbrev pub index_found : Known → Tree → Finding CreateIndex
index_found known tree =
    also (also (is_new (known.has_index tree.index)) (also (at_most 4 limit.KeyColumns (length tree.columns)) (distinct_found tree.columns)))
    (table_found known tree.table >>= (λ table. also (room_for_one table) (places_named table.columns tree.columns))) >>= (λ p.
    Ok (record { name = tree.index; table = tree.table; columns = (p.1).1 }))

abbrev pub dropped_index : Known → List ℕ → Finding (List ℕ)
dropped_index known name = if known.has_index name then Ok name else invalid Name

-- no other table references the one of this name
abbrev pub unreferenced : Known → List ℕ → Finding (List ℕ)
unreferenced known name = if known.is_referenced name then invalid Reference else Ok name

-- DROP TABLE (11.18)
abbrev pub dropped_table : Known → List ℕ → Finding (List ℕ)
dropped_table known name = table_found known name >>= (λ table. unreferenced known name)
