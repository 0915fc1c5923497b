-- UPDATE and DELETE (ISO/IEC 9075:1992, 13.7, 13.10). Their conditions and sources see the columns
-- of the table, also with its name before them, which is our own choice.
use Rattle.std.specs.Prelude.{List, [], ◌∷◌, map, Option, Some, None, Ok}
use Rattle.sqlval.specs.declared.schema.Column.{Column}
use Rattle.typing.specs.Known.{Known, KnownTable}
use Rattle.ast.specs.declared.tree.Condition.{Condition as Tree}
use Rattle.ast.specs.declared.statement.Assignment.{Assignment as Written}
use Rattle.ast.specs.declared.statement.Delete.{Delete as DeleteTree}
use Rattle.ast.specs.declared.statement.Update.{Update as UpdateTree}
use Rattle.typing.specs.declared.typed.Condition.{Condition}
use Rattle.typing.specs.declared.statement.Assignment.{Assignment}
use Rattle.typing.specs.declared.statement.Delete.{Delete}
use Rattle.typing.specs.declared.statement.Update.{Update}
use Rattle.typing.specs.Finding.{Finding, ◌>>=◌, also, each}
use Rattle.typing.specs.Scope.{Scope}
use Rattle.typing.specs.Part.{Plain}
use Rattle.typing.specs.Table.{distinct_found, table_found, frame_of}
use Rattle.typing.specs.Typing.{condition_part}
use Rattle.typing.specs.Insert.{source_found, stored_as, target_named}

abbrev pub filter_found : Known → Scope → Option Tree → Finding (Option Condition)
filter_found known scope None = Ok None
filter_found known scope (Some tree) = (condition_part known tree).found (record { scope = scope; clause = Plain }) >>= (λ c. Ok (Some c))

abbrev pub assignment_found : Known → Scope → List Column → Written → Finding Assignment
assignment_found known scope columns tree =
    also (target_named columns tree.column) (source_found known scope tree.source) >>= (λ p.
    stored_as (p.0).1 p.1 >>= (λ source. Ok (record { column = (p.0).0; source = source })))

-- what stands after UPDATE and the table
abbrev pub changes_found : Known → UpdateTree → KnownTable → Finding Update
changes_found known tree table =
    let scope = frame_of tree.table table.columns ∷ [] in
    also (each (map (assignment_found known scope table.columns) tree.assignments)) (filter_found known scope tree.filter) >>= (λ p.
    Ok (record { table = tree.table; assignments = p.0; filter = p.1 }))

-- no column is set twice
abbrev pub update_found : Known → UpdateTree → Finding Update
update_found known tree =
    also (distinct_found (map (λ assignment. assignment.column) tree.assignments)) (table_found known tree.table >>= changes_found known tree) >>= (λ p. Ok p.1)

abbrev pub delete_found : Known → DeleteTree → Finding Delete
delete_found known tree =
    table_found known tree.table >>= (λ table.
    filter_found known (frame_of tree.table table.columns ∷ []) tree.filter >>= (λ filter.
    Ok (record { table = tree.table; filter = filter })))
