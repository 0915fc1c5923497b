-- What follows from the parts of a change that are found.
use Rattle.std.specs.Prelude.{ℕ, Bool, not, ◌&&◌, List, [], ◌∷◌, map, Option, Some, None, Ok}
use Rattle.sqlval.specs.declared.schema.Column.{Column}
use Rattle.sqlval.specs.declared.schema.Table.{Table}
use Rattle.sqlval.specs.Schema.{same_name}
use Rattle.sqlval.specs.declared.value.ValueType.{ValueType}
use Rattle.ast.specs.declared.statement.Delete.{Delete as DeleteTree}
use Rattle.ast.specs.declared.statement.StoredSource.{StoredSource}
use Rattle.ast.specs.declared.statement.Update.{Update as UpdateTree}
use Rattle.ast.specs.declared.tree.Condition.{Condition as Tree}
use Rattle.typing.specs.declared.typed.Condition.{Condition}
use Rattle.typing.specs.declared.typed.Expression.{Expression}
use Rattle.typing.specs.declared.typed.Query.{Query}
use Rattle.typing.specs.declared.scope.Frame.{Frame}
use Rattle.typing.specs.declared.scope.TypedExpression.{TypedExpression}
use Rattle.typing.specs.declared.scope.TypedQuery.{TypedQuery}
use Rattle.typing.specs.declared.statement.Assignment.{Assignment}
use Rattle.typing.specs.declared.statement.CreateIndex.{CreateIndex}
use Rattle.typing.specs.declared.statement.Delete.{Delete}
use Rattle.typing.specs.declared.statement.Insert.{Insert}
use Rattle.typing.specs.declared.statement.InsertSource.{InsertSource}
use Rattle.typing.specs.declared.statement.InsertSource.TheVariants as from
use Rattle.typing.specs.declared.statement.Update.{Update}
use Rattle.typing.specs.Finding.{Finding, ◌>>=◌, also}
use Rattle.typing.specs.Index.{room_for_one}
use Rattle.typing.specs.Insert.{Target, source_found, stored_as, targets_found}
use Rattle.typing.specs.Known.{Known, place_in, references}
use Rattle.typing.specs.declared.known.KnownTable.{KnownTable}
use Rattle.typing.specs.Scope.{Scope}
use Rattle.typing.specs.SetOperator.{agreeing, types_of}
use Rattle.typing.specs.Table.{as_found, frame_of, places_named, table_found}
use Rattle.typing.specs.Update.{changes_found, filter_found}

-- what is written and found
abbrev pub written : {A : Type 0} → Finding A → Finding (Option A)
written found = found >>= (λ x. Ok (Some x))

-- ---- tables

-- whether this is another table, with a foreign key that references the one of this name
abbrev pub is_referring : List ℕ → Table → Bool
is_referring name table = not (same_name table.name name) && references name table.constraints

-- ---- indexes

abbrev pub place_named : List Column → List ℕ → Finding ℕ
place_named columns name = as_found (place_in columns name)

abbrev pub places_of : List (List ℕ) → KnownTable → Finding (Unit {0} × List ℕ)
places_of names table = also (room_for_one table) (places_named table.columns names)

abbrev pub places_in : Known → List ℕ → List (List ℕ) → Finding (Unit {0} × List ℕ)
places_in known name names = table_found known name >>= places_of names

abbrev pub IndexParts : Type 0
IndexParts = (Unit {0} × (Unit {0} × Unit {0})) × (Unit {0} × List ℕ)

abbrev pub index_of : List ℕ → List ℕ → Finding IndexParts → Finding CreateIndex
index_of name table found = found >>= (λ p. Ok (record { name = name; table = table; columns = (p.1).1 }))

-- ---- what is stored

abbrev pub stored : ValueType → Finding (Option TypedExpression) → Finding Expression
stored wanted found = found >>= stored_as wanted

abbrev pub targets_of : List (List ℕ) → KnownTable → Finding (List Target)
targets_of names table = targets_found table.columns names

abbrev pub targets_in : Known → List ℕ → List (List ℕ) → Finding (List Target)
targets_in known name names = table_found known name >>= targets_of names

-- ---- UPDATE and DELETE

-- the rows of one table, and nothing round them
abbrev pub own_rows : Frame → Scope
own_rows frame = record frame { key = None } ∷ []

abbrev pub filter_in : Known → Frame → Option Tree → Finding (Option Condition)
filter_in known frame filter = filter_found known (own_rows frame) filter

abbrev pub delete_of : List ℕ → Finding (Option Condition) → Finding Delete
delete_of table found = found >>= (λ filter. Ok (record { table = table; filter = filter }))

abbrev pub delete_in : Known → DeleteTree → KnownTable → Finding Delete
delete_in known tree table = delete_of tree.table (filter_found known (frame_of tree.table table.columns ∷ []) tree.filter)

abbrev pub changes_in : Known → UpdateTree → Finding Update
changes_in known tree = table_found known tree.table >>= changes_found known tree

abbrev pub update_of : List ℕ → Finding (List Assignment × Option Condition) → Finding Update
update_of table found = found >>= (λ p. Ok (record { table = table; assignments = p.0; filter = p.1 }))

abbrev pub assigned : ℕ → Finding Expression → Finding Assignment
assigned column found = found >>= (λ source. Ok (record { column = column; source = source }))

abbrev pub assignment_of : Finding (Target × Option TypedExpression) → Finding Assignment
assignment_of found = found >>= (λ p. assigned (p.0).0 (stored_as (p.0).1 p.1))

-- ---- INSERT

abbrev pub inserted : List ℕ → List Target → InsertSource → Insert
inserted table targets source = record { table = table; columns = map (λ target. target.0) targets; source = source }

abbrev pub insert_of : List ℕ → Finding (Unit {0} × (List Target × InsertSource)) → Finding Insert
insert_of table found = found >>= (λ p. Ok (inserted table (p.1).0 (p.1).1))

abbrev pub of_values : List Target → Finding (List (List Expression)) → Finding (List Target × InsertSource)
of_values targets found = found >>= (λ stored. Ok (targets, from.Values stored))

-- a source of VALUES beside the column that it is for
abbrev pub source_for : Known → Target × StoredSource → Finding Expression
source_for known p = source_found known [] p.1 >>= stored_as (p.0).1

abbrev pub target_types : List Target → List ValueType
target_types targets = map (λ target. target.1) targets

abbrev pub agreed_on : List Target → Query → Finding (Unit {0}) → Finding (List Target × InsertSource)
agreed_on targets query found = found >>= (λ agreed. Ok (targets, from.Query query))

abbrev pub of_query : Finding (List Target × TypedQuery) → Finding (List Target × InsertSource)
of_query found = found >>= (λ p. agreed_on p.0 (p.1).query (agreeing (target_types p.0) (types_of (p.1).columns)))
