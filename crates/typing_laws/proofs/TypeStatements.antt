-- Every statement finds with reasons.
use Rattle.std.proofs.Common.{refl, ℕ, List, [], ◌∷◌, map, length, Ok, Err, Option, Some, None}
use Rattle.std.specs.Prelude.{◌==◌, ◌+◌, ◌&&◌, nat_eq, nat_le, is_none, not, filter, flat_map, slice_get}
use Rattle.std.specs.List.{AllByRecursion, list_any, zip}
use Rattle.sqlval.specs.declared.schema.Column.{Column}
use Rattle.sqlval.specs.declared.schema.Rule.{Rule}
use Rattle.sqlval.specs.declared.schema.Schema.{Schema}
use Rattle.sqlval.specs.declared.value.ValueType.{ValueType}
use Rattle.sqlval.specs.Schema.{same_name}
use Rattle.refusals.specs.declared.limit.Limit.TheVariants as limit
use Rattle.ast.specs.declared.statement.Assignment.{Assignment}
use Rattle.ast.specs.declared.statement.ColumnConstraint.{ColumnConstraint}
use Rattle.ast.specs.declared.statement.ColumnDefinition.{ColumnDefinition}
use Rattle.ast.specs.declared.statement.ColumnRule.{ColumnRule}
use Rattle.ast.specs.declared.statement.ColumnRule.TheVariants as column_rule
use Rattle.ast.specs.declared.statement.CreateIndex.{CreateIndex}
use Rattle.ast.specs.declared.statement.CreateTable.{CreateTable}
use Rattle.ast.specs.declared.statement.Delete.{Delete}
use Rattle.ast.specs.declared.statement.Insert.{Insert}
use Rattle.ast.specs.declared.statement.InsertRows.{InsertRows}
use Rattle.ast.specs.declared.statement.InsertRows.TheVariants as rows
use Rattle.ast.specs.declared.statement.OrderedQuery.{OrderedQuery}
use Rattle.ast.specs.declared.statement.References.{References}
use Rattle.ast.specs.declared.statement.StoredSource.{StoredSource}
use Rattle.ast.specs.declared.statement.StoredSource.TheVariants as written
use Rattle.ast.specs.declared.statement.Statement.{Statement}
use Rattle.ast.specs.declared.statement.Statement.TheVariants as statement
use Rattle.ast.specs.declared.statement.TableElement.{TableElement}
use Rattle.ast.specs.declared.statement.TableElement.TheVariants as element
use Rattle.ast.specs.declared.statement.TableRule.{TableRule}
use Rattle.ast.specs.declared.statement.TableRule.TheVariants as table_rule
use Rattle.ast.specs.declared.statement.TypeName.{TypeName}
use Rattle.ast.specs.declared.statement.TypeName.TheVariants as type_name
use Rattle.ast.specs.declared.statement.Update.{Update}
use Rattle.ast.specs.declared.tree.Condition.{Condition}
use Rattle.typing.specs.declared.scope.Frame.{Frame}
use Rattle.typing.specs.declared.scope.TypedExpression.{TypedExpression}
use Rattle.typing.specs.declared.scope.TypedQuery.{TypedQuery}
use Rattle.typing.specs.Check.{check_rule}
use Rattle.typing.specs.Constraint.{Declared, Referencing, are_allowed, column_keys, column_rule_at, constraints_found, declared_from, key_found, key_places, keys_from, names_from, one_primary_key, table_keys, table_rule_of}
use Rattle.typing.specs.CreateTable.{column_found, columns_found, create_found, defined_frame, definitions, own_table, type_found, varchar}
use Rattle.typing.specs.Finding.{Finding, each}
use Rattle.typing.specs.Index.{dropped_index, dropped_table, index_found}
use Rattle.typing.specs.Insert.{Target, insert_found, query_stored, row_stored, rows_stored, source_found, sources_found, stored_as, target_at, target_named, targets_found, values_stored}
use Rattle.typing.specs.Known.{Known, known, nothing_known, place_in}
use Rattle.typing.specs.declared.known.KnownKey.{KnownKey}
use Rattle.typing.specs.declared.known.KnownTable.{KnownTable}
use Rattle.typing.specs.Order.{ordered_found}
use Rattle.typing.specs.Part.{Checked, Plain}
use Rattle.typing.specs.Printed.{printed}
use Rattle.typing.specs.References.{are_same_places, columns_referenced, count_matches, is_same_column, key_listed, matched, meant_by, primary_columns, reference_found, referenced_table, types_match}
use Rattle.typing.specs.Scope.{Scope}
use Rattle.typing.specs.SetOperator.{types_of}
use Rattle.typing.specs.Statement.{found_over, statement_found}
use Rattle.typing.specs.Table.{frame_of, table_found}
use Rattle.typing.specs.Typing.{query_found}
use Rattle.typing.specs.Update.{assignment_found, changes_found, delete_found, filter_found, update_found}
use Rattle.typing_laws.specs.Reasons.{IsReasoned}
use Rattle.typing_laws.proofs.TypeFindings.{found, faulty, goes_on, beside, all, mapped, mapped_any, counted, displaced, distinct, either, more, new, there}
use Rattle.typing_laws.proofs.TypeParts.{appended}
use Rattle.typing_laws.proofs.Expressions.{must}
use Rattle.typing_laws.proofs.TypeSelects.{agreeing-safe, sort_key-safe}
use Rattle.typing_laws.proofs.TypeTrees.{conditions-safe, expressions-safe, queries-safe}

module _ (k : Known) where
  ordered-safe : (tree : OrderedQuery) → IsReasoned (ordered_found k tree)
  ordered-safe tree = goes_on (queries-safe k tree.query []) (λ q. goes_on (mapped_any _ (sort_key-safe q.columns) tree.order) (λ keys. found))

  table-safe : (name : List ℕ) → IsReasoned (table_found k name)
  table-safe name = there (k.table name)

  -- ---- what is stored

  source-safe : (scope : Scope) (source : StoredSource) → IsReasoned (source_found k scope source)
  source-safe scope (written.Value tree) = goes_on ((expressions-safe k tree).found (record { scope = scope; clause = Plain })) (λ x. found)
  source-safe scope written.Null = found

  stored-safe : (wanted : ValueType) (x : Option TypedExpression) → IsReasoned (stored_as wanted x)
  stored-safe wanted (Some x) = must wanted x
  stored-safe wanted None = found

  target_at-safe : (columns : List Column) (place : ℕ) → IsReasoned (target_at columns place)
  target_at-safe columns place = goes_on (there _) (λ column. found)

  target-safe : (columns : List Column) (name : List ℕ) → IsReasoned (target_named columns name)
  target-safe columns name = goes_on (there (place_in columns name)) (λ place. target_at-safe columns place)

  targets-safe : (columns : List Column) (names : List (List ℕ)) → IsReasoned (targets_found columns names)
  targets-safe columns [] = found
  targets-safe columns (name ∷ names) = mapped_any (target_named columns) (target-safe columns) (name ∷ names)

  sources-safe : (row : List StoredSource) → IsReasoned (sources_found k row)
  sources-safe row = mapped_any (source_found k []) (source-safe []) row

  row-safe : (targets : List Target) (row : List StoredSource) → IsReasoned (row_stored k targets row)
  row-safe targets row =
      either (length targets == length row) (mapped_any _ (λ p. goes_on (source-safe [] p.1) (λ x. stored-safe (p.0).1 x)) (zip targets row)) (displaced (sources-safe row))

  values-safe : (targets : Finding (List Target)) (values : List (List StoredSource)) → IsReasoned targets → IsReasoned (values_stored k targets values)
  values-safe (Ok targets) values h = goes_on (mapped_any (row_stored k targets) (row-safe targets) values) (λ stored. found)
  values-safe (Err reasons) values h = record { err = more (each (map (sources_found k) values)) h.err (mapped_any (sources_found k) sources-safe values) }

  query_stored-safe : (targets : Finding (List Target)) (query : Finding TypedQuery) → IsReasoned targets → IsReasoned query → IsReasoned (query_stored targets query)
  query_stored-safe targets query h g = goes_on (beside h g) (λ p. goes_on (agreeing-safe _ (types_of (p.1).columns)) (λ agreed. found))

  rows-safe : (targets : Finding (List Target)) (tree : InsertRows) → IsReasoned targets → IsReasoned (rows_stored k targets tree)
  rows-safe targets (rows.Values values) h = values-safe targets values h
  rows-safe targets (rows.Query tree) h = query_stored-safe targets (query_found k tree []) h (queries-safe k tree [])

  insert-safe : (tree : Insert) → IsReasoned (insert_found k tree)
  insert-safe tree = goes_on (beside (distinct tree.columns) (rows-safe _ tree.rows (goes_on (table-safe tree.table) (λ table. targets-safe table.columns tree.columns)))) (λ p. found)

  -- ---- UPDATE and DELETE

  filter-safe : (scope : Scope) (tree : Option Condition) → IsReasoned (filter_found k scope tree)
  filter-safe scope None = found
  filter-safe scope (Some tree) = goes_on ((conditions-safe k tree).found (record { scope = scope; clause = Plain })) (λ c. found)

  assignment-safe : (scope : Scope) (columns : List Column) (tree : Assignment) → IsReasoned (assignment_found k scope columns tree)
  assignment-safe scope columns tree = goes_on (beside (target-safe columns tree.column) (source-safe scope tree.source)) (λ p. goes_on (stored-safe (p.0).1 p.1) (λ source. found))

  changes-safe : (tree : Update) (table : KnownTable) → IsReasoned (changes_found k tree table)
  changes-safe tree table =
      goes_on (beside (mapped_any _ (assignment-safe (frame_of tree.table table.columns ∷ []) table.columns) tree.assignments) (filter-safe (frame_of tree.table table.columns ∷ []) tree.filter)) (λ p. found)

  update-safe : (tree : Update) → IsReasoned (update_found k tree)
  update-safe tree = goes_on (beside (distinct (map (λ assignment. assignment.column) tree.assignments)) (goes_on (table-safe tree.table) (λ table. changes-safe tree table))) (λ p. found)

  delete-safe : (tree : Delete) → IsReasoned (delete_found k tree)
  delete-safe tree = goes_on (table-safe tree.table) (λ table. goes_on (filter-safe (frame_of tree.table table.columns ∷ []) tree.filter) (λ f. found))

  -- ---- tables and indexes

  index-safe : (tree : CreateIndex) → IsReasoned (index_found k tree)
  index-safe tree =
      goes_on (beside (beside (new (k.has_index tree.index)) (beside (counted 4 limit.KeyColumns refl (length tree.columns)) (distinct tree.columns)))
      (goes_on (table-safe tree.table) (λ table. beside (counted 7 limit.Indexes refl table.indexes) (mapped_any _ (λ name. there (place_in table.columns name)) tree.columns)))) (λ p. found)

  dropped_index-safe : (name : List ℕ) → IsReasoned (dropped_index k name)
  dropped_index-safe name = either (k.has_index name) found faulty

  dropped_table-safe : (name : List ℕ) → IsReasoned (dropped_table k name)
  dropped_table-safe name = goes_on (table-safe name) (λ table. either (k.is_referenced name) faulty found)

-- ---- CREATE TABLE

varchar-safe : (n : ℕ) → IsReasoned (varchar n)
varchar-safe n = either (nat_le 1 n && nat_le n 255) found faulty

type-safe : (name : TypeName) → IsReasoned (type_found name)
type-safe type_name.Integer = found
type-safe type_name.Int = found
type-safe (type_name.Varchar n) = varchar-safe n
type-safe (type_name.CharacterVarying n) = varchar-safe n

column-safe : (definition : ColumnDefinition) → IsReasoned (column_found definition)
column-safe definition = goes_on (type-safe definition.type_name) (λ t. found)

columns-safe : (columns : List ColumnDefinition) → IsReasoned (columns_found columns)
columns-safe columns = goes_on (beside (beside (counted 32 limit.Columns refl (length columns)) (distinct (map (λ definition. definition.column) columns))) (mapped_any column_found column-safe columns)) (λ p. found)

check-safe : (frame : Frame) (tree : Condition) → IsReasoned (check_rule frame tree)
check-safe frame tree =
    goes_on (beside (counted 800 limit.Check refl (length (printed tree))) ((conditions-safe nothing_known tree).found (record { scope = frame ∷ []; clause = Checked }))) (λ p. found)

abbrev IsSafeRule : Declared → Type 0
IsSafeRule declared = IsReasoned declared.rule

-- whatever columns it is given, if these are found with reasons
abbrev IsSafeReferencing : Referencing → Type 0
IsSafeReferencing referencing = (places : Finding (List ℕ)) → IsReasoned places → (x : References) → IsReasoned (referencing places x)

key_places-safe : (columns : List ColumnDefinition) (names : List (List ℕ)) → IsReasoned (key_places columns names)
key_places-safe columns names = goes_on (beside (beside (counted 4 limit.KeyColumns refl (length names)) (distinct names)) (mapped_any _ (λ name. there _) names)) (λ p. found)

module _ (frame : Frame) (referencing : Referencing) (safe : IsSafeReferencing referencing) where
  column_rule-safe : (place : ℕ) (name : Option (List ℕ)) (r : ColumnRule) → IsSafeRule (column_rule_at frame referencing place name r)
  column_rule-safe place name column_rule.NotNull = found
  column_rule-safe place name column_rule.PrimaryKey = found
  column_rule-safe place name column_rule.Unique = found
  column_rule-safe place name (column_rule.Check condition) = check-safe frame condition
  column_rule-safe place name (column_rule.References x) = safe (Ok (place ∷ [])) found x

  table_rule-safe : (columns : List ColumnDefinition) (name : Option (List ℕ)) (r : TableRule) → IsSafeRule (table_rule_of frame referencing columns name r)
  table_rule-safe columns name (table_rule.PrimaryKey names) = goes_on (key_places-safe columns names) (λ places. found)
  table_rule-safe columns name (table_rule.Unique names) = goes_on (key_places-safe columns names) (λ places. found)
  table_rule-safe columns name (table_rule.Check condition) = check-safe frame condition
  table_rule-safe columns name (table_rule.ForeignKey x) = safe (key_places columns x.columns) (key_places-safe columns x.columns) x.references

  column_rules-safe : (place : ℕ) (constraints : List ColumnConstraint) → AllByRecursion IsSafeRule (map (λ c. column_rule_at frame referencing place c.name c.rule) constraints)
  column_rules-safe place [] = tt
  column_rules-safe place (c ∷ others) = (column_rule-safe place c.name c.rule, column_rules-safe place others)

  declared-safe : (columns : List ColumnDefinition) (elements : List TableElement) (place : ℕ) → AllByRecursion IsSafeRule (declared_from frame referencing columns place elements)
  declared-safe columns [] place = tt
  declared-safe columns (element.Column definition ∷ elements) place =
      appended IsSafeRule (map (λ c. column_rule_at frame referencing place c.name c.rule) definition.constraints) _ (column_rules-safe place definition.constraints) (declared-safe columns elements (place + 1))
  declared-safe columns (element.Constraint c ∷ elements) place = (table_rule-safe columns c.name c.rule, declared-safe columns elements place)

-- ---- foreign keys

column_keys-safe : (place : ℕ) (r : ColumnRule) → AllByRecursion IsReasoned (column_keys place r)
column_keys-safe place column_rule.NotNull = tt
column_keys-safe place column_rule.PrimaryKey = (found, tt)
column_keys-safe place column_rule.Unique = (found, tt)
column_keys-safe place (column_rule.Check condition) = tt
column_keys-safe place (column_rule.References x) = tt

column_keys_all-safe : (place : ℕ) (constraints : List ColumnConstraint) → AllByRecursion IsReasoned (flat_map (λ c. column_keys place c.rule) constraints)
column_keys_all-safe place [] = tt
column_keys_all-safe place (c ∷ others) = appended IsReasoned (column_keys place c.rule) _ (column_keys-safe place c.rule) (column_keys_all-safe place others)

table_keys-safe : (columns : List ColumnDefinition) (r : TableRule) → AllByRecursion IsReasoned (table_keys columns r)
table_keys-safe columns (table_rule.PrimaryKey names) = (goes_on (key_places-safe columns names) (λ places. found), tt)
table_keys-safe columns (table_rule.Unique names) = (goes_on (key_places-safe columns names) (λ places. found), tt)
table_keys-safe columns (table_rule.Check condition) = tt
table_keys-safe columns (table_rule.ForeignKey x) = tt

keys-safe : (columns : List ColumnDefinition) (elements : List TableElement) (place : ℕ) → AllByRecursion IsReasoned (keys_from columns place elements)
keys-safe columns [] place = tt
keys-safe columns (element.Column definition ∷ elements) place =
    appended IsReasoned (flat_map (λ c. column_keys place c.rule) definition.constraints) _ (column_keys_all-safe place definition.constraints) (keys-safe columns elements (place + 1))
keys-safe columns (element.Constraint c ∷ elements) place = appended IsReasoned (table_keys columns c.rule) _ (table_keys-safe columns c.rule) (keys-safe columns elements place)

own_table-safe : (columns : List ColumnDefinition) (elements : List TableElement) → IsReasoned (own_table columns elements)
own_table-safe columns elements = goes_on (beside (columns-safe columns) (all (keys_from columns 0 elements) (keys-safe columns elements 0))) (λ p. found)

primary-safe : (keys : List KnownKey) → IsReasoned (primary_columns keys)
primary-safe [] = faulty
primary-safe (key ∷ keys) = either key.is_primary found (primary-safe keys)

listed-safe : (table : KnownTable) (names : List (List ℕ)) → IsReasoned (columns_referenced table names)
listed-safe table [] = primary-safe table.keys
listed-safe table (name ∷ names) =
    goes_on (beside (distinct (name ∷ names)) (mapped_any _ (λ n. there (place_in table.columns n)) (name ∷ names))) (λ p. found)

meant-safe : (table : Finding KnownTable) (names : List (List ℕ)) → IsReasoned table → IsReasoned (meant_by table names)
meant-safe table names h = goes_on h (λ t. goes_on (listed-safe t names) (λ places. found))

types-safe : (columns others : List Column) (places referenced : List ℕ) → IsReasoned (types_match columns others places referenced)
types-safe columns others [] referenced = found
types-safe columns others (one ∷ places) [] = found
types-safe columns others (one ∷ places) (other ∷ referenced) =
    goes_on (beside (either (is_same_column (slice_get columns one) (slice_get others other)) found faulty) (types-safe columns others places referenced)) (λ p. found)

matched-safe : (columns : List Column) (places : List ℕ) (table : KnownTable) (others : List ℕ) → IsReasoned (matched columns places table others)
matched-safe columns places table others =
    goes_on (beside (either (list_any (λ key. are_same_places key.columns others) table.keys) found faulty)
    (beside (either (nat_eq (length places) (length others)) found faulty)
    (types-safe columns table.columns places others))) (λ p. found)

referencing-safe : (k : Known) (name : List ℕ) (own : Finding KnownTable) → IsReasoned own → IsSafeReferencing (reference_found k name own)
referencing-safe k name own h places g x =
    goes_on (beside (beside h g) (meant-safe (referenced_table k name own x.table) x.columns (either (same_name x.table name) h (table-safe k x.table))))
    (λ p. goes_on (matched-safe ((p.0).0).columns (p.0).1 (p.1).table (p.1).columns) (λ u. found))

one_key-safe : (declared : List Declared) → IsReasoned (one_primary_key declared)
one_key-safe declared = either (nat_le (length (filter (λ c. c.is_primary_key) declared)) 1) found faulty

allowed-safe : (declared : List Declared) → IsReasoned (are_allowed declared)
allowed-safe declared =
    goes_on (beside (beside (counted 32 limit.Constraints refl (length declared)) (distinct (names_from 1 declared)))
    (beside (counted 8 limit.Indexes refl (length (filter (λ c. c.owns_index) declared))) (one_key-safe declared))) (λ p. found)

constraints-safe : (declared : List Declared) → AllByRecursion IsSafeRule declared → IsReasoned (constraints_found declared)
constraints-safe declared h = goes_on (beside (allowed-safe declared) (mapped IsSafeRule (λ c. c.rule) (λ c g. g) declared h)) (λ p. found)

create-safe : (k : Known) (tree : CreateTable) → IsReasoned (create_found k tree)
create-safe k tree =
    let columns = definitions tree.elements in
    goes_on (beside (new (not (is_none (k.table tree.table)))) (beside (columns-safe columns) (constraints-safe _ (declared-safe (defined_frame tree.table columns)
    (reference_found k tree.table (own_table columns tree.elements)) (referencing-safe k tree.table (own_table columns tree.elements) (own_table-safe columns tree.elements))
    columns tree.elements 0)))) (λ p. found)

-- ---- all of them

over-safe : (k : Known) (tree : Statement) → IsReasoned (found_over k tree)
over-safe k (statement.Query tree) = goes_on (ordered-safe k tree) (λ q. found)
over-safe k (statement.Explain tree) = goes_on (ordered-safe k tree) (λ q. found)
over-safe k (statement.CreateTable tree) = goes_on (goes_on (create-safe k tree) (λ c. found)) (λ c. found)
over-safe k (statement.DropTable name) = goes_on (goes_on (dropped_table-safe k name) (λ c. found)) (λ c. found)
over-safe k (statement.CreateIndex tree) = goes_on (goes_on (index-safe k tree) (λ c. found)) (λ c. found)
over-safe k (statement.DropIndex name) = goes_on (goes_on (dropped_index-safe k name) (λ c. found)) (λ c. found)
over-safe k (statement.Insert tree) = goes_on (goes_on (insert-safe k tree) (λ c. found)) (λ c. found)
over-safe k (statement.Update tree) = goes_on (goes_on (update-safe k tree) (λ c. found)) (λ c. found)
over-safe k (statement.Delete tree) = goes_on (goes_on (delete-safe k tree) (λ c. found)) (λ c. found)
over-safe k (statement.Commit has_work) = found
over-safe k (statement.Rollback has_work) = found
over-safe k (statement.SetTransaction mode) = found
over-safe k (statement.DeclareCursor tree) = found
over-safe k (statement.OpenCursor name) = found
over-safe k (statement.Fetch name) = found
over-safe k (statement.CloseCursor name) = found

pub statements-safe : (tree : Statement) (schema : Schema) → IsReasoned (statement_found tree schema)
statements-safe tree schema = over-safe (known schema) tree
