-- Statements: each part is found in the tokens of the whole.
use Rattle.std.proofs.Common.{ℕ, zero, [], ◌∷◌, Option, refl}
use Rattle.std.specs.Prelude.{flat_map}
use Rattle.lexer.specs.declared.words.Word.TheVariants as w
use Rattle.ast.specs.declared.operator.Direction.{Direction}
use Rattle.ast.specs.declared.operator.Direction.TheVariants as direction_of
use Rattle.ast.specs.declared.statement.AccessMode.{AccessMode}
use Rattle.ast.specs.declared.statement.AccessMode.TheVariants as mode_of
use Rattle.ast.specs.declared.statement.ColumnRule.{ColumnRule}
use Rattle.ast.specs.declared.statement.ColumnRule.TheVariants as column_rule_of
use Rattle.ast.specs.declared.statement.InsertRows.{InsertRows}
use Rattle.ast.specs.declared.statement.InsertRows.TheVariants as rows_of
use Rattle.ast.specs.declared.statement.SortColumn.{SortColumn}
use Rattle.ast.specs.declared.statement.SortColumn.TheVariants as sort_column_of
use Rattle.ast.specs.declared.statement.SortKey.{SortKey}
use Rattle.ast.specs.declared.statement.Statement.{Statement}
use Rattle.ast.specs.declared.statement.Statement.TheVariants as statement_of
use Rattle.ast.specs.declared.statement.StoredSource.{StoredSource}
use Rattle.ast.specs.declared.statement.StoredSource.TheVariants as stored
use Rattle.ast.specs.declared.statement.TableElement.{TableElement}
use Rattle.ast.specs.declared.statement.TableElement.TheVariants as element_of
use Rattle.ast.specs.declared.statement.TableRule.{TableRule}
use Rattle.ast.specs.declared.statement.TableRule.TheVariants as table_rule_of
use Rattle.ast.specs.declared.statement.TypeName.{TypeName}
use Rattle.ast.specs.declared.statement.TypeName.TheVariants as type_of
use Rattle.ast.specs.Expressions.{Nested}
use Rattle.ast.specs.Notation.{Tokens, MaybeListed, Parenthesized}
use Rattle.ast.specs.Statements.{AreInsertRows, AreNames, IsAccessMode, IsAssignment, IsColumnConstraint, IsColumnDefinition, IsColumnRule, IsConstraintName, IsDirection, IsFilter, IsOrder, IsOrderedQuery, IsSortColumn, IsSortKey, IsStatement, IsStoredSource, IsTableElement, IsTableRule, IsTypeName, AreReferences}
use Rattle.ast.specs.Terminals.{IsName, IsNumber}
use Rattle.ast.specs.Words.{BY, CHARACTER, CHECK, CLOSE, COMMIT, CREATE, CURSOR, DECLARE, DELETE, DROP, EQUAL, EXPLAIN, FETCH, FOR, FOREIGN, FROM, INDEX, INSERT, INTO, KEY, ON, OPEN, ORDER, PRIMARY, REFERENCES, ROLLBACK, SET, TABLE, TRANSACTION, UNIQUE, UPDATE, VALUES, VARCHAR, VARYING, WHERE}
use Rattle.parser.proofs.Again.{maybe_passes}
use Rattle.parser.proofs.AgainTerminals.{name_again, number_again}
use Rattle.parser.proofs.Passes.{Passes, here, past, onward, one}
use Rattle.ast.specs.Parts.{query, condition, written, column_rule_parts, table_rule_parts, element_parts, source_parts, rows_parts, statement_parts}
use Rattle.round_trip.proofs.Found.{Holding, Holds, no_node, nothing, both, after, parenthesized, maybe, maybe_listed, many, listed, nothing_listed, of}
use Rattle.round_trip.proofs.FoundExpressions.{Inner, may_be}

-- ---- what holds no node

name : {limit : Option ℕ} → Holds limit IsName (λ _. [])
name = nothing (name_again {d = zero}).passes

names_in_parentheses : {limit : Option ℕ} → Holds limit (Parenthesized AreNames) (λ _. [])
names_in_parentheses = parenthesized (nothing_listed name)

length_in_parentheses : {limit : Option ℕ} → Holds limit (Parenthesized IsNumber) (λ _. [])
length_in_parentheses = parenthesized (nothing (number_again {d = zero}).passes)

constraint_name : {limit : Option ℕ} → Holds limit IsConstraintName (λ _. [])
constraint_name = nothing (maybe_passes _ (λ ts x rest h. onward (one refl refl h.1) (one refl refl h.2)))

-- REFERENCES name [( names )]
references : {limit : Option ℕ} → Holds limit AreReferences (λ _. [])
references = of AreReferences (λ x. (x.table, x.columns)) (λ ts x rest h. h) (both (after REFERENCES refl refl name) (maybe_listed names_in_parentheses))

sort_column_passes : (ts : Tokens) (x : SortColumn) (rest : Tokens) → IsSortColumn ts x rest → Passes ts rest
sort_column_passes ts (sort_column_of.Named x) rest h = one refl refl h
sort_column_passes ts (sort_column_of.Position x) rest h = one refl refl h

direction_passes : (ts : Tokens) (x : Direction) (rest : Tokens) → IsDirection ts x rest → Passes ts rest
direction_passes ts direction_of.Ascending rest h = one refl refl h
direction_passes ts direction_of.Descending rest h = one refl refl h

sort_key_passes : (ts : Tokens) (x : SortKey) (rest : Tokens) → IsSortKey ts x rest → Passes ts rest
sort_key_passes ts x rest h = onward (sort_column_passes ts x.column h.0 h.1) (maybe_passes IsDirection direction_passes h.0 x.direction rest h.2)

-- [ORDER BY key {, key}]
order : {limit : Option ℕ} → Holds limit (MaybeListed IsOrder) (λ _. [])
order = maybe_listed (after ORDER refl refl (after BY refl refl (nothing_listed (nothing sort_key_passes))))

access_mode_passes : (N : Nested) (ts : Tokens) (x : AccessMode) (rest : Tokens) → IsAccessMode N ts x rest → Passes ts rest
access_mode_passes N ts mode_of.ReadOnly rest h = onward (one refl refl h) (past refl refl here)
access_mode_passes N ts mode_of.ReadWrite rest h = onward (one refl refl h) (past refl refl here)

module _ (limit : Option ℕ) where
  type_name_holds : (ts : Tokens) (x : TypeName) (rest : Tokens) → IsTypeName ts x rest → Holding limit ts [] rest
  type_name_holds ts type_of.Integer rest h = no_node (one refl refl h)
  type_name_holds ts type_of.Int rest h = no_node (one refl refl h)
  type_name_holds ts (type_of.Varchar n) rest h = (after VARCHAR refl refl length_in_parentheses).at ts n rest h
  type_name_holds ts (type_of.CharacterVarying n) rest h = (after CHARACTER refl refl (after VARYING refl refl length_in_parentheses)).at ts n rest h

  module _ (N : Nested) (inner : Inner limit N) where
    -- ---- parts of statements

    ordered_query : Holds limit (IsOrderedQuery N) (λ x. query x.query ∷ [])
    ordered_query = of (IsOrderedQuery N) (λ x. (x.query, x.order)) (λ ts x rest h. h) (both inner.query order)

    filter : Holds limit (IsFilter N) (written condition)
    filter = maybe (after WHERE refl refl inner.condition)

    column_rule_holds : (ts : Tokens) (x : ColumnRule) (rest : Tokens) → IsColumnRule N ts x rest → Holding limit ts (column_rule_parts x) rest
    column_rule_holds ts column_rule_of.NotNull rest h = no_node (onward (one refl refl h) (past refl refl here))
    column_rule_holds ts column_rule_of.PrimaryKey rest h = no_node (onward (one refl refl h) (past refl refl here))
    column_rule_holds ts column_rule_of.Unique rest h = no_node (one refl refl h)
    column_rule_holds ts (column_rule_of.Check x) rest h = (after CHECK refl refl (parenthesized inner.condition)).at ts x rest h
    column_rule_holds ts (column_rule_of.References x) rest h = references.at ts x rest h

    column_constraint : Holds limit (IsColumnConstraint N) (λ x. column_rule_parts x.rule)
    column_constraint = of (IsColumnConstraint N) (λ x. (x.name, x.rule)) (λ ts x rest h. h) (both constraint_name (record { at = column_rule_holds }))

    column_definition : Holds limit (IsColumnDefinition N) (λ x. flat_map (λ constraint. column_rule_parts constraint.rule) x.constraints)
    column_definition = of (IsColumnDefinition N) (λ x. (x.column, (x.type_name, x.constraints))) (λ ts x rest h. h)
        (both name (both (record { at = type_name_holds }) (many column_constraint)))

    table_rule_holds : (ts : Tokens) (x : TableRule) (rest : Tokens) → IsTableRule N ts x rest → Holding limit ts (table_rule_parts x) rest
    table_rule_holds ts (table_rule_of.PrimaryKey x) rest h = (after PRIMARY refl refl (after KEY refl refl names_in_parentheses)).at ts x rest h
    table_rule_holds ts (table_rule_of.Unique x) rest h = (after UNIQUE refl refl names_in_parentheses).at ts x rest h
    table_rule_holds ts (table_rule_of.Check x) rest h = (after CHECK refl refl (parenthesized inner.condition)).at ts x rest h
    table_rule_holds ts (table_rule_of.ForeignKey x) rest h =
        (both (after FOREIGN refl refl (after KEY refl refl names_in_parentheses)) references).at ts (x.columns, x.references) rest h

    element_holds : (ts : Tokens) (x : TableElement) (rest : Tokens) → IsTableElement N ts x rest → Holding limit ts (element_parts x) rest
    element_holds ts (element_of.Column x) rest h = column_definition.at ts x rest h
    element_holds ts (element_of.Constraint x) rest h = (both constraint_name (record { at = table_rule_holds })).at ts (x.name, x.rule) rest h

    source_holds : (ts : Tokens) (x : StoredSource) (rest : Tokens) → IsStoredSource N ts x rest → Holding limit ts (source_parts x) rest
    source_holds ts (stored.Value x) rest h = inner.expression.at ts x rest h
    source_holds ts stored.Null rest h = no_node (one refl refl h)

    source : Holds limit (IsStoredSource N) source_parts
    source = record { at = source_holds }

    assignment : Holds limit (IsAssignment N) (λ x. source_parts x.source)
    assignment = of (IsAssignment N) (λ x. (x.column, x.source)) (λ ts x rest h. h) (both name (after EQUAL refl refl source))

    rows_hold : (ts : Tokens) (x : InsertRows) (rest : Tokens) → AreInsertRows N ts x rest → Holding limit ts (rows_parts x) rest
    rows_hold ts (rows_of.Values xs) rest h = (after VALUES refl refl (listed (parenthesized (listed source)))).at ts xs rest h
    rows_hold ts (rows_of.Query x) rest h = inner.query.at ts x rest h

    -- ---- statements

    pub statement_holds : (ts : Tokens) (x : Statement) (rest : Tokens) → IsStatement N ts x rest → Holding limit ts (statement_parts x) rest
    statement_holds ts (statement_of.Query x) rest h = ordered_query.at ts x rest h
    statement_holds ts (statement_of.Explain x) rest h = (after EXPLAIN refl refl ordered_query).at ts x rest h
    statement_holds ts (statement_of.CreateTable x) rest h =
        (both (after CREATE refl refl (after TABLE refl refl name)) (parenthesized (listed (record { at = element_holds })))).at ts (x.table, x.elements) rest h
    statement_holds ts (statement_of.DropTable x) rest h = (after DROP refl refl (after TABLE refl refl name)).at ts x rest h
    statement_holds ts (statement_of.CreateIndex x) rest h =
        (both (after CREATE refl refl (after INDEX refl refl name)) (both (after ON refl refl name) names_in_parentheses)).at ts (x.index, (x.table, x.columns)) rest h
    statement_holds ts (statement_of.DropIndex x) rest h = (after DROP refl refl (after INDEX refl refl name)).at ts x rest h
    statement_holds ts (statement_of.Insert x) rest h =
        (both (after INSERT refl refl (after INTO refl refl name)) (both (maybe_listed names_in_parentheses) (record { at = rows_hold }))).at ts (x.table, (x.columns, x.rows)) rest h
    statement_holds ts (statement_of.Update x) rest h =
        (both (after UPDATE refl refl name) (both (after SET refl refl (listed assignment)) filter)).at ts (x.table, (x.assignments, x.filter)) rest h
    statement_holds ts (statement_of.Delete x) rest h = (both (after DELETE refl refl (after FROM refl refl name)) filter).at ts (x.table, x.filter) rest h
    statement_holds ts (statement_of.Commit work) rest h = (after COMMIT refl refl (may_be w.Work)).at ts work rest h
    statement_holds ts (statement_of.Rollback work) rest h = (after ROLLBACK refl refl (may_be w.Work)).at ts work rest h
    statement_holds ts (statement_of.SetTransaction x) rest h = (after SET refl refl (after TRANSACTION refl refl (nothing (access_mode_passes N)))).at ts x rest h
    statement_holds ts (statement_of.DeclareCursor x) rest h =
        (both (after DECLARE refl refl name) (after CURSOR refl refl (after FOR refl refl ordered_query))).at ts (x.cursor, x.query) rest h
    statement_holds ts (statement_of.OpenCursor x) rest h = (after OPEN refl refl name).at ts x rest h
    statement_holds ts (statement_of.Fetch x) rest h = (after FETCH refl refl name).at ts x rest h
    statement_holds ts (statement_of.CloseCursor x) rest h = (after CLOSE refl refl name).at ts x rest h
