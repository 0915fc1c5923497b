-- The grammar of statements.
-- ISO/IEC 9075:1992, 6.1 <data type>, 11.3 <table definition>, 11.4 <column definition>, 11.6 to
-- 11.9 constraints, 11.18 <drop table statement>, 13.1 to 13.4 cursors and <order by clause>,
-- 13.7 <delete>, 13.8 <insert>, 13.10 <update>, 14.1 <set transaction>, 14.3 <commit>, 14.4
-- <rollback>. Our own choices: the types are INTEGER and VARCHAR, a source of VALUES and SET is an
-- expression or NULL, SET TRANSACTION says READ ONLY or READ WRITE alone, DROP has no behaviour,
-- FETCH no target; CREATE INDEX, DROP INDEX and EXPLAIN are our own.
use Rattle.std.specs.Prelude.{◌≡◌, ℕ, List, ◌∷◌, Option}
use Rattle.ast.specs.declared.operator.Direction.{Direction}
use Rattle.ast.specs.declared.operator.Direction.TheVariants as direction
use Rattle.ast.specs.declared.tree.Condition.{Condition}
use Rattle.ast.specs.declared.statement.AccessMode.{AccessMode}
use Rattle.ast.specs.declared.statement.AccessMode.TheVariants as mode
use Rattle.ast.specs.declared.statement.Assignment.{Assignment}
use Rattle.ast.specs.declared.statement.ColumnConstraint.{ColumnConstraint}
use Rattle.ast.specs.declared.statement.ColumnDefinition.{ColumnDefinition}
use Rattle.ast.specs.declared.statement.ColumnRule.{ColumnRule}
use Rattle.ast.specs.declared.statement.ColumnRule.TheVariants as column_rule
use Rattle.ast.specs.declared.statement.CreateIndex.{CreateIndex}
use Rattle.ast.specs.declared.statement.CreateTable.{CreateTable}
use Rattle.ast.specs.declared.statement.DeclareCursor.{DeclareCursor}
use Rattle.ast.specs.declared.statement.Delete.{Delete}
use Rattle.ast.specs.declared.statement.ForeignKey.{ForeignKey}
use Rattle.ast.specs.declared.statement.Insert.{Insert}
use Rattle.ast.specs.declared.statement.InsertRows.{InsertRows}
use Rattle.ast.specs.declared.statement.InsertRows.TheVariants as rows
use Rattle.ast.specs.declared.statement.OrderedQuery.{OrderedQuery}
use Rattle.ast.specs.declared.statement.References.{References}
use Rattle.ast.specs.declared.statement.SortColumn.{SortColumn}
use Rattle.ast.specs.declared.statement.SortColumn.TheVariants as sort_column
use Rattle.ast.specs.declared.statement.SortKey.{SortKey}
use Rattle.ast.specs.declared.statement.Statement.{Statement}
use Rattle.ast.specs.declared.statement.Statement.TheVariants as statement
use Rattle.ast.specs.declared.statement.StoredSource.{StoredSource}
use Rattle.ast.specs.declared.statement.StoredSource.TheVariants as stored
use Rattle.ast.specs.declared.statement.TableConstraint.{TableConstraint}
use Rattle.ast.specs.declared.statement.TableElement.{TableElement}
use Rattle.ast.specs.declared.statement.TableElement.TheVariants as element
use Rattle.ast.specs.declared.statement.TableRule.{TableRule}
use Rattle.ast.specs.declared.statement.TableRule.TheVariants as table_rule
use Rattle.ast.specs.declared.statement.TypeName.{TypeName}
use Rattle.ast.specs.declared.statement.TypeName.TheVariants as type_name
use Rattle.ast.specs.declared.statement.Update.{Update}
use Rattle.ast.specs.Expressions.{Nested}
use Rattle.ast.specs.Notation.{Rule, ◌⨾◌, ◌⊳◌, Parenthesized, Maybe, Written, Many, Listed, MaybeListed}
use Rattle.ast.specs.Terminals.{IsName, IsNumber}
use Rattle.ast.specs.Words.{ASC, BY, CHARACTER, CHECK, CLOSE, COMMIT, CONSTRAINT, CREATE, CURSOR, DECLARE, DELETE, DESC, DROP, EQUAL, EXPLAIN, FETCH, FOR, FOREIGN, FROM, INDEX, INSERT, INT, INTEGER, INTO, KEY, NOT, NULL, ON, ONLY, OPEN, ORDER, PRIMARY, READ, REFERENCES, ROLLBACK, SET, TABLE, TRANSACTION, UNIQUE, UPDATE, VALUES, VARCHAR, VARYING, WHERE, WORK, WRITE}

-- names = name {, name}
abbrev pub AreNames : Rule (List (List ℕ))
AreNames = Listed IsName

-- ---- ORDER BY

-- name | number
abbrev pub IsSortColumn : Rule SortColumn
IsSortColumn ts (sort_column.Named x) rest = IsName ts x rest
IsSortColumn ts (sort_column.Position x) rest = IsNumber ts x rest

-- ASC | DESC
abbrev pub IsDirection : Rule Direction
IsDirection ts direction.Ascending rest = ts ≡ ASC ∷ rest
IsDirection ts direction.Descending rest = ts ≡ DESC ∷ rest

-- key = (name | number) [ASC | DESC]
abbrev pub IsSortKey : Rule SortKey
IsSortKey ts x rest = (IsSortColumn ⨾ Maybe IsDirection) ts (x.column, x.direction) rest

-- order = ORDER BY key {, key}
abbrev pub IsOrder : Rule (List SortKey)
IsOrder = ORDER ⊳ BY ⊳ Listed IsSortKey

-- ---- the parts of CREATE TABLE

-- type = INTEGER | INT | VARCHAR ( number ) | CHARACTER VARYING ( number )
abbrev pub IsTypeName : Rule TypeName
IsTypeName ts type_name.Integer rest = ts ≡ INTEGER ∷ rest
IsTypeName ts type_name.Int rest = ts ≡ INT ∷ rest
IsTypeName ts (type_name.Varchar n) rest = (VARCHAR ⊳ Parenthesized IsNumber) ts n rest
IsTypeName ts (type_name.CharacterVarying n) rest = (CHARACTER ⊳ VARYING ⊳ Parenthesized IsNumber) ts n rest

-- [CONSTRAINT name]
abbrev pub IsConstraintName : Rule (Option (List ℕ))
IsConstraintName = Maybe (CONSTRAINT ⊳ IsName)

-- REFERENCES name [( names )]
abbrev pub AreReferences : Rule References
AreReferences ts x rest = (REFERENCES ⊳ IsName ⨾ MaybeListed (Parenthesized AreNames)) ts (x.table, x.columns) rest

-- FOREIGN KEY ( names ) REFERENCES name [( names )]
abbrev pub IsForeignKey : Rule ForeignKey
IsForeignKey ts x rest = (FOREIGN ⊳ KEY ⊳ Parenthesized AreNames ⨾ AreReferences) ts (x.columns, x.references) rest

-- over the rules of expressions, conditions and queries
module _ (inner : Nested) where
  -- query [order]
  abbrev pub IsOrderedQuery : Rule OrderedQuery
  IsOrderedQuery ts x rest = (inner.query ⨾ MaybeListed IsOrder) ts (x.query, x.order) rest

  -- [WHERE cond]
  abbrev pub IsFilter : Rule (Option Condition)
  IsFilter = Maybe (WHERE ⊳ inner.condition)

  -- colrule = NOT NULL | PRIMARY KEY | UNIQUE | CHECK ( cond ) | REFERENCES name [( names )]
  abbrev pub IsColumnRule : Rule ColumnRule
  IsColumnRule ts column_rule.NotNull rest = ts ≡ NOT ∷ NULL ∷ rest
  IsColumnRule ts column_rule.PrimaryKey rest = ts ≡ PRIMARY ∷ KEY ∷ rest
  IsColumnRule ts column_rule.Unique rest = ts ≡ UNIQUE ∷ rest
  IsColumnRule ts (column_rule.Check x) rest = (CHECK ⊳ Parenthesized inner.condition) ts x rest
  IsColumnRule ts (column_rule.References x) rest = AreReferences ts x rest

  -- [CONSTRAINT name] colrule
  abbrev pub IsColumnConstraint : Rule ColumnConstraint
  IsColumnConstraint ts x rest = (IsConstraintName ⨾ IsColumnRule) ts (x.name, x.rule) rest

  -- name type {[CONSTRAINT name] colrule}
  abbrev pub IsColumnDefinition : Rule ColumnDefinition
  IsColumnDefinition ts x rest = (IsName ⨾ IsTypeName ⨾ Many IsColumnConstraint) ts (x.column, (x.type_name, x.constraints)) rest

  -- tabrule = PRIMARY KEY ( names ) | UNIQUE ( names ) | CHECK ( cond ) | FOREIGN KEY ( names )
  -- REFERENCES name [( names )]
  abbrev pub IsTableRule : Rule TableRule
  IsTableRule ts (table_rule.PrimaryKey x) rest = (PRIMARY ⊳ KEY ⊳ Parenthesized AreNames) ts x rest
  IsTableRule ts (table_rule.Unique x) rest = (UNIQUE ⊳ Parenthesized AreNames) ts x rest
  IsTableRule ts (table_rule.Check x) rest = (CHECK ⊳ Parenthesized inner.condition) ts x rest
  IsTableRule ts (table_rule.ForeignKey x) rest = IsForeignKey ts x rest

  -- [CONSTRAINT name] tabrule
  abbrev pub IsTableConstraint : Rule TableConstraint
  IsTableConstraint ts x rest = (IsConstraintName ⨾ IsTableRule) ts (x.name, x.rule) rest

  -- element = name type {[CONSTRAINT name] colrule} | [CONSTRAINT name] tabrule
  abbrev pub IsTableElement : Rule TableElement
  IsTableElement ts (element.Column x) rest = IsColumnDefinition ts x rest
  IsTableElement ts (element.Constraint x) rest = IsTableConstraint ts x rest

  -- ---- changes

  -- CREATE TABLE name ( element {, element} )
  abbrev pub IsCreateTable : Rule CreateTable
  IsCreateTable ts x rest = (CREATE ⊳ TABLE ⊳ IsName ⨾ Parenthesized (Listed IsTableElement)) ts (x.table, x.elements) rest

  -- CREATE INDEX name ON name ( names )
  abbrev pub IsCreateIndex : Rule CreateIndex
  IsCreateIndex ts x rest = (CREATE ⊳ INDEX ⊳ IsName ⨾ ON ⊳ IsName ⨾ Parenthesized AreNames) ts (x.index, (x.table, x.columns)) rest

  -- source = expr | NULL
  abbrev pub IsStoredSource : Rule StoredSource
  IsStoredSource ts (stored.Value x) rest = inner.expression ts x rest
  IsStoredSource ts stored.Null rest = ts ≡ NULL ∷ rest

  -- row = ( source {, source} )
  abbrev pub IsRow : Rule (List StoredSource)
  IsRow = Parenthesized (Listed IsStoredSource)

  -- VALUES row {, row} | query
  abbrev pub AreInsertRows : Rule InsertRows
  AreInsertRows ts (rows.Values x) rest = (VALUES ⊳ Listed IsRow) ts x rest
  AreInsertRows ts (rows.Query x) rest = inner.query ts x rest

  -- INSERT INTO name [ ( names ) ] ( VALUES row {, row} | query )
  abbrev pub IsInsert : Rule Insert
  IsInsert ts x rest = (INSERT ⊳ INTO ⊳ IsName ⨾ MaybeListed (Parenthesized AreNames) ⨾ AreInsertRows) ts (x.table, (x.columns, x.rows)) rest

  -- name = source
  abbrev pub IsAssignment : Rule Assignment
  IsAssignment ts x rest = (IsName ⨾ EQUAL ⊳ IsStoredSource) ts (x.column, x.source) rest

  -- UPDATE name SET name = source {, name = source} [WHERE cond]
  abbrev pub IsUpdate : Rule Update
  IsUpdate ts x rest = (UPDATE ⊳ IsName ⨾ SET ⊳ Listed IsAssignment ⨾ IsFilter) ts (x.table, (x.assignments, x.filter)) rest

  -- DELETE FROM name [WHERE cond]
  abbrev pub IsDelete : Rule Delete
  IsDelete ts x rest = (DELETE ⊳ FROM ⊳ IsName ⨾ IsFilter) ts (x.table, x.filter) rest

  -- ---- sessions

  -- READ ONLY | READ WRITE
  abbrev pub IsAccessMode : Rule AccessMode
  IsAccessMode ts mode.ReadOnly rest = ts ≡ READ ∷ ONLY ∷ rest
  IsAccessMode ts mode.ReadWrite rest = ts ≡ READ ∷ WRITE ∷ rest

  -- DECLARE name CURSOR FOR query [order]
  abbrev pub IsDeclareCursor : Rule DeclareCursor
  IsDeclareCursor ts x rest = (DECLARE ⊳ IsName ⨾ CURSOR ⊳ FOR ⊳ IsOrderedQuery) ts (x.cursor, x.query) rest

  -- statement = query [order] | EXPLAIN query [order] | change | control
  abbrev pub IsStatement : Rule Statement
  IsStatement ts (statement.Query x) rest = IsOrderedQuery ts x rest
  IsStatement ts (statement.Explain x) rest = (EXPLAIN ⊳ IsOrderedQuery) ts x rest
  IsStatement ts (statement.CreateTable x) rest = IsCreateTable ts x rest
  IsStatement ts (statement.DropTable x) rest = (DROP ⊳ TABLE ⊳ IsName) ts x rest
  IsStatement ts (statement.CreateIndex x) rest = IsCreateIndex ts x rest
  IsStatement ts (statement.DropIndex x) rest = (DROP ⊳ INDEX ⊳ IsName) ts x rest
  IsStatement ts (statement.Insert x) rest = IsInsert ts x rest
  IsStatement ts (statement.Update x) rest = IsUpdate ts x rest
  IsStatement ts (statement.Delete x) rest = IsDelete ts x rest
  IsStatement ts (statement.Commit work) rest = (COMMIT ⊳ Written WORK) ts work rest
  IsStatement ts (statement.Rollback work) rest = (ROLLBACK ⊳ Written WORK) ts work rest
  IsStatement ts (statement.SetTransaction x) rest = (SET ⊳ TRANSACTION ⊳ IsAccessMode) ts x rest
  IsStatement ts (statement.DeclareCursor x) rest = IsDeclareCursor ts x rest
  IsStatement ts (statement.OpenCursor x) rest = (OPEN ⊳ IsName) ts x rest
  IsStatement ts (statement.Fetch x) rest = (FETCH ⊳ IsName) ts x rest
  IsStatement ts (statement.CloseCursor x) rest = (CLOSE ⊳ IsName) ts x rest
