-- How statements are read.
use Rattle.std.specs.Prelude.{ℕ, Bool, true, false, ◌&&◌, ◌||◌, if◌then◌else◌, List, [], ◌∷◌, Option, Some, None}
use Rattle.lexer.specs.declared.kinds.Symbol.TheVariants as s
use Rattle.lexer.specs.declared.words.Word.TheVariants as w
use Rattle.ast.specs.declared.statement.AccessMode.{AccessMode}
use Rattle.ast.specs.declared.statement.AccessMode.TheVariants as mode
use Rattle.ast.specs.declared.statement.Assignment.{Assignment}
use Rattle.ast.specs.declared.statement.ColumnConstraint.{ColumnConstraint}
use Rattle.ast.specs.declared.statement.ColumnDefinition.{ColumnDefinition}
use Rattle.ast.specs.declared.statement.ColumnRule.{ColumnRule}
use Rattle.ast.specs.declared.statement.ColumnRule.TheVariants as column_rule_of
use Rattle.ast.specs.declared.statement.ForeignKey.{ForeignKey}
use Rattle.ast.specs.declared.statement.InsertRows.{InsertRows}
use Rattle.ast.specs.declared.statement.InsertRows.TheVariants as rows_of
use Rattle.ast.specs.declared.statement.OrderedQuery.{OrderedQuery}
use Rattle.ast.specs.declared.statement.References.{References}
use Rattle.ast.specs.declared.statement.SortKey.{SortKey}
use Rattle.ast.specs.declared.statement.Statement.{Statement}
use Rattle.ast.specs.declared.statement.Statement.TheVariants as statement_of
use Rattle.ast.specs.declared.statement.StoredSource.{StoredSource}
use Rattle.ast.specs.declared.statement.StoredSource.TheVariants as stored
use Rattle.ast.specs.declared.statement.TableConstraint.{TableConstraint}
use Rattle.ast.specs.declared.statement.TableElement.{TableElement}
use Rattle.ast.specs.declared.statement.TableElement.TheVariants as element_of
use Rattle.ast.specs.declared.statement.TableRule.{TableRule}
use Rattle.ast.specs.declared.statement.TableRule.TheVariants as table_rule_of
use Rattle.ast.specs.declared.statement.TypeName.{TypeName}
use Rattle.ast.specs.declared.statement.TypeName.TheVariants as type_of
use Rattle.ast.specs.declared.tree.Condition.{Condition}
use Rattle.ast.specs.Notation.{Tokens}
use Rattle.parse_terminals.specs.Readers.{Reader, ◌>>=◌, if_next, is_word, is_symbol, next_is, rest_of, word, symbol, name, number, both, after, parenthesized, made, many, listed, maybe, maybe_listed, written}
use Rattle.parse_terminals.specs.ReadTerminals.{is_name, sort_key}
use Rattle.parse_expressions.specs.ReadExpressions.{Inner}

abbrev pub names : Reader (List (List ℕ))
names = listed name

-- ---- ORDER BY

unfoldable pub order : Reader (List SortKey)
order = maybe_listed (word w.Order) (λ _. after (word w.By) (listed sort_key))

-- ---- the parts of CREATE TABLE

-- VARYING ( number )
unfoldable pub varying : Reader TypeName
varying = made type_of.CharacterVarying (after (word w.Varying) (parenthesized number))

-- VARCHAR ( number ) | CHARACTER VARYING ( number )
unfoldable pub text_type : Reader TypeName
text_type ts = if_next (word w.Character ts)
    (made type_of.Varchar (after (word w.Varchar) (parenthesized number)) ts)
    (λ o. varying o.1)

unfoldable pub type_name : Reader TypeName
type_name ts = if_next (word w.Integer ts)
    (if_next (word w.Int ts) (text_type ts) (λ o. Some (type_of.Int, o.1)))
    (λ o. Some (type_of.Integer, o.1))

unfoldable pub constraint_name : Reader (Option (List ℕ))
constraint_name = maybe (word w.Constraint) (λ _. name)

-- whether a column's constraint comes next
abbrev pub begins_constraint : Tokens → Bool
begins_constraint ts = next_is (is_word w.Constraint) ts || (next_is (is_word w.Not) ts || (next_is (is_word w.Primary) ts
    || (next_is (is_word w.Unique) ts || (next_is (is_word w.References) ts || next_is (is_word w.Check) ts))))

abbrev pub constraint_ahead : Reader (Unit {0})
constraint_ahead ts = if begins_constraint ts then Some (tt, ts) else None

-- [( names )], where no other parenthesis can stand
unfoldable pub listed_names : Reader (List (List ℕ))
listed_names ts = if next_is (is_symbol s.LeftParenthesis) ts then parenthesized names ts else Some ([], ts)

-- name [( names )], behind REFERENCES
unfoldable pub referenced : Reader References
referenced = made (λ x. record { table = x.0; columns = x.1 }) (both name listed_names)

-- KEY ( names ) REFERENCES name [( names )], behind FOREIGN
unfoldable pub foreign_key : Reader ForeignKey
foreign_key = made (λ x. record { columns = x.0; references = x.1 })
    (after (word w.Key) (both (parenthesized names) (after (word w.References) referenced)))

-- name ( names )
unfoldable pub indexed_columns : Reader (List ℕ × List (List ℕ))
indexed_columns = both name (parenthesized names)

-- ON name ( names )
unfoldable pub indexed : Reader (List ℕ × List (List ℕ))
indexed = after (word w.On) indexed_columns

unfoldable pub create_index : Reader Statement
create_index = made (λ x. statement_of.CreateIndex (record { index = x.0; table = x.1.0; columns = x.1.1 })) (both name indexed)

unfoldable pub drop : Reader Statement
drop ts = if_next (word w.Table ts) (made statement_of.DropIndex (after (word w.Index) name) ts) (λ o. made statement_of.DropTable name o.1)

-- whether names in parentheses come next
abbrev pub opens_names : Tokens → Bool
opens_names ts = next_is (is_symbol s.LeftParenthesis) ts && next_is is_name (rest_of ts)

unfoldable pub insert_columns : Reader (List (List ℕ))
insert_columns ts = if opens_names ts then parenthesized names ts else Some ([], ts)

unfoldable pub access_mode : Reader AccessMode
access_mode ts = if_next (word w.Only ts) (word w.Write ts >>= (λ x. Some (mode.ReadWrite, x.1))) (λ o. Some (mode.ReadOnly, o.1))

unfoldable pub set_transaction : Reader Statement
set_transaction = made statement_of.SetTransaction (after (word w.Transaction) (after (word w.Read) access_mode))

unfoldable pub transaction_control : Reader Statement
transaction_control ts = if_next (word w.Commit ts)
    (if_next (word w.Rollback ts) (after (word w.Set) set_transaction ts) (λ o. made statement_of.Rollback (written w.Work) o.1))
    (λ o. made statement_of.Commit (written w.Work) o.1)

abbrev pub begins_data_change : Tokens → Bool
begins_data_change ts = next_is (is_word w.Insert) ts || (next_is (is_word w.Update) ts || next_is (is_word w.Delete) ts)

abbrev pub begins_schema_change : Tokens → Bool
begins_schema_change ts = next_is (is_word w.Create) ts || next_is (is_word w.Drop) ts

abbrev pub begins_transaction_control : Tokens → Bool
begins_transaction_control ts = next_is (is_word w.Commit) ts || (next_is (is_word w.Rollback) ts || next_is (is_word w.Set) ts)

abbrev pub begins_cursor_control : Tokens → Bool
begins_cursor_control ts = next_is (is_word w.Declare) ts || (next_is (is_word w.Open) ts || (next_is (is_word w.Fetch) ts || next_is (is_word w.Close) ts))

-- whether nothing is left
abbrev pub is_nothing : Tokens → Bool
is_nothing [] = true
is_nothing (t ∷ ts) = false

-- whether nothing is left but perhaps a ;
abbrev pub is_end : Tokens → Bool
is_end [] = true
is_end (t ∷ ts) = is_symbol s.Semicolon t && is_nothing ts

module _ (inner : Inner) where
  unfoldable pub ordered_query : Reader OrderedQuery
  ordered_query = made (λ x. record { query = x.0; order = x.1 }) (both inner.query order)

  unfoldable pub filter : Reader (Option Condition)
  filter = maybe (word w.Where) (λ _. inner.condition)

  -- CHECK ( cond )
  unfoldable pub check : Reader Condition
  check = after (word w.Check) (parenthesized inner.condition)

  unfoldable pub column_rule : Reader ColumnRule
  column_rule ts = if_next (word w.Not ts)
      (if_next (word w.Primary ts)
      (if_next (word w.Unique ts)
      (if_next (word w.References ts) (made column_rule_of.Check check ts) (λ o. made column_rule_of.References referenced o.1))
      (λ o. Some (column_rule_of.Unique, o.1)))
      (λ o. word w.Key o.1 >>= (λ x. Some (column_rule_of.PrimaryKey, x.1))))
      (λ o. word w.Null o.1 >>= (λ x. Some (column_rule_of.NotNull, x.1)))

  unfoldable pub column_constraint : Reader ColumnConstraint
  column_constraint = made (λ x. record { name = x.0; rule = x.1 }) (both constraint_name column_rule)

  unfoldable pub column_definition : Reader ColumnDefinition
  column_definition = made (λ x. record { column = x.0; type_name = x.1.0; constraints = x.1.1 })
      (both name (both type_name (many None constraint_ahead (λ _. column_constraint) [])))

  unfoldable pub table_rule : Reader TableRule
  table_rule ts = if_next (word w.Primary ts)
      (if_next (word w.Unique ts)
      (if_next (word w.Foreign ts) (made table_rule_of.Check check ts) (λ o. made table_rule_of.ForeignKey foreign_key o.1))
      (λ o. made table_rule_of.Unique (parenthesized names) o.1))
      (λ o. made table_rule_of.PrimaryKey (after (word w.Key) (parenthesized names)) o.1)

  unfoldable pub table_constraint : Reader TableConstraint
  table_constraint = made (λ x. record { name = x.0; rule = x.1 }) (both constraint_name table_rule)

  unfoldable pub element : Reader TableElement
  element ts = if next_is is_name ts then made element_of.Column column_definition ts else made element_of.Constraint table_constraint ts

  -- ---- changes, behind their first words

  unfoldable pub create_table : Reader Statement
  create_table = made (λ x. statement_of.CreateTable (record { table = x.0; elements = x.1 })) (both name (parenthesized (listed element)))

  unfoldable pub create : Reader Statement
  create ts = if_next (word w.Table ts) (after (word w.Index) create_index ts) (λ o. create_table o.1)

  unfoldable pub stored_source : Reader StoredSource
  stored_source ts = if_next (word w.Null ts) (made stored.Value inner.expression ts) (λ o. Some (stored.Null, o.1))

  unfoldable pub stored_sources : Reader (List StoredSource)
  stored_sources = listed stored_source

  unfoldable pub row_of_sources : Reader (List StoredSource)
  row_of_sources = parenthesized stored_sources

  unfoldable pub insert_rows : Reader InsertRows
  insert_rows ts = if_next (word w.Values ts) (made rows_of.Query inner.query ts) (λ o. made rows_of.Values (listed row_of_sources) o.1)

  unfoldable pub insert : Reader Statement
  insert = made (λ x. statement_of.Insert (record { table = x.0; columns = x.1.0; rows = x.1.1 }))
      (after (word w.Into) (both name (both insert_columns insert_rows)))

  unfoldable pub assignment : Reader Assignment
  assignment = made (λ x. record { column = x.0; source = x.1 }) (both name (after (symbol s.Equal) stored_source))

  -- SET name = source {, name = source} [WHERE cond]
  unfoldable pub assigned : Reader (List Assignment × Option Condition)
  assigned = after (word w.Set) (both (listed assignment) filter)

  unfoldable pub update : Reader Statement
  update = made (λ x. statement_of.Update (record { table = x.0; assignments = x.1.0; filter = x.1.1 })) (both name assigned)

  unfoldable pub delete : Reader Statement
  delete = made (λ x. statement_of.Delete (record { table = x.0; filter = x.1 })) (after (word w.From) (both name filter))

  -- ---- sessions, behind their first words

  -- CURSOR FOR query [order]
  unfoldable pub cursor_query : Reader OrderedQuery
  cursor_query = after (word w.Cursor) (after (word w.For) ordered_query)

  unfoldable pub declare_cursor : Reader Statement
  declare_cursor = made (λ x. statement_of.DeclareCursor (record { cursor = x.0; query = x.1 })) (both name cursor_query)

  unfoldable pub data_change : Reader Statement
  data_change ts = if_next (word w.Insert ts)
      (if_next (word w.Update ts) (after (word w.Delete) delete ts) (λ o. update o.1))
      (λ o. insert o.1)

  unfoldable pub schema_change : Reader Statement
  schema_change ts = if_next (word w.Create ts) (after (word w.Drop) drop ts) (λ o. create o.1)

  unfoldable pub cursor_control : Reader Statement
  cursor_control ts = if_next (word w.Declare ts)
      (if_next (word w.Open ts)
      (if_next (word w.Fetch ts) (made statement_of.CloseCursor (after (word w.Close) name) ts) (λ o. made statement_of.Fetch name o.1))
      (λ o. made statement_of.OpenCursor name o.1))
      (λ o. declare_cursor o.1)

  -- query [order] | EXPLAIN query [order]
  unfoldable pub query_statement : Reader Statement
  query_statement ts = if_next (word w.Explain ts) (made statement_of.Query ordered_query ts) (λ o. made statement_of.Explain ordered_query o.1)

  unfoldable pub statement : Reader Statement
  statement ts =
      if begins_data_change ts then data_change ts
      else (if begins_schema_change ts then schema_change ts
      else (if begins_transaction_control ts then transaction_control ts
      else (if begins_cursor_control ts then cursor_control ts else query_statement ts)))

  unfoldable pub text : Reader Statement
  text ts = statement ts >>= (λ x. if is_end x.1 then Some x else None)

  unfoldable pub condition_text : Reader Condition
  condition_text ts = inner.condition ts >>= (λ x. if is_nothing x.1 then Some x else None)
