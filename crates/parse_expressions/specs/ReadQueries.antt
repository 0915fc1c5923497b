-- How queries are read.
use Rattle.std.specs.Prelude.{ℕ, Bool, ◌||◌, if◌then◌else◌, List, [], Option, Some, None}
use Rattle.lexer.specs.declared.kinds.Symbol.TheVariants as s
use Rattle.lexer.specs.declared.words.Word.TheVariants as w
use Rattle.ast.specs.declared.operator.Column.{Column}
use Rattle.ast.specs.declared.operator.SetOperator.{SetOperator}
use Rattle.ast.specs.declared.tree.Addend.{Addend, roll-Addend, out-Addend}
use Rattle.ast.specs.declared.tree.Condition.{Condition}
use Rattle.ast.specs.declared.tree.Join.{Join}
use Rattle.ast.specs.declared.tree.Join.TheVariants as join_of
use Rattle.ast.specs.declared.tree.Operand.{Operand}
use Rattle.ast.specs.declared.tree.Operand.TheVariants as operand_of
use Rattle.ast.specs.declared.tree.Query.{Query, roll-Query}
use Rattle.ast.specs.declared.tree.Select.{Select, roll-Select}
use Rattle.ast.specs.declared.tree.SelectItem.{SelectItem, roll-SelectItem}
use Rattle.ast.specs.declared.tree.TableReference.{TableReference, roll-TableReference}
use Rattle.ast.specs.declared.tree.TableSource.{TableSource}
use Rattle.ast.specs.declared.tree.TableSource.TheVariants as source_of
use Rattle.parse_expressions.specs.declared.clauses.Clauses.{Clauses}
use Rattle.ast.specs.Notation.{Tokens}
use Rattle.ast.specs.Queries.{is_lone}
use Rattle.parse_terminals.specs.Readers.{Reader, ◌>>=◌, if_next, is_word, is_symbol, next_is, word, symbol, name, both, after, parenthesized, made, many, listed, optional, maybe, maybe_listed, written}
use Rattle.parse_terminals.specs.ReadTerminals.{quantifier, set_operator, intersect, column, alias, may_alias}
use Rattle.parse_expressions.specs.ReadExpressions.{Inner, expression, condition}

-- whether a join comes next
abbrev pub begins_join : Tokens → Bool
begins_join ts = next_is (is_word w.Cross) ts || (next_is (is_word w.Inner) ts || (next_is (is_word w.Join) ts || next_is (is_word w.Left) ts))

abbrev pub join_ahead : Reader (Unit {0})
join_ahead ts = if begins_join ts then Some (tt, ts) else None

module _ (limit : Option ℕ) (inner : Inner) where
  unfoldable pub table_source : Reader TableSource
  table_source ts = if next_is (is_symbol s.LeftParenthesis) ts then made (λ x. source_of.Derived x.0 x.1) (both (parenthesized inner.query) alias) ts
      else made (λ x. source_of.Table x.0 x.1) (both name may_alias) ts

  -- ON cond
  unfoldable pub on : Reader Condition
  on = after (word w.On) (condition limit inner)

  -- JOIN source1 ON cond
  unfoldable pub joined : Reader (TableSource × Condition)
  joined = after (word w.Join) (both table_source on)

  -- what follows CROSS
  unfoldable pub crossed : Reader Join
  crossed = made join_of.Cross (after (word w.Join) table_source)

  -- what follows LEFT
  unfoldable pub left : Reader Join
  left = made (λ x. join_of.Left x.0 x.1.0 x.1.1) (both (written w.Outer) joined)

  unfoldable pub inner_join : Reader Join
  inner_join = made (λ x. join_of.Inner x.0 x.1.0 x.1.1) (both (written w.Inner) joined)

  unfoldable pub join : Reader Join
  join ts = if_next (word w.Cross ts)
      (if_next (word w.Left ts) (inner_join ts) (λ o. left o.1))
      (λ o. crossed o.1)

  unfoldable pub table_reference : Reader TableReference
  table_reference = made (λ x. roll-TableReference (record { first = x.0; joins = x.1 }))
      (both table_source (many None join_ahead (λ _. join) []))

  unfoldable pub select_item : Reader SelectItem
  select_item = made (λ x. roll-SelectItem (record { value = x.0; alias = x.1 })) (both (expression limit inner) may_alias)

  unfoldable pub select_items : Reader (Option (List SelectItem))
  select_items ts = if_next (symbol s.Asterisk ts) (made Some (listed select_item) ts) (λ o. Some (None, o.1))

  unfoldable pub filter : Reader (Option Condition)
  filter = maybe (word w.Where) (λ _. condition limit inner)

  unfoldable pub groups : Reader (List Column)
  groups = maybe_listed (word w.Group) (λ _. after (word w.By) (listed column))

  unfoldable pub having : Reader (Option Condition)
  having = maybe (word w.Having) (λ _. condition limit inner)

  -- [WHERE cond] [GROUP BY column {, column}] [HAVING cond]
  unfoldable pub clauses : Reader Clauses
  clauses = made (λ x. record { filter = x.0; groups = x.1.0; having = x.1.1 }) (both filter (both groups having))

  -- what follows FROM
  unfoldable pub tables : Reader (List TableReference × Clauses)
  tables = both (listed table_reference) clauses

  -- what follows SELECT and ALL or DISTINCT
  unfoldable pub selected : Reader (Option (List SelectItem) × (List TableReference × Clauses))
  selected = both select_items (after (word w.From) tables)

  unfoldable pub select : Reader Select
  select = made (λ x. roll-Select (record { quantifier = x.0; items = x.1.0; from = x.1.1.0; filter = x.1.1.1.filter; groups = x.1.1.1.groups; having = x.1.1.1.having }))
      (after (word w.Select) (both (optional quantifier) selected))

  unfoldable pub operand : Reader Operand
  operand ts = if next_is (is_symbol s.LeftParenthesis) ts then made operand_of.Grouped (parenthesized inner.query) ts
      else made operand_of.Select select ts

  unfoldable pub intersected : Bool → Reader (Bool × Operand)
  intersected all = made (λ x. (all, x)) operand

  unfoldable pub addend : Reader Addend
  addend = made (λ x. roll-Addend (record { first = x.0; others = x.1 })) (both operand (many limit intersect intersected []))

  unfoldable pub united : SetOperator → Reader (SetOperator × Addend)
  united o = made (λ x. (o, x)) addend

  unfoldable pub query : Reader Query
  query ts = both addend (many limit set_operator united []) ts >>= (λ x.
      if is_lone (out-Addend x.0.0).first (out-Addend x.0.0).others x.0.1 then None
      else Some (roll-Query (record { first = x.0.0; others = x.0.1 }), x.1))
