-- The parts of statements: what is in the grammar is read again.
use Rattle.std.proofs.Common.{◌≡◌, ℕ, zero, suc, ◌<◌, Bool, true, false, List, [], ◌∷◌, length, Option, Some, None, refl, ap, ◌∙◌, arith}
use Rattle.lexer.specs.declared.kinds.Kind.{Kind}
use Rattle.lexer.specs.declared.kinds.Kind.TheVariants as kind
use Rattle.lexer.specs.declared.kinds.Symbol.TheVariants as s
use Rattle.lexer.specs.declared.words.Word.{Word}
use Rattle.lexer.specs.declared.words.Word.TheVariants as w
use Rattle.ast.specs.declared.operator.Direction.{Direction}
use Rattle.ast.specs.declared.operator.Direction.TheVariants as direction_of
use Rattle.ast.specs.declared.statement.Assignment.{Assignment}
use Rattle.ast.specs.declared.statement.ColumnConstraint.{ColumnConstraint}
use Rattle.ast.specs.declared.statement.ColumnDefinition.{ColumnDefinition}
use Rattle.ast.specs.declared.statement.ColumnRule.{ColumnRule}
use Rattle.ast.specs.declared.statement.ColumnRule.TheVariants as column_rule_of
use Rattle.ast.specs.declared.statement.ForeignKey.{ForeignKey}
use Rattle.ast.specs.declared.statement.InsertRows.{InsertRows}
use Rattle.ast.specs.declared.statement.InsertRows.TheVariants as rows_of
use Rattle.ast.specs.declared.statement.OrderedQuery.{OrderedQuery}
use Rattle.ast.specs.declared.statement.References.{References}
use Rattle.ast.specs.declared.statement.SortColumn.{SortColumn}
use Rattle.ast.specs.declared.statement.SortColumn.TheVariants as sort_column_of
use Rattle.ast.specs.declared.statement.SortKey.{SortKey}
use Rattle.ast.specs.declared.statement.StoredSource.{StoredSource}
use Rattle.ast.specs.declared.statement.StoredSource.TheVariants as stored
use Rattle.ast.specs.declared.statement.TableConstraint.{TableConstraint}
use Rattle.ast.specs.declared.statement.TableElement.{TableElement}
use Rattle.ast.specs.declared.statement.TableElement.TheVariants as element_of
use Rattle.ast.specs.declared.statement.TableRule.{TableRule}
use Rattle.ast.specs.declared.statement.TableRule.TheVariants as table_rule_of
use Rattle.ast.specs.declared.statement.TypeName.{TypeName}
use Rattle.ast.specs.declared.statement.TypeName.TheVariants as type_of
use Rattle.ast.specs.declared.tree.Condition.{Condition}
use Rattle.ast.specs.Notation.{Tokens, Rule, ◌⨾◌, ◌⊳◌, Parenthesized, Maybe, Listed, MaybeListed}
use Rattle.ast.specs.Expressions.{Nested}
use Rattle.ast.specs.Terminals.{IsName, IsNumber}
use Rattle.ast.specs.Statements.{AreNames, IsSortColumn, IsDirection, IsSortKey, IsOrder, IsTypeName, IsConstraintName, AreReferences, IsForeignKey, IsOrderedQuery, IsFilter, IsColumnRule, IsColumnConstraint, IsColumnDefinition, IsTableRule, IsTableConstraint, IsTableElement, IsStoredSource, IsRow, AreInsertRows, IsAssignment}
use Rattle.ast.specs.Words.{CHECK, CONSTRAINT, FOREIGN, KEY, NOT, ORDER, PRIMARY, REFERENCES, UNIQUE, WHERE}
use Rattle.parse_terminals.specs.Readers.{Reader, next_is, is_word, is_symbol, word, symbol, number, both, after, made, listed, parenthesized}
use Rattle.parse_terminals.specs.ReadTerminals.{is_name, sort_column, direction, sort_key}
use Rattle.parse_expressions.specs.ReadExpressions.{Inner}
use Rattle.parse_statements.specs.ReadStatements.{names, order, varying, text_type, type_name, constraint_name, constraint_ahead, begins_constraint, listed_names, referenced, foreign_key, ordered_query, filter, check, column_rule, column_constraint, column_definition, table_rule, table_constraint, element, indexed_columns, stored_source, stored_sources, row_of_sources, insert_rows, opens_names, insert_columns, assignment}
use Rattle.parser.specs.Shallow.{is_shallow}
use Rattle.parser.proofs.Steps.{word_again, no_word}
use Rattle.parser.proofs.Passes.{Passes, here, past, onward, one, same, no_longer, shallow_after}
use Rattle.parser.proofs.Again.{Stops, never, nothing_stops, Again, widen, both_again, after_word_again, after_symbol_again, inside, parenthesized_again, made_again, optional_again, Opened, opened_by_word, maybe_again, maybe_listed_again, many_again, listed_again}
use Rattle.parser.proofs.AgainTerminals.{name_again, number_again}
use Rattle.parser.proofs.Follow.{or, stops_left, stops_right, Ready, expression_goes_on, condition_goes_on, query_goes_on, no_expression, no_query}

-- ---- the first token

other_word : {t : Kind} {ts a : Tokens} (v : Word) → is_word v t ≡ false → ts ≡ t ∷ a → word v ts ≡ None
unfolding word
other_word v differs h = rw (h, differs) refl

this_word : {ts a : Tokens} (v : Word) → ts ≡ kind.Word v ∷ a → word v ts ≡ Some (tt, a)
this_word {a} v h = rw h (word_again v a)

-- what follows the first token is shorter
behind_first : {t : Kind} {ts a rest : Tokens} → ts ≡ t ∷ a → Passes a rest → length rest < length ts
behind_first {ts} {a} h p = let e : length ts ≡ suc (length a) = ap length h in let l = no_longer p in omega arith

pub made_read : {A B : Type 0} (f : A → B) (r : Reader A) (ts : Tokens) (x : A) (rest : Tokens) → r ts ≡ Some (x, rest) → made f r ts ≡ Some (f x, rest)
made_read f r ts x rest e = rw e refl

-- ---- what may be left out begins with its word

order_begins : (p : Kind → Bool) → p ORDER ≡ false → (ts : Tokens) (x : List SortKey) (rest : Tokens) → MaybeListed IsOrder ts x rest → Stops p rest
    → Stops p ts
order_begins p e ts [] rest h stops = rw h stops
order_begins p e ts (x ∷ xs) rest h stops = rw h.1 e

maybe_begins : {A : Type 0} (R : Rule A) (t : Kind) (p : Kind → Bool) → p t ≡ false → (ts : Tokens) (x : Option A) (rest : Tokens)
    → Maybe (t ⊳ R) ts x rest → Stops p rest → Stops p ts
maybe_begins R t p e ts None rest h stops = rw h stops
maybe_begins R t p e ts (Some x) rest h stops = rw h.1 e

-- ---- the parts that hold no expression, condition or query

abbrev is_direction : Kind → Bool
is_direction = or (is_word w.Asc) (is_word w.Desc)

abbrev keys_go_on : Kind → Bool
keys_go_on = or (is_symbol s.Comma) is_direction

abbrev order_goes_on : Kind → Bool
order_goes_on = or (is_word w.Order) keys_go_on

sort_column_passes : (ts : Tokens) (x : SortColumn) (rest : Tokens) → IsSortColumn ts x rest → Passes ts rest
sort_column_passes ts (sort_column_of.Named x) rest h = one refl refl h
sort_column_passes ts (sort_column_of.Position x) rest h = one refl refl h

sort_column_at : (ts : Tokens) (x : SortColumn) (rest : Tokens) → IsSortColumn ts x rest → sort_column ts ≡ Some (x, rest)
unfolding sort_column
sort_column_at ts (sort_column_of.Named x) rest h = rw h refl
sort_column_at ts (sort_column_of.Position x) rest h = rw h refl

direction_passes : (ts : Tokens) (x : Direction) (rest : Tokens) → IsDirection ts x rest → Passes ts rest
direction_passes ts direction_of.Ascending rest h = one refl refl h
direction_passes ts direction_of.Descending rest h = one refl refl h

direction_at : (ts : Tokens) (x : Direction) (rest : Tokens) → IsDirection ts x rest → direction ts ≡ Some (x, rest)
unfolding word
direction_at ts direction_of.Ascending rest h = rw h refl
direction_at ts direction_of.Descending rest h = rw h refl

no_direction : (rest : Tokens) → Stops is_direction rest → direction rest ≡ None
no_direction rest h = rw (no_word is_direction w.Asc refl rest h, no_word is_direction w.Desc refl rest h) refl

table_rule_begins : (N : Nested) (p : Kind → Bool) → p PRIMARY ≡ false → p UNIQUE ≡ false → p CHECK ≡ false → p FOREIGN ≡ false
    → (ts : Tokens) (x : TableRule) (rest : Tokens) → IsTableRule N ts x rest → Stops p ts
table_rule_begins N p a b c d ts (table_rule_of.PrimaryKey x) rest h = rw h.1 a
table_rule_begins N p a b c d ts (table_rule_of.Unique x) rest h = rw h.1 b
table_rule_begins N p a b c d ts (table_rule_of.Check x) rest h = rw h.1 c
table_rule_begins N p a b c d ts (table_rule_of.ForeignKey x) rest h = rw h.1.1 d

column_rule_begins : (N : Nested) (p : Kind → Bool) → p NOT ≡ false → p PRIMARY ≡ false → p UNIQUE ≡ false → p CHECK ≡ false → p REFERENCES ≡ false
    → (ts : Tokens) (x : ColumnRule) (rest : Tokens) → IsColumnRule N ts x rest → Stops p ts
column_rule_begins N p a b c d e ts column_rule_of.NotNull rest h = rw h a
column_rule_begins N p a b c d e ts column_rule_of.PrimaryKey rest h = rw h b
column_rule_begins N p a b c d e ts column_rule_of.Unique rest h = rw h c
column_rule_begins N p a b c d e ts (column_rule_of.Check x) rest h = rw h.1 d
column_rule_begins N p a b c d e ts (column_rule_of.References x) rest h = rw h.1.1 e

-- the words that begin a column's constraint
abbrev constrains : Kind → Bool
constrains = or (is_word w.Constraint) (or (is_word w.Not) (or (is_word w.Primary) (or (is_word w.Unique) (or (is_word w.References) (is_word w.Check)))))

-- what goes on with the columns that a foreign key may list, and with the definition of a column
abbrev opens : Kind → Bool
opens = is_symbol s.LeftParenthesis

abbrev definition_goes_on : Kind → Bool
definition_goes_on = or opens constrains

no_constraint : (rest : Tokens) → Stops constrains rest → constraint_ahead rest ≡ None
no_constraint [] h = refl
no_constraint (t ∷ ts) h = rw h refl

rule_ahead : (N : Nested) (ts : Tokens) (x : ColumnRule) (rest : Tokens) → IsColumnRule N ts x rest → begins_constraint ts ≡ true
rule_ahead N ts column_rule_of.NotNull rest h = rw h refl
rule_ahead N ts column_rule_of.PrimaryKey rest h = rw h refl
rule_ahead N ts column_rule_of.Unique rest h = rw h refl
rule_ahead N ts (column_rule_of.Check x) rest h = rw h.1 refl
rule_ahead N ts (column_rule_of.References x) rest h = rw h.1.1 refl

name_or_rule_ahead : (N : Nested) (ts : Tokens) (x : Option (List ℕ)) (mid : Tokens) (y : ColumnRule) (rest : Tokens) → IsConstraintName ts x mid
    → IsColumnRule N mid y rest → begins_constraint ts ≡ true
name_or_rule_ahead N ts None mid y rest h k = rw h (rule_ahead N mid y rest k)
name_or_rule_ahead N ts (Some x) mid y rest h k = rw h.1 refl

-- the same tree by another rule
ruled : {A : Type 0} {d : ℕ} {p : Kind → Bool} {r : Reader A} {R : Rule A} (S : Rule A) → Again A d p r R
    → ((ts : Tokens) (x : A) (rest : Tokens) → S ts x rest → R ts x rest) → Again A d p r S
ruled S l from = record {
  passes = λ ts x rest h. l.passes ts x rest (from ts x rest h);
  at = λ ts x rest h shallow stops. l.at ts x rest (from ts x rest h) shallow stops;
}

-- what stands behind REFERENCES, and behind FOREIGN
abbrev IsReferenced : Rule References
IsReferenced ts x rest = (IsName ⨾ MaybeListed (Parenthesized AreNames)) ts (x.table, x.columns) rest

abbrev IsKeyed : Rule ForeignKey
IsKeyed ts x rest = (KEY ⊳ (Parenthesized AreNames ⨾ AreReferences)) ts (x.columns, x.references) rest

module _ {d : ℕ} where
  names_again : Again (List (List ℕ)) d (is_symbol s.Comma) names AreNames
  names_again = listed_again (is_symbol s.Comma) name_again refl refl (λ rest h. nothing_stops rest)

  names_in_parentheses : Again (List (List ℕ)) d never (parenthesized names) (Parenthesized AreNames)
  names_in_parentheses = parenthesized_again never (inside refl names_again)

  number_in_parentheses : Again ℕ d never (parenthesized number) (Parenthesized IsNumber)
  number_in_parentheses = parenthesized_again never (inside refl number_again)

  sort_column_again : Again SortColumn d never sort_column IsSortColumn
  sort_column_again = record { passes = sort_column_passes; at = λ ts x rest h shallow stops. sort_column_at ts x rest h }

  direction_again : Again Direction d never direction IsDirection
  direction_again = record { passes = direction_passes; at = λ ts x rest h shallow stops. direction_at ts x rest h }

  sort_key_again : Again SortKey d is_direction sort_key IsSortKey
  unfolding sort_key
  sort_key_again = made_again (λ x. record { column = x.0; direction = x.1 }) (λ x. (x.column, x.direction))
      (both_again sort_column_again (optional_again is_direction direction_again no_direction (λ rest h. nothing_stops rest)) (λ ts x rest h stops. nothing_stops ts))
      (λ ts x rest h. h) (λ x. refl)

  -- [ORDER BY key {, key}]
  order_again : Again (List SortKey) d order_goes_on order (MaybeListed IsOrder)
  unfolding order
  order_again = maybe_listed_again (opened_by_word w.Order order_goes_on
      (after_word_again w.By (listed_again keys_go_on sort_key_again refl refl (stops_right (is_symbol s.Comma) is_direction)))
      refl refl (stops_right (is_word w.Order) keys_go_on))

  constraint_name_again : Again (Option (List ℕ)) d (is_word w.Constraint) constraint_name IsConstraintName
  unfolding constraint_name
  constraint_name_again = maybe_again (opened_by_word w.Constraint (is_word w.Constraint) name_again refl refl (λ rest h. nothing_stops rest))

-- [( names )]
listed_names_passes : (ts : Tokens) (x : List (List ℕ)) (rest : Tokens) → MaybeListed (Parenthesized AreNames) ts x rest → Passes ts rest
listed_names_passes ts [] rest h = same h
listed_names_passes ts (x ∷ xs) rest h = (names_in_parentheses {d = zero}).passes ts (x ∷ xs) rest h

listed_names_at : (d : ℕ) (ts : Tokens) (x : List (List ℕ)) (rest : Tokens) → MaybeListed (Parenthesized AreNames) ts x rest → is_shallow ts d ≡ true
    → Stops opens rest → listed_names ts ≡ Some (x, rest)
unfolding listed_names
listed_names_at d ts [] rest h shallow stops = rw (h, stops) refl
listed_names_at d ts (x ∷ xs) rest h shallow stops =
    let begins : next_is opens ts ≡ true = rw h.1 refl in
    rw begins ((names_in_parentheses {d = d}).at ts (x ∷ xs) rest h shallow (nothing_stops rest))

module _ {d : ℕ} where
  listed_names_again : Again (List (List ℕ)) d opens listed_names (MaybeListed (Parenthesized AreNames))
  listed_names_again = record { passes = listed_names_passes; at = listed_names_at d }

  -- name [( names )]
  referenced_again : Again References d opens referenced IsReferenced
  unfolding referenced
  referenced_again = made_again (λ x. record { table = x.0; columns = x.1 }) (λ x. (x.table, x.columns))
      (both_again name_again listed_names_again (λ ts x rest h stops. nothing_stops ts)) (λ ts x rest h. h) (λ x. refl)

  -- REFERENCES name [( names )]
  references_again : Again References d opens (after (word w.References) referenced) AreReferences
  references_again = ruled AreReferences (after_word_again w.References referenced_again) (λ ts x rest h. (h.1.0, h.1.1, (h.0, h.1.2, h.2)))

  -- KEY ( names ) REFERENCES name [( names )]
  foreign_key_again : Again ForeignKey d opens foreign_key IsKeyed
  unfolding foreign_key
  foreign_key_again = made_again (λ x. record { columns = x.0; references = x.1 }) (λ x. (x.columns, x.references))
      (after_word_again w.Key (both_again names_in_parentheses references_again (λ ts x rest h stops. nothing_stops ts))) (λ ts x rest h. h) (λ x. refl)

  -- name ( names )
  pub columns_again : Again (List ℕ × List (List ℕ)) d never indexed_columns (IsName ⨾ Parenthesized AreNames)
  unfolding indexed_columns
  columns_again = both_again name_again names_in_parentheses (λ ts x rest h stops. nothing_stops ts)

type_name_passes : (ts : Tokens) (x : TypeName) (rest : Tokens) → IsTypeName ts x rest → Passes ts rest
type_name_passes ts type_of.Integer rest h = one refl refl h
type_name_passes ts type_of.Int rest h = one refl refl h
type_name_passes ts (type_of.Varchar n) rest h = onward (one refl refl h.1) ((number_in_parentheses {d = zero}).passes h.0 n rest h.2)
type_name_passes ts (type_of.CharacterVarying n) rest h =
    onward (one refl refl h.1) (onward (one refl refl h.2.1) ((number_in_parentheses {d = zero}).passes h.2.0 n rest h.2.2))

type_name_at : (ts : Tokens) (x : TypeName) (rest : Tokens) → IsTypeName ts x rest → type_name ts ≡ Some (x, rest)
unfolding type_name text_type varying word symbol
type_name_at ts type_of.Integer rest h = rw h refl
type_name_at ts type_of.Int rest h = rw h refl
type_name_at ts (type_of.Varchar n) rest h = rw (h.1, h.2.1, h.2.2) refl
type_name_at ts (type_of.CharacterVarying n) rest h = rw (h.1, h.2.1, h.2.2.1, h.2.2.2) refl

type_name_again : {d : ℕ} → Again TypeName d never type_name IsTypeName
type_name_again = record { passes = type_name_passes; at = λ ts x rest h shallow stops. type_name_at ts x rest h }

-- ---- over expressions, conditions and queries

-- what goes on with a query and its order, with a filter, with the sources of a row, with the rows
-- of an INSERT and with assignments and their filter
abbrev pub ordered_goes_on : Kind → Bool
ordered_goes_on = or query_goes_on order_goes_on

abbrev pub filter_goes_on : Kind → Bool
filter_goes_on = or (is_word w.Where) condition_goes_on

abbrev sources_go_on : Kind → Bool
sources_go_on = or (is_symbol s.Comma) expression_goes_on

abbrev pub rows_go_on : Kind → Bool
rows_go_on = or (is_symbol s.Comma) query_goes_on

abbrev pub assigned_goes_on : Kind → Bool
assigned_goes_on = or sources_go_on filter_goes_on

module _ {d : ℕ} {I : Inner} {N : Nested} (ready : Ready d I N) where
  -- query [order]
  pub ordered_query_again : Again OrderedQuery d ordered_goes_on (ordered_query I) (IsOrderedQuery N)
  unfolding ordered_query
  ordered_query_again = made_again (λ x. record { query = x.0; order = x.1 }) (λ x. (x.query, x.order))
      (both_again ready.query (widen ordered_goes_on (stops_right query_goes_on order_goes_on) order_again)
      (λ ts x rest h stops. order_begins query_goes_on refl ts x rest h (stops_left query_goes_on order_goes_on rest stops)))
      (λ ts x rest h. h) (λ x. refl)

  -- [WHERE cond]
  pub filter_again : Again (Option Condition) d filter_goes_on (filter I) (IsFilter N)
  unfolding filter
  filter_again = maybe_again (opened_by_word w.Where filter_goes_on ready.condition refl refl (stops_right (is_word w.Where) condition_goes_on))

  condition_in_parentheses : Again Condition d never (parenthesized I.condition) (Parenthesized N.condition)
  condition_in_parentheses = parenthesized_again never (inside refl ready.condition)

  -- CHECK ( cond )
  check_again : Again Condition d never (check I) (CHECK ⊳ Parenthesized N.condition)
  unfolding check
  check_again = after_word_again w.Check condition_in_parentheses

  -- ---- the rules of a column

  column_rule_passes : (ts : Tokens) (x : ColumnRule) (rest : Tokens) → IsColumnRule N ts x rest → Passes ts rest
  column_rule_passes ts column_rule_of.NotNull rest h = onward (one refl refl h) (past refl refl here)
  column_rule_passes ts column_rule_of.PrimaryKey rest h = onward (one refl refl h) (past refl refl here)
  column_rule_passes ts column_rule_of.Unique rest h = one refl refl h
  column_rule_passes ts (column_rule_of.Check x) rest h = check_again.passes ts x rest h
  column_rule_passes ts (column_rule_of.References x) rest h = (references_again {d = d}).passes ts x rest h

  column_rule_at : (ts : Tokens) (x : ColumnRule) (rest : Tokens) → IsColumnRule N ts x rest → is_shallow ts d ≡ true → Stops opens rest
      → column_rule I ts ≡ Some (x, rest)
  unfolding column_rule word
  column_rule_at ts column_rule_of.NotNull rest h shallow stops = rw h refl
  column_rule_at ts column_rule_of.PrimaryKey rest h shallow stops = rw h refl
  column_rule_at ts column_rule_of.Unique rest h shallow stops = rw h refl
  column_rule_at ts (column_rule_of.Check x) rest h shallow stops =
      let read = made_read column_rule_of.Check (check I) ts x rest (check_again.at ts x rest h shallow (nothing_stops rest)) in
      let e : column_rule I ts ≡ made column_rule_of.Check (check I) ts = rw h.1 refl in
      e ∙ read
  column_rule_at ts (column_rule_of.References x) rest h shallow stops =
      let read = referenced_again.at h.1.0 x rest (h.0, h.1.2, h.2) (shallow_after (one refl refl h.1.1) d shallow) stops in
      let e : column_rule I ts ≡ made column_rule_of.References referenced h.1.0 = rw h.1.1 refl in
      e ∙ made_read column_rule_of.References referenced h.1.0 x rest read

  column_rule_again : Again ColumnRule d opens (column_rule I) (IsColumnRule N)
  column_rule_again = record { passes = column_rule_passes; at = column_rule_at }

  column_rule_shorter : (ts : Tokens) (x : ColumnRule) (rest : Tokens) → IsColumnRule N ts x rest → length rest < length ts
  column_rule_shorter ts column_rule_of.NotNull rest h = behind_first h (past refl refl here)
  column_rule_shorter ts column_rule_of.PrimaryKey rest h = behind_first h (past refl refl here)
  column_rule_shorter ts column_rule_of.Unique rest h = behind_first h here
  column_rule_shorter ts (column_rule_of.Check x) rest h = behind_first h.1 (condition_in_parentheses.passes h.0 x rest h.2)
  column_rule_shorter ts (column_rule_of.References x) rest h = behind_first h.1.1 ((referenced_again {d = d}).passes h.1.0 x rest (h.0, h.1.2, h.2))

  -- [CONSTRAINT name] colrule
  column_constraint_again : Again ColumnConstraint d opens (column_constraint I) (IsColumnConstraint N)
  unfolding column_constraint
  column_constraint_again = made_again (λ x. record { name = x.0; rule = x.1 }) (λ x. (x.name, x.rule))
      (both_again constraint_name_again column_rule_again (λ ts x rest h stops. column_rule_begins N (is_word w.Constraint) refl refl refl refl refl ts x rest h))
      (λ ts x rest h. h) (λ x. refl)

  column_constraint_opened : Opened (Unit {0}) ColumnConstraint d opens definition_goes_on constraint_ahead (λ _. column_constraint I) (IsColumnConstraint N)
  column_constraint_opened = record {
    passes = column_constraint_again.passes;
    at = λ ts x rest h shallow stops.
        let ahead = name_or_rule_ahead N ts x.name h.0 x.rule rest h.1 h.2 in
        ((tt, ts), rw ahead refl, column_constraint_again.at ts x rest h shallow stops);
    begins = λ ts x rest h.
        maybe_begins IsName CONSTRAINT opens refl ts x.name h.0 h.1 (column_rule_begins N opens refl refl refl refl refl h.0 x.rule rest h.2);
    shorter = λ ts x rest h.
        let a = no_longer ((constraint_name_again {d = d}).passes ts x.name h.0 h.1) in
        let b = column_rule_shorter h.0 x.rule rest h.2 in
        omega arith;
    absent = λ rest h. no_constraint rest (stops_right opens constrains rest h);
    weaker = stops_left opens constrains;
  }

  -- name type {[CONSTRAINT name] colrule}
  column_definition_again : Again ColumnDefinition d definition_goes_on (column_definition I) (IsColumnDefinition N)
  unfolding column_definition
  column_definition_again = made_again (λ x. record { column = x.0; type_name = x.1.0; constraints = x.1.1 }) (λ x. (x.column, (x.type_name, x.constraints)))
      (both_again name_again (both_again type_name_again (many_again column_constraint_opened) (λ ts x rest h stops. nothing_stops ts)) (λ ts x rest h stops. nothing_stops ts))
      (λ ts x rest h. h) (λ x. refl)

  -- ---- the rules of a table

  key_columns_again : Again (List (List ℕ)) d never (after (word w.Key) (parenthesized names)) (KEY ⊳ Parenthesized AreNames)
  key_columns_again = after_word_again w.Key names_in_parentheses

  table_rule_passes : (ts : Tokens) (x : TableRule) (rest : Tokens) → IsTableRule N ts x rest → Passes ts rest
  table_rule_passes ts (table_rule_of.PrimaryKey x) rest h = onward (one refl refl h.1) (key_columns_again.passes h.0 x rest h.2)
  table_rule_passes ts (table_rule_of.Unique x) rest h = onward (one refl refl h.1) ((names_in_parentheses {d = d}).passes h.0 x rest h.2)
  table_rule_passes ts (table_rule_of.Check x) rest h = check_again.passes ts x rest h
  table_rule_passes ts (table_rule_of.ForeignKey x) rest h =
      onward (one refl refl h.1.1) ((foreign_key_again {d = d}).passes h.1.0 x rest (h.1.2.0, h.1.2.1, (h.0, h.1.2.2, h.2)))

  table_rule_at : (ts : Tokens) (x : TableRule) (rest : Tokens) → IsTableRule N ts x rest → is_shallow ts d ≡ true → Stops opens rest
      → table_rule I ts ≡ Some (x, rest)
  unfolding table_rule
  table_rule_at ts (table_rule_of.PrimaryKey x) rest h shallow stops =
      let read = key_columns_again.at h.0 x rest h.2 (shallow_after (one refl refl h.1) d shallow) (nothing_stops rest) in
      rw (this_word w.Primary h.1) (made_read table_rule_of.PrimaryKey (after (word w.Key) (parenthesized names)) h.0 x rest read)
  table_rule_at ts (table_rule_of.Unique x) rest h shallow stops =
      let read = (names_in_parentheses {d = d}).at h.0 x rest h.2 (shallow_after (one refl refl h.1) d shallow) (nothing_stops rest) in
      rw (other_word w.Primary refl h.1, this_word w.Unique h.1) (made_read table_rule_of.Unique (parenthesized names) h.0 x rest read)
  table_rule_at ts (table_rule_of.Check x) rest h shallow stops =
      let read = check_again.at ts x rest h shallow (nothing_stops rest) in
      rw (other_word w.Primary refl h.1, other_word w.Unique refl h.1, other_word w.Foreign refl h.1) (made_read table_rule_of.Check (check I) ts x rest read)
  table_rule_at ts (table_rule_of.ForeignKey x) rest h shallow stops =
      let read = foreign_key_again.at h.1.0 x rest (h.1.2.0, h.1.2.1, (h.0, h.1.2.2, h.2)) (shallow_after (one refl refl h.1.1) d shallow) stops in
      rw (other_word w.Primary refl h.1.1, other_word w.Unique refl h.1.1, this_word w.Foreign h.1.1) (made_read table_rule_of.ForeignKey foreign_key h.1.0 x rest read)

  table_rule_again : Again TableRule d opens (table_rule I) (IsTableRule N)
  table_rule_again = record { passes = table_rule_passes; at = table_rule_at }

  -- [CONSTRAINT name] tabrule
  table_constraint_again : Again TableConstraint d opens (table_constraint I) (IsTableConstraint N)
  unfolding table_constraint
  table_constraint_again = made_again (λ x. record { name = x.0; rule = x.1 }) (λ x. (x.name, x.rule))
      (both_again constraint_name_again table_rule_again (λ ts x rest h stops. table_rule_begins N (is_word w.Constraint) refl refl refl refl ts x rest h))
      (λ ts x rest h. h) (λ x. refl)

  element_passes : (ts : Tokens) (x : TableElement) (rest : Tokens) → IsTableElement N ts x rest → Passes ts rest
  element_passes ts (element_of.Column x) rest h = column_definition_again.passes ts x rest h
  element_passes ts (element_of.Constraint x) rest h = table_constraint_again.passes ts x rest h

  element_at : (ts : Tokens) (x : TableElement) (rest : Tokens) → IsTableElement N ts x rest → is_shallow ts d ≡ true → Stops definition_goes_on rest
      → element I ts ≡ Some (x, rest)
  unfolding element
  element_at ts (element_of.Column x) rest h shallow stops =
      let begins : next_is is_name ts ≡ true = rw h.1 refl in
      rw begins (made_read element_of.Column (column_definition I) ts x rest (column_definition_again.at ts x rest h shallow stops))
  element_at ts (element_of.Constraint x) rest h shallow stops =
      let begins = maybe_begins IsName CONSTRAINT is_name refl ts x.name h.0 h.1 (table_rule_begins N is_name refl refl refl refl h.0 x.rule rest h.2) in
      rw begins (made_read element_of.Constraint (table_constraint I) ts x rest (table_constraint_again.at ts x rest h shallow (stops_left opens constrains rest stops)))

  element_again : Again TableElement d definition_goes_on (element I) (IsTableElement N)
  element_again = record { passes = element_passes; at = element_at }

  pub elements_again : Again (List TableElement) d (or (is_symbol s.Comma) definition_goes_on) (listed (element I)) (Listed (IsTableElement N))
  elements_again = listed_again (or (is_symbol s.Comma) definition_goes_on) element_again refl refl (stops_right (is_symbol s.Comma) definition_goes_on)

  -- ---- what is stored

  stored_source_passes : (ts : Tokens) (x : StoredSource) (rest : Tokens) → IsStoredSource N ts x rest → Passes ts rest
  stored_source_passes ts stored.Null rest h = one refl refl h
  stored_source_passes ts (stored.Value x) rest h = ready.expression.passes ts x rest h

  stored_source_at : (ts : Tokens) (x : StoredSource) (rest : Tokens) → IsStoredSource N ts x rest → is_shallow ts d ≡ true
      → Stops expression_goes_on rest → stored_source I ts ≡ Some (x, rest)
  unfolding stored_source
  stored_source_at ts stored.Null rest h shallow stops = rw (this_word w.Null h) refl
  stored_source_at ts (stored.Value x) rest h shallow stops =
      let begins = no_word no_expression w.Null refl ts (ready.expression_begins ts x rest h) in
      rw begins (made_read stored.Value I.expression ts x rest (ready.expression.at ts x rest h shallow stops))

  stored_source_again : Again StoredSource d expression_goes_on (stored_source I) (IsStoredSource N)
  stored_source_again = record { passes = stored_source_passes; at = stored_source_at }

  -- ( source {, source} )
  row_again : Again (List StoredSource) d never (row_of_sources I) (IsRow N)
  unfolding row_of_sources stored_sources
  row_again =
      parenthesized_again never (inside refl (listed_again sources_go_on stored_source_again refl refl (stops_right (is_symbol s.Comma) expression_goes_on)))

  rows_again : Again (List (List StoredSource)) d (is_symbol s.Comma) (listed (row_of_sources I)) (Listed (IsRow N))
  rows_again = listed_again (is_symbol s.Comma) row_again refl refl (λ rest h. nothing_stops rest)

  insert_rows_passes : (ts : Tokens) (x : InsertRows) (rest : Tokens) → AreInsertRows N ts x rest → Passes ts rest
  insert_rows_passes ts (rows_of.Values x) rest h = onward (one refl refl h.1) (rows_again.passes h.0 x rest h.2)
  insert_rows_passes ts (rows_of.Query x) rest h = ready.query.passes ts x rest h

  insert_rows_at : (ts : Tokens) (x : InsertRows) (rest : Tokens) → AreInsertRows N ts x rest → is_shallow ts d ≡ true → Stops rows_go_on rest
      → insert_rows I ts ≡ Some (x, rest)
  unfolding insert_rows
  insert_rows_at ts (rows_of.Values x) rest h shallow stops =
      let read = rows_again.at h.0 x rest h.2 (shallow_after (one refl refl h.1) d shallow) (stops_left (is_symbol s.Comma) query_goes_on rest stops) in
      rw (this_word w.Values h.1) (made_read rows_of.Values (listed (row_of_sources I)) h.0 x rest read)
  insert_rows_at ts (rows_of.Query x) rest h shallow stops =
      let begins = no_word no_query w.Values refl ts (ready.query_begins ts x rest h) in
      rw begins (made_read rows_of.Query I.query ts x rest (ready.query.at ts x rest h shallow (stops_right (is_symbol s.Comma) query_goes_on rest stops)))

  -- what is inserted does not look like the names of columns
  no_names_ahead : (ts : Tokens) (x : InsertRows) (rest : Tokens) → AreInsertRows N ts x rest → opens_names ts ≡ false
  no_names_ahead ts (rows_of.Values x) rest h = rw h.1 refl
  no_names_ahead ts (rows_of.Query x) rest h = ready.query_names ts x rest h

  insert_columns_at : (ts : Tokens) (x : List (List ℕ)) (rest : Tokens) → MaybeListed (Parenthesized AreNames) ts x rest → is_shallow ts d ≡ true
      → opens_names rest ≡ false
      → insert_columns ts ≡ Some (x, rest)
  unfolding insert_columns
  insert_columns_at ts [] rest h shallow ahead = rw (h, ahead) refl
  insert_columns_at ts (x ∷ xs) rest h shallow ahead =
      let begins : opens_names ts ≡ true = rw (h.1, h.2.1) refl in
      rw begins ((names_in_parentheses {d = d}).at ts (x ∷ xs) rest h shallow (nothing_stops rest))

  -- [( names )] and what is inserted
  pub columns_and_rows_again : Again (List (List ℕ) × InsertRows) d rows_go_on (both insert_columns (insert_rows I)) (MaybeListed (Parenthesized AreNames) ⨾ AreInsertRows N)
  columns_and_rows_again = record {
    passes = λ ts x rest h. onward (listed_names_passes ts x.0 h.0 h.1) (insert_rows_passes h.0 x.1 rest h.2);
    at = λ ts x rest h shallow stops.
        let a = insert_columns_at ts x.0 h.0 h.1 shallow (no_names_ahead h.0 x.1 rest h.2) in
        let b = insert_rows_at h.0 x.1 rest h.2 (shallow_after (listed_names_passes ts x.0 h.0 h.1) d shallow) stops in
        rw (a, b) refl;
  }

  -- name = source
  assignment_again : Again Assignment d expression_goes_on (assignment I) (IsAssignment N)
  unfolding assignment
  assignment_again = made_again (λ x. record { column = x.0; source = x.1 }) (λ x. (x.column, x.source))
      (both_again name_again (after_symbol_again s.Equal refl refl stored_source_again) (λ ts x rest h stops. nothing_stops ts))
      (λ ts x rest h. h) (λ x. refl)

  -- name = source {, name = source} [WHERE cond]
  pub assigned_again : Again (List Assignment × Option Condition) d assigned_goes_on (both (listed (assignment I)) (filter I)) (Listed (IsAssignment N) ⨾ IsFilter N)
  assigned_again = both_again (listed_again sources_go_on assignment_again refl refl (stops_right (is_symbol s.Comma) expression_goes_on))
      (widen assigned_goes_on (stops_right sources_go_on filter_goes_on) filter_again)
      (λ ts x rest h stops. maybe_begins N.condition WHERE sources_go_on refl ts x rest h (stops_left sources_go_on filter_goes_on rest stops))
