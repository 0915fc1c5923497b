-- Statements: what is read is in the grammar.
use Rattle.std.proofs.Common.{◌≡◌, ℕ, List, ◌∷◌, Option, Some, None, refl, ap, ◌∙◌}
use Rattle.lexer.specs.declared.kinds.Kind.{Kind}
use Rattle.lexer.specs.declared.kinds.Symbol.TheVariants as s
use Rattle.lexer.specs.declared.words.Word.TheVariants as w
use Rattle.ast.specs.declared.operator.Direction.{Direction}
use Rattle.ast.specs.declared.operator.Direction.TheVariants as direction_of
use Rattle.ast.specs.declared.statement.AccessMode.{AccessMode}
use Rattle.ast.specs.declared.statement.AccessMode.TheVariants as mode
use Rattle.ast.specs.declared.statement.Assignment.{Assignment}
use Rattle.ast.specs.declared.statement.ColumnConstraint.{ColumnConstraint}
use Rattle.ast.specs.declared.statement.ColumnDefinition.{ColumnDefinition}
use Rattle.ast.specs.declared.statement.ColumnRule.{ColumnRule}
use Rattle.ast.specs.declared.statement.ColumnRule.TheVariants as column_rule_of
use Rattle.ast.specs.declared.statement.ForeignKey.{ForeignKey}
use Rattle.ast.specs.declared.statement.InsertRows.{InsertRows}
use Rattle.ast.specs.declared.statement.InsertRows.TheVariants as rows_of
use Rattle.ast.specs.declared.statement.OrderedQuery.{OrderedQuery}
use Rattle.ast.specs.declared.statement.References.{References}
use Rattle.ast.specs.declared.statement.SortColumn.{SortColumn}
use Rattle.ast.specs.declared.statement.SortColumn.TheVariants as sort_column_of
use Rattle.ast.specs.declared.statement.SortKey.{SortKey}
use Rattle.ast.specs.declared.statement.Statement.{Statement}
use Rattle.ast.specs.declared.statement.Statement.TheVariants as statement_of
use Rattle.ast.specs.declared.statement.StoredSource.{StoredSource}
use Rattle.ast.specs.declared.statement.StoredSource.TheVariants as stored
use Rattle.ast.specs.declared.statement.TableConstraint.{TableConstraint}
use Rattle.ast.specs.declared.statement.TableElement.{TableElement}
use Rattle.ast.specs.declared.statement.TableElement.TheVariants as element_of
use Rattle.ast.specs.declared.statement.TableRule.{TableRule}
use Rattle.ast.specs.declared.statement.TableRule.TheVariants as table_rule_of
use Rattle.ast.specs.declared.statement.TypeName.{TypeName}
use Rattle.ast.specs.declared.statement.TypeName.TheVariants as type_of
use Rattle.ast.specs.declared.tree.Condition.{Condition}
use Rattle.ast.specs.declared.tree.Expression.{Expression}
use Rattle.ast.specs.declared.tree.Query.{Query}
use Rattle.ast.specs.Notation.{Tokens, Rule, ◌⨾◌, ◌⊳◌, Parenthesized, Listed, MaybeListed}
use Rattle.ast.specs.Expressions.{Nested}
use Rattle.ast.specs.Terminals.{IsName}
use Rattle.ast.specs.Statements.{AreNames, IsSortColumn, IsDirection, IsSortKey, IsOrder, IsTypeName, IsConstraintName, AreReferences, IsForeignKey, IsOrderedQuery, IsFilter, IsColumnRule, IsColumnConstraint, IsColumnDefinition, IsTableRule, IsTableConstraint, IsTableElement, IsStoredSource, IsRow, AreInsertRows, IsAssignment, IsAccessMode, IsStatement}
use Rattle.ast.specs.Words.{CHARACTER, CHECK, CREATE, CURSOR, DECLARE, DELETE, DROP, FOR, FOREIGN, INDEX, INSERT, NOT, ON, PRIMARY, READ, REFERENCES, SET, TABLE, UNIQUE, UPDATE, VALUES}
use Rattle.parse_terminals.specs.Readers.{Reader, next_is, is_symbol, word, after, made}
use Rattle.parse_terminals.specs.ReadTerminals.{is_name, is_number, sort_column, direction, sort_key}
use Rattle.parse_expressions.specs.ReadExpressions.{Inner}
use Rattle.parse_statements.specs.ReadStatements.{names, order, varying, text_type, type_name, constraint_name, constraint_ahead, begins_constraint, listed_names, referenced, foreign_key, ordered_query, filter, check, column_rule, column_constraint, column_definition, table_rule, table_constraint, element, create_table, indexed_columns, indexed, create_index, create, drop, stored_source, stored_sources, row_of_sources, insert_rows, opens_names, insert_columns, insert, assignment, assigned, update, delete, access_mode, set_transaction, cursor_query, declare_cursor, data_change, schema_change, transaction_control, cursor_control, begins_data_change, begins_schema_change, begins_transaction_control, begins_cursor_control, query_statement, statement}
use Rattle.parser.proofs.Steps.{bind_some, found, word_found}
use Rattle.parser.proofs.Sound.{Sound, both_sound, after_word_sound, after_symbol_sound, parenthesized_sound, made_sound, written_sound, optional_sound, maybe_sound, maybe_listed_sound, by_word, by_look, many_sound, listed_sound, either_sound, next_sound, none_sound, word_is, word_then, sound_to, filled_sound, empty_sound}
use Rattle.parser.proofs.SoundTerminals.{name_sound, number_sound}
use Rattle.std.proofs.Common.{true, false, cond}

names_sound : Sound (List (List ℕ)) names AreNames
names_sound = listed_sound name_sound

sort_column_sound : Sound SortColumn sort_column IsSortColumn
unfolding sort_column
sort_column_sound = either_sound (next_is is_number) (made_sound IsSortColumn sort_column_of.Position number_sound (λ ts x rest h. h)) (made_sound IsSortColumn sort_column_of.Named name_sound (λ ts x rest h. h))

direction_sound : Sound Direction direction IsDirection
direction_sound = next_sound (word_is w.Asc direction_of.Ascending IsDirection (λ rest. refl))
    (next_sound (word_is w.Desc direction_of.Descending IsDirection (λ rest. refl)) (none_sound IsDirection))

sort_key_sound : Sound SortKey sort_key IsSortKey
unfolding sort_key
sort_key_sound = made_sound IsSortKey (λ x. record { column = x.0; direction = x.1 }) (both_sound sort_column_sound (optional_sound direction_sound)) (λ ts x rest h. h)

order_sound : Sound (List SortKey) order (MaybeListed IsOrder)
unfolding order
order_sound = maybe_listed_sound (by_word w.Order (after_word_sound w.By (listed_sound sort_key_sound))) (λ ts rest h. h.2.2)

varying_sound : Sound TypeName varying (λ ts x rest. (t : Tokens) → t ≡ CHARACTER ∷ ts → IsTypeName t x rest)
unfolding varying
varying_sound = made_sound _ type_of.CharacterVarying (after_word_sound w.Varying (parenthesized_sound number_sound)) (λ ts x rest h t o. (ts, o, h))

text_type_sound : Sound TypeName text_type IsTypeName
unfolding text_type
text_type_sound = next_sound (word_then w.Character IsTypeName (λ ts x f. varying_sound.at ts x f _ refl))
    (made_sound IsTypeName type_of.Varchar (after_word_sound w.Varchar (parenthesized_sound number_sound)) (λ ts x rest h. h))

type_name_sound : Sound TypeName type_name IsTypeName
unfolding type_name
type_name_sound = next_sound (word_is w.Integer type_of.Integer IsTypeName (λ rest. refl)) (next_sound (word_is w.Int type_of.Int IsTypeName (λ rest. refl)) text_type_sound)

constraint_name_sound : Sound (Option (List ℕ)) constraint_name IsConstraintName
unfolding constraint_name
constraint_name_sound = maybe_sound (by_word w.Constraint name_sound)

constraint_stays : (ts : Tokens) (o : Unit {0} × Tokens) → constraint_ahead ts ≡ Some o → o.1 ≡ ts
constraint_stays ts o e = elim (begins_constraint ts) as (λ b. cond b (Some (tt, ts)) None ≡ Some o → o.1 ≡ ts) [ true ↦ λ h. cc | false ↦ λ h. cc ] e

-- two words that alone have this tree
two_words : {A : Type 0} (v u : Kind) (x : A) (S : Rule A) → ((rest : Tokens) → S (v ∷ u ∷ rest) x rest) → (ts : Tokens) (y : A × Tokens) (rest : Tokens) → ts ≡ u ∷ rest
    → Some (x, rest) ≡ Some y → S (v ∷ ts) y.0 y.1
two_words v u x S h ts y rest e f = found (λ z. S (v ∷ ts) z.0 z.1) (x, rest) y f (rw e (h rest))

insert_columns_sound : Sound (List (List ℕ)) insert_columns (MaybeListed (Parenthesized AreNames))
unfolding insert_columns
insert_columns_sound = either_sound opens_names (filled_sound (parenthesized_sound names_sound) (λ ts rest h. h.2)) (empty_sound (Parenthesized AreNames))

listed_names_sound : Sound (List (List ℕ)) listed_names (MaybeListed (Parenthesized AreNames))
unfolding listed_names
listed_names_sound = either_sound (next_is (is_symbol s.LeftParenthesis)) (filled_sound (parenthesized_sound names_sound) (λ ts rest h. h.2)) (empty_sound (Parenthesized AreNames))

referenced_sound : Sound References referenced (λ ts x rest. (t : Tokens) → t ≡ REFERENCES ∷ ts → AreReferences t x rest)
unfolding referenced
referenced_sound = made_sound _ (λ x. record { table = x.0; columns = x.1 }) (both_sound name_sound listed_names_sound) (λ ts x rest h t o. (h.0, (ts, o, h.1), h.2))

references_sound : Sound References (after (word w.References) referenced) AreReferences
references_sound = sound_to AreReferences (after_word_sound w.References referenced_sound) (λ ts x rest h. h.2 ts h.1)

foreign_key_sound : Sound ForeignKey foreign_key (λ ts x rest. (t : Tokens) → t ≡ FOREIGN ∷ ts → IsForeignKey t x rest)
unfolding foreign_key
foreign_key_sound = made_sound _ (λ x. record { columns = x.0; references = x.1 }) (after_word_sound w.Key (both_sound (parenthesized_sound names_sound) references_sound))
    (λ ts x rest h t o. (h.2.0, (ts, o, (h.0, h.1, h.2.1)), h.2.2))

indexed_sound : Sound (List ℕ × List (List ℕ)) indexed (ON ⊳ (IsName ⨾ Parenthesized AreNames))
unfolding indexed indexed_columns
indexed_sound = after_word_sound w.On (both_sound name_sound (parenthesized_sound names_sound))

module _ (I : Inner) (N : Nested) (e : Sound Expression I.expression N.expression) (c : Sound Condition I.condition N.condition) (q : Sound Query I.query N.query) where
  -- behind a first word
  abbrev Behind : Kind → Rule Statement
  Behind v ts x rest = (t : Tokens) → t ≡ v ∷ ts → IsStatement N t x rest

  ordered_query_sound : Sound OrderedQuery (ordered_query I) (IsOrderedQuery N)
  unfolding ordered_query
  ordered_query_sound = made_sound (IsOrderedQuery N) (λ x. record { query = x.0; order = x.1 }) (both_sound q order_sound) (λ ts x rest h. h)

  filter_sound : Sound (Option Condition) (filter I) (IsFilter N)
  unfolding filter
  filter_sound = maybe_sound (by_word w.Where c)

  check_sound : Sound Condition (check I) (CHECK ⊳ Parenthesized N.condition)
  unfolding check
  check_sound = after_word_sound w.Check (parenthesized_sound c)

  column_rule_sound : Sound ColumnRule (column_rule I) (IsColumnRule N)
  unfolding column_rule
  column_rule_sound =
      next_sound (word_then w.Not (IsColumnRule N) (λ ts x f.
      let a = bind_some (word w.Null ts) (λ y. Some (column_rule_of.NotNull, y.1)) x f in
      found (λ y. IsColumnRule N (NOT ∷ ts) y.0 y.1) (column_rule_of.NotNull, a.0.1) x a.2 (ap (λ b. NOT ∷ b) (word_found w.Null ts a.0 a.1))))
      (next_sound (word_then w.Primary (IsColumnRule N) (λ ts x f.
      let a = bind_some (word w.Key ts) (λ y. Some (column_rule_of.PrimaryKey, y.1)) x f in
      found (λ y. IsColumnRule N (PRIMARY ∷ ts) y.0 y.1) (column_rule_of.PrimaryKey, a.0.1) x a.2 (ap (λ b. PRIMARY ∷ b) (word_found w.Key ts a.0 a.1))))
      (next_sound (word_is w.Unique column_rule_of.Unique (IsColumnRule N) (λ rest. refl))
      (next_sound (word_then w.References (IsColumnRule N) (λ ts x f. (made_sound (λ ts x rest. IsColumnRule N (REFERENCES ∷ ts) x rest) column_rule_of.References
      referenced_sound (λ ts x rest h. h (REFERENCES ∷ ts) refl)).at ts x f))
      (made_sound (IsColumnRule N) column_rule_of.Check check_sound (λ ts x rest h. h)))))

  column_constraint_sound : Sound ColumnConstraint (column_constraint I) (IsColumnConstraint N)
  unfolding column_constraint
  column_constraint_sound = made_sound (IsColumnConstraint N) (λ x. record { name = x.0; rule = x.1 }) (both_sound constraint_name_sound column_rule_sound) (λ ts x rest h. h)

  column_definition_sound : Sound ColumnDefinition (column_definition I) (IsColumnDefinition N)
  unfolding column_definition
  column_definition_sound = made_sound (IsColumnDefinition N) (λ x. record { column = x.0; type_name = x.1.0; constraints = x.1.1 })
      (both_sound name_sound (both_sound type_name_sound (many_sound (by_look constraint_ahead constraint_stays column_constraint_sound)))) (λ ts x rest h. h)

  table_rule_sound : Sound TableRule (table_rule I) (IsTableRule N)
  unfolding table_rule
  table_rule_sound =
      next_sound (word_then w.Primary (IsTableRule N) (λ ts x f. (made_sound (λ ts x rest. IsTableRule N (PRIMARY ∷ ts) x rest) table_rule_of.PrimaryKey
      (after_word_sound w.Key (parenthesized_sound names_sound)) (λ ts x rest h. (ts, refl, h))).at ts x f))
      (next_sound (word_then w.Unique (IsTableRule N) (λ ts x f. (made_sound (λ ts x rest. IsTableRule N (UNIQUE ∷ ts) x rest) table_rule_of.Unique
      (parenthesized_sound names_sound) (λ ts x rest h. (ts, refl, h))).at ts x f))
      (next_sound (word_then w.Foreign (IsTableRule N) (λ ts x f. (made_sound (λ ts x rest. IsTableRule N (FOREIGN ∷ ts) x rest) table_rule_of.ForeignKey
      foreign_key_sound (λ ts x rest h. h (FOREIGN ∷ ts) refl)).at ts x f))
      (made_sound (IsTableRule N) table_rule_of.Check check_sound (λ ts x rest h. h))))

  table_constraint_sound : Sound TableConstraint (table_constraint I) (IsTableConstraint N)
  unfolding table_constraint
  table_constraint_sound = made_sound (IsTableConstraint N) (λ x. record { name = x.0; rule = x.1 }) (both_sound constraint_name_sound table_rule_sound) (λ ts x rest h. h)

  element_sound : Sound TableElement (element I) (IsTableElement N)
  unfolding element
  element_sound = either_sound (next_is is_name) (made_sound (IsTableElement N) element_of.Column column_definition_sound (λ ts x rest h. h))
      (made_sound (IsTableElement N) element_of.Constraint table_constraint_sound (λ ts x rest h. h))

  create_table_sound : Sound Statement (create_table I) (λ ts x rest. (t : Tokens) → t ≡ CREATE ∷ TABLE ∷ ts → IsStatement N t x rest)
  unfolding create_table
  create_table_sound = made_sound _ (λ x. statement_of.CreateTable (record { table = x.0; elements = x.1 })) (both_sound name_sound (parenthesized_sound (listed_sound element_sound)))
      (λ ts x rest h t o. (h.0, (TABLE ∷ ts, o, (ts, refl, h.1)), h.2))

  create_index_sound : Sound Statement create_index (λ ts x rest. (t : Tokens) → t ≡ CREATE ∷ INDEX ∷ ts → IsStatement N t x rest)
  unfolding create_index
  create_index_sound = made_sound _ (λ x. statement_of.CreateIndex (record { index = x.0; table = x.1.0; columns = x.1.1 })) (both_sound name_sound indexed_sound)
      (λ ts x rest h t o. (h.0, (INDEX ∷ ts, o, (ts, refl, h.1)), (h.2.2.0, (h.2.0, h.2.1, h.2.2.1), h.2.2.2)))

  create_sound : Sound Statement (create I) (Behind CREATE)
  unfolding create
  create_sound = next_sound (word_then w.Table (Behind CREATE) (λ ts x f t o. create_table_sound.at ts x f t o))
      (sound_to (Behind CREATE) (after_word_sound w.Index create_index_sound) (λ ts x rest h t o. h.2 t (o ∙ ap (λ b. CREATE ∷ b) h.1)))

  drop_sound : Sound Statement drop (Behind DROP)
  unfolding drop
  drop_sound = next_sound
      (word_then w.Table (Behind DROP) (λ ts x f t o. (made_sound (λ ts x rest. (t : Tokens) → t ≡ DROP ∷ TABLE ∷ ts → IsStatement N t x rest) statement_of.DropTable name_sound
      (λ ts x rest h t o. (TABLE ∷ ts, o, (ts, refl, h)))).at ts x f t o))
      (made_sound (Behind DROP) statement_of.DropIndex (after_word_sound w.Index name_sound) (λ ts x rest h t o. (ts, o, h)))

  stored_source_sound : Sound StoredSource (stored_source I) (IsStoredSource N)
  unfolding stored_source
  stored_source_sound = next_sound (word_is w.Null stored.Null (IsStoredSource N) (λ rest. refl)) (made_sound (IsStoredSource N) stored.Value e (λ ts x rest h. h))

  row_sound : Sound (List StoredSource) (row_of_sources I) (IsRow N)
  unfolding row_of_sources stored_sources
  row_sound = parenthesized_sound (listed_sound stored_source_sound)

  insert_rows_sound : Sound InsertRows (insert_rows I) (AreInsertRows N)
  unfolding insert_rows
  insert_rows_sound = next_sound
      (word_then w.Values (AreInsertRows N) (λ ts x f. (made_sound (λ ts x rest. AreInsertRows N (VALUES ∷ ts) x rest) rows_of.Values (listed_sound row_sound) (λ ts x rest h. (ts, refl, h))).at ts x f))
      (made_sound (AreInsertRows N) rows_of.Query q (λ ts x rest h. h))

  insert_sound : Sound Statement (insert I) (Behind INSERT)
  unfolding insert
  insert_sound = made_sound (Behind INSERT) (λ x. statement_of.Insert (record { table = x.0; columns = x.1.0; rows = x.1.1 }))
      (after_word_sound w.Into (both_sound name_sound (both_sound insert_columns_sound insert_rows_sound)))
      (λ ts x rest h t o. (h.2.0, (ts, o, (h.0, h.1, h.2.1)), h.2.2))

  assignment_sound : Sound Assignment (assignment I) (IsAssignment N)
  unfolding assignment
  assignment_sound = made_sound (IsAssignment N) (λ x. record { column = x.0; source = x.1 }) (both_sound name_sound (after_symbol_sound s.Equal stored_source_sound)) (λ ts x rest h. h)

  assigned_sound : Sound (List Assignment × Option Condition) (assigned I) (SET ⊳ (Listed (IsAssignment N) ⨾ IsFilter N))
  unfolding assigned
  assigned_sound = after_word_sound w.Set (both_sound (listed_sound assignment_sound) filter_sound)

  update_sound : Sound Statement (update I) (Behind UPDATE)
  unfolding update
  update_sound = made_sound (Behind UPDATE) (λ x. statement_of.Update (record { table = x.0; assignments = x.1.0; filter = x.1.1 })) (both_sound name_sound assigned_sound)
      (λ ts x rest h t o. (h.0, (ts, o, h.1), (h.2.2.0, (h.2.0, h.2.1, h.2.2.1), h.2.2.2)))

  delete_sound : Sound Statement (delete I) (Behind DELETE)
  unfolding delete
  delete_sound = made_sound (Behind DELETE) (λ x. statement_of.Delete (record { table = x.0; filter = x.1 })) (after_word_sound w.From (both_sound name_sound filter_sound))
      (λ ts x rest h t o. (h.2.0, (ts, o, (h.0, h.1, h.2.1)), h.2.2))

  access_mode_sound : Sound AccessMode access_mode (λ ts x rest. (t : Tokens) → t ≡ READ ∷ ts → IsAccessMode N t x rest)
  unfolding access_mode
  access_mode_sound = next_sound
      (word_then w.Only _ (λ ts x f t o. found (λ y. IsAccessMode N t y.0 y.1) (mode.ReadOnly, ts) x f o))
      (record {
        at = λ ts x f t o.
            let a = bind_some (word w.Write ts) (λ y. Some (mode.ReadWrite, y.1)) x f in
            found (λ y. IsAccessMode N t y.0 y.1) (mode.ReadWrite, a.0.1) x a.2 (o ∙ ap (λ b. READ ∷ b) (word_found w.Write ts a.0 a.1));
      })

  set_transaction_sound : Sound Statement set_transaction (Behind SET)
  unfolding set_transaction
  set_transaction_sound = made_sound (Behind SET) statement_of.SetTransaction (after_word_sound w.Transaction (after_word_sound w.Read access_mode_sound))
      (λ ts x rest h t o. (ts, o, (h.0, h.1, h.2.2 h.0 h.2.1)))

  cursor_query_sound : Sound OrderedQuery (cursor_query I) (CURSOR ⊳ FOR ⊳ IsOrderedQuery N)
  unfolding cursor_query
  cursor_query_sound = after_word_sound w.Cursor (after_word_sound w.For ordered_query_sound)

  declare_cursor_sound : Sound Statement (declare_cursor I) (Behind DECLARE)
  unfolding declare_cursor
  declare_cursor_sound = made_sound (Behind DECLARE) (λ x. statement_of.DeclareCursor (record { cursor = x.0; query = x.1 })) (both_sound name_sound cursor_query_sound)
      (λ ts x rest h t o. (h.0, (ts, o, h.1), h.2))

  data_change_sound : Sound Statement (data_change I) (IsStatement N)
  unfolding data_change
  data_change_sound = next_sound (word_then w.Insert (IsStatement N) (λ ts x f. insert_sound.at ts x f _ refl))
      (next_sound (word_then w.Update (IsStatement N) (λ ts x f. update_sound.at ts x f _ refl))
      (sound_to (IsStatement N) (after_word_sound w.Delete delete_sound) (λ ts x rest h. h.2 ts h.1)))

  schema_change_sound : Sound Statement (schema_change I) (IsStatement N)
  unfolding schema_change
  schema_change_sound = next_sound (word_then w.Create (IsStatement N) (λ ts x f. create_sound.at ts x f _ refl))
      (sound_to (IsStatement N) (after_word_sound w.Drop drop_sound) (λ ts x rest h. h.2 ts h.1))

  -- a first word, and what follows it
  led : {A : Type 0} {r : Reader A} {S : Rule A} (v : Kind) (f : A → Statement) → Sound A r S → ((ts : Tokens) (x : A) (rest : Tokens) → S ts x rest → IsStatement N (v ∷ ts) (f x) rest)
      → (ts : Tokens) (x : Statement × Tokens) → made f r ts ≡ Some x → IsStatement N (v ∷ ts) x.0 x.1
  led v f l h = (made_sound (λ ts x rest. IsStatement N (v ∷ ts) x rest) f l h).at

  transaction_control_sound : Sound Statement transaction_control (IsStatement N)
  unfolding transaction_control
  transaction_control_sound =
      next_sound (word_then w.Commit (IsStatement N) (led _ statement_of.Commit (written_sound w.Work) (λ ts x rest h. (ts, refl, h))))
      (next_sound (word_then w.Rollback (IsStatement N) (led _ statement_of.Rollback (written_sound w.Work) (λ ts x rest h. (ts, refl, h))))
      (sound_to (IsStatement N) (after_word_sound w.Set set_transaction_sound) (λ ts x rest h. h.2 ts h.1)))

  cursor_control_sound : Sound Statement (cursor_control I) (IsStatement N)
  unfolding cursor_control
  cursor_control_sound =
      next_sound (word_then w.Declare (IsStatement N) (λ ts x f. declare_cursor_sound.at ts x f _ refl))
      (next_sound (word_then w.Open (IsStatement N) (led _ statement_of.OpenCursor name_sound (λ ts x rest h. (ts, refl, h))))
      (next_sound (word_then w.Fetch (IsStatement N) (led _ statement_of.Fetch name_sound (λ ts x rest h. (ts, refl, h))))
      (made_sound (IsStatement N) statement_of.CloseCursor (after_word_sound w.Close name_sound) (λ ts x rest h. h))))

  query_statement_sound : Sound Statement (query_statement I) (IsStatement N)
  unfolding query_statement
  query_statement_sound = next_sound (word_then w.Explain (IsStatement N) (led _ statement_of.Explain ordered_query_sound (λ ts x rest h. (ts, refl, h))))
      (made_sound (IsStatement N) statement_of.Query ordered_query_sound (λ ts x rest h. h))

  pub statement_sound : Sound Statement (statement I) (IsStatement N)
  unfolding statement
  statement_sound = either_sound begins_data_change data_change_sound (either_sound begins_schema_change schema_change_sound
      (either_sound begins_transaction_control transaction_control_sound (either_sound begins_cursor_control cursor_control_sound query_statement_sound)))
