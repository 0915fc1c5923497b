-- Queries: what is read is in the grammar.
use Rattle.std.proofs.Common.{◌≡◌, ℕ, Bool, true, false, cond, List, [], ◌∷◌, Option, Some, None, refl}
use Rattle.lexer.specs.declared.kinds.Symbol.TheVariants as s
use Rattle.lexer.specs.declared.words.Word.TheVariants as w
use Rattle.ast.specs.declared.operator.Column.{Column}
use Rattle.ast.specs.declared.operator.SetOperator.{SetOperator}
use Rattle.ast.specs.declared.tree.Addend.{Addend, roll-Addend, out-Addend}
use Rattle.ast.specs.declared.tree.Condition.{Condition}
use Rattle.ast.specs.declared.tree.Expression.{Expression}
use Rattle.ast.specs.declared.tree.Join.{Join}
use Rattle.ast.specs.declared.tree.Join.TheVariants as join_of
use Rattle.ast.specs.declared.tree.Join.TheVariants.{outs-Cross, outs-Inner, outs-Left}
use Rattle.ast.specs.declared.tree.Operand.{Operand}
use Rattle.ast.specs.declared.tree.Operand.TheVariants as operand_of
use Rattle.ast.specs.declared.tree.Operand.TheVariants.{outs-Select, outs-Grouped}
use Rattle.ast.specs.declared.tree.Query.{Query, roll-Query, out-roll-Query}
use Rattle.ast.specs.declared.tree.Select.{Select, roll-Select, out-roll-Select}
use Rattle.ast.specs.declared.tree.SelectItem.{SelectItem, roll-SelectItem, out-roll-SelectItem}
use Rattle.ast.specs.declared.tree.TableReference.{TableReference, roll-TableReference}
use Rattle.ast.specs.declared.tree.TableSource.{TableSource}
use Rattle.ast.specs.declared.tree.TableSource.TheVariants as source_of
use Rattle.ast.specs.declared.tree.TableSource.TheVariants.{outs-Table, outs-Derived}
use Rattle.ast.specs.Notation.{Tokens, Rule, ◌⨾◌, ◌⊳◌, Listed}
use Rattle.ast.specs.Expressions.{Within, Nested, Chain, IsCondition}
use Rattle.ast.specs.Queries.{is_lone, IsTableSource, IsJoin, IsTableReference, IsSelectItem, AreSelectItems, IsFilter, AreGroups, IsHaving, IsSelect, IsOperand, IsAddend, IsQuery}
use Rattle.ast.specs.Terminals.{IsSetOperator}
use Rattle.ast.specs.Words.{CROSS, FROM, JOIN, LEFT, ON}
use Rattle.parse_expressions.specs.declared.clauses.Clauses.{Clauses}
use Rattle.parse_terminals.specs.Readers.{next_is, is_symbol, both, many}
use Rattle.parse_terminals.specs.ReadTerminals.{set_operator}
use Rattle.parse_expressions.specs.ReadExpressions.{Inner}
use Rattle.parse_expressions.specs.ReadQueries.{begins_join, join_ahead, table_source, on, joined, crossed, left, inner_join, join, table_reference, select_item, select_items, filter, groups, having, clauses, tables, selected, select, operand, intersected, addend, united, query}
use Rattle.parser.proofs.Steps.{bind_some, found}
use Rattle.parser.proofs.Sound.{Sound, both_sound, after_word_sound, parenthesized_sound, made_sound, written_sound, optional_sound, maybe_sound, maybe_listed_sound, by_word, by_operator, by_look, many_sound, chain_sound, listed_sound, either_sound, next_sound, word_then, symbol_is}
use Rattle.parser.proofs.SoundTerminals.{name_sound, quantifier_sound, set_operator_sound, intersect_sound, column_sound, alias_sound, may_alias_sound}
use Rattle.parser.proofs.SoundExpressions.{expression_sound, condition_sound}

join_stays : (ts : Tokens) (o : Unit {0} × Tokens) → join_ahead ts ≡ Some o → o.1 ≡ ts
join_stays ts o e = elim (begins_join ts) as (λ b. cond b (Some (tt, ts)) None ≡ Some o → o.1 ≡ ts) [ true ↦ λ h. cc | false ↦ λ h. cc ] e

module _ (limit : Option ℕ) (some : Within limit 0) (I : Inner) (N : Nested)
    (e : Sound Expression I.expression N.expression) (c : Sound Condition I.condition N.condition) (q : Sound Query I.query N.query) where
  table_source_sound : Sound TableSource (table_source limit I) (IsTableSource limit N)
  unfolding table_source
  table_source_sound = either_sound (next_is (is_symbol s.LeftParenthesis))
      (made_sound (IsTableSource limit N) (λ x. source_of.Derived x.0 x.1) (both_sound (parenthesized_sound q) alias_sound) (λ ts x rest h. record { is = rw outs-Derived h }))
      (made_sound (IsTableSource limit N) (λ x. source_of.Table x.0 x.1) (both_sound name_sound may_alias_sound) (λ ts x rest h. record { is = rw outs-Table h }))

  on_sound : Sound Condition (on limit I) (ON ⊳ IsCondition limit N)
  unfolding on
  on_sound = after_word_sound w.On (condition_sound limit some I N e c q)

  joined_sound : Sound (TableSource × Condition) (joined limit I) (JOIN ⊳ (IsTableSource limit N ⨾ ON ⊳ IsCondition limit N))
  unfolding joined
  joined_sound = after_word_sound w.Join (both_sound table_source_sound on_sound)

  crossed_sound : Sound Join (crossed limit I) (λ ts x rest. (t : Tokens) → t ≡ CROSS ∷ ts → IsJoin limit N t x rest)
  unfolding crossed
  crossed_sound = made_sound _ join_of.Cross (after_word_sound w.Join table_source_sound) (λ ts x rest h t o. record { is = rw outs-Cross (ts, o, h) })

  left_sound : Sound Join (left limit I) (λ ts x rest. (t : Tokens) → t ≡ LEFT ∷ ts → IsJoin limit N t x rest)
  unfolding left
  left_sound = made_sound _ (λ x. join_of.Left x.0 x.1.0 x.1.1) (both_sound (written_sound w.Outer) joined_sound)
      (λ ts x rest h t o. record { is = rw outs-Left (h.0, (ts, o, h.1), (h.2.2.0, (h.2.0, h.2.1, h.2.2.1), h.2.2.2)) })

  inner_join_sound : Sound Join (inner_join limit I) (IsJoin limit N)
  unfolding inner_join
  inner_join_sound = made_sound (IsJoin limit N) (λ x. join_of.Inner x.0 x.1.0 x.1.1) (both_sound (written_sound w.Inner) joined_sound)
      (λ ts x rest h. record { is = rw outs-Inner (h.0, h.1, (h.2.2.0, (h.2.0, h.2.1, h.2.2.1), h.2.2.2)) })

  join_sound : Sound Join (join limit I) (IsJoin limit N)
  unfolding join
  join_sound = next_sound (word_then w.Cross (IsJoin limit N) (λ ts x f. crossed_sound.at ts x f _ refl))
      (next_sound (word_then w.Left (IsJoin limit N) (λ ts x f. left_sound.at ts x f _ refl)) inner_join_sound)

  table_reference_sound : Sound TableReference (table_reference limit I) (IsTableReference limit N)
  unfolding table_reference
  table_reference_sound = made_sound (IsTableReference limit N) (λ x. roll-TableReference (record { first = x.0; joins = x.1 }))
      (both_sound table_source_sound (many_sound (by_look join_ahead join_stays join_sound))) (λ ts x rest h. record { is = h })

  select_item_sound : Sound SelectItem (select_item limit I) (IsSelectItem limit N)
  unfolding select_item
  select_item_sound = made_sound (IsSelectItem limit N) (λ x. roll-SelectItem (record { value = x.0; alias = x.1 }))
      (both_sound (expression_sound limit some I N e c q) may_alias_sound) (λ ts x rest h. record { is = rw out-roll-SelectItem h })

  select_items_sound : Sound (Option (List SelectItem)) (select_items limit I) (AreSelectItems limit N)
  unfolding select_items
  select_items_sound = next_sound (symbol_is s.Asterisk None (AreSelectItems limit N) (λ rest. refl))
      (made_sound (AreSelectItems limit N) Some (listed_sound select_item_sound) (λ ts x rest h. h))

  filter_sound : Sound (Option Condition) (filter limit I) (IsFilter limit N)
  unfolding filter
  filter_sound = maybe_sound (by_word w.Where (condition_sound limit some I N e c q))

  groups_sound : Sound (List Column) (groups limit I) (AreGroups limit N)
  unfolding groups
  groups_sound = maybe_listed_sound (by_word w.Group (after_word_sound w.By (listed_sound column_sound))) (λ ts rest h. h.2.2)

  having_sound : Sound (Option Condition) (having limit I) (IsHaving limit N)
  unfolding having
  having_sound = maybe_sound (by_word w.Having (condition_sound limit some I N e c q))

  abbrev AreClauses : Rule Clauses
  AreClauses ts x rest = (IsFilter limit N ⨾ AreGroups limit N ⨾ IsHaving limit N) ts (x.filter, (x.groups, x.having)) rest

  clauses_sound : Sound Clauses (clauses limit I) AreClauses
  unfolding clauses
  clauses_sound = made_sound AreClauses (λ x. record { filter = x.0; groups = x.1.0; having = x.1.1 }) (both_sound filter_sound (both_sound groups_sound having_sound)) (λ ts x rest h. h)

  tables_sound : Sound (List TableReference × Clauses) (tables limit I) (Listed (IsTableReference limit N) ⨾ AreClauses)
  unfolding tables
  tables_sound = both_sound (listed_sound table_reference_sound) clauses_sound

  selected_sound : Sound (Option (List SelectItem) × (List TableReference × Clauses)) (selected limit I)
      (AreSelectItems limit N ⨾ FROM ⊳ (Listed (IsTableReference limit N) ⨾ AreClauses))
  unfolding selected
  selected_sound = both_sound select_items_sound (after_word_sound w.From tables_sound)

  select_sound : Sound Select (select limit I) (IsSelect limit N)
  unfolding select
  select_sound = made_sound (IsSelect limit N)
      (λ x. roll-Select (record { quantifier = x.0; items = x.1.0; from = x.1.1.0; filter = x.1.1.1.filter; groups = x.1.1.1.groups; having = x.1.1.1.having }))
      (after_word_sound w.Select (both_sound (optional_sound quantifier_sound) selected_sound))
      (λ ts x rest h. record {
        is = rw out-roll-Select
            (h.2.0, (h.0, h.1, h.2.1), (h.2.2.0, h.2.2.1, (h.2.2.2.2.0, (h.2.2.2.0, h.2.2.2.1, h.2.2.2.2.1), h.2.2.2.2.2)));
      })

  operand_sound : Sound Operand (operand limit I) (IsOperand limit N)
  unfolding operand
  operand_sound = either_sound (next_is (is_symbol s.LeftParenthesis))
      (made_sound (IsOperand limit N) operand_of.Grouped (parenthesized_sound q) (λ ts x rest h. record { is = rw outs-Grouped h }))
      (made_sound (IsOperand limit N) operand_of.Select select_sound (λ ts x rest h. record { is = rw outs-Select h }))

  intersected_sound : (all : Bool) → Sound (Bool × Operand) (intersected limit I all) (λ ts x rest. (x.0 ≡ all) × IsOperand limit N ts x.1 rest)
  unfolding intersected
  intersected_sound all = made_sound _ (λ x. (all, x)) operand_sound (λ ts x rest h. (refl, h))

  addend_sound : Sound Addend (addend limit I) (IsAddend limit N)
  unfolding addend
  addend_sound = made_sound (IsAddend limit N) (λ x. roll-Addend (record { first = x.0; others = x.1 }))
      (chain_sound limit some operand_sound (by_operator (IsOperand limit N) intersect_sound intersected_sound)) (λ ts x rest h. record { is = h })

  united_sound : (o : SetOperator) → Sound (SetOperator × Addend) (united limit I o) (λ ts x rest. (x.0 ≡ o) × IsAddend limit N ts x.1 rest)
  unfolding united
  united_sound o = made_sound _ (λ x. (o, x)) addend_sound (λ ts x rest h. (refl, h))

  summed : Sound (Addend × List (SetOperator × Addend)) (both (addend limit I) (many limit set_operator (united limit I) [])) (Chain limit (IsAddend limit N) (IsSetOperator ⨾ IsAddend limit N))
  summed = chain_sound limit some addend_sound (by_operator (IsAddend limit N) set_operator_sound united_sound)

  pub query_sound : Sound Query (query limit I) (IsQuery limit N)
  unfolding query
  query_sound = record {
    at = λ ts x f.
        let a = bind_some (both (addend limit I) (many limit set_operator (united limit I) []) ts) _ x f in
        let tree = roll-Query (record { first = a.0.0.0; others = a.0.0.1 }) in
        let h = summed.at ts a.0 a.1 in
        elim (is_lone (out-Addend a.0.0.0).first (out-Addend a.0.0.0).others a.0.0.1) as (λ b. is_lone (out-Addend a.0.0.0).first (out-Addend a.0.0.0).others a.0.0.1 ≡ b
        → cond b None (Some (tree, a.0.1)) ≡ Some x → IsQuery limit N ts x.0 x.1) [
          | true ↦ λ l g. cc
          | false ↦ λ l g. found (λ y. IsQuery limit N ts y.0 y.1) (tree, a.0.1) x g (record { is = rw out-roll-Query h; not_lone = rw out-roll-Query l })
        ] refl a.2;
  }
