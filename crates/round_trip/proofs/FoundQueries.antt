-- Queries: each part is found in the tokens of the whole.
use Rattle.std.proofs.Common.{ℕ, zero, [], ◌∷◌, Option, Some, None, refl}
use Rattle.lexer.specs.declared.words.Word.TheVariants as w
use Rattle.ast.specs.declared.tree.Addend.{out-Addend}
use Rattle.ast.specs.declared.tree.Join.{Join-F, out-Join}
use Rattle.ast.specs.declared.tree.Operand.{Operand-F, out-Operand}
use Rattle.ast.specs.declared.tree.Query.{out-Query}
use Rattle.ast.specs.declared.tree.Select.{out-Select}
use Rattle.ast.specs.declared.tree.SelectItem.{out-SelectItem}
use Rattle.ast.specs.declared.tree.TableReference.{out-TableReference}
use Rattle.ast.specs.declared.tree.TableSource.{TableSource-F, out-TableSource}
use Rattle.ast.specs.Expressions.{Nested}
use Rattle.ast.specs.Grammar.{nested_at}
use Rattle.ast.specs.Layers.{JoinLayer, OperandLayer, TableSourceLayer}
use Rattle.ast.specs.Notation.{Tokens, Maybe}
use Rattle.ast.specs.Queries.{IsTableSource, IsTableSourceLayer, IsJoin, IsJoinLayer, IsTableReference, IsSelectItem, AreSelectItems, AreGroups, IsSelect, IsOperand, IsOperandLayer, IsAddend, IsQuery}
use Rattle.ast.specs.Terminals.{IsAlias}
use Rattle.ast.specs.Words.{BY, CROSS, FROM, GROUP, HAVING, INTERSECT, JOIN, LEFT, ON, SELECT, WHERE}
use Rattle.parser.proofs.Again.{maybe_passes}
use Rattle.parser.proofs.AgainTerminals.{alias_again, column_again, name_again, set_operator_again}
use Rattle.parser.proofs.Passes.{one}
use Rattle.ast.specs.Parts.{query, addend, operand, select, select_item, table_reference, join, table_source, parts, join_parts, operand_parts, selected_parts, table_source_parts}
use Rattle.round_trip.proofs.Found.{Holding, Holds, no_node, nothing, a_node, both, after, parenthesized, of, maybe, maybe_listed, each, each_listed, nothing_listed, chain}
use Rattle.round_trip.proofs.FoundExpressions.{Inner, may_be, may_quantify, an_expression, a_condition}

alias : {limit : Option ℕ} → Holds limit IsAlias (λ _. [])
alias = nothing (alias_again {d = zero}).passes

may_alias : {limit : Option ℕ} → Holds limit (Maybe IsAlias) (λ _. [])
may_alias = nothing (maybe_passes IsAlias (alias_again {d = zero}).passes)

groups : {limit : Option ℕ} (inner : Nested) → Holds limit (AreGroups limit inner) (λ _. [])
groups inner = maybe_listed (after GROUP refl refl (after BY refl refl (nothing_listed (nothing (column_again {d = zero}).passes))))

module _ (limit : Option ℕ) (depth : ℕ) (inner : Inner limit (nested_at limit depth)) where
  abbrev N : Nested
  N = nested_at limit depth

  -- ---- tables

  table_source_holds : (ts : Tokens) (x : TableSourceLayer) (rest : Tokens) → IsTableSourceLayer limit N ts x rest → Holding limit ts (table_source_parts x) rest
  table_source_holds ts (TableSource-F.Table x named) rest h = (both (nothing (name_again {d = zero}).passes) may_alias).at ts (x, named) rest h
  table_source_holds ts (TableSource-F.Derived x named) rest h = (both (parenthesized inner.query) alias).at ts (x, named) rest h

  pub table_source_parts_found : Holds limit (IsTableSource limit N) (λ x. parts (table_source x))
  table_source_parts_found = record { at = λ ts x rest h. table_source_holds ts (out-TableSource x) rest h.is }

  a_table_source : Holds limit (IsTableSource limit N) (λ x. table_source x ∷ [])
  a_table_source = a_node depth table_source (λ ts x rest h. h) table_source_parts_found

  join_holds : (ts : Tokens) (x : JoinLayer) (rest : Tokens) → IsJoinLayer limit N ts x rest → Holding limit ts (join_parts x) rest
  join_holds ts (Join-F.Cross x) rest h = (after CROSS refl refl (after JOIN refl refl a_table_source)).at ts x rest h
  join_holds ts (Join-F.Inner b x on) rest h =
      (both (may_be w.Inner) (both (after JOIN refl refl a_table_source) (after ON refl refl (a_condition limit depth inner)))).at ts (b, (x, on)) rest h
  join_holds ts (Join-F.Left b x on) rest h =
      (both (after LEFT refl refl (may_be w.Outer)) (both (after JOIN refl refl a_table_source) (after ON refl refl (a_condition limit depth inner)))).at ts (b, (x, on)) rest h

  pub join_parts_found : Holds limit (IsJoin limit N) (λ x. parts (join x))
  join_parts_found = record { at = λ ts x rest h. join_holds ts (out-Join x) rest h.is }

  a_join : Holds limit (IsJoin limit N) (λ x. join x ∷ [])
  a_join = a_node depth join (λ ts x rest h. h) join_parts_found

  pub table_reference_parts_found : Holds limit (IsTableReference limit N) (λ x. parts (table_reference x))
  table_reference_parts_found = of (IsTableReference limit N) (λ x. ((out-TableReference x).first, (out-TableReference x).joins)) (λ ts x rest h. h.is) (both a_table_source (each a_join))

  a_table_reference : Holds limit (IsTableReference limit N) (λ x. table_reference x ∷ [])
  a_table_reference = a_node depth table_reference (λ ts x rest h. h) table_reference_parts_found

  -- ---- SELECT

  pub select_item_parts_found : Holds limit (IsSelectItem limit N) (λ x. parts (select_item x))
  select_item_parts_found = of (IsSelectItem limit N) (λ x. ((out-SelectItem x).value, (out-SelectItem x).alias)) (λ ts x rest h. h.is) (both (an_expression limit depth inner) may_alias)

  a_select_item : Holds limit (IsSelectItem limit N) (λ x. select_item x ∷ [])
  a_select_item = a_node depth select_item (λ ts x rest h. h) select_item_parts_found

  selected : Holds limit (AreSelectItems limit N) selected_parts
  selected = record { at = at }
    where
      at : (ts : Tokens) (x : Option _) (rest : Tokens) → AreSelectItems limit N ts x rest → Holding limit ts (selected_parts x) rest
      at ts None rest h = no_node (one refl refl h)
      at ts (Some xs) rest h = (each_listed a_select_item).at ts xs rest h

  pub select_parts_found : Holds limit (IsSelect limit N) (λ x. parts (select x))
  select_parts_found = of (IsSelect limit N)
      (λ x. ((out-Select x).quantifier, ((out-Select x).items, ((out-Select x).from, ((out-Select x).filter, ((out-Select x).groups, (out-Select x).having))))))
      (λ ts x rest h. h.is)
      (both (after SELECT refl refl may_quantify) (both selected (both (after FROM refl refl (each_listed a_table_reference))
      (both (maybe (after WHERE refl refl (a_condition limit depth inner))) (both (groups N) (maybe (after HAVING refl refl (a_condition limit depth inner))))))))

  a_select : Holds limit (IsSelect limit N) (λ x. select x ∷ [])
  a_select = a_node depth select (λ ts x rest h. h) select_parts_found

  -- ---- set operators

  operand_holds : (ts : Tokens) (x : OperandLayer) (rest : Tokens) → IsOperandLayer limit N ts x rest → Holding limit ts (operand_parts x) rest
  operand_holds ts (Operand-F.Select x) rest h = a_select.at ts x rest h
  operand_holds ts (Operand-F.Grouped x) rest h = (parenthesized inner.query).at ts x rest h

  pub operand_parts_found : Holds limit (IsOperand limit N) (λ x. parts (operand x))
  operand_parts_found = record { at = λ ts x rest h. operand_holds ts (out-Operand x) rest h.is }

  an_operand : Holds limit (IsOperand limit N) (λ x. operand x ∷ [])
  an_operand = a_node depth operand (λ ts x rest h. h) operand_parts_found

  pub addend_parts_found : Holds limit (IsAddend limit N) (λ x. parts (addend x))
  addend_parts_found = of (IsAddend limit N) (λ x. ((out-Addend x).first, (out-Addend x).others)) (λ ts x rest h. h.is)
      (chain an_operand (both (after INTERSECT refl refl (may_be w.All)) an_operand))

  an_addend : Holds limit (IsAddend limit N) (λ x. addend x ∷ [])
  an_addend = a_node depth addend (λ ts x rest h. h) addend_parts_found

  pub query_parts_found : Holds limit (IsQuery limit N) (λ x. parts (query x))
  query_parts_found = of (IsQuery limit N) (λ x. ((out-Query x).first, (out-Query x).others)) (λ ts x rest h. h.is)
      (chain an_addend (both (nothing (set_operator_again {d = zero}).passes) an_addend))

  pub a_query : Holds limit (IsQuery limit N) (λ x. query x ∷ [])
  a_query = a_node depth query (λ ts x rest h. h) query_parts_found
