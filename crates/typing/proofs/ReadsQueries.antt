-- The tokens of queries, and of what stands so deep between parentheses.
use Rattle.std.proofs.Common.{◌≡◌, ℕ, zero, suc, List, [], ◌∷◌, ◌++◌, map, Option, Some, None, refl, sym as flip, ◌∙◌}
use Rattle.std.specs.Option.{option_map}
use Rattle.ast.specs.declared.operator.Column.{Column}
use Rattle.ast.specs.declared.tree.Addend.{out-Addend}
use Rattle.ast.specs.declared.tree.Join.{Join, Join-F, out-Join}
use Rattle.ast.specs.declared.tree.Operand.{Operand-F, out-Operand}
use Rattle.ast.specs.declared.tree.Query.{out-Query}
use Rattle.ast.specs.declared.tree.Select.{Select, out-Select}
use Rattle.ast.specs.declared.tree.SelectItem.{SelectItem, out-SelectItem}
use Rattle.ast.specs.declared.tree.TableReference.{out-TableReference}
use Rattle.ast.specs.declared.tree.TableSource.{TableSource-F, out-TableSource}
use Rattle.ast.specs.Expressions.{Nested}
use Rattle.ast.specs.Grammar.{nested_at}
use Rattle.ast.specs.Layers.{JoinLayer, OperandLayer, TableSourceLayer}
use Rattle.ast.specs.Notation.{Tokens, ◌⨾◌, ◌⊳◌, Maybe, Listed}
use Rattle.ast.specs.Queries.{IsTableSource, IsTableSourceLayer, IsJoin, IsJoinLayer, IsTableReference, IsSelectItem, AreSelectItems, AreGroups, IsFilter, IsHaving, IsSelect, IsOperand, IsOperandLayer, IsAddend, IsQuery}
use Rattle.ast.specs.Terminals.{IsQuantifier}
use Rattle.ast.specs.Words.{ALL, BY, CROSS, FROM, GROUP, HAVING, INNER, INTERSECT, JOIN, LEFT, ON, OUTER, SELECT, WHERE}
use Rattle.typing.specs.Printed.{condition_tokens, groups_tokens, items_tokens, join_step, operand_step, reference_step, source_step}
use Rattle.typing.specs.Tokens.{if_written, listed, maybe, quantifier_tokens}
use Rattle.typing.proofs.ReadTokens.{Read, Reads, read_as, of, three, six, both, after, parenthesized, may, may_after, written, many, all_listed, chained}
use Rattle.typing.proofs.ReadsTerminals.{alias, column, name, quantifier, set_operator}
use Rattle.typing.proofs.ReadsExpressions.{Inner, condition, expression}
use Rattle.typing.proofs.TokensOf.{addend_is, addend_tokens, item_is, item_tokens, join_is, join_parts, join_tokens, operand_is, operand_parts, operand_tokens, query_is, query_tokens, reference_is, reference_tokens, select_is, select_tokens, source_is, source_parts, source_tokens}

module _ (limit : Option ℕ) (N : Nested) (inner : Inner N) where
  -- ---- tables

  source_reads : (ts : Tokens) (x : TableSourceLayer) (rest : Tokens) → IsTableSourceLayer limit N ts x rest → Read (IsTableSourceLayer limit N) x (source_step (source_parts x)) ts rest
  source_reads ts (TableSource-F.Table x named) rest h = read_as (IsTableSourceLayer limit N) (TableSource-F.Table x named) (λ ts rest h. h) refl ((both name (may alias)).at ts (x, named) rest h)
  source_reads ts (TableSource-F.Derived x named) rest h = read_as (IsTableSourceLayer limit N) (TableSource-F.Derived x named) (λ ts rest h. h) refl
      ((both (parenthesized inner.query) alias).at ts (x, named) rest h)

  source_layer : Reads (IsTableSourceLayer limit N) (λ x. source_step (source_parts x))
  source_layer = record { at = source_reads }

  source : Reads (IsTableSource limit N) source_tokens
  source = of source_layer (IsTableSource limit N) out-TableSource source_tokens
      (λ ts x rest h. h.is) (λ ts x rest h ts' rest' h'. record { is = h' }) source_is

  join_reads : (ts : Tokens) (x : JoinLayer) (rest : Tokens) → IsJoinLayer limit N ts x rest → Read (IsJoinLayer limit N) x (join_step (join_parts x)) ts rest
  join_reads ts (Join-F.Cross x) rest h = read_as (IsJoinLayer limit N) (Join-F.Cross x) (λ ts rest h. h) refl ((after CROSS (after JOIN source)).at ts x rest h)
  join_reads ts (Join-F.Inner b x on) rest h = read_as (IsJoinLayer limit N) (Join-F.Inner b x on) (λ ts rest h. h)
      (three (if_written b INNER) (JOIN ∷ source_tokens x) (ON ∷ condition_tokens on))
      ((both (written INNER) (both (after JOIN source) (after ON (condition limit N inner)))).at ts (b, (x, on)) rest h)
  join_reads ts (Join-F.Left b x on) rest h = read_as (IsJoinLayer limit N) (Join-F.Left b x on) (λ ts rest h. h)
      (three (LEFT ∷ if_written b OUTER) (JOIN ∷ source_tokens x) (ON ∷ condition_tokens on))
      ((both (after LEFT (written OUTER)) (both (after JOIN source) (after ON (condition limit N inner)))).at ts (b, (x, on)) rest h)

  join_layer : Reads (IsJoinLayer limit N) (λ x. join_step (join_parts x))
  join_layer = record { at = join_reads }

  join : Reads (IsJoin limit N) join_tokens
  join = of join_layer (IsJoin limit N) out-Join join_tokens
      (λ ts x rest h. h.is) (λ ts x rest h ts' rest' h'. record { is = h' }) join_is

  -- {join}: a table reference without its first table
  abbrev joins_tokens : List Join → Tokens
  joins_tokens joins = reference_step (record { first = []; joins = map join_tokens joins })

  reference : Reads (IsTableReference limit N) reference_tokens
  reference = of (both source (many join joins_tokens refl (λ x xs. refl))) (IsTableReference limit N) (λ x. ((out-TableReference x).first, (out-TableReference x).joins)) reference_tokens
      (λ ts x rest h. h.is) (λ ts x rest h ts' rest' h'. record { is = h' }) reference_is

  -- ---- SELECT

  item : Reads (IsSelectItem limit N) item_tokens
  item = of (both (expression limit N inner) (may alias)) (IsSelectItem limit N) (λ x. ((out-SelectItem x).value, (out-SelectItem x).alias)) item_tokens
      (λ ts x rest h. h.is) (λ ts x rest h ts' rest' h'. record { is = h' }) item_is

  selected : Reads (AreSelectItems limit N) (λ x. items_tokens (option_map (map item_tokens) x))
  selected = record { at = at }
    where
      at : (ts : Tokens) (x : Option (List SelectItem)) (rest : Tokens) → AreSelectItems limit N ts x rest → Read (AreSelectItems limit N) x (items_tokens (option_map (map item_tokens) x)) ts rest
      at ts None rest h = record { only = h; again = λ more. refl }
      at ts (Some xs) rest h = read_as (AreSelectItems limit N) (Some xs) (λ ts rest h. h) refl ((all_listed item).at ts xs rest h)

  groups : Reads (AreGroups limit N) groups_tokens
  groups = record { at = at }
    where
      at : (ts : Tokens) (x : List Column) (rest : Tokens) → AreGroups limit N ts x rest → Read (AreGroups limit N) x (groups_tokens x) ts rest
      at ts [] rest h = record { only = h; again = λ more. refl }
      at ts (x ∷ xs) rest h = read_as (AreGroups limit N) (x ∷ xs) (λ ts rest h. h) refl ((after GROUP (after BY (all_listed column))).at ts (x ∷ xs) rest h)

  -- the parts of a SELECT, in the order of the text
  clauses : Reads (SELECT ⊳ Maybe IsQuantifier ⨾ AreSelectItems limit N ⨾ FROM ⊳ Listed (IsTableReference limit N) ⨾ IsFilter limit N ⨾ AreGroups limit N ⨾ IsHaving limit N)
      (λ s. SELECT ∷ maybe quantifier_tokens s.0 ++ (items_tokens (option_map (map item_tokens) s.1.0) ++ (FROM ∷ listed (map reference_tokens s.1.1.0)
      ++ (maybe (λ ts. WHERE ∷ ts) (option_map condition_tokens s.1.1.1.0) ++ (groups_tokens s.1.1.1.1.0 ++ maybe (λ ts. HAVING ∷ ts) (option_map condition_tokens s.1.1.1.1.1))))))
  clauses =
      both (after SELECT (may quantifier)) (both selected (both (after FROM (all_listed reference))
      (both (may_after WHERE (condition limit N inner)) (both groups (may_after HAVING (condition limit N inner))))))

  select_is_clauses : (x : Select) → select_tokens x
      ≡ SELECT ∷ maybe quantifier_tokens (out-Select x).quantifier ++ (items_tokens (option_map (map item_tokens) (out-Select x).items)
      ++ (FROM ∷ listed (map reference_tokens (out-Select x).from) ++ (maybe (λ ts. WHERE ∷ ts) (option_map condition_tokens (out-Select x).filter)
      ++ (groups_tokens (out-Select x).groups ++ maybe (λ ts. HAVING ∷ ts) (option_map condition_tokens (out-Select x).having)))))
  select_is_clauses x =
      select_is x ∙ flip (six (SELECT ∷ maybe quantifier_tokens (out-Select x).quantifier) (items_tokens (option_map (map item_tokens) (out-Select x).items))
      (FROM ∷ listed (map reference_tokens (out-Select x).from)) (maybe (λ ts. WHERE ∷ ts) (option_map condition_tokens (out-Select x).filter))
      (groups_tokens (out-Select x).groups) (maybe (λ ts. HAVING ∷ ts) (option_map condition_tokens (out-Select x).having)))

  select : Reads (IsSelect limit N) select_tokens
  select = of clauses (IsSelect limit N)
      (λ x. ((out-Select x).quantifier, ((out-Select x).items, ((out-Select x).from, ((out-Select x).filter, ((out-Select x).groups, (out-Select x).having)))))) select_tokens
      (λ ts x rest h. h.is) (λ ts x rest h ts' rest' h'. record { is = h' }) select_is_clauses

  -- ---- set operators

  operand_reads : (ts : Tokens) (x : OperandLayer) (rest : Tokens) → IsOperandLayer limit N ts x rest → Read (IsOperandLayer limit N) x (operand_step (operand_parts x)) ts rest
  operand_reads ts (Operand-F.Select x) rest h = read_as (IsOperandLayer limit N) (Operand-F.Select x) (λ ts rest h. h) refl (select.at ts x rest h)
  operand_reads ts (Operand-F.Grouped x) rest h = read_as (IsOperandLayer limit N) (Operand-F.Grouped x) (λ ts rest h. h) refl ((parenthesized inner.query).at ts x rest h)

  operand_layer : Reads (IsOperandLayer limit N) (λ x. operand_step (operand_parts x))
  operand_layer = record { at = operand_reads }

  operand : Reads (IsOperand limit N) operand_tokens
  operand = of operand_layer (IsOperand limit N) out-Operand operand_tokens
      (λ ts x rest h. h.is) (λ ts x rest h ts' rest' h'. record { is = h' }) operand_is

  addend : Reads (IsAddend limit N) addend_tokens
  addend = of (chained limit (after INTERSECT (written ALL)) operand) (IsAddend limit N) (λ x. ((out-Addend x).first, (out-Addend x).others)) addend_tokens
      (λ ts x rest h. h.is) (λ ts x rest h ts' rest' h'. record { is = h' }) addend_is

  query : Reads (IsQuery limit N) query_tokens
  query = of (chained limit set_operator addend) (IsQuery limit N) (λ x. ((out-Query x).first, (out-Query x).others)) query_tokens
      (λ ts x rest h. h.is) (λ ts x rest h ts' rest' h'. record { is = h'; not_lone = h.not_lone }) query_is

-- ---- by induction on how deep parentheses stand

pub nested : (limit : Option ℕ) (depth : ℕ) → Inner (nested_at limit depth)
nested limit zero = record {
  expression = record { at = λ ts x rest h. absurd h };
  condition = record { at = λ ts x rest h. absurd h };
  query = record { at = λ ts x rest h. absurd h };
}
nested limit (suc depth) = record {
  expression = expression limit (nested_at limit depth) (nested limit depth);
  condition = condition limit (nested_at limit depth) (nested limit depth);
  query = query limit (nested_at limit depth) (nested limit depth);
}
