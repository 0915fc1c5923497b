-- The grammar of queries.
-- ISO/IEC 9075:1992, 6.3 <table reference>, 7.3 to 7.9 up to <query specification>, 7.10
-- <query expression> and 7.11 <subquery>. Our own choices: no VALUES, TABLE, NATURAL, USING, RIGHT,
-- FULL and CORRESPONDING, no list of columns after an alias, no `table.*`, no parentheses round
-- joins; chains have a limit.
use Rattle.std.specs.Prelude.{◌≡◌, ℕ, Bool, true, false, List, [], ◌∷◌, Option, Some, None}
use Rattle.ast.specs.declared.operator.Column.{Column}
use Rattle.ast.specs.declared.tree.Condition.{Condition}
use Rattle.ast.specs.declared.tree.Addend.{Addend, out-Addend}
use Rattle.ast.specs.declared.tree.Join.{Join, Join-F, out-Join}
use Rattle.ast.specs.declared.tree.Operand.{Operand, Operand-F, out-Operand}
use Rattle.ast.specs.declared.tree.Query.{Query, out-Query}
use Rattle.ast.specs.declared.tree.Select.{Select, out-Select}
use Rattle.ast.specs.declared.tree.SelectItem.{SelectItem, out-SelectItem}
use Rattle.ast.specs.declared.tree.TableReference.{TableReference, out-TableReference}
use Rattle.ast.specs.declared.tree.TableSource.{TableSource, TableSource-F, out-TableSource}
use Rattle.ast.specs.Layers.{JoinLayer, OperandLayer, TableSourceLayer}
use Rattle.ast.specs.Notation.{Tokens, Rule, ◌⨾◌, ◌⊳◌, Parenthesized, Maybe, Written, Many, Listed, MaybeListed}
use Rattle.ast.specs.Terminals.{IsAlias, IsColumn, IsName, IsQuantifier, IsSetOperator}
use Rattle.ast.specs.Expressions.{Nested, Chain, IsCondition, IsExpression}
use Rattle.ast.specs.Words.{ALL, BY, CROSS, FROM, GROUP, HAVING, INNER, INTERSECT, JOIN, LEFT, ON, OUTER, SELECT, ASTERISK, WHERE}

-- whether an operand is a query in parentheses
abbrev pub is_grouped_layer : OperandLayer → Bool
is_grouped_layer (Operand-F.Select _) = false
is_grouped_layer (Operand-F.Grouped _) = true

abbrev pub is_grouped : Operand → Bool
is_grouped x = is_grouped_layer (out-Operand x)

-- whether the operands are one query in parentheses and nothing more
abbrev pub is_lone : {A B : Type 0} → Operand → List A → List B → Bool
is_lone x [] [] = is_grouped x
is_lone x _ _ = false

-- over the greatest number of operands in a chain, if there is one, and the rules of what stands
-- between parentheses
module _ (limit : Option ℕ) (inner : Nested) where
  -- source1 = name [[AS] name] | ( query ) [AS] name
  abbrev pub IsTableSourceLayer : Rule TableSourceLayer
  IsTableSourceLayer ts (TableSource-F.Table x alias) rest = (IsName ⨾ Maybe IsAlias) ts (x, alias) rest
  IsTableSourceLayer ts (TableSource-F.Derived query alias) rest = (Parenthesized inner.query ⨾ IsAlias) ts (query, alias) rest

  pub record IsTableSource (ts : Tokens) (x : TableSource) (rest : Tokens) : Type 0 where
    pub is : IsTableSourceLayer ts (out-TableSource x) rest

  -- CROSS JOIN source1 | [INNER] JOIN source1 ON cond | LEFT [OUTER] JOIN source1 ON cond
  abbrev pub IsJoinLayer : Rule JoinLayer
  IsJoinLayer ts (Join-F.Cross x) rest = (CROSS ⊳ JOIN ⊳ IsTableSource) ts x rest
  IsJoinLayer ts (Join-F.Inner inner_written x on) rest =
      (Written INNER ⨾ JOIN ⊳ IsTableSource ⨾ ON ⊳ IsCondition limit inner) ts (inner_written, (x, on)) rest
  IsJoinLayer ts (Join-F.Left outer_written x on) rest =
      (LEFT ⊳ Written OUTER ⨾ JOIN ⊳ IsTableSource ⨾ ON ⊳ IsCondition limit inner) ts (outer_written, (x, on)) rest

  pub record IsJoin (ts : Tokens) (x : Join) (rest : Tokens) : Type 0 where
    pub is : IsJoinLayer ts (out-Join x) rest

  -- ref = source1 { join }
  pub record IsTableReference (ts : Tokens) (x : TableReference) (rest : Tokens) : Type 0 where
    pub is : (IsTableSource ⨾ Many IsJoin) ts ((out-TableReference x).first, (out-TableReference x).joins) rest

  -- item = expr [[AS] name]
  pub record IsSelectItem (ts : Tokens) (x : SelectItem) (rest : Tokens) : Type 0 where
    pub is : (IsExpression limit inner ⨾ Maybe IsAlias) ts ((out-SelectItem x).value, (out-SelectItem x).alias) rest

  -- * | item {, item}
  abbrev pub AreSelectItems : Rule (Option (List SelectItem))
  AreSelectItems ts None rest = ts ≡ ASTERISK ∷ rest
  AreSelectItems ts (Some xs) rest = Listed IsSelectItem ts xs rest

  -- [WHERE cond]
  abbrev pub IsFilter : Rule (Option Condition)
  IsFilter = Maybe (WHERE ⊳ IsCondition limit inner)

  -- [GROUP BY column {, column}]
  abbrev pub AreGroups : Rule (List Column)
  AreGroups = MaybeListed (GROUP ⊳ BY ⊳ Listed IsColumn)

  -- [HAVING cond]
  abbrev pub IsHaving : Rule (Option Condition)
  IsHaving = Maybe (HAVING ⊳ IsCondition limit inner)

  -- select = SELECT [ALL | DISTINCT] ( * | item {, item} ) FROM ref {, ref} [WHERE cond] [GROUP BY
  -- column {, column}] [HAVING cond]
  pub record IsSelect (ts : Tokens) (x : Select) (rest : Tokens) : Type 0 where
    pub is : (SELECT ⊳ Maybe IsQuantifier ⨾ AreSelectItems ⨾ FROM ⊳ Listed IsTableReference ⨾ IsFilter ⨾ AreGroups ⨾ IsHaving)
        ts ((out-Select x).quantifier, ((out-Select x).items, ((out-Select x).from, ((out-Select x).filter, ((out-Select x).groups, (out-Select x).having))))) rest

  -- operand = select | ( query )
  abbrev pub IsOperandLayer : Rule OperandLayer
  IsOperandLayer ts (Operand-F.Select x) rest = IsSelect ts x rest
  IsOperandLayer ts (Operand-F.Grouped x) rest = Parenthesized inner.query ts x rest

  pub record IsOperand (ts : Tokens) (x : Operand) (rest : Tokens) : Type 0 where
    pub is : IsOperandLayer ts (out-Operand x) rest

  -- addend = operand {INTERSECT [ALL] operand}
  pub record IsAddend (ts : Tokens) (x : Addend) (rest : Tokens) : Type 0 where
    pub is : Chain limit IsOperand (INTERSECT ⊳ Written ALL ⨾ IsOperand) ts ((out-Addend x).first, (out-Addend x).others) rest

  -- query = select | sum, where sum = addend {(UNION | EXCEPT) [ALL] addend} has a set operator in
  -- it
  pub record IsQuery (ts : Tokens) (x : Query) (rest : Tokens) : Type 0 where
    pub is : Chain limit IsAddend (IsSetOperator ⨾ IsAddend) ts ((out-Query x).first, (out-Query x).others) rest
    pub not_lone : is_lone (out-Addend (out-Query x).first).first (out-Addend (out-Query x).first).others (out-Query x).others ≡ false
