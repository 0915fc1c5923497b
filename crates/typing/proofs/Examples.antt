-- Worked statements: a tree, a schema, and what it is found to be.
use Rattle.std.proofs.Common.{◌≡◌, ℕ, List, [], ◌∷◌, Option, Some, None, true, false, Ok, rules}
use Rattle.sqlval.specs.declared.schema.Schema.{Schema}
use Rattle.sqlval.specs.declared.schema.Table.{Table}
use Rattle.sqlval.specs.declared.schema.Column.{Column as Stored}
use Rattle.sqlval.specs.declared.storing.ColumnType.TheVariants as stored
use Rattle.sqlval.specs.declared.value.ValueType.{ValueType}
use Rattle.sqlval.specs.declared.value.ValueType.TheVariants.{Integer, Text}
use Rattle.refusals.specs.declared.reason.Reason.TheVariants as reason
use Rattle.ast.specs.declared.operator.AddOperator.TheVariants as add
use Rattle.ast.specs.declared.operator.Column.{Column}
use Rattle.ast.specs.declared.operator.Comparison.TheVariants as written
use Rattle.ast.specs.declared.operator.Direction.TheVariants as direction
use Rattle.ast.specs.declared.operator.SetFunction.TheVariants as function
use Rattle.ast.specs.declared.operator.SetOperator.TheVariants as set
use Rattle.ast.specs.declared.statement.OrderedQuery.{OrderedQuery as OrderedTree}
use Rattle.ast.specs.declared.statement.SortColumn.TheVariants as sort
use Rattle.ast.specs.declared.tree.Addend.{Addend, roll-Addend}
use Rattle.ast.specs.declared.tree.Condition.{Condition, roll-Condition}
use Rattle.ast.specs.declared.tree.Conjunction.{roll-Conjunction}
use Rattle.ast.specs.declared.tree.Expression.{Expression, roll-Expression}
use Rattle.ast.specs.declared.tree.Factor.{roll-Factor}
use Rattle.ast.specs.declared.tree.Join.TheVariants as join
use Rattle.ast.specs.declared.tree.Negation.{roll-Negation}
use Rattle.ast.specs.declared.tree.Operand.TheVariants as operand
use Rattle.ast.specs.declared.tree.Predicate.{Predicate}
use Rattle.ast.specs.declared.tree.Predicate.TheVariants as predicate
use Rattle.ast.specs.declared.tree.Primary.{Primary}
use Rattle.ast.specs.declared.tree.Primary.TheVariants as primary
use Rattle.ast.specs.declared.tree.Query.{Query, roll-Query}
use Rattle.ast.specs.declared.tree.Select.{Select, roll-Select}
use Rattle.ast.specs.declared.tree.SelectItem.{SelectItem, roll-SelectItem}
use Rattle.ast.specs.declared.tree.TableReference.{TableReference, roll-TableReference}
use Rattle.ast.specs.declared.tree.TableSource.TheVariants as source
use Rattle.ast.specs.declared.tree.Term.{roll-Term}
use Rattle.ast.specs.declared.tree.Test.{roll-Test}
use Rattle.typing.specs.declared.scope.ResultColumn.{ResultColumn}
use Rattle.typing.specs.declared.scope.TypedQuery.{TypedQuery}
use Rattle.sqlval.specs.declared.comparison.CompOp.TheVariants as compares
use Rattle.typing.specs.declared.typed.Arithmetic.TheVariants as op
use Rattle.typing.specs.declared.typed.Condition.{Condition as TypedCondition, Condition-F, out-Condition, the_lemmas}
use Rattle.typing.specs.declared.typed.Condition.TheVariants as c
use Rattle.typing.specs.declared.typed.Expression.{Expression as TypedExpression}
use Rattle.typing.specs.declared.typed.Expression.TheVariants as e
use Rattle.typing.specs.declared.typed.Grouping.{Grouping, roll-Grouping}
use Rattle.typing.specs.declared.typed.Item.{Item, roll-Item}
use Rattle.typing.specs.declared.typed.Query.{Query as Typed}
use Rattle.typing.specs.declared.typed.Query.TheVariants as q
use Rattle.typing.specs.declared.typed.Select.{roll-Select as typed_select}
use Rattle.typing.specs.declared.typed.SetFunction.TheVariants as s
use Rattle.typing.specs.declared.typed.SetFunctionType.TheVariants as fn
use Rattle.typing.specs.declared.typed.SetOperator.TheVariants as sets
use Rattle.typing.specs.declared.typed.Source.{Source}
use Rattle.typing.specs.declared.typed.Source.TheVariants as f
use Rattle.typing.specs.Finding.{Finding, invalid}
use Rattle.typing.specs.Known.{known}
use Rattle.typing.specs.Order.{ordered_found}
use Rattle.typing.specs.Typing.{query_found}
use Rattle.typing.proofs.Nodes.{typings}

-- ---- the schema: T (A INTEGER, B VARCHAR(5)) and S (A INTEGER, X INTEGER)

abbrev t : List ℕ
t = 84 ∷ []

abbrev s' : List ℕ
s' = 83 ∷ []

abbrev a : List ℕ
a = 65 ∷ []

abbrev b : List ℕ
b = 66 ∷ []

abbrev x : List ℕ
x = 88 ∷ []

abbrev integer : List ℕ → Stored
integer name = record { name = name; column_type = stored.Integer }

abbrev table : List ℕ → List Stored → Table
table name columns = record { name = name; columns = columns; constraints = []; indexes = []; root = 0 }

abbrev schema : Schema
schema = record { tables = table t (integer a ∷ record { name = b; column_type = stored.Varchar 5 } ∷ []) ∷ table s' (integer a ∷ integer x ∷ []) ∷ [] }

-- ---- trees

abbrev of : Primary → Expression
of p = roll-Expression (record { first = roll-Term (record { first = roll-Factor (record { sign = None; primary = p }); others = [] }); others = [] })

abbrev column : List ℕ → Expression
column name = of (primary.Column (record { table = None; name = name }))

abbrev qualified : List ℕ → List ℕ → Expression
qualified table name = of (primary.Column (record { table = Some table; name = name }))

abbrev test : Predicate → Condition
test p = roll-Condition (record {
  first = roll-Conjunction (record { first = roll-Negation (record { is_negated = false; test = roll-Test (record { predicate = p; truth = None }) }); others = [] });
  others = [];
})

abbrev item : Expression → SelectItem
item value = roll-SelectItem (record { value = value; alias = None })

abbrev stored_table : List ℕ → TableReference
stored_table name = roll-TableReference (record { first = source.Table name None; joins = [] })

abbrev alone : Select → Query
alone select = roll-Query (record { first = roll-Addend (record { first = operand.Select select; others = [] }); others = [] })

abbrev select : List Expression → List TableReference → Option Condition → List Column → Option Condition → Query
select values from filter groups having =
    alone (roll-Select (record { quantifier = None; items = Some (items values); from = from; filter = filter; groups = groups; having = having }))
  where
    items : List Expression → List SelectItem
    items [] = []
    items (value ∷ more) = item value ∷ items more

-- ---- what is found

abbrev found : Query → Finding TypedQuery
found tree = query_found (known schema) tree []

abbrev shown : TypedExpression → Option (List ℕ) → Item
shown expression name = roll-Item (record { expression = expression; name = name })

abbrev typed : List Item → Source → Option TypedCondition → Option Grouping → Typed
typed items from filter grouping = q.Select (typed_select (record { distinct = false; items = items; from = from; filter = filter; grouping = grouping }))

abbrev result : Option (List ℕ) → ValueType → ResultColumn
result name value_type = record { name = name; value_type = value_type }

-- ---- one table

-- SELECT B FROM T
pub column_of_a_table : found (select (column b ∷ []) (stored_table t ∷ []) None [] None)
    ≡ Ok (record { query = typed (shown (e.Column 0 1) (Some b) ∷ []) (f.Table t) None None; columns = result (Some b) Text ∷ [] })
column_of_a_table = simp typings

-- SELECT X FROM T
pub no_such_column : found (select (column x ∷ []) (stored_table t ∷ []) None [] None) ≡ invalid reason.Name
no_such_column = simp typings

-- ---- several tables

-- SELECT A FROM T, S
pub column_of_two_tables : found (select (column a ∷ []) (stored_table t ∷ stored_table s' ∷ []) None [] None) ≡ invalid reason.Ambiguous
column_of_two_tables = simp typings

-- SELECT X FROM T, S
pub column_of_the_second : found (select (column x ∷ []) (stored_table t ∷ stored_table s' ∷ []) None [] None)
    ≡ Ok (record { query = typed (shown (e.Column 0 3) (Some x) ∷ []) (f.Product (f.Table t) (f.Table s')) None None; columns = result (Some x) Integer ∷ [] })
column_of_the_second = simp typings

-- ---- groups

-- SELECT A, COUNT(*) FROM T GROUP BY A
pub counted_by_a : found (select (column a ∷ of primary.CountRows ∷ []) (stored_table t ∷ []) None (record { table = None; name = a } ∷ []) None)
    ≡ Ok (record {
      query = typed (shown (e.Column 0 0) (Some a) ∷ shown (e.Column 0 1) None ∷ []) (f.Table t) None
          (Some (roll-Grouping (record { columns = Some (0 ∷ []); functions = s.CountRows ∷ []; having = None })));
      columns = result (Some a) Integer ∷ result None Integer ∷ [];
    })
counted_by_a = simp typings

-- SELECT B, COUNT(*) FROM T GROUP BY A
pub not_grouped_by : found (select (column b ∷ of primary.CountRows ∷ []) (stored_table t ∷ []) None (record { table = None; name = a } ∷ []) None) ≡ invalid reason.Grouping
not_grouped_by = simp typings

-- SELECT A FROM T WHERE COUNT(*) > 1
pub no_set_function_in_where : found (select (column a ∷ []) (stored_table t ∷ [])
    (Some (test (predicate.Compare (of primary.CountRows) written.Greater (of (primary.Number 1))))) [] None)
    ≡ invalid reason.Grouping
no_set_function_in_where = simp typings

-- ---- queries inside

-- SELECT B FROM T, S JOIN S AS X ON B IS NULL: ON sees its own reference alone
pub on_sees_its_reference : found (select (column b ∷ [])
    (stored_table t ∷ roll-TableReference (record {
      first = source.Table s' None;
      joins = join.Inner false (source.Table s' (Some (record { has_as = true; name = x }))) (test (predicate.IsNull (column b) false)) ∷ [];
    }) ∷ []) None [] None)
    ≡ invalid reason.Name
on_sees_its_reference = simp typings

-- ---- set operators

abbrev one_addend : Expression → Addend
one_addend value = roll-Addend (record {
  first = operand.Select (roll-Select (record { quantifier = None; items = Some (item value ∷ []); from = stored_table t ∷ []; filter = None; groups = []; having = None }));
  others = [];
})

-- SELECT A FROM T UNION SELECT B FROM T
pub columns_of_other_types : found (roll-Query (record { first = one_addend (column a); others = (set.Union, one_addend (column b)) ∷ [] })) ≡ invalid reason.DataType
columns_of_other_types = simp typings

-- ---- what conditions are made of

compare-out : (by : _) (one other : TypedExpression) → out-Condition (c.Compare by one other) ≡ Condition-F.Compare by one other
compare-out by one other = search (rules, the_lemmas)

ruleset typings_of_conditions = (typings, compare-out)

-- ---- several clauses, queries inside, and names across them, over N (A INTEGER, B INTEGER), S (A
-- INTEGER, X INTEGER) and U (Y INTEGER)

abbrev n : List ℕ
n = 78 ∷ []

abbrev u : List ℕ
u = 85 ∷ []

abbrev y : List ℕ
y = 89 ∷ []

abbrev d : List ℕ
d = 68 ∷ []

abbrev numbers : Schema
numbers = record { tables = table n (integer a ∷ integer b ∷ []) ∷ table s' (integer a ∷ integer x ∷ []) ∷ table u (integer y ∷ []) ∷ [] }

abbrev found_there : Query → Finding TypedQuery
found_there tree = query_found (known numbers) tree []

abbrev sum_of : Expression → Expression
sum_of argument = of (primary.Aggregate function.Sum None argument)

abbrev plus : Primary → Primary → Expression
plus one other = roll-Expression (record {
  first = roll-Term (record { first = roll-Factor (record { sign = None; primary = one }); others = [] });
  others = (add.Plus, roll-Term (record { first = roll-Factor (record { sign = None; primary = other }); others = [] })) ∷ [];
})

abbrev equal : Expression → Expression → Condition
equal one other = test (predicate.Compare one written.Equal other)

abbrev by : List ℕ → List Column
by name = record { table = None; name = name } ∷ []

-- SELECT A + COUNT(*), (SELECT MIN(X) FROM S) FROM N GROUP BY A HAVING SUM(B) > COUNT(*): the set
-- functions are numbered in the order of the text, after the key; MIN stands in a group of its own
pub set_functions_are_numbered : found_there (select
    (plus (primary.Column (record { table = None; name = a })) primary.CountRows
    ∷ of (primary.Subquery (select (of (primary.Aggregate function.Min None (column x)) ∷ []) (stored_table s' ∷ []) None [] None)) ∷ [])
    (stored_table n ∷ []) None (by a) (Some (test (predicate.Compare (sum_of (column b)) written.Greater (of primary.CountRows)))))
    ≡ Ok (record {
      query = typed
          (shown (e.Calculation (e.Column 0 0) ((op.Add, e.Column 0 1) ∷ [])) None
          ∷ shown (e.Scalar (typed (shown (e.Column 0 0) None ∷ []) (f.Table s') None
          (Some (roll-Grouping (record { columns = None; functions = s.Over fn.Min false (e.Column 0 1) ∷ []; having = None }))))) None ∷ [])
          (f.Table n) None
          (Some (roll-Grouping (record {
            columns = Some (0 ∷ []);
            functions = s.CountRows ∷ s.Over fn.Sum false (e.Column 0 1) ∷ s.CountRows ∷ [];
            having = Some (c.Compare compares.Greater (e.Column 0 2) (e.Column 0 3));
          })));
      columns = result None Integer ∷ result None Integer ∷ [];
    })
set_functions_are_numbered = simp typings_of_conditions

abbrev query_of : Query → Expression
query_of tree = of (primary.Subquery tree)

-- SELECT (SELECT X FROM S WHERE X = N.A) FROM N: the outer row stands one SELECT outwards
pub column_of_the_outer_query : found_there (select
    (query_of (select (column x ∷ []) (stored_table s' ∷ []) (Some (equal (column x) (qualified n a))) [] None) ∷ []) (stored_table n ∷ []) None [] None)
    ≡ Ok (record {
      query = typed (shown (e.Scalar (typed (shown (e.Column 0 1) (Some x) ∷ []) (f.Table s') (Some (c.Compare compares.Equal (e.Column 0 1) (e.Column 1 0))) None)) None ∷ [])
          (f.Table n) None None;
      columns = result None Integer ∷ [];
    })
column_of_the_outer_query = simp typings_of_conditions

-- SELECT (SELECT (SELECT Y FROM U WHERE Y = B) FROM S) FROM N: two SELECTs outwards
pub column_two_queries_outwards : found_there (select
    (query_of (select (query_of (select (column y ∷ []) (stored_table u ∷ []) (Some (equal (column y) (column b))) [] None) ∷ []) (stored_table s' ∷ []) None [] None) ∷ [])
    (stored_table n ∷ []) None [] None)
    ≡ Ok (record {
      query = typed (shown (e.Scalar (typed (shown (e.Scalar (typed (shown (e.Column 0 0) (Some y) ∷ []) (f.Table u)
          (Some (c.Compare compares.Equal (e.Column 0 0) (e.Column 2 1))) None)) None ∷ []) (f.Table s') None None)) None ∷ []) (f.Table n) None None;
      columns = result None Integer ∷ [];
    })
column_two_queries_outwards = simp typings_of_conditions

-- SELECT D.X FROM N, (SELECT X FROM S) AS D: the columns of a derived table are those of its result
pub column_of_a_derived_table : found_there (select (qualified d x ∷ [])
    (stored_table n ∷ roll-TableReference (record {
      first = source.Derived (select (column x ∷ []) (stored_table s' ∷ []) None [] None) (record { has_as = true; name = d });
      joins = [];
    }) ∷ []) None [] None)
    ≡ Ok (record {
      query = typed (shown (e.Column 0 2) (Some x) ∷ []) (f.Product (f.Table n) (f.Derived (typed (shown (e.Column 0 1) (Some x) ∷ []) (f.Table s') None None))) None None;
      columns = result (Some x) Integer ∷ [];
    })
column_of_a_derived_table = simp typings

-- SELECT B FROM N LEFT JOIN S ON X = B LEFT JOIN U ON Y = X: the first right side has two columns,
-- the second one
pub left_joins_have_widths : found_there (select (column b ∷ [])
    (roll-TableReference (record {
      first = source.Table n None;
      joins = join.Left false (source.Table s' None) (equal (column x) (column b)) ∷ join.Left true (source.Table u None) (equal (column y) (column x)) ∷ [];
    }) ∷ []) None [] None)
    ≡ Ok (record {
      query = typed (shown (e.Column 0 1) (Some b) ∷ [])
          (f.Left (c.Compare compares.Equal (e.Column 0 4) (e.Column 0 3)) (f.Left (c.Compare compares.Equal (e.Column 0 3) (e.Column 0 1)) (f.Table n) (f.Table s') 2) (f.Table u) 1) None None;
      columns = result (Some b) Integer ∷ [];
    })
left_joins_have_widths = simp typings_of_conditions

-- SELECT (SELECT X FROM S WHERE X = N.B) FROM N GROUP BY B: a query in a grouped SELECT sees the
-- key, of which B is the first
pub key_seen_from_a_query : found_there (select
    (query_of (select (column x ∷ []) (stored_table s' ∷ []) (Some (equal (column x) (qualified n b))) [] None) ∷ []) (stored_table n ∷ []) None (by b) None)
    ≡ Ok (record {
      query = typed (shown (e.Scalar (typed (shown (e.Column 0 1) (Some x) ∷ []) (f.Table s') (Some (c.Compare compares.Equal (e.Column 0 1) (e.Column 1 0))) None)) None ∷ [])
          (f.Table n) None (Some (roll-Grouping (record { columns = Some (1 ∷ []); functions = []; having = None })));
      columns = result None Integer ∷ [];
    })
key_seen_from_a_query = simp typings_of_conditions

-- SELECT B FROM N GROUP BY B HAVING EXISTS (SELECT X FROM S WHERE X = N.A): and no other column
pub no_other_column_seen_from_a_query : found_there (select (column b ∷ []) (stored_table n ∷ []) None (by b)
    (Some (test (predicate.Exists (select (column x ∷ []) (stored_table s' ∷ []) (Some (equal (column x) (qualified n a))) [] None)))))
    ≡ invalid reason.Grouping
no_other_column_seen_from_a_query = simp typings

-- ---- ORDER BY over a set operator: names of the first operand's columns alone

abbrev united : Query
united = roll-Query (record { first = one_of n (column b); others = (set.Union, one_of s' (column x)) ∷ [] })
  where
    one_of : List ℕ → Expression → Addend
    one_of name value = roll-Addend (record {
      first = operand.Select (roll-Select (record { quantifier = None; items = Some (item value ∷ []); from = stored_table name ∷ []; filter = None; groups = []; having = None }));
      others = [];
    })

abbrev ordered_by : List ℕ → OrderedTree
ordered_by name = record { query = united; order = record { column = sort.Named name; direction = Some direction.Descending } ∷ [] }

-- SELECT B FROM N UNION SELECT X FROM S ORDER BY B DESC
pub order_by_a_column_of_the_first : ordered_found (known numbers) (ordered_by b)
    ≡ Ok (record {
      query = q.Combined (typed (shown (e.Column 0 1) (Some b) ∷ []) (f.Table n) None None)
          ((record { operator = sets.Union; all = false }, typed (shown (e.Column 0 1) (Some x) ∷ []) (f.Table s') None None) ∷ []);
      keys = record { place = 0; descending = true } ∷ [];
    })
order_by_a_column_of_the_first = simp typings

-- SELECT B FROM N UNION SELECT X FROM S ORDER BY X DESC
pub no_order_by_a_column_of_the_second : ordered_found (known numbers) (ordered_by x) ≡ invalid reason.Name
no_order_by_a_column_of_the_second = simp typings
