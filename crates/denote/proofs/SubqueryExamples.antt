-- Worked queries with subqueries: a tree, tables, and its outcome.
use Rattle.std.proofs.Common.{◌≡◌, ℕ, List, [], ◌∷◌, Option, Some, None, false}
use Rattle.sqlval.specs.declared.truth.Truth.TheVariants.{Unknown}
use Rattle.sqlval.specs.declared.value.Value.{Value}
use Rattle.sqlval.specs.declared.value.Value.TheVariants.{Null}
use Rattle.typing.specs.declared.typed.Expression.{Expression}
use Rattle.typing.specs.declared.typed.Expression.TheVariants as e
use Rattle.typing.specs.declared.typed.Condition.{Condition}
use Rattle.typing.specs.declared.typed.Condition.TheVariants as c
use Rattle.typing.specs.declared.typed.Query.{Query}
use Rattle.typing.specs.declared.typed.SetFunction.TheVariants as s
use Rattle.typing.specs.declared.typed.Source.TheVariants as f
use Rattle.typing.specs.declared.typed.SetFunctionType.TheVariants.{Sum}
use Rattle.denote.specs.declared.fault.Fault.TheVariants.{ManyRows, DivisionByZero}
use Rattle.denote.specs.Outcome.{Outcome, through, whole}
use Rattle.denote.specs.Expression.{scalar}
use Rattle.denote.specs.Meaning.{query_outcome}
use Rattle.denote.proofs.Nodes.{meanings}
use Rattle.denote.proofs.ExampleTrees.{number, greatest, literal, at, plus, divided, equals, differs, exceeds, items, select, grouped_having, from_t, from_s, from_u, column_of, two_tables, three_tables, answer, faulting}

-- a column of the row one SELECT outwards, and of the row two SELECTs outwards
abbrev outer : ℕ → Expression
outer place = e.Column 1 place

abbrev outermost : ℕ → Expression
outermost place = e.Column 2 place

-- SELECT A FROM T WHERE condition, at T (A) and S (B) with these values
abbrev where_in_t : List Value → List Value → Condition → Outcome
where_in_t in_t in_s condition = query_outcome (two_tables (column_of in_t) (column_of in_s)) (select (items (at 0 ∷ [])) from_t (Some condition)) []

-- SELECT B FROM S
abbrev all_of_s : Query
all_of_s = select (items (at 0 ∷ [])) from_s None

-- SELECT 10 / B FROM S WHERE condition
abbrev ten_divided : Option Condition → Query
ten_divided condition = select (items (divided (literal 10) (at 0) ∷ [])) from_s condition

abbrev one : List Value
one = number 1 ∷ []

abbrev one_and_zero : List Value
one_and_zero = number 1 ∷ number 0 ∷ []

-- ---- EXISTS

-- T (A) has 1, S (B) is empty: SELECT A FROM T WHERE EXISTS (SELECT B FROM S)
pub nothing_exists_in_no_row : where_in_t one [] (c.Exists all_of_s) ≡ answer []
unfolding through whole
nothing_exists_in_no_row = simp meanings

-- T (A) has 1, S (B) has 1 and 0: SELECT A FROM T WHERE EXISTS (SELECT B FROM S)
pub a_row_exists : where_in_t one one_and_zero (c.Exists all_of_s) ≡ answer (column_of one)
unfolding through whole
a_row_exists = simp meanings

-- SELECT A FROM T WHERE EXISTS (SELECT 10 / B FROM S), though there is a row without fault
pub exists_has_the_faults_of_the_list : where_in_t one one_and_zero (c.Exists (ten_divided None)) ≡ faulting [] (DivisionByZero ∷ [])
unfolding through whole
exists_has_the_faults_of_the_list = simp meanings

-- SELECT A FROM T WHERE NOT EXISTS (SELECT 10 / B FROM S WHERE B = 7)
pub list_is_not_evaluated_at_dropped_rows : where_in_t one one_and_zero (c.Not (c.Exists (ten_divided (Some (equals (at 0) (literal 7)))))) ≡ answer (column_of one)
unfolding through whole
list_is_not_evaluated_at_dropped_rows = simp meanings

-- SELECT A FROM T WHERE EXISTS (SELECT B FROM S WHERE B = 1 OR 10 / B > 1)
pub exists_has_the_faults_of_its_filter :
    where_in_t one one_and_zero
    (c.Exists (select (items (at 0 ∷ [])) from_s (Some (c.Or (equals (at 0) (literal 1) ∷ exceeds (divided (literal 10) (at 0)) (literal 1) ∷ [])))))
    ≡ faulting [] (DivisionByZero ∷ [])
unfolding through whole
exists_has_the_faults_of_its_filter = simp meanings

-- SELECT A FROM T WHERE A = 1 OR EXISTS (SELECT 10 / B FROM S)
pub true_ends_or : where_in_t one one_and_zero (c.Or (equals (at 0) (literal 1) ∷ c.Exists (ten_divided None) ∷ [])) ≡ answer (column_of one)
unfolding through whole
true_ends_or = simp meanings

-- SELECT A FROM T WHERE EXISTS (SELECT 10 / B FROM S) OR A = 1
pub left_of_or_is_evaluated : where_in_t one one_and_zero (c.Or (c.Exists (ten_divided None) ∷ equals (at 0) (literal 1) ∷ [])) ≡ faulting [] (DivisionByZero ∷ [])
unfolding through whole
left_of_or_is_evaluated = simp meanings

-- SELECT A FROM T WHERE A = 2 AND EXISTS (SELECT 10 / B FROM S)
pub false_ends_and : where_in_t one one_and_zero (c.And (equals (at 0) (literal 2) ∷ c.Exists (ten_divided None) ∷ [])) ≡ answer []
unfolding through whole
false_ends_and = simp meanings

-- SELECT A FROM T WHERE EXISTS (SELECT SUM(B) FROM S WHERE B > 7)
pub a_group_of_no_row_exists :
    where_in_t one one_and_zero (c.Exists (grouped_having (items (at 0 ∷ [])) from_s (Some (exceeds (at 0) (literal 7))) None (s.Over Sum false (at 0) ∷ []) None))
    ≡ answer (column_of one)
unfolding through whole
a_group_of_no_row_exists = simp meanings

-- SELECT A FROM T WHERE EXISTS (SELECT SUM(B) FROM S WHERE B > 7 GROUP BY B)
pub no_group_exists_of_no_row :
    where_in_t one one_and_zero (c.Exists (grouped_having (items (at 1 ∷ [])) from_s (Some (exceeds (at 0) (literal 7))) (Some (0 ∷ [])) (s.Over Sum false (at 0) ∷ []) None))
    ≡ answer []
unfolding through whole
no_group_exists_of_no_row = simp meanings

-- ---- IN

abbrev with_null : List Value
with_null = number 1 ∷ number 2 ∷ Null ∷ []

-- T (A) has 1, 2 and NULL, S (B) has 2 and NULL: SELECT A FROM T WHERE A IN (SELECT B FROM S)
pub in_with_null : where_in_t with_null (number 2 ∷ Null ∷ []) (c.InQuery (at 0) all_of_s) ≡ answer (column_of (number 2 ∷ []))
unfolding through whole
in_with_null = simp meanings

-- SELECT A FROM T WHERE A NOT IN (SELECT B FROM S)
pub not_in_where_null_is : where_in_t with_null (number 2 ∷ Null ∷ []) (c.Not (c.InQuery (at 0) all_of_s)) ≡ answer []
unfolding through whole
not_in_where_null_is = simp meanings

-- SELECT A FROM T WHERE (A NOT IN (SELECT B FROM S)) IS UNKNOWN
pub not_in_is_unknown :
    where_in_t with_null (number 2 ∷ Null ∷ []) (c.IsTruth (c.Not (c.InQuery (at 0) all_of_s)) Unknown) ≡ answer (column_of (number 1 ∷ Null ∷ []))
unfolding through whole
not_in_is_unknown = simp meanings

-- T (A) has 1, 2 and NULL, S (B) is empty: SELECT A FROM T WHERE A NOT IN (SELECT B FROM S)
pub not_in_nothing : where_in_t with_null [] (c.Not (c.InQuery (at 0) all_of_s)) ≡ answer (column_of with_null)
unfolding through whole
not_in_nothing = simp meanings

-- SELECT A FROM T WHERE A NOT IN (2, 3)
pub not_in_a_list : where_in_t with_null [] (c.Not (c.InList (at 0) (number 2 ∷ number 3 ∷ []))) ≡ answer (column_of one)
unfolding through
not_in_a_list = simp meanings

-- T (A) has 1, S (B) has 1 and 0: SELECT A FROM T WHERE 1 IN (SELECT B / B FROM S), though 1 is
-- there
pub in_has_the_faults_of_every_row : where_in_t one one_and_zero (c.InQuery (literal 1) (select (items (divided (at 0) (at 0) ∷ [])) from_s None)) ≡ faulting [] (DivisionByZero ∷ [])
unfolding through whole
in_has_the_faults_of_every_row = simp meanings

-- SELECT A FROM T WHERE A NOT IN (SELECT 10 / B FROM S WHERE B <> 0)
pub not_in_quotients : where_in_t one one_and_zero (c.Not (c.InQuery (at 0) (ten_divided (Some (differs (at 0) (literal 0)))))) ≡ answer (column_of one)
unfolding through whole
not_in_quotients = simp meanings

-- T (A) has 1 and 0, S (B) has 1: SELECT A FROM T WHERE A IN (SELECT 10 / A FROM S)
pub a_correlated_list_faults :
    where_in_t one_and_zero one (c.InQuery (at 0) (select (items (divided (literal 10) (outer 0) ∷ [])) from_s None)) ≡ faulting [] (DivisionByZero ∷ [])
unfolding through whole
a_correlated_list_faults = simp meanings

-- ---- scalar subqueries

-- SELECT expression FROM T, at T (A) with 1 and S (B) with 0, 1 and 2
abbrev shown_at_one : Expression → Outcome
shown_at_one expression =
    query_outcome (two_tables (column_of one) (column_of (number 0 ∷ number 1 ∷ number 2 ∷ []))) (select (items (expression ∷ [])) from_t None) []

-- SELECT (SELECT B FROM S WHERE B > 5) FROM T
pub no_row_is_null : shown_at_one (e.Scalar (select (items (at 0 ∷ [])) from_s (Some (exceeds (at 0) (literal 5))))) ≡ answer (column_of (Null ∷ []))
unfolding through scalar
no_row_is_null = simp meanings

-- SELECT (SELECT B FROM S WHERE B = A) FROM T
pub one_row_is_its_value : shown_at_one (e.Scalar (select (items (at 0 ∷ [])) from_s (Some (equals (at 0) (outer 0))))) ≡ answer (column_of one)
unfolding through scalar
one_row_is_its_value = simp meanings

-- SELECT (SELECT 10 / B FROM S) FROM T: two rows stand beside the one that faults
pub many_rows_and_a_fault : shown_at_one (e.Scalar (ten_divided None)) ≡ faulting [] (DivisionByZero ∷ ManyRows ∷ [])
unfolding through scalar
many_rows_and_a_fault = simp meanings

-- SELECT (SELECT 10 / B FROM S WHERE B <> 2) FROM T: one row stands beside the one that faults
pub one_row_and_a_fault : shown_at_one (e.Scalar (ten_divided (Some (differs (at 0) (literal 2))))) ≡ faulting [] (DivisionByZero ∷ [])
unfolding through scalar
one_row_and_a_fault = simp meanings

-- SELECT (SELECT 10 / B FROM S) + (9223372036854775807 + A) FROM T
pub first_operand_ends_with_all_its_faults :
    shown_at_one (plus (e.Scalar (ten_divided None)) (plus (e.Constant greatest) (at 0))) ≡ faulting [] (DivisionByZero ∷ ManyRows ∷ [])
unfolding through scalar
first_operand_ends_with_all_its_faults = simp meanings

-- ---- correlation, at T (A) with 1, 2 and 3, S (B, C) with (1, 10), (2, 20) and (2, NULL), U (K,
-- M) with (10, 1), (20, 3) and (20, 2)

abbrev correlated : Query → Outcome
correlated query =
    query_outcome
    (three_tables (column_of (number 1 ∷ number 2 ∷ number 3 ∷ []))
    ((number 1 ∷ number 10 ∷ []) ∷ (number 2 ∷ number 20 ∷ []) ∷ (number 2 ∷ Null ∷ []) ∷ [])
    ((number 10 ∷ number 1 ∷ []) ∷ (number 20 ∷ number 3 ∷ []) ∷ (number 20 ∷ number 2 ∷ []) ∷ []))
    query []

-- SELECT A FROM T WHERE EXISTS (SELECT B FROM S WHERE B = A AND C = 20)
pub one_level_deep :
    correlated (select (items (at 0 ∷ [])) from_t
    (Some (c.Exists (select (items (at 0 ∷ [])) from_s (Some (c.And (equals (at 0) (outer 0) ∷ equals (at 1) (literal 20) ∷ [])))))))
    ≡ answer (column_of (number 2 ∷ []))
unfolding through whole
one_level_deep = simp meanings

-- SELECT A FROM T WHERE EXISTS (SELECT B FROM S WHERE B = A AND EXISTS (SELECT K FROM U WHERE K = C
-- AND M = A))
pub two_levels_deep :
    correlated (select (items (at 0 ∷ [])) from_t
    (Some (c.Exists (select (items (at 0 ∷ [])) from_s
    (Some (c.And (equals (at 0) (outer 0)
    ∷ c.Exists (select (items (at 0 ∷ [])) from_u (Some (c.And (equals (at 0) (outer 1) ∷ equals (at 1) (outermost 0) ∷ []))))
    ∷ [])))))))
    ≡ answer (column_of (number 1 ∷ number 2 ∷ []))
unfolding through whole
two_levels_deep = simp meanings

-- SELECT A FROM T WHERE A NOT IN (SELECT M FROM U WHERE K IN (SELECT C FROM S WHERE B <> A))
pub not_in_two_levels_deep :
    correlated (select (items (at 0 ∷ [])) from_t
    (Some (c.Not (c.InQuery (at 0) (select (items (at 1 ∷ [])) from_u
    (Some (c.InQuery (at 0) (select (items (at 1 ∷ [])) from_s (Some (differs (at 0) (outermost 0)))))))))))
    ≡ answer (column_of (number 1 ∷ number 2 ∷ []))
unfolding through whole
not_in_two_levels_deep = simp meanings

-- SELECT A, (SELECT SUM(M) FROM U WHERE K IN (SELECT C FROM S WHERE B = A)) FROM T
pub sum_at_each_row :
    correlated (select (items (at 0
    ∷ e.Scalar (grouped_having (items (at 0 ∷ [])) from_u (Some (c.InQuery (at 0) (select (items (at 1 ∷ [])) from_s (Some (equals (at 0) (outermost 0)))))) None (s.Over Sum false (at 1) ∷ []) None)
    ∷ [])) from_t None)
    ≡ answer ((number 1 ∷ number 1 ∷ []) ∷ (number 2 ∷ number 5 ∷ []) ∷ (number 3 ∷ Null ∷ []) ∷ [])
unfolding through whole scalar
sum_at_each_row = simp meanings

-- SELECT A FROM T WHERE EXISTS (SELECT 1 FROM (SELECT B FROM S WHERE B = A) D)
pub derived_tables_see_outer_rows :
    correlated (select (items (at 0 ∷ [])) from_t
    (Some (c.Exists (select (items (literal 1 ∷ [])) (f.Derived (select (items (at 0 ∷ [])) from_s (Some (equals (at 0) (outer 0))))) None))))
    ≡ answer (column_of (number 1 ∷ number 2 ∷ []))
unfolding through whole
derived_tables_see_outer_rows = simp meanings

-- SELECT B FROM S GROUP BY B HAVING COUNT( * ) = (SELECT K FROM U WHERE K = 10 AND M = B) / 10: the
-- outer row is that of the group
pub having_sees_the_row_of_the_group :
    correlated (grouped_having (items (at 0 ∷ [])) from_s None (Some (0 ∷ [])) (s.CountRows ∷ [])
    (Some (equals (at 1) (divided (e.Scalar (select (items (at 0 ∷ [])) from_u (Some (c.And (equals (at 0) (literal 10) ∷ equals (at 1) (outer 0) ∷ []))))) (literal 10)))))
    ≡ answer (column_of (number 1 ∷ []))
unfolding through scalar
having_sees_the_row_of_the_group = simp meanings
