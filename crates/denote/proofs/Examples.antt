-- Worked queries: a tree, tables, and its outcome.
use Rattle.std.proofs.Common.{◌≡◌, List, [], ◌∷◌, Option, Some, None, Bool, true, false}
use Rattle.sqlval.specs.declared.value.Value.{Value}
use Rattle.sqlval.specs.declared.value.Value.TheVariants.{Null, Text}
use Rattle.typing.specs.declared.typed.Expression.{Expression}
use Rattle.typing.specs.declared.typed.Expression.TheVariants as e
use Rattle.typing.specs.declared.typed.Condition.{Condition}
use Rattle.typing.specs.declared.typed.Condition.TheVariants as c
use Rattle.typing.specs.declared.typed.Source.TheVariants as f
use Rattle.typing.specs.declared.typed.SetFunction.TheVariants as s
use Rattle.typing.specs.declared.typed.SetFunctionType.TheVariants.{Count, Sum, Avg}
use Rattle.typing.specs.declared.typed.SetOperator.{SetOperator}
use Rattle.typing.specs.declared.typed.SetOperator.TheVariants.{Except, Intersect}
use Rattle.typing.specs.declared.typed.Query.TheVariants as q
use Rattle.denote.specs.declared.fault.Fault.TheVariants.{ManyRows, OutOfRange, DivisionByZero}
use Rattle.denote.specs.Outcome.{Outcome, through, whole}
use Rattle.denote.specs.Expression.{scalar}
use Rattle.denote.specs.From.{product, inner_join, left_join}
use Rattle.denote.specs.SetOperator.{set_operation}
use Rattle.denote.specs.Meaning.{query_outcome}
use Rattle.denote.proofs.Nodes.{meanings}
use Rattle.denote.proofs.ExampleTrees.{number, minus_one, below_minus_one, greatest, literal, at, plus, minus, divided, equals, differs, exceeds, items, select, grouped, from_t, from_s, column_of, one_table, two_tables, answer, faulting}

-- ---- conditions

abbrev x : Value
x = Text (120 ∷ [])

abbrev y : Value
y = Text (121 ∷ [])

-- T (A, B) has (1, 'x') and (2, NULL): SELECT A FROM T WHERE B <> 'y'
pub null_is_not_unequal :
    query_outcome (one_table ((number 1 ∷ x ∷ []) ∷ (number 2 ∷ Null ∷ []) ∷ [])) (select (items (at 0 ∷ [])) from_t (Some (differs (at 1) (e.Constant y)))) []
    ≡ answer (column_of (number 1 ∷ []))
unfolding through
null_is_not_unequal = simp meanings

-- T (A) has 1 and 2, S (A) has 1 and NULL: SELECT A FROM T WHERE A NOT IN (SELECT A FROM S)
pub not_in_with_null :
    query_outcome (two_tables (column_of (number 1 ∷ number 2 ∷ [])) (column_of (number 1 ∷ Null ∷ [])))
    (select (items (at 0 ∷ [])) from_t (Some (c.Not (c.InQuery (at 0) (select (items (at 0 ∷ [])) from_s None))))) []
    ≡ answer []
unfolding through whole
not_in_with_null = simp meanings

abbrev not_zero : Condition
not_zero = differs (at 0) (literal 0)

abbrev divides : Condition
divides = exceeds (divided (literal 10) (at 0)) (literal 1)

-- T (A) has 0 and 5: SELECT A FROM T WHERE A <> 0 AND 10 / A > 1
pub conjuncts_go_from_left_to_right :
    query_outcome (one_table (column_of (number 0 ∷ number 5 ∷ []))) (select (items (at 0 ∷ [])) from_t (Some (c.And (not_zero ∷ divides ∷ [])))) []
    ≡ answer (column_of (number 5 ∷ []))
unfolding through
conjuncts_go_from_left_to_right = simp meanings

-- the same with the conjuncts exchanged
pub conjuncts_exchanged :
    query_outcome (one_table (column_of (number 0 ∷ number 5 ∷ []))) (select (items (at 0 ∷ [])) from_t (Some (c.And (divides ∷ not_zero ∷ [])))) []
    ≡ faulting (column_of (number 5 ∷ [])) (DivisionByZero ∷ [])
unfolding through
conjuncts_exchanged = simp meanings

-- T (C, D) has (NULL, 0): SELECT D FROM T WHERE C = 1 AND 10 / D > 1
pub unknown_does_not_stop_and :
    query_outcome (one_table ((Null ∷ number 0 ∷ []) ∷ []))
    (select (items (at 1 ∷ [])) from_t (Some (c.And (equals (at 0) (literal 1) ∷ exceeds (divided (literal 10) (at 1)) (literal 1) ∷ [])))) []
    ≡ faulting [] (DivisionByZero ∷ [])
unfolding through
unknown_does_not_stop_and = simp meanings

-- T (X) has 0, S (Y) is empty: SELECT X FROM T, S WHERE 1 / X > 0
pub filter_sees_only_pairs :
    query_outcome (two_tables (column_of (number 0 ∷ [])) [])
    (select (items (at 0 ∷ [])) (f.Product from_t from_s) (Some (exceeds (divided (literal 1) (at 0)) (literal 0)))) []
    ≡ answer []
unfolding through product
filter_sees_only_pairs = simp meanings

-- T (V) has 'it''s': SELECT V FROM T WHERE V LIKE 'i_''%'
pub like_with_wildcards :
    query_outcome (one_table (column_of (Text (105 ∷ 116 ∷ 39 ∷ 115 ∷ []) ∷ [])))
    (select (items (at 0 ∷ [])) from_t (Some (c.Like (at 0) (e.Constant (Text (105 ∷ 95 ∷ 39 ∷ 37 ∷ [])))))) []
    ≡ answer (column_of (Text (105 ∷ 116 ∷ 39 ∷ 115 ∷ []) ∷ []))
unfolding through
like_with_wildcards = simp meanings

-- ---- expressions, at T (A) with NULL

abbrev at_null : Expression → Outcome
at_null expression = query_outcome (one_table (column_of (Null ∷ []))) (select (items (expression ∷ [])) from_t None) []

-- A / 0
pub null_divided_by_zero : at_null (divided (at 0) (literal 0)) ≡ answer (column_of (Null ∷ []))
unfolding through
null_divided_by_zero = simp meanings

-- A + 1 / 0
pub operands_come_first : at_null (plus (at 0) (divided (literal 1) (literal 0))) ≡ faulting [] (DivisionByZero ∷ [])
unfolding through
operands_come_first = simp meanings

-- -7 / 2
pub division_cuts_toward_zero : at_null (divided (e.Constant (below_minus_one 6)) (literal 2)) ≡ answer (column_of (below_minus_one 2 ∷ []))
unfolding through
division_cuts_toward_zero = simp meanings

-- (-9223372036854775807 - 1) / -1
pub quotient_out_of_range :
    at_null (divided (minus (e.Constant (below_minus_one 9223372036854775806)) (literal 1)) (e.Constant minus_one))
    ≡ faulting [] (OutOfRange ∷ [])
unfolding through
quotient_out_of_range = simp meanings

-- ---- joins

abbrev left_of_two : Condition → Option Condition → Outcome
left_of_two on filter =
    query_outcome (two_tables (column_of (number 1 ∷ number 2 ∷ [])) (column_of (number 1 ∷ [])))
    (select (items (at 0 ∷ at 1 ∷ [])) (f.Left on from_t from_s 1) filter) []

-- T (X) has 1 and 2, S (Y) has 1: SELECT X, Y FROM T LEFT JOIN S ON X = Y AND Y > 5
pub left_join_pads :
    left_of_two (c.And (equals (at 0) (at 1) ∷ exceeds (at 1) (literal 5) ∷ [])) None
    ≡ answer ((number 1 ∷ Null ∷ []) ∷ (number 2 ∷ Null ∷ []) ∷ [])
unfolding through product inner_join left_join
left_join_pads = simp meanings

-- SELECT X, Y FROM T LEFT JOIN S ON X = Y WHERE Y > 5
pub filter_after_left_join : left_of_two (equals (at 0) (at 1)) (Some (exceeds (at 1) (literal 5))) ≡ answer []
unfolding through product inner_join left_join
filter_after_left_join = simp meanings

-- ---- groups

-- SELECT SUM(A) FROM T
abbrev sum_of_column : List Value → Outcome
sum_of_column values =
    query_outcome (one_table (column_of values)) (grouped (items (at 0 ∷ [])) from_t None (s.Over Sum false (at 0) ∷ [])) []

pub sums_are_exact : sum_of_column (greatest ∷ number 1 ∷ minus_one ∷ []) ≡ answer (column_of (greatest ∷ []))
unfolding through
sums_are_exact = simp meanings

pub sum_out_of_range : sum_of_column (greatest ∷ number 1 ∷ []) ≡ faulting [] (OutOfRange ∷ [])
unfolding through
sum_out_of_range = simp meanings

-- T (A, B) is empty: SELECT COUNT( * ), SUM(A) FROM T
pub one_group_over_nothing :
    query_outcome (one_table []) (grouped (items (at 0 ∷ at 1 ∷ [])) from_t None (s.CountRows ∷ s.Over Sum false (at 0) ∷ [])) []
    ≡ answer ((number 0 ∷ Null ∷ []) ∷ [])
unfolding through
one_group_over_nothing = simp meanings

-- SELECT B, COUNT( * ) FROM T GROUP BY B
pub no_group_over_nothing :
    query_outcome (one_table []) (grouped (items (at 0 ∷ at 1 ∷ [])) from_t (Some (1 ∷ [])) (s.CountRows ∷ [])) []
    ≡ answer []
unfolding through
no_group_over_nothing = simp meanings

-- T (A) has 1, 2, 2 and NULL: SELECT COUNT( * ), COUNT(A), COUNT(DISTINCT A), SUM(DISTINCT A),
-- AVG(A) FROM T
pub set_functions_drop_nulls :
    query_outcome (one_table (column_of (number 1 ∷ number 2 ∷ number 2 ∷ Null ∷ [])))
    (grouped (items (at 0 ∷ at 1 ∷ at 2 ∷ at 3 ∷ at 4 ∷ [])) from_t None
    (s.CountRows ∷ s.Over Count false (at 0) ∷ s.Over Count true (at 0) ∷ s.Over Sum true (at 0) ∷ s.Over Avg false (at 0) ∷ [])) []
    ≡ answer ((number 4 ∷ number 3 ∷ number 2 ∷ number 3 ∷ number 1 ∷ []) ∷ [])
unfolding through
set_functions_drop_nulls = simp meanings

-- T (A, B) has (NULL, 1), (NULL, 2) and (3, 4): SELECT A, SUM(B) FROM T GROUP BY A
pub nulls_form_one_group :
    query_outcome (one_table ((Null ∷ number 1 ∷ []) ∷ (Null ∷ number 2 ∷ []) ∷ (number 3 ∷ number 4 ∷ []) ∷ []))
    (grouped (items (at 0 ∷ at 1 ∷ [])) from_t (Some (0 ∷ [])) (s.Over Sum false (at 1) ∷ [])) []
    ≡ answer ((Null ∷ number 3 ∷ []) ∷ (number 3 ∷ number 4 ∷ []) ∷ [])
unfolding through
nulls_form_one_group = simp meanings

-- ---- subqueries and set operators

-- T (A) has 1 and 2: SELECT (SELECT A FROM T) FROM T, each row of which has the fault
pub more_than_one_row :
    query_outcome (one_table (column_of (number 1 ∷ number 2 ∷ []))) (select (items (e.Scalar (select (items (at 0 ∷ [])) from_t None) ∷ [])) from_t None) []
    ≡ faulting [] (ManyRows ∷ ManyRows ∷ [])
unfolding through scalar
more_than_one_row = simp meanings

-- T (V) has x, x, x and y, S (V) has x, y and y
abbrev combined_by : SetOperator → Bool → Outcome
combined_by operator all =
    query_outcome (two_tables (column_of (x ∷ x ∷ x ∷ y ∷ [])) (column_of (x ∷ y ∷ y ∷ [])))
    (q.Combined (select (items (at 0 ∷ [])) from_t None) ((record { operator = operator; all = all }, select (items (at 0 ∷ [])) from_s None) ∷ [])) []

pub except_all_keeps_the_rest : combined_by Except true ≡ answer (column_of (x ∷ x ∷ []))
unfolding through set_operation
except_all_keeps_the_rest = simp meanings

pub intersect_all_keeps_the_least : combined_by Intersect true ≡ answer (column_of (x ∷ y ∷ []))
unfolding through set_operation
intersect_all_keeps_the_least = simp meanings

pub except_drops_what_is_right : combined_by Except false ≡ answer []
unfolding through set_operation
except_drops_what_is_right = simp meanings
