-- Worked queries with groups: a tree, tables, and its outcome.
use Rattle.std.proofs.Common.{◌≡◌, List, [], ◌∷◌, Some, None, true, false}
use Rattle.sqlval.specs.declared.value.Value.{Value}
use Rattle.sqlval.specs.declared.value.Value.TheVariants.{Null}
use Rattle.sqlval.specs.Value.{Row}
use Rattle.typing.specs.declared.typed.Expression.{Expression}
use Rattle.typing.specs.declared.typed.Expression.TheVariants as e
use Rattle.typing.specs.declared.typed.Condition.{Condition}
use Rattle.typing.specs.declared.typed.Condition.TheVariants as c
use Rattle.typing.specs.declared.typed.SetFunction.{SetFunction}
use Rattle.typing.specs.declared.typed.SetFunction.TheVariants as s
use Rattle.typing.specs.declared.typed.SetFunctionType.TheVariants.{Count, Sum, Avg, Min, Max}
use Rattle.denote.specs.declared.fault.Fault.TheVariants.{OutOfRange, DivisionByZero}
use Rattle.denote.specs.Outcome.{Outcome, through}
use Rattle.denote.specs.Meaning.{query_outcome}
use Rattle.denote.proofs.Nodes.{meanings}
use Rattle.denote.proofs.ExampleTrees.{number, minus_one, below_minus_one, greatest, literal, at, plus, minus, divided, exceeds, items, grouped, grouped_having, from_t, column_of, one_table, answer, faulting}

-- ---- set functions

-- SELECT function(A) FROM T
abbrev over_column : SetFunction → List Value → Outcome
over_column function values = query_outcome (one_table (column_of values)) (grouped (items (at 0 ∷ [])) from_t None (function ∷ [])) []

-- T (A) has -1 and -2: SELECT AVG(A) FROM T
pub average_is_cut_toward_zero : over_column (s.Over Avg false (at 0)) (minus_one ∷ below_minus_one 1 ∷ []) ≡ answer (column_of (minus_one ∷ []))
unfolding through
average_is_cut_toward_zero = simp meanings

-- T (A) has 9223372036854775807 twice: SELECT AVG(A) FROM T
pub average_is_of_the_exact_sum : over_column (s.Over Avg false (at 0)) (greatest ∷ greatest ∷ []) ≡ answer (column_of (greatest ∷ []))
unfolding through
average_is_of_the_exact_sum = simp meanings

-- T (A) has 9223372036854775807 twice: SELECT SUM(DISTINCT A) FROM T
pub sum_of_distinct_values : over_column (s.Over Sum true (at 0)) (greatest ∷ greatest ∷ []) ≡ answer (column_of (greatest ∷ []))
unfolding through
sum_of_distinct_values = simp meanings

-- T (B) has 0 and 5: SELECT MAX(10 / B + (B + 9223372036854775807)) FROM T
pub argument_faults_of_all_rows :
    over_column (s.Over Max false (plus (divided (literal 10) (at 0)) (plus (at 0) (e.Constant greatest)))) (number 0 ∷ number 5 ∷ [])
    ≡ faulting [] (DivisionByZero ∷ OutOfRange ∷ [])
unfolding through
argument_faults_of_all_rows = simp meanings

-- T (B) has 0 and 5: SELECT SUM(10 / B), MAX(B + 9223372036854775807) FROM T
pub faults_of_all_set_functions :
    query_outcome (one_table (column_of (number 0 ∷ number 5 ∷ [])))
    (grouped (items (at 0 ∷ at 1 ∷ [])) from_t None (s.Over Sum false (divided (literal 10) (at 0)) ∷ s.Over Max false (plus (at 0) (e.Constant greatest)) ∷ [])) []
    ≡ faulting [] (DivisionByZero ∷ OutOfRange ∷ [])
unfolding through
faults_of_all_set_functions = simp meanings

-- T (G, A) has (1, NULL), (1, NULL), (2, 5) and (NULL, NULL): SELECT G, COUNT( * ), COUNT(A),
-- SUM(A), AVG(A), MIN(A), MAX(A) FROM T GROUP BY G
pub groups_of_nulls_alone :
    query_outcome (one_table ((number 1 ∷ Null ∷ []) ∷ (number 1 ∷ Null ∷ []) ∷ (number 2 ∷ number 5 ∷ []) ∷ (Null ∷ Null ∷ []) ∷ []))
    (grouped (items (at 0 ∷ at 1 ∷ at 2 ∷ at 3 ∷ at 4 ∷ at 5 ∷ at 6 ∷ [])) from_t (Some (0 ∷ []))
    (s.CountRows ∷ s.Over Count false (at 1) ∷ s.Over Sum false (at 1) ∷ s.Over Avg false (at 1) ∷ s.Over Min false (at 1) ∷ s.Over Max false (at 1) ∷ [])) []
    ≡ answer
    ((number 1 ∷ number 2 ∷ number 0 ∷ Null ∷ Null ∷ Null ∷ Null ∷ [])
    ∷ (number 2 ∷ number 1 ∷ number 1 ∷ number 5 ∷ number 5 ∷ number 5 ∷ number 5 ∷ [])
    ∷ (Null ∷ number 1 ∷ number 0 ∷ Null ∷ Null ∷ Null ∷ Null ∷ [])
    ∷ [])
unfolding through
groups_of_nulls_alone = simp meanings

-- T (A) has 3, NULL, -2 and 1: SELECT MIN(A), MAX(A) FROM T
pub least_and_greatest_drop_nulls :
    query_outcome (one_table (column_of (number 3 ∷ Null ∷ below_minus_one 1 ∷ number 1 ∷ [])))
    (grouped (items (at 0 ∷ at 1 ∷ [])) from_t None (s.Over Min false (at 0) ∷ s.Over Max false (at 0) ∷ [])) []
    ≡ answer ((below_minus_one 1 ∷ number 3 ∷ []) ∷ [])
unfolding through
least_and_greatest_drop_nulls = simp meanings

-- ---- HAVING

-- T (A, B) has (1, 0), (1, 5), (2, 5) and (3, 1)
abbrev of_three_groups : List Row
of_three_groups = (number 1 ∷ number 0 ∷ []) ∷ (number 1 ∷ number 5 ∷ []) ∷ (number 2 ∷ number 5 ∷ []) ∷ (number 3 ∷ number 1 ∷ []) ∷ []

-- SELECT list FROM T GROUP BY A HAVING condition: the first column is A, and those after it the set
-- functions
abbrev by_first : List Row → List Expression → List SetFunction → Condition → Outcome
by_first rows list functions having = query_outcome (one_table rows) (grouped_having (items list) from_t None (Some (0 ∷ [])) functions (Some having)) []

-- SELECT A, SUM(B) FROM T GROUP BY A HAVING SUM(B) > 4
pub having_keeps_and_drops :
    by_first of_three_groups (at 0 ∷ at 1 ∷ []) (s.Over Sum false (at 1) ∷ []) (exceeds (at 1) (literal 4))
    ≡ answer ((number 1 ∷ number 5 ∷ []) ∷ (number 2 ∷ number 5 ∷ []) ∷ [])
unfolding through
having_keeps_and_drops = simp meanings

-- SELECT A, 10 / (A - 1) FROM T GROUP BY A HAVING A > 1
pub list_sees_kept_groups_alone :
    by_first of_three_groups (at 0 ∷ divided (literal 10) (minus (at 0) (literal 1)) ∷ []) [] (exceeds (at 0) (literal 1))
    ≡ answer ((number 2 ∷ number 10 ∷ []) ∷ (number 3 ∷ number 5 ∷ []) ∷ [])
unfolding through
list_sees_kept_groups_alone = simp meanings

-- SELECT A FROM T GROUP BY A HAVING A > 1 AND COUNT(10 / B) > 0
pub set_functions_come_before_having :
    by_first of_three_groups (at 0 ∷ []) (s.Over Count false (divided (literal 10) (at 1)) ∷ []) (c.And (exceeds (at 0) (literal 1) ∷ exceeds (at 1) (literal 0) ∷ []))
    ≡ faulting (column_of (number 2 ∷ number 3 ∷ [])) (DivisionByZero ∷ [])
unfolding through
set_functions_come_before_having = simp meanings

-- SELECT A FROM T GROUP BY A HAVING SUM(10 / B) > 0 AND 9223372036854775807 + A > 0
pub faults_of_groups_and_of_having :
    by_first of_three_groups (at 0 ∷ []) (s.Over Sum false (divided (literal 10) (at 1)) ∷ [])
    (c.And (exceeds (at 1) (literal 0) ∷ exceeds (plus (e.Constant greatest) (at 0)) (literal 0) ∷ []))
    ≡ faulting [] (DivisionByZero ∷ OutOfRange ∷ OutOfRange ∷ [])
unfolding through
faults_of_groups_and_of_having = simp meanings

-- T (A, B) has (1, 0) and (1, 5): SELECT A FROM T GROUP BY A HAVING 9223372036854775807 + A > 0 AND
-- SUM(10 / B) > 0
pub having_sees_no_group_with_faults :
    by_first ((number 1 ∷ number 0 ∷ []) ∷ (number 1 ∷ number 5 ∷ []) ∷ []) (at 0 ∷ []) (s.Over Sum false (divided (literal 10) (at 1)) ∷ [])
    (c.And (exceeds (plus (e.Constant greatest) (at 0)) (literal 0) ∷ exceeds (at 1) (literal 0) ∷ []))
    ≡ faulting [] (DivisionByZero ∷ [])
unfolding through
having_sees_no_group_with_faults = simp meanings

-- SELECT 7 FROM T WHERE A > 5 HAVING COUNT( * ) = 0, where T (A) has 5
pub one_group_of_no_row_is_kept :
    query_outcome (one_table (column_of (number 5 ∷ [])))
    (grouped_having (items (literal 7 ∷ [])) from_t (Some (exceeds (at 0) (literal 5))) None (s.CountRows ∷ []) (Some (c.Not (exceeds (at 0) (literal 0))))) []
    ≡ answer (column_of (number 7 ∷ []))
unfolding through
one_group_of_no_row_is_kept = simp meanings
