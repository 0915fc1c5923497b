-- Worked queries with faults, unknown conditions and joins: a tree, tables, and its outcome.
use Rattle.std.proofs.Common.{◌≡◌, false, List, [], ◌∷◌, Option, Some, None}
use Rattle.sqlval.specs.declared.comparison.CompOp.TheVariants as by
use Rattle.sqlval.specs.declared.truth.Truth.TheVariants.{Unknown, True}
use Rattle.sqlval.specs.declared.value.Value.{Value}
use Rattle.sqlval.specs.declared.value.Value.TheVariants.{Null}
use Rattle.sqlval.specs.Value.{Row}
use Rattle.typing.specs.declared.typed.Expression.{Expression}
use Rattle.typing.specs.declared.typed.Condition.{Condition}
use Rattle.typing.specs.declared.typed.Condition.TheVariants as c
use Rattle.typing.specs.declared.typed.SetFunction.TheVariants as s
use Rattle.typing.specs.declared.typed.SetFunctionType.TheVariants.{Count}
use Rattle.typing.specs.declared.typed.Source.TheVariants as f
use Rattle.denote.specs.declared.fault.Fault.TheVariants.{OutOfRange, DivisionByZero}
use Rattle.denote.specs.Outcome.{Outcome, through}
use Rattle.denote.specs.From.{product, inner_join, left_join}
use Rattle.denote.specs.Meaning.{query_outcome}
use Rattle.denote.proofs.Nodes.{meanings}
use Rattle.denote.proofs.ExampleTrees.{number, greatest, literal, at, plus, minus, divided, equals, differs, exceeds, items, select, grouped, from_t, from_s, from_u, column_of, one_table, two_tables, three_tables, answer, faulting}

-- ---- which faults, at T (A, B) with (0, 9223372036854775807)

abbrev at_zero_and_greatest : List Expression → Option Condition → Outcome
at_zero_and_greatest list filter = query_outcome (one_table ((number 0 ∷ greatest ∷ []) ∷ [])) (select (items list) from_t filter) []

-- 1 / A and B + 1
abbrev quotient : Expression
quotient = divided (literal 1) (at 0)

abbrev successor : Expression
successor = plus (at 1) (literal 1)

-- SELECT (B + 1) + 1 / A FROM T
pub first_operand_faults : at_zero_and_greatest (plus successor quotient ∷ []) None ≡ faulting [] (OutOfRange ∷ [])
unfolding through
first_operand_faults = simp meanings

-- SELECT 1 / A + (B + 1) FROM T
pub first_operand_faults_exchanged : at_zero_and_greatest (plus quotient successor ∷ []) None ≡ faulting [] (DivisionByZero ∷ [])
unfolding through
first_operand_faults_exchanged = simp meanings

-- SELECT 1 / A, B + 1 FROM T
pub all_items_fault : at_zero_and_greatest (quotient ∷ successor ∷ []) None ≡ faulting [] (DivisionByZero ∷ OutOfRange ∷ [])
unfolding through
all_items_fault = simp meanings

-- SELECT A FROM T WHERE 1 / A > 0 OR B + 1 > 0
pub first_disjunct_faults : at_zero_and_greatest (at 0 ∷ []) (Some (c.Or (exceeds quotient (literal 0) ∷ exceeds successor (literal 0) ∷ []))) ≡ faulting [] (DivisionByZero ∷ [])
unfolding through
first_disjunct_faults = simp meanings

-- SELECT A FROM T WHERE B + 1 > 1 / A
pub first_side_of_a_comparison_faults : at_zero_and_greatest (at 0 ∷ []) (Some (exceeds successor quotient)) ≡ faulting [] (OutOfRange ∷ [])
unfolding through
first_side_of_a_comparison_faults = simp meanings

-- SELECT 1 / A FROM T WHERE B + 1 > 0
pub list_is_not_reached : at_zero_and_greatest (quotient ∷ []) (Some (exceeds successor (literal 0))) ≡ faulting [] (OutOfRange ∷ [])
unfolding through
list_is_not_reached = simp meanings

-- ---- OR and AND, at T (A, B) with (NULL, 0), (1, 0), (0, 0) and (2, 5)

-- SELECT A FROM T WHERE condition
abbrev where_of_four : Condition → Outcome
where_of_four condition =
    query_outcome (one_table ((Null ∷ number 0 ∷ []) ∷ (number 1 ∷ number 0 ∷ []) ∷ (number 0 ∷ number 0 ∷ []) ∷ (number 2 ∷ number 5 ∷ []) ∷ []))
    (select (items (at 0 ∷ [])) from_t (Some condition)) []

-- A = 1 OR 10 / B = 2
abbrev one_or_half : Condition
one_or_half = c.Or (equals (at 0) (literal 1) ∷ equals (divided (literal 10) (at 1)) (literal 2) ∷ [])

abbrev one_and_two : List Row
one_and_two = column_of (number 1 ∷ number 2 ∷ [])

-- WHERE A = 1 OR 10 / B = 2: right of unknown and of false
pub right_of_or_is_evaluated : where_of_four one_or_half ≡ faulting one_and_two (DivisionByZero ∷ DivisionByZero ∷ [])
unfolding through
right_of_or_is_evaluated = simp meanings

-- WHERE A IS NOT NULL AND (A = 1 OR 10 / B = 2)
pub false_ends_and_at_null : where_of_four (c.And (c.Not (c.IsNull (at 0)) ∷ one_or_half ∷ [])) ≡ faulting one_and_two (DivisionByZero ∷ [])
unfolding through
false_ends_and_at_null = simp meanings

-- WHERE A > 0 AND (A = 1 OR 10 / B = 2)
pub unknown_does_not_end_and : where_of_four (c.And (exceeds (at 0) (literal 0) ∷ one_or_half ∷ [])) ≡ faulting one_and_two (DivisionByZero ∷ [])
unfolding through
unknown_does_not_end_and = simp meanings

-- T has (NULL, 0), (0, 0) and (2, 5) alone: WHERE (A > 0) IS TRUE AND (A = 1 OR 10 / B = 2)
pub is_true_makes_unknown_false :
    query_outcome (one_table ((Null ∷ number 0 ∷ []) ∷ (number 0 ∷ number 0 ∷ []) ∷ (number 2 ∷ number 5 ∷ []) ∷ []))
    (select (items (at 0 ∷ [])) from_t (Some (c.And (c.IsTruth (exceeds (at 0) (literal 0)) True ∷ one_or_half ∷ [])))) []
    ≡ answer (column_of (number 2 ∷ []))
unfolding through
is_true_makes_unknown_false = simp meanings

-- WHERE NOT (A IS NULL OR A <= 0 OR A <> 1 AND 10 / B <> 2)
pub true_ends_or :
    where_of_four (c.Not (c.Or (c.IsNull (at 0) ∷ c.Compare by.LessOrEqual (at 0) (literal 0)
    ∷ c.And (differs (at 0) (literal 1) ∷ differs (divided (literal 10) (at 1)) (literal 2) ∷ []) ∷ [])))
    ≡ answer one_and_two
unfolding through
true_ends_or = simp meanings

-- ---- BETWEEN, at T (X, L, H) with (5, NULL, 3), (5, NULL, 9), (NULL, 1, 2), (5, 1, NULL), (0, 1,
-- NULL) and (5, 9, 1)

-- SELECT X FROM T WHERE condition
abbrev where_of_bounds : Condition → Outcome
where_of_bounds condition =
    query_outcome (one_table
    ((number 5 ∷ Null ∷ number 3 ∷ [])
    ∷ (number 5 ∷ Null ∷ number 9 ∷ [])
    ∷ (Null ∷ number 1 ∷ number 2 ∷ [])
    ∷ (number 5 ∷ number 1 ∷ Null ∷ [])
    ∷ (number 0 ∷ number 1 ∷ Null ∷ [])
    ∷ (number 5 ∷ number 9 ∷ number 1 ∷ [])
    ∷ []))
    (select (items (at 0 ∷ [])) from_t (Some condition)) []

-- X BETWEEN L AND H
abbrev is_between : Condition
is_between = c.Between (at 0) (at 1) (at 2)

-- WHERE X BETWEEN L AND H: unknown and false, unknown and true, unknown, true and unknown, false,
-- false
pub between_with_nulls : where_of_bounds is_between ≡ answer []
unfolding through
between_with_nulls = simp meanings

-- WHERE X NOT BETWEEN L AND H: false at the first row and at the last two
pub not_between_with_nulls : where_of_bounds (c.Not is_between) ≡ answer (column_of (number 5 ∷ number 0 ∷ number 5 ∷ []))
unfolding through
not_between_with_nulls = simp meanings

-- WHERE (X BETWEEN L AND H) IS UNKNOWN
pub between_is_unknown : where_of_bounds (c.IsTruth is_between Unknown) ≡ answer (column_of (number 5 ∷ Null ∷ number 5 ∷ []))
unfolding through
between_is_unknown = simp meanings

-- WHERE X BETWEEN L AND 1 / (H - 1): where H is 1, X is below L
pub upper_bound_is_not_evaluated : where_of_bounds (c.Between (at 0) (at 1) (divided (literal 1) (minus (at 2) (literal 1)))) ≡ answer []
unfolding through
upper_bound_is_not_evaluated = simp meanings

-- WHERE X BETWEEN L AND 1 / (H - 9): where H is 9, L is null
pub upper_bound_is_evaluated_beside_null : where_of_bounds (c.Between (at 0) (at 1) (divided (literal 1) (minus (at 2) (literal 9)))) ≡ faulting [] (DivisionByZero ∷ [])
unfolding through
upper_bound_is_evaluated_beside_null = simp meanings

-- ---- joins, at T (X) with 1 and 2

abbrev in_t : List Row
in_t = column_of (number 1 ∷ number 2 ∷ [])

-- SELECT X, Y FROM T LEFT JOIN S ON condition, at S (Y) with these values
abbrev left_of : List Value → Condition → Outcome
left_of in_s on = query_outcome (two_tables in_t (column_of in_s)) (select (items (at 0 ∷ at 1 ∷ [])) (f.Left on from_t from_s 1) None) []

-- S (Y) has 0: ON X / Y = 1
pub faulting_pairs_are_not_padded : left_of (number 0 ∷ []) (equals (divided (at 0) (at 1)) (literal 1)) ≡ faulting [] (DivisionByZero ∷ DivisionByZero ∷ [])
unfolding through product inner_join left_join
faulting_pairs_are_not_padded = simp meanings

-- S (Y) has 0: ON X = 2 AND X / Y = 1, false for 1, which is padded, and faulting for 2
pub false_pairs_are_padded :
    left_of (number 0 ∷ []) (c.And (equals (at 0) (literal 2) ∷ equals (divided (at 0) (at 1)) (literal 1) ∷ [])) ≡ faulting ((number 1 ∷ Null ∷ []) ∷ []) (DivisionByZero ∷ [])
unfolding through product inner_join left_join
false_pairs_are_padded = simp meanings

-- S (Y) has 0 and 1: ON 1 / Y = X, for 2 once faulting and once false
pub one_faulting_pair_stops_padding :
    left_of (number 0 ∷ number 1 ∷ []) (equals (divided (literal 1) (at 1)) (at 0)) ≡ faulting ((number 1 ∷ number 1 ∷ []) ∷ []) (DivisionByZero ∷ DivisionByZero ∷ [])
unfolding through product inner_join left_join
one_faulting_pair_stops_padding = simp meanings

-- S (Y) has 0 and 1: ON Y <> 0 AND 1 / Y = X
pub guarded_pairs_are_padded :
    left_of (number 0 ∷ number 1 ∷ []) (c.And (differs (at 1) (literal 0) ∷ equals (divided (literal 1) (at 1)) (at 0) ∷ []))
    ≡ answer ((number 1 ∷ number 1 ∷ []) ∷ (number 2 ∷ Null ∷ []) ∷ [])
unfolding through product inner_join left_join
guarded_pairs_are_padded = simp meanings

-- S (Y) is empty: ON 1 / 0 = 1
pub condition_sees_pairs_alone : left_of [] (equals (divided (literal 1) (literal 0)) (literal 1)) ≡ answer ((number 1 ∷ Null ∷ []) ∷ (number 2 ∷ Null ∷ []) ∷ [])
unfolding through product inner_join left_join
condition_sees_pairs_alone = simp meanings

-- S (Y) has 0: SELECT X FROM T JOIN S ON X / Y = 1 WHERE X = 5
pub filter_drops_no_fault_of_a_join :
    query_outcome (two_tables in_t (column_of (number 0 ∷ []))) (select (items (at 0 ∷ [])) (f.Inner (equals (divided (at 0) (at 1)) (literal 1)) from_t from_s) (Some (equals (at 0) (literal 5)))) []
    ≡ faulting [] (DivisionByZero ∷ DivisionByZero ∷ [])
unfolding through product inner_join
filter_drops_no_fault_of_a_join = simp meanings

-- T (A, B) has (1, 0) and (2, 5): SELECT A FROM (SELECT A, 10 / B FROM T) D WHERE A = 2
pub derived_tables_keep_their_faults :
    query_outcome (one_table ((number 1 ∷ number 0 ∷ []) ∷ (number 2 ∷ number 5 ∷ []) ∷ []))
    (select (items (at 0 ∷ [])) (f.Derived (select (items (at 0 ∷ divided (literal 10) (at 1) ∷ [])) from_t None)) (Some (equals (at 0) (literal 2)))) []
    ≡ faulting (column_of (number 2 ∷ [])) (DivisionByZero ∷ [])
unfolding through
derived_tables_keep_their_faults = simp meanings

-- T (B) has 0, S is empty: SELECT 1 FROM (SELECT 10 / B FROM T) D, S
pub a_product_with_nothing_keeps_faults :
    query_outcome (two_tables (column_of (number 0 ∷ [])) [])
    (select (items (literal 1 ∷ [])) (f.Product (f.Derived (select (items (divided (literal 10) (at 0) ∷ [])) from_t None)) from_s) None) []
    ≡ faulting [] (DivisionByZero ∷ [])
unfolding through product
a_product_with_nothing_keeps_faults = simp meanings

-- ---- chains of joins, at T (X) with 1 and 2, S (Y) with 1 and U (W) with 1

-- SELECT X, Y, W FROM T LEFT JOIN S ON X = Y LEFT JOIN U ON condition
abbrev left_of_left : Condition → Outcome
left_of_left on =
    query_outcome (three_tables in_t (column_of (number 1 ∷ [])) (column_of (number 1 ∷ [])))
    (select (items (at 0 ∷ at 1 ∷ at 2 ∷ [])) (f.Left on (f.Left (equals (at 0) (at 1)) from_t from_s 1) from_u 1) None) []

-- ON Y = W
pub a_padded_row_is_padded_again : left_of_left (equals (at 1) (at 2)) ≡ answer ((number 1 ∷ number 1 ∷ number 1 ∷ []) ∷ (number 2 ∷ Null ∷ Null ∷ []) ∷ [])
unfolding through product inner_join left_join
a_padded_row_is_padded_again = simp meanings

-- ON Y = W OR Y IS NULL
pub a_padded_row_is_joined : left_of_left (c.Or (equals (at 1) (at 2) ∷ c.IsNull (at 1) ∷ [])) ≡ answer ((number 1 ∷ number 1 ∷ number 1 ∷ []) ∷ (number 2 ∷ Null ∷ number 1 ∷ []) ∷ [])
unfolding through product inner_join left_join
a_padded_row_is_joined = simp meanings

-- SELECT COUNT( * ), COUNT(Y) FROM T LEFT JOIN S ON X = Y
pub padded_rows_are_counted :
    query_outcome (two_tables in_t (column_of (number 1 ∷ []))) (grouped (items (at 0 ∷ at 1 ∷ [])) (f.Left (equals (at 0) (at 1)) from_t from_s 1) None (s.CountRows ∷ s.Over Count false (at 1) ∷ [])) []
    ≡ answer ((number 2 ∷ number 1 ∷ []) ∷ [])
unfolding through product inner_join left_join
padded_rows_are_counted = simp meanings
