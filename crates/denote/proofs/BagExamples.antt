-- Worked queries with DISTINCT, set operators and ORDER BY: a tree, tables, and its outcome.
use Rattle.std.proofs.Common.{◌≡◌, refl, sym, ap, subst, arith, ℕ, List, [], ◌∷◌, length, None, Bool, true, false, Ok, Err}
use Rattle.std.specs.List.Sorted.{IsSortedBy}
use Rattle.std.specs.Ordering.{is_lt}
use Rattle.std.proofs.lemmas.List.Kept.{IsSortedBy-push}
use Rattle.sqlval.specs.declared.value.Value.TheVariants.{Null}
use Rattle.sqlval.specs.Value.{Row}
use Rattle.typing.specs.declared.typed.Expression.{Expression}
use Rattle.typing.specs.declared.typed.OrderKey.{OrderKey}
use Rattle.typing.specs.declared.typed.Query.{Query}
use Rattle.typing.specs.declared.typed.Query.TheVariants as q
use Rattle.typing.specs.declared.typed.SetFunction.TheVariants as s
use Rattle.typing.specs.declared.typed.SetFunctionType.TheVariants.{Count}
use Rattle.typing.specs.declared.typed.SetOperation.{SetOperation}
use Rattle.typing.specs.declared.typed.SetOperator.{SetOperator}
use Rattle.typing.specs.declared.typed.SetOperator.TheVariants.{Union, Except, Intersect}
use Rattle.denote.specs.declared.fault.Fault.TheVariants.{OutOfRange, DivisionByZero}
use Rattle.denote.specs.Outcome.{Outcome, OrderedOutcome, through}
use Rattle.denote.specs.Answer.{Answers, by_keys}
use Rattle.denote.specs.Bag.{Permutes, keeps, exchanges, goes_on}
use Rattle.denote.specs.SetOperator.{set_operation}
use Rattle.denote.specs.Meaning.{query_outcome}
use Rattle.denote.proofs.Nodes.{meanings}
use Rattle.denote.proofs.ExampleTrees.{number, greatest, literal, at, plus, minus, divided, items, select, select_distinct, grouped, from_t, from_s, column_of, one_table, two_tables, answer, faulting}

-- ---- DISTINCT, at T (A, B) with (NULL, 1), (NULL, 1), (NULL, NULL), (1, NULL) and (1, NULL)

abbrev with_nulls : List Row
with_nulls = (Null ∷ number 1 ∷ []) ∷ (Null ∷ number 1 ∷ []) ∷ (Null ∷ Null ∷ []) ∷ (number 1 ∷ Null ∷ []) ∷ (number 1 ∷ Null ∷ []) ∷ []

abbrev distinct_of : List Expression → Outcome
distinct_of list = query_outcome (one_table with_nulls) (select_distinct (items list) from_t) []

-- SELECT DISTINCT A, B FROM T
pub null_is_alike_to_null : distinct_of (at 0 ∷ at 1 ∷ []) ≡ answer ((Null ∷ number 1 ∷ []) ∷ (Null ∷ Null ∷ []) ∷ (number 1 ∷ Null ∷ []) ∷ [])
unfolding through
null_is_alike_to_null = simp meanings

-- SELECT DISTINCT A + B FROM T
pub one_null_of_five : distinct_of (plus (at 0) (at 1) ∷ []) ≡ answer (column_of (Null ∷ []))
unfolding through
one_null_of_five = simp meanings

-- SELECT DISTINCT 10 / (A - 1) FROM T
pub distinct_keeps_faults : distinct_of (divided (literal 10) (minus (at 0) (literal 1)) ∷ []) ≡ faulting (column_of (Null ∷ [])) (DivisionByZero ∷ DivisionByZero ∷ [])
unfolding through
distinct_keeps_faults = simp meanings

-- SELECT COUNT(DISTINCT A), COUNT(A) FROM T
pub count_of_distinct_values :
    query_outcome (one_table with_nulls) (grouped (items (at 0 ∷ at 1 ∷ [])) from_t None (s.Over Count true (at 0) ∷ s.Over Count false (at 0) ∷ [])) []
    ≡ answer ((number 1 ∷ number 2 ∷ []) ∷ [])
unfolding through
count_of_distinct_values = simp meanings

-- ---- set operators, at T (A) with NULL, NULL, NULL, 1, 1 and 2 and S (B) with NULL, 1, 1, 1 and 3

abbrev all_of_t : Query
all_of_t = select (items (at 0 ∷ [])) from_t None

abbrev all_of_s : Query
all_of_s = select (items (at 0 ∷ [])) from_s None

abbrev by : SetOperator → Bool → SetOperation
by operator all = record { operator = operator; all = all }

abbrev nulls_by : SetOperator → Bool → Outcome
nulls_by operator all =
    query_outcome (two_tables (column_of (Null ∷ Null ∷ Null ∷ number 1 ∷ number 1 ∷ number 2 ∷ [])) (column_of (Null ∷ number 1 ∷ number 1 ∷ number 1 ∷ number 3 ∷ [])))
    (q.Combined all_of_t ((by operator all, all_of_s) ∷ [])) []

-- SELECT A FROM T UNION SELECT B FROM S
pub union_has_one_null : nulls_by Union false ≡ answer (column_of (Null ∷ number 1 ∷ number 2 ∷ number 3 ∷ []))
unfolding through set_operation
union_has_one_null = simp meanings

-- SELECT A FROM T UNION ALL SELECT B FROM S
pub union_all_adds :
    nulls_by Union true ≡ answer (column_of (Null ∷ Null ∷ Null ∷ Null ∷ number 1 ∷ number 1 ∷ number 1 ∷ number 1 ∷ number 1 ∷ number 2 ∷ number 3 ∷ []))
unfolding through set_operation
union_all_adds = simp meanings

-- SELECT A FROM T EXCEPT SELECT B FROM S
pub except_takes_null_away : nulls_by Except false ≡ answer (column_of (number 2 ∷ []))
unfolding through set_operation
except_takes_null_away = simp meanings

-- SELECT A FROM T EXCEPT ALL SELECT B FROM S
pub except_all_takes_one_null_away : nulls_by Except true ≡ answer (column_of (Null ∷ Null ∷ number 2 ∷ []))
unfolding through set_operation
except_all_takes_one_null_away = simp meanings

-- SELECT A FROM T INTERSECT SELECT B FROM S
pub intersect_has_null : nulls_by Intersect false ≡ answer (column_of (Null ∷ number 1 ∷ []))
unfolding through set_operation
intersect_has_null = simp meanings

-- SELECT A FROM T INTERSECT ALL SELECT B FROM S
pub intersect_all_has_the_least : nulls_by Intersect true ≡ answer (column_of (Null ∷ number 1 ∷ number 1 ∷ []))
unfolding through set_operation
intersect_all_has_the_least = simp meanings

-- T (A) has 1, 1 and 2, S (B) has 1 and 3: a chain of A, A again, and B
abbrev chain_by : SetOperation → SetOperation → Outcome
chain_by first second =
    query_outcome (two_tables (column_of (number 1 ∷ number 1 ∷ number 2 ∷ [])) (column_of (number 1 ∷ number 3 ∷ [])))
    (q.Combined all_of_t ((first, all_of_t) ∷ (second, all_of_s) ∷ [])) []

-- SELECT A FROM T UNION ALL SELECT A FROM T UNION SELECT B FROM S
pub union_comes_last : chain_by (by Union true) (by Union false) ≡ answer (column_of (number 1 ∷ number 2 ∷ number 3 ∷ []))
unfolding through set_operation
union_comes_last = simp meanings

-- SELECT A FROM T UNION SELECT A FROM T UNION ALL SELECT B FROM S
pub union_all_comes_last : chain_by (by Union false) (by Union true) ≡ answer (column_of (number 1 ∷ number 1 ∷ number 2 ∷ number 3 ∷ []))
unfolding through set_operation
union_all_comes_last = simp meanings

-- T (A, B) has (0, 9223372036854775807) and (1, 1): SELECT 1 / A FROM T by operator SELECT B + 1
-- FROM T
abbrev with_faults_by : SetOperator → Outcome
with_faults_by operator =
    query_outcome (one_table ((number 0 ∷ greatest ∷ []) ∷ (number 1 ∷ number 1 ∷ []) ∷ []))
    (q.Combined (select (items (divided (literal 1) (at 0) ∷ [])) from_t None) ((by operator false, select (items (plus (at 1) (literal 1) ∷ [])) from_t None) ∷ [])) []

pub union_has_the_faults_of_both : with_faults_by Union ≡ faulting (column_of (number 1 ∷ number 2 ∷ [])) (DivisionByZero ∷ OutOfRange ∷ [])
unfolding through set_operation
union_has_the_faults_of_both = simp meanings

pub except_has_the_faults_of_both : with_faults_by Except ≡ faulting (column_of (number 1 ∷ [])) (DivisionByZero ∷ OutOfRange ∷ [])
unfolding through set_operation
except_has_the_faults_of_both = simp meanings

-- T (A) has 0, S (B) is empty: SELECT B FROM S INTERSECT SELECT 1 / A FROM T
pub an_empty_side_hides_no_fault :
    query_outcome (two_tables (column_of (number 0 ∷ [])) []) (q.Combined all_of_s ((by Intersect false, select (items (divided (literal 1) (at 0) ∷ [])) from_t None) ∷ [])) []
    ≡ faulting [] (DivisionByZero ∷ [])
unfolding through set_operation
an_empty_side_hides_no_fault = simp meanings

-- ---- ORDER BY

abbrev ascending : ℕ → OrderKey
ascending place = record { place = place; descending = false }

abbrev descending : ℕ → OrderKey
descending place = record { place = place; descending = true }

-- three elements, none less than the one before it
sorted_three : {X : Type 0} (lt : X → X → Bool) (a b c : X) → lt b a ≡ false → lt c b ≡ false → IsSortedBy lt (a ∷ b ∷ c ∷ [])
sorted_three lt a b c first second =
    IsSortedBy-push lt (a ∷ b ∷ []) c (IsSortedBy-push lt (a ∷ []) b (IsSortedBy-push lt [] a (λ k d low high. absurd (omega (arith, high))) (λ d some. absurd (omega (arith, some)))) (λ d some. first)) (λ d some. second)

true_is_not_false : true ≡ false → ⊥
true_is_not_false e = absurd (cc)

-- T (A) has 2, NULL and 1: SELECT A FROM T ORDER BY key
abbrev all_by : OrderKey → OrderedOutcome
all_by key = record { unordered = query_outcome (one_table (column_of (number 2 ∷ Null ∷ number 1 ∷ []))) all_of_t []; keys = key ∷ [] }

-- its rows, in any order
abbrev rows_by : OrderKey → OrderedOutcome
rows_by key = record { unordered = answer (column_of (number 2 ∷ Null ∷ number 1 ∷ [])); keys = key ∷ [] }

all_are_rows : (key : OrderKey) → rows_by key ≡ all_by key
unfolding through
all_are_rows key = simp meanings

-- SELECT A FROM T ORDER BY A
pub nulls_are_lowest : Answers (Ok (column_of (Null ∷ number 1 ∷ number 2 ∷ []))) (all_by (ascending 0))
nulls_are_lowest =
    subst (Answers (Ok (column_of (Null ∷ number 1 ∷ number 2 ∷ [])))) (all_are_rows (ascending 0)) (
      refl,
      goes_on (exchanges (number 2 ∷ []) (Null ∷ []) ((number 1 ∷ []) ∷ [])) (keeps (Null ∷ []) (exchanges (number 2 ∷ []) (number 1 ∷ []) [])),
      sorted_three (λ x y. is_lt (by_keys (ascending 0 ∷ []) x y)) _ _ _ refl refl,
    )

-- SELECT A FROM T ORDER BY A DESC
pub nulls_are_last_with_desc : Answers (Ok (column_of (number 2 ∷ number 1 ∷ Null ∷ []))) (all_by (descending 0))
nulls_are_last_with_desc =
    subst (Answers (Ok (column_of (number 2 ∷ number 1 ∷ Null ∷ [])))) (all_are_rows (descending 0)) (
      refl,
      keeps (number 2 ∷ []) (exchanges (Null ∷ []) (number 1 ∷ []) []),
      sorted_three (λ x y. is_lt (by_keys (descending 0 ∷ []) x y)) _ _ _ refl refl,
    )

-- SELECT A FROM T ORDER BY A is not answered by 2, NULL, 1
pub no_answer_out_of_order : Answers (Ok (column_of (number 2 ∷ Null ∷ number 1 ∷ []))) (all_by (ascending 0)) → ⊥
no_answer_out_of_order answers = true_is_not_false (answers.2 0 [] (omega arith) (omega arith))

-- T (A, B) with (1, 20), (2, NULL) and (1, 10): SELECT A, B FROM T ORDER BY keys
abbrev pairs : List Row
pairs = (number 1 ∷ number 20 ∷ []) ∷ (number 2 ∷ Null ∷ []) ∷ (number 1 ∷ number 10 ∷ []) ∷ []

abbrev pairs_by : List OrderKey → OrderedOutcome
pairs_by keys = record { unordered = query_outcome (one_table pairs) (select (items (at 0 ∷ at 1 ∷ [])) from_t None) []; keys = keys }

pairs_are_rows : (keys : List OrderKey) → record { unordered = answer pairs; keys = keys } ≡ pairs_by keys
unfolding through
pairs_are_rows keys = simp meanings

-- (2, NULL), (1, 10), (1, 20)
abbrev by_both : List Row
by_both = (number 2 ∷ Null ∷ []) ∷ (number 1 ∷ number 10 ∷ []) ∷ (number 1 ∷ number 20 ∷ []) ∷ []

-- (2, NULL), (1, 20), (1, 10)
abbrev by_first : List Row
by_first = (number 2 ∷ Null ∷ []) ∷ (number 1 ∷ number 20 ∷ []) ∷ (number 1 ∷ number 10 ∷ []) ∷ []

to_first : Permutes pairs by_first
to_first = exchanges _ _ _

to_both : Permutes pairs by_both
to_both = goes_on to_first (keeps _ (exchanges _ _ _))

-- SELECT A, B FROM T ORDER BY A DESC, B
pub ties_go_by_the_next_key : Answers (Ok by_both) (pairs_by (descending 0 ∷ ascending 1 ∷ []))
ties_go_by_the_next_key =
    subst (Answers (Ok by_both)) (pairs_are_rows (descending 0 ∷ ascending 1 ∷ []))
    (refl, to_both, sorted_three (λ x y. is_lt (by_keys (descending 0 ∷ ascending 1 ∷ []) x y)) _ _ _ refl refl)

pub ties_do_not_come_in_any_order : Answers (Ok by_first) (pairs_by (descending 0 ∷ ascending 1 ∷ [])) → ⊥
ties_do_not_come_in_any_order answers = true_is_not_false (answers.2 1 [] (omega arith) (omega arith))

-- SELECT A, B FROM T ORDER BY A DESC
pub ties_come_in_any_order : Answers (Ok by_both) (pairs_by (descending 0 ∷ [])) × Answers (Ok by_first) (pairs_by (descending 0 ∷ []))
ties_come_in_any_order = (
  subst (Answers (Ok by_both)) (pairs_are_rows (descending 0 ∷ [])) (refl, to_both, sorted_three (λ x y. is_lt (by_keys (descending 0 ∷ []) x y)) _ _ _ refl refl),
  subst (Answers (Ok by_first)) (pairs_are_rows (descending 0 ∷ [])) (refl, to_first, sorted_three (λ x y. is_lt (by_keys (descending 0 ∷ []) x y)) _ _ _ refl refl),
)

-- ---- answers to faults

-- T (A, B) has (0, 9223372036854775807): SELECT 1 / A, B + 1 FROM T
abbrev of_two_faults : OrderedOutcome
of_two_faults =
    record { unordered = query_outcome (one_table ((number 0 ∷ greatest ∷ []) ∷ [])) (select (items (divided (literal 1) (at 0) ∷ plus (at 1) (literal 1) ∷ [])) from_t None) []; keys = [] }

two_faults : record { unordered = faulting [] (DivisionByZero ∷ OutOfRange ∷ []); keys = [] } ≡ of_two_faults
unfolding through
two_faults = simp meanings

pub either_fault_answers : Answers (Err DivisionByZero) of_two_faults × Answers (Err OutOfRange) of_two_faults
either_fault_answers = (subst (Answers (Err DivisionByZero)) two_faults (0, omega arith, refl), subst (Answers (Err OutOfRange)) two_faults (1, omega arith, refl))

pub no_rows_answer_faults : (rows : List Row) → Answers (Ok rows) of_two_faults → ⊥
no_rows_answer_faults rows answers = some_is_not_none (ap length (subst (λ o. o.unordered.faults ≡ []) (sym two_faults) answers.0))
  where
    some_is_not_none : ◌≡◌ {A = ℕ} 2 0 → ⊥
    some_is_not_none e = absurd (omega (arith, e))
