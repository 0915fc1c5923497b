-- Worked queries on values: operators, texts and tests of one row. A tree, tables, and its outcome.
use Rattle.std.proofs.Common.{◌≡◌, ℕ, List, [], ◌∷◌, Some, None, replicate}
use Rattle.sqlval.specs.declared.comparison.CompOp.TheVariants as by
use Rattle.sqlval.specs.declared.truth.Truth.TheVariants.{False, Unknown}
use Rattle.sqlval.specs.declared.value.Value.{Value}
use Rattle.sqlval.specs.declared.value.Value.TheVariants.{Null, Text}
use Rattle.typing.specs.declared.typed.Arithmetic.TheVariants.{Add, Subtract, Multiply, Divide}
use Rattle.typing.specs.declared.typed.Expression.{Expression}
use Rattle.typing.specs.declared.typed.Expression.TheVariants as e
use Rattle.typing.specs.declared.typed.Condition.{Condition}
use Rattle.typing.specs.declared.typed.Condition.TheVariants as c
use Rattle.denote.specs.declared.fault.Fault.TheVariants.{TextTooLong, OutOfRange}
use Rattle.denote.specs.Outcome.{Outcome, through}
use Rattle.denote.specs.Meaning.{query_outcome}
use Rattle.denote.proofs.Nodes.{meanings}
use Rattle.denote.proofs.ExampleTrees.{number, below_minus_one, greatest, literal, at, plus, minus, equals, differs, items, select, from_t, column_of, one_table, answer, faulting}

-- ---- integers

-- SELECT expression FROM T, at T (A) with one value
abbrev shown_at : Value → Expression → Outcome
shown_at value expression = query_outcome (one_table (column_of (value ∷ []))) (select (items (expression ∷ [])) from_t None) []

-- T has 7: A / 2 * 2
pub a_chain_goes_from_left_to_right : shown_at (number 7) (e.Calculation (at 0) ((Divide, literal 2) ∷ (Multiply, literal 2) ∷ [])) ≡ answer (column_of (number 6 ∷ []))
unfolding through
a_chain_goes_from_left_to_right = simp meanings

-- T has 10: A - 3 - 2
pub subtractions_go_from_left_to_right : shown_at (number 10) (e.Calculation (at 0) ((Subtract, literal 3) ∷ (Subtract, literal 2) ∷ [])) ≡ answer (column_of (number 5 ∷ []))
unfolding through
subtractions_go_from_left_to_right = simp meanings

-- T has 9223372036854775807: A + 1 - 1
pub each_step_is_in_range : shown_at greatest (e.Calculation (at 0) ((Add, literal 1) ∷ (Subtract, literal 1) ∷ [])) ≡ faulting [] (OutOfRange ∷ [])
unfolding through
each_step_is_in_range = simp meanings

-- T has 9223372036854775807: A * 2
pub a_product_out_of_range : shown_at greatest (e.Calculation (at 0) ((Multiply, literal 2) ∷ [])) ≡ faulting [] (OutOfRange ∷ [])
unfolding through
a_product_out_of_range = simp meanings

-- T has -9223372036854775807: -A
pub the_opposite_is_in_range : shown_at (below_minus_one 9223372036854775806) (e.Negation (at 0)) ≡ answer (column_of (greatest ∷ []))
unfolding through
the_opposite_is_in_range = simp meanings

-- T has -9223372036854775807: -(A - 1)
pub the_least_has_no_opposite : shown_at (below_minus_one 9223372036854775806) (e.Negation (minus (at 0) (literal 1))) ≡ faulting [] (OutOfRange ∷ [])
unfolding through
the_least_has_no_opposite = simp meanings

-- T has NULL: -A
pub null_has_null_as_opposite : shown_at Null (e.Negation (at 0)) ≡ answer (column_of (Null ∷ []))
unfolding through
null_has_null_as_opposite = simp meanings

-- T has NULL: A + (9223372036854775807 + 1)
pub null_hides_no_fault : shown_at Null (plus (at 0) (plus (e.Constant greatest) (literal 1))) ≡ faulting [] (OutOfRange ∷ [])
unfolding through
null_hides_no_fault = simp meanings

-- ---- texts

abbrev text : List ℕ → Expression
text codes = e.Constant (Text codes)

-- 'a', 'ab' and 'a '
abbrev a : List ℕ
a = 97 ∷ []

abbrev ab : List ℕ
ab = 97 ∷ 98 ∷ []

abbrev a_and_space : List ℕ
a_and_space = 97 ∷ 32 ∷ []

-- T has 'a': A || 'b'
pub texts_one_after_another : shown_at (Text a) (e.Concatenation (at 0) (text (98 ∷ []) ∷ [])) ≡ answer (column_of (Text ab ∷ []))
unfolding through
texts_one_after_another = simp meanings

-- T has NULL: A || 'b'
pub null_beside_a_text : shown_at Null (e.Concatenation (at 0) (text (98 ∷ []) ∷ [])) ≡ answer (column_of (Null ∷ []))
unfolding through
null_beside_a_text = simp meanings

-- T has the empty text and NULL: SELECT A || A FROM T WHERE A IS NOT NULL
pub the_empty_text_is_not_null :
    query_outcome (one_table (column_of (Text [] ∷ Null ∷ []))) (select (items (e.Concatenation (at 0) (at 0 ∷ []) ∷ [])) from_t (Some (c.Not (c.IsNull (at 0))))) []
    ≡ answer (column_of (Text [] ∷ []))
unfolding through
the_empty_text_is_not_null = simp meanings

-- so many times the letter `a`
abbrev letters : ℕ → List ℕ
letters count = replicate count 97

-- T has 500 letters: A || 500 letters, and A || 501 letters
pub a_text_of_1000_characters : shown_at (Text (letters 500)) (e.Concatenation (at 0) (text (letters 500) ∷ [])) ≡ answer (column_of (Text (letters 1000) ∷ []))
unfolding through
a_text_of_1000_characters = simp meanings

pub a_text_of_1001_characters : shown_at (Text (letters 500)) (e.Concatenation (at 0) (text (letters 501) ∷ [])) ≡ faulting [] (TextTooLong ∷ [])
unfolding through
a_text_of_1001_characters = simp meanings

-- SELECT A FROM T WHERE condition, at T (A) with these values
abbrev where_of : List Value → Condition → Outcome
where_of values condition = query_outcome (one_table (column_of values)) (select (items (at 0 ∷ [])) from_t (Some condition)) []

-- T has 'a', 'a ' and 'ab': SELECT A FROM T WHERE A = 'a'
pub spaces_at_the_end_count : where_of (Text a ∷ Text a_and_space ∷ Text ab ∷ []) (equals (at 0) (text a)) ≡ answer (column_of (Text a ∷ []))
unfolding through
spaces_at_the_end_count = simp meanings

-- T has 'a', 'a ' and 'ab': SELECT A FROM T WHERE A < 'a '
pub a_beginning_is_less : where_of (Text a ∷ Text a_and_space ∷ Text ab ∷ []) (c.Compare by.Less (at 0) (text a_and_space)) ≡ answer (column_of (Text a ∷ []))
unfolding through
a_beginning_is_less = simp meanings

-- T has 'a', 'B' and 'A': SELECT A FROM T WHERE A > 'B'
pub texts_go_by_codes : where_of (Text a ∷ Text (66 ∷ []) ∷ Text (65 ∷ []) ∷ []) (c.Compare by.Greater (at 0) (text (66 ∷ []))) ≡ answer (column_of (Text a ∷ []))
unfolding through
texts_go_by_codes = simp meanings

-- ---- LIKE, at T (A) with 'a', 'a_b', 'aXb', the empty text and NULL

abbrev a_any_b : List ℕ
a_any_b = 97 ∷ 95 ∷ 98 ∷ []

abbrev a_x_b : List ℕ
a_x_b = 97 ∷ 88 ∷ 98 ∷ []

abbrev five_texts : List Value
five_texts = Text a ∷ Text a_any_b ∷ Text a_x_b ∷ Text [] ∷ Null ∷ []

-- WHERE A LIKE 'a_b'
pub one_character : where_of five_texts (c.Like (at 0) (text a_any_b)) ≡ answer (column_of (Text a_any_b ∷ Text a_x_b ∷ []))
unfolding through
one_character = simp meanings

-- WHERE A LIKE '%'
pub any_run_of_characters : where_of five_texts (c.Like (at 0) (text (37 ∷ []))) ≡ answer (column_of (Text a ∷ Text a_any_b ∷ Text a_x_b ∷ Text [] ∷ []))
unfolding through
any_run_of_characters = simp meanings

-- WHERE A NOT LIKE '%b'
pub no_run_before_b : where_of five_texts (c.Not (c.Like (at 0) (text (37 ∷ 98 ∷ [])))) ≡ answer (column_of (Text a ∷ Text [] ∷ []))
unfolding through
no_run_before_b = simp meanings

-- WHERE 'a_b' LIKE A
pub a_column_as_pattern : where_of five_texts (c.Like (text a_any_b) (at 0)) ≡ answer (column_of (Text a_any_b ∷ []))
unfolding through
a_column_as_pattern = simp meanings

-- ---- tests, at T (A) with 1, 2 and NULL

abbrev with_null : List Value
with_null = number 1 ∷ number 2 ∷ Null ∷ []

-- WHERE A = A
pub null_is_not_equal_to_itself : where_of with_null (equals (at 0) (at 0)) ≡ answer (column_of (number 1 ∷ number 2 ∷ []))
unfolding through
null_is_not_equal_to_itself = simp meanings

-- WHERE A IN (1, 3)
pub in_a_list : where_of with_null (c.InList (at 0) (number 1 ∷ number 3 ∷ [])) ≡ answer (column_of (number 1 ∷ []))
unfolding through
in_a_list = simp meanings

-- WHERE (A = 1) IS NOT FALSE
pub unknown_is_not_false : where_of with_null (c.Not (c.IsTruth (equals (at 0) (literal 1)) False)) ≡ answer (column_of (number 1 ∷ Null ∷ []))
unfolding through
unknown_is_not_false = simp meanings

-- WHERE A = 1 OR A <> 1
pub unknown_or_unknown : where_of with_null (c.Or (equals (at 0) (literal 1) ∷ differs (at 0) (literal 1) ∷ [])) ≡ answer (column_of (number 1 ∷ number 2 ∷ []))
unfolding through
unknown_or_unknown = simp meanings

-- WHERE (A = 1 AND A IS NOT NULL) IS UNKNOWN: unknown and false is false
pub unknown_and_false : where_of with_null (c.IsTruth (c.And (equals (at 0) (literal 1) ∷ c.Not (c.IsNull (at 0)) ∷ [])) Unknown) ≡ answer []
unfolding through
unknown_and_false = simp meanings
