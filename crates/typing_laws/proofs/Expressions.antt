-- Expressions and conditions find with reasons, where their parts do.
use Rattle.std.proofs.Common.{◌≡◌, refl, ℕ, zero, suc, Bool, List, [], ◌∷◌, Result, Ok, Err, Option, Some, None}
use Rattle.std.specs.Prelude.{◌+◌}
use Rattle.std.specs.List.{AllByRecursion, position_from}
use Rattle.sqlval.specs.declared.code.Code.{Code}
use Rattle.sqlval.specs.declared.value.Value.{Value}
use Rattle.sqlval.specs.declared.value.ValueType.{ValueType}
use Rattle.sqlval.specs.declared.value.ValueType.TheVariants.{Integer, Text}
use Rattle.ast.specs.declared.operator.AddOperator.{AddOperator}
use Rattle.ast.specs.declared.operator.AddOperator.TheVariants as add
use Rattle.ast.specs.declared.operator.Column.{Column}
use Rattle.ast.specs.declared.operator.Comparison.{Comparison}
use Rattle.ast.specs.declared.operator.Literal.{Literal}
use Rattle.ast.specs.declared.operator.Literal.TheVariants as literal
use Rattle.ast.specs.declared.operator.MultiplyOperator.{MultiplyOperator}
use Rattle.ast.specs.declared.operator.Quantifier.{Quantifier}
use Rattle.ast.specs.declared.operator.SetFunction.{SetFunction as Written}
use Rattle.ast.specs.declared.operator.SetFunction.TheVariants as written
use Rattle.ast.specs.declared.operator.Sign.{Sign}
use Rattle.ast.specs.declared.operator.Sign.TheVariants as sign
use Rattle.typing.specs.declared.typed.Arithmetic.{Arithmetic}
use Rattle.typing.specs.declared.typed.Condition.{Condition}
use Rattle.typing.specs.declared.typed.Expression.{Expression}
use Rattle.typing.specs.declared.scope.Found.{Found}
use Rattle.typing.specs.declared.scope.Matches.{Matches}
use Rattle.typing.specs.declared.scope.Matches.TheVariants.{Nothing, One, Several}
use Rattle.typing.specs.declared.scope.TypedExpression.{TypedExpression}
use Rattle.typing.specs.Condition.{alike, between, compared, conjunction, disjunction, in_list, like, literal_of, null_test}
use Rattle.typing.specs.Expression.{as_number, calculation, concatenation, must_be, must_concatenate, only_if_same, product_chain, product_operand, signed, signed_number, sum_chain, sum_operand, sum_operator, text_operand}
use Rattle.typing.specs.Finding.{Finding}
use Rattle.typing.specs.Part.{Clause, Shown, Plain, Argument, Checked, Part}
use Rattle.typing.specs.Scope.{Scope, as_matches, column_in, has_table, in_key, located, located_from, meant, only_own, own_column, seen_in, ungrouped}
use Rattle.typing.specs.SetFunction.{Aggregate, aggregate_found, aggregate_of, aggregate_part, column_part, column_seen, count_rows, is_distinct, query_part, query_seen, value_seen}
use Rattle.typing.specs.Typing.{with_sign}
use Rattle.typing_laws.specs.Reasons.{IsReasoned}
use Rattle.typing_laws.proofs.TypeFindings.{found, faulty, goes_on, beside, all, mapped, mapped_any, displaced, either}
use Rattle.typing_laws.proofs.TypeParts.{IsSafe, IsReasonedOperand, followed, none}

-- ---- types that are asked for

typed : (wanted of : ValueType) (x : Expression) → IsReasoned (only_if_same wanted of x)
typed Integer Integer x = found
typed Integer Text x = faulty
typed Text Integer x = faulty
typed Text Text x = found

pub must : (wanted : ValueType) (x : TypedExpression) → IsReasoned (must_be wanted x)
must wanted x = typed wanted x.value_type x.expression

number : (x : Result Value Code) → IsReasoned (as_number x)
number (Ok x) = found
number (Err code) = faulty

pub signed_number-safe : (s : Option Sign) (n : ℕ) → IsReasoned (signed_number s n)
signed_number-safe None n = found
signed_number-safe (Some sign.Plus) n = found
signed_number-safe (Some sign.Minus) n = number _

signed-safe : (s : Option Sign) (x : TypedExpression) → IsReasoned (signed s x)
signed-safe None x = found
signed-safe (Some sign.Plus) x = goes_on (must Integer x) (λ e. found)
signed-safe (Some sign.Minus) x = goes_on (must Integer x) (λ e. found)

-- ---- chains

sum_operator-safe : (o : AddOperator) → IsReasoned (sum_operator o)
sum_operator-safe add.Plus = found
sum_operator-safe add.Minus = found
sum_operator-safe add.Concatenate = faulty

must_concatenate-safe : (o : AddOperator) → IsReasoned (must_concatenate o)
must_concatenate-safe add.Plus = faulty
must_concatenate-safe add.Minus = faulty
must_concatenate-safe add.Concatenate = found

sum_operand-safe : (o : AddOperator × Finding TypedExpression) → IsReasoned o.1 → IsReasoned (sum_operand o)
sum_operand-safe (o, x) h = beside (sum_operator-safe o) (goes_on h (λ a. must Integer a))

product_operand-safe : (o : MultiplyOperator × Finding TypedExpression) → IsReasoned o.1 → IsReasoned (product_operand o)
product_operand-safe (o, x) h = goes_on (goes_on h (λ a. must Integer a)) (λ e. found)

text_operand-safe : (o : AddOperator × Finding TypedExpression) → IsReasoned o.1 → IsReasoned (text_operand o)
text_operand-safe (o, x) h = goes_on (beside (must_concatenate-safe o) (goes_on h (λ a. must Text a))) (λ p. found)

calculation-safe : (first : Finding TypedExpression) (others : Finding (List (Arithmetic × Expression))) → IsReasoned first → IsReasoned others → IsReasoned (calculation first others)
calculation-safe first others h k = goes_on (beside (goes_on h (λ a. must Integer a)) k) (λ p. found)

concatenation-safe : (first : Finding TypedExpression) (others : Finding (List Expression)) → IsReasoned first → IsReasoned others → IsReasoned (concatenation first others)
concatenation-safe first others h k = goes_on (beside (goes_on h (λ a. must Text a)) k) (λ p. found)

pub sum_chain-safe : (first : Finding TypedExpression) (others : List (AddOperator × Finding TypedExpression)) → IsReasoned first → AllByRecursion IsReasonedOperand others → IsReasoned (sum_chain first others)
sum_chain-safe first [] h k = h
sum_chain-safe first ((add.Plus, x) ∷ others) h k = calculation-safe first _ h (mapped IsReasonedOperand sum_operand sum_operand-safe ((add.Plus, x) ∷ others) k)
sum_chain-safe first ((add.Minus, x) ∷ others) h k = calculation-safe first _ h (mapped IsReasonedOperand sum_operand sum_operand-safe ((add.Minus, x) ∷ others) k)
sum_chain-safe first ((add.Concatenate, x) ∷ others) h k = concatenation-safe first _ h (mapped IsReasonedOperand text_operand text_operand-safe ((add.Concatenate, x) ∷ others) k)

pub product_chain-safe : (first : Finding TypedExpression) (others : List (MultiplyOperator × Finding TypedExpression)) → IsReasoned first → AllByRecursion IsReasonedOperand others → IsReasoned (product_chain first others)
product_chain-safe first [] h k = h
product_chain-safe first (other ∷ others) h k = calculation-safe first _ h (mapped IsReasonedOperand product_operand product_operand-safe (other ∷ others) k)

-- ---- columns

located_from-safe : (column : Column) (scope : Scope) (depth : ℕ) → IsReasoned (located_from depth column scope)
located_from-safe column [] depth = faulty
located_from-safe column (frame ∷ outer) depth = at (as_matches (meant column 0 frame.columns)) refl (located_from-safe column outer (depth + 1))
  where
    at : (m : Matches) → as_matches (meant column 0 frame.columns) ≡ m → IsReasoned (located_from (depth + 1) column outer) → IsReasoned (located_from depth column (frame ∷ outer))
    at Nothing e outwards = rw e (either (has_table column.table frame) faulty outwards)
    at (One x) e outwards = rw e found
    at Several e outwards = rw e faulty

located-safe : (column : Column) (scope : Scope) → IsReasoned (located column scope)
located-safe column scope = located_from-safe column scope 0

in_key-safe : (value_type : ValueType) (depth : ℕ) (place : Option ℕ) → IsReasoned (in_key value_type depth place)
in_key-safe value_type depth None = faulty
in_key-safe value_type depth (Some place) = found

pub seen-safe : (key : Option (List ℕ)) (depth : ℕ) (x : Found) → IsReasoned (seen_in key depth x)
seen-safe None depth x = found
seen-safe (Some key) depth x = in_key-safe x.value_type depth (position_from _ 0 key)

column_in-safe : (column : Column) (scope : Scope) → IsReasoned (column_in column scope)
column_in-safe column scope = goes_on (located-safe column scope) (λ l. seen-safe l.frame.key l.depth l.column)

only_own-safe : (depth : ℕ) (x : Found) → IsReasoned (only_own depth x)
only_own-safe zero x = found
only_own-safe (suc depth) x = faulty

pub own_column-safe : (column : Column) (scope : Scope) → IsReasoned (own_column column scope)
own_column-safe column scope = goes_on (located-safe column scope) (λ l. only_own-safe l.depth l.column)

column_seen-safe : (clause : Clause) (column : Column) (scope : Scope) → IsReasoned (column_seen clause column scope)
column_seen-safe Argument column scope = goes_on (own_column-safe column scope) (λ x. found)
column_seen-safe (Shown first) column scope = column_in-safe column scope
column_seen-safe Plain column scope = column_in-safe column scope
column_seen-safe Checked column scope = column_in-safe column scope

pub column-safe : (column : Column) → IsSafe (column_part column)
column-safe column = record { functions = tt; found = λ view. column_seen-safe view.clause column view.scope }

-- ---- queries inside, and set functions

query_seen-safe : {A : Type 0} (clause : Clause) (query : Finding A) → IsReasoned query → IsReasoned (query_seen clause query)
query_seen-safe (Shown first) query h = h
query_seen-safe Plain query h = h
query_seen-safe Argument query h = displaced h
query_seen-safe Checked query h = faulty

pub query-safe : {A B : Type 0} (made : Finding A → Finding B) (query : Scope → Finding A) → ((a : Finding A) → IsReasoned a → IsReasoned (made a)) → ((scope : Scope) → IsReasoned (query scope)) → IsSafe (query_part made query)
query-safe made query good h = none (λ view. good (query_seen view.clause (query view.scope)) (query_seen-safe view.clause (query view.scope) (h view.scope)))

aggregate_of-safe : (function : Written) (is_distinct : Bool) (x : TypedExpression) → IsReasoned (aggregate_of function is_distinct x)
aggregate_of-safe written.Count is_distinct x = found
aggregate_of-safe written.Sum is_distinct x = goes_on (must Integer x) (λ e. found)
aggregate_of-safe written.Avg is_distinct x = goes_on (must Integer x) (λ e. found)
aggregate_of-safe written.Min is_distinct x = found
aggregate_of-safe written.Max is_distinct x = found

pub aggregate_found-safe : (function : Written) (quantifier : Option Quantifier) (argument : Part TypedExpression) → IsSafe argument → (scope : Scope) → IsReasoned (aggregate_found function quantifier argument scope)
aggregate_found-safe function quantifier argument h scope = goes_on (h.found (record { scope = ungrouped scope; clause = Argument })) (λ x. aggregate_of-safe function (is_distinct quantifier) x)

value_seen-safe : (clause : Clause) (aggregate : Finding Aggregate) → IsReasoned aggregate → IsReasoned (value_seen clause aggregate)
value_seen-safe (Shown first) aggregate h = goes_on h (λ a. found)
value_seen-safe Plain aggregate h = displaced h
value_seen-safe Argument aggregate h = displaced h
value_seen-safe Checked aggregate h = faulty

pub aggregate-safe : (aggregate : Scope → Finding Aggregate) → ((scope : Scope) → IsReasoned (aggregate scope)) → IsSafe (aggregate_part aggregate)
aggregate-safe aggregate h = record {
  functions = (λ scope. goes_on (h scope) (λ a. found), tt);
  found = λ view. value_seen-safe view.clause (aggregate view.scope) (h view.scope);
}

pub count_rows-safe : IsSafe (aggregate_part count_rows)
count_rows-safe = aggregate-safe count_rows (λ scope. found)

-- ---- signs

pub sign-safe : (s : Option Sign) (x : Part TypedExpression) → IsSafe x → IsSafe (with_sign x s)
sign-safe None x h = h
sign-safe (Some s) x h = followed (signed (Some s)) x (signed-safe (Some s)) h

-- ---- conditions

pub conjunction-safe : (operands : List (Finding Condition)) → AllByRecursion IsReasoned operands → IsReasoned (conjunction operands)
conjunction-safe operands h = goes_on (all operands h) (λ cs. found)

pub disjunction-safe : (operands : List (Finding Condition)) → AllByRecursion IsReasoned operands → IsReasoned (disjunction operands)
disjunction-safe operands h = goes_on (all operands h) (λ cs. found)

alike-safe : (x y : Finding TypedExpression) → IsReasoned x → IsReasoned y → IsReasoned (alike x y)
alike-safe x y h k = goes_on (beside h k) (λ p. goes_on (must _ p.1) (λ e. found))

pub compared-safe : (operator : Comparison) (x y : Finding TypedExpression) → IsReasoned x → IsReasoned y → IsReasoned (compared operator x y)
compared-safe operator x y h k = goes_on (alike-safe x y h k) (λ p. found)

pub between-safe : (n : Bool) (x low high : Finding TypedExpression) → IsReasoned x → IsReasoned low → IsReasoned high → IsReasoned (between n x low high)
between-safe n x low high h k l = goes_on (beside (alike-safe x low h k) (alike-safe x high h l)) (λ p. found)

literal_of-safe : (wanted : ValueType) (l : Literal) → IsReasoned (literal_of wanted l)
literal_of-safe Integer (literal.Number s n) = signed_number-safe s n
literal_of-safe Integer (literal.Text codes) = faulty
literal_of-safe Text (literal.Number s n) = faulty
literal_of-safe Text (literal.Text codes) = found

pub in_list-safe : (n : Bool) (x : Finding TypedExpression) (literals : List Literal) → IsReasoned x → IsReasoned (in_list n x literals)
in_list-safe n x literals h = goes_on h (λ a. goes_on (mapped_any (literal_of a.value_type) (literal_of-safe a.value_type) literals) (λ values. found))

pub like-safe : (n : Bool) (x y : Finding TypedExpression) → IsReasoned x → IsReasoned y → IsReasoned (like n x y)
like-safe n x y h k = goes_on (beside (goes_on h (λ a. must Text a)) (goes_on k (λ a. must Text a))) (λ p. found)

pub null-safe : (n : Bool) (x : Finding TypedExpression) → IsReasoned x → IsReasoned (null_test n x)
null-safe n x h = goes_on h (λ a. found)
