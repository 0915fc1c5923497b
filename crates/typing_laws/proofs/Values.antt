-- The types of what operations and set functions make of values, and of the values of a row.
use Rattle.std.proofs.Common.{◌≡◌, refl, ap, subst, ℕ, zero, suc, ℤ, pos, negsuc, Bool, true, false, not, List, [], ◌∷◌, ◌++◌, map, length, drop, Ok, Err, IfOk, All, Contains, Some, inl, inr, slice_get, slice_index_or, arith}
use Rattle.std.specs.Prelude.{◌+ℤ◌, ◌-ℤ◌, ◌*ℤ◌, int_div, nat_le, fold, replicate, if◌then◌else◌}
use Rattle.std.specs.Ordering.{is_lt}
use Rattle.std.proofs.lemmas.List.Elements.{All-head, All-tail, All-filter, All-contains_itself}
use Rattle.std.proofs.lemmas.Option.{none-some, same_Some}
use Rattle.sqlval.specs.declared.code.Code.TheVariants.{OutOfRange, TextTooLong}
use Rattle.sqlval.specs.declared.value.Value.{Value}
use Rattle.sqlval.specs.declared.value.Value.TheVariants.{Null, Int}
use Rattle.sqlval.specs.declared.value.Value.TheVariants as value
use Rattle.sqlval.specs.declared.value.ValueType.{ValueType}
use Rattle.sqlval.specs.declared.value.ValueType.TheVariants.{Integer, Text}
use Rattle.sqlval.specs.Arithmetic.{fits, in_range, sum_of, difference_of, product_of, quotient_of}
use Rattle.sqlval.specs.Comparison.{value_order}
use Rattle.sqlval.specs.Concatenation.{concatenation as concatenation_of}
use Rattle.sqlval.specs.Matching.{key_of}
use Rattle.sqlval.specs.Value.{Row, is_null}
use Rattle.typing.specs.declared.typed.Arithmetic.{Arithmetic}
use Rattle.typing.specs.declared.typed.Arithmetic.TheVariants.{Add, Subtract, Multiply, Divide}
use Rattle.typing.specs.declared.typed.SetFunctionType.{SetFunctionType}
use Rattle.typing.specs.declared.typed.SetFunctionType.TheVariants.{Count, Sum, Avg, Min, Max}
use Rattle.denote.specs.Bag.{is_alike}
use Rattle.denote.specs.Evaluation.{Env, Evaluation, ◌>>=◌, given, joined, together}
use Rattle.denote.specs.Expression.{ExpressionMeaning, beyond_one, calculated, cell, chained, column, concatenation, negated, only_value, scalar}
use Rattle.denote.specs.Group.{aggregated, beyond_count, count_of_rows, greater, lesser, set_function, taken, total}
use Rattle.denote.specs.Outcome.{Outcome}
use Rattle.typing_laws.specs.WellTyped.{Rows}
use Rattle.typing_laws.specs.Types.{AreRows, HasTypes, IsOfType, SeesRows}
use Rattle.typing_laws.proofs.Lists.{All-distinct, adding-has, follows-has, next-has, together-has, unless-has}

-- ---- operations, whatever their operands are

in_range-typed : (z : ℤ) → IfOk (given (in_range z)) (IsOfType Integer)
in_range-typed z = at (fits z)
  where
    at : (b : Bool) → IfOk (given (if b then Ok (Int z) else Err OutOfRange)) (IsOfType Integer)
    at true = inr refl
    at false = tt

sum-typed : (x y : Value) → IfOk (given (sum_of x y)) (IsOfType Integer)
sum-typed Null y = inl refl
sum-typed (Int x) Null = inl refl
sum-typed (Int x) (Int y) = in_range-typed (x +ℤ y)
sum-typed (Int x) (value.Text y) = inl refl
sum-typed (value.Text x) y = inl refl

difference-typed : (x y : Value) → IfOk (given (difference_of x y)) (IsOfType Integer)
difference-typed Null y = inl refl
difference-typed (Int x) Null = inl refl
difference-typed (Int x) (Int y) = in_range-typed (x -ℤ y)
difference-typed (Int x) (value.Text y) = inl refl
difference-typed (value.Text x) y = inl refl

product-typed : (x y : Value) → IfOk (given (product_of x y)) (IsOfType Integer)
product-typed Null y = inl refl
product-typed (Int x) Null = inl refl
product-typed (Int x) (Int y) = in_range-typed (x *ℤ y)
product-typed (Int x) (value.Text y) = inl refl
product-typed (value.Text x) y = inl refl

quotient-typed : (x y : Value) → IfOk (given (quotient_of x y)) (IsOfType Integer)
quotient-typed Null y = inl refl
quotient-typed (Int x) Null = inl refl
quotient-typed (Int x) (Int (pos zero)) = tt
quotient-typed (Int x) (Int (pos (suc n))) = in_range-typed (int_div x (pos (suc n)))
quotient-typed (Int x) (Int (negsuc n)) = in_range-typed (int_div x (negsuc n))
quotient-typed (Int x) (value.Text y) = inl refl
quotient-typed (value.Text x) y = inl refl

calculated-typed : (op : Arithmetic) (x y : Value) → IfOk (calculated op x y) (IsOfType Integer)
calculated-typed Add x y = sum-typed x y
calculated-typed Subtract x y = difference-typed x y
calculated-typed Multiply x y = product-typed x y
calculated-typed Divide x y = quotient-typed x y

pub chained-typed : (x : Evaluation Value) (others : List (Arithmetic × ExpressionMeaning)) (env : Env) → IfOk x (IsOfType Integer) → IfOk (chained x others env) (IsOfType Integer)
chained-typed x [] env h = h
chained-typed x ((op, operand) ∷ others) env h =
    chained-typed (x >>= (λ left. operand env >>= (λ right. calculated op left right))) others env
    (follows-has (IsOfType Integer) x (λ left. operand env >>= (λ right. calculated op left right))
    (λ left. follows-has (IsOfType Integer) (operand env) (λ right. calculated op left right) (λ right. calculated-typed op left right)))

pub negated-typed : (x : Evaluation Value) → IfOk (x >>= negated) (IsOfType Integer)
negated-typed x = follows-has (IsOfType Integer) x negated (λ a. calculated-typed Subtract (Int (pos 0)) a)

joint-typed : (x y : Value) → IfOk (given (concatenation_of x y)) (IsOfType Text)
joint-typed Null y = inl refl
joint-typed (Int x) y = inl refl
joint-typed (value.Text x) Null = inl refl
joint-typed (value.Text x) (Int y) = inl refl
joint-typed (value.Text x) (value.Text y) = at (nat_le (length (x ++ y)) 1000)
  where
    at : (b : Bool) → IfOk (given (if b then Ok (value.Text (x ++ y)) else Err TextTooLong)) (IsOfType Text)
    at true = inr refl
    at false = tt

pub concatenation-typed : (x : Evaluation Value) (others : List ExpressionMeaning) (env : Env) → IfOk x (IsOfType Text) → IfOk (concatenation x others env) (IsOfType Text)
concatenation-typed x [] env h = h
concatenation-typed x (operand ∷ others) env h =
    concatenation-typed (x >>= (λ left. operand env >>= (λ right. given (concatenation_of left right)))) others env
    (follows-has (IsOfType Text) x (λ left. operand env >>= (λ right. given (concatenation_of left right)))
    (λ left. follows-has (IsOfType Text) (operand env) (λ right. given (concatenation_of left right)) (λ right. joint-typed left right)))

-- ---- the values of a row

pub value_at : (types : List ValueType) (row : Row) (place : ℕ) (type : ValueType) → HasTypes types row → slice_get types place ≡ Some type → IsOfType type (cell row place)
value_at [] row place type h e = absurd (none-some type e)
value_at (t ∷ types) [] place type h e = absurd h
value_at (t ∷ types) (v ∷ row) zero type h e = subst (λ u. IsOfType u v) (same_Some t type e) h.0
value_at (t ∷ types) (v ∷ row) (suc place) type h e = value_at types row place type h.1 e

row_at : (rows : Rows) (env : Env) (depth : ℕ) (types : List ValueType) → SeesRows rows env → slice_get rows depth ≡ Some types → HasTypes types (slice_index_or env depth [])
row_at [] env depth types h e = absurd (none-some types e)
row_at (ts ∷ rows) [] depth types h e = absurd h
row_at (ts ∷ rows) (row ∷ env) zero types h e = subst (λ us. HasTypes us row) (same_Some ts types e) h.0
row_at (ts ∷ rows) (row ∷ env) (suc depth) types h e = row_at rows env depth types h.1 e

pub column-typed : (rows : Rows) (env : Env) (depth place : ℕ) (row : List ValueType) (type : ValueType) → SeesRows rows env → slice_get rows depth ≡ Some row → slice_get row place ≡ Some type
    → IsOfType type (column env depth place)
column-typed rows env depth place row type sees there here = value_at row (slice_index_or env depth []) place type (row_at rows env depth row sees there) here

pub appended : (ts us : List ValueType) (row other : Row) → HasTypes ts row → HasTypes us other → HasTypes (ts ++ us) (row ++ other)
appended [] us [] other h k = k
appended [] us (v ∷ row) other h k = absurd h
appended (t ∷ ts) us [] other h k = absurd h
appended (t ∷ ts) us (v ∷ row) other h k = (h.0, appended ts us row other h.1 k)

pub nulls-typed : (types : List ValueType) → HasTypes types (replicate (length types) Null)
nulls-typed [] = tt
nulls-typed (t ∷ types) = (inl refl, nulls-typed types)

pub key-typed : (from : List ValueType) (columns : List ℕ) (types : List ValueType) → map (slice_get from) columns ≡ map Some types → (row : Row) → HasTypes from row → HasTypes types (key_of columns row)
key-typed from [] [] e row h = tt
key-typed from [] (t ∷ types) e row h = absurd (omega (arith, ap length e))
key-typed from (c ∷ columns) [] e row h = absurd (omega (arith, ap length e))
key-typed from (c ∷ columns) (t ∷ types) e row h =
    (value_at from row c t h (same_Some (slice_get from c) (Some t) (ap (λ l. slice_get l 0) e)), key-typed from columns types (ap (drop 1) e) row h)

pub joined-typed : (type : ValueType) (types : List ValueType) (x : Evaluation Value) (xs : Evaluation Row) → IfOk x (IsOfType type) → IfOk xs (HasTypes types) → IfOk (joined x xs) (HasTypes (type ∷ types))
joined-typed type types (Ok x) (Ok xs) h k = (h, k)
joined-typed type types (Ok x) (Err faults) h k = tt
joined-typed type types (Err faults) xs h k = tt

-- ---- a scalar subquery

first-typed : (type : ValueType) (row : Row) → HasTypes (type ∷ []) row → IsOfType type (cell row 0)
first-typed type [] h = absurd h
first-typed type (v ∷ row) h = h.0

only-typed : (type : ValueType) (rows : List Row) → AreRows (type ∷ []) rows → IsOfType type (only_value rows)
only-typed type [] h = inl refl
only-typed type (row ∷ rows) h = first-typed type row (All-head (HasTypes (type ∷ [])) row rows h)

pub scalar-typed : (type : ValueType) (o : Outcome) → AreRows (type ∷ []) o.rows → IfOk (scalar o) (IsOfType type)
unfolding scalar
scalar-typed type o h = unless-has (IsOfType type) (o.faults ++ beyond_one o.rows) (only_value o.rows) (only-typed type o.rows h)

-- ---- set functions

pub count-typed : (env : Env) (rows : List Row) → IfOk (count_of_rows env rows) (IsOfType Integer)
count-typed env rows = in_range-typed (pos (length rows))

counted-typed : (xs : List Value) → IfOk (given (aggregated Count xs)) (IsOfType Integer)
counted-typed xs = in_range-typed (pos (length xs))

summed-typed : (xs : List Value) → IfOk (given (aggregated Sum xs)) (IsOfType Integer)
summed-typed [] = inl refl
summed-typed (x ∷ xs) = in_range-typed (total (x ∷ xs))

averaged-typed : (xs : List Value) → IfOk (given (aggregated Avg xs)) (IsOfType Integer)
averaged-typed [] = inl refl
averaged-typed (x ∷ xs) = in_range-typed (int_div (total (x ∷ xs)) (pos (length (x ∷ xs))))

-- one of two values with a property has it
picked : (P : Value → Type 0) (b : Bool) (x y : Value) → P x → P y → P (if b then y else x)
picked P true x y h k = k
picked P false x y h k = h

folded : (P : Value → Type 0) (f : Value → Value → Value) → ((x y : Value) → P x → P y → P (f x y)) → (x : Value) (xs : List Value) → P x → All P xs → P (fold f x xs)
folded P f good x [] h k = h
folded P f good x (y ∷ xs) h k = folded P f good (f x y) xs (good x y h (All-head P y xs k)) (All-tail P y xs k)

least-typed : (type : ValueType) (xs : List Value) → All (IsOfType type) xs → IfOk (given (aggregated Min xs)) (IsOfType type)
least-typed type [] h = inl refl
least-typed type (x ∷ xs) h =
    folded (IsOfType type) lesser (λ a b. picked (IsOfType type) (is_lt (value_order b a)) a b) x xs (All-head (IsOfType type) x xs h) (All-tail (IsOfType type) x xs h)

greatest-typed : (type : ValueType) (xs : List Value) → All (IsOfType type) xs → IfOk (given (aggregated Max xs)) (IsOfType type)
greatest-typed type [] h = inl refl
greatest-typed type (x ∷ xs) h =
    folded (IsOfType type) greater (λ a b. picked (IsOfType type) (is_lt (value_order a b)) a b) x xs (All-head (IsOfType type) x xs h) (All-tail (IsOfType type) x xs h)

taken-has : (P : Value → Type 0) (is_distinct : Bool) (xs : List Value) → All P xs → All P (taken is_distinct xs)
taken-has P false xs h = All-filter (λ x. not (is_null x)) P xs h
taken-has P true xs h = All-distinct P is_alike _ (All-filter (λ x. not (is_null x)) P xs h)

-- a set function whose result has a type, whatever its arguments are
any_function : (function : SetFunctionType) (type : ValueType) → ((xs : List Value) → IfOk (given (aggregated function xs)) (IsOfType type))
    → (is_distinct : Bool) (argument : ExpressionMeaning) (env : Env) (rows : List Row) → IfOk (set_function function is_distinct argument env rows) (IsOfType type)
any_function function type good is_distinct argument env rows =
    adding-has (IsOfType type) (beyond_count rows) (together (map (λ row. argument (row ∷ env)) rows) >>= (λ xs. given (aggregated function (taken is_distinct xs))))
    (follows-has (IsOfType type) (together (map (λ row. argument (row ∷ env)) rows)) (λ xs. given (aggregated function (taken is_distinct xs))) (λ xs. good (taken is_distinct xs)))

pub count_function : (is_distinct : Bool) (argument : ExpressionMeaning) (env : Env) (rows : List Row) → IfOk (set_function Count is_distinct argument env rows) (IsOfType Integer)
count_function = any_function Count Integer counted-typed

pub sum_function : (is_distinct : Bool) (argument : ExpressionMeaning) (env : Env) (rows : List Row) → IfOk (set_function Sum is_distinct argument env rows) (IsOfType Integer)
sum_function = any_function Sum Integer summed-typed

pub average_function : (is_distinct : Bool) (argument : ExpressionMeaning) (env : Env) (rows : List Row) → IfOk (set_function Avg is_distinct argument env rows) (IsOfType Integer)
average_function = any_function Avg Integer averaged-typed

-- the argument has values of this type at the rows of a group
abbrev pub HasTypeAt : ValueType → ExpressionMeaning → Env → List Row → Type 0
HasTypeAt type argument env rows = (row : Row) → Contains rows row → IfOk (argument (row ∷ env)) (IsOfType type)

-- a set function that is one of the values of its argument
one_of_them : (function : SetFunctionType) (type : ValueType) → ((xs : List Value) → All (IsOfType type) xs → IfOk (given (aggregated function xs)) (IsOfType type))
    → (is_distinct : Bool) (argument : ExpressionMeaning) (env : Env) (rows : List Row) → HasTypeAt type argument env rows → IfOk (set_function function is_distinct argument env rows) (IsOfType type)
one_of_them function type good is_distinct argument env rows h =
    adding-has (IsOfType type) (beyond_count rows) (together (map (λ row. argument (row ∷ env)) rows) >>= (λ xs. given (aggregated function (taken is_distinct xs))))
    (next-has (All (IsOfType type)) (IsOfType type) (together (map (λ row. argument (row ∷ env)) rows)) (λ xs. given (aggregated function (taken is_distinct xs)))
    (together-has (Contains rows) (IsOfType type) (λ row. argument (row ∷ env)) h rows (All-contains_itself rows)) (λ xs k. good (taken is_distinct xs) (taken-has (IsOfType type) is_distinct xs k)))

pub minimum_function : (type : ValueType) (is_distinct : Bool) (argument : ExpressionMeaning) (env : Env) (rows : List Row) → HasTypeAt type argument env rows
    → IfOk (set_function Min is_distinct argument env rows) (IsOfType type)
minimum_function type = one_of_them Min type (least-typed type)

pub maximum_function : (type : ValueType) (is_distinct : Bool) (argument : ExpressionMeaning) (env : Env) (rows : List Row) → HasTypeAt type argument env rows
    → IfOk (set_function Max is_distinct argument env rows) (IsOfType type)
maximum_function type = one_of_them Max type (greatest-typed type)
