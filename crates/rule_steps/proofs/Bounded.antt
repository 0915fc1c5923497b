-- The bound that a comparison sets, at either end; and keys of a sort beside those of an index.
use Rattle.std.proofs.Common.{◌≡◌, refl, ap, sym, ◌∙◌, ℕ, suc, ◌<◌, Bool, true, false, List, [], ◌∷◌, length, get_or, drop, drop-cons, map, Option, Some, None, arith}
use Rattle.std.specs.List.{position_from}
use Rattle.std.specs.Prelude.{option_and_then}
use Rattle.std.specs.Option.{option_or}
use Rattle.sqlval.specs.declared.comparison.CompOp.{CompOp}
use Rattle.sqlval.specs.declared.comparison.CompOp.TheVariants as by
use Rattle.sqlval.specs.declared.value.Value.{Value}
use Rattle.algebra.specs.OrderKeys.{handed_on, is_column, key_at}
use Rattle.algebra.specs.Sorted.{ascending}
use Rattle.algebra.specs.declared.tree.Bound.{Bound}
use Rattle.algebra.specs.declared.tree.Condition.{Condition-F}
use Rattle.algebra.specs.declared.tree.Expression.{Expression}
use Rattle.rules.specs.Bounds.{high_by, literal_by, low_by}
use Rattle.rules.specs.OrderRules.{keys_begin}
use Rattle.rule_steps.specs.Ends.{bound_by, bound_in, compared_bound, inclusion}
use Rattle.rule_steps.specs.declared.bounds.End.{End}
use Rattle.rule_steps.specs.declared.bounds.End.TheVariants as end
use Rattle.typing.specs.declared.typed.OrderKey.{OrderKey}

low-same : (op : CompOp) (literal : Option Value) → bound_by (inclusion end.Low op) literal ≡ option_and_then (low_by op) literal
low-same by.Equal None = refl
low-same by.Equal (Some value) = refl
low-same by.NotEqual None = refl
low-same by.NotEqual (Some value) = refl
low-same by.Less None = refl
low-same by.Less (Some value) = refl
low-same by.Greater None = refl
low-same by.Greater (Some value) = refl
low-same by.LessOrEqual None = refl
low-same by.LessOrEqual (Some value) = refl
low-same by.GreaterOrEqual None = refl
low-same by.GreaterOrEqual (Some value) = refl

high-same : (op : CompOp) (literal : Option Value) → bound_by (inclusion end.High op) literal ≡ option_and_then (high_by op) literal
high-same by.Equal None = refl
high-same by.Equal (Some value) = refl
high-same by.NotEqual None = refl
high-same by.NotEqual (Some value) = refl
high-same by.Less None = refl
high-same by.Less (Some value) = refl
high-same by.Greater None = refl
high-same by.Greater (Some value) = refl
high-same by.LessOrEqual None = refl
high-same by.LessOrEqual (Some value) = refl
high-same by.GreaterOrEqual None = refl
high-same by.GreaterOrEqual (Some value) = refl

pub compared-is : (at : End) (column : ℕ) (op : CompOp) (left right : Expression)
    → compared_bound at column op left right ≡ bound_in at column (Condition-F.Compare op left right)
compared-is end.Low column op left right =
    λ i. option_or (low-same op (literal_by column left right) i) (high-same op (literal_by column right left) i)
compared-is end.High column op left right =
    λ i. option_or (high-same op (literal_by column left right) i) (low-same op (literal_by column right left) i)

-- ---- keys

-- a key that is left begins no empty list
keys-past : (keys : List OrderKey) (n : ℕ) → n < length keys → keys_begin (drop n keys) [] ≡ false
keys-past keys n within = ap (λ (k : List OrderKey). keys_begin k []) (drop-cons keys n (record { place = 0; descending = false }) within)

pub no-columns : (columns : List ℕ) → length columns ≡ 0 → columns ≡ []
no-columns [] e = refl
no-columns (column ∷ columns) e = absurd (omega (arith, e))

pub columns-past : (keys : List OrderKey) (n : ℕ) (items : List (Option ℕ)) (columns : List ℕ) (whole : Bool)
    → n < length keys → columns ≡ [] → keys_begin (drop n keys) (handed_on items (ascending columns)) ≡ whole → false ≡ whole
columns-past keys n items columns whole within is e = sym (keys-past keys n within)
    ∙ ap (λ (c : List ℕ). keys_begin (drop n keys) (handed_on items (ascending c))) (sym is) ∙ e

pub column-gone : (keys : List OrderKey) (n : ℕ) (items : List (Option ℕ)) (columns : List ℕ) (column : ℕ)
    (rest : List ℕ) (whole : Bool) → n < length keys → columns ≡ column ∷ rest → position_from (is_column column) 0 items ≡ None
    → keys_begin (drop n keys) (handed_on items (ascending columns)) ≡ whole → false ≡ whole
column-gone keys n items columns column rest whole within is gone e = sym (keys-past keys n within)
    ∙ ap (λ (place : Option ℕ). keys_begin (drop n keys) (key_at (record { place = column; descending = false }) place
    (handed_on items (ascending rest)))) (sym gone)
    ∙ ap (λ (c : List ℕ). keys_begin (drop n keys) (handed_on items (ascending c))) (sym is) ∙ e
