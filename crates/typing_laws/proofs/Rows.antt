-- The types of the rows that FROM, groups, select lists and set operators make of rows.
use Rattle.std.proofs.Common.{◌≡◌, sym, ap, subst, ℕ, Bool, true, false, List, [], ◌∷◌, ◌++◌, map, length, Ok, IfOk, All, Option, Some, None, slice_get, arith}
use Rattle.std.specs.Prelude.{flat_map, replicate, if◌then◌else◌}
use Rattle.std.proofs.lemmas.List.Elements.{All-nil, All-cons, All-head, All-tail, All-append, All-filter, All-replicate}
use Rattle.sqlval.specs.declared.truth.Truth.{Truth}
use Rattle.sqlval.specs.declared.truth.Truth.TheVariants.{False, Unknown, True}
use Rattle.sqlval.specs.declared.value.ValueType.{ValueType}
use Rattle.sqlval.specs.Matching.{key_of}
use Rattle.sqlval.specs.Value.{Row}
use Rattle.typing.specs.declared.typed.SetOperation.{SetOperation}
use Rattle.denote.specs.Bag.{are_alike, distinct, times}
use Rattle.denote.specs.Condition.{ConditionMeaning}
use Rattle.denote.specs.Evaluation.{Env, together}
use Rattle.denote.specs.Expression.{ExpressionMeaning}
use Rattle.denote.specs.From.{beside, filtered, inner_join, is_unmatched, kept, kept_row, left_join, nulls, only_true, padded, product}
use Rattle.denote.specs.Group.{SetFunctionMeaning, group_row, grouped, keys_of, members}
use Rattle.denote.specs.Outcome.{Outcome, each, through}
use Rattle.denote.specs.Select.{only, shown, shown_row, values_of}
use Rattle.denote.specs.SetOperator.{multiplicity, set_chain, set_operation}
use Rattle.typing_laws.specs.WellTyped.{key_places}
use Rattle.typing_laws.specs.Types.{AreRows, HasTypes}
use Rattle.typing_laws.proofs.Lists.{All-distinct, All-flat_map, All-mapped, each-has, follows-has, next-has, through-has}
use Rattle.typing_laws.proofs.Values.{appended, key-typed, nulls-typed}

one : (P : Row → Type 0) (row : Row) → P row → All P (row ∷ [])
one P row h = All-cons P row [] h (All-nil P)

-- ---- filters

kept-has : (P : Row → Type 0) (condition : ConditionMeaning) (env : Env) (rows : List Row) → All P rows → All P (kept condition env rows).rows
kept-has P condition env rows h =
    each-has P P (kept_row condition env) (λ row k. follows-has (All P) (condition (row ∷ env)) (λ t. Ok (only_true t row)) (λ t. at row k t)) rows h
  where
    at : (row : Row) → P row → (t : Truth) → All P (only_true t row)
    at row k False = All-nil P
    at row k Unknown = All-nil P
    at row k True = one P row k

pub filtered-has : (P : Row → Type 0) (condition : Option ConditionMeaning) (env : Env) (part : Outcome) → All P part.rows → All P (filtered condition env part).rows
filtered-has P None env part h = h
filtered-has P (Some condition) env part h = through-has P P part (kept condition env) (kept-has P condition env) h

-- ---- FROM

pub product-typed : (ls rs : List ValueType) (left right : Outcome) → AreRows ls left.rows → AreRows rs right.rows → AreRows (ls ++ rs) (product left right).rows
unfolding product
product-typed ls rs left right h k =
    All-flat_map (HasTypes ls) (HasTypes (ls ++ rs)) (λ row. beside row right.rows)
    (λ row a. All-mapped (HasTypes rs) (HasTypes (ls ++ rs)) (λ other. row ++ other) (λ other b. appended ls rs row other a b) right.rows k) left.rows h

pub inner-typed : (ls rs : List ValueType) (on : ConditionMeaning) (env : Env) (left right : Outcome) → AreRows ls left.rows → AreRows rs right.rows → AreRows (ls ++ rs) (inner_join on env left right).rows
unfolding inner_join
inner-typed ls rs on env left right h k =
    through-has (HasTypes (ls ++ rs)) (HasTypes (ls ++ rs)) (product left right) (kept on env) (kept-has (HasTypes (ls ++ rs)) on env) (product-typed ls rs left right h k)

padded-typed : (ls rs : List ValueType) (on : ConditionMeaning) (env : Env) (others : List Row) (row : Row) → HasTypes ls row → AreRows (ls ++ rs) (padded on env (length rs) others row)
padded-typed ls rs on env others row h = at (is_unmatched on env others row)
  where
    at : (b : Bool) → AreRows (ls ++ rs) (if b then (row ++ nulls (length rs)) ∷ [] else [])
    at true = one (HasTypes (ls ++ rs)) (row ++ nulls (length rs)) (appended ls rs row (nulls (length rs)) h (nulls-typed rs))
    at false = All-nil (HasTypes (ls ++ rs))

left_join-typed : (ls rs : List ValueType) (on : ConditionMeaning) (env : Env) (left right : Outcome) → AreRows ls left.rows → AreRows rs right.rows
    → AreRows (ls ++ rs) (left_join on env (length rs) left right).rows
unfolding left_join
left_join-typed ls rs on env left right h k =
    All-append (HasTypes (ls ++ rs)) (inner_join on env left right).rows (flat_map (padded on env (length rs) right.rows) left.rows) (inner-typed ls rs on env left right h k)
    (All-flat_map (HasTypes ls) (HasTypes (ls ++ rs)) (padded on env (length rs) right.rows) (λ row a. padded-typed ls rs on env right.rows row a) left.rows h)

pub left-typed : (ls rs : List ValueType) (on : ConditionMeaning) (env : Env) (width : ℕ) (left right : Outcome) → width ≡ length rs → AreRows ls left.rows → AreRows rs right.rows
    → AreRows (ls ++ rs) (left_join on env width left right).rows
left-typed ls rs on env width left right e h k = subst (λ n. AreRows (ls ++ rs) (left_join on env n left right).rows) (sym e) (left_join-typed ls rs on env left right h k)

-- ---- groups

members-have : (P : Row → Type 0) (columns : Option (List ℕ)) (key : Row) (rows : List Row) → All P rows → All P (members columns key rows)
members-have P None key rows h = h
members-have P (Some columns) key rows h = All-filter (λ row. are_alike key (key_of columns row)) P rows h

keys-typed : (from key : List ValueType) (columns : Option (List ℕ)) → map (slice_get from) (key_places columns) ≡ map Some key → (rows : List Row) → AreRows from rows → AreRows key (keys_of columns rows)
keys-typed from [] None e rows h = one (HasTypes []) [] tt
keys-typed from (t ∷ key) None e rows h = absurd (omega (arith, ap length e))
keys-typed from key (Some columns) e rows h =
    All-distinct (HasTypes key) are_alike (map (key_of columns) rows) (All-mapped (HasTypes from) (HasTypes key) (key_of columns) (λ row k. key-typed from columns key e row k) rows h)

pub grouped-typed : (from key values : List ValueType) (columns : Option (List ℕ)) (functions : List SetFunctionMeaning) (having : Option ConditionMeaning) (env : Env) (part : Outcome)
    → map (slice_get from) (key_places columns) ≡ map Some key → ((group : List Row) → AreRows from group → IfOk (together (map (λ function. function env group) functions)) (HasTypes values))
    → AreRows from part.rows → AreRows (key ++ values) (grouped columns functions having env part).rows
grouped-typed from key values columns functions having env part e good h =
    filtered-has (HasTypes (key ++ values)) having env (through part (λ rows. each (group_row columns functions env rows) (keys_of columns rows)))
    (through-has (HasTypes from) (HasTypes (key ++ values)) part (λ rows. each (group_row columns functions env rows) (keys_of columns rows))
    (λ rows k. each-has (HasTypes key) (HasTypes (key ++ values)) (group_row columns functions env rows) (λ own a. group rows k own a) (keys_of columns rows) (keys-typed from key columns e rows k)) h)
  where
    group : (rows : List Row) → AreRows from rows → (own : Row) → HasTypes key own → IfOk (group_row columns functions env rows own) (AreRows (key ++ values))
    group rows k own a =
        next-has (HasTypes values) (AreRows (key ++ values)) (together (map (λ function. function env (members columns own rows)) functions)) (λ found. Ok ((own ++ found) ∷ []))
        (good (members columns own rows) (members-have (HasTypes from) columns own rows k)) (λ found b. one (HasTypes (key ++ values)) (own ++ found) (appended key values own found a b))

-- ---- the select list and DISTINCT

pub shown-typed : (seen types : List ValueType) (items : List ExpressionMeaning) (env : Env) → ((row : Row) → HasTypes seen row → IfOk (values_of items (row ∷ env)) (HasTypes types))
    → (rows : List Row) → AreRows seen rows → AreRows types (shown items env rows).rows
shown-typed seen types items env good rows h =
    each-has (HasTypes seen) (HasTypes types) (shown_row items env)
    (λ row k. next-has (HasTypes types) (AreRows types) (values_of items (row ∷ env)) (λ values. Ok (values ∷ [])) (good row k) (λ values a. one (HasTypes types) values a)) rows h

pub only-has : (P : Row → Type 0) (is_distinct : Bool) (o : Outcome) → All P o.rows → All P (only is_distinct o).rows
only-has P false o h = h
only-has P true o h = All-distinct P are_alike o.rows h

-- ---- set operators

set-has : (P : Row → Type 0) (op : SetOperation) (left right : Outcome) → All P left.rows → All P right.rows → All P (set_operation op left right).rows
unfolding set_operation
set-has P op left right h k =
    All-flat_map P P (λ row. replicate (multiplicity op.operator op.all (times row left.rows) (times row right.rows)) row)
    (λ row a. All-replicate P (multiplicity op.operator op.all (times row left.rows) (times row right.rows)) row a) (distinct (left.rows ++ right.rows))
    (All-distinct P are_alike (left.rows ++ right.rows) (All-append P left.rows right.rows h k))

pub chain-has : {A : Type 0} (P : Row → Type 0) (meaning : A → Env → Outcome) (left : Outcome) (others : List (SetOperation × A)) (env : Env) → All P left.rows
    → All (λ (other : SetOperation × A). All P (meaning other.1 env).rows) others → All P (set_chain left (map (λ other. (other.0, meaning other.1)) others) env).rows
chain-has P meaning left [] env h k = h
chain-has {A} P meaning left (other ∷ others) env h k =
    chain-has P meaning (set_operation other.0 left (meaning other.1 env)) others env
    (set-has P other.0 left (meaning other.1 env) h (All-head (λ (o : SetOperation × A). All P (meaning o.1 env).rows) other others k)) (All-tail (λ (o : SetOperation × A). All P (meaning o.1 env).rows) other others k)
