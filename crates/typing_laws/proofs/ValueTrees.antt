-- What a well typed tree means has its types: by recursion over what makes it well typed.
use Rattle.std.proofs.Common.{◌≡◌, refl, sym, ap, ◌∙◌, subst, List, [], ◌∷◌, ◌++◌, map, IfOk, Contains, Option, inl, inr}
use Rattle.std.specs.Option.{option_map}
use Rattle.std.proofs.lemmas.List.Elements.{All-contains, All-contains_itself, All-weaker}
use Rattle.sqlval.specs.declared.value.Value.{Value}
use Rattle.sqlval.specs.declared.value.ValueType.{ValueType}
use Rattle.sqlval.specs.declared.value.ValueType.TheVariants.{Integer, Text}
use Rattle.sqlval.specs.Value.{Row}
use Rattle.typing.specs.declared.typed.Expression.{Expression}
use Rattle.typing.specs.declared.typed.Grouping.{Grouping, out-Grouping}
use Rattle.typing.specs.declared.typed.Item.{Item, out-Item}
use Rattle.typing.specs.declared.typed.Query.{Query}
use Rattle.typing.specs.declared.typed.Query.TheVariants as query
use Rattle.typing.specs.declared.typed.Select.{Select, out-Select}
use Rattle.typing.specs.declared.typed.SetFunction.{SetFunction}
use Rattle.typing.specs.declared.typed.SetOperation.{SetOperation}
use Rattle.typing.specs.declared.typed.Source.{Source}
use Rattle.typing.specs.Known.{Known}
use Rattle.denote.specs.Evaluation.{Env, Evaluation, together}
use Rattle.denote.specs.From.{filtered}
use Rattle.denote.specs.Meaning.{Tables, as_grouped, function_value, groups_of, item_value, query_outcome, source_outcome, truth_at, value_of}
use Rattle.denote.specs.Outcome.{Outcome, through}
use Rattle.denote.specs.Select.{shown}
use Rattle.denote.proofs.Nodes.{value_constant, value_column, value_calculation, value_concatenation, value_negation, value_scalar, item_is, source_table, source_derived, source_product, source_inner, source_left, select_is, query_select, query_combined, function_rows, function_over, groups_is}
use Rattle.typing_laws.specs.WellTyped.{HasType, HaveTypes, HasColumns, FunctionHasType, FunctionsHaveTypes, IsSeen, HasResult, Rows, column_types, item_values}
use Rattle.typing_laws.specs.WellTyped as typed
use Rattle.typing_laws.specs.Types.{AreRows, HasTypes, HoldsTypes, IsOfType, SeesRows}
use Rattle.typing_laws.proofs.Values.{chained-typed, column-typed, concatenation-typed, count-typed, count_function, sum_function, average_function, minimum_function, maximum_function, joined-typed, negated-typed, scalar-typed}
use Rattle.typing_laws.proofs.Rows.{chain-has, filtered-has, grouped-typed, inner-typed, left-typed, only-has, product-typed, shown-typed}
use Rattle.typing_laws.proofs.Lists.{through-has}

-- the values of a select list are those of its expressions
items-are : (tables : Tables) (env : Env) (items : List Item) → map (λ meaning. meaning env) (map (item_value tables) items) ≡ map (λ x. value_of tables x env) (item_values items)
items-are tables env [] = refl
items-are tables env (item ∷ items) = ap (λ x. x ∷ map (λ meaning. meaning env) (map (item_value tables) items)) (item_is tables env item) ∙ ap (λ xs. value_of tables (out-Item item).expression env ∷ xs) (items-are tables env items)

-- each row of a group, with the rows seen outside
abbrev SeesEach : Rows → Env → List Row → Type 0
SeesEach rows env group = (row : Row) → Contains group row → SeesRows rows (row ∷ env)

module _ (known : Known) (tables : Tables) (holds : HoldsTypes known tables) where
  -- ---- equations of nodes, put before what they say

  at_value : (type : ValueType) (x y : Evaluation Value) → x ≡ y → IfOk y (IsOfType type) → IfOk x (IsOfType type)
  at_value type x y e h = subst (λ z. IfOk z (IsOfType type)) (sym e) h

  at_rows : (types : List ValueType) (o p : Outcome) → o ≡ p → AreRows types p.rows → AreRows types o.rows
  at_rows types o p e h = subst (λ (z : Outcome). AreRows types z.rows) (sym e) h

  -- a SELECT over what its FROM gives
  select-made : (s : Select) (env : Env) (from seen types : List ValueType)
      → AreRows from (source_outcome tables (out-Select s).from env).rows
      → ((part : Outcome) → AreRows from part.rows → AreRows seen (as_grouped (option_map (groups_of tables) (out-Select s).grouping) env part).rows)
      → ((row : Row) → HasTypes seen row → IfOk (together (map (λ x. value_of tables x (row ∷ env)) (item_values (out-Select s).items))) (HasTypes types))
      → AreRows types (query_outcome tables (query.Select s) env).rows
  select-made s env from seen types h groups items =
      let x = out-Select s in
      at_rows types (query_outcome tables (query.Select s) env) _ (query_select tables env s ∙ select_is tables env s)
      (only-has (HasTypes types) x.distinct (through (as_grouped (option_map (groups_of tables) x.grouping) env (filtered (option_map (truth_at tables) x.filter) env (source_outcome tables x.from env))) (shown (map (item_value tables) x.items) env))
      (through-has (HasTypes seen) (HasTypes types) (as_grouped (option_map (groups_of tables) x.grouping) env (filtered (option_map (truth_at tables) x.filter) env (source_outcome tables x.from env)))
      (shown (map (item_value tables) x.items) env)
      (shown-typed seen types (map (item_value tables) x.items) env (λ row k. subst (λ xs. IfOk (together xs) (HasTypes types)) (sym (items-are tables (row ∷ env) x.items)) (items row k)))
      (groups (filtered (option_map (truth_at tables) x.filter) env (source_outcome tables x.from env)) (filtered-has (HasTypes from) (option_map (truth_at tables) x.filter) env (source_outcome tables x.from env) h))))

  mutual
    pub value-typed : {rows : Rows} {x : Expression} {type : ValueType} → HasType known rows x type → (env : Env) → SeesRows rows env → IfOk (value_of tables x env) (IsOfType type)
    value-typed {type = type} typed.null env sees = at_value type _ _ (value_constant tables env _) (inl refl)
    value-typed {type = type} (typed.constant value is) env sees = at_value type _ _ (value_constant tables env value) (inr is)
    value-typed {rows = rows} {type = type} (typed.column depth place row there here) env sees =
        at_value type _ _ (value_column tables env depth place) (column-typed rows env depth place row type sees there here)
    value-typed (typed.calculation {first = first} others h hs) env sees = at_value Integer _ _ (value_calculation tables env first others) (chained-typed (value_of tables first env) (map (λ other. (other.0, value_of tables other.1)) others) env (value-typed h env sees))
    value-typed (typed.concatenation {first = first} others h hs) env sees = at_value Text _ _ (value_concatenation tables env first others) (concatenation-typed (value_of tables first env) (map (value_of tables) others) env (value-typed h env sees))
    value-typed (typed.negation {operand = operand} h) env sees = at_value Integer _ _ (value_negation tables env operand) (negated-typed (value_of tables operand env))
    value-typed (typed.scalar {q = q} {type = type} h) env sees = at_value type _ _ (value_scalar tables env q) (scalar-typed type (query_outcome tables q env) (query-typed h env sees))

    pub values-typed : {rows : Rows} {xs : List Expression} {types : List ValueType} → HaveTypes known rows xs types → (env : Env) → SeesRows rows env
        → IfOk (together (map (λ x. value_of tables x env) xs)) (HasTypes types)
    values-typed typed.none env sees = tt
    values-typed (typed.one {x = x} {type = type} {others = others} {types = types} h hs) env sees =
        joined-typed type types (value_of tables x env) (together (map (λ y. value_of tables y env) others)) (value-typed h env sees) (values-typed hs env sees)

    pub source-typed : {rows : Rows} {s : Source} {types : List ValueType} → HasColumns known rows s types → (env : Env) → SeesRows rows env → AreRows types (source_outcome tables s env).rows
    source-typed (typed.table name stored is) env sees = at_rows (column_types stored.columns) _ _ (source_table tables env name) (holds name stored is)
    source-typed (typed.derived {q = q} {types = types} h) env sees = at_rows types _ _ (source_derived tables env q) (query-typed h env sees)
    source-typed (typed.product {left = left} {right = right} {ls = ls} {rs = rs} h k) env sees =
        at_rows (ls ++ rs) _ _ (source_product tables env left right) (product-typed ls rs (source_outcome tables left env) (source_outcome tables right env) (source-typed h env sees) (source-typed k env sees))
    source-typed (typed.inner {on = on} {left = left} {right = right} {ls = ls} {rs = rs} h k asked) env sees =
        at_rows (ls ++ rs) _ _ (source_inner tables env on left right)
        (inner-typed ls rs (truth_at tables on) env (source_outcome tables left env) (source_outcome tables right env) (source-typed h env sees) (source-typed k env sees))
    source-typed (typed.left {on = on} {left = left} {right = right} {ls = ls} {rs = rs} h k asked width is) env sees =
        at_rows (ls ++ rs) _ _ (source_left tables env on left right width)
        (left-typed ls rs (truth_at tables on) env width (source_outcome tables left env) (source_outcome tables right env) is (source-typed h env sees) (source-typed k env sees))

    pub function-typed : {rows : Rows} {f : SetFunction} {type : ValueType} → FunctionHasType known rows f type → (env : Env) (group : List Row) → SeesEach rows env group
        → IfOk (function_value tables f env group) (IsOfType type)
    function-typed typed.count_rows env group sees = at_value Integer _ _ (function_rows tables env group) (count-typed env group)
    function-typed (typed.count {x = x} is_distinct h) env group sees = at_value Integer _ _ (function_over tables env _ is_distinct x group) (count_function is_distinct (value_of tables x) env group)
    function-typed (typed.sum {x = x} is_distinct h) env group sees = at_value Integer _ _ (function_over tables env _ is_distinct x group) (sum_function is_distinct (value_of tables x) env group)
    function-typed (typed.average {x = x} is_distinct h) env group sees = at_value Integer _ _ (function_over tables env _ is_distinct x group) (average_function is_distinct (value_of tables x) env group)
    function-typed (typed.minimum {x = x} {type = type} is_distinct h) env group sees =
        at_value type _ _ (function_over tables env _ is_distinct x group) (minimum_function type is_distinct (value_of tables x) env group (λ row there. value-typed h (row ∷ env) (sees row there)))
    function-typed (typed.maximum {x = x} {type = type} is_distinct h) env group sees =
        at_value type _ _ (function_over tables env _ is_distinct x group) (maximum_function type is_distinct (value_of tables x) env group (λ row there. value-typed h (row ∷ env) (sees row there)))

    pub functions-typed : {rows : Rows} {fs : List SetFunction} {types : List ValueType} → FunctionsHaveTypes known rows fs types → (env : Env) (group : List Row) → SeesEach rows env group
        → IfOk (together (map (λ function. function env group) (map (function_value tables) fs))) (HasTypes types)
    functions-typed typed.no_functions env group sees = tt
    functions-typed (typed.one_function {f = f} {type = type} {others = others} {types = types} h hs) env group sees =
        joined-typed type types (function_value tables f env group) (together (map (λ function. function env group) (map (function_value tables) others))) (function-typed h env group sees) (functions-typed hs env group sees)

    pub groups-typed : {rows : Rows} {from : List ValueType} {g : Option Grouping} {seen : List ValueType} → IsSeen known rows from g seen → (env : Env) → SeesRows rows env → (part : Outcome) → AreRows from part.rows
        → AreRows seen (as_grouped (option_map (groups_of tables) g) env part).rows
    groups-typed typed.as_it_is env sees part k = k
    groups-typed (typed.grouped {from = from} g key values keys hs having) env sees part k =
        at_rows (key ++ values) _ _ (groups_is tables env g part)
        (grouped-typed from key values (out-Grouping g).columns (map (function_value tables) (out-Grouping g).functions) (option_map (truth_at tables) (out-Grouping g).having) env part keys
        (λ group are. functions-typed hs env group (λ row there. (All-contains (HasTypes from) group row are there, sees))) k)

    pub query-typed : {rows : Rows} {q : Query} {types : List ValueType} → HasResult known rows q types → (env : Env) → SeesRows rows env → AreRows types (query_outcome tables q env).rows
    query-typed (typed.select {types = types} s from seen h filter groups items) env sees =
        select-made s env from seen types (source-typed h env sees) (λ part k. groups-typed groups env sees part k) (λ row k. values-typed items (row ∷ env) (k, sees))
    query-typed (typed.combined {first = first} {types = types} others h hs) env sees =
        at_rows types _ _ (query_combined tables env first others)
        (chain-has (HasTypes types) (query_outcome tables) (query_outcome tables first env) others env (query-typed h env sees)
        (All-weaker (Contains others) (λ (other : SetOperation × Query). AreRows types (query_outcome tables other.1 env).rows) (λ other there. query-typed (hs other there) env sees) others (All-contains_itself others)))
