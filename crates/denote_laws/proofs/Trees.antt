-- What a whole tree means is the same over tables that are the same up to the order of rows: by
-- induction over the trees.
use Rattle.std.proofs.Common.{◌≡◌, refl, sym, subst, ℕ, Bool, List, [], map, Option, Some, None, Ok}
use Rattle.sqlval.specs.Like.{like_of}
use Rattle.sqlval.specs.Truth.{truth_not, truth_is, truth_of}
use Rattle.sqlval.specs.Value.{is_null}
use Rattle.typing.specs.declared.typed.Arithmetic.{Arithmetic}
use Rattle.typing.specs.declared.typed.SetOperation.{SetOperation}
use Rattle.typing.specs.declared.typed.Condition.{Condition, Condition-F, roll-Condition, map-Condition, ind-Condition}
use Rattle.typing.specs.declared.typed.Expression.{Expression, Expression-F, roll-Expression, map-Expression, ind-Expression}
use Rattle.typing.specs.declared.typed.Query.{Query, Query-F, roll-Query, map-Query, ind-Query}
use Rattle.typing.specs.declared.typed.SetFunction.{SetFunction, SetFunction-F, roll-SetFunction, map-SetFunction}
use Rattle.typing.specs.declared.typed.Source.{Source, Source-F, roll-Source, map-Source}
use Rattle.typing.specs.declared.typed.Grouping.{Grouping, Grouping-F, roll-Grouping, map-Grouping}
use Rattle.typing.specs.declared.typed.Item.{Item, Item-F, roll-Item, map-Item}
use Rattle.typing.specs.declared.typed.Select.{Select, Select-F, roll-Select, map-Select}
use Rattle.denote.specs.Evaluation.{Env}
use Rattle.denote.specs.Outcome.{through}
use Rattle.denote.specs.Expression.{ExpressionMeaning, negated}
use Rattle.denote.specs.Condition.{ConditionMeaning, among}
use Rattle.denote.specs.From.{filtered}
use Rattle.denote.specs.Group.{SetFunctionMeaning}
use Rattle.denote.specs.Select.{shown, only}
use Rattle.denote.specs.Bag.{IsSame}
use Rattle.denote.specs.Meaning.{Tables, QueryMeaning, GroupingMeaning, as_grouped, condition_step, expression_step, query_step, set_function_step, source_step, grouping_step, item_step, select_step, value_of, truth_at, query_outcome, function_value, source_outcome, groups_of, item_value, select_outcome}
use Rattle.operator_laws.specs.Same.{IfBoth, Agree, AgreeOnRows, AgreeOnGroups, AgreeOnParts}
use Rattle.denote_laws.specs.Changed.{AreSameTables}
use Rattle.operator_laws.proofs.LawLemmas.{product-same}
use Rattle.operator_laws.proofs.Same.{HasSame-refl, then-same, Each-mapped}
use Rattle.operator_laws.proofs.Rows.{filtered-agree, list-agree, inner_join-agree, left_join-agree, only-same, AgreeOnOperand, set_chain-agree, count-agree, set_function-agree, grouped-agree}
use Rattle.operator_laws.proofs.Steps.{AgreeOnNext, chained-agree, concatenation-agree, scalar-same, exists-same, in_query-same, conjunction-agree, disjunction-agree, two-agree, compared-agree, between-agree}
use Rattle.operator_laws.proofs.Rolled.{Node, condition_meant, condition_rolled, expression_meant, expression_rolled, query_meant, query_rolled, function_meant, function_rolled, source_meant, source_rolled, grouping_meant, grouping_rolled, item_meant, item_rolled, select_meant, select_rolled}

as_grouped-agree : (f g : Option GroupingMeaning) → IfBoth AgreeOnParts f g → AgreeOnParts (as_grouped f) (as_grouped g)
as_grouped-agree None None h env o p k = k
as_grouped-agree None (Some g) h env o p k = absurd h
as_grouped-agree (Some f) None h env o p k = absurd h
as_grouped-agree (Some f) (Some g) h env o p k = h env o p k

module _ (t u : Tables) (same : AreSameTables t u) where
  abbrev SameCondition : Condition → Type 0
  SameCondition c = Agree (truth_at t c) (truth_at u c)

  abbrev SameExpression : Expression → Type 0
  SameExpression e = Agree (value_of t e) (value_of u e)

  abbrev SameQuery : Query → Type 0
  SameQuery q = AgreeOnRows (query_outcome t q) (query_outcome u q)

  abbrev SameFunction : SetFunction → Type 0
  SameFunction a = AgreeOnGroups (function_value t a) (function_value u a)

  abbrev SameSource : Source → Type 0
  SameSource s = AgreeOnRows (source_outcome t s) (source_outcome u s)

  abbrev SameGrouping : Grouping → Type 0
  SameGrouping g = AgreeOnParts (groups_of t g) (groups_of u g)

  abbrev SameItem : Item → Type 0
  SameItem i = Agree (item_value t i) (item_value u i)

  abbrev SameSelect : Select → Type 0
  SameSelect s = AgreeOnRows (select_outcome t s) (select_outcome u s)

  -- a node whose parts mean the same
  abbrev Parts : ((A B C D E F G H : Type 0) → Type 0) → Type 0
  Parts T =
      T ((c : Condition) × SameCondition c) ((e : Expression) × SameExpression e) ((q : Query) × SameQuery q) ((a : SetFunction) × SameFunction a)
      ((s : Source) × SameSource s) ((g : Grouping) × SameGrouping g) ((i : Item) × SameItem i) ((s : Select) × SameSelect s)

  abbrev condition_of : Parts Condition-F → Node Condition-F
  condition_of y = map-Condition _ _ _ _ _ _ _ _ _ _ _ _ _ _ _ _ (λ p. p.0) (λ p. p.0) (λ p. p.0) (λ p. p.0) (λ p. p.0) (λ p. p.0) (λ p. p.0) (λ p. p.0) y

  abbrev expression_of : Parts Expression-F → Node Expression-F
  expression_of y = map-Expression _ _ _ _ _ _ _ _ _ _ _ _ _ _ _ _ (λ p. p.0) (λ p. p.0) (λ p. p.0) (λ p. p.0) (λ p. p.0) (λ p. p.0) (λ p. p.0) (λ p. p.0) y

  abbrev query_of : Parts Query-F → Node Query-F
  query_of y = map-Query _ _ _ _ _ _ _ _ _ _ _ _ _ _ _ _ (λ p. p.0) (λ p. p.0) (λ p. p.0) (λ p. p.0) (λ p. p.0) (λ p. p.0) (λ p. p.0) (λ p. p.0) y

  abbrev function_of : Parts SetFunction-F → Node SetFunction-F
  function_of y = map-SetFunction _ _ _ _ _ _ _ _ _ _ _ _ _ _ _ _ (λ p. p.0) (λ p. p.0) (λ p. p.0) (λ p. p.0) (λ p. p.0) (λ p. p.0) (λ p. p.0) (λ p. p.0) y

  abbrev source_of : Parts Source-F → Node Source-F
  source_of y = map-Source _ _ _ _ _ _ _ _ _ _ _ _ _ _ _ _ (λ p. p.0) (λ p. p.0) (λ p. p.0) (λ p. p.0) (λ p. p.0) (λ p. p.0) (λ p. p.0) (λ p. p.0) y

  abbrev grouping_of : Parts Grouping-F → Node Grouping-F
  grouping_of y = map-Grouping _ _ _ _ _ _ _ _ _ _ _ _ _ _ _ _ (λ p. p.0) (λ p. p.0) (λ p. p.0) (λ p. p.0) (λ p. p.0) (λ p. p.0) (λ p. p.0) (λ p. p.0) y

  abbrev item_of : Parts Item-F → Node Item-F
  item_of y = map-Item _ _ _ _ _ _ _ _ _ _ _ _ _ _ _ _ (λ p. p.0) (λ p. p.0) (λ p. p.0) (λ p. p.0) (λ p. p.0) (λ p. p.0) (λ p. p.0) (λ p. p.0) y

  abbrev select_of : Parts Select-F → Node Select-F
  select_of y = map-Select _ _ _ _ _ _ _ _ _ _ _ _ _ _ _ _ (λ p. p.0) (λ p. p.0) (λ p. p.0) (λ p. p.0) (λ p. p.0) (λ p. p.0) (λ p. p.0) (λ p. p.0) y

  condition_step-same : (y : Parts Condition-F) → Agree (condition_step (condition_meant t (condition_of y))) (condition_step (condition_meant u (condition_of y)))
  condition_step-same (Condition-F.Or operands) env =
      disjunction-agree (map (truth_at t) (map (λ o. o.0) operands)) (map (truth_at u) (map (λ o. o.0) operands))
      (Each-mapped Agree (truth_at t) (truth_at u) (λ (o : (c : Condition) × SameCondition c). o.0) operands (λ o. o.1)) env
  condition_step-same (Condition-F.And operands) env =
      conjunction-agree (map (truth_at t) (map (λ o. o.0) operands)) (map (truth_at u) (map (λ o. o.0) operands))
      (Each-mapped Agree (truth_at t) (truth_at u) (λ (o : (c : Condition) × SameCondition c). o.0) operands (λ o. o.1)) env
  condition_step-same (Condition-F.Not operand) env = then-same (truth_at t operand.0 env) (truth_at u operand.0 env) (λ v. Ok (truth_not v)) (operand.1 env)
  condition_step-same (Condition-F.IsTruth operand truth) env = then-same (truth_at t operand.0 env) (truth_at u operand.0 env)
      (λ v. Ok (truth_is v truth)) (operand.1 env)
  condition_step-same (Condition-F.Compare op a b) env = compared-agree op (value_of t a.0) (value_of u a.0) (value_of t b.0) (value_of u b.0) a.1 b.1 env
  condition_step-same (Condition-F.Between x low high) env =
      between-agree (value_of t x.0) (value_of u x.0) (value_of t low.0) (value_of u low.0) (value_of t high.0) (value_of u high.0) x.1 low.1 high.1 env
  condition_step-same (Condition-F.InList operand values) env = then-same (value_of t operand.0 env) (value_of u operand.0 env)
      (λ x. Ok (among x values)) (operand.1 env)
  condition_step-same (Condition-F.InQuery operand query) env =
      in_query-same (value_of t operand.0 env) (value_of u operand.0 env) (query_outcome t query.0 env) (query_outcome u query.0 env) (operand.1 env) (query.1 env)
  condition_step-same (Condition-F.Like operand pattern) env =
      two-agree (value_of t operand.0) (value_of u operand.0) (value_of t pattern.0) (value_of u pattern.0) (λ x y. Ok (like_of x y)) operand.1 pattern.1 env
  condition_step-same (Condition-F.IsNull operand) env = then-same (value_of t operand.0 env) (value_of u operand.0 env)
      (λ x. Ok (truth_of (is_null x))) (operand.1 env)
  condition_step-same (Condition-F.Exists query) env = exists-same (query_outcome t query.0 env) (query_outcome u query.0 env) (query.1 env)

  expression_step-same : (y : Parts Expression-F)
      → Agree (expression_step (expression_meant t (expression_of y))) (expression_step (expression_meant u (expression_of y)))
  expression_step-same (Expression-F.Constant x) env = refl
  expression_step-same (Expression-F.Column depth place) env = refl
  expression_step-same (Expression-F.Calculation first others) env =
      chained-agree (value_of t first.0 env) (value_of u first.0 env) (map (λ o. (o.0, value_of t o.1)) (map (λ o. (o.0, o.1.0)) others))
      (map (λ o. (o.0, value_of u o.1)) (map (λ o. (o.0, o.1.0)) others)) env (first.1 env)
      (Each-mapped AgreeOnNext (λ (o : Arithmetic × Expression). (o.0, value_of t o.1)) (λ (o : Arithmetic × Expression). (o.0, value_of u o.1))
      (λ (o : Arithmetic × ((e : Expression) × SameExpression e)). (o.0, o.1.0)) others (λ o. (refl, o.1.1)))
  expression_step-same (Expression-F.Concatenation first others) env =
      concatenation-agree (value_of t first.0 env) (value_of u first.0 env) (map (value_of t) (map (λ o. o.0) others))
      (map (value_of u) (map (λ o. o.0) others)) env (first.1 env)
      (Each-mapped Agree (value_of t) (value_of u) (λ (o : (e : Expression) × SameExpression e). o.0) others (λ o. o.1))
  expression_step-same (Expression-F.Negation operand) env = then-same (value_of t operand.0 env) (value_of u operand.0 env) negated (operand.1 env)
  expression_step-same (Expression-F.Scalar query) env = scalar-same (query_outcome t query.0 env) (query_outcome u query.0 env) (query.1 env)

  query_step-same : (y : Parts Query-F) → AgreeOnRows (query_step (query_meant t (query_of y))) (query_step (query_meant u (query_of y)))
  query_step-same (Query-F.Select select) env = select.1 env
  query_step-same (Query-F.Combined first others) env =
      set_chain-agree (query_outcome t first.0 env) (query_outcome u first.0 env)
      (map (λ o. (o.0, query_outcome t o.1)) (map (λ o. (o.0, o.1.0)) others))
      (map (λ o. (o.0, query_outcome u o.1)) (map (λ o. (o.0, o.1.0)) others)) env (first.1 env)
      (Each-mapped AgreeOnOperand (λ (o : SetOperation × Query). (o.0, query_outcome t o.1))
      (λ (o : SetOperation × Query). (o.0, query_outcome u o.1)) (λ (o : SetOperation × ((q : Query) × SameQuery q)). (o.0, o.1.0)) others
      (λ o. (refl, o.1.1)))

  function_step-same : (y : Parts SetFunction-F)
      → AgreeOnGroups (set_function_step (function_meant t (function_of y))) (set_function_step (function_meant u (function_of y)))
  function_step-same SetFunction-F.CountRows env rows others p = count-agree env rows others p
  function_step-same (SetFunction-F.Over function is_distinct argument) env rows others p = set_function-agree function is_distinct
      (value_of t argument.0) (value_of u argument.0) argument.1 env rows others p

  source_step-same : (y : Parts Source-F) → AgreeOnRows (source_step t (source_meant t (source_of y))) (source_step u (source_meant u (source_of y)))
  source_step-same (Source-F.Table name) env = record { rows = same name; faults = HasSame-refl [] }
  source_step-same (Source-F.Derived query) env = query.1 env
  source_step-same (Source-F.Product left right) env =
      product-same (source_outcome t left.0 env) (source_outcome u left.0 env) (source_outcome t right.0 env) (source_outcome u right.0 env)
      (left.1 env) (right.1 env)
  source_step-same (Source-F.Inner on left right) env =
      inner_join-agree (truth_at t on.0) (truth_at u on.0) env (source_outcome t left.0 env) (source_outcome u left.0 env)
      (source_outcome t right.0 env) (source_outcome u right.0 env) on.1 (left.1 env) (right.1 env)
  source_step-same (Source-F.Left on left right width) env =
      left_join-agree (truth_at t on.0) (truth_at u on.0) env width (source_outcome t left.0 env) (source_outcome u left.0 env)
      (source_outcome t right.0 env) (source_outcome u right.0 env) on.1 (left.1 env) (right.1 env)

  -- an option of the trees is looked at by its cases: until then the two ways to map it differ
  grouping_parts-same : (columns : Option (List ℕ)) (functions : List ((a : SetFunction) × SameFunction a)) (having : Option ((c : Condition) × SameCondition c))
      → AgreeOnParts (grouping_step (grouping_meant t (grouping_of (record { columns = columns; functions = functions; having = having }))))
      (grouping_step (grouping_meant u (grouping_of (record { columns = columns; functions = functions; having = having }))))
  grouping_parts-same columns functions None =
      grouped-agree columns (map (function_value t) (map (λ o. o.0) functions)) (map (function_value u) (map (λ o. o.0) functions)) None None
      (Each-mapped AgreeOnGroups (function_value t) (function_value u) (λ (o : (a : SetFunction) × SameFunction a). o.0) functions (λ o. o.1)) tt
  grouping_parts-same columns functions (Some having) =
      grouped-agree columns (map (function_value t) (map (λ o. o.0) functions)) (map (function_value u) (map (λ o. o.0) functions))
      (Some (truth_at t having.0)) (Some (truth_at u having.0))
      (Each-mapped AgreeOnGroups (function_value t) (function_value u) (λ (o : (a : SetFunction) × SameFunction a). o.0) functions (λ o. o.1)) having.1

  grouping_step-same : (y : Parts Grouping-F) → AgreeOnParts (grouping_step (grouping_meant t (grouping_of y))) (grouping_step (grouping_meant u (grouping_of y)))
  grouping_step-same y = grouping_parts-same y.columns y.functions y.having

  -- a SELECT whose filters and groups agree
  select_made : (is_distinct : Bool) (items : List ((i : Item) × SameItem i)) (from : (s : Source) × SameSource s) (f g : Option ConditionMeaning)
      (a b : Option GroupingMeaning) (env : Env)
      → IfBoth Agree f g → IfBoth AgreeOnParts a b
      → IsSame (only is_distinct (through (as_grouped a env (filtered f env (source_outcome t from.0 env))) (shown (map (item_value t) (map (λ o. o.0) items)) env)))
      (only is_distinct (through (as_grouped b env (filtered g env (source_outcome u from.0 env))) (shown (map (item_value u) (map (λ o. o.0) items)) env)))
  select_made is_distinct items from f g a b env h k =
      let kept = filtered-agree f g env (source_outcome t from.0 env) (source_outcome u from.0 env) h (from.1 env) in
      let groups = as_grouped-agree a b k env (filtered f env (source_outcome t from.0 env)) (filtered g env (source_outcome u from.0 env)) kept in
      only-same is_distinct (through (as_grouped a env (filtered f env (source_outcome t from.0 env))) (shown (map (item_value t) (map (λ o. o.0) items)) env))
      (through (as_grouped b env (filtered g env (source_outcome u from.0 env))) (shown (map (item_value u) (map (λ o. o.0) items)) env))
      (list-agree (map (item_value t) (map (λ o. o.0) items)) (map (item_value u) (map (λ o. o.0) items)) env
      (as_grouped a env (filtered f env (source_outcome t from.0 env))) (as_grouped b env (filtered g env (source_outcome u from.0 env)))
      (Each-mapped Agree (item_value t) (item_value u) (λ (o : (i : Item) × SameItem i). o.0) items (λ o. o.1)) groups)

  select_parts-same : (is_distinct : Bool) (items : List ((i : Item) × SameItem i)) (from : (s : Source) × SameSource s)
      (condition : Option ((c : Condition) × SameCondition c))
      (grouping : Option ((g : Grouping) × SameGrouping g))
      → AgreeOnRows (select_step (select_meant t
      (select_of (record { distinct = is_distinct; items = items; from = from; filter = condition; grouping = grouping }))))
      (select_step (select_meant u (select_of (record { distinct = is_distinct; items = items; from = from; filter = condition; grouping = grouping }))))
  select_parts-same is_distinct items from None None env = select_made is_distinct items from None None None None env tt tt
  select_parts-same is_distinct items from None (Some g) env = select_made is_distinct items from None None (Some (groups_of t g.0))
      (Some (groups_of u g.0)) env tt g.1
  select_parts-same is_distinct items from (Some c) None env = select_made is_distinct items from (Some (truth_at t c.0))
      (Some (truth_at u c.0)) None None env c.1 tt
  select_parts-same is_distinct items from (Some c) (Some g) env =
      select_made is_distinct items from (Some (truth_at t c.0)) (Some (truth_at u c.0)) (Some (groups_of t g.0)) (Some (groups_of u g.0)) env c.1 g.1

  select_step-same : (y : Parts Select-F) → AgreeOnRows (select_step (select_meant t (select_of y))) (select_step (select_meant u (select_of y)))
  select_step-same y env = select_parts-same y.distinct y.items y.from y.filter y.grouping env

  condition_node : (x : Node Condition-F) (y : Parts Condition-F) → condition_of y ≡ x → SameCondition (roll-Condition x)
  condition_node x y is =
      subst (λ (z : Node Condition-F). SameCondition (roll-Condition z)) is
      (subst (λ (f : ConditionMeaning). Agree f (truth_at u (roll-Condition (condition_of y)))) (sym (condition_rolled t (condition_of y)))
      (subst (λ (g : ConditionMeaning). Agree (condition_step (condition_meant t (condition_of y))) g) (sym (condition_rolled u (condition_of y)))
      (condition_step-same y)))

  expression_node : (x : Node Expression-F) (y : Parts Expression-F) → expression_of y ≡ x → SameExpression (roll-Expression x)
  expression_node x y is =
      subst (λ (z : Node Expression-F). SameExpression (roll-Expression z)) is
      (subst (λ (f : ExpressionMeaning). Agree f (value_of u (roll-Expression (expression_of y)))) (sym (expression_rolled t (expression_of y)))
      (subst (λ (g : ExpressionMeaning). Agree (expression_step (expression_meant t (expression_of y))) g)
      (sym (expression_rolled u (expression_of y))) (expression_step-same y)))

  query_node : (x : Node Query-F) (y : Parts Query-F) → query_of y ≡ x → SameQuery (roll-Query x)
  query_node x y is =
      subst (λ (z : Node Query-F). SameQuery (roll-Query z)) is
      (subst (λ (f : QueryMeaning). AgreeOnRows f (query_outcome u (roll-Query (query_of y)))) (sym (query_rolled t (query_of y)))
      (subst (λ (g : QueryMeaning). AgreeOnRows (query_step (query_meant t (query_of y))) g) (sym (query_rolled u (query_of y))) (query_step-same y)))

  function_node : (x : Node SetFunction-F) (y : Parts SetFunction-F) → function_of y ≡ x → SameFunction (roll-SetFunction x)
  function_node x y is =
      subst (λ (z : Node SetFunction-F). SameFunction (roll-SetFunction z)) is
      (subst (λ (f : SetFunctionMeaning). AgreeOnGroups f (function_value u (roll-SetFunction (function_of y)))) (sym (function_rolled t (function_of y)))
      (subst (λ (g : SetFunctionMeaning). AgreeOnGroups (set_function_step (function_meant t (function_of y))) g)
      (sym (function_rolled u (function_of y))) (function_step-same y)))

  source_node : (x : Node Source-F) (y : Parts Source-F) → source_of y ≡ x → SameSource (roll-Source x)
  source_node x y is =
      subst (λ (z : Node Source-F). SameSource (roll-Source z)) is
      (subst (λ (f : QueryMeaning). AgreeOnRows f (source_outcome u (roll-Source (source_of y)))) (sym (source_rolled t (source_of y)))
      (subst (λ (g : QueryMeaning). AgreeOnRows (source_step t (source_meant t (source_of y))) g) (sym (source_rolled u (source_of y))) (source_step-same y)))

  grouping_node : (x : Node Grouping-F) (y : Parts Grouping-F) → grouping_of y ≡ x → SameGrouping (roll-Grouping x)
  grouping_node x y is =
      subst (λ (z : Node Grouping-F). SameGrouping (roll-Grouping z)) is
      (subst (λ (f : GroupingMeaning). AgreeOnParts f (groups_of u (roll-Grouping (grouping_of y)))) (sym (grouping_rolled t (grouping_of y)))
      (subst (λ (g : GroupingMeaning). AgreeOnParts (grouping_step (grouping_meant t (grouping_of y))) g) (sym (grouping_rolled u (grouping_of y)))
      (grouping_step-same y)))

  item_node : (x : Node Item-F) (y : Parts Item-F) → item_of y ≡ x → SameItem (roll-Item x)
  item_node x y is =
      subst (λ (z : Node Item-F). SameItem (roll-Item z)) is
      (subst (λ (f : ExpressionMeaning). Agree f (item_value u (roll-Item (item_of y)))) (sym (item_rolled t (item_of y)))
      (subst (λ (g : ExpressionMeaning). Agree (item_step (item_meant t (item_of y))) g) (sym (item_rolled u (item_of y))) (y.expression.1)))

  select_node : (x : Node Select-F) (y : Parts Select-F) → select_of y ≡ x → SameSelect (roll-Select x)
  select_node x y is =
      subst (λ (z : Node Select-F). SameSelect (roll-Select z)) is
      (subst (λ (f : QueryMeaning). AgreeOnRows f (select_outcome u (roll-Select (select_of y)))) (sym (select_rolled t (select_of y)))
      (subst (λ (g : QueryMeaning). AgreeOnRows (select_step (select_meant t (select_of y))) g) (sym (select_rolled u (select_of y))) (select_step-same y)))

  pub values-same : (e : Expression) → SameExpression e
  values-same = ind-Expression SameCondition SameExpression SameQuery SameFunction SameSource SameGrouping SameItem SameSelect
      condition_node expression_node query_node function_node source_node grouping_node item_node select_node

  pub truths-same : (e : Condition) → SameCondition e
  truths-same = ind-Condition SameCondition SameExpression SameQuery SameFunction SameSource SameGrouping SameItem SameSelect
      condition_node expression_node query_node function_node source_node grouping_node item_node select_node

  pub queries-same : (e : Query) → SameQuery e
  queries-same = ind-Query SameCondition SameExpression SameQuery SameFunction SameSource SameGrouping SameItem SameSelect
      condition_node expression_node query_node function_node source_node grouping_node item_node select_node
