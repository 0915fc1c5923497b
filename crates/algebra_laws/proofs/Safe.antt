-- What cannot raise has a value in all rows, and a tree that cannot has no fault: by induction over
-- the trees.
use Rattle.std.proofs.Common.{◌≡◌, refl, sym, ◌∙◌, ap, subst, ℕ, Bool, true, false, if◌then◌else◌, ◌||◌, List, [], ◌∷◌, ◌++◌, map, append-nil, Option, Ok, Err}
use Rattle.std.specs.Prelude.{flat_map}
use Rattle.sqlval.specs.declared.comparison.CompOp.{CompOp}
use Rattle.sqlval.specs.declared.comparison.CompOp.TheVariants.{GreaterOrEqual, LessOrEqual}
use Rattle.sqlval.specs.declared.truth.Truth.{Truth}
use Rattle.sqlval.specs.declared.truth.Truth.TheVariants.{False, Unknown, True}
use Rattle.sqlval.specs.declared.value.Value.{Value}
use Rattle.sqlval.specs.Comparison.{comparison}
use Rattle.sqlval.specs.Like.{like_of}
use Rattle.sqlval.specs.Matching.{rows_matching}
use Rattle.sqlval.specs.Truth.{truth_and, truth_or, truth_not, truth_is, truth_of}
use Rattle.sqlval.specs.Value.{Row, is_null}
use Rattle.typing.specs.declared.typed.SetOperation.{SetOperation}
use Rattle.algebra.specs.declared.tree.Condition.{Condition, Condition-F, roll-Condition, map-Condition, fold-roll-Condition, ind-Condition}
use Rattle.algebra.specs.declared.tree.Expression.{Expression, Expression-F, roll-Expression, map-Expression, fold-roll-Expression, ind-Expression}
use Rattle.algebra.specs.declared.tree.SetFunction.{SetFunction, SetFunction-F, roll-SetFunction, map-SetFunction, fold-roll-SetFunction}
use Rattle.algebra.specs.declared.tree.Tree.{Tree, Tree-F, roll-Tree, map-Tree, ind-Tree, fold-roll-Tree}
use Rattle.algebra.specs.Joined.{some_true, half_row, half_join, matching, keyed_join, negated_if, is_member}
use Rattle.algebra.specs.Meaning.{Layer, TreeMeaning, MeantFunction, function_of, condition_step, expression_step, value_by, truth_by, function_by, tree_by}
use Rattle.algebra.specs.Raising.{Test, some_may, condition_may, expression_may, function_may, tree_may, condition_may_raise, expression_may_raise, function_may_raise, tree_may_raise, NeverRaises}
use Rattle.algebra.specs.TreeOutcome.{outcome_step}
use Rattle.denote.specs.declared.fault.Fault.{Fault}
use Rattle.denote.specs.Condition.{ConditionMeaning, both, either, conjunction, disjunction, compared, between, among, first_column, exists}
use Rattle.denote.specs.Evaluation.{Env, Evaluation, ◌>>=◌, joined, together}
use Rattle.denote.specs.Expression.{ExpressionMeaning, column}
use Rattle.denote.specs.From.{kept_row, kept, only_true, beside, product, inner_join, left_join}
use Rattle.denote.specs.Group.{keys_of, group_row}
use Rattle.denote.specs.Meaning.{Tables}
use Rattle.denote.specs.Outcome.{Outcome, before, each, through, whole}
use Rattle.denote.specs.Select.{values_of, shown_row, shown, only}
use Rattle.denote.specs.SetOperator.{set_operation}
use Rattle.algebra_laws.proofs.RolledTrees.{Node, condition_meant, condition_rolled, expression_meant, expression_rolled, function_meant, function_rolled, tree_meant, tree_rolled}

-- a value
abbrev IsValue : {A : Type 0} → Evaluation A → Type 0
IsValue {A} x = (v : A) × (x ≡ Ok v)

pub or_false : (a b : Bool) → (a || b) ≡ false → (a ≡ false) × (b ≡ false)
or_false true b e = absurd (cc)
or_false false b e = (refl, e)

next-value : {A B : Type 0} (x : Evaluation A) (next : A → Evaluation B) → IsValue x → ((a : A) → IsValue (next a)) → IsValue (x >>= next)
next-value {A} {B} x next h k = subst (λ (z : Evaluation A). IsValue (z >>= next)) (sym h.1) (k h.0)

then-value : {A B : Type 0} (x : Evaluation A) (made : A → B) → IsValue x → IsValue (x >>= (λ a. Ok (made a)))
then-value x made h = next-value x (λ a. Ok (made a)) h (λ a. (made a, refl))

-- ---- lists of parts, none of which may raise

module _ {X C : Type 0} (test : C → Bool) (part : X → C) where
  first_cannot : (x : X) (xs : List X) → some_may (map test (map part (x ∷ xs))) ≡ false → (test (part x) ≡ false) × (some_may (map test (map part xs)) ≡ false)
  first_cannot x xs e = or_false (test (part x)) (some_may (map test (map part xs))) e

both-value : (t : Truth) (x : Evaluation Truth) → IsValue x → IsValue (both t x)
both-value False x h = (False, refl)
both-value Unknown x h = then-value x (truth_and Unknown) h
both-value True x h = h

either-value : (t : Truth) (x : Evaluation Truth) → IsValue x → IsValue (either t x)
either-value False x h = h
either-value Unknown x h = then-value x (truth_or Unknown) h
either-value True x h = (True, refl)

conjunction-value : {X C : Type 0} (test : C → Bool) (part : X → C) (meant : C → ConditionMeaning) (xs : List X) → ((x : X) → test (part x) ≡ false → NeverRaises (meant (part x)))
    → some_may (map test (map part xs)) ≡ false → NeverRaises (conjunction (map meant (map part xs)))
conjunction-value test part meant [] h e env = (True, refl)
conjunction-value test part meant (x ∷ xs) h e env =
    let c = first_cannot test part x xs e in
    next-value (meant (part x) env) (λ t. both t (conjunction (map meant (map part xs)) env)) (h x c.0 env)
    (λ t. both-value t (conjunction (map meant (map part xs)) env) (conjunction-value test part meant xs h c.1 env))

disjunction-value : {X C : Type 0} (test : C → Bool) (part : X → C) (meant : C → ConditionMeaning) (xs : List X) → ((x : X) → test (part x) ≡ false → NeverRaises (meant (part x)))
    → some_may (map test (map part xs)) ≡ false → NeverRaises (disjunction (map meant (map part xs)))
disjunction-value test part meant [] h e env = (False, refl)
disjunction-value test part meant (x ∷ xs) h e env =
    let c = first_cannot test part x xs e in
    next-value (meant (part x) env) (λ t. either t (disjunction (map meant (map part xs)) env)) (h x c.0 env)
    (λ t. either-value t (disjunction (map meant (map part xs)) env) (disjunction-value test part meant xs h c.1 env))

together-value : {A : Type 0} (x : Evaluation A) (xs : Evaluation (List A)) → IsValue x → IsValue xs → IsValue (joined x xs)
together-value x xs h k = (h.0 ∷ k.0, rw (h.1, k.1) refl)

items-value : {X C : Type 0} (test : C → Bool) (part : X → C) (meant : C → ExpressionMeaning) (xs : List X) (env : Env) → ((x : X) → test (part x) ≡ false → NeverRaises (meant (part x)))
    → some_may (map test (map part xs)) ≡ false → IsValue (values_of (map meant (map part xs)) env)
items-value test part meant [] env h e = ([], refl)
items-value test part meant (x ∷ xs) env h e =
    let c = first_cannot test part x xs e in
    together-value (meant (part x) env) (values_of (map meant (map part xs)) env) (h x c.0 env) (items-value test part meant xs env h c.1)

tried-value : {A : Type 0} (f : Row → Evaluation A) (rows : List Row) → ((row : Row) → IsValue (f row)) → IsValue (together (map f rows))
tried-value f [] h = ([], refl)
tried-value f (row ∷ rows) h = together-value (f row) (together (map f rows)) (h row) (tried-value f rows h)

-- ---- conditions

two-value : {A B C : Type 0} (x : Evaluation A) (y : Evaluation B) (made : A → B → C) → IsValue x → IsValue y → IsValue (x >>= (λ a. y >>= (λ b. Ok (made a b))))
two-value x y made h k = next-value x (λ a. y >>= (λ b. Ok (made a b))) h (λ a. then-value y (made a) k)

between-value : (a b c : ExpressionMeaning) → NeverRaises a → NeverRaises b → NeverRaises c → NeverRaises (between a b c)
between-value a b c h k m env =
    next-value (compared GreaterOrEqual a b env) (λ t. both t (conjunction (compared LessOrEqual a c ∷ []) env)) (two-value (a env) (b env) (comparison GreaterOrEqual) (h env) (k env))
    (λ t. both-value t (conjunction (compared LessOrEqual a c ∷ []) env)
    (next-value (compared LessOrEqual a c env) (λ u. both u (Ok True)) (two-value (a env) (c env) (comparison LessOrEqual) (h env) (m env)) (λ u. both-value u (Ok True) (True, refl))))

whole-value : (o : Outcome) → o.faults ≡ [] → IsValue (whole o)
unfolding whole
whole-value o e = (o.rows, rw e refl)

-- ---- rows

no_more : {X : Type 0} (xs ys : List X) → xs ≡ [] → ys ≡ [] → xs ++ ys ≡ []
no_more xs ys e f = rw (e, f) refl

each-none : (f : Row → Evaluation (List Row)) (rows : List Row) → ((row : Row) → IsValue (f row)) → (each f rows).faults ≡ []
each-none f [] h = refl
each-none f (row ∷ rows) h = ap (λ (x : Evaluation (List Row)). (before x (each f rows)).faults) (h row).1 ∙ each-none f rows h

through-none : (o : Outcome) (f : Row → Evaluation (List Row)) → o.faults ≡ [] → ((row : Row) → IsValue (f row)) → (through o (each f)).faults ≡ []
unfolding through
through-none o f e h = no_more o.faults (each f o.rows).faults e (each-none f o.rows h)

kept-value : (condition : ConditionMeaning) (env : Env) → NeverRaises condition → (row : Row) → IsValue (kept_row condition env row)
kept-value condition env h row = then-value (condition (row ∷ env)) (λ t. only_true t row) (h (row ∷ env))

product-none : (l r : Outcome) → l.faults ≡ [] → r.faults ≡ [] → (product l r).faults ≡ []
unfolding product
product-none l r e f = no_more l.faults r.faults e f

inner-none : (on : ConditionMeaning) (env : Env) (l r : Outcome) → NeverRaises on → l.faults ≡ [] → r.faults ≡ [] → (inner_join on env l r).faults ≡ []
unfolding inner_join
inner-none on env l r h e f = through-none (product l r) (kept_row on env) (product-none l r e f) (kept-value on env h)

left-none : (on : ConditionMeaning) (env : Env) (width : ℕ) (l r : Outcome) → NeverRaises on → l.faults ≡ [] → r.faults ≡ [] → (left_join on env width l r).faults ≡ []
unfolding left_join
left-none on env width l r h e f = inner-none on env l r h e f

half_row-value : (wanted : Bool) (on : ConditionMeaning) (env : Env) (others : List Row) (row : Row) → NeverRaises on → IsValue (half_row wanted on env others row)
half_row-value true on env others row h = then-value (together (map (λ pair. on (pair ∷ env)) (beside row others))) (λ ts. if some_true ts then row ∷ [] else []) (tried-value (λ pair. on (pair ∷ env)) (beside row others) (λ pair. h (pair ∷ env)))
half_row-value false on env others row h = then-value (together (map (λ pair. on (pair ∷ env)) (beside row others))) (λ ts. if some_true ts then [] else row ∷ []) (tried-value (λ pair. on (pair ∷ env)) (beside row others) (λ pair. h (pair ∷ env)))

half-none : (wanted : Bool) (on : ConditionMeaning) (env : Env) (l r : Outcome) → NeverRaises on → l.faults ≡ [] → r.faults ≡ [] → (half_join wanted on env l r).faults ≡ []
unfolding half_join
half-none wanted on env l r h e f =
    through-none (record { rows = l.rows; faults = l.faults ++ r.faults }) (half_row wanted on env r.rows) (no_more l.faults r.faults e f) (λ row. half_row-value wanted on env r.rows row h)

keyed-none : (on : ConditionMeaning) (env : Env) (others : Row → List Row) (more : List Fault) (l : Outcome) → NeverRaises on → l.faults ≡ [] → more ≡ [] → (keyed_join on env others more l).faults ≡ []
unfolding keyed_join
keyed-none on env others more l h e f =
    through-none (record { rows = flat_map (λ row. beside row (others row)) l.rows; faults = l.faults ++ more }) (kept_row on env) (no_more l.faults more e f) (kept-value on env h)

set-none : (op : SetOperation) (l r : Outcome) → l.faults ≡ [] → r.faults ≡ [] → (set_operation op l r).faults ≡ []
unfolding set_operation
set-none op l r e f = no_more l.faults r.faults e f

no_functions : {X : Type 0} (part : X → SetFunction) (xs : List X) → ((x : X) → function_may_raise (part x) ≡ true) → some_may (map function_may_raise (map part xs)) ≡ false → map part xs ≡ []
no_functions part [] h e = refl
no_functions part (x ∷ xs) h e = absurd (let f = first_cannot function_may_raise part x xs e in let g = h x in let clash : false ≡ true = sym f.0 ∙ g in cc)

-- ---- the tests of a node

abbrev pub condition_tested : Node Condition-F → Test Condition-F
condition_tested d = map-Condition _ _ _ _ _ _ _ _ condition_may_raise expression_may_raise function_may_raise tree_may_raise d

pub condition_may_be : (d : Node Condition-F) → condition_may_raise (roll-Condition d) ≡ condition_may (condition_tested d)
unfolding condition_may_raise expression_may_raise function_may_raise tree_may_raise
condition_may_be d = fold-roll-Condition _ _ _ _ condition_may expression_may function_may tree_may d

abbrev pub expression_tested : Node Expression-F → Test Expression-F
expression_tested d = map-Expression _ _ _ _ _ _ _ _ condition_may_raise expression_may_raise function_may_raise tree_may_raise d

pub expression_may_be : (d : Node Expression-F) → expression_may_raise (roll-Expression d) ≡ expression_may (expression_tested d)
unfolding condition_may_raise expression_may_raise function_may_raise tree_may_raise
expression_may_be d = fold-roll-Expression _ _ _ _ condition_may expression_may function_may tree_may d

abbrev pub function_tested : Node SetFunction-F → Test SetFunction-F
function_tested d = map-SetFunction _ _ _ _ _ _ _ _ condition_may_raise expression_may_raise function_may_raise tree_may_raise d

pub function_may_be : (d : Node SetFunction-F) → function_may_raise (roll-SetFunction d) ≡ function_may (function_tested d)
unfolding condition_may_raise expression_may_raise function_may_raise tree_may_raise
function_may_be d = fold-roll-SetFunction _ _ _ _ condition_may expression_may function_may tree_may d

abbrev pub tree_tested : Node Tree-F → Test Tree-F
tree_tested d = map-Tree _ _ _ _ _ _ _ _ condition_may_raise expression_may_raise function_may_raise tree_may_raise d

pub tree_may_be : (d : Node Tree-F) → tree_may_raise (roll-Tree d) ≡ tree_may (tree_tested d)
unfolding condition_may_raise expression_may_raise function_may_raise tree_may_raise
tree_may_be d = fold-roll-Tree _ _ _ _ condition_may expression_may function_may tree_may d

module _ (tables : Tables) where
  abbrev step : Layer Tree-F → TreeMeaning
  step = outcome_step tables

  abbrev SafeCondition : Condition → Type 0
  SafeCondition c = condition_may_raise c ≡ false → NeverRaises (truth_by step c)

  abbrev SafeExpression : Expression → Type 0
  SafeExpression e = expression_may_raise e ≡ false → NeverRaises (value_by step e)

  abbrev MayFunction : SetFunction → Type 0
  MayFunction f = function_may_raise f ≡ true

  abbrev SafeTree : Tree → Type 0
  SafeTree t = tree_may_raise t ≡ false → (env : Env) → (tree_by step t env).faults ≡ []

  abbrev Parts : ((A B C D : Type 0) → Type 0) → Type 0
  Parts T = T ((c : Condition) × SafeCondition c) ((e : Expression) × SafeExpression e) ((f : SetFunction) × MayFunction f) ((t : Tree) × SafeTree t)

  abbrev condition_of : Parts Condition-F → Node Condition-F
  condition_of y = map-Condition _ _ _ _ _ _ _ _ (λ p. p.0) (λ p. p.0) (λ p. p.0) (λ p. p.0) y

  abbrev expression_of : Parts Expression-F → Node Expression-F
  expression_of y = map-Expression _ _ _ _ _ _ _ _ (λ p. p.0) (λ p. p.0) (λ p. p.0) (λ p. p.0) y

  abbrev set_function_of : Parts SetFunction-F → Node SetFunction-F
  set_function_of y = map-SetFunction _ _ _ _ _ _ _ _ (λ p. p.0) (λ p. p.0) (λ p. p.0) (λ p. p.0) y

  abbrev tree_of : Parts Tree-F → Node Tree-F
  tree_of y = map-Tree _ _ _ _ _ _ _ _ (λ p. p.0) (λ p. p.0) (λ p. p.0) (λ p. p.0) y

  condition_safe : (y : Parts Condition-F) → condition_may (condition_tested (condition_of y)) ≡ false → NeverRaises (condition_step (condition_meant step (condition_of y)))
  condition_safe (Condition-F.Or operands) e env = disjunction-value condition_may_raise (λ (o : (c : Condition) × SafeCondition c). o.0) (truth_by step) operands (λ o. o.1) e env
  condition_safe (Condition-F.And operands) e env = conjunction-value condition_may_raise (λ (o : (c : Condition) × SafeCondition c). o.0) (truth_by step) operands (λ o. o.1) e env
  condition_safe (Condition-F.Not operand) e env = then-value (truth_by step operand.0 env) truth_not (operand.1 e env)
  condition_safe (Condition-F.IsTruth operand truth) e env = then-value (truth_by step operand.0 env) (λ t. truth_is t truth) (operand.1 e env)
  condition_safe (Condition-F.Compare op a b) e env =
      let c = or_false (expression_may_raise a.0) (expression_may_raise b.0) e in two-value (value_by step a.0 env) (value_by step b.0 env) (comparison op) (a.1 c.0 env) (b.1 c.1 env)
  condition_safe (Condition-F.Between operand low high) e env =
      let c = or_false (expression_may_raise operand.0) (expression_may_raise low.0 || expression_may_raise high.0) e in
      let d = or_false (expression_may_raise low.0) (expression_may_raise high.0) c.1 in
      between-value (value_by step operand.0) (value_by step low.0) (value_by step high.0) (operand.1 c.0) (low.1 d.0) (high.1 d.1) env
  condition_safe (Condition-F.InList operand values) e env = then-value (value_by step operand.0 env) (λ x. among x values) (operand.1 e env)
  condition_safe (Condition-F.InQuery operand tree) e env =
      let c = or_false (expression_may_raise operand.0) (tree_may_raise tree.0) e in
      two-value (value_by step operand.0 env) (whole (tree_by step tree.0 env)) (λ x rows. among x (first_column rows)) (operand.1 c.0 env) (whole-value (tree_by step tree.0 env) (tree.1 c.1 env))
  condition_safe (Condition-F.Like operand pattern) e env =
      let c = or_false (expression_may_raise operand.0) (expression_may_raise pattern.0) e in
      two-value (value_by step operand.0 env) (value_by step pattern.0 env) like_of (operand.1 c.0 env) (pattern.1 c.1 env)
  condition_safe (Condition-F.IsNull operand) e env = then-value (value_by step operand.0 env) (λ x. truth_of (is_null x)) (operand.1 e env)
  condition_safe (Condition-F.Exists tree) e env = then-value (whole (tree_by step tree.0 env)) _ (whole-value (tree_by step tree.0 env) (tree.1 e env))

  expression_safe : (y : Parts Expression-F) → expression_may (expression_tested (expression_of y)) ≡ false → NeverRaises (expression_step (expression_meant step (expression_of y)))
  expression_safe (Expression-F.Constant x) e env = (x, refl)
  expression_safe (Expression-F.Column depth place) e env = (column env depth place, refl)
  expression_safe (Expression-F.Calculation first others) e env = absurd (cc)
  expression_safe (Expression-F.Concatenation first others) e env = absurd (cc)
  expression_safe (Expression-F.Negation operand) e env = absurd (cc)
  expression_safe (Expression-F.Scalar tree) e env = absurd (cc)

  grouped-none : (columns : Option (List ℕ)) (functions : List SetFunction) → functions ≡ [] → (o : Outcome) (env : Env) → o.faults ≡ []
      → (through o (λ found. each (group_row columns (map function_of (map (function_by step) functions)) env found) (keys_of columns found))).faults ≡ []
  unfolding through
  grouped-none columns functions none o env e = rw none (no_more o.faults (each (group_row columns [] env o.rows) (keys_of columns o.rows)).faults e (each-none (group_row columns [] env o.rows) (keys_of columns o.rows) (λ key. ((key ++ []) ∷ [], refl))))

  -- a join's condition and its two sides
  joined_safe : (on : (c : Condition) × SafeCondition c) (left right : (t : Tree) × SafeTree t) → (condition_may_raise on.0 || (tree_may_raise left.0 || tree_may_raise right.0)) ≡ false
      → (NeverRaises (truth_by step on.0)) × ((env : Env) → (tree_by step left.0 env).faults ≡ []) × ((env : Env) → (tree_by step right.0 env).faults ≡ [])
  joined_safe on left right e =
      let c = or_false (condition_may_raise on.0) (tree_may_raise left.0 || tree_may_raise right.0) e in
      let d = or_false (tree_may_raise left.0) (tree_may_raise right.0) c.1 in
      (on.1 c.0, left.1 d.0, right.1 d.1)

  member-value : (operand : ExpressionMeaning) (is_negated : Bool) (members : Outcome) → NeverRaises operand → members.faults ≡ [] → NeverRaises (is_member operand is_negated members)
  member-value operand is_negated members h e inner =
      then-value (operand inner >>= (λ x. whole members >>= (λ rows. Ok (among x (first_column rows))))) (negated_if is_negated)
      (two-value (operand inner) (whole members) (λ x rows. among x (first_column rows)) (h inner) (whole-value members e))

  tree_safe : (y : Parts Tree-F) → tree_may (tree_tested (tree_of y)) ≡ false → (env : Env) → (step (tree_meant step (tree_of y)) env).faults ≡ []
  tree_safe (Tree-F.Scan table) e env = refl
  tree_safe (Tree-F.Filter condition tree) e env =
      let c = or_false (condition_may_raise condition.0) (tree_may_raise tree.0) e in
      through-none (tree_by step tree.0 env) (kept_row (truth_by step condition.0) env) (tree.1 c.1 env) (kept-value (truth_by step condition.0) env (condition.1 c.0))
  tree_safe (Tree-F.Product left right) e env =
      let c = or_false (tree_may_raise left.0) (tree_may_raise right.0) e in product-none (tree_by step left.0 env) (tree_by step right.0 env) (left.1 c.0 env) (right.1 c.1 env)
  tree_safe (Tree-F.Inner on left right) e env =
      let s = joined_safe on left right e in inner-none (truth_by step on.0) env (tree_by step left.0 env) (tree_by step right.0 env) s.0 (s.1 env) (s.2 env)
  tree_safe (Tree-F.Left on left right width) e env =
      let s = joined_safe on left right e in left-none (truth_by step on.0) env width (tree_by step left.0 env) (tree_by step right.0 env) s.0 (s.1 env) (s.2 env)
  tree_safe (Tree-F.Half on left right) e env =
      let s = joined_safe on left right e in half-none true (truth_by step on.0) env (tree_by step left.0 env) (tree_by step right.0 env) s.0 (s.1 env) (s.2 env)
  tree_safe (Tree-F.OppositeHalf on left right) e env =
      let s = joined_safe on left right e in half-none false (truth_by step on.0) env (tree_by step left.0 env) (tree_by step right.0 env) s.0 (s.1 env) (s.2 env)
  tree_safe (Tree-F.Group columns functions rows) e env =
      let c = or_false (some_may (map function_may_raise (map (λ (o : (f : SetFunction) × MayFunction f). o.0) functions))) (tree_may_raise rows.0) e in
      let none = no_functions (λ (o : (f : SetFunction) × MayFunction f). o.0) functions (λ o. o.1) c.0 in
      grouped-none columns (map (λ (o : (f : SetFunction) × MayFunction f). o.0) functions) none (tree_by step rows.0 env) env (rows.1 c.1 env)
  tree_safe (Tree-F.Project items tree) e env =
      let c = or_false (some_may (map expression_may_raise (map (λ (o : (x : Expression) × SafeExpression x). o.0) items))) (tree_may_raise tree.0) e in
      through-none (tree_by step tree.0 env) (shown_row (map (value_by step) (map (λ (o : (x : Expression) × SafeExpression x). o.0) items)) env) (tree.1 c.1 env)
      (λ row. then-value (values_of (map (value_by step) (map (λ (o : (x : Expression) × SafeExpression x). o.0) items)) (row ∷ env)) (λ values. values ∷ [])
      (items-value expression_may_raise (λ (o : (x : Expression) × SafeExpression x). o.0) (value_by step) items (row ∷ env) (λ o. o.1) c.0))
  tree_safe (Tree-F.Distinct tree) e env = tree.1 e env
  tree_safe (Tree-F.Set op left right) e env =
      let c = or_false (tree_may_raise left.0) (tree_may_raise right.0) e in set-none op (tree_by step left.0 env) (tree_by step right.0 env) (left.1 c.0 env) (right.1 c.1 env)
  tree_safe (Tree-F.Sort keys tree) e env = tree.1 e env
  tree_safe (Tree-F.Seek table columns key) e env = refl
  tree_safe (Tree-F.Range table columns low high) e env = refl
  tree_safe (Tree-F.IndexLoop on left places table columns) e env =
      let c = or_false (condition_may_raise on.0) (tree_may_raise left.0) e in
      keyed-none (truth_by step on.0) env (matching places columns (tables table.name)) [] (tree_by step left.0 env) (on.1 c.0) (left.1 c.1 env) refl
  tree_safe (Tree-F.HashJoin on left right left_places right_places) e env =
      let s = joined_safe on left right e in
      keyed-none (truth_by step on.0) env (matching left_places right_places (tree_by step right.0 env).rows) (tree_by step right.0 env).faults (tree_by step left.0 env) s.0 (s.1 env) (s.2 env)
  tree_safe (Tree-F.Member operand is_negated members rows) e env =
      let c = or_false (expression_may_raise operand.0) (tree_may_raise members.0 || tree_may_raise rows.0) e in
      let d = or_false (tree_may_raise members.0) (tree_may_raise rows.0) c.1 in
      through-none (tree_by step rows.0 env) (kept_row (is_member (value_by step operand.0) is_negated (tree_by step members.0 env)) env) (rows.1 d.1 env)
      (kept-value (is_member (value_by step operand.0) is_negated (tree_by step members.0 env)) env
      (member-value (value_by step operand.0) is_negated (tree_by step members.0 env) (operand.1 c.0) (members.1 d.0 env)))

  -- ---- each node, and the induction

  condition_node : (x : Node Condition-F) (y : Parts Condition-F) → condition_of y ≡ x → SafeCondition (roll-Condition x)
  condition_node x y is = subst (λ (z : Node Condition-F). SafeCondition (roll-Condition z)) is
      (λ e. subst (λ (f : ConditionMeaning). NeverRaises f) (sym (condition_rolled step (condition_of y))) (condition_safe y (sym (condition_may_be (condition_of y)) ∙ e)))

  expression_node : (x : Node Expression-F) (y : Parts Expression-F) → expression_of y ≡ x → SafeExpression (roll-Expression x)
  expression_node x y is = subst (λ (z : Node Expression-F). SafeExpression (roll-Expression z)) is
      (λ e. subst (λ (f : ExpressionMeaning). NeverRaises f) (sym (expression_rolled step (expression_of y))) (expression_safe y (sym (expression_may_be (expression_of y)) ∙ e)))

  function_node : (x : Node SetFunction-F) (y : Parts SetFunction-F) → set_function_of y ≡ x → MayFunction (roll-SetFunction x)
  function_node x y is = function_may_be x

  tree_node : (x : Node Tree-F) (y : Parts Tree-F) → tree_of y ≡ x → SafeTree (roll-Tree x)
  tree_node x y is = subst (λ (z : Node Tree-F). SafeTree (roll-Tree z)) is
      (λ e env. ap (λ (m : TreeMeaning). (m env).faults) (tree_rolled step (tree_of y)) ∙ tree_safe y (sym (tree_may_be (tree_of y)) ∙ e) env)

  pub trees-safe : (t : Tree) → SafeTree t
  trees-safe = ind-Tree SafeCondition SafeExpression MayFunction SafeTree condition_node expression_node function_node tree_node

  pub conditions-safe : (c : Condition) → SafeCondition c
  conditions-safe = ind-Condition SafeCondition SafeExpression MayFunction SafeTree condition_node expression_node function_node tree_node

  pub expressions-safe : (e : Expression) → SafeExpression e
  expressions-safe = ind-Expression SafeCondition SafeExpression MayFunction SafeTree condition_node expression_node function_node tree_node
