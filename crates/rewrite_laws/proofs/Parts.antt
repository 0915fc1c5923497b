-- The other nodes of conditions, expressions and set functions, over parts that may stand for
-- others.
use Rattle.algebra.specs.Meaning.{MeantFunction, Argument, function_of, function_by}
use Rattle.algebra.specs.OrderKeys.{column_of}
use Rattle.algebra.specs.TreeOutcome.{outcome_step, tree_truth, tree_value}
use Rattle.algebra.specs.declared.tree.Condition.{Condition}
use Rattle.algebra.specs.declared.tree.Expression.{Expression, the_lemmas}
use Rattle.algebra.specs.declared.tree.Tree.{Tree}
use Rattle.denote.specs.Meaning.{Tables}
use Rattle.operator_laws.proofs.Rows.{set_function-agree}
use Rattle.operator_laws.proofs.Same.{then-same}
use Rattle.operator_laws.proofs.Steps.{AgreeOnNext, chained-agree, concatenation-agree, disjunction-agree, compared-agree, between-agree, two-agree}
use Rattle.operator_laws.specs.Same.{Each, Agree, AgreeOnGroups}
use Rattle.rules.specs.Same.{HasAll, AreAmong, KeepsCondition, KeepsExpression, KeepsFunction}
use Rattle.rules.specs.Stored.{all_stored, stored_in_condition, stored_in_expression}
use Rattle.same_laws.proofs.Composed.{among-two, has-left, has-right, all-among, each-known}
use Rattle.sqlval.specs.Like.{like_of}
use Rattle.sqlval.specs.declared.comparison.CompOp.{CompOp}
use Rattle.sqlval.specs.declared.truth.Truth.{Truth}
use Rattle.sqlval.specs.declared.value.Value.{Value}
use Rattle.std.proofs.Common.{◌≡◌, sym, subst, ◌∙◌, Bool, List, [], ◌∷◌, ◌++◌, map, flat_map, Ok, None, rules}
use Rattle.typing.specs.declared.typed.Arithmetic.{Arithmetic}
use Rattle.typing.specs.declared.typed.SetFunctionType.{SetFunctionType}
use Rattle.algebra.specs.declared.tree.Condition.TheVariants as c
use Rattle.algebra.specs.declared.tree.Expression.TheVariants as e
use Rattle.algebra.specs.declared.tree.SetFunction.TheVariants as f
use Rattle.rules.proofs.StoredNodes as known
use Rattle.algebra.proofs.Nodes as means

pub or-keeps : (xs ys : List Condition) → Each KeepsCondition xs ys → KeepsCondition (c.Or xs) (c.Or ys)
or-keeps xs ys h = record {
  same = λ tables fits env. rw (means.truth_or (outcome_step tables) xs, means.truth_or (outcome_step tables) ys)
      (disjunction-agree (map (tree_truth tables) xs) (map (tree_truth tables) ys)
      (each-known KeepsCondition Agree tables stored_in_condition (tree_truth tables) xs ys
      (λ x y r fit. r.same tables fit) (subst (HasAll tables) (known.condition_or ys) fits) h) env);
  stored = rw (known.condition_or xs, known.condition_or ys)
      (all-among KeepsCondition stored_in_condition xs ys (λ x y r. r.stored) h);
}

pub test-keeps : (asked : Truth) (x y : Condition) → KeepsCondition x y
    → KeepsCondition (c.IsTruth x asked) (c.IsTruth y asked)
test-keeps asked x y h = record {
  same = λ tables fits env. rw
      (means.truth_test (outcome_step tables) x asked, means.truth_test (outcome_step tables) y asked)
      (then-same (tree_truth tables x env) (tree_truth tables y env) _
      (h.same tables (subst (HasAll tables) (known.condition_test y asked) fits) env));
  stored = rw (known.condition_test x asked, known.condition_test y asked) h.stored;
}

pub compare-keeps : (op : CompOp) (a b x y : Expression) → KeepsExpression a b → KeepsExpression x y
    → KeepsCondition (c.Compare op a x) (c.Compare op b y)
compare-keeps op a b x y h k = record {
  same = λ tables fits env.
      let all = subst (HasAll tables) (known.condition_compare op b y) fits in
      rw (means.truth_compare (outcome_step tables) op a x, means.truth_compare (outcome_step tables) op b y)
      (compared-agree op (tree_value tables a) (tree_value tables b) (tree_value tables x) (tree_value tables y)
      (h.same tables (has-left tables (stored_in_expression b) (stored_in_expression y) all))
      (k.same tables (has-right tables (stored_in_expression b) (stored_in_expression y) all)) env);
  stored = rw (known.condition_compare op a x, known.condition_compare op b y)
      (among-two (stored_in_expression a) (stored_in_expression b) (stored_in_expression x)
      (stored_in_expression y) h.stored k.stored);
}

pub between-keeps : (a b l m x y : Expression) → KeepsExpression a b → KeepsExpression l m → KeepsExpression x y
    → KeepsCondition (c.Between a l x) (c.Between b m y)
between-keeps a b l m x y h g k = record {
  same = λ tables fits env.
      let all = subst (HasAll tables) (known.condition_between b m y) fits in
      let rest = has-right tables (stored_in_expression b) (stored_in_expression m ++ stored_in_expression y) all in
      rw (means.truth_between (outcome_step tables) a l x, means.truth_between (outcome_step tables) b m y)
      (between-agree (tree_value tables a) (tree_value tables b) (tree_value tables l) (tree_value tables m)
      (tree_value tables x) (tree_value tables y)
      (h.same tables (has-left tables (stored_in_expression b) (stored_in_expression m ++ stored_in_expression y) all))
      (g.same tables (has-left tables (stored_in_expression m) (stored_in_expression y) rest))
      (k.same tables (has-right tables (stored_in_expression m) (stored_in_expression y) rest)) env);
  stored = rw (known.condition_between a l x, known.condition_between b m y)
      (among-two (stored_in_expression a) (stored_in_expression b) (stored_in_expression l ++ stored_in_expression x)
      (stored_in_expression m ++ stored_in_expression y) h.stored
      (among-two (stored_in_expression l) (stored_in_expression m) (stored_in_expression x)
      (stored_in_expression y) g.stored k.stored));
}

pub in_list-keeps : (values : List Value) (a b : Expression) → KeepsExpression a b
    → KeepsCondition (c.InList a values) (c.InList b values)
in_list-keeps values a b h = record {
  same = λ tables fits env. rw (
    means.truth_in_list (outcome_step tables) a values,
    means.truth_in_list (outcome_step tables) b values,
  )
      (then-same (tree_value tables a env) (tree_value tables b env) _
      (h.same tables (subst (HasAll tables) (known.condition_in_list b values) fits) env));
  stored = rw (known.condition_in_list a values, known.condition_in_list b values) h.stored;
}

pub like-keeps : (a b x y : Expression) → KeepsExpression a b → KeepsExpression x y
    → KeepsCondition (c.Like a x) (c.Like b y)
like-keeps a b x y h k = record {
  same = λ tables fits env.
      let all = subst (HasAll tables) (known.condition_like b y) fits in
      rw (means.truth_like (outcome_step tables) a x, means.truth_like (outcome_step tables) b y)
      (two-agree (tree_value tables a) (tree_value tables b) (tree_value tables x) (tree_value tables y)
      (λ v w. Ok (like_of v w))
      (h.same tables (has-left tables (stored_in_expression b) (stored_in_expression y) all))
      (k.same tables (has-right tables (stored_in_expression b) (stored_in_expression y) all)) env);
  stored = rw (known.condition_like a x, known.condition_like b y)
      (among-two (stored_in_expression a) (stored_in_expression b) (stored_in_expression x)
      (stored_in_expression y) h.stored k.stored);
}

pub null-keeps : (a b : Expression) → KeepsExpression a b → KeepsCondition (c.IsNull a) (c.IsNull b)
null-keeps a b h = record {
  same = λ tables fits env. rw (means.truth_null (outcome_step tables) a, means.truth_null (outcome_step tables) b)
      (then-same (tree_value tables a env) (tree_value tables b env) _
      (h.same tables (subst (HasAll tables) (known.condition_null b) fits) env));
  stored = rw (known.condition_null a, known.condition_null b) h.stored;
}

-- ---- expressions

column_negation : (x : Expression) → column_of (e.Negation x) ≡ None
unfolding column_of
column_negation x = search (rules, the_lemmas)

column_scalar : (x : Tree) → column_of (e.Scalar x) ≡ None
unfolding column_of
column_scalar x = search (rules, the_lemmas)

column_calculation : (x : Expression) (xs : List (Arithmetic × Expression)) → column_of (e.Calculation x xs) ≡ None
unfolding column_of
column_calculation x xs = search (rules, the_lemmas)

column_concatenation : (x : Expression) (xs : List Expression) → column_of (e.Concatenation x xs) ≡ None
unfolding column_of
column_concatenation x xs = search (rules, the_lemmas)

pub negation-keeps : (a b : Expression) → KeepsExpression a b → KeepsExpression (e.Negation a) (e.Negation b)
negation-keeps a b h = record {
  same = λ tables fits env. rw
      (means.value_negation (outcome_step tables) a, means.value_negation (outcome_step tables) b)
      (then-same (tree_value tables a env) (tree_value tables b env) _
      (h.same tables (subst (HasAll tables) (known.expression_negation b) fits) env));
  column = column_negation a ∙ sym (column_negation b);
  stored = rw (known.expression_negation a, known.expression_negation b) h.stored;
}

pub scalar_same : (s u : Tree) → column_of (e.Scalar s) ≡ column_of (e.Scalar u)
scalar_same s u = column_scalar s ∙ sym (column_scalar u)

pub concatenation-keeps : (a b : Expression) (xs ys : List Expression) → KeepsExpression a b
    → Each KeepsExpression xs ys → KeepsExpression (e.Concatenation a xs) (e.Concatenation b ys)
concatenation-keeps a b xs ys h k = record {
  same = λ tables fits env.
      let all = subst (HasAll tables) (known.expression_concatenation b ys) fits in
      rw (means.value_concatenation (outcome_step tables) a xs, means.value_concatenation (outcome_step tables) b ys)
      (concatenation-agree (tree_value tables a env) (tree_value tables b env) (map (tree_value tables) xs)
      (map (tree_value tables) ys) env
      (h.same tables (has-left tables (stored_in_expression b) (all_stored (map stored_in_expression ys)) all) env)
      (each-known KeepsExpression Agree tables stored_in_expression (tree_value tables) xs ys
      (λ x y r fit. r.same tables fit)
      (has-right tables (stored_in_expression b) (all_stored (map stored_in_expression ys)) all) k));
  column = column_concatenation a xs ∙ sym (column_concatenation b ys);
  stored = rw (known.expression_concatenation a xs, known.expression_concatenation b ys)
      (among-two (stored_in_expression a) (stored_in_expression b) (all_stored (map stored_in_expression xs))
      (all_stored (map stored_in_expression ys)) h.stored
      (all-among KeepsExpression stored_in_expression xs ys (λ x y r. r.stored) k));
}

-- an operator with its operand
abbrev pub KeepsNext : Arithmetic × Expression → Arithmetic × Expression → Type 0
KeepsNext x y = (x.0 ≡ y.0) × KeepsExpression x.1 y.1

next-among : (xs ys : List (Arithmetic × Expression)) → Each KeepsNext xs ys
    → AreAmong (flat_map (λ (o : Arithmetic × Expression). stored_in_expression o.1) xs)
    (flat_map (λ (o : Arithmetic × Expression). stored_in_expression o.1) ys)
next-among [] [] h = λ x there. there
next-among [] (y ∷ ys) h = absurd h
next-among (x ∷ xs) [] h = absurd h
next-among (x ∷ xs) (y ∷ ys) h = among-two (stored_in_expression x.1) (stored_in_expression y.1) _ _ h.0.1.stored
    (next-among xs ys h.1)

next-meant : (tables : Tables) (xs ys : List (Arithmetic × Expression))
    → HasAll tables (flat_map (λ (o : Arithmetic × Expression). stored_in_expression o.1) ys) → Each KeepsNext xs ys
    → Each AgreeOnNext (map (λ (o : Arithmetic × Expression). (o.0, tree_value tables o.1)) xs)
    (map (λ (o : Arithmetic × Expression). (o.0, tree_value tables o.1)) ys)
next-meant tables [] [] fits h = tt
next-meant tables [] (y ∷ ys) fits h = absurd h
next-meant tables (x ∷ xs) [] fits h = absurd h
next-meant tables (x ∷ xs) (y ∷ ys) fits h = (
  (
    h.0.0,
    h.0.1.same tables
        (has-left tables (stored_in_expression y.1)
        (flat_map (λ (o : Arithmetic × Expression). stored_in_expression o.1) ys) fits),
  ),
  next-meant tables xs ys (has-right tables (stored_in_expression y.1)
      (flat_map (λ (o : Arithmetic × Expression). stored_in_expression o.1) ys) fits) h.1,
)

pub calculation-keeps : (a b : Expression) (xs ys : List (Arithmetic × Expression)) → KeepsExpression a b
    → Each KeepsNext xs ys → KeepsExpression (e.Calculation a xs) (e.Calculation b ys)
calculation-keeps a b xs ys h k = record {
  same = λ tables fits env.
      let all = subst (HasAll tables) (known.expression_calculation b ys) fits in
      rw (means.value_calculation (outcome_step tables) a xs, means.value_calculation (outcome_step tables) b ys)
      (chained-agree (tree_value tables a env) (tree_value tables b env)
      (map (λ (o : Arithmetic × Expression). (o.0, tree_value tables o.1)) xs)
      (map (λ (o : Arithmetic × Expression). (o.0, tree_value tables o.1)) ys) env
      (h.same tables (has-left tables (stored_in_expression b)
      (flat_map (λ (o : Arithmetic × Expression). stored_in_expression o.1) ys) all) env)
      (next-meant tables xs ys (has-right tables (stored_in_expression b)
      (flat_map (λ (o : Arithmetic × Expression). stored_in_expression o.1) ys) all) k));
  column = column_calculation a xs ∙ sym (column_calculation b ys);
  stored = rw (known.expression_calculation a xs, known.expression_calculation b ys)
      (among-two (stored_in_expression a) (stored_in_expression b)
      (flat_map (λ (o : Arithmetic × Expression). stored_in_expression o.1) xs)
      (flat_map (λ (o : Arithmetic × Expression). stored_in_expression o.1) ys)
      h.stored (next-among xs ys k));
}

pub over-keeps : (function : SetFunctionType) (is_distinct : Bool) (a b : Expression) → KeepsExpression a b
    → KeepsFunction (f.Over function is_distinct a) (f.Over function is_distinct b)
over-keeps function is_distinct a b h = record {
  same = λ tables fits. subst
      (λ (m : MeantFunction). AgreeOnGroups (function_of m)
      (function_of (function_by (outcome_step tables) (f.Over function is_distinct b))))
      (sym (means.function_over (outcome_step tables) function is_distinct a))
      (subst (λ (m : MeantFunction). AgreeOnGroups (function_of (Argument function is_distinct (tree_value tables a)))
      (function_of m)) (sym (means.function_over (outcome_step tables) function is_distinct b))
      (set_function-agree function is_distinct (tree_value tables a) (tree_value tables b)
      (h.same tables (subst (HasAll tables) (known.function_over function is_distinct b) fits))));
  stored = rw (known.function_over function is_distinct a, known.function_over function is_distinct b) h.stored;
}
