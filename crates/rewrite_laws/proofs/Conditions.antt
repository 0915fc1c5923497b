-- Conditions that are put together of conjuncts: what they mean, and what is denied of them.
use Rattle.algebra.specs.Raising.{NeverRaises, condition_may_raise, condition_may, expression_may, function_may, tree_may, expression_may_raise, function_may_raise, tree_may_raise, is_plain, some_may}
use Rattle.algebra.specs.TreeOutcome.{outcome_step, tree_truth, tree_value}
use Rattle.algebra.specs.declared.tree.Condition.{Condition, Condition-F, map-Condition, out-Condition, fold_out-Condition}
use Rattle.algebra.specs.declared.tree.Expression.{Expression}
use Rattle.denote.specs.Condition.{ConditionMeaning}
use Rattle.denote.specs.Evaluation.{Env}
use Rattle.denote.specs.Meaning.{Tables}
use Rattle.key_lookups.specs.Sought.{conjuncts_at}
use Rattle.operator_laws.proofs.Same.{IsSameValue-refl}
use Rattle.operator_laws.specs.Law.{is_true}
use Rattle.operator_laws.specs.Same.{Agree}
use Rattle.rewrite_laws.proofs.Conjunctions.{AllQuiet, all-value, true-all}
use Rattle.rewrite_laws.proofs.MovedPlain.{moved-tame}
use Rattle.rewrite_laws.proofs.Sides.{Quiet}
use Rattle.rewrite_laws.proofs.Truths.{one-alone, and-of-conjuncts}
use Rattle.rules.proofs.StoredNodes.{condition_and}
use Rattle.rules.specs.Columns.{Place, names_only, moved}
use Rattle.rules.specs.Conjuncts.{conjuncts, quiet, and_of}
use Rattle.rules.specs.Nodes.{Node}
use Rattle.rules.specs.Same.{AreAmong, KeepsCondition}
use Rattle.rules.specs.Stored.{StoredTables, all_stored, stored_in_condition, stored_in_expression, stored_in_tree, stored_in_function, stored_of_expression, stored_of_condition, stored_of_function, stored_of_tree}
use Rattle.same_laws.proofs.Composed.{among-refl, among-two}
use Rattle.same_laws.proofs.Moved.{and_true}
use Rattle.std.proofs.Common.{◌≡◌, refl, sym, subst, ap, ◌∙◌, ℕ, Bool, List, [], ◌∷◌, ◌++◌, map, true, false, not, ◌&&◌, ◌||◌, cond, append-nil, arith}
use Rattle.std.proofs.lemmas.List.Elements.{Contains-append_right}
use Rattle.std.specs.List.{list_all}
use Rattle.std.specs.Prelude.{Contains, filter}
use Rattle.algebra.specs.declared.tree.Condition.TheVariants as c
use Rattle.rules.proofs.StoredNodes as known
use Rattle.algebra.proofs.Nodes as means

-- ---- a condition told another way

pub record Alike (new old : Condition) : Type 0 where
  pub truth : (tables : Tables) → tree_truth tables new ≡ tree_truth tables old
  pub stored : stored_in_condition new ≡ stored_in_condition old

pub alike-sym : {new old : Condition} → Alike new old → Alike old new
alike-sym h = record { truth = λ tables. sym (h.truth tables); stored = sym h.stored }

pub stands : (new old : Condition) → Alike new old → KeepsCondition new old
stands new old h = record {
  same = λ tables fits. subst (λ (m : ConditionMeaning). Agree m (tree_truth tables old)) (sym (h.truth tables))
      (λ env. IsSameValue-refl (tree_truth tables old env));
  stored = subst (λ (z : StoredTables). AreAmong z (stored_in_condition old)) (sym h.stored)
      (among-refl (stored_in_condition old));
}

pub and-alone : (condition : Condition) → Alike condition (c.And (condition ∷ []))
and-alone condition = record {
  truth = λ tables. λ i env. sym (means.truth_and (outcome_step tables) (condition ∷ []) env
      ∙ one-alone (tree_truth tables condition env)) i;
  stored = sym (known.condition_and (condition ∷ []) ∙ append-nil (stored_in_condition condition));
}

pub and-of : (conditions : List Condition) → Alike (and_of conditions) (c.And conditions)
and-of [] = record { truth = λ tables. refl; stored = refl }
and-of (condition ∷ []) = and-alone condition
and-of (first ∷ (second ∷ rest)) = record { truth = λ tables. refl; stored = refl }

stored-is : (condition : Condition) → stored_in_condition condition
    ≡ stored_of_condition (map-Condition _ _ _ _ _ _ _ _ stored_in_condition stored_in_expression stored_in_function
    stored_in_tree (out-Condition condition))
unfolding stored_in_condition stored_in_expression stored_in_function stored_in_tree
stored-is condition = fold_out-Condition _ _ _ _ stored_of_condition stored_of_expression stored_of_function
    stored_of_tree condition

-- a condition is the AND of its conjuncts
pub conjuncts-alike : (condition : Condition) → Alike (c.And (conjuncts condition)) condition
conjuncts-alike condition =
    record {
      truth = λ tables. and-of-conjuncts tables condition;
      stored =
          at (out-Condition condition) (stored-is condition);
    }
  where
    alone : stored_in_condition (c.And (condition ∷ [])) ≡ stored_in_condition condition
    alone = known.condition_and (condition ∷ []) ∙ append-nil (stored_in_condition condition)

    at : (d : Node Condition-F) → stored_in_condition condition
        ≡ stored_of_condition (map-Condition _ _ _ _ _ _ _ _ stored_in_condition stored_in_expression stored_in_function
        stored_in_tree d)
        → stored_in_condition (c.And (conjuncts_at d condition)) ≡ stored_in_condition condition
    at (Condition-F.And operands) e = known.condition_and operands ∙ sym e
    at (Condition-F.Or operands) e = alone
    at (Condition-F.Not operand) e = alone
    at (Condition-F.IsTruth operand truth) e = alone
    at (Condition-F.Compare operator left right) e = alone
    at (Condition-F.Between operand low high) e = alone
    at (Condition-F.InList operand values) e = alone
    at (Condition-F.InQuery operand tree) e = alone
    at (Condition-F.Like operand pattern) e = alone
    at (Condition-F.IsNull operand) e = alone
    at (Condition-F.Exists tree) e = alone

-- ---- lists of conditions

pub all-filtered : {X : Type 0} (p q : X → Bool) (xs : List X) → list_all p xs ≡ true → list_all p (filter q xs) ≡ true
all-filtered p q [] e = refl
all-filtered {X} p q (x ∷ xs) e = let h = and_true (p x) (list_all p xs) e in at (q x) (all-filtered p q xs h.1) h.0
  where
    at : (b : Bool) → list_all p (filter q xs) ≡ true → p x ≡ true → list_all p (cond b (x ∷ filter q xs) (filter q xs))
        ≡ true
    at true rest one = λ i. one i && rest i
    at false rest one = rest

pub filter-passes : {X : Type 0} (p : X → Bool) (xs : List X) → list_all p (filter p xs) ≡ true
filter-passes p [] = refl
filter-passes {X} p (x ∷ xs) = at (p x) refl (filter-passes p xs)
  where
    at : (b : Bool) → p x ≡ b → list_all p (filter p xs) ≡ true → list_all p (cond b (x ∷ filter p xs) (filter p xs))
        ≡ true
    at true one rest = λ i. one i && rest i
    at false one rest = rest

pub filter-among : (p : Condition → Bool) (conditions : List Condition)
    → AreAmong (all_stored (map stored_in_condition (filter p conditions)))
    (all_stored (map stored_in_condition conditions))
filter-among p [] = among-refl []
filter-among p (condition ∷ conditions) = at (p condition) (filter-among p conditions)
  where
    at : (b : Bool) → AreAmong (all_stored (map stored_in_condition (filter p conditions)))
        (all_stored (map stored_in_condition conditions))
        → AreAmong (all_stored (map stored_in_condition
        (cond b (condition ∷ filter p conditions) (filter p conditions))))
        (stored_in_condition condition ++ all_stored (map stored_in_condition conditions))
    at true h = among-two (stored_in_condition condition) (stored_in_condition condition)
        (all_stored (map stored_in_condition (filter p conditions))) (all_stored (map stored_in_condition conditions))
        (among-refl (stored_in_condition condition)) h
    at false h = λ table there.
        Contains-append_right (stored_in_condition condition) (all_stored (map stored_in_condition conditions)) table
        (h table there)

pub and-among : (p : Condition → Bool) (conditions : List Condition)
    → AreAmong (stored_in_condition (c.And (filter p conditions))) (stored_in_condition (c.And conditions))
and-among p conditions = rw (known.condition_and (filter p conditions), known.condition_and conditions)
    (filter-among p conditions)

-- ---- what is denied to raise

-- what the law of denials gives
pub record Denials : Type 0 where
  pub condition : (tables : Tables) (condition : Condition) → condition_may_raise condition ≡ false
      → NeverRaises (tree_truth tables condition)
  pub expression : (tables : Tables) (expression : Expression) → expression_may_raise expression ≡ false
      → NeverRaises (tree_value tables expression)
  pub plain : (condition : Condition) → is_plain condition ≡ true → condition_may_raise condition ≡ false

may-is : (condition : Condition) → condition_may_raise condition
    ≡ condition_may (map-Condition _ _ _ _ _ _ _ _ condition_may_raise expression_may_raise function_may_raise
    tree_may_raise (out-Condition condition))
unfolding condition_may_raise expression_may_raise function_may_raise tree_may_raise
may-is condition = fold_out-Condition _ _ _ _ condition_may expression_may function_may tree_may condition

none-may : (conditions : List Condition) → not (some_may (map condition_may_raise conditions)) ≡ true
    → list_all quiet conditions ≡ true
none-may [] e = refl
none-may (condition ∷ conditions) e = at (condition_may_raise condition) refl (λ k. none-may conditions k) e
  where
    at : (b : Bool) → condition_may_raise condition ≡ b
        → (not (some_may (map condition_may_raise conditions)) ≡ true → list_all quiet conditions ≡ true)
        → not (b || some_may (map condition_may_raise conditions)) ≡ true
        → (not (condition_may_raise condition) && list_all quiet conditions) ≡ true
    at true is rest k = absurd (cc (k))
    at false is rest k = λ i. not (is i) && rest k i

-- the conjuncts of a quiet condition are
pub conjuncts-quiet : (condition : Condition) → quiet condition ≡ true → list_all quiet (conjuncts condition) ≡ true
conjuncts-quiet condition e = at (out-Condition condition) (may-is condition)
  where
    alone : list_all quiet (condition ∷ []) ≡ true
    alone = ap (λ b. b && true) e

    at : (d : Node Condition-F) → condition_may_raise condition
        ≡ condition_may (map-Condition _ _ _ _ _ _ _ _ condition_may_raise expression_may_raise function_may_raise
        tree_may_raise d)
        → list_all quiet (conjuncts_at d condition) ≡ true
    at (Condition-F.And operands) is = none-may operands (ap not (sym is) ∙ e)
    at (Condition-F.Or operands) is = alone
    at (Condition-F.Not operand) is = alone
    at (Condition-F.IsTruth operand truth) is = alone
    at (Condition-F.Compare operator left right) is = alone
    at (Condition-F.Between operand low high) is = alone
    at (Condition-F.InList operand values) is = alone
    at (Condition-F.InQuery operand tree) is = alone
    at (Condition-F.Like operand pattern) is = alone
    at (Condition-F.IsNull operand) is = alone
    at (Condition-F.Exists tree) is = alone

pub off : (b : Bool) → not b ≡ true → b ≡ false
off true e = absurd (cc (e))
off false e = refl

module _ (denied : Denials) where
  pub quiet-is : (condition : Condition) → quiet condition ≡ true → Quiet condition
  quiet-is condition e tables = denied.condition tables condition (off (condition_may_raise condition) e)

  pub plain-quiet : (condition : Condition) → is_plain condition ≡ true → quiet condition ≡ true
  plain-quiet condition e = ap not (denied.plain condition e)

  pub all-quiet : (conditions : List Condition) → list_all quiet conditions ≡ true → (tables : Tables) (env : Env)
      → AllQuiet tables env conditions
  all-quiet [] e tables env = tt
  all-quiet (condition ∷ conditions) e tables env =
      let h = and_true (quiet condition) (list_all quiet conditions) e in
      (quiet-is condition h.0 tables env, all-quiet conditions h.1 tables env)

  pub and-quiet : (conditions : List Condition) → list_all quiet conditions ≡ true → Quiet (c.And conditions)
  and-quiet conditions e tables env =
      let v = all-value tables env conditions (all-quiet conditions e tables env) in
      (v.0, means.truth_and (outcome_step tables) conditions env ∙ v.1)

  -- an AND of quiet conditions is true where all are
  pub and-true-all : (conditions : List Condition) → list_all quiet conditions ≡ true → (tables : Tables) (env : Env)
      → is_true (tree_truth tables (c.And conditions) env)
      ≡ list_all (λ condition. is_true (tree_truth tables condition env)) conditions
  and-true-all conditions e tables env =
      ap is_true (means.truth_and (outcome_step tables) conditions env)
      ∙ true-all tables env conditions (all-quiet conditions e tables env)

  -- with their columns moved they are quiet too, and read no table
  pub moved-quiet : (test : ℕ → ℕ → Bool) (to : ℕ → ℕ → Place) (conditions : List Condition)
      → list_all (names_only test) conditions ≡ true
      → list_all quiet (map (moved to) conditions) ≡ true
  moved-quiet test to [] e = refl
  moved-quiet test to (condition ∷ conditions) e =
      let h = and_true (names_only test condition) (list_all (names_only test) conditions) e in
      λ i. plain-quiet (moved to condition) (moved-tame test to condition h.0).0 i && moved-quiet test to conditions h.1
      i

pub moved-stored : (test : ℕ → ℕ → Bool) (to : ℕ → ℕ → Place) (conditions : List Condition)
    → list_all (names_only test) conditions ≡ true
    → all_stored (map stored_in_condition (map (moved to) conditions)) ≡ []
moved-stored test to [] e = refl
moved-stored test to (condition ∷ conditions) e =
    let h = and_true (names_only test condition) (list_all (names_only test) conditions) e in
    λ i. (moved-tame test to condition h.0).1 i ++ moved-stored test to conditions h.1 i

pub none-there : {X : Type 0} (x : X) → Contains [] x → ⊥
none-there x h = let beyond = h.1 in omega (arith, beyond)

pub moved-among : (test : ℕ → ℕ → Bool) (to : ℕ → ℕ → Place) (conditions : List Condition) (stored : StoredTables)
    → list_all (names_only test) conditions ≡ true
    → AreAmong (stored_in_condition (c.And (map (moved to) conditions))) stored
moved-among test to conditions stored e table there =
    absurd (none-there table (subst (λ (z : StoredTables). Contains z table)
    (known.condition_and (map (moved to) conditions) ∙ moved-stored test to conditions e) there))
