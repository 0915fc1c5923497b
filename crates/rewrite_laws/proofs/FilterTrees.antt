-- Rules of filters as laws of trees: Q1, Q2, Q3 and Q16.
use Rattle.algebra.specs.OrderKeys.{order_keys}
use Rattle.algebra.specs.TreeOutcome.{outcome_step, tree_outcome, tree_truth}
use Rattle.algebra.specs.declared.tree.Condition.{Condition}
use Rattle.algebra.specs.declared.tree.Tree.{Tree}
use Rattle.denote.specs.Condition.{conjunction, both}
use Rattle.denote.specs.Evaluation.{Env, Evaluation, ◌>>=◌}
use Rattle.denote.specs.Meaning.{Tables}
use Rattle.operator_laws.specs.Law.{is_true, is_true_at}
use Rattle.rewrite_laws.proofs.JoinOperators.{left-of-left, below-left, below-right}
use Rattle.rewrite_laws.proofs.Pairs.{every-then}
use Rattle.rewrite_laws.proofs.Sides.{Quiet, same-of, SeesLeftAlone, SeesRightAs}
use Rattle.rewrite_laws.proofs.Sifted.{filter-splits, prefilter-drops}
use Rattle.rules.specs.FilterRules.{not_false}
use Rattle.rules.specs.Same.{HasAll, AreAmong, Keeps}
use Rattle.rules.specs.Stored.{StoredTables, all_stored, stored_in_condition, stored_in_tree}
use Rattle.rules.specs.Width.{width_of_tree}
use Rattle.same_laws.proofs.Composed.{among-refl, has-left, has-right, begins-refl, begins-nothing}
use Rattle.same_laws.proofs.Widths.{Wide, trees-wide}
use Rattle.sqlval.specs.Truth.{truth_not, truth_is}
use Rattle.sqlval.specs.Value.{Row}
use Rattle.sqlval.specs.declared.truth.Truth.{Truth}
use Rattle.sqlval.specs.declared.truth.Truth.TheVariants.{False, Unknown, True}
use Rattle.std.proofs.Common.{◌≡◌, refl, sym, subst, ap, ◌∙◌, ℕ, List, [], ◌∷◌, ◌++◌, map, Ok, false, append_assoc, Some, Err, ◌⊎◌, inl, inr}
use Rattle.std.proofs.lemmas.List.Elements.{Contains-append_left, Contains-append_right, Contains-append_cases}
use Rattle.std.specs.Prelude.{Contains}
use Rattle.algebra.specs.declared.tree.Condition.TheVariants as c
use Rattle.algebra.proofs.KeyNodes as keys
use Rattle.rules.proofs.StoredNodes as known
use Rattle.algebra.proofs.Nodes as means
use Rattle.algebra.specs.declared.tree.Tree.TheVariants as t

-- ---- Q1

pub q1 : (first : Condition) (rest : List Condition) (rows : Tree) → Quiet (c.And rest)
    → Keeps (t.Filter (c.And rest) (t.Filter first rows)) (t.Filter (c.And (first ∷ rest)) rows)
q1 first rest rows quiet = record {
  same = λ tables fits env. same-of _ _
      (rw (
        means.tree_filter (outcome_step tables) (c.And rest) (t.Filter first rows),
        means.tree_filter (outcome_step tables) first rows,
        means.tree_filter (outcome_step tables) (c.And (first ∷ rest)) rows,
        split tables,
      )
      (sym (filter-splits (tree_truth tables first) (tree_truth tables (c.And rest)) env (quiet tables)
      (tree_outcome tables rows env))));
  keys = rw (
    keys.keys_filter (c.And rest) (t.Filter first rows),
    keys.keys_filter first rows,
    keys.keys_filter (c.And (first ∷ rest)) rows,
  ) (begins-refl (order_keys rows));
  stored = rw (
    known.tree_filter (c.And rest) (t.Filter first rows),
    known.tree_filter first rows,
    known.tree_filter (c.And (first ∷ rest)) rows,
    known.condition_and rest,
    known.condition_and (first ∷ rest),
  )
      (λ table there. turned (all_stored (map stored_in_condition rest)) (stored_in_condition first)
      (stored_in_tree rows) table there);
}
  where
    split : (tables : Tables)
        → tree_truth tables (c.And (first ∷ rest))
        ≡ (λ env. tree_truth tables first env >>= (λ x. both x (tree_truth tables (c.And rest) env)))
    split tables = λ i env. (means.truth_and (outcome_step tables) (first ∷ rest) env
        ∙ ap (λ e. tree_truth tables first env >>= (λ x. both x e))
        (sym (means.truth_and (outcome_step tables) rest env))) i

    turned : (a b d : StoredTables) → AreAmong (a ++ (b ++ d)) ((b ++ a) ++ d)
    turned a b d table there = at-one (Contains-append_cases a (b ++ d) table there)
      where
        inner : Contains b table ⊎ Contains d table → Contains ((b ++ a) ++ d) table
        inner (inl h) = Contains-append_left (b ++ a) d table (Contains-append_left b a table h)
        inner (inr h) = Contains-append_right (b ++ a) d table h

        at-one : Contains a table ⊎ Contains (b ++ d) table → Contains ((b ++ a) ++ d) table
        at-one (inl h) = Contains-append_left (b ++ a) d table (Contains-append_right b a table h)
        at-one (inr h) = inner (Contains-append_cases b d table h)

-- ---- Q2

-- a condition and two sides, put together another way
among-moved : (a b d : StoredTables) → AreAmong ((a ++ b) ++ d) (a ++ (b ++ d))
among-moved a b d = rw (append_assoc a b d) (among-refl (a ++ (b ++ d)))

pub q2-left : (condition : Condition) (l r : Tree) (w : ℕ) → width_of_tree l ≡ Some w
    → SeesLeftAlone condition w → Quiet condition
    → Keeps (t.Product (t.Filter condition l) r) (t.Filter condition (t.Product l r))
q2-left condition l r w wide sees quiet = record {
  same = λ tables fits env.
      let all = subst (HasAll tables) (known.tree_filter condition (t.Product l r)
      ∙ ap (λ rest. stored_in_condition condition ++ rest) (known.tree_product l r)) fits in
      let sides = has-right tables (stored_in_condition condition) (stored_in_tree l ++ stored_in_tree r) all in
      let rows = trees-wide tables l w wide (has-left tables (stored_in_tree l) (stored_in_tree r) sides) env in
      same-of _ _ (rw (
        means.tree_product (outcome_step tables) (t.Filter condition l) r,
        means.tree_filter (outcome_step tables) condition l,
        means.tree_filter (outcome_step tables) condition
            (t.Product l r),
        means.tree_product (outcome_step tables) l r,
      )
      (below-left (tree_truth tables condition) (tree_truth tables condition) env (tree_outcome tables l env)
      (tree_outcome tables r env) (quiet tables) (quiet tables)
      (every-then (Wide w) (λ x. (y : Row) → is_true_at (tree_truth tables condition) env (x ++ y)
      ≡ is_true_at (tree_truth tables condition) env x) (tree_outcome tables l env).rows rows
      (λ x e y. ap is_true (sees tables x y env e)))));
  keys = rw (
    keys.keys_product (t.Filter condition l) r,
    keys.keys_filter condition (t.Product l r),
    keys.keys_product l r,
  ) (begins-nothing []);
  stored = rw (
    known.tree_product (t.Filter condition l) r,
    known.tree_filter condition l,
    known.tree_filter condition (t.Product l r),
    known.tree_product l r,
  )
      (among-moved (stored_in_condition condition) (stored_in_tree l) (stored_in_tree r));
}

pub q2-right : (condition own : Condition) (l r : Tree) (w : ℕ) → width_of_tree l ≡ Some w
    → SeesRightAs condition own w → Quiet condition → Quiet own
    → AreAmong (stored_in_condition own) (stored_in_condition condition)
    → Keeps (t.Product l (t.Filter own r)) (t.Filter condition (t.Product l r))
q2-right condition own l r w wide sees quiet still known-moved = record {
  same = λ tables fits env.
      let all = subst (HasAll tables) (known.tree_filter condition (t.Product l r)
      ∙ ap (λ rest. stored_in_condition condition ++ rest) (known.tree_product l r)) fits in
      let sides = has-right tables (stored_in_condition condition) (stored_in_tree l ++ stored_in_tree r) all in
      let rows = trees-wide tables l w wide (has-left tables (stored_in_tree l) (stored_in_tree r) sides) env in
      same-of _ _ (rw (
        means.tree_product (outcome_step tables) l (t.Filter own r),
        means.tree_filter (outcome_step tables) own r,
        means.tree_filter (outcome_step tables) condition (t.Product l r),
        means.tree_product (outcome_step tables) l r,
      )
      (below-right (tree_truth tables own) (tree_truth tables condition) env
      (tree_outcome tables l env) (tree_outcome tables r env) (still tables) (quiet tables)
      (every-then (Wide w) (λ x. (y : Row) → is_true_at (tree_truth tables condition) env (x ++ y)
      ≡ is_true_at (tree_truth tables own) env y) (tree_outcome tables l env).rows rows
      (λ x e y. ap is_true (sees tables x y env e)))));
  keys = rw (
    keys.keys_product l (t.Filter own r),
    keys.keys_filter condition (t.Product l r),
    keys.keys_product l r,
  ) (begins-nothing []);
  stored = rw (
    known.tree_product l (t.Filter own r),
    known.tree_filter own r,
    known.tree_filter condition (t.Product l r),
    known.tree_product l r,
  )
      (turned (stored_in_condition own) (stored_in_condition condition) (stored_in_tree l)
      (stored_in_tree r) known-moved);
}
  where
    turned : (m c l r : StoredTables) → AreAmong m c → AreAmong (l ++ (m ++ r)) (c ++ (l ++ r))
    turned m c l r h table there = at (Contains-append_cases l (m ++ r) table there)
      where
        low : Contains m table ⊎ Contains r table → Contains (c ++ (l ++ r)) table
        low (inl k) = Contains-append_left c (l ++ r) table (h table k)
        low (inr k) = Contains-append_right c (l ++ r) table (Contains-append_right l r table k)

        at : Contains l table ⊎ Contains (m ++ r) table → Contains (c ++ (l ++ r)) table
        at (inl k) = Contains-append_right c (l ++ r) table (Contains-append_left l r table k)
        at (inr k) = low (Contains-append_cases m r table k)

-- ---- Q3

pub q3 : (condition on : Condition) (l r : Tree) (width w : ℕ) → width_of_tree l ≡ Some w
    → SeesLeftAlone condition w → Quiet condition → Quiet on
    → Keeps (t.Left on (t.Filter condition l) r width) (t.Filter condition (t.Left on l r width))
q3 condition on l r width w wide sees quiet safe = record {
  same = λ tables fits env.
      let all = subst (HasAll tables) (known.tree_filter condition (t.Left on l r width)
      ∙ ap (λ rest. stored_in_condition condition ++ rest) (known.tree_left on l r width)) fits in
      let sides = has-right tables (stored_in_condition on) (stored_in_tree l ++ stored_in_tree r)
      (has-right tables (stored_in_condition condition)
      (stored_in_condition on ++ (stored_in_tree l ++ stored_in_tree r)) all) in
      let rows = trees-wide tables l w wide (has-left tables (stored_in_tree l) (stored_in_tree r) sides) env in
      same-of _ _ (rw (
        means.tree_left (outcome_step tables) on (t.Filter condition l) r width,
        means.tree_filter (outcome_step tables) condition l,
        means.tree_filter (outcome_step tables) condition (t.Left on l r width),
        means.tree_left (outcome_step tables) on l r width,
      )
      (left-of-left (tree_truth tables condition) (tree_truth tables condition) (tree_truth tables on) env width
      (tree_outcome tables l env) (tree_outcome tables r env) (quiet tables) (quiet tables) (safe tables)
      (every-then (Wide w) (λ x. (y : Row) → is_true_at (tree_truth tables condition) env (x ++ y)
      ≡ is_true_at (tree_truth tables condition) env x) (tree_outcome tables l env).rows rows
      (λ x e y. ap is_true (sees tables x y env e)))));
  keys = rw (
    keys.keys_left on (t.Filter condition l) r width,
    keys.keys_filter condition (t.Left on l r width),
    keys.keys_left on l r width,
  ) (begins-nothing []);
  stored = rw (
    known.tree_left on (t.Filter condition l) r width,
    known.tree_filter condition l,
    known.tree_filter condition (t.Left on l r width),
    known.tree_left on l r width,
  )
      (turned (stored_in_condition on) (stored_in_condition condition) (stored_in_tree l) (stored_in_tree r));
}
  where
    turned : (a b d e : StoredTables) → AreAmong (a ++ ((b ++ d) ++ e)) (b ++ (a ++ (d ++ e)))
    turned a b d e table there = at-two (Contains-append_cases a ((b ++ d) ++ e) table there)
      where
        rest : Contains (d ++ e) table → Contains (b ++ (a ++ (d ++ e))) table
        rest h = Contains-append_right b (a ++ (d ++ e)) table (Contains-append_right a (d ++ e) table h)

        inner : Contains b table ⊎ Contains d table → Contains (b ++ (a ++ (d ++ e))) table
        inner (inl h) = Contains-append_left b (a ++ (d ++ e)) table h
        inner (inr h) = rest (Contains-append_left d e table h)

        at-one : Contains (b ++ d) table ⊎ Contains e table → Contains (b ++ (a ++ (d ++ e))) table
        at-one (inl h) = inner (Contains-append_cases b d table h)
        at-one (inr h) = rest (Contains-append_right d e table h)

        at-two : Contains a table ⊎ Contains ((b ++ d) ++ e) table → Contains (b ++ (a ++ (d ++ e))) table
        at-two (inl h) = Contains-append_right b (a ++ (d ++ e)) table (Contains-append_left a (d ++ e) table h)
        at-two (inr h) = at-one (Contains-append_cases (b ++ d) e table h)

-- ---- Q16

pub q16 : (first : Condition) (rest : List Condition) (rows : Tree) → Quiet first
    → Keeps (t.Filter (c.And (first ∷ rest)) (t.Filter (not_false first) rows)) (t.Filter (c.And (first ∷ rest)) rows)
q16 first rest rows quiet = record {
  same = λ tables fits env. same-of _ _
      (rw (
        means.tree_filter (outcome_step tables) (c.And (first ∷ rest)) (t.Filter (not_false first) rows),
        means.tree_filter (outcome_step tables) (not_false first) rows,
        means.tree_filter (outcome_step tables) (c.And (first ∷ rest)) rows,
        split tables,
      )
      (prefilter-drops (tree_truth tables first) (conjunction (map (tree_truth tables) rest)) env (quiet tables)
      (tree_truth tables (not_false first)) (λ outer. value tables outer)
      (λ row e. means-false tables (row ∷ env) e)
      (tree_outcome tables rows env)));
  keys = rw (
    keys.keys_filter (c.And (first ∷ rest)) (t.Filter (not_false first) rows),
    keys.keys_filter (not_false first) rows,
    keys.keys_filter (c.And (first ∷ rest)) rows,
  )
      (begins-refl (order_keys rows));
  stored = rw (
    known.tree_filter (c.And (first ∷ rest)) (t.Filter (not_false first) rows),
    known.tree_filter (not_false first) rows,
    known.tree_filter (c.And (first ∷ rest)) rows,
    known.condition_not (c.IsTruth first False),
    known.condition_test first False,
    known.condition_and (first ∷ rest),
  )
      (doubled (stored_in_condition first) (all_stored (map stored_in_condition rest)) (stored_in_tree rows));
}
  where
    split : (tables : Tables)
        → tree_truth tables (c.And (first ∷ rest))
        ≡ (λ env. tree_truth tables first env >>= (λ x. both x (conjunction (map (tree_truth tables) rest) env)))
    split tables = λ i env. means.truth_and (outcome_step tables) (first ∷ rest) env i

    pre-is : (tables : Tables) (env : Env)
        → tree_truth tables (not_false first) env
        ≡ ((tree_truth tables first env >>= (λ t. Ok (truth_is t False))) >>= (λ t. Ok (truth_not t)))
    pre-is tables env = means.truth_negation (outcome_step tables) (c.IsTruth first False) env
        ∙ ap (λ (e : Evaluation Truth). e >>= (λ t. Ok (truth_not t)))
        (means.truth_test (outcome_step tables) first False env)

    value : (tables : Tables) (env : Env) → (t : Truth) × (tree_truth tables (not_false first) env ≡ Ok t)
    value tables env = let v = quiet tables env in (
      truth_not (truth_is v.0 False),
      pre-is tables env
          ∙ ap (λ (e : Evaluation Truth). (e >>= (λ t. Ok (truth_is t False))) >>= (λ t. Ok (truth_not t))) v.1,
    )

    by-cases : (e : Evaluation Truth) (t : Truth) → e ≡ Ok t
        → is_true ((e >>= (λ t. Ok (truth_is t False))) >>= (λ t. Ok (truth_not t))) ≡ false → e ≡ Ok False
    by-cases (Ok False) t is h = refl
    by-cases (Ok Unknown) t is h = absurd (cc (h))
    by-cases (Ok True) t is h = absurd (cc (h))
    by-cases (Err faults) t is h = absurd (cc (is))

    means-false : (tables : Tables) (env : Env) → is_true (tree_truth tables (not_false first) env) ≡ false
        → tree_truth tables first env ≡ Ok False
    means-false tables env e = let v = quiet tables env in by-cases (tree_truth tables first env) v.0 v.1
        (sym (ap is_true (pre-is tables env)) ∙ e)

    doubled : (a b d : StoredTables) → AreAmong ((a ++ b) ++ (a ++ d)) ((a ++ b) ++ d)
    doubled a b d table there = at (Contains-append_cases (a ++ b) (a ++ d) table there)
      where
        more : Contains a table ⊎ Contains d table → Contains ((a ++ b) ++ d) table
        more (inl k) = Contains-append_left (a ++ b) d table (Contains-append_left a b table k)
        more (inr k) = Contains-append_right (a ++ b) d table k

        at : Contains (a ++ b) table ⊎ Contains (a ++ d) table → Contains ((a ++ b) ++ d) table
        at (inl k) = Contains-append_left (a ++ b) d table k
        at (inr k) = more (Contains-append_cases a d table k)
