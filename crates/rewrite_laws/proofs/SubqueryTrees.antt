-- Rules of subqueries as laws of trees: Q13 and Q14.
use Rattle.algebra.specs.Joined.{is_member}
use Rattle.algebra.specs.OrderKeys.{order_keys}
use Rattle.algebra.specs.TreeOutcome.{outcome_step, tree_outcome, tree_truth, tree_value}
use Rattle.algebra.specs.declared.tree.Condition.{Condition}
use Rattle.algebra.specs.declared.tree.Expression.{Expression}
use Rattle.algebra.specs.declared.tree.StoredTable.{StoredTable}
use Rattle.algebra.specs.declared.tree.Tree.{Tree}
use Rattle.denote.specs.Condition.{ConditionMeaning, is_empty}
use Rattle.denote.specs.Evaluation.{Env, Evaluation, ◌>>=◌}
use Rattle.denote.specs.Expression.{cell, column}
use Rattle.denote.specs.From.{only_true, kept_row, kept}
use Rattle.denote.specs.Group.{members}
use Rattle.denote.specs.Meaning.{Tables}
use Rattle.denote.specs.Outcome.{Outcome, each, through, before}
use Rattle.denote.specs.Select.{values_of, shown}
use Rattle.operator_laws.specs.Law.{is_true, is_true_at}
use Rattle.rewrite_laws.proofs.LookupTrees.{QuietItems}
use Rattle.rewrite_laws.proofs.Pairs.{every-then}
use Rattle.rewrite_laws.proofs.Sides.{Quiet, same-of}
use Rattle.rewrite_laws.proofs.Sifted.{through-safe}
use Rattle.rewrite_laws.proofs.SubqueryOperators.{Finds, exists-half, exists-opposite, in-member, not_in-member}
use Rattle.rules.specs.Columns.{names_only, moved, to_half, in_half}
use Rattle.rules.specs.Same.{HasAll, AreAmong, Keeps}
use Rattle.rules.specs.Stored.{StoredTables, all_stored, stored_in_condition, stored_in_expression, stored_in_tree}
use Rattle.rules.specs.Width.{width_of_tree}
use Rattle.same_laws.proofs.Composed.{has-right, begins-refl}
use Rattle.same_laws.proofs.Moved.{conditions-move}
use Rattle.same_laws.proofs.Widths.{Wide, trees-wide}
use Rattle.sqlval.specs.Truth.{truth_not}
use Rattle.sqlval.specs.Value.{Row}
use Rattle.sqlval.specs.declared.truth.Truth.{Truth}
use Rattle.sqlval.specs.declared.value.Value.TheVariants.{Null}
use Rattle.std.proofs.Common.{◌≡◌, refl, sym, subst, ap, ◌∙◌, ℕ, zero, suc, Bool, List, [], ◌∷◌, ◌++◌, map, Ok, true, false, not, ◌||◌, cond, length, append_assoc, Some, Err, ◌<◌, ◌⊎◌, inl, inr}
use Rattle.std.proofs.lemmas.Bool.{ltb-true}
use Rattle.std.proofs.lemmas.List.{get_or_append_left, get_or-append-add}
use Rattle.std.proofs.lemmas.List.Elements.{Contains-append_left, Contains-append_right, Contains-append_cases}
use Rattle.std.specs.List.{list_any}
use Rattle.std.specs.Prelude.{◌+◌, Contains, filter}
use Rattle.algebra.specs.declared.tree.Condition.TheVariants as c
use Rattle.algebra.proofs.KeyNodes as keys
use Rattle.rules.proofs.StoredNodes as known
use Rattle.algebra.proofs.Nodes as means
use Rattle.algebra.specs.declared.tree.Tree.TheVariants as t

-- ---- Q13

pub half-columns : (w : ℕ) (x y : Row) (env : Env) → length x ≡ w → (depth place : ℕ) → in_half w depth place ≡ true
    → column ((x ++ y) ∷ env) (to_half w depth place).0 (to_half w depth place).1 ≡ column (y ∷ x ∷ env) depth place
half-columns w x y env wide zero place e = ap (λ (n : ℕ). cell (x ++ y) (n + place)) (sym wide)
    ∙ get_or-append-add x y place Null
half-columns w x y env wide (suc zero) place e =
    get_or_append_left x y Null place (subst (λ (n : ℕ). place < n) (sym wide) (ltb-true place w e))
half-columns w x y env wide (suc (suc depth)) place e = refl

module _ (condition on : Condition) (items : List Expression) (table : StoredTable) (w : ℕ) (tables : Tables)
    (env : Env) (quiet : Quiet condition) (calm : QuietItems items)
    (moves : (x y : Row) (env : Env) → length x ≡ w
    → tree_truth tables on ((x ++ y) ∷ env) ≡ tree_truth tables condition (y ∷ x ∷ env)) where
  abbrev sub : Tree
  sub = t.Project items (t.Filter condition (t.Scan table))

  abbrev fits-condition : Row → Row → Bool
  fits-condition x y = is_true_at (tree_truth tables condition) (x ∷ env) y

  shown-one : (rows : List Row) (outer : Env) → ((shown (map (tree_value tables) items) outer rows).faults ≡ [])
      × (is_empty (shown (map (tree_value tables) items) outer rows).rows ≡ is_empty rows)
  shown-one [] outer = (refl, refl)
  shown-one (row ∷ rows) outer =
      let v = calm tables (row ∷ outer) in
      let rest = shown-one rows outer in
      at (values_of (map (tree_value tables) items) (row ∷ outer)) v.0 v.1 rest.0
    where
      at : (x : Evaluation Row) (values : Row) → x ≡ Ok values
          → (shown (map (tree_value tables) items) outer rows).faults ≡ []
          → ((before (x >>= (λ values. Ok (values ∷ []))) (shown (map (tree_value tables) items) outer rows)).faults
          ≡ [])
          × (is_empty (before (x >>= (λ values. Ok (values ∷ [])))
          (shown (map (tree_value tables) items) outer rows)).rows ≡ false)
      at (Ok made) values e none = (none, refl)
      at (Err faults) values e none = absurd (cc (e))

  through-all : (o : Outcome) (f : List Row → Outcome)
      → through o f ≡ record { rows = (f o.rows).rows; faults = o.faults ++ (f o.rows).faults }
  unfolding through
  through-all o f = refl

  sub-is : (x : Row) → tree_outcome tables sub (x ∷ env)
      ≡ through (record { rows = filter (fits-condition x) (tables table.name); faults = [] })
      (shown (map (tree_value tables) items) (x ∷ env))
  sub-is x = rw (
    means.tree_project (outcome_step tables) items (t.Filter condition (t.Scan table)),
    means.tree_filter (outcome_step tables) condition (t.Scan table),
    means.tree_scan (outcome_step tables) table,
  )
      (ap (λ (o : Outcome). through o (shown (map (tree_value tables) items) (x ∷ env)))
      (through-safe (tree_truth tables condition) (x ∷ env) (record { rows = tables table.name; faults = [] })
      (quiet tables)))

  none-found : (x : Row) (rows : List Row) → length x ≡ w
      → is_empty (filter (fits-condition x) rows)
      ≡ not (list_any (λ y. is_true_at (tree_truth tables on) env (x ++ y)) rows)
  none-found x [] e = refl
  none-found x (y ∷ rows) e =
      at (fits-condition x y) (none-found x rows e)
      ∙ ap (λ b. not (b || list_any (λ y. is_true_at (tree_truth tables on) env (x ++ y)) rows))
      (sym (ap is_true (moves x y env e)))
    where
      at : (b : Bool) → is_empty (filter (fits-condition x) rows)
          ≡ not (list_any (λ y. is_true_at (tree_truth tables on) env (x ++ y)) rows)
          → is_empty (cond b (y ∷ filter (fits-condition x) rows) (filter (fits-condition x) rows))
          ≡ not (b || list_any (λ y. is_true_at (tree_truth tables on) env (x ++ y)) rows)
      at true h = refl
      at false h = h

  pub finds : (x : Row) → length x ≡ w
      → Finds (tree_truth tables on) env (tree_outcome tables sub) (tables table.name) x
  finds x e =
      let one = shown-one (filter (fits-condition x) (tables table.name)) (x ∷ env) in
      let is = sub-is x ∙ through-all (record { rows = filter (fits-condition x) (tables table.name); faults = [] })
      (shown (map (tree_value tables) items) (x ∷ env)) in (
        ap (λ (o : Outcome). o.faults) is ∙ one.0,
        ap (λ (o : Outcome). is_empty o.rows) is ∙ one.1
            ∙ none-found x (tables table.name) e,
      )

pub q13 : (condition on : Condition) (items : List Expression) (table : StoredTable) (l : Tree) (w : ℕ)
    → width_of_tree l ≡ Some w → Quiet condition → Quiet on → QuietItems items
    → names_only (in_half w) condition ≡ true → on ≡ moved (to_half w) condition
    → AreAmong (stored_in_condition on) (stored_in_condition condition)
    → Keeps (t.Half on l (t.Scan table)) (t.Filter (c.Exists (t.Project items (t.Filter condition (t.Scan table)))) l)
q13 condition on items table l w wide quiet safe calm names is known-on = record {
  same = λ tables fits env.
      let sub-tree = t.Project items (t.Filter condition (t.Scan table)) in
      let all = subst (HasAll tables) (known.tree_filter (c.Exists sub-tree) l) fits in
      let rows = trees-wide tables l w wide
      (has-right tables (stored_in_condition (c.Exists sub-tree)) (stored_in_tree l) all) env in
      let moves : (x y : Row) (env : Env) → length x ≡ w
      → tree_truth tables on ((x ++ y) ∷ env) ≡ tree_truth tables condition (y ∷ x ∷ env) =
      λ x y env e. ap (λ z. tree_truth tables z ((x ++ y) ∷ env)) is
      ∙ conditions-move (outcome_step tables) (in_half w) (to_half w) (y ∷ x ∷ env) ((x ++ y) ∷ env)
      (half-columns w x y env e) condition names in
      same-of _ _ (rw (
        means.tree_half (outcome_step tables) on l (t.Scan table),
        means.tree_scan (outcome_step tables) table,
        means.tree_filter (outcome_step tables) (c.Exists sub-tree) l,
      )
      (sym (ap (λ (at : ConditionMeaning). through (tree_outcome tables l env) (kept at env))
      (λ i e. means.truth_exists (outcome_step tables) sub-tree e i)
      ∙ exists-half (tree_truth tables on) env (tree_outcome tables sub-tree) (safe tables) (tree_outcome tables l env)
      (record { rows = tables table.name; faults = [] }) refl
      (every-then (Wide w) (Finds (tree_truth tables on) env (tree_outcome tables sub-tree) (tables table.name))
      (tree_outcome tables l env).rows rows
      (λ x e. finds condition on items table w tables env quiet calm moves x e)))));
  keys = rw (
    keys.keys_half on l (t.Scan table),
    keys.keys_filter (c.Exists (t.Project items (t.Filter condition (t.Scan table)))) l,
  ) (begins-refl (order_keys l));
  stored = rw (
    known.tree_half on l (t.Scan table),
    known.tree_scan table,
    known.tree_filter (c.Exists (t.Project items (t.Filter condition (t.Scan table)))) l,
    known.condition_exists (t.Project items (t.Filter condition (t.Scan table))),
    known.tree_project items (t.Filter condition (t.Scan table)),
    known.tree_filter condition (t.Scan table),
    known.tree_scan table,
  )
      (turned (stored_in_condition on) (stored_in_condition condition) (stored_in_tree l) (table ∷ [])
      (all_stored (map stored_in_expression items)) known-on);
}
  where
    turned : (a b l s i : StoredTables) → AreAmong a b → AreAmong (a ++ (l ++ s)) ((i ++ (b ++ s)) ++ l)
    turned a b l s i h table there = at (Contains-append_cases a (l ++ s) table there)
      where
        inside : Contains (b ++ s) table → Contains ((i ++ (b ++ s)) ++ l) table
        inside k = Contains-append_left (i ++ (b ++ s)) l table (Contains-append_right i (b ++ s) table k)

        more : Contains l table ⊎ Contains s table → Contains ((i ++ (b ++ s)) ++ l) table
        more (inl k) = Contains-append_right (i ++ (b ++ s)) l table k
        more (inr k) = inside (Contains-append_right b s table k)

        at : Contains a table ⊎ Contains (l ++ s) table → Contains ((i ++ (b ++ s)) ++ l) table
        at (inl k) = inside (Contains-append_left b s table (h table k))
        at (inr k) = more (Contains-append_cases l s table k)

pub q13-not : (condition on : Condition) (items : List Expression) (table : StoredTable) (l : Tree) (w : ℕ)
    → width_of_tree l ≡ Some w → Quiet condition → Quiet on → QuietItems items
    → names_only (in_half w) condition ≡ true → on ≡ moved (to_half w) condition
    → AreAmong (stored_in_condition on) (stored_in_condition condition)
    → Keeps (t.OppositeHalf on l (t.Scan table))
    (t.Filter (c.Not (c.Exists (t.Project items (t.Filter condition (t.Scan table))))) l)
q13-not condition on items table l w wide quiet safe calm names is known-on = record {
  same = λ tables fits env.
      let sub-tree = t.Project items (t.Filter condition (t.Scan table)) in
      let all = subst (HasAll tables) (known.tree_filter (c.Not (c.Exists sub-tree)) l) fits in
      let rows = trees-wide tables l w wide
      (has-right tables (stored_in_condition (c.Not (c.Exists sub-tree))) (stored_in_tree l) all) env in
      let moves : (x y : Row) (env : Env) → length x ≡ w
      → tree_truth tables on ((x ++ y) ∷ env) ≡ tree_truth tables condition (y ∷ x ∷ env) =
      λ x y env e. ap (λ z. tree_truth tables z ((x ++ y) ∷ env)) is
      ∙ conditions-move (outcome_step tables) (in_half w) (to_half w) (y ∷ x ∷ env) ((x ++ y) ∷ env)
      (half-columns w x y env e) condition names in
      same-of _ _ (rw (
        means.tree_opposite (outcome_step tables) on l (t.Scan table),
        means.tree_scan (outcome_step tables) table,
        means.tree_filter (outcome_step tables)
            (c.Not (c.Exists sub-tree)) l,
      )
      (sym (ap (λ (at : ConditionMeaning). through (tree_outcome tables l env) (kept at env))
      (λ i e. (means.truth_negation (outcome_step tables) (c.Exists sub-tree) e
      ∙ ap (λ (v : Evaluation Truth). v >>= (λ t. Ok (truth_not t)))
      (means.truth_exists (outcome_step tables) sub-tree e)) i)
      ∙ exists-opposite (tree_truth tables on) env (tree_outcome tables sub-tree) (safe tables)
      (tree_outcome tables l env) (record { rows = tables table.name; faults = [] }) refl
      (every-then (Wide w) (Finds (tree_truth tables on) env (tree_outcome tables sub-tree) (tables table.name))
      (tree_outcome tables l env).rows rows
      (λ x e. finds condition on items table w tables env quiet calm moves x e)))));
  keys = rw (
    keys.keys_opposite on l (t.Scan table),
    keys.keys_filter (c.Not (c.Exists (t.Project items (t.Filter condition (t.Scan table))))) l,
  )
      (begins-refl (order_keys l));
  stored = rw (
    known.tree_opposite on l (t.Scan table),
    known.tree_scan table,
    known.tree_filter (c.Not (c.Exists (t.Project items (t.Filter condition (t.Scan table))))) l,
    known.condition_not (c.Exists (t.Project items (t.Filter condition (t.Scan table)))),
    known.condition_exists (t.Project items (t.Filter condition (t.Scan table))),
    known.tree_project items (t.Filter condition (t.Scan table)),
    known.tree_filter condition (t.Scan table),
    known.tree_scan table,
  )
      (turned (stored_in_condition on) (stored_in_condition condition) (stored_in_tree l) (table ∷ [])
      (all_stored (map stored_in_expression items)) known-on);
}
  where
    turned : (a b l s i : StoredTables) → AreAmong a b → AreAmong (a ++ (l ++ s)) ((i ++ (b ++ s)) ++ l)
    turned a b l s i h table there = at (Contains-append_cases a (l ++ s) table there)
      where
        inside : Contains (b ++ s) table → Contains ((i ++ (b ++ s)) ++ l) table
        inside k = Contains-append_left (i ++ (b ++ s)) l table (Contains-append_right i (b ++ s) table k)

        more : Contains l table ⊎ Contains s table → Contains ((i ++ (b ++ s)) ++ l) table
        more (inl k) = Contains-append_right (i ++ (b ++ s)) l table k
        more (inr k) = inside (Contains-append_right b s table k)

        at : Contains a table ⊎ Contains (l ++ s) table → Contains ((i ++ (b ++ s)) ++ l) table
        at (inl k) = inside (Contains-append_left b s table (h table k))
        at (inr k) = more (Contains-append_cases l s table k)

-- ---- Q14: the subquery is the same whatever the row

abbrev pub SeesNoRow : Tree → Type 0
SeesNoRow tree = (tables : Tables) (row : Row) (env : Env)
    → tree_outcome tables tree (row ∷ env) ≡ tree_outcome tables tree env

pub q14 : (operand : Expression) (members rows : Tree) → SeesNoRow members
    → Keeps (t.Member operand false members rows) (t.Filter (c.InQuery operand members) rows)
q14 operand members rows closed = record {
  same = λ tables fits env. same-of _ _
      (rw (
        means.tree_member (outcome_step tables) operand false members rows,
        means.tree_filter (outcome_step tables)
            (c.InQuery operand members) rows,
      )
      (ap (λ (at : Row → Evaluation (List Row)). through (tree_outcome tables rows env) (each at))
      (λ i row. sym (alike tables env row) i)));
  keys = rw (keys.keys_member operand false members rows, keys.keys_filter (c.InQuery operand members) rows)
      (begins-refl (order_keys rows));
  stored = rw (
    known.tree_member operand false members rows,
    known.tree_filter (c.InQuery operand members) rows,
    known.condition_in_query operand members,
  )
      (λ table there. subst (λ (z : StoredTables). Contains z table)
      (sym (append_assoc (stored_in_expression operand) (stored_in_tree members) (stored_in_tree rows))) there);
}
  where
    alike : (tables : Tables) (env : Env) (row : Row) → kept_row (tree_truth tables (c.InQuery operand members)) env row
        ≡ kept_row (is_member (tree_value tables operand) false (tree_outcome tables members env)) env row
    alike tables env row = ap (λ (e : Evaluation Truth). e >>= (λ t. Ok (only_true t row)))
        (means.truth_in_query (outcome_step tables) operand members (row ∷ env)
        ∙ in-member (tree_value tables operand) (tree_outcome tables members) env row (closed tables row env))

pub q14-not : (operand : Expression) (members rows : Tree) → SeesNoRow members
    → Keeps (t.Member operand true members rows) (t.Filter (c.Not (c.InQuery operand members)) rows)
q14-not operand members rows closed = record {
  same = λ tables fits env. same-of _ _
      (rw (
        means.tree_member (outcome_step tables) operand true members rows,
        means.tree_filter (outcome_step tables)
            (c.Not (c.InQuery operand members)) rows,
      )
      (ap (λ (at : Row → Evaluation (List Row)). through (tree_outcome tables rows env) (each at))
      (λ i row. sym (alike tables env row) i)));
  keys = rw (keys.keys_member operand true members rows, keys.keys_filter (c.Not (c.InQuery operand members)) rows)
      (begins-refl (order_keys rows));
  stored = rw (
    known.tree_member operand true members rows,
    known.tree_filter (c.Not (c.InQuery operand members)) rows,
    known.condition_not (c.InQuery operand members),
    known.condition_in_query operand members,
  )
      (λ table there. subst (λ (z : StoredTables). Contains z table)
      (sym (append_assoc (stored_in_expression operand) (stored_in_tree members) (stored_in_tree rows))) there);
}
  where
    alike : (tables : Tables) (env : Env) (row : Row)
        → kept_row (tree_truth tables (c.Not (c.InQuery operand members))) env row
        ≡ kept_row (is_member (tree_value tables operand) true (tree_outcome tables members env)) env row
    alike tables env row = ap (λ (e : Evaluation Truth). e >>= (λ t. Ok (only_true t row)))
        (means.truth_negation (outcome_step tables) (c.InQuery operand members) (row ∷ env)
        ∙ ap (λ (v : Evaluation Truth). v >>= (λ t. Ok (truth_not t)))
        (means.truth_in_query (outcome_step tables) operand members (row ∷ env))
        ∙ not_in-member (tree_value tables operand) (tree_outcome tables members) env row (closed tables row env))
