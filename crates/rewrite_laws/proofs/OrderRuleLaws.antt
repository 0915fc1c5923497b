-- Q12 and Q15: what each makes of a node may stand for it.
use Rattle.algebra.specs.Bounds.{is_within}
use Rattle.algebra.specs.Meaning.{TreeMeaning, expression_step}
use Rattle.algebra.specs.OrderKeys.{handed_on, column_of, order_keys, is_column, condition_key_step, column_step, function_key_step, order_step}
use Rattle.algebra.specs.Sorted.{ascending}
use Rattle.algebra.specs.TreeOutcome.{outcome_step, tree_outcome, tree_truth, tree_value}
use Rattle.algebra.specs.declared.tree.Condition.{Condition}
use Rattle.algebra.specs.declared.tree.Expression.{Expression, Expression-F, map-Expression, out-Expression, fold_out-Expression}
use Rattle.algebra.specs.declared.tree.SetFunction.{SetFunction}
use Rattle.algebra.specs.declared.tree.StoredTable.{StoredTable}
use Rattle.algebra.specs.declared.tree.Tree.{Tree, Tree-F, roll-Tree, map-Tree, ind-Tree, fold-roll-Tree}
use Rattle.algebra_laws.proofs.RolledTrees.{expression_meant, tree_meant, tree_rolled}
use Rattle.denote.specs.Bag.{are_alike, is_alike}
use Rattle.denote.specs.Condition.{ConditionMeaning}
use Rattle.denote.specs.Evaluation.{Env, Evaluation, ◌>>=◌, joined}
use Rattle.denote.specs.Expression.{cell, column}
use Rattle.denote.specs.From.{only_true, kept}
use Rattle.denote.specs.Meaning.{Tables}
use Rattle.denote.specs.Outcome.{Outcome, through, before}
use Rattle.denote.specs.Select.{values_of, shown}
use Rattle.operator_laws.specs.Same.{Every}
use Rattle.rewrite_laws.proofs.Found.{some-is, given-found, first-is, scan-rolled, project-rolled, distinct-rolled, sort-rolled, node-found}
use Rattle.rewrite_laws.proofs.LookupTrees.{q15}
use Rattle.rewrite_laws.proofs.Sides.{same-of}
use Rattle.rewrite_laws.proofs.SubqueryOperators.{distinct-drops}
use Rattle.rewrite_laws.proofs.Truths.{same-ok, value-is}
use Rattle.rules.proofs.StoredNodes.{tree_project, tree_distinct}
use Rattle.rules.specs.Certain.{own}
use Rattle.rules.specs.Conjuncts.{others}
use Rattle.rules.specs.Nodes.{Node}
use Rattle.rules.specs.OrderRules.{SourceLayer, source_condition, source_expression, source_function, source_step, source_of, is_item, key_in, has_key, apart_at, distinct_dropped, drop_distinct, same_direction, same_key, keys_begin, ordered_by, ordered_at, items_ordered, sort_dropped, sort_to_range}
use Rattle.rules.specs.Same.{HasAll, Begins, Keeps, Apart}
use Rattle.rules.specs.Stored.{all_stored, stored_in_condition, stored_in_expression, stored_in_tree, stored_in_function, stored_of_expression, stored_of_condition, stored_of_function, stored_of_tree, StoredLayer}
use Rattle.same_laws.proofs.Composed.{among-refl, has-right, begins-nothing}
use Rattle.same_laws.proofs.Moved.{and_true}
use Rattle.sqlval.specs.Matching.{key_of, matches}
use Rattle.sqlval.specs.Value.{Row}
use Rattle.sqlval.specs.declared.truth.Truth.{Truth}
use Rattle.sqlval.specs.declared.truth.Truth.TheVariants.{False, Unknown, True}
use Rattle.sqlval.specs.declared.value.Value.{Value}
use Rattle.std.proofs.Common.{◌≡◌, refl, sym, subst, ap, ◌∙◌, ℕ, zero, suc, Bool, List, [], ◌∷◌, map, Option, Ok, true, false, ◌&&◌, ◌||◌, cond, Some, None, Err, arith, nat_eq}
use Rattle.std.proofs.lemmas.Bool.{eqb-true}
use Rattle.std.specs.List.{list_all}
use Rattle.std.specs.Prelude.{Contains, filter}
use Rattle.typing.specs.declared.typed.OrderKey.{OrderKey}
use Rattle.algebra.proofs.KeyNodes as keys
use Rattle.rules.proofs.StoredNodes as known
use Rattle.algebra.proofs.Nodes as means
use Rattle.algebra.specs.declared.tree.Tree.TheVariants as t

-- ---- Q12: rows with alike items have alike keys

abbrev HasAlikeKeys : Tables → List Expression → List ℕ → Type 0
HasAlikeKeys tables items columns = (x y v w : Row) (env : Env) → values_of (map (tree_value tables) items) (x ∷ env)
    ≡ Ok v
    → values_of (map (tree_value tables) items) (y ∷ env) ≡ Ok w → are_alike v w ≡ true
    → are_alike (key_of columns x) (key_of columns y) ≡ true

joined-ok : (e : Evaluation Value) (rest : Evaluation Row) (v : Row) → joined e rest ≡ Ok v
    → (a : Value) × (more : Row) × (e ≡ Ok a) × (rest ≡ Ok more) × (v ≡ a ∷ more)
joined-ok (Ok a) (Ok more) v e = (a, more, refl, refl, sym (same-ok e))
joined-ok (Ok a) (Err faults) v e = absurd (cc (e))
joined-ok (Err faults) rest v e = absurd (cc (e))

column-is : (item : Expression)
    → column_of item ≡ column_step
    (map-Expression _ _ _ _ _ _ _ _ (λ x. tt) column_of (λ x. tt) order_keys (out-Expression item))
unfolding column_of order_keys
column-is item = fold_out-Expression _ _ _ _ condition_key_step column_step function_key_step order_step item

-- an item that is a column has the cell as its value
item-cell : (tables : Tables) (item : Expression) (place : ℕ) (row : Row) (env : Env) → column_of item ≡ Some place
    → tree_value tables item (row ∷ env) ≡ Ok (cell row place)
item-cell tables item place row env e = ap (λ m. m (row ∷ env)) (value-is tables item)
    ∙ at (out-Expression item) (sym (column-is item) ∙ e)
  where
    at : (d : Node Expression-F)
        → column_step (map-Expression _ _ _ _ _ _ _ _ (λ x. tt) column_of (λ x. tt) order_keys d) ≡ Some place
        → expression_step (expression_meant (outcome_step tables) d) (row ∷ env) ≡ Ok (cell row place)
    at (Expression-F.Column zero own) f = ap (λ n. Ok (cell row n)) (some-is f)
    at (Expression-F.Column (suc depth) own) f = absurd (cc (f))
    at (Expression-F.Constant x) f = absurd (cc (f))
    at (Expression-F.Calculation first others) f = absurd (cc (f))
    at (Expression-F.Concatenation first others) f = absurd (cc (f))
    at (Expression-F.Negation operand) f = absurd (cc (f))
    at (Expression-F.Scalar tree) f = absurd (cc (f))

cells-alike : (tables : Tables) (items : List Expression) (place : ℕ) (x y v w : Row) (env : Env)
    → values_of (map (tree_value tables) items) (x ∷ env) ≡ Ok v
    → values_of (map (tree_value tables) items) (y ∷ env) ≡ Ok w → are_alike v w ≡ true → is_item items place ≡ true
    → is_alike (cell x place) (cell y place) ≡ true
cells-alike tables [] place x y v w env p q same there = absurd (cc (there))
cells-alike tables (item ∷ items) place x y v w env p q same there =
    let one = joined-ok (tree_value tables item (x ∷ env)) (values_of (map (tree_value tables) items) (x ∷ env)) v p in
    let other = joined-ok (tree_value tables item (y ∷ env)) (values_of (map (tree_value tables) items) (y ∷ env)) w q
    in
    let both = and_true (is_alike one.0 other.0) (are_alike one.1 other.1)
    ((λ i. are_alike (sym one.4 i) (sym other.4 i)) ∙ same) in
    at (column_of item) refl one.0 other.0 one.2 other.2 both.0 there
    (λ f. cells-alike tables items place x y one.1 other.1 env one.3 other.3 both.1 f)
  where
    at : (found : Option ℕ) → column_of item ≡ found → (a b : Value) → tree_value tables item (x ∷ env) ≡ Ok a
        → tree_value tables item (y ∷ env) ≡ Ok b → is_alike a b ≡ true
        → (is_column place found || is_item items place) ≡ true
        → (is_item items place ≡ true → is_alike (cell x place) (cell y place) ≡ true)
        → is_alike (cell x place) (cell y place) ≡ true
    at None is a b l r alike f rest = rest f
    at (Some found) is a b l r alike f rest = by-test (nat_eq place found) refl f
      where
        by-test : (t : Bool) → nat_eq place found ≡ t → (t || is_item items place) ≡ true
            → is_alike (cell x place) (cell y place) ≡ true
        by-test true k g =
            let same-place : place ≡ found = eqb-true place found k in
            let first : a ≡ cell x found = same-ok (sym l ∙ item-cell tables item found x env is) in
            let second : b ≡ cell y found = same-ok (sym r ∙ item-cell tables item found y env is) in
            (λ i. is_alike (cell x (same-place i)) (cell y (same-place i)))
            ∙ (λ i. is_alike (sym first i) (sym second i)) ∙ alike
        by-test false k g = rest g

keys-alike : (tables : Tables) (items : List Expression) (columns : List ℕ) → list_all (is_item items) columns ≡ true
    → HasAlikeKeys tables items columns
keys-alike tables items [] e x y v w env p q same = refl
keys-alike tables items (column ∷ columns) e x y v w env p q same =
    let h = and_true (is_item items column) (list_all (is_item items) columns) e in
    λ i. cells-alike tables items column x y v w env p q same h.0 i && keys-alike tables items columns h.1 x y v w env p
    q same i

differ : (b : Bool) → (b ≡ true → true ≡ false) → b ≡ false
differ true k = k refl
differ false k = refl

others-apart : (tables : Tables) (items : List Expression) (columns : List ℕ) (env : Env) (row v : Row)
    (rows : List Row) → HasAlikeKeys tables items columns
    → values_of (map (tree_value tables) items) (row ∷ env) ≡ Ok v
    → Every (λ key. are_alike (key_of columns row) key ≡ false) (map (key_of columns) rows)
    → Every (λ made. are_alike v made ≡ false) (shown (map (tree_value tables) items) env rows).rows
others-apart tables items columns env row v [] whole is k = tt
others-apart tables items columns env row v (y ∷ ys) whole is k =
    at (values_of (map (tree_value tables) items) (y ∷ env)) refl
    (others-apart tables items columns env row v ys whole is k.1)
  where
    at : (e : Evaluation Row) → values_of (map (tree_value tables) items) (y ∷ env) ≡ e
        → Every (λ made. are_alike v made ≡ false) (shown (map (tree_value tables) items) env ys).rows
        → Every (λ made. are_alike v made ≡ false)
        (before (e >>= (λ values. Ok (values ∷ []))) (shown (map (tree_value tables) items) env ys)).rows
    at (Ok w) there rest = (differ (are_alike v w) (λ same. sym (whole row y v w env is there same) ∙ k.0), rest)
    at (Err faults) there rest = rest

-- a row whose items raise gives none
rows-apart : (tables : Tables) (items : List Expression) (columns : List ℕ) (env : Env) (rows : List Row)
    → HasAlikeKeys tables items columns
    → Apart (map (key_of columns) rows) → Apart (shown (map (tree_value tables) items) env rows).rows
rows-apart tables items columns env [] whole h = tt
rows-apart tables items columns env (row ∷ rows) whole h =
    at (values_of (map (tree_value tables) items) (row ∷ env)) refl (rows-apart tables items columns env rows whole h.1)
  where
    at : (e : Evaluation Row) → values_of (map (tree_value tables) items) (row ∷ env) ≡ e
        → Apart (shown (map (tree_value tables) items) env rows).rows
        → Apart (before (e >>= (λ values. Ok (values ∷ []))) (shown (map (tree_value tables) items) env rows)).rows
    at (Ok v) is rest = (others-apart tables items columns env row v rows whole is h.0, rest)
    at (Err faults) is rest = rest

-- ---- rows of a filtered table have different keys

module _ (tables : Tables) where
  abbrev KeysApart : List ℕ → List Row → Type 0
  KeysApart columns rows = Apart (map (key_of columns) rows)

  every-left : (columns : List ℕ) (P : Row → Type 0) (p : Row → Bool) (rows : List Row)
      → Every P (map (key_of columns) rows) → Every P (map (key_of columns) (filter p rows))
  every-left columns P p [] h = tt
  every-left columns P p (row ∷ rows) h = at (p row) (every-left columns P p rows h.1)
    where
      at : (b : Bool) → Every P (map (key_of columns) (filter p rows))
          → Every P (map (key_of columns) (cond b (row ∷ filter p rows) (filter p rows)))
      at true rest = (h.0, rest)
      at false rest = rest

  filter-apart : (columns : List ℕ) (p : Row → Bool) (rows : List Row) → KeysApart columns rows
      → KeysApart columns (filter p rows)
  filter-apart columns p [] h = tt
  filter-apart columns p (row ∷ rows) h = at (p row) (filter-apart columns p rows h.1)
    where
      at : (b : Bool) → KeysApart columns (filter p rows)
          → KeysApart columns (cond b (row ∷ filter p rows) (filter p rows))
      at true rest = (every-left columns (λ key. are_alike (key_of columns row) key ≡ false) p rows h.0, rest)
      at false rest = rest

  every-kept : (columns : List ℕ) (P : Row → Type 0) (c : ConditionMeaning) (env : Env) (rows : List Row)
      → Every P (map (key_of columns) rows) → Every P (map (key_of columns) (kept c env rows).rows)
  every-kept columns P c env [] h = tt
  every-kept columns P c env (row ∷ rows) h = at (c (row ∷ env)) (every-kept columns P c env rows h.1)
    where
      at : (e : Evaluation Truth) → Every P (map (key_of columns) (kept c env rows).rows)
          → Every P (map (key_of columns) (before (e >>= (λ t. Ok (only_true t row))) (kept c env rows)).rows)
      at (Ok True) rest = (h.0, rest)
      at (Ok False) rest = rest
      at (Ok Unknown) rest = rest
      at (Err faults) rest = rest

  kept-apart : (columns : List ℕ) (c : ConditionMeaning) (env : Env) (rows : List Row) → KeysApart columns rows
      → KeysApart columns (kept c env rows).rows
  kept-apart columns c env [] h = tt
  kept-apart columns c env (row ∷ rows) h = at (c (row ∷ env)) (kept-apart columns c env rows h.1)
    where
      at : (e : Evaluation Truth) → KeysApart columns (kept c env rows).rows
          → KeysApart columns (before (e >>= (λ t. Ok (only_true t row))) (kept c env rows)).rows
      at (Ok True) rest = (every-kept columns (λ key. are_alike (key_of columns row) key ≡ false) c env rows h.0, rest)
      at (Ok False) rest = rest
      at (Ok Unknown) rest = rest
      at (Err faults) rest = rest

  abbrev HasKeys : Tree → Type 0
  HasKeys tree = (table : StoredTable) (columns : List ℕ) → source_of tree ≡ Some table → table.key ≡ Some columns
      → HasAll tables (stored_in_tree tree)
      → (env : Env) → KeysApart columns (tree_outcome tables tree env).rows

  abbrev Parts : ((A B C D : Type 0) → Type 0) → Type 0
  Parts T = T (Condition × Unit {0}) (Expression × Unit {0}) (SetFunction × Unit {0}) ((t : Tree) × HasKeys t)

  abbrev tree_of : Parts Tree-F → Node Tree-F
  tree_of y = map-Tree _ _ _ _ _ _ _ _ (λ p. p.0) (λ p. p.0) (λ p. p.0) (λ p. p.0) y

  abbrev source_layer : Node Tree-F → SourceLayer Tree-F
  source_layer d = map-Tree _ _ _ _ _ _ _ _ (λ x. tt) (λ x. tt) (λ x. tt) source_of d

  source_be : (d : Node Tree-F) → source_of (roll-Tree d) ≡ source_step (source_layer d)
  unfolding source_of
  source_be d = fold-roll-Tree _ _ _ _ source_condition source_expression source_function source_step d

  abbrev stored_layer : Node Tree-F → StoredLayer Tree-F
  stored_layer d = map-Tree _ _ _ _ _ _ _ _ stored_in_condition stored_in_expression stored_in_function stored_in_tree d

  stored_be : (d : Node Tree-F) → stored_in_tree (roll-Tree d) ≡ stored_of_tree (stored_layer d)
  unfolding stored_in_condition stored_in_expression stored_in_function stored_in_tree
  stored_be d = fold-roll-Tree _ _ _ _ stored_of_condition stored_of_expression stored_of_function stored_of_tree d

  table-apart : (known table : StoredTable) (columns : List ℕ) → Some known ≡ Some table → table.key ≡ Some columns
      → HasAll tables (known ∷ []) → KeysApart columns (tables known.name)
  table-apart known table columns e key h =
      (h known (one known)).key columns (ap (λ (z : StoredTable). z.key) (some-is e) ∙ key)
    where
      one : (table : StoredTable) → Contains (table ∷ []) table
      one table = search arith

  through-apart : (o : Outcome) (f : List Row → Outcome) (columns : List ℕ) → KeysApart columns (f o.rows).rows
      → KeysApart columns (through o f).rows
  unfolding through
  through-apart o f columns h = h

  node-apart : (y : Parts Tree-F) (table : StoredTable) (columns : List ℕ)
      → source_step (source_layer (tree_of y)) ≡ Some table → table.key ≡ Some columns
      → HasAll tables (stored_of_tree (stored_layer (tree_of y))) → (env : Env)
      → KeysApart columns (outcome_step tables (tree_meant (outcome_step tables) (tree_of y)) env).rows
  node-apart (Tree-F.Scan known) table columns e key h env = table-apart known table columns e key h
  node-apart (Tree-F.Seek known places value) table columns e key h env = filter-apart columns (matches places value)
      (tables known.name) (table-apart known table columns e key h)
  node-apart (Tree-F.Range known places low high) table columns e key h env =
      filter-apart columns (is_within places low high) (tables known.name) (table-apart known table columns e key h)
  node-apart (Tree-F.Filter condition rows) table columns e key h env =
      through-apart (tree_outcome tables rows.0 env) (kept (tree_truth tables condition.0) env) columns
      (kept-apart columns (tree_truth tables condition.0) env (tree_outcome tables rows.0 env).rows
      (rows.1 table columns e key (has-right tables (stored_in_condition condition.0) (stored_in_tree rows.0) h) env))
  node-apart _ table columns e key h env = absurd (cc (e))

  tree_node : (x : Node Tree-F) (y : Parts Tree-F) → tree_of y ≡ x → HasKeys (roll-Tree x)
  tree_node x y is = subst (λ (z : Node Tree-F). HasKeys (roll-Tree z)) is
      (λ table columns e key h env. subst (λ (m : TreeMeaning). KeysApart columns (m env).rows)
      (sym (tree_rolled (outcome_step tables) (tree_of y)))
      (node-apart y table columns (sym (source_be (tree_of y)) ∙ e) key
      (subst (HasAll tables) (stored_be (tree_of y)) h) env))

  sources-apart : (tree : Tree) → HasKeys tree
  sources-apart = ind-Tree (λ x. Unit {0}) (λ x. Unit {0}) (λ x. Unit {0}) HasKeys (λ x y is. tt) (λ x y is. tt)
      (λ x y is. tt) tree_node

through-distinct : (o : Outcome) (f : List Row → Outcome) → Apart (f o.rows).rows → Apart (through o f).rows
unfolding through
through-distinct o f h = h

pub q12 : (items : List Expression) (rows : Tree) (table : StoredTable) (columns : List ℕ) → source_of rows ≡ Some table
    → table.key ≡ Some columns
    → list_all (is_item items) columns ≡ true → Keeps (t.Project items rows) (t.Distinct (t.Project items rows))
q12 items rows table columns source key there = record {
  same = λ tables fits env.
      let all = subst (HasAll tables) (known.tree_distinct (t.Project items rows) ∙ known.tree_project items rows) fits
      in
      let below = has-right tables (all_stored (map stored_in_expression items)) (stored_in_tree rows) all in
      same-of _ _ (sym (rw (
        means.tree_distinct (outcome_step tables) (t.Project items rows),
        means.tree_project (outcome_step tables) items rows,
      )
      (distinct-drops (through (tree_outcome tables rows env) (shown (map (tree_value tables) items) env))
      (through-distinct (tree_outcome tables rows env) (shown (map (tree_value tables) items) env)
      (rows-apart tables items columns env (tree_outcome tables rows env).rows (keys-alike tables items columns there)
      (sources-apart tables rows table columns source key below env))))));
  keys = rw (keys.keys_distinct (t.Project items rows)) (begins-nothing (order_keys (t.Project items rows)));
  stored = rw (known.tree_distinct (t.Project items rows)) (among-refl (stored_in_tree (t.Project items rows)));
}

pub drop_distinct-keeps : (old new : Tree) → drop_distinct old ≡ Some new → Keeps new old
drop_distinct-keeps old new e = node-found (Keeps new) new distinct_dropped old e at
  where
    by-key : (items : List Expression) (rows : Tree) (source : Option StoredTable) → source_of rows ≡ source
        → has_key items source ≡ true
        → Keeps (t.Project items rows) (t.Distinct (t.Project items rows))
    by-key items rows None is k = absurd (cc (k))
    by-key items rows (Some table) is k = by-columns table.key refl k
      where
        by-columns : (key : Option (List ℕ)) → table.key ≡ key → key_in items key ≡ true
            → Keeps (t.Project items rows) (t.Distinct (t.Project items rows))
        by-columns None there f = absurd (cc (f))
        by-columns (Some columns) there f = q12 items rows table columns is there f

    below : (d : Node Tree-F) → apart_at d ≡ Some new → Keeps new (t.Distinct (roll-Tree d))
    below (Tree-F.Project items rows) f =
        let h = given-found (has_key items (source_of rows)) (Some (t.Project items rows)) new f in
        subst (λ (z : Tree). Keeps new (t.Distinct z)) (project-rolled items rows)
        (subst (λ (z : Tree). Keeps z (t.Distinct (t.Project items rows))) (some-is h.1)
        (by-key items rows (source_of rows) refl h.0))
    below _ f = absurd (cc (f))

    at : (d : Node Tree-F) → distinct_dropped d ≡ Some new → Keeps new (roll-Tree d)
    at (Tree-F.Distinct rows) f = subst (Keeps new) (distinct-rolled rows)
        (node-found (λ rows. Keeps new (t.Distinct rows)) new apart_at rows f below)
    at _ f = absurd (cc (f))

-- ---- Q15

directions : (a b : Bool) → same_direction a b ≡ true → a ≡ b
directions true true e = refl
directions true false e = absurd (cc (e))
directions false true e = absurd (cc (e))
directions false false e = refl

keys-same : (key other : OrderKey) → same_key key other ≡ true → key ≡ other
keys-same key other e =
    let h = and_true (nat_eq key.place other.place) (same_direction key.descending other.descending) e in
    λ i. record {
      place = eqb-true key.place other.place h.0 i;
      descending =
          directions key.descending other.descending h.1 i;
    }

pub keys-begin : (keys others : List OrderKey) → keys_begin keys others ≡ true → Begins keys others
keys-begin [] others e = begins-nothing others
keys-begin (key ∷ keys) [] e = absurd (cc (e))
keys-begin (key ∷ keys) (other ∷ others) e =
    let h = and_true (same_key key other) (keys_begin keys others) e in
    let rest = keys-begin keys others h.1 in
    record { more = rest.more; is = λ i. sym (keys-same key other h.0) i ∷ rest.is i }

pub sort_to_range-keeps : (old new : Tree) → sort_to_range old ≡ Some new → Keeps new old
sort_to_range-keeps old new e = node-found (Keeps new) new sort_dropped old e at
  where
    table-ordered : (by : List OrderKey) (items : List Expression) (d : Node Tree-F) → ordered_at by items d ≡ Some new
        → Keeps new (t.Sort by (t.Project items (roll-Tree d)))
    table-ordered by items (Tree-F.Scan table) f =
        let columns = first-is (ordered_by by items table) table.indexes new f in
        let h = given-found (keys_begin by (handed_on (map column_of items) (ascending columns.0)))
        (Some (t.Project items (t.Range table columns.0 None None))) new columns.1 in
        subst (λ (z : Tree). Keeps new (t.Sort by (t.Project items z))) (scan-rolled table)
        (subst (λ (z : Tree). Keeps z (t.Sort by (t.Project items (t.Scan table)))) (some-is h.1)
        (q15 by items table columns.0 (keys-begin by (handed_on (map column_of items) (ascending columns.0)) h.0)))
    table-ordered by items _ f = absurd (cc (f))

    below : (by : List OrderKey) (d : Node Tree-F) → items_ordered by d ≡ Some new → Keeps new (t.Sort by (roll-Tree d))
    below by (Tree-F.Project items rows) f = subst (λ (z : Tree). Keeps new (t.Sort by z)) (project-rolled items rows)
        (node-found (λ rows. Keeps new (t.Sort by (t.Project items rows))) new (ordered_at by items) rows f
        (table-ordered by items))
    below by _ f = absurd (cc (f))

    at : (d : Node Tree-F) → sort_dropped d ≡ Some new → Keeps new (roll-Tree d)
    at (Tree-F.Sort by rows) f = subst (Keeps new) (sort-rolled by rows)
        (node-found (λ rows. Keeps new (t.Sort by rows)) new (items_ordered by) rows f (below by))
    at _ f = absurd (cc (f))
