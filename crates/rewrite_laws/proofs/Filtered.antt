-- Filters and joins by the AND of several conditions, and a filter parted into two.
use Rattle.algebra.specs.OrderKeys.{order_keys}
use Rattle.algebra.specs.TreeOutcome.{outcome_step, tree_outcome, tree_truth}
use Rattle.algebra.specs.declared.tree.Condition.{Condition}
use Rattle.algebra.specs.declared.tree.Tree.{Tree}
use Rattle.denote.specs.Evaluation.{Env}
use Rattle.denote.specs.From.{kept, product}
use Rattle.denote.specs.Meaning.{Tables}
use Rattle.denote.specs.Outcome.{Outcome, through}
use Rattle.operator_laws.specs.Law.{is_true, is_true_at}
use Rattle.rewrite_laws.proofs.Conditions.{stands, and-of, conjuncts-alike, all-filtered, and-among, Denials, and-quiet, and-true-all}
use Rattle.rewrite_laws.proofs.Conjunctions.{all-parted}
use Rattle.rewrite_laws.proofs.JoinOperators.{product-filter}
use Rattle.rewrite_laws.proofs.Pairs.{filter-takes, filter-alike, filter-both, every-all}
use Rattle.rewrite_laws.proofs.Sides.{Quiet, same-of}
use Rattle.rewrite_laws.proofs.Sifted.{sifted, through-safe}
use Rattle.rules.proofs.StoredNodes.{condition_and, tree_filter, tree_product, tree_inner}
use Rattle.rules.specs.Conjuncts.{joined, conjuncts, quiet, others, and_of, filtered}
use Rattle.rules.specs.Same.{AreAmong, Keeps}
use Rattle.rules.specs.Stored.{StoredTables, stored_in_condition, stored_in_tree}
use Rattle.same_laws.proofs.Composed.{among-refl, begins-refl, begins-nothing, keeps-refl, filter-keeps, inner-keeps}
use Rattle.sqlval.specs.declared.truth.Truth.TheVariants.{True}
use Rattle.std.proofs.Common.{◌≡◌, refl, sym, ap, ◌∙◌, Bool, List, [], ◌∷◌, ◌++◌, Ok, true, not, ◌&&◌, ◌⊎◌, inl, inr}
use Rattle.std.proofs.lemmas.List.Elements.{Contains-append_left, Contains-append_right, Contains-append_cases}
use Rattle.std.specs.List.{list_all}
use Rattle.std.specs.Prelude.{Contains, filter}
use Rattle.algebra.specs.declared.tree.Condition.TheVariants as c
use Rattle.algebra.proofs.KeyNodes as keys
use Rattle.rules.proofs.StoredNodes as known
use Rattle.algebra.proofs.Nodes as means
use Rattle.algebra.specs.declared.tree.Tree.TheVariants as t

filter-all : {X : Type 0} (p : X → Bool) (xs : List X) → ((x : X) → p x ≡ true) → filter p xs ≡ xs
filter-all p [] h = refl
filter-all p (x ∷ xs) h = filter-takes p x xs (h x) ∙ ap (λ rest. x ∷ rest) (filter-all p xs h)

-- ---- no condition at all

nothing-true : (tables : Tables) (env : Env) → tree_truth tables (c.And []) env ≡ Ok True
nothing-true tables env = means.truth_and (outcome_step tables) [] env

all-kept : (tables : Tables) (env : Env) (o : Outcome) → through o (kept (tree_truth tables (c.And [])) env) ≡ o
all-kept tables env o =
    through-safe (tree_truth tables (c.And [])) env o (λ at. (True, nothing-true tables at))
    ∙ (λ i. record {
      rows = filter-all (is_true_at (tree_truth tables (c.And [])) env) o.rows
          (λ row. ap is_true (nothing-true tables (row ∷ env))) i;
      faults = o.faults;
    })

-- ---- filters

pub filtered-keeps : (conditions : List Condition) (rows : Tree)
    → Keeps (filtered conditions rows) (t.Filter (c.And conditions) rows)
filtered-keeps [] rows = record {
  same = λ tables fits env. same-of _ _
      (sym (rw (means.tree_filter (outcome_step tables) (c.And []) rows)
      (all-kept tables env (tree_outcome tables rows env))));
  keys = rw (keys.keys_filter (c.And []) rows) (begins-refl (order_keys rows));
  stored = rw (known.tree_filter (c.And []) rows, known.condition_and []) (among-refl (stored_in_tree rows));
}
filtered-keeps (first ∷ rest) rows =
    filter-keeps (and_of (first ∷ rest)) (c.And (first ∷ rest)) rows rows
    (stands (and_of (first ∷ rest)) (c.And (first ∷ rest)) (and-of (first ∷ rest))) (keeps-refl rows)

-- a filter is the filter by the AND of its conjuncts
pub conjuncts-filter : (condition : Condition) (rows : Tree)
    → Keeps (t.Filter (c.And (conjuncts condition)) rows) (t.Filter condition rows)
conjuncts-filter condition rows = filter-keeps (c.And (conjuncts condition)) condition rows rows
    (stands (c.And (conjuncts condition)) condition (conjuncts-alike condition)) (keeps-refl rows)

-- ---- joins

pub joined-keeps : (conditions : List Condition) (l r : Tree)
    → Keeps (joined conditions l r) (t.Inner (c.And conditions) l r)
joined-keeps [] l r = record {
  same = λ tables fits env. same-of _ _
      (sym (rw (means.tree_inner (outcome_step tables) (c.And []) l r, means.tree_product (outcome_step tables) l r)
      (sym (product-filter (tree_truth tables (c.And [])) env (tree_outcome tables l env) (tree_outcome tables r env))
      ∙ all-kept tables env (product (tree_outcome tables l env) (tree_outcome tables r env)))));
  keys = rw (keys.keys_inner (c.And []) l r, keys.keys_product l r) (begins-nothing []);
  stored = rw (known.tree_inner (c.And []) l r, known.condition_and [], known.tree_product l r)
      (among-refl (stored_in_tree l ++ stored_in_tree r));
}
joined-keeps (first ∷ rest) l r =
    inner-keeps (and_of (first ∷ rest)) (c.And (first ∷ rest)) l l r r
    (stands (and_of (first ∷ rest)) (c.And (first ∷ rest)) (and-of (first ∷ rest))) (keeps-refl l) (keeps-refl r)

-- the other way round, where there is no condition
pub product-joined : (l r : Tree) → Keeps (t.Inner (c.And []) l r) (t.Product l r)
product-joined l r = record {
  same = λ tables fits env. same-of _ _
      (rw (means.tree_inner (outcome_step tables) (c.And []) l r, means.tree_product (outcome_step tables) l r)
      (sym (product-filter (tree_truth tables (c.And [])) env (tree_outcome tables l env) (tree_outcome tables r env))
      ∙ all-kept tables env (product (tree_outcome tables l env) (tree_outcome tables r env))));
  keys = rw (keys.keys_inner (c.And []) l r, keys.keys_product l r) (begins-nothing []);
  stored = rw (known.tree_inner (c.And []) l r, known.condition_and [], known.tree_product l r)
      (among-refl (stored_in_tree l ++ stored_in_tree r));
}

-- ---- a filter parted

two-among : (a b d r : StoredTables) → AreAmong a d → AreAmong b d → AreAmong (b ++ (a ++ r)) (d ++ r)
two-among a b d r h k table there = at (Contains-append_cases b (a ++ r) table there)
  where
    low : Contains a table ⊎ Contains r table → Contains (d ++ r) table
    low (inl z) = Contains-append_left d r table (h table z)
    low (inr z) = Contains-append_right d r table z

    at : Contains b table ⊎ Contains (a ++ r) table → Contains (d ++ r) table
    at (inl z) = Contains-append_left d r table (k table z)
    at (inr z) = low (Contains-append_cases a r table z)

module _ (denied : Denials) (p : Condition → Bool) (conditions : List Condition)
    (calm : list_all quiet conditions ≡ true) where
  abbrev passing : Condition
  passing = c.And (filter p conditions)

  abbrev rest : Condition
  rest = c.And (others p conditions)

  passing-quiet : Quiet passing
  passing-quiet = and-quiet denied (filter p conditions) (all-filtered quiet p conditions calm)

  rest-quiet : Quiet rest
  rest-quiet = and-quiet denied (others p conditions) (all-filtered quiet (λ x. not (p x)) conditions calm)

  -- the AND of all is true where both parts are
  pub parted-true : (tables : Tables) (env : Env)
      → is_true (tree_truth tables (c.And conditions) env)
      ≡ (is_true (tree_truth tables passing env) && is_true (tree_truth tables rest env))
  parted-true tables env =
      and-true-all denied conditions calm tables env
      ∙ all-parted (λ condition. is_true (tree_truth tables condition env)) p conditions
      ∙ (λ i. sym (and-true-all denied (filter p conditions) (all-filtered quiet p conditions calm) tables env) i
      && sym (and-true-all denied (others p conditions) (all-filtered quiet (λ x. not (p x)) conditions calm) tables
      env) i)

  parted-rows : (tables : Tables) (env : Env) (o : Outcome)
      → through (through o (kept (tree_truth tables passing) env)) (kept (tree_truth tables rest) env)
      ≡ through o (kept (tree_truth tables (c.And conditions)) env)
  parted-rows tables env o =
      ap (λ (z : Outcome). through z (kept (tree_truth tables rest) env))
      (through-safe (tree_truth tables passing) env o (passing-quiet tables))
      ∙ through-safe (tree_truth tables rest) env (sifted (is_true_at (tree_truth tables passing) env) o)
      (rest-quiet tables)
      ∙ (λ i. record {
        rows = (filter-both (is_true_at (tree_truth tables passing) env) (is_true_at (tree_truth tables rest) env)
            o.rows
            ∙ filter-alike (λ row. is_true_at (tree_truth tables passing) env row && is_true_at
            (tree_truth tables rest) env row) (is_true_at (tree_truth tables (c.And conditions)) env) o.rows
            (every-all (λ row. (is_true_at (tree_truth tables passing) env row && is_true_at
            (tree_truth tables rest) env row) ≡ is_true_at (tree_truth tables (c.And conditions)) env row) o.rows
            (λ row. sym (parted-true tables (row ∷ env))))) i;
        faults = o.faults;
      })
      ∙ sym (through-safe (tree_truth tables (c.And conditions)) env o (and-quiet denied conditions calm tables))

  pub filter-parted : (rows : Tree) → Keeps (t.Filter rest (t.Filter passing rows)) (t.Filter (c.And conditions) rows)
  filter-parted rows = record {
    same = λ tables fits env. same-of _ _
        (rw (
          means.tree_filter (outcome_step tables) rest (t.Filter passing rows),
          means.tree_filter (outcome_step tables) passing rows,
          means.tree_filter (outcome_step tables) (c.And conditions) rows,
        )
        (parted-rows tables env (tree_outcome tables rows env)));
    keys = rw (
      keys.keys_filter rest (t.Filter passing rows),
      keys.keys_filter passing rows,
      keys.keys_filter (c.And conditions) rows,
    ) (begins-refl (order_keys rows));
    stored = rw (
      known.tree_filter rest (t.Filter passing rows),
      known.tree_filter passing rows,
      known.tree_filter (c.And conditions) rows,
    )
        (two-among (stored_in_condition passing) (stored_in_condition rest) (stored_in_condition (c.And conditions))
        (stored_in_tree rows)
        (and-among p conditions) (and-among (λ x. not (p x)) conditions));
  }
