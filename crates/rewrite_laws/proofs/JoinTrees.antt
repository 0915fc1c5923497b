-- Rules of joins as laws of trees: Q4 to Q7, Q10 and Q11.
use Rattle.algebra.specs.Raising.{NeverRaises}
use Rattle.algebra.specs.TreeOutcome.{outcome_step, tree_outcome, tree_truth}
use Rattle.algebra.specs.declared.tree.Condition.{Condition}
use Rattle.algebra.specs.declared.tree.StoredTable.{StoredTable}
use Rattle.algebra.specs.declared.tree.Tree.{Tree}
use Rattle.denote.specs.Condition.{both}
use Rattle.denote.specs.Evaluation.{Env, Evaluation, ◌>>=◌}
use Rattle.denote.specs.From.{only_true, kept_row, product, nulls}
use Rattle.denote.specs.Meaning.{Tables}
use Rattle.denote.specs.Outcome.{Outcome}
use Rattle.operator_laws.specs.Law.{is_true, is_true_at}
use Rattle.operator_laws.specs.Same.{Every}
use Rattle.rewrite_laws.proofs.JoinOperators.{Divides, inner-into-right, left-to-inner, keyed-inner, joins-grouped, product-filter, on-into-right}
use Rattle.rewrite_laws.proofs.Pairs.{every-then}
use Rattle.rewrite_laws.proofs.Sides.{SeesLeftAlone, Quiet, same-of}
use Rattle.rules.specs.JoinKeys.{left_places, right_places}
use Rattle.rules.specs.Same.{HasAll, AreAmong, Keeps}
use Rattle.rules.specs.Stored.{StoredTables, stored_in_condition, stored_in_tree}
use Rattle.rules.specs.Width.{width_of_tree}
use Rattle.same_laws.proofs.Composed.{among-refl, has-left, has-right, begins-nothing}
use Rattle.same_laws.proofs.Widths.{Wide, trees-wide}
use Rattle.sqlval.specs.Matching.{key_of, matches}
use Rattle.sqlval.specs.Value.{Row}
use Rattle.sqlval.specs.declared.truth.Truth.{Truth}
use Rattle.sqlval.specs.declared.truth.Truth.TheVariants.{False, Unknown, True}
use Rattle.std.proofs.Common.{◌≡◌, refl, sym, subst, ap, ◌∙◌, ℕ, List, [], ◌∷◌, ◌++◌, Ok, true, false, ◌&&◌, length, append-nil, Some, Err, ◌⊎◌, inl, inr}
use Rattle.std.proofs.lemmas.List.Elements.{Contains-append_left, Contains-append_right, Contains-append_cases}
use Rattle.std.specs.Prelude.{Contains}
use Rattle.algebra.specs.declared.tree.Condition.TheVariants as c
use Rattle.algebra.proofs.KeyNodes as keys
use Rattle.rules.proofs.StoredNodes as known
use Rattle.algebra.proofs.Nodes as means
use Rattle.algebra.specs.declared.tree.Tree.TheVariants as t

-- ---- Q5

pub q5 : (condition : Condition) (l r : Tree) → Keeps (t.Inner condition l r) (t.Filter condition (t.Product l r))
q5 condition l r = record {
  same = λ tables fits env. same-of _ _
      (rw (
        means.tree_inner (outcome_step tables) condition l r,
        means.tree_filter (outcome_step tables) condition
            (t.Product l r),
        means.tree_product (outcome_step tables) l r,
      )
      (sym (product-filter (tree_truth tables condition) env (tree_outcome tables l env) (tree_outcome tables r env))));
  keys = rw (keys.keys_inner condition l r, keys.keys_filter condition (t.Product l r), keys.keys_product l r)
      (begins-nothing []);
  stored = rw (known.tree_inner condition l r, known.tree_filter condition (t.Product l r), known.tree_product l r)
      (among-refl (stored_in_condition condition ++ (stored_in_tree l ++ stored_in_tree r)));
}

-- ---- Q4

-- at each pair ON is true where what goes to the right side is true there, and so is what stays
abbrev pub IsDivided : Condition → Condition → Condition → ℕ → Type 0
IsDivided on own rest w = (tables : Tables) (x y : Row) (env : Env) → length x ≡ w
    → is_true (tree_truth tables on ((x ++ y) ∷ env))
    ≡ (is_true (tree_truth tables own (y ∷ env)) && is_true (tree_truth tables rest ((x ++ y) ∷ env)))

module _ (on own rest : Condition) (l r : Tree) (w : ℕ) (wide : width_of_tree l ≡ Some w) (quiet : Quiet on)
    (quiet-rest : Quiet rest) (quiet-own : Quiet own) (divided : IsDivided on own rest w)
    (known-own : AreAmong (stored_in_condition own) (stored_in_condition on))
    (known-rest : AreAmong (stored_in_condition rest) (stored_in_condition on)) where
  divides : (tables : Tables) (env : Env) (rows : List Row) → Every (Wide w) rows
      → Divides (is_true_at (tree_truth tables on) env) (is_true_at (tree_truth tables own) env)
      (is_true_at (tree_truth tables rest) env) rows
  divides tables env rows wide-rows =
      every-then (Wide w) (λ x. (y : Row) → is_true_at (tree_truth tables on) env (x ++ y)
      ≡ (is_true_at (tree_truth tables own) env y && is_true_at (tree_truth tables rest) env (x ++ y))) rows wide-rows
      (λ x e y. divided tables x y env e)

  left-rows : (tables : Tables) (env : Env)
      → HasAll tables (stored_in_condition on ++ (stored_in_tree l ++ stored_in_tree r))
      → Every (Wide w) (tree_outcome tables l env).rows
  left-rows tables env all = trees-wide tables l w wide (has-left tables (stored_in_tree l) (stored_in_tree r)
      (has-right tables (stored_in_condition on) (stored_in_tree l ++ stored_in_tree r) all)) env

  turned : AreAmong (stored_in_condition rest ++ (stored_in_tree l ++ (stored_in_condition own ++ stored_in_tree r)))
      (stored_in_condition on ++ (stored_in_tree l ++ stored_in_tree r))
  turned table there =
      at (Contains-append_cases (stored_in_condition rest)
      (stored_in_tree l ++ (stored_in_condition own ++ stored_in_tree r)) table there)
    where
      sides : Contains (stored_in_tree l ++ stored_in_tree r) table
          → Contains (stored_in_condition on ++ (stored_in_tree l ++ stored_in_tree r)) table
      sides k = Contains-append_right (stored_in_condition on) (stored_in_tree l ++ stored_in_tree r) table k

      conditions : Contains (stored_in_condition on) table
          → Contains (stored_in_condition on ++ (stored_in_tree l ++ stored_in_tree r)) table
      conditions k = Contains-append_left (stored_in_condition on) (stored_in_tree l ++ stored_in_tree r) table k

      low : Contains (stored_in_condition own) table ⊎ Contains (stored_in_tree r) table
          → Contains (stored_in_condition on ++ (stored_in_tree l ++ stored_in_tree r)) table
      low (inl k) = conditions (known-own table k)
      low (inr k) = sides (Contains-append_right (stored_in_tree l) (stored_in_tree r) table k)

      mid : Contains (stored_in_tree l) table ⊎ Contains (stored_in_condition own ++ stored_in_tree r) table
          → Contains (stored_in_condition on ++ (stored_in_tree l ++ stored_in_tree r)) table
      mid (inl k) = sides (Contains-append_left (stored_in_tree l) (stored_in_tree r) table k)
      mid (inr k) = low (Contains-append_cases (stored_in_condition own) (stored_in_tree r) table k)

      at : Contains (stored_in_condition rest) table ⊎ Contains
          (stored_in_tree l ++ (stored_in_condition own ++ stored_in_tree r)) table
          → Contains (stored_in_condition on ++ (stored_in_tree l ++ stored_in_tree r)) table
      at (inl k) = conditions (known-rest table k)
      at (inr k) = mid (Contains-append_cases (stored_in_tree l) (stored_in_condition own ++ stored_in_tree r) table k)

  pub q4 : (width : ℕ) → Keeps (t.Left rest l (t.Filter own r) width) (t.Left on l r width)
  q4 width = record {
    same = λ tables fits env.
        let rows = left-rows tables env (subst (HasAll tables) (known.tree_left on l r width) fits) in
        same-of _ _ (sym (rw (
          means.tree_left (outcome_step tables) rest l (t.Filter own r) width,
          means.tree_filter (outcome_step tables) own r,
          means.tree_left (outcome_step tables) on l r width,
        )
        (on-into-right (tree_truth tables on) (tree_truth tables rest) (tree_truth tables own) env width
        (tree_outcome tables l env) (tree_outcome tables r env) (quiet tables) (quiet-rest tables)
        (quiet-own tables)
        (divides tables env (tree_outcome tables l env).rows rows))));
    keys = rw (keys.keys_left rest l (t.Filter own r) width, keys.keys_left on l r width) (begins-nothing []);
    stored = rw (known.tree_left rest l (t.Filter own r) width, known.tree_filter own r, known.tree_left on l r width)
        turned;
  }

  -- an inner join likewise
  pub inner-divided : Keeps (t.Inner rest l (t.Filter own r)) (t.Inner on l r)
  inner-divided = record {
    same = λ tables fits env.
        let rows = left-rows tables env (subst (HasAll tables) (known.tree_inner on l r) fits) in
        same-of _ _ (sym (rw (
          means.tree_inner (outcome_step tables) rest l (t.Filter own r),
          means.tree_filter (outcome_step tables) own r,
          means.tree_inner (outcome_step tables) on l r,
        )
        (inner-into-right (tree_truth tables on) (tree_truth tables rest) (tree_truth tables own) env
        (tree_outcome tables l env) (tree_outcome tables r env) (quiet tables) (quiet-rest tables)
        (quiet-own tables)
        (divides tables env (tree_outcome tables l env).rows rows))));
    keys = rw (keys.keys_inner rest l (t.Filter own r), keys.keys_inner on l r) (begins-nothing []);
    stored = rw (known.tree_inner rest l (t.Filter own r), known.tree_filter own r, known.tree_inner on l r) turned;
  }

-- ---- Q6: the lower condition sees its own two sides alone

both-true : (q p : Evaluation Truth) (t u : Truth) → q ≡ Ok t → p ≡ Ok u
    → is_true (q >>= (λ x. both x (p >>= (λ y. both y (Ok True))))) ≡ (is_true q && is_true p)
both-true (Err faults) p t u e f = absurd (cc (e))
both-true (Ok False) p t u e f = refl
both-true (Ok True) (Err faults) t u e f = absurd (cc (f))
both-true (Ok True) (Ok False) t u e f = refl
both-true (Ok True) (Ok Unknown) t u e f = refl
both-true (Ok True) (Ok True) t u e f = refl
both-true (Ok Unknown) (Err faults) t u e f = absurd (cc (f))
both-true (Ok Unknown) (Ok False) t u e f = refl
both-true (Ok Unknown) (Ok Unknown) t u e f = refl
both-true (Ok Unknown) (Ok True) t u e f = refl

both-value : (q p : Evaluation Truth) (t u : Truth) → q ≡ Ok t → p ≡ Ok u
    → (v : Truth) × ((q >>= (λ x. both x (p >>= (λ y. both y (Ok True))))) ≡ Ok v)
both-value (Err faults) p t u e f = absurd (cc (e))
both-value (Ok False) p t u e f = (False, refl)
both-value (Ok True) (Err faults) t u e f = absurd (cc (f))
both-value (Ok True) (Ok False) t u e f = (False, refl)
both-value (Ok True) (Ok Unknown) t u e f = (Unknown, refl)
both-value (Ok True) (Ok True) t u e f = (True, refl)
both-value (Ok Unknown) (Err faults) t u e f = absurd (cc (f))
both-value (Ok Unknown) (Ok False) t u e f = (False, refl)
both-value (Ok Unknown) (Ok Unknown) t u e f = (Unknown, refl)
both-value (Ok Unknown) (Ok True) t u e f = (Unknown, refl)

pub q6 : (p q : Condition) (a b d : Tree) (w : ℕ) → width_of_tree (t.Product a b) ≡ Some w → Quiet p → Quiet q
    → SeesLeftAlone q w
    → Keeps (t.Inner (c.And (q ∷ p ∷ [])) a (t.Product b d)) (t.Inner p (t.Inner q a b) d)
q6 p q a b d w wide quiet-p quiet-q sees = record {
  same = λ tables fits env.
      let all = subst (HasAll tables) (known.tree_inner p (t.Inner q a b) d
      ∙ ap (λ rest. stored_in_condition p ++ (rest ++ stored_in_tree d)) (known.tree_inner q a b)) fits in
      let sides = has-right tables (stored_in_condition p)
      ((stored_in_condition q ++ (stored_in_tree a ++ stored_in_tree b)) ++ stored_in_tree d) all in
      let lower = has-right tables (stored_in_condition q) (stored_in_tree a ++ stored_in_tree b)
      (has-left tables (stored_in_condition q ++ (stored_in_tree a ++ stored_in_tree b)) (stored_in_tree d) sides)
      in
      let rows = trees-wide tables (t.Product a b) w wide (subst (HasAll tables) (sym (known.tree_product a b)) lower)
      env in
      let pairs = subst (λ (m : Env → Outcome). Every (Wide w) (m env).rows)
      (means.tree_product (outcome_step tables) a b) rows in
      same-of _ _ (sym (rw (
        means.tree_inner (outcome_step tables) p (t.Inner q a b) d,
        means.tree_inner (outcome_step tables) q a b,
        means.tree_inner (outcome_step tables) (c.And (q ∷ p ∷ [])) a (t.Product b d),
        means.tree_product (outcome_step tables) b d,
      )
      (joins-grouped (tree_truth tables p) (tree_truth tables q) (tree_truth tables (c.And (q ∷ p ∷ []))) env
      (tree_outcome tables a env) (tree_outcome tables b env) (tree_outcome tables d env)
      (quiet-p tables) (quiet-q tables) (both-quiet tables)
      (every-then (Wide w) (λ x. (y : Row) → is_true_at (tree_truth tables (c.And (q ∷ p ∷ []))) env (x ++ y)
      ≡ (is_true_at (tree_truth tables q) env x && is_true_at (tree_truth tables p) env (x ++ y)))
      (product (tree_outcome tables a env) (tree_outcome tables b env)).rows pairs
      (λ x wide-x y. at-pair tables env x y wide-x)))));
  keys = rw (keys.keys_inner (c.And (q ∷ p ∷ [])) a (t.Product b d), keys.keys_inner p (t.Inner q a b) d)
      (begins-nothing []);
  stored = rw (
    known.tree_inner (c.And (q ∷ p ∷ [])) a (t.Product b d),
    known.tree_product b d,
    known.condition_and (q ∷ p ∷ []),
    known.tree_inner p (t.Inner q a b) d,
    known.tree_inner q a b,
  )
      (turned (stored_in_condition q) (stored_in_condition p) (stored_in_tree a) (stored_in_tree b) (stored_in_tree d));
}
  where
    is-both : (tables : Tables) (env : Env) → tree_truth tables (c.And (q ∷ p ∷ [])) env
        ≡ (tree_truth tables q env >>= (λ x. both x (tree_truth tables p env >>= (λ y. both y (Ok True)))))
    is-both tables env = means.truth_and (outcome_step tables) (q ∷ p ∷ []) env

    both-quiet : (tables : Tables) → NeverRaises (tree_truth tables (c.And (q ∷ p ∷ [])))
    both-quiet tables env =
        let v = both-value (tree_truth tables q env) (tree_truth tables p env) (quiet-q tables env).0
        (quiet-p tables env).0 (quiet-q tables env).1 (quiet-p tables env).1 in (v.0, is-both tables env ∙ v.1)

    at-pair : (tables : Tables) (env : Env) (x y : Row) → length x ≡ w
        → is_true (tree_truth tables (c.And (q ∷ p ∷ [])) ((x ++ y) ∷ env))
        ≡ (is_true (tree_truth tables q (x ∷ env)) && is_true (tree_truth tables p ((x ++ y) ∷ env)))
    at-pair tables env x y wide-x =
        ap is_true (is-both tables ((x ++ y) ∷ env))
        ∙ both-true (tree_truth tables q ((x ++ y) ∷ env)) (tree_truth tables p ((x ++ y) ∷ env))
        (quiet-q tables ((x ++ y) ∷ env)).0 (quiet-p tables ((x ++ y) ∷ env)).0 (quiet-q tables ((x ++ y) ∷ env)).1
        (quiet-p tables ((x ++ y) ∷ env)).1
        ∙ ap (λ (e : Evaluation Truth). is_true e && is_true (tree_truth tables p ((x ++ y) ∷ env)))
        (sees tables x y env wide-x)

    turned : (q p a b d : StoredTables) → AreAmong ((q ++ (p ++ [])) ++ (a ++ (b ++ d))) (p ++ ((q ++ (a ++ b)) ++ d))
    turned q p a b d table there = at (Contains-append_cases (q ++ (p ++ [])) (a ++ (b ++ d)) table there)
      where
        inside : Contains (q ++ (a ++ b)) table → Contains (p ++ ((q ++ (a ++ b)) ++ d)) table
        inside k = Contains-append_right p ((q ++ (a ++ b)) ++ d) table (Contains-append_left (q ++ (a ++ b)) d table k)

        sides : Contains (a ++ b) table → Contains (p ++ ((q ++ (a ++ b)) ++ d)) table
        sides k = inside (Contains-append_right q (a ++ b) table k)

        right : Contains b table ⊎ Contains d table → Contains (p ++ ((q ++ (a ++ b)) ++ d)) table
        right (inl k) = sides (Contains-append_right a b table k)
        right (inr k) = Contains-append_right p ((q ++ (a ++ b)) ++ d) table
            (Contains-append_right (q ++ (a ++ b)) d table k)

        low : Contains a table ⊎ Contains (b ++ d) table → Contains (p ++ ((q ++ (a ++ b)) ++ d)) table
        low (inl k) = sides (Contains-append_left a b table k)
        low (inr k) = right (Contains-append_cases b d table k)

        top : Contains q table ⊎ Contains (p ++ []) table → Contains (p ++ ((q ++ (a ++ b)) ++ d)) table
        top (inl k) = inside (Contains-append_left q (a ++ b) table k)
        top (inr k) = Contains-append_left p ((q ++ (a ++ b)) ++ d) table
            (subst (λ (z : StoredTables). Contains z table) (append-nil p) k)

        at : Contains (q ++ (p ++ [])) table ⊎ Contains (a ++ (b ++ d)) table
            → Contains (p ++ ((q ++ (a ++ b)) ++ d)) table
        at (inl k) = top (Contains-append_cases q (p ++ []) table k)
        at (inr k) = low (Contains-append_cases a (b ++ d) table k)

-- ---- Q7: the filter is true at no padded row

abbrev pub FailsOnNulls : Condition → ℕ → ℕ → Type 0
FailsOnNulls condition w width = (tables : Tables) (x : Row) (env : Env) → length x ≡ w
    → is_true (tree_truth tables condition ((x ++ nulls width) ∷ env)) ≡ false

not-true : (e : Evaluation Truth) (t : Truth) (row : Row) → e ≡ Ok t → is_true e ≡ false
    → (e >>= (λ t. Ok (only_true t row))) ≡ Ok []
not-true (Ok False) t row is h = refl
not-true (Ok Unknown) t row is h = refl
not-true (Ok True) t row is h = absurd (cc (h))
not-true (Err faults) t row is h = absurd (cc (is))

pub q7 : (condition on : Condition) (l r : Tree) (width w : ℕ) → width_of_tree l ≡ Some w → Quiet condition
    → FailsOnNulls condition w width
    → Keeps (t.Filter condition (t.Inner on l r)) (t.Filter condition (t.Left on l r width))
q7 condition on l r width w wide quiet fails = record {
  same = λ tables fits env.
      let all = subst (HasAll tables) (known.tree_filter condition (t.Left on l r width)
      ∙ ap (λ rest. stored_in_condition condition ++ rest) (known.tree_left on l r width)) fits in
      let sides = has-right tables (stored_in_condition on) (stored_in_tree l ++ stored_in_tree r)
      (has-right tables (stored_in_condition condition)
      (stored_in_condition on ++ (stored_in_tree l ++ stored_in_tree r)) all) in
      let rows = trees-wide tables l w wide (has-left tables (stored_in_tree l) (stored_in_tree r) sides) env in
      same-of _ _ (sym (rw (
        means.tree_filter (outcome_step tables) condition (t.Inner on l r),
        means.tree_inner (outcome_step tables) on l r,
        means.tree_filter (outcome_step tables) condition (t.Left on l r width),
        means.tree_left (outcome_step tables) on l r width,
      )
      (left-to-inner (tree_truth tables condition) (tree_truth tables on) env width (tree_outcome tables l env)
      (tree_outcome tables r env)
      (every-then (Wide w) (λ x. kept_row (tree_truth tables condition) env (x ++ nulls width) ≡ Ok [])
      (tree_outcome tables l env).rows rows
      (λ x e. let v = quiet tables ((x ++ nulls width) ∷ env) in not-true
      (tree_truth tables condition ((x ++ nulls width) ∷ env)) v.0 (x ++ nulls width) v.1
      (fails tables x env e))))));
  keys = rw (
    keys.keys_filter condition (t.Inner on l r),
    keys.keys_inner on l r,
    keys.keys_filter condition (t.Left on l r width),
    keys.keys_left on l r width,
  ) (begins-nothing []);
  stored = rw (
    known.tree_filter condition (t.Inner on l r),
    known.tree_inner on l r,
    known.tree_filter condition (t.Left on l r width),
    known.tree_left on l r width,
  )
      (among-refl (stored_in_condition condition ++
      (stored_in_condition on ++ (stored_in_tree l ++ stored_in_tree r))));
}

-- ---- Q10, Q11: ON is true at pairs with equal keys alone

abbrev pub Equates : Condition → ℕ → List ℕ → List ℕ → Type 0
Equates on w left_places right_places = (tables : Tables) (x y : Row) (env : Env) → length x ≡ w
    → is_true_at (tree_truth tables on) env (x ++ y) ≡ true → matches right_places (key_of left_places x) y ≡ true

pub q10 : (on : Condition) (l r : Tree) (w : ℕ) (left_places right_places : List ℕ) → width_of_tree l ≡ Some w
    → Quiet on → Equates on w left_places right_places
    → Keeps (t.HashJoin on l r left_places right_places) (t.Inner on l r)
q10 on l r w left_places right_places wide quiet equates = record {
  same = λ tables fits env.
      let sides = has-right tables (stored_in_condition on) (stored_in_tree l ++ stored_in_tree r)
      (subst (HasAll tables) (known.tree_inner on l r) fits) in
      let rows = trees-wide tables l w wide (has-left tables (stored_in_tree l) (stored_in_tree r) sides) env in
      same-of _ _ (rw (
        means.tree_hash_join (outcome_step tables) on l r left_places right_places,
        means.tree_inner (outcome_step tables) on l r,
      )
      (keyed-inner (tree_truth tables on) env (λ x y. matches right_places (key_of left_places x) y)
      (tree_outcome tables l env) (tree_outcome tables r env) (quiet tables)
      (every-then (Wide w) (λ x. (y : Row) → is_true_at (tree_truth tables on) env (x ++ y) ≡ true
      → matches right_places (key_of left_places x) y ≡ true) (tree_outcome tables l env).rows rows
      (λ x e y h. equates tables x y env e h))));
  keys = rw (keys.keys_hash_join on l r left_places right_places, keys.keys_inner on l r) (begins-nothing []);
  stored = rw (known.tree_hash_join on l r left_places right_places, known.tree_inner on l r)
      (among-refl (stored_in_condition on ++ (stored_in_tree l ++ stored_in_tree r)));
}

pub q11 : (on : Condition) (l : Tree) (table : StoredTable) (w : ℕ) (places columns : List ℕ) → width_of_tree l ≡ Some w
    → Quiet on → Equates on w places columns
    → Keeps (t.IndexLoop on l places table columns) (t.Inner on l (t.Scan table))
q11 on l table w places columns wide quiet equates = record {
  same = λ tables fits env.
      let sides = has-right tables (stored_in_condition on) (stored_in_tree l ++ stored_in_tree (t.Scan table))
      (subst (HasAll tables) (known.tree_inner on l (t.Scan table)) fits) in
      let rows = trees-wide tables l w wide (has-left tables (stored_in_tree l) (stored_in_tree (t.Scan table)) sides)
      env in
      same-of _ _ (rw (
        means.tree_index_loop (outcome_step tables) on l places table columns,
        means.tree_inner (outcome_step tables) on l (t.Scan table),
        means.tree_scan (outcome_step tables) table,
      )
      (keyed-inner (tree_truth tables on) env (λ x y. matches columns (key_of places x) y) (tree_outcome tables l env)
      (record { rows = tables table.name; faults = [] }) (quiet tables)
      (every-then (Wide w) (λ x. (y : Row) → is_true_at (tree_truth tables on) env (x ++ y) ≡ true
      → matches columns (key_of places x) y ≡ true) (tree_outcome tables l env).rows rows
      (λ x e y h. equates tables x y env e h))));
  keys = rw (keys.keys_index_loop on l places table columns, keys.keys_inner on l (t.Scan table)) (begins-nothing []);
  stored = rw (
    known.tree_index_loop on l places table columns,
    known.tree_inner on l (t.Scan table),
    known.tree_scan table,
  ) (among-refl (stored_in_condition on ++ (stored_in_tree l ++ table ∷ [])));
}
