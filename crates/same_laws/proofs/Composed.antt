-- A node over parts each of which may stand for another may stand for the node over those: every
-- node of trees, and subqueries in conditions and expressions.
use Rattle.std.proofs.Common.{◌≡◌, refl, ap, sym, ◌∙◌, subst, ℕ, Bool, true, false, List, [], ◌∷◌, ◌++◌, map, append_assoc, Option, Some, None, ◌⊎◌, inl, inr}
use Rattle.std.specs.Prelude.{Contains}
use Rattle.std.proofs.lemmas.List.Elements.{Contains-append_left, Contains-append_right, Contains-append_cases}
use Rattle.typing.specs.declared.typed.OrderKey.{OrderKey}
use Rattle.typing.specs.declared.typed.SetOperation.{SetOperation}
use Rattle.algebra.specs.declared.tree.Condition.{Condition}
use Rattle.algebra.specs.declared.tree.Condition.TheVariants as c
use Rattle.algebra.specs.declared.tree.Expression.{Expression}
use Rattle.algebra.specs.declared.tree.Expression.TheVariants as e
use Rattle.algebra.specs.declared.tree.SetFunction.{SetFunction}
use Rattle.algebra.specs.declared.tree.StoredTable.{StoredTable}
use Rattle.algebra.specs.declared.tree.Tree.{Tree}
use Rattle.algebra.specs.declared.tree.Tree.TheVariants as t
use Rattle.algebra.specs.Joined.{matching}
use Rattle.algebra.specs.Meaning.{MeantFunction, Rows, Argument, function_of, function_by}
use Rattle.algebra.specs.OrderKeys.{is_column, key_at, handed_on, column_of, order_keys}
use Rattle.algebra.specs.TreeOutcome.{outcome_step, tree_outcome, tree_truth, tree_value}
use Rattle.algebra.proofs.Nodes as means
use Rattle.algebra.proofs.KeyNodes as keys
use Rattle.std.specs.List.{position_from}
use Rattle.denote.specs.Meaning.{Tables}
use Rattle.operator_laws.specs.Same.{Each, Agree, AgreeOnRows, AgreeOnGroups}
use Rattle.operator_laws.proofs.LawLemmas.{product-same}
use Rattle.operator_laws.proofs.Permuting.{Permutes-refl}
use Rattle.operator_laws.proofs.Rows.{IsSame-refl, IsSame-trans, filtered-agree, list-agree, inner_join-agree, left_join-agree, only-same, set_operation-same, grouped-agree, count-agree, set_function-agree}
use Rattle.operator_laws.proofs.Same.{IsSameValue-refl, HasSame-refl, then-same}
use Rattle.operator_laws.proofs.Steps.{scalar-same, exists-same, in_query-same, conjunction-agree}
use Rattle.rules.specs.Same.{HasAll, Begins, AreAmong, Keeps, KeepsCondition, KeepsExpression, KeepsFunction}
use Rattle.rules.specs.Stored.{StoredTables, all_stored, stored_in_condition, stored_in_expression, stored_in_function, stored_in_tree}
use Rattle.same_laws.proofs.Operators.{half_join-agree, keyed_join-agree, matching-permutes, is_member-agree}
use Rattle.rules.proofs.StoredNodes as known

-- ---- lists

pub among-refl : {X : Type 0} (xs : List X) → AreAmong xs xs
among-refl xs x h = h

pub among-two : {X : Type 0} (a b c d : List X) → AreAmong a b → AreAmong c d → AreAmong (a ++ c) (b ++ d)
among-two {X} a b c d h k x there = at (Contains-append_cases a c x there)
  where
    at : Contains a x ⊎ Contains c x → Contains (b ++ d) x
    at (inl z) = Contains-append_left b d x (h x z)
    at (inr z) = Contains-append_right b d x (k x z)

pub has-left : (tables : Tables) (xs ys : StoredTables) → HasAll tables (xs ++ ys) → HasAll tables xs
has-left tables xs ys h table there = h table (Contains-append_left xs ys table there)

pub has-right : (tables : Tables) (xs ys : StoredTables) → HasAll tables (xs ++ ys) → HasAll tables ys
has-right tables xs ys h table there = h table (Contains-append_right xs ys table there)

-- ---- order keys

pub begins-refl : {X : Type 0} (xs : List X) → Begins xs xs
begins-refl xs = record { more = []; is = sym (append-nil' xs) }
  where
    append-nil' : {X : Type 0} (xs : List X) → xs ++ [] ≡ xs
    append-nil' [] = refl
    append-nil' (x ∷ xs) = ap (λ rest. x ∷ rest) (append-nil' xs)

pub begins-trans : {X : Type 0} (xs ys zs : List X) → Begins xs ys → Begins ys zs → Begins xs zs
begins-trans xs ys zs h k = record {
  more = h.more ++ k.more;
  is = k.is ∙ ap (λ ws. ws ++ k.more) h.is
      ∙ append_assoc xs h.more k.more;
}

pub begins-nothing : {X : Type 0} (ys : List X) → Begins [] ys
begins-nothing ys = record { more = ys; is = refl }

handed-begins : (items : List (Option ℕ)) (xs more : List OrderKey)
    → Begins (handed_on items xs) (handed_on items (xs ++ more))
handed-begins items [] more = begins-nothing (handed_on items more)
handed-begins items (key ∷ xs) more = at (position_from (is_column key.place) 0 items) (handed-begins items xs more)
  where
    at : (found : Option ℕ) → Begins (handed_on items xs) (handed_on items (xs ++ more))
        → Begins (key_at key found (handed_on items xs)) (key_at key found (handed_on items (xs ++ more)))
    at None h = begins-nothing []
    at (Some place) h = record {
      more = h.more;
      is =
          ap (λ rest. record { place = place; descending = key.descending } ∷ rest) h.is;
    }

pub handed-keeps : (items : List (Option ℕ)) (xs ys : List OrderKey) → Begins xs ys
    → Begins (handed_on items xs) (handed_on items ys)
handed-keeps items xs ys h = subst (λ (zs : List OrderKey). Begins (handed_on items xs) (handed_on items zs)) (sym h.is)
    (handed-begins items xs h.more)

-- ---- what stands for itself

pub keeps-refl : (tree : Tree) → Keeps tree tree
keeps-refl tree = record {
  same = λ tables fits env. IsSame-refl (tree_outcome tables tree env);
  keys =
      begins-refl (order_keys tree);
  stored = among-refl (stored_in_tree tree);
}

pub condition-refl : (condition : Condition) → KeepsCondition condition condition
condition-refl condition = record {
  same = λ tables fits env. IsSameValue-refl (tree_truth tables condition env);
  stored = among-refl (stored_in_condition condition);
}

pub expression-refl : (expression : Expression) → KeepsExpression expression expression
expression-refl expression = record {
  same = λ tables fits env. IsSameValue-refl (tree_value tables expression env);
  column = refl;
  stored = among-refl (stored_in_expression expression);
}

-- a set function gives the same for a group in another order
function-self : (f : MeantFunction) → AgreeOnGroups (function_of f) (function_of f)
function-self Rows = count-agree
function-self (Argument function is_distinct argument) = set_function-agree function is_distinct argument argument
    (λ env. IsSameValue-refl (argument env))

pub function-refl : (f : SetFunction) → KeepsFunction f f
function-refl f = record {
  same = λ tables fits. function-self (function_by (outcome_step tables) f);
  stored =
      among-refl (stored_in_function f);
}

-- ---- lists of parts

pub all-among : {X : Type 0} (R : X → X → Type 0) (known : X → StoredTables) (xs ys : List X)
    → ((x y : X) → R x y → AreAmong (known x) (known y)) → Each R xs ys
    → AreAmong (all_stored (map known xs)) (all_stored (map known ys))
all-among R known [] [] h k = among-refl []
all-among R known [] (y ∷ ys) h k = absurd k
all-among R known (x ∷ xs) [] h k = absurd k
all-among R known (x ∷ xs) (y ∷ ys) h k =
    among-two (known x) (known y) (all_stored (map known xs)) (all_stored (map known ys)) (h x y k.0)
    (all-among R known xs ys h k.1)

-- what holds of all that is known holds of what is known of each part
pub each-known : {X A : Type 0} (R : X → X → Type 0) (S : A → A → Type 0) (tables : Tables) (known : X → StoredTables)
    (meant : X → A) (xs ys : List X)
    → ((x y : X) → R x y → HasAll tables (known y) → S (meant x) (meant y)) → HasAll tables (all_stored (map known ys))
    → Each R xs ys → Each S (map meant xs) (map meant ys)
each-known R S tables known meant [] [] h fits k = tt
each-known R S tables known meant [] (y ∷ ys) h fits k = absurd k
each-known R S tables known meant (x ∷ xs) [] h fits k = absurd k
each-known R S tables known meant (x ∷ xs) (y ∷ ys) h fits k = (
  h x y k.0 (has-left tables (known y) (all_stored (map known ys)) fits),
  each-known R S tables known meant xs ys h
      (has-right tables (known y) (all_stored (map known ys)) fits) k.1,
)

-- ---- nodes of trees

pub filter-keeps : (c d : Condition) (s t' : Tree) → KeepsCondition c d → Keeps s t'
    → Keeps (t.Filter c s) (t.Filter d t')
filter-keeps c d s t' h k = record {
  same = λ tables fits env.
      let all = subst (HasAll tables) (known.tree_filter d t') fits in
      rw (means.tree_filter (outcome_step tables) c s, means.tree_filter (outcome_step tables) d t')
      (filtered-agree (Some (tree_truth tables c)) (Some (tree_truth tables d)) env (tree_outcome tables s env)
      (tree_outcome tables t' env)
      (h.same tables (has-left tables (stored_in_condition d) (stored_in_tree t') all))
      (k.same tables (has-right tables (stored_in_condition d) (stored_in_tree t') all) env));
  keys = rw (keys.keys_filter c s, keys.keys_filter d t') k.keys;
  stored = rw (known.tree_filter c s, known.tree_filter d t')
      (among-two (stored_in_condition c) (stored_in_condition d) (stored_in_tree s)
      (stored_in_tree t') h.stored k.stored);
}

pub product-keeps : (l m r s : Tree) → Keeps l m → Keeps r s → Keeps (t.Product l r) (t.Product m s)
product-keeps l m r s h k = record {
  same = λ tables fits env.
      let all = subst (HasAll tables) (known.tree_product m s) fits in
      rw (means.tree_product (outcome_step tables) l r, means.tree_product (outcome_step tables) m s)
      (product-same (tree_outcome tables l env) (tree_outcome tables m env) (tree_outcome tables r env)
      (tree_outcome tables s env)
      (h.same tables (has-left tables (stored_in_tree m) (stored_in_tree s) all) env)
      (k.same tables (has-right tables (stored_in_tree m) (stored_in_tree s) all) env));
  keys = rw (keys.keys_product l r, keys.keys_product m s) (begins-nothing []);
  stored = rw (known.tree_product l r, known.tree_product m s)
      (among-two (stored_in_tree l) (stored_in_tree m) (stored_in_tree r) (stored_in_tree s) h.stored k.stored);
}

-- a condition and two sides
module _ (c d : Condition) (l m r s : Tree) (a : KeepsCondition c d) (h : Keeps l m) (k : Keeps r s) where
  three-among : AreAmong (stored_in_condition c ++ (stored_in_tree l ++ stored_in_tree r))
      (stored_in_condition d ++ (stored_in_tree m ++ stored_in_tree s))
  three-among = among-two (stored_in_condition c) (stored_in_condition d) (stored_in_tree l ++ stored_in_tree r)
      (stored_in_tree m ++ stored_in_tree s) a.stored
      (among-two (stored_in_tree l) (stored_in_tree m) (stored_in_tree r) (stored_in_tree s) h.stored k.stored)

  three-same : (tables : Tables) → HasAll tables (stored_in_condition d ++ (stored_in_tree m ++ stored_in_tree s))
      → Agree (tree_truth tables c) (tree_truth tables d) × AgreeOnRows (tree_outcome tables l) (tree_outcome tables m)
      × AgreeOnRows (tree_outcome tables r) (tree_outcome tables s)
  three-same tables all =
      let sides = has-right tables (stored_in_condition d) (stored_in_tree m ++ stored_in_tree s) all in (
        a.same tables (has-left tables (stored_in_condition d) (stored_in_tree m ++ stored_in_tree s) all),
        h.same tables (has-left tables (stored_in_tree m) (stored_in_tree s) sides),
        k.same tables (has-right tables (stored_in_tree m) (stored_in_tree s) sides),
      )

  pub inner-keeps : Keeps (t.Inner c l r) (t.Inner d m s)
  inner-keeps = record {
    same = λ tables fits env.
        let p = three-same tables (subst (HasAll tables) (known.tree_inner d m s) fits) in
        rw (means.tree_inner (outcome_step tables) c l r, means.tree_inner (outcome_step tables) d m s)
        (inner_join-agree (tree_truth tables c) (tree_truth tables d) env (tree_outcome tables l env)
        (tree_outcome tables m env) (tree_outcome tables r env) (tree_outcome tables s env)
        p.0 (p.1 env) (p.2 env));
    keys = rw (keys.keys_inner c l r, keys.keys_inner d m s) (begins-nothing []);
    stored = rw (known.tree_inner c l r, known.tree_inner d m s) three-among;
  }

  pub left-keeps : (width : ℕ) → Keeps (t.Left c l r width) (t.Left d m s width)
  left-keeps width = record {
    same = λ tables fits env.
        let p = three-same tables (subst (HasAll tables) (known.tree_left d m s width) fits) in
        rw (means.tree_left (outcome_step tables) c l r width, means.tree_left (outcome_step tables) d m s width)
        (left_join-agree (tree_truth tables c) (tree_truth tables d) env width (tree_outcome tables l env)
        (tree_outcome tables m env) (tree_outcome tables r env) (tree_outcome tables s env)
        p.0 (p.1 env) (p.2 env));
    keys = rw (keys.keys_left c l r width, keys.keys_left d m s width) (begins-nothing []);
    stored = rw (known.tree_left c l r width, known.tree_left d m s width) three-among;
  }

  pub half-keeps : Keeps (t.Half c l r) (t.Half d m s)
  half-keeps = record {
    same = λ tables fits env.
        let p = three-same tables (subst (HasAll tables) (known.tree_half d m s) fits) in
        rw (means.tree_half (outcome_step tables) c l r, means.tree_half (outcome_step tables) d m s)
        (half_join-agree true (tree_truth tables c) (tree_truth tables d) env (tree_outcome tables l env)
        (tree_outcome tables m env) (tree_outcome tables r env) (tree_outcome tables s env)
        p.0 (p.1 env) (p.2 env));
    keys = rw (keys.keys_half c l r, keys.keys_half d m s) h.keys;
    stored = rw (known.tree_half c l r, known.tree_half d m s) three-among;
  }

  pub opposite-keeps : Keeps (t.OppositeHalf c l r) (t.OppositeHalf d m s)
  opposite-keeps = record {
    same = λ tables fits env.
        let p = three-same tables (subst (HasAll tables) (known.tree_opposite d m s) fits) in
        rw (means.tree_opposite (outcome_step tables) c l r, means.tree_opposite (outcome_step tables) d m s)
        (half_join-agree false (tree_truth tables c) (tree_truth tables d) env (tree_outcome tables l env)
        (tree_outcome tables m env) (tree_outcome tables r env) (tree_outcome tables s env)
        p.0 (p.1 env) (p.2 env));
    keys = rw (keys.keys_opposite c l r, keys.keys_opposite d m s) h.keys;
    stored = rw (known.tree_opposite c l r, known.tree_opposite d m s) three-among;
  }

  pub hash_join-keeps : (places columns : List ℕ)
      → Keeps (t.HashJoin c l r places columns) (t.HashJoin d m s places columns)
  hash_join-keeps places columns = record {
    same = λ tables fits env.
        let p = three-same tables (subst (HasAll tables) (known.tree_hash_join d m s places columns) fits) in
        rw (
          means.tree_hash_join (outcome_step tables) c l r places columns,
          means.tree_hash_join (outcome_step tables) d m s places columns,
        )
        (keyed_join-agree (tree_truth tables c) (tree_truth tables d) env
        (matching places columns (tree_outcome tables r env).rows)
        (matching places columns (tree_outcome tables s env).rows)
        (tree_outcome tables r env).faults (tree_outcome tables s env).faults (tree_outcome tables l env)
        (tree_outcome tables m env)
        p.0 (λ row. matching-permutes places columns (tree_outcome tables r env).rows
        (tree_outcome tables s env).rows row (p.2 env).rows) (p.2 env).faults (p.1 env));
    keys = rw (keys.keys_hash_join c l r places columns, keys.keys_hash_join d m s places columns) (begins-nothing []);
    stored = rw (known.tree_hash_join c l r places columns, known.tree_hash_join d m s places columns) three-among;
  }

pub index_loop-keeps : (c d : Condition) (l m : Tree) (places : List ℕ) (table : StoredTable) (columns : List ℕ)
    → KeepsCondition c d → Keeps l m
    → Keeps (t.IndexLoop c l places table columns) (t.IndexLoop d m places table columns)
index_loop-keeps c d l m places table columns a h = record {
  same = λ tables fits env.
      let all = subst (HasAll tables) (known.tree_index_loop d m places table columns) fits in
      let rest = has-right tables (stored_in_condition d) (stored_in_tree m ++ table ∷ []) all in
      rw (
        means.tree_index_loop (outcome_step tables) c l places table columns,
        means.tree_index_loop (outcome_step tables) d m places table columns,
      )
      (keyed_join-agree (tree_truth tables c) (tree_truth tables d) env (matching places columns (tables table.name))
      (matching places columns (tables table.name)) [] []
      (tree_outcome tables l env) (tree_outcome tables m env)
      (a.same tables (has-left tables (stored_in_condition d) (stored_in_tree m ++ table ∷ []) all))
      (λ row. Permutes-refl (matching places columns (tables table.name) row)) (HasSame-refl [])
      (h.same tables (has-left tables (stored_in_tree m) (table ∷ []) rest) env));
  keys = rw (keys.keys_index_loop c l places table columns, keys.keys_index_loop d m places table columns)
      (begins-nothing []);
  stored = rw (known.tree_index_loop c l places table columns, known.tree_index_loop d m places table columns)
      (among-two (stored_in_condition c) (stored_in_condition d) (stored_in_tree l ++ table ∷ [])
      (stored_in_tree m ++ table ∷ []) a.stored
      (among-two (stored_in_tree l) (stored_in_tree m) (table ∷ []) (table ∷ []) h.stored (among-refl (table ∷ []))));
}

pub distinct-keeps : (s u : Tree) → Keeps s u → Keeps (t.Distinct s) (t.Distinct u)
distinct-keeps s u h = record {
  same = λ tables fits env. rw
      (means.tree_distinct (outcome_step tables) s, means.tree_distinct (outcome_step tables) u)
      (only-same true (tree_outcome tables s env) (tree_outcome tables u env)
      (h.same tables (subst (HasAll tables) (known.tree_distinct u) fits) env));
  keys = rw (keys.keys_distinct s, keys.keys_distinct u) (begins-nothing []);
  stored = rw (known.tree_distinct s, known.tree_distinct u) h.stored;
}

pub sort-keeps : (by : List OrderKey) (s u : Tree) → Keeps s u → Keeps (t.Sort by s) (t.Sort by u)
sort-keeps by s u h = record {
  same = λ tables fits env. rw (means.tree_sort (outcome_step tables) by s, means.tree_sort (outcome_step tables) by u)
      (h.same tables (subst (HasAll tables) (known.tree_sort by u) fits) env);
  keys = rw (keys.keys_sort by s, keys.keys_sort by u) (begins-refl by);
  stored = rw (known.tree_sort by s, known.tree_sort by u) h.stored;
}

pub set-keeps : (op : SetOperation) (l m r s : Tree) → Keeps l m → Keeps r s → Keeps (t.Set op l r) (t.Set op m s)
set-keeps op l m r s h k = record {
  same = λ tables fits env.
      let all = subst (HasAll tables) (known.tree_set op m s) fits in
      rw (means.tree_set (outcome_step tables) op l r, means.tree_set (outcome_step tables) op m s)
      (set_operation-same op (tree_outcome tables l env) (tree_outcome tables m env) (tree_outcome tables r env)
      (tree_outcome tables s env)
      (h.same tables (has-left tables (stored_in_tree m) (stored_in_tree s) all) env)
      (k.same tables (has-right tables (stored_in_tree m) (stored_in_tree s) all) env));
  keys = rw (keys.keys_set op l r, keys.keys_set op m s) (begins-nothing []);
  stored = rw (known.tree_set op l r, known.tree_set op m s)
      (among-two (stored_in_tree l) (stored_in_tree m) (stored_in_tree r) (stored_in_tree s) h.stored k.stored);
}

same_columns : (xs ys : List Expression) → Each KeepsExpression xs ys → map column_of xs ≡ map column_of ys
same_columns [] [] h = refl
same_columns [] (y ∷ ys) h = absurd h
same_columns (x ∷ xs) [] h = absurd h
same_columns (x ∷ xs) (y ∷ ys) h = λ i. h.0.column i ∷ same_columns xs ys h.1 i

pub project-keeps : (xs ys : List Expression) (s u : Tree) → Each KeepsExpression xs ys → Keeps s u
    → Keeps (t.Project xs s) (t.Project ys u)
project-keeps xs ys s u h k = record {
  same = λ tables fits env.
      let all = subst (HasAll tables) (known.tree_project ys u) fits in
      rw (means.tree_project (outcome_step tables) xs s, means.tree_project (outcome_step tables) ys u)
      (list-agree (map (tree_value tables) xs) (map (tree_value tables) ys) env (tree_outcome tables s env)
      (tree_outcome tables u env)
      (each-known KeepsExpression Agree tables stored_in_expression (tree_value tables) xs ys
      (λ x y r fit. r.same tables fit)
      (has-left tables (all_stored (map stored_in_expression ys)) (stored_in_tree u) all) h)
      (k.same tables (has-right tables (all_stored (map stored_in_expression ys)) (stored_in_tree u) all) env));
  keys = rw (keys.keys_project xs s, keys.keys_project ys u, same_columns xs ys h)
      (handed-keeps (map column_of ys) (order_keys u) (order_keys s) k.keys);
  stored = rw (known.tree_project xs s, known.tree_project ys u)
      (among-two (all_stored (map stored_in_expression xs)) (all_stored (map stored_in_expression ys))
      (stored_in_tree s) (stored_in_tree u)
      (all-among KeepsExpression stored_in_expression xs ys (λ x y r. r.stored) h) k.stored);
}

meant-functions : (tables : Tables) (fs : List SetFunction)
    → map (λ f. function_of (function_by (outcome_step tables) f)) fs
    ≡ map function_of (map (function_by (outcome_step tables)) fs)
meant-functions tables [] = refl
meant-functions tables (f ∷ fs) = ap (λ rest. function_of (function_by (outcome_step tables) f) ∷ rest)
    (meant-functions tables fs)

pub group-keeps : (columns : Option (List ℕ)) (fs gs : List SetFunction) (s u : Tree) → Each KeepsFunction fs gs
    → Keeps s u → Keeps (t.Group columns fs s) (t.Group columns gs u)
group-keeps columns fs gs s u h k = record {
  same = λ tables fits env.
      let all = subst (HasAll tables) (known.tree_group columns gs u) fits in
      let functions = each-known KeepsFunction AgreeOnGroups tables stored_in_function
      (λ f. function_of (function_by (outcome_step tables) f)) fs gs (λ f g r fit. r.same tables fit)
      (has-left tables (all_stored (map stored_in_function gs)) (stored_in_tree u) all) h in
      rw (
        means.tree_group (outcome_step tables) columns fs s,
        means.tree_group (outcome_step tables) columns gs u,
        sym (meant-functions tables fs),
        sym (meant-functions tables gs),
      )
      (grouped-agree columns (map (λ f. function_of (function_by (outcome_step tables) f)) fs)
      (map (λ f. function_of (function_by (outcome_step tables) f)) gs) None None functions tt env
      (tree_outcome tables s env) (tree_outcome tables u env)
      (k.same tables (has-right tables (all_stored (map stored_in_function gs)) (stored_in_tree u) all) env));
  keys = rw (keys.keys_group columns fs s, keys.keys_group columns gs u) (begins-nothing []);
  stored = rw (known.tree_group columns fs s, known.tree_group columns gs u)
      (among-two (all_stored (map stored_in_function fs)) (all_stored (map stored_in_function gs)) (stored_in_tree s)
      (stored_in_tree u)
      (all-among KeepsFunction stored_in_function fs gs (λ f g r. r.stored) h) k.stored);
}

pub member-keeps : (a b : Expression) (is_negated : Bool) (l m r s : Tree) → KeepsExpression a b → Keeps l m → Keeps r s
    → Keeps (t.Member a is_negated l r) (t.Member b is_negated m s)
member-keeps a b is_negated l m r s x h k = record {
  same = λ tables fits env.
      let all = subst (HasAll tables) (known.tree_member b is_negated m s) fits in
      let sides = has-right tables (stored_in_expression b) (stored_in_tree m ++ stored_in_tree s) all in
      rw (
        means.tree_member (outcome_step tables) a is_negated l r,
        means.tree_member (outcome_step tables) b is_negated m s,
      )
      (filtered-agree (Some _) (Some _) env (tree_outcome tables r env) (tree_outcome tables s env)
      (is_member-agree (tree_value tables a) (tree_value tables b) is_negated (tree_outcome tables l env)
      (tree_outcome tables m env)
      (x.same tables (has-left tables (stored_in_expression b) (stored_in_tree m ++ stored_in_tree s) all))
      (h.same tables (has-left tables (stored_in_tree m) (stored_in_tree s) sides) env))
      (k.same tables (has-right tables (stored_in_tree m) (stored_in_tree s) sides) env));
  keys = rw (keys.keys_member a is_negated l r, keys.keys_member b is_negated m s) k.keys;
  stored = rw (known.tree_member a is_negated l r, known.tree_member b is_negated m s)
      (among-two (stored_in_expression a) (stored_in_expression b) (stored_in_tree l ++ stored_in_tree r)
      (stored_in_tree m ++ stored_in_tree s) x.stored
      (among-two (stored_in_tree l) (stored_in_tree m) (stored_in_tree r) (stored_in_tree s) h.stored k.stored));
}

-- ---- subqueries

pub exists-keeps : (s u : Tree) → Keeps s u → KeepsCondition (c.Exists s) (c.Exists u)
exists-keeps s u h = record {
  same = λ tables fits env. rw (means.truth_exists (outcome_step tables) s, means.truth_exists (outcome_step tables) u)
      (exists-same (tree_outcome tables s env) (tree_outcome tables u env)
      (h.same tables (subst (HasAll tables) (known.condition_exists u) fits) env));
  stored = rw (known.condition_exists s, known.condition_exists u) h.stored;
}

pub in_query-keeps : (a b : Expression) (s u : Tree) → KeepsExpression a b → Keeps s u
    → KeepsCondition (c.InQuery a s) (c.InQuery b u)
in_query-keeps a b s u x h = record {
  same = λ tables fits env.
      let all = subst (HasAll tables) (known.condition_in_query b u) fits in
      rw (means.truth_in_query (outcome_step tables) a s, means.truth_in_query (outcome_step tables) b u)
      (in_query-same (tree_value tables a env) (tree_value tables b env) (tree_outcome tables s env)
      (tree_outcome tables u env)
      (x.same tables (has-left tables (stored_in_expression b) (stored_in_tree u) all) env)
      (h.same tables (has-right tables (stored_in_expression b) (stored_in_tree u) all) env));
  stored = rw (known.condition_in_query a s, known.condition_in_query b u)
      (among-two (stored_in_expression a) (stored_in_expression b) (stored_in_tree s)
      (stored_in_tree u) x.stored h.stored);
}

pub scalar-keeps : (s u : Tree) → Keeps s u → column_of (e.Scalar s) ≡ column_of (e.Scalar u)
    → KeepsExpression (e.Scalar s) (e.Scalar u)
scalar-keeps s u h same = record {
  same = λ tables fits env. rw (means.value_scalar (outcome_step tables) s, means.value_scalar (outcome_step tables) u)
      (scalar-same (tree_outcome tables s env) (tree_outcome tables u env)
      (h.same tables (subst (HasAll tables) (known.expression_scalar u) fits) env));
  column = same;
  stored = rw (known.expression_scalar s, known.expression_scalar u) h.stored;
}

-- ---- conditions over conditions

pub and-keeps : (xs ys : List Condition) → Each KeepsCondition xs ys → KeepsCondition (c.And xs) (c.And ys)
and-keeps xs ys h = record {
  same = λ tables fits env. rw (means.truth_and (outcome_step tables) xs, means.truth_and (outcome_step tables) ys)
      (conjunction-agree (map (tree_truth tables) xs) (map (tree_truth tables) ys)
      (each-known KeepsCondition Agree tables stored_in_condition (tree_truth tables) xs ys
      (λ x y r fit. r.same tables fit) (subst (HasAll tables) (known.condition_and ys) fits) h) env);
  stored = rw (known.condition_and xs, known.condition_and ys)
      (all-among KeepsCondition stored_in_condition xs ys (λ x y r. r.stored) h);
}

pub not-keeps : (x y : Condition) → KeepsCondition x y → KeepsCondition (c.Not x) (c.Not y)
not-keeps x y h = record {
  same = λ tables fits env. rw
      (means.truth_negation (outcome_step tables) x, means.truth_negation (outcome_step tables) y)
      (then-same (tree_truth tables x env) (tree_truth tables y env) _
      (h.same tables (subst (HasAll tables) (known.condition_not y) fits) env));
  stored = rw (known.condition_not x, known.condition_not y) h.stored;
}

-- ---- one after another

pub keeps-trans : (x y z : Tree) → Keeps z y → Keeps y x → Keeps z x
keeps-trans x y z h k = record {
  same = λ tables fits env. IsSame-trans (tree_outcome tables z env) (tree_outcome tables y env)
      (tree_outcome tables x env) (h.same tables (λ table there. fits table (k.stored table there)) env)
      (k.same tables fits env);
  keys = begins-trans (order_keys x) (order_keys y) (order_keys z) k.keys h.keys;
  stored = λ table there. k.stored table (h.stored table there);
}
