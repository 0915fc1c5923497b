-- The rows of a tree are as wide as is told, over tables that fit: by induction over the trees.
use Rattle.std.proofs.Common.{◌≡◌, refl, ap, sym, ◌∙◌, subst, ℕ, zero, suc, Bool, true, false, cond, if◌then◌else◌, List, [], ◌∷◌, ◌++◌, map, length, Option, Some, None, Ok, Err, arith}
use Rattle.std.specs.Prelude.{◌+◌, ◌==◌, filter, flat_map, replicate, Contains}
use Rattle.std.proofs.lemmas.List.Elements.{Contains-append_left}
use Rattle.std.proofs.lemmas.List.{length-append}
use Rattle.sqlval.specs.declared.truth.Truth.{Truth}
use Rattle.sqlval.specs.declared.truth.Truth.TheVariants.{False, Unknown, True}
use Rattle.denote.specs.declared.fault.Fault.{Fault}
use Rattle.sqlval.specs.declared.value.Value.{Value}
use Rattle.sqlval.specs.declared.value.Value.TheVariants.{Null}
use Rattle.std.proofs.lemmas.Bool.{eqb-true}
use Rattle.sqlval.specs.Matching.{key_of}
use Rattle.sqlval.specs.Value.{Row}
use Rattle.typing.specs.declared.typed.SetOperation.{SetOperation}
use Rattle.algebra.specs.Bounds.{is_within}
use Rattle.algebra.specs.declared.tree.Condition.{Condition}
use Rattle.algebra.specs.declared.tree.Expression.{Expression}
use Rattle.algebra.specs.declared.tree.SetFunction.{SetFunction}
use Rattle.algebra.specs.declared.tree.StoredTable.{StoredTable}
use Rattle.algebra.specs.declared.tree.Tree.{Tree, Tree-F, roll-Tree, map-Tree, fold-roll-Tree, ind-Tree}
use Rattle.algebra.specs.Joined.{some_true, half_row, half_join, matching, keyed_join, is_member}
use Rattle.algebra.specs.Meaning.{TreeMeaning, function_of, truth_by, value_by, function_by}
use Rattle.algebra.specs.TreeOutcome.{outcome_step, tree_outcome}
use Rattle.algebra_laws.proofs.RolledTrees.{Node, tree_meant, tree_rolled}
use Rattle.denote.specs.Bag.{distinct}
use Rattle.denote.specs.Condition.{ConditionMeaning}
use Rattle.denote.specs.Evaluation.{Env, Evaluation, ◌>>=◌, joined, together}
use Rattle.denote.specs.Expression.{ExpressionMeaning}
use Rattle.denote.specs.From.{only_true, kept_row, kept, beside, product, inner_join, left_join, is_unmatched, padded, nulls}
use Rattle.denote.specs.Group.{SetFunctionMeaning, keys_of, members, group_row}
use Rattle.denote.specs.Meaning.{Tables}
use Rattle.denote.specs.Outcome.{Outcome, before, each, through}
use Rattle.denote.specs.Select.{values_of, shown_row, shown}
use Rattle.denote.specs.SetOperator.{multiplicity, set_operation}
use Rattle.denote.specs.Bag.{times}
use Rattle.operator_laws.specs.Same.{Every}
use Rattle.rules.specs.Same.{HasAll}
use Rattle.rules.specs.Stored.{StoredTables, stored_of_condition, stored_of_expression, stored_of_function, stored_of_tree, stored_in_condition, stored_in_expression, stored_in_function, stored_in_tree}
use Rattle.rules.specs.Width.{added, agreed, count_columns, width_condition, width_expression, width_function, width_step, width_of_tree}
use Rattle.same_laws.proofs.Composed.{has-left, has-right}

-- ---- facts of all rows

every-append : {X : Type 0} (P : X → Type 0) (xs ys : List X) → Every P xs → Every P ys → Every P (xs ++ ys)
every-append P [] ys h k = k
every-append P (x ∷ xs) ys h k = (h.0, every-append P xs ys h.1 k)

every-filter : {X : Type 0} (P : X → Type 0) (p : X → Bool) (xs : List X) → Every P xs → Every P (filter p xs)
every-filter P p [] h = tt
every-filter {X} P p (x ∷ xs) h = at (p x) (every-filter P p xs h.1)
  where
    at : (b : Bool) → Every P (filter p xs) → Every P (cond b (x ∷ filter p xs) (filter p xs))
    at true k = (h.0, k)
    at false k = k

every-each : (P Q : Row → Type 0) (f : Row → Evaluation (List Row)) (rows : List Row)
    → ((row : Row) (made : List Row) → P row → f row ≡ Ok made → Every Q made) → Every P rows
    → Every Q (each f rows).rows
every-each P Q f [] h k = tt
every-each P Q f (row ∷ rows) h k = at (f row) refl (every-each P Q f rows h k.1)
  where
    at : (x : Evaluation (List Row)) → f row ≡ x → Every Q (each f rows).rows → Every Q (before x (each f rows)).rows
    at (Ok made) e rest = every-append Q made (each f rows).rows (h row made k.0 e) rest
    at (Err faults) e rest = rest

every-any : {X : Type 0} (P : X → Type 0) (xs : List X) → ((x : X) → P x) → Every P xs
every-any P [] h = tt
every-any P (x ∷ xs) h = (h x, every-any P xs h)

every-flat : {X Y : Type 0} (P : X → Type 0) (Q : Y → Type 0) (f : X → List Y) (xs : List X)
    → ((x : X) → P x → Every Q (f x)) → Every P xs → Every Q (flat_map f xs)
every-flat P Q f [] h k = tt
every-flat P Q f (x ∷ xs) h k = every-append Q (f x) (flat_map f xs) (h x k.0) (every-flat P Q f xs h k.1)

every-map : {X Y : Type 0} (P : X → Type 0) (Q : Y → Type 0) (f : X → Y) (xs : List X) → ((x : X) → P x → Q (f x))
    → Every P xs → Every Q (map f xs)
every-map P Q f [] h k = tt
every-map P Q f (x ∷ xs) h k = (h x k.0, every-map P Q f xs h k.1)

every-replicate : {X : Type 0} (P : X → Type 0) (n : ℕ) (x : X) → P x → Every P (replicate n x)
every-replicate P zero x h = tt
every-replicate P (suc n) x h = (h, every-replicate P n x h)

every-distinct : (P : Row → Type 0) (rows : List Row) → Every P rows → Every P (distinct rows)
every-distinct P [] h = tt
every-distinct P (row ∷ rows) h = (h.0, every-filter P _ (distinct rows) (every-distinct P rows h.1))

-- ---- widths

abbrev pub Wide : ℕ → Row → Type 0
Wide w row = length row ≡ w

abbrev given_ok : {A : Type 0} → A → Evaluation A
given_ok x = Ok x

ok-is : {A : Type 0} {x y : A} → given_ok x ≡ given_ok y → x ≡ y
ok-is e = cc

some-is : {A : Type 0} {x y : A} → Some x ≡ Some y → x ≡ y
some-is e = cc

-- both widths of what is added
added-parts : (a b : Option ℕ) (w : ℕ) → added a b ≡ Some w → (m : ℕ) × (n : ℕ) × (a ≡ Some m) × (b ≡ Some n)
    × (m + n ≡ w)
added-parts (Some m) (Some n) w e = (m, n, refl, refl, some-is e)
added-parts (Some m) None w e = absurd (cc (e))
added-parts None b w e = absurd (cc (e))

agreed-parts : (a b : Option ℕ) (w : ℕ) → agreed a b ≡ Some w → (a ≡ Some w) × (b ≡ Some w)
agreed-parts (Some m) (Some n) w e = at (m == n) refl e
  where
    at : (b : Bool) → (m == n) ≡ b → (if b then Some m else None) ≡ Some w → (Some m ≡ Some w) × (Some n ≡ Some w)
    at true is e = (e, ap (λ k. Some k) (sym (eqb-true m n is)) ∙ e)
    at false is e = absurd (cc (e))
agreed-parts (Some m) None w e = absurd (cc (e))
agreed-parts None b w e = absurd (cc (e))

beside-wide : (m n : ℕ) (row : Row) (others : List Row) → Wide m row → Every (Wide n) others
    → Every (Wide (m + n)) (beside row others)
beside-wide m n row others h k = every-map (Wide n) (Wide (m + n)) (λ other. row ++ other) others
    (λ other e. length-append row other ∙ (λ i. h i + e i)) k

kept-wide : (w : ℕ) (condition : ConditionMeaning) (env : Env) (rows : List Row) → Every (Wide w) rows
    → Every (Wide w) (kept condition env rows).rows
kept-wide w condition env rows h = every-each (Wide w) (Wide w) (kept_row condition env) rows
    (λ row made k e. at (condition (row ∷ env)) row made k e) h
  where
    at : (x : Evaluation Truth) (row : Row) (made : List Row) → Wide w row
        → (x >>= (λ t. Ok (only_true t row))) ≡ Ok made → Every (Wide w) made
    at (Ok True) row made k e = subst (λ (z : List Row). Every (Wide w) z) (ok-is e) (k, tt)
    at (Ok False) row made k e = subst (λ (z : List Row). Every (Wide w) z) (ok-is e) tt
    at (Ok Unknown) row made k e = subst (λ (z : List Row). Every (Wide w) z) (ok-is e) tt
    at (Err faults) row made k e = absurd (cc (e))

through-rows : (o : Outcome) (f : List Row → Outcome) → (through o f).rows ≡ (f o.rows).rows
unfolding through
through-rows o f = refl

module _ (o : Outcome) (f : List Row → Outcome) (w : ℕ) where
  through-wide : Every (Wide w) (f o.rows).rows → Every (Wide w) (through o f).rows
  through-wide h = subst (λ (z : List Row). Every (Wide w) z) (sym (through-rows o f)) h

pairs-wide : (m n : ℕ) (l r : List Row) → Every (Wide m) l → Every (Wide n) r
    → Every (Wide (m + n)) (flat_map (λ row. beside row r) l)
pairs-wide m n l r h k = every-flat (Wide m) (Wide (m + n)) (λ row. beside row r) l (λ row e. beside-wide m n row r e k)
    h

product-wide : (m n : ℕ) (l r : Outcome) → Every (Wide m) l.rows → Every (Wide n) r.rows
    → Every (Wide (m + n)) (product l r).rows
unfolding product
product-wide m n l r h k = pairs-wide m n l.rows r.rows h k

inner-wide : (m n : ℕ) (on : ConditionMeaning) (env : Env) (l r : Outcome) → Every (Wide m) l.rows
    → Every (Wide n) r.rows → Every (Wide (m + n)) (inner_join on env l r).rows
unfolding inner_join
inner-wide m n on env l r h k = through-wide (product l r) (kept on env) (m + n)
    (kept-wide (m + n) on env (product l r).rows (product-wide m n l r h k))

length-replicate : {X : Type 0} (n : ℕ) (x : X) → length (replicate n x) ≡ n
length-replicate zero x = refl
length-replicate (suc n) x = ap suc (length-replicate n x)

left-wide : (m n : ℕ) (on : ConditionMeaning) (env : Env) (l r : Outcome) → Every (Wide m) l.rows
    → Every (Wide n) r.rows → Every (Wide (m + n)) (left_join on env n l r).rows
unfolding left_join
left-wide m n on env l r h k = every-append (Wide (m + n)) (inner_join on env l r).rows
    (flat_map (padded on env n r.rows) l.rows) (inner-wide m n on env l r h k)
    (every-flat (Wide m) (Wide (m + n)) (padded on env n r.rows) l.rows
    (λ row e. at (is_unmatched on env r.rows row) row e) h)
  where
    at : (u : Bool) (row : Row) → Wide m row → Every (Wide (m + n)) (if u then (row ++ nulls n) ∷ [] else [])
    at true row e = (length-append row (nulls n) ∙ (λ i. e i + length-replicate {X = Value} n Null i), tt)
    at false row e = tt

half-wide : (w : ℕ) (wanted : Bool) (on : ConditionMeaning) (env : Env) (l r : Outcome) → Every (Wide w) l.rows
    → Every (Wide w) (half_join wanted on env l r).rows
unfolding half_join
half-wide w wanted on env l r h = through-wide (record { rows = l.rows; faults = l.faults ++ r.faults })
    (each (half_row wanted on env r.rows)) w
    (every-each (Wide w) (Wide w) (half_row wanted on env r.rows) l.rows (λ row made k e. at wanted row made k e) h)
  where
    yes : (x : Evaluation (List Truth)) (row : Row) (made : List Row) → Wide w row
        → (x >>= (λ ts. Ok (if some_true ts then row ∷ [] else []))) ≡ Ok made → Every (Wide w) made
    yes (Ok ts) row made k e = subst (λ (z : List Row). Every (Wide w) z) (ok-is e) (one (some_true ts))
      where
        one : (b : Bool) → Every (Wide w) (if b then row ∷ [] else [])
        one true = (k, tt)
        one false = tt
    yes (Err faults) row made k e = absurd (cc (e))

    other : (x : Evaluation (List Truth)) (row : Row) (made : List Row) → Wide w row
        → (x >>= (λ ts. Ok (if some_true ts then [] else row ∷ []))) ≡ Ok made → Every (Wide w) made
    other (Ok ts) row made k e = subst (λ (z : List Row). Every (Wide w) z) (ok-is e) (one (some_true ts))
      where
        one : (b : Bool) → Every (Wide w) (if b then [] else row ∷ [])
        one true = tt
        one false = (k, tt)
    other (Err faults) row made k e = absurd (cc (e))

    at : (wanted : Bool) (row : Row) (made : List Row) → Wide w row → half_row wanted on env r.rows row ≡ Ok made
        → Every (Wide w) made
    at true row made k e = yes (together (map (λ pair. on (pair ∷ env)) (beside row r.rows))) row made k e
    at false row made k e = other (together (map (λ pair. on (pair ∷ env)) (beside row r.rows))) row made k e

keyed-wide : (m n : ℕ) (on : ConditionMeaning) (env : Env) (others : Row → List Row) (more : List Fault) (l : Outcome)
    → Every (Wide m) l.rows → ((row : Row) → Every (Wide n) (others row))
    → Every (Wide (m + n)) (keyed_join on env others more l).rows
unfolding keyed_join
keyed-wide m n on env others more l h k =
    through-wide (record { rows = flat_map (λ row. beside row (others row)) l.rows; faults = l.faults ++ more })
    (kept on env) (m + n)
    (kept-wide (m + n) on env (flat_map (λ row. beside row (others row)) l.rows)
    (every-flat (Wide m) (Wide (m + n)) (λ row. beside row (others row)) l.rows
    (λ row e. beside-wide m n row (others row) e (k row)) h))

set-wide : (w : ℕ) (op : SetOperation) (l r : Outcome) → Every (Wide w) l.rows → Every (Wide w) r.rows
    → Every (Wide w) (set_operation op l r).rows
unfolding set_operation
set-wide w op l r h k = every-flat (Wide w) (Wide w)
    (λ row. replicate (multiplicity op.operator op.all (times row l.rows) (times row r.rows)) row)
    (distinct (l.rows ++ r.rows))
    (λ row e. every-replicate (Wide w) (multiplicity op.operator op.all (times row l.rows) (times row r.rows)) row e)
    (every-distinct (Wide w) (l.rows ++ r.rows) (every-append (Wide w) l.rows r.rows h k))

-- as many values as evaluations
together-length : {A : Type 0} (xs : List (Evaluation A)) (ys : List A) → together xs ≡ Ok ys → length ys ≡ length xs
together-length [] ys e = ap length (sym (ok-is e))
together-length {A} (x ∷ xs) ys e = at x (together xs) ys refl (λ vs is. together-length xs vs is) e
  where
    at : (x : Evaluation A) (rest : Evaluation (List A)) (ys : List A) → together xs ≡ rest
        → ((vs : List A) → together xs ≡ Ok vs → length vs ≡ length xs) → joined x rest ≡ Ok ys
        → length ys ≡ suc (length xs)
    at (Ok v) (Ok vs) ys is h e = ap length (sym (ok-is e)) ∙ ap suc (h vs is)
    at (Ok v) (Err faults) ys is h e = absurd (cc (e))
    at (Err faults) rest ys is h e = absurd (cc (e))

length-mapped : {X Y : Type 0} (f : X → Y) (xs : List X) → length (map f xs) ≡ length xs
length-mapped f [] = refl
length-mapped f (x ∷ xs) = ap suc (length-mapped f xs)

shown-wide : (items : List ExpressionMeaning) (env : Env) (rows : List Row)
    → Every (Wide (length items)) (shown items env rows).rows
shown-wide items env rows = every-each (λ row. Unit {0}) (Wide (length items)) (shown_row items env) rows
    (λ row made k e. at (values_of items (row ∷ env)) row made refl e) (every-any (λ row. Unit {0}) rows (λ row. tt))
  where
    at : (x : Evaluation Row) (row : Row) (made : List Row) → values_of items (row ∷ env) ≡ x
        → (x >>= (λ values. Ok (values ∷ []))) ≡ Ok made → Every (Wide (length items)) made
    at (Ok values) row made is e = subst (λ (z : List Row). Every (Wide (length items)) z) (ok-is e) (
      together-length (map (λ item. item (row ∷ env)) items) values is
          ∙ length-mapped (λ item. item (row ∷ env)) items,
      tt,
    )
    at (Err faults) row made is e = absurd (cc (e))

keys-wide : (columns : Option (List ℕ)) (rows : List Row) → Every (Wide (count_columns columns)) (keys_of columns rows)
keys-wide None rows = (refl, tt)
keys-wide (Some columns) rows = every-distinct (Wide (length columns)) (map (key_of columns) rows)
    (every-map (λ row. Unit {0}) (Wide (length columns)) (key_of columns) rows (λ row k. length-mapped _ columns)
    (every-any (λ row. Unit {0}) rows (λ row. tt)))

groups-wide : (columns : Option (List ℕ)) (functions : List SetFunctionMeaning) (env : Env) (rows : List Row)
    → Every (Wide (count_columns columns + length functions))
    (each (group_row columns functions env rows) (keys_of columns rows)).rows
groups-wide columns functions env rows =
    every-each (Wide (count_columns columns)) (Wide (count_columns columns + length functions))
    (group_row columns functions env rows) (keys_of columns rows)
    (λ key made k e. at (together (map (λ function. function env (members columns key rows)) functions)) key made k refl
    e) (keys-wide columns rows)
  where
    at : (x : Evaluation Row) (key : Row) (made : List Row) → Wide (count_columns columns) key
        → together (map (λ function. function env (members columns key rows)) functions) ≡ x
        → (x >>= (λ values. Ok ((key ++ values) ∷ []))) ≡ Ok made
        → Every (Wide (count_columns columns + length functions)) made
    at (Ok values) key made k is e = subst (λ (z : List Row). Every (Wide (count_columns columns + length functions)) z)
        (ok-is e) (
          length-append key values
              ∙ (λ i. k i + (together-length (map (λ function. function env (members columns key rows)) functions)
              values
              is ∙ length-mapped (λ function. function env (members columns key rows)) functions) i),
          tt,
        )
    at (Err faults) key made k is e = absurd (cc (e))

-- ---- the induction

abbrev nothing_told : SetFunction → Unit {0}
nothing_told f = tt

abbrev width_layer : Node Tree-F → Tree-F (Unit {0}) (Unit {0}) (Unit {0}) (Option ℕ)
width_layer d = map-Tree _ _ _ _ _ _ _ _ (λ x. tt) (λ x. tt) (λ x. tt) width_of_tree d

abbrev stored_layer : Node Tree-F → Tree-F StoredTables StoredTables StoredTables StoredTables
stored_layer d = map-Tree _ _ _ _ _ _ _ _ stored_in_condition stored_in_expression stored_in_function stored_in_tree d

stored_be : (d : Node Tree-F) → stored_in_tree (roll-Tree d) ≡ stored_of_tree (stored_layer d)
unfolding stored_in_condition stored_in_expression stored_in_function stored_in_tree
stored_be d = fold-roll-Tree _ _ _ _ stored_of_condition stored_of_expression stored_of_function stored_of_tree d

width_be : (d : Node Tree-F) → width_of_tree (roll-Tree d) ≡ width_step (width_layer d)
unfolding width_of_tree
width_be d = fold-roll-Tree _ _ _ _ width_condition width_expression width_function width_step d

module _ (tables : Tables) where
  abbrev IsWide : Tree → Type 0
  IsWide tree = (w : ℕ) → width_of_tree tree ≡ Some w → HasAll tables (stored_in_tree tree) → (env : Env)
      → Every (Wide w) (tree_outcome tables tree env).rows

  abbrev Parts : ((A B C D : Type 0) → Type 0) → Type 0
  Parts T = T (Condition × Unit {0}) (Expression × Unit {0}) (SetFunction × Unit {0}) ((t : Tree) × IsWide t)

  abbrev tree_of : Parts Tree-F → Node Tree-F
  tree_of y = map-Tree _ _ _ _ _ _ _ _ (λ p. p.0) (λ p. p.0) (λ p. p.0) (λ p. p.0) y

  -- a table's rows
  rows-wide : (table : StoredTable) (more : StoredTables) → HasAll tables (table ∷ more)
      → Every (Wide table.width) (tables table.name)
  rows-wide table more h = (h table (first table more)).width
    where
      first : (table : StoredTable) (more : StoredTables) → Contains (table ∷ more) table
      first table more = Contains-append_left (table ∷ []) more table (one table)
        where
          one : (table : StoredTable) → Contains (table ∷ []) table
          one table = search arith

  module _ (condition left right : StoredTables) (h : HasAll tables (condition ++ (left ++ right))) where
    of-left : HasAll tables left
    of-left = has-left tables left right (has-right tables condition (left ++ right) h)

    of-right : HasAll tables right
    of-right = has-right tables left right (has-right tables condition (left ++ right) h)

  tree_wide : (y : Parts Tree-F) (w : ℕ) → width_step (width_layer (tree_of y)) ≡ Some w
      → HasAll tables (stored_of_tree (stored_layer (tree_of y))) → (env : Env)
      → Every (Wide w) (outcome_step tables (tree_meant (outcome_step tables) (tree_of y)) env).rows
  tree_wide (Tree-F.Scan table) w e h env = subst (λ (n : ℕ). Every (Wide n) (tables table.name)) (some-is e)
      (rows-wide table [] h)
  tree_wide (Tree-F.Filter condition tree) w e h env =
      through-wide (tree_outcome tables tree.0 env) (kept (truth_by (outcome_step tables) condition.0) env) w
      (kept-wide w (truth_by (outcome_step tables) condition.0) env (tree_outcome tables tree.0 env).rows
      (tree.1 w e (has-right tables (stored_in_condition condition.0) (stored_in_tree tree.0) h) env))
  tree_wide (Tree-F.Product left right) w e h env =
      let p = added-parts (width_of_tree left.0) (width_of_tree right.0) w e in
      subst (λ (n : ℕ). Every (Wide n)
      (product (tree_outcome tables left.0 env) (tree_outcome tables right.0 env)).rows) p.4
      (product-wide p.0 p.1 (tree_outcome tables left.0 env) (tree_outcome tables right.0 env)
      (left.1 p.0 p.2 (has-left tables (stored_in_tree left.0) (stored_in_tree right.0) h) env)
      (right.1 p.1 p.3 (has-right tables (stored_in_tree left.0) (stored_in_tree right.0) h) env))
  tree_wide (Tree-F.Inner on left right) w e h env =
      let p = added-parts (width_of_tree left.0) (width_of_tree right.0) w e in
      subst (λ (n : ℕ). Every (Wide n)
      (inner_join (truth_by (outcome_step tables) on.0) env (tree_outcome tables left.0 env)
      (tree_outcome tables right.0 env)).rows) p.4
      (inner-wide p.0 p.1 (truth_by (outcome_step tables) on.0) env (tree_outcome tables left.0 env)
      (tree_outcome tables right.0 env)
      (left.1 p.0 p.2 (of-left (stored_in_condition on.0) (stored_in_tree left.0) (stored_in_tree right.0) h) env)
      (right.1 p.1 p.3 (of-right (stored_in_condition on.0) (stored_in_tree left.0) (stored_in_tree right.0) h) env))
  tree_wide (Tree-F.Left on left right width) w e h env =
      let p = added-parts (width_of_tree left.0) (agreed (width_of_tree right.0) (Some width)) w e in
      let q = agreed-parts (width_of_tree right.0) (Some width) p.1 p.3 in
      let same : p.1 ≡ width = sym (some-is q.1) in
      subst (λ (n : ℕ). Every (Wide n)
      (left_join (truth_by (outcome_step tables) on.0) env width (tree_outcome tables left.0 env)
      (tree_outcome tables right.0 env)).rows) ((λ i. p.0 + sym same i) ∙ p.4)
      (left-wide p.0 width (truth_by (outcome_step tables) on.0) env (tree_outcome tables left.0 env)
      (tree_outcome tables right.0 env)
      (left.1 p.0 p.2 (of-left (stored_in_condition on.0) (stored_in_tree left.0) (stored_in_tree right.0) h) env)
      (right.1 width (q.0 ∙ ap (λ n. Some n) same)
      (of-right (stored_in_condition on.0) (stored_in_tree left.0) (stored_in_tree right.0) h) env))
  tree_wide (Tree-F.Half on left right) w e h env =
      half-wide w true (truth_by (outcome_step tables) on.0) env (tree_outcome tables left.0 env)
      (tree_outcome tables right.0 env)
      (left.1 w e (of-left (stored_in_condition on.0) (stored_in_tree left.0) (stored_in_tree right.0) h) env)
  tree_wide (Tree-F.OppositeHalf on left right) w e h env =
      half-wide w false (truth_by (outcome_step tables) on.0) env (tree_outcome tables left.0 env)
      (tree_outcome tables right.0 env)
      (left.1 w e (of-left (stored_in_condition on.0) (stored_in_tree left.0) (stored_in_tree right.0) h) env)
  tree_wide (Tree-F.Group columns functions rows) w e h env =
      let fs = map function_of (map (function_by (outcome_step tables))
      (map (λ (o : SetFunction × Unit {0}). o.0) functions)) in
      let named = map (λ (o : SetFunction × Unit {0}). o.0) functions in
      let many : length fs ≡ length (map nothing_told named) =
      length-mapped function_of (map (function_by (outcome_step tables)) named)
      ∙ length-mapped (function_by (outcome_step tables)) named ∙ sym (length-mapped nothing_told named) in
      through-wide (tree_outcome tables rows.0 env)
      (λ found. each (group_row columns fs env found) (keys_of columns found)) w
      (subst (λ (n : ℕ). Every (Wide n)
      (each (group_row columns fs env (tree_outcome tables rows.0 env).rows)
      (keys_of columns (tree_outcome tables rows.0 env).rows)).rows)
      ((λ i. count_columns columns + many i) ∙ some-is e)
      (groups-wide columns fs env (tree_outcome tables rows.0 env).rows))
  tree_wide (Tree-F.Project items tree) w e h env =
      let xs = map (value_by (outcome_step tables)) (map (λ (o : Expression × Unit {0}). o.0) items) in
      let many : length xs ≡ w = length-mapped _ _ ∙ sym (length-mapped _ _) ∙ some-is e in
      through-wide (tree_outcome tables tree.0 env) (shown xs env) w
      (subst (λ (n : ℕ). Every (Wide n) (shown xs env (tree_outcome tables tree.0 env).rows).rows) many
      (shown-wide xs env (tree_outcome tables tree.0 env).rows))
  tree_wide (Tree-F.Distinct tree) w e h env = every-distinct (Wide w) (tree_outcome tables tree.0 env).rows
      (tree.1 w e h env)
  tree_wide (Tree-F.Set op left right) w e h env =
      let q = agreed-parts (width_of_tree left.0) (width_of_tree right.0) w e in
      set-wide w op (tree_outcome tables left.0 env) (tree_outcome tables right.0 env)
      (left.1 w q.0 (has-left tables (stored_in_tree left.0) (stored_in_tree right.0) h) env)
      (right.1 w q.1 (has-right tables (stored_in_tree left.0) (stored_in_tree right.0) h) env)
  tree_wide (Tree-F.Sort keys tree) w e h env = tree.1 w e h env
  tree_wide (Tree-F.Seek table columns key) w e h env = every-filter (Wide w) _ (tables table.name)
      (subst (λ (n : ℕ). Every (Wide n) (tables table.name)) (some-is e) (rows-wide table [] h))
  tree_wide (Tree-F.Range table columns low high) w e h env = every-filter (Wide w) (is_within columns low high)
      (tables table.name) (subst (λ (n : ℕ). Every (Wide n) (tables table.name)) (some-is e) (rows-wide table [] h))
  tree_wide (Tree-F.IndexLoop on left places table columns) w e h env =
      let p = added-parts (width_of_tree left.0) (Some table.width) w e in
      subst (λ (n : ℕ). Every (Wide n)
      (keyed_join (truth_by (outcome_step tables) on.0) env (matching places columns (tables table.name)) []
      (tree_outcome tables left.0 env)).rows) p.4
      (keyed-wide p.0 p.1 (truth_by (outcome_step tables) on.0) env (matching places columns (tables table.name)) []
      (tree_outcome tables left.0 env)
      (left.1 p.0 p.2 (of-left (stored_in_condition on.0) (stored_in_tree left.0) (table ∷ []) h) env)
      (λ row. every-filter (Wide p.1) _ (tables table.name)
      (subst (λ (n : ℕ). Every (Wide n) (tables table.name)) (some-is p.3)
      (rows-wide table [] (of-right (stored_in_condition on.0) (stored_in_tree left.0) (table ∷ []) h)))))
  tree_wide (Tree-F.HashJoin on left right left_places right_places) w e h env =
      let p = added-parts (width_of_tree left.0) (width_of_tree right.0) w e in
      subst (λ (n : ℕ). Every (Wide n)
      (keyed_join (truth_by (outcome_step tables) on.0) env
      (matching left_places right_places (tree_outcome tables right.0 env).rows)
      (tree_outcome tables right.0 env).faults (tree_outcome tables left.0 env)).rows) p.4
      (keyed-wide p.0 p.1 (truth_by (outcome_step tables) on.0) env
      (matching left_places right_places (tree_outcome tables right.0 env).rows)
      (tree_outcome tables right.0 env).faults (tree_outcome tables left.0 env)
      (left.1 p.0 p.2 (of-left (stored_in_condition on.0) (stored_in_tree left.0) (stored_in_tree right.0) h) env)
      (λ row. every-filter (Wide p.1) _ (tree_outcome tables right.0 env).rows
      (right.1 p.1 p.3 (of-right (stored_in_condition on.0) (stored_in_tree left.0) (stored_in_tree right.0) h)
      env)))
  tree_wide (Tree-F.Member operand is_negated members rows) w e h env =
      through-wide (tree_outcome tables rows.0 env)
      (kept (is_member (value_by (outcome_step tables) operand.0) is_negated (tree_outcome tables members.0 env))
      env) w
      (kept-wide w (is_member (value_by (outcome_step tables) operand.0) is_negated (tree_outcome tables members.0 env))
      env (tree_outcome tables rows.0 env).rows
      (rows.1 w e (of-right (stored_in_expression operand.0) (stored_in_tree members.0) (stored_in_tree rows.0) h)
      env))

  tree_node : (x : Node Tree-F) (y : Parts Tree-F) → tree_of y ≡ x → IsWide (roll-Tree x)
  tree_node x y is = subst (λ (z : Node Tree-F). IsWide (roll-Tree z)) is
      (λ w e h env. subst (λ (m : TreeMeaning). Every (Wide w) (m env).rows)
      (sym (tree_rolled (outcome_step tables) (tree_of y)))
      (tree_wide y w (sym (width_be (tree_of y)) ∙ e) (subst (HasAll tables) (stored_be (tree_of y)) h) env))

  pub trees-wide : (tree : Tree) → IsWide tree
  trees-wide = ind-Tree (λ x. Unit {0}) (λ x. Unit {0}) (λ x. Unit {0}) IsWide (λ x y is. tt) (λ x y is. tt)
      (λ x y is. tt) tree_node
