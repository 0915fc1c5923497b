-- Q4 to Q7: what each makes of a node may stand for it.
use Rattle.algebra.specs.TreeOutcome.{outcome_step, tree_truth}
use Rattle.algebra.specs.declared.tree.Condition.{Condition, out-Condition}
use Rattle.algebra.specs.declared.tree.Tree.{Tree, Tree-F, roll-Tree, out-Tree}
use Rattle.denote.specs.Evaluation.{Env, Evaluation}
use Rattle.denote.specs.Meaning.{Tables}
use Rattle.operator_laws.specs.Law.{is_true}
use Rattle.rewrite_laws.proofs.Conditions.{stands, and-of, conjuncts-alike, all-filtered, filter-passes, filter-among, and-among, Denials, conjuncts-quiet, quiet-is, and-quiet, and-true-all, moved-quiet, moved-among}
use Rattle.rewrite_laws.proofs.Conjunctions.{AllQuiet, all-value, true-all}
use Rattle.rewrite_laws.proofs.Filtered.{joined-keeps, product-joined, parted-true}
use Rattle.rewrite_laws.proofs.Found.{some-is, given-found, then-found, some-made, product-rolled, inner-rolled, left-rolled, node-found, filter-found, product-found, inner-found, chain, width-product}
use Rattle.rewrite_laws.proofs.JoinTrees.{q5, q4, inner-divided, q6, q7}
use Rattle.rewrite_laws.proofs.Nulls.{fails-on-nulls}
use Rattle.rewrite_laws.proofs.Sides.{Quiet, all-see-left, all-see-right}
use Rattle.rules.proofs.StoredNodes.{condition_and}
use Rattle.rules.specs.Columns.{names_only, in_left, in_right, from_right}
use Rattle.rules.specs.Conjuncts.{joined, conjuncts, quiet, others, and_of}
use Rattle.rules.specs.FilterRules.{on_right}
use Rattle.rules.specs.JoinRules.{right_filtered, on_divided, on_into_right_side, product_to_inner, regrouped, regroup_by, regrouped_at, regroup_inner, fails_on_nulls, inner_below, left_to_inner}
use Rattle.rules.specs.Nodes.{Node, given, at_product}
use Rattle.rules.specs.Same.{AreAmong, Keeps}
use Rattle.rules.specs.Stored.{StoredTables, all_stored, stored_in_condition}
use Rattle.rules.specs.Width.{width_of_tree, added}
use Rattle.same_laws.proofs.Composed.{among-refl, among-two, keeps-refl, condition-refl, filter-keeps, inner-keeps, left-keeps}
use Rattle.same_laws.proofs.Moved.{and_true}
use Rattle.sqlval.specs.declared.truth.Truth.{Truth}
use Rattle.std.proofs.Common.{◌≡◌, refl, sym, subst, ap, ◌∙◌, ℕ, Bool, List, [], ◌∷◌, ◌++◌, map, true, false, not, ◌&&◌, append_assoc, Some}
use Rattle.std.proofs.lemmas.List.Elements.{Contains-append_left}
use Rattle.std.specs.List.{list_any, list_all}
use Rattle.std.specs.Prelude.{◌+◌, Contains, filter, option_and_then}
use Rattle.algebra.specs.declared.tree.Condition.TheVariants as c
use Rattle.rules.proofs.StoredNodes as known
use Rattle.algebra.proofs.Nodes as means
use Rattle.algebra.specs.declared.tree.Tree.TheVariants as t

-- the same condition with its conjuncts in another list
regroup-truth : (a s l : Bool) → (a && (l && s)) ≡ (l && (a && s))
regroup-truth true s l = refl
regroup-truth false s true = refl
regroup-truth false s false = refl

all-append : {X : Type 0} (p : X → Bool) (xs ys : List X) → list_all p (xs ++ ys) ≡ (list_all p xs && list_all p ys)
all-append p [] ys = refl
all-append p (x ∷ xs) ys = ap (λ b. p x && b) (all-append p xs ys) ∙ at (p x)
  where
    at : (b : Bool) → (b && (list_all p xs && list_all p ys)) ≡ ((b && list_all p xs) && list_all p ys)
    at true = refl
    at false = refl

all-both : {X : Type 0} (p : X → Bool) (xs ys : List X) → list_all p xs ≡ true → list_all p ys ≡ true
    → list_all p (xs ++ ys) ≡ true
all-both p xs ys h k = all-append p xs ys ∙ (λ i. h i && k i)

stored-append : (xs ys : List Condition)
    → all_stored (map stored_in_condition (xs ++ ys)) ≡ all_stored (map stored_in_condition xs) ++ all_stored
    (map stored_in_condition ys)
stored-append [] ys = refl
stored-append (x ∷ xs) ys = ap (λ rest. stored_in_condition x ++ rest) (stored-append xs ys)
    ∙ sym (append_assoc (stored_in_condition x) (all_stored (map stored_in_condition xs))
    (all_stored (map stored_in_condition ys)))

module _ (denied : Denials) where
  -- ---- Q4

  pub right-keep : (on : Condition) (l r : Tree) (width w : ℕ) (new : Tree) → quiet on ≡ true → width_of_tree l ≡ Some w
      → right_filtered (conjuncts on) l r width w ≡ Some new → Keeps new (t.Left on l r width)
  right-keep on l r width w new calm wide e =
      let all = conjuncts on in
      let goes = filter (names_only (in_right w)) all in
      let stays = others (names_only (in_right w)) all in
      let calm-all = conjuncts-quiet on calm in
      let names = filter-passes (names_only (in_right w)) all in
      let own = c.And (on_right w goes) in
      let made = t.Left (and_of stays) l (t.Filter (and_of (on_right w goes)) r) width in
      subst (λ (z : Tree). Keeps z (t.Left on l r width)) (some-made goes made new e)
      (chain (left-keeps (and_of stays) (c.And stays) l l (t.Filter (and_of (on_right w goes)) r) (t.Filter own r)
      (stands (and_of stays) (c.And stays) (and-of stays)) (keeps-refl l)
      (filter-keeps (and_of (on_right w goes)) own r r
      (stands (and_of (on_right w goes)) own (and-of (on_right w goes))) (keeps-refl r)) width)
      (chain (q4 (c.And all) own (c.And stays) l r w wide (and-quiet denied all calm-all)
      (and-quiet denied stays (all-filtered quiet (λ x. not (names_only (in_right w) x)) all calm-all))
      (and-quiet denied (on_right w goes) (moved-quiet denied (in_right w) (from_right w) goes names))
      (λ tables x y env long. parted-true denied (names_only (in_right w)) all calm-all tables ((x ++ y) ∷ env)
      ∙ ap (λ (v : Evaluation Truth). is_true v && is_true (tree_truth tables (c.And stays) ((x ++ y) ∷ env)))
      (all-see-right goes w names tables x y env long))
      (moved-among (in_right w) (from_right w) goes (stored_in_condition (c.And all)) names)
      (and-among (λ x. not (names_only (in_right w) x)) all) width)
      (left-keeps (c.And all) on l l r r (stands (c.And all) on (conjuncts-alike on)) (keeps-refl l)
      (keeps-refl r) width)))

  pub on_into_right_side-keeps : (old new : Tree) → on_into_right_side old ≡ Some new → Keeps new old
  on_into_right_side-keeps old new e = node-found (Keeps new) new on_divided old e at
    where
      at : (d : Node Tree-F) → on_divided d ≡ Some new → Keeps new (roll-Tree d)
      at (Tree-F.Left on left right width) f =
          let h = given-found (quiet on)
          (option_and_then (right_filtered (conjuncts on) left right width) (width_of_tree left)) new f in
          let w = then-found (right_filtered (conjuncts on) left right width) (width_of_tree left) new h.1 in
          subst (Keeps new) (left-rolled on left right width) (right-keep on left right width w.0 new h.0 w.1 w.2)
      at _ f = absurd (cc (f))

  -- ---- Q7

  pub left_to_inner-keeps : (old new : Tree) → left_to_inner old ≡ Some new → Keeps new old
  left_to_inner-keeps old new e = filter-found (Keeps new) new (λ condition rows. inner_below condition (out-Tree rows))
      old e
      (λ condition rows f. node-found (λ rows. Keeps new (t.Filter condition rows)) new (inner_below condition) rows f
      (at condition))
    where
      at : (condition : Condition) (d : Node Tree-F) → inner_below condition d ≡ Some new
          → Keeps new (t.Filter condition (roll-Tree d))
      at condition (Tree-F.Left on left right width) f =
          let make = λ (w : ℕ). given
          (list_any (λ conjunct. fails_on_nulls w (out-Condition conjunct)) (conjuncts condition))
          (Some (t.Filter condition (t.Inner on left right))) in
          let h = given-found (quiet condition) (option_and_then make (width_of_tree left)) new f in
          let w = then-found make (width_of_tree left) new h.1 in
          let k = given-found (list_any (λ conjunct. fails_on_nulls w.0 (out-Condition conjunct)) (conjuncts condition))
          (Some (t.Filter condition (t.Inner on left right))) new w.2 in
          subst (λ (z : Tree). Keeps new (t.Filter condition z)) (left-rolled on left right width)
          (subst (λ (z : Tree). Keeps z (t.Filter condition (t.Left on left right width))) (some-is k.1)
          (q7 condition on left right width w.0 w.1 (quiet-is denied condition h.0)
          (fails-on-nulls condition w.0 width k.0)))
      at condition _ f = absurd (cc (f))

  -- ---- Q6

  module _ (above : Condition) (below : List Condition) (a b d : Tree) (w v : ℕ) (wide-a : width_of_tree a ≡ Some w)
      (wide-b : width_of_tree b ≡ Some v)
      (calm-above : quiet above ≡ true) (calm-below : list_all quiet below ≡ true)
      (names : list_all (names_only (in_left (w + v))) below ≡ true) where
    abbrev all : List Condition
    all = conjuncts above

    abbrev low : List Condition
    low = filter (names_only (in_right w)) all

    abbrev stays : List Condition
    stays = others (names_only (in_right w)) all

    abbrev top : List Condition
    top = below ++ stays

    abbrev both-of : Condition
    both-of = c.And (c.And below ∷ c.And all ∷ [])

    calm-all : list_all quiet all ≡ true
    calm-all = conjuncts-quiet above calm-above

    calm-stays : list_all quiet stays ≡ true
    calm-stays = all-filtered quiet (λ x. not (names_only (in_right w) x)) all calm-all

    low-names : list_all (names_only (in_right w)) low ≡ true
    low-names = filter-passes (names_only (in_right w)) all

    wide-both : width_of_tree (t.Product a b) ≡ Some (w + v)
    wide-both = width-product a b ∙ (λ i. added (wide-a i) (wide-b i))

    two-values : (tables : Tables) (env : Env) → AllQuiet tables env (c.And below ∷ c.And all ∷ [])
    two-values tables env = (
      and-quiet denied below calm-below tables env,
      (and-quiet denied all calm-all tables env, tt),
    )

    both-quiet : Quiet both-of
    both-quiet tables env =
        let value = all-value tables env (c.And below ∷ c.And all ∷ []) (two-values tables env) in
        (value.0, means.truth_and (outcome_step tables) (c.And below ∷ c.And all ∷ []) env ∙ value.1)

    abbrev True-at : Tables → Env → Condition → Bool
    True-at tables env condition = is_true (tree_truth tables condition env)

    both-true-all : (tables : Tables) (env : Env)
        → True-at tables env both-of ≡ (True-at tables env (c.And below) && (True-at tables env (c.And all) && true))
    both-true-all tables env =
        ap is_true (means.truth_and (outcome_step tables) (c.And below ∷ c.And all ∷ []) env)
        ∙ true-all tables env (c.And below ∷ c.And all ∷ []) (two-values tables env)

    top-true : (tables : Tables) (env : Env)
        → True-at tables env (c.And top) ≡ (True-at tables env (c.And below) && True-at tables env (c.And stays))
    top-true tables env =
        and-true-all denied top (all-both quiet below stays calm-below calm-stays) tables env
        ∙ all-append (True-at tables env) below stays
        ∙ (λ i. sym (and-true-all denied below calm-below tables env) i && sym
        (and-true-all denied stays calm-stays tables env) i)

    parts : (tables : Tables) (env : Env)
        → True-at tables env both-of ≡ (True-at tables env (c.And low) && True-at tables env (c.And top))
    parts tables env =
        both-true-all tables env
        ∙ ap (λ z. True-at tables env (c.And below) && z) (and-end (True-at tables env (c.And all))
        ∙ parted-true denied (names_only (in_right w)) all calm-all tables env)
        ∙ regroup-truth (True-at tables env (c.And below)) (True-at tables env (c.And stays))
        (True-at tables env (c.And low))
        ∙ ap (λ z. True-at tables env (c.And low) && z) (sym (top-true tables env))
      where
        and-end : (z : Bool) → (z && true) ≡ z
        and-end true = refl
        and-end false = refl

    top-among : AreAmong (stored_in_condition (c.And top)) (stored_in_condition both-of)
    top-among = rw (
      known.condition_and top,
      known.condition_and (c.And below ∷ c.And all ∷ []),
      stored-append below stays,
    )
        (among-two (all_stored (map stored_in_condition below)) (stored_in_condition (c.And below))
        (all_stored (map stored_in_condition stays)) (stored_in_condition (c.And all) ++ [])
        (rw (known.condition_and below) (among-refl (all_stored (map stored_in_condition below))))
        (λ table there. Contains-append_left (stored_in_condition (c.And all)) [] table
        (subst (λ (z : StoredTables). Contains z table) (sym (known.condition_and all))
        (filter-among (λ x. not (names_only (in_right w) x)) all table there))))

    -- the joins by ANDs, regrouped
    by-and : Keeps (t.Inner (c.And top) a (t.Filter (c.And (on_right w low)) (t.Product b d)))
        (t.Inner (c.And all) (t.Inner (c.And below) a b) d)
    by-and = chain
        (inner-divided both-of (c.And (on_right w low)) (c.And top) a (t.Product b d) w wide-a both-quiet
        (and-quiet denied top (all-both quiet below stays calm-below calm-stays))
        (and-quiet denied (on_right w low) (moved-quiet denied (in_right w) (from_right w) low low-names))
        (λ tables x y env long. parts tables ((x ++ y) ∷ env)
        ∙ ap (λ (z : Evaluation Truth). is_true z && True-at tables ((x ++ y) ∷ env) (c.And top))
        (all-see-right low w low-names tables x y env long))
        (moved-among (in_right w) (from_right w) low (stored_in_condition both-of) low-names) top-among)
        (q6 (c.And all) (c.And below) a b d (w + v) wide-both (and-quiet denied all calm-all)
        (and-quiet denied below calm-below) (all-see-left below (w + v) names))

    pub regrouped-keeps : Keeps (regrouped all below a b d w) (t.Inner (c.And all) (t.Inner (c.And below) a b) d)
    regrouped-keeps =
        chain (joined-keeps top a (joined (on_right w low) b d))
        (chain (inner-keeps (c.And top) (c.And top) a a (joined (on_right w low) b d)
        (t.Filter (c.And (on_right w low)) (t.Product b d)) (condition-refl (c.And top)) (keeps-refl a)
        (chain (joined-keeps (on_right w low) b d) (q5 (c.And (on_right w low)) b d)))
        by-and)

  regroup-keep : (above : Condition) (below : List Condition) (a b d new lower : Tree)
      → Keeps (t.Inner (c.And below) a b) lower
      → regroup_by above below a b d ≡ Some new → Keeps new (t.Inner above lower d)
  regroup-keep above below a b d new lower same e =
      let inside = λ (w v : ℕ). given (list_all (names_only (in_left (w + v))) below)
      (Some (regrouped (conjuncts above) below a b d w)) in
      let h = given-found (quiet above && list_all quiet below)
      (option_and_then (λ w. option_and_then (inside w) (width_of_tree b)) (width_of_tree a)) new e in
      let q = and_true (quiet above) (list_all quiet below) h.0 in
      let w = then-found (λ w. option_and_then (inside w) (width_of_tree b)) (width_of_tree a) new h.1 in
      let v = then-found (inside w.0) (width_of_tree b) new w.2 in
      let n = given-found (list_all (names_only (in_left (w.0 + v.0))) below)
      (Some (regrouped (conjuncts above) below a b d w.0)) new v.2 in
      subst (λ (z : Tree). Keeps z (t.Inner above lower d)) (some-is n.1)
      (chain (regrouped-keeps above below a b d w.0 v.0 w.1 v.1 q.0 q.1 n.0)
      (inner-keeps (c.And (conjuncts above)) above (t.Inner (c.And below) a b) lower d d
      (stands (c.And (conjuncts above)) above (conjuncts-alike above)) same (keeps-refl d)))

  pub regroup_inner-keeps : (old new : Tree) → regroup_inner old ≡ Some new → Keeps new old
  regroup_inner-keeps old new e = inner-found (Keeps new) new (λ on left right. regrouped_at on right (out-Tree left))
      old e
      (λ on left right f. node-found (λ left. Keeps new (t.Inner on left right)) new (regrouped_at on right) left f
      (at on right))
    where
      at : (on : Condition) (right : Tree) (d : Node Tree-F) → regrouped_at on right d ≡ Some new
          → Keeps new (t.Inner on (roll-Tree d) right)
      at on right (Tree-F.Inner below a b) f = subst (λ (z : Tree). Keeps new (t.Inner on z right))
          (inner-rolled below a b)
          (regroup-keep on (conjuncts below) a b right new (t.Inner below a b)
          (inner-keeps (c.And (conjuncts below)) below a a b b
          (stands (c.And (conjuncts below)) below (conjuncts-alike below)) (keeps-refl a) (keeps-refl b)) f)
      at on right (Tree-F.Product a b) f = subst (λ (z : Tree). Keeps new (t.Inner on z right)) (product-rolled a b)
          (regroup-keep on [] a b right new (t.Product a b) (product-joined a b) f)
      at on right _ f = absurd (cc (f))

-- ---- Q5

pub product_to_inner-keeps : (old new : Tree) → product_to_inner old ≡ Some new → Keeps new old
product_to_inner-keeps old new e =
    filter-found (Keeps new) new
    (λ condition rows. at_product (λ left right. Some (t.Inner condition left right)) (out-Tree rows)) old e
    (λ condition rows f. product-found (λ rows. Keeps new (t.Filter condition rows)) new
    (λ left right. Some (t.Inner condition left right)) rows f
    (λ left right g. subst (λ (z : Tree). Keeps z (t.Filter condition (t.Product left right))) (some-is g)
    (q5 condition left right)))
