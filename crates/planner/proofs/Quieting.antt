-- What moves conditions down makes none that may raise of those that may not.
use Rattle.std.proofs.Common.{◌≡◌, refl, ap, sym, ◌∙◌, subst, ℕ, Bool, true, false, not, List, [], ◌∷◌, ◌++◌, map, Some, rules}
use Rattle.std.proofs.lemmas.Bool.{false≢true}
use Rattle.std.specs.List.{list_all, list_any}
use Rattle.std.specs.Prelude.{◌&&◌, ◌||◌, filter, option_and_then}
use Rattle.algebra.specs.Raising.{some_may, condition_may_raise, expression_may_raise, function_may_raise, tree_may_raise}
use Rattle.algebra.specs.declared.tree.Condition.{Condition, out-Condition, the_lemmas}
use Rattle.algebra.specs.declared.tree.Condition.TheVariants as c
use Rattle.algebra.specs.declared.tree.Tree.{Tree, Tree-F, roll-Tree}
use Rattle.algebra.specs.declared.tree.Tree.TheVariants as t
use Rattle.rewrite_laws.proofs.Conditions.{Denials, all-filtered, conjuncts-quiet, filter-passes, moved-quiet}
use Rattle.rewrite_laws.proofs.Found.{filter-found, given-found, left-rolled, node-found, product-found, some-is, some-made, then-found}
use Rattle.rules.specs.Applied.{here}
use Rattle.rules.specs.Columns.{from_right, in_left, in_right, names_only}
use Rattle.rules.specs.Conjuncts.{and_of, conjuncts, filtered, others, quiet}
use Rattle.rules.specs.FilterRules.{filter_below_product, filter_left_of_left_join, left_at, left_filtered, left_of, of_both, on_right, right_of, sides_filtered, split, split_filter}
use Rattle.rules.specs.JoinRules.{fails_on_nulls, inner_below, left_to_inner, on_divided, on_into_right_side, right_filtered}
use Rattle.rules.specs.Nodes.{Node, given}
use Rattle.rules.specs.Quiet.{conditions_quiet}
use Rattle.rules.specs.Width.{width_of_tree}
use Rattle.rules.specs.declared.rule.Rule.{Rule}
use Rattle.rules.specs.declared.rule.Rule.TheVariants as by
use Rattle.same_laws.proofs.Moved.{and_true}
use Rattle.planner.proofs.QuietNodes.{tree_filter, tree_inner, tree_left, tree_product}
use Rattle.planner.specs.Led.{IsCalm, keeps_calm}
use Rattle.planner.proofs.Walked.{never-calm}

both-hold : (a b : Bool) → a ≡ true → b ≡ true → (a && b) ≡ true
both-hold a b p q = λ i. p i && q i

-- ---- conditions put together

may-and : (operands : List Condition) → condition_may_raise (c.And operands) ≡ some_may (map condition_may_raise operands)
unfolding condition_may_raise expression_may_raise function_may_raise tree_may_raise
may-and operands = search (rules, the_lemmas)

none-may : (conditions : List Condition) → list_all quiet conditions ≡ true
    → not (some_may (map condition_may_raise conditions)) ≡ true
none-may [] e = refl
none-may (condition ∷ conditions) e = at (condition_may_raise condition) (and_true (quiet condition) (list_all quiet conditions) e)
    (λ f. none-may conditions f)
  where
    at : (b : Bool) → (not b ≡ true) × (list_all quiet conditions ≡ true)
        → (list_all quiet conditions ≡ true → not (some_may (map condition_may_raise conditions)) ≡ true)
        → not (b || some_may (map condition_may_raise conditions)) ≡ true
    at true h rest = absurd (false≢true h.0)
    at false h rest = rest h.1

and-quiet : (conditions : List Condition) → list_all quiet conditions ≡ true → quiet (c.And conditions) ≡ true
and-quiet conditions e = ap not (may-and conditions) ∙ none-may conditions e

pub and-of-quiet : (conditions : List Condition) → list_all quiet conditions ≡ true → quiet (and_of conditions) ≡ true
and-of-quiet [] e = and-quiet [] e
and-of-quiet (condition ∷ []) e = (and_true (quiet condition) true e).0
and-of-quiet (first ∷ (second ∷ rest)) e = and-quiet (first ∷ (second ∷ rest)) e

filter-calm : (condition : Condition) (rows : Tree) → quiet condition ≡ true → conditions_quiet rows ≡ true
    → conditions_quiet (t.Filter condition rows) ≡ true
filter-calm condition rows e f = tree_filter condition rows ∙ both-hold (quiet condition) (conditions_quiet rows) e f

filtered-calm : (conditions : List Condition) (rows : Tree) → list_all quiet conditions ≡ true → conditions_quiet rows ≡ true
    → conditions_quiet (filtered conditions rows) ≡ true
filtered-calm [] rows e f = f
filtered-calm (first ∷ rest) rows e f = filter-calm (and_of (first ∷ rest)) rows (and-of-quiet (first ∷ rest) e) f

left-calm : (on : Condition) (left right : Tree) (width : ℕ) → quiet on ≡ true → conditions_quiet left ≡ true
    → conditions_quiet right ≡ true → conditions_quiet (t.Left on left right width) ≡ true
left-calm on left right width e f g = tree_left on left right width
    ∙ both-hold (quiet on) (conditions_quiet left && conditions_quiet right) e
    (both-hold (conditions_quiet left) (conditions_quiet right) f g)

-- ---- nodes taken apart

filter-parts : (condition : Condition) (rows : Tree) → conditions_quiet (t.Filter condition rows) ≡ true
    → (quiet condition ≡ true) × (conditions_quiet rows ≡ true)
filter-parts condition rows e = and_true (quiet condition) (conditions_quiet rows) (sym (tree_filter condition rows) ∙ e)

product-parts : (left right : Tree) → conditions_quiet (t.Product left right) ≡ true
    → (conditions_quiet left ≡ true) × (conditions_quiet right ≡ true)
product-parts left right e = and_true (conditions_quiet left) (conditions_quiet right) (sym (tree_product left right) ∙ e)

left-parts : (on : Condition) (left right : Tree) (width : ℕ) → conditions_quiet (t.Left on left right width) ≡ true
    → (quiet on ≡ true) × ((conditions_quiet left ≡ true) × (conditions_quiet right ≡ true))
left-parts on left right width e =
    let h = and_true (quiet on) (conditions_quiet left && conditions_quiet right) (sym (tree_left on left right width) ∙ e) in
    (h.0, and_true (conditions_quiet left) (conditions_quiet right) h.1)

module _ (denied : Denials) where
  -- conditions of one side, moved to it
  right-quiet : (w : ℕ) (conditions : List Condition)
      → list_all quiet (on_right w (filter (names_only (in_right w)) conditions)) ≡ true
  right-quiet w conditions = moved-quiet denied (in_right w) (from_right w) (filter (names_only (in_right w)) conditions)
      (filter-passes (names_only (in_right w)) conditions)

  -- ---- Q2

  sides-calm : (conditions : List Condition) (left right : Tree) (w : ℕ) → list_all quiet conditions ≡ true
      → conditions_quiet left ≡ true → conditions_quiet right ≡ true
      → conditions_quiet (filtered (of_both w conditions) (t.Product (filtered (left_of w conditions) left)
      (filtered (on_right w (right_of w conditions)) right))) ≡ true
  sides-calm conditions left right w e f g =
      let past = all-filtered quiet (λ (x : Condition). not (names_only (in_left w) x)) conditions e in
      filtered-calm (of_both w conditions) (t.Product (filtered (left_of w conditions) left)
      (filtered (on_right w (right_of w conditions)) right))
      (all-filtered quiet (λ (x : Condition). not (names_only (in_right w) x)) (others (names_only (in_left w)) conditions) past)
      (tree_product (filtered (left_of w conditions) left) (filtered (on_right w (right_of w conditions)) right)
      ∙ both-hold (conditions_quiet (filtered (left_of w conditions) left))
      (conditions_quiet (filtered (on_right w (right_of w conditions)) right))
      (filtered-calm (left_of w conditions) left (all-filtered quiet (names_only (in_left w)) conditions e) f)
      (filtered-calm (on_right w (right_of w conditions)) right
      (right-quiet w (others (names_only (in_left w)) conditions)) g))

  below-calm : (tree new : Tree) → filter_below_product true tree ≡ Some new → conditions_quiet tree ≡ true
      → conditions_quiet new ≡ true
  below-calm tree new e = filter-found (λ (z : Tree). conditions_quiet z ≡ true → conditions_quiet new ≡ true) new _ tree e
      (λ condition rows f. product-found (λ (z : Tree). conditions_quiet (t.Filter condition z) ≡ true → conditions_quiet new ≡ true)
      new _ rows f (λ left right g h. at condition left right g (filter-parts condition (t.Product left right) h)))
    where
      at : (condition : Condition) (left right : Tree) → given (true && quiet condition)
          (option_and_then (sides_filtered (conjuncts condition) left right) (width_of_tree left)) ≡ Some new
          → (quiet condition ≡ true) × (conditions_quiet (t.Product left right) ≡ true) → conditions_quiet new ≡ true
      at condition left right g h =
          let found = then-found (sides_filtered (conjuncts condition) left right) (width_of_tree left) new
          (given-found (true && quiet condition)
          (option_and_then (sides_filtered (conjuncts condition) left right) (width_of_tree left)) new g).1 in
          let sides = product-parts left right h.1 in
          subst (λ (z : Tree). conditions_quiet z ≡ true)
          (some-made (left_of found.0 (conjuncts condition) ++ right_of found.0 (conjuncts condition))
          (filtered (of_both found.0 (conjuncts condition)) (t.Product (filtered (left_of found.0 (conjuncts condition)) left)
          (filtered (on_right found.0 (right_of found.0 (conjuncts condition))) right))) new found.2)
          (sides-calm (conjuncts condition) left right found.0 (conjuncts-quiet condition h.0) sides.0 sides.1)

  -- ---- Q3

  to-left-calm : (conditions : List Condition) (on : Condition) (left right : Tree) (width w : ℕ)
      → list_all quiet conditions ≡ true → quiet on ≡ true → conditions_quiet left ≡ true → conditions_quiet right ≡ true
      → conditions_quiet (filtered (others (names_only (in_left w)) conditions)
      (t.Left on (filtered (left_of w conditions) left) right width)) ≡ true
  to-left-calm conditions on left right width w e f g h =
      filtered-calm (others (names_only (in_left w)) conditions) (t.Left on (filtered (left_of w conditions) left) right width)
      (all-filtered quiet (λ (x : Condition). not (names_only (in_left w) x)) conditions e)
      (left-calm on (filtered (left_of w conditions) left) right width f
      (filtered-calm (left_of w conditions) left (all-filtered quiet (names_only (in_left w)) conditions e) g) h)

  left-made : (condition on : Condition) (left right new : Tree) (width : ℕ) → given (true && (quiet condition && quiet on))
      (option_and_then (left_filtered (conjuncts condition) on left right width) (width_of_tree left)) ≡ Some new
      → conditions_quiet (t.Filter condition (t.Left on left right width)) ≡ true → conditions_quiet new ≡ true
  left-made condition on left right new width g h =
      let found = then-found (left_filtered (conjuncts condition) on left right width) (width_of_tree left) new
      (given-found (true && (quiet condition && quiet on))
      (option_and_then (left_filtered (conjuncts condition) on left right width) (width_of_tree left)) new g).1 in
      let parts = filter-parts condition (t.Left on left right width) h in
      let sides = left-parts on left right width parts.1 in
      subst (λ (z : Tree). conditions_quiet z ≡ true)
      (some-made (left_of found.0 (conjuncts condition)) (filtered (others (names_only (in_left found.0)) (conjuncts condition))
      (t.Left on (filtered (left_of found.0 (conjuncts condition)) left) right width)) new found.2)
      (to-left-calm (conjuncts condition) on left right width found.0 (conjuncts-quiet condition parts.0) sides.0
      sides.1.0 sides.1.1)

  left-of-calm : (tree new : Tree) → filter_left_of_left_join true tree ≡ Some new → conditions_quiet tree ≡ true
      → conditions_quiet new ≡ true
  left-of-calm tree new e = filter-found (λ (z : Tree). conditions_quiet z ≡ true → conditions_quiet new ≡ true) new _ tree e
      (λ condition rows f. node-found (λ (z : Tree). conditions_quiet (t.Filter condition z) ≡ true → conditions_quiet new ≡ true)
      new (left_at true condition) rows f (at condition))
    where
      at : (condition : Condition) (d : Node Tree-F) → left_at true condition d ≡ Some new
          → conditions_quiet (t.Filter condition (roll-Tree d)) ≡ true → conditions_quiet new ≡ true
      at condition (Tree-F.Left on left right width) g =
          subst (λ (z : Tree). conditions_quiet (t.Filter condition z) ≡ true → conditions_quiet new ≡ true)
          (left-rolled on left right width) (left-made condition on left right new width g)
      at condition _ g = absurd (cc (g))

  -- ---- Q4

  divided : (on : Condition) (left right new : Tree) (width : ℕ) → given (quiet on)
      (option_and_then (right_filtered (conjuncts on) left right width) (width_of_tree left)) ≡ Some new
      → conditions_quiet (t.Left on left right width) ≡ true → conditions_quiet new ≡ true
  divided on left right new width g h =
      let found = then-found (right_filtered (conjuncts on) left right width) (width_of_tree left) new
      (given-found (quiet on) (option_and_then (right_filtered (conjuncts on) left right width) (width_of_tree left)) new g).1 in
      let parts = left-parts on left right width h in
      let goes = filter (names_only (in_right found.0)) (conjuncts on) in
      let stay = others (names_only (in_right found.0)) (conjuncts on) in
      subst (λ (z : Tree). conditions_quiet z ≡ true)
      (some-made goes (t.Left (and_of stay) left (t.Filter (and_of (on_right found.0 goes)) right) width) new found.2)
      (left-calm (and_of stay) left (t.Filter (and_of (on_right found.0 goes)) right) width
      (and-of-quiet stay (all-filtered quiet (λ (x : Condition). not (names_only (in_right found.0) x)) (conjuncts on)
      (conjuncts-quiet on parts.0))) parts.1.0
      (filter-calm (and_of (on_right found.0 goes)) right
      (and-of-quiet (on_right found.0 goes) (right-quiet found.0 (conjuncts on))) parts.1.1))

  divided-calm : (tree new : Tree) → on_into_right_side tree ≡ Some new → conditions_quiet tree ≡ true
      → conditions_quiet new ≡ true
  divided-calm tree new e = node-found (λ (z : Tree). conditions_quiet z ≡ true → conditions_quiet new ≡ true)
      new on_divided tree e at
    where
      at : (d : Node Tree-F) → on_divided d ≡ Some new → conditions_quiet (roll-Tree d) ≡ true → conditions_quiet new ≡ true
      at (Tree-F.Left on left right width) g =
          subst (λ (z : Tree). conditions_quiet z ≡ true → conditions_quiet new ≡ true)
          (left-rolled on left right width) (divided on left right new width g)
      at _ g = absurd (cc (g))

  -- ---- Q7

  unpadded : (condition on : Condition) (left right new : Tree) (width : ℕ)
      → inner_below condition (Tree-F.Left on left right width) ≡ Some new
      → conditions_quiet (t.Filter condition (t.Left on left right width)) ≡ true → conditions_quiet new ≡ true
  unpadded condition on left right new width g h =
      let fails = λ (w : ℕ). given (list_any (λ conjunct. fails_on_nulls w (out-Condition conjunct)) (conjuncts condition))
      (Some (t.Filter condition (t.Inner on left right))) in
      let found = then-found fails (width_of_tree left) new
      (given-found (quiet condition) (option_and_then fails (width_of_tree left)) new g).1 in
      let made = given-found (list_any (λ conjunct. fails_on_nulls found.0 (out-Condition conjunct)) (conjuncts condition))
      (Some (t.Filter condition (t.Inner on left right))) new found.2 in
      let parts = filter-parts condition (t.Left on left right width) h in
      let sides = left-parts on left right width parts.1 in
      subst (λ (z : Tree). conditions_quiet z ≡ true) (some-is made.1)
      (filter-calm condition (t.Inner on left right) parts.0
      (tree_inner on left right ∙ both-hold (quiet on) (conditions_quiet left && conditions_quiet right) sides.0
      (both-hold (conditions_quiet left) (conditions_quiet right) sides.1.0 sides.1.1)))

  unpadded-calm : (tree new : Tree) → left_to_inner tree ≡ Some new → conditions_quiet tree ≡ true
      → conditions_quiet new ≡ true
  unpadded-calm tree new e = filter-found (λ (z : Tree). conditions_quiet z ≡ true → conditions_quiet new ≡ true) new _ tree e
      (λ condition rows f. node-found (λ (z : Tree). conditions_quiet (t.Filter condition z) ≡ true → conditions_quiet new ≡ true)
      new (inner_below condition) rows f (at condition))
    where
      at : (condition : Condition) (d : Node Tree-F) → inner_below condition d ≡ Some new
          → conditions_quiet (t.Filter condition (roll-Tree d)) ≡ true → conditions_quiet new ≡ true
      at condition (Tree-F.Left on left right width) g =
          subst (λ (z : Tree). conditions_quiet (t.Filter condition z) ≡ true → conditions_quiet new ≡ true)
          (left-rolled on left right width) (unpadded condition on left right new width g)
      at condition _ g = absurd (cc (g))

  -- ---- Q1

  both-calm : (conditions : List Condition) (rows new : Tree) → split conditions rows ≡ Some new
      → list_all quiet conditions ≡ true → conditions_quiet rows ≡ true → conditions_quiet new ≡ true
  both-calm [] rows new e q h = absurd (cc (e))
  both-calm (first ∷ []) rows new e q h = absurd (cc (e))
  both-calm (first ∷ (second ∷ rest)) rows new e q h =
      let node = t.Filter (and_of (second ∷ rest)) (t.Filter first rows) in
      let made = given-found (list_all quiet (second ∷ rest)) (Some node) new e in
      let both = and_true (quiet first) (list_all quiet (second ∷ rest)) q in
      subst (λ (z : Tree). conditions_quiet z ≡ true) (some-is made.1)
      (filter-calm (and_of (second ∷ rest)) (t.Filter first rows) (and-of-quiet (second ∷ rest) both.1)
      (filter-calm first rows both.0 h))

  split-calm : (tree new : Tree) → split_filter tree ≡ Some new → conditions_quiet tree ≡ true → conditions_quiet new ≡ true
  split-calm tree new e = filter-found (λ (z : Tree). conditions_quiet z ≡ true → conditions_quiet new ≡ true) new
      (λ condition rows. split (conjuncts condition) rows) tree e
      (λ condition rows f h. let parts = filter-parts condition rows h in
      both-calm (conjuncts condition) rows new f (conjuncts-quiet condition parts.0) parts.1)

  moved-calm : (rule : Rule) → keeps_calm rule ≡ true → (tree new : Tree) → here true rule tree ≡ Some new
      → conditions_quiet tree ≡ true → conditions_quiet new ≡ true
  moved-calm by.FilterBelowProduct m = below-calm
  moved-calm by.FilterLeftOfLeftJoin m = left-of-calm
  moved-calm by.OnIntoRightSide m = divided-calm
  moved-calm by.LeftToInner m = unpadded-calm
  moved-calm by.SplitFilter m = split-calm
  moved-calm _ m = absurd (false≢true m)

  pub stays-calm : (calm : Bool) (rule : Rule) → keeps_calm rule ≡ true → (tree new : Tree) → here calm rule tree ≡ Some new
      → IsCalm calm tree → IsCalm calm new
  stays-calm true rule m tree new e h = λ f. moved-calm rule m tree new e (h refl)
  stays-calm false rule m tree new e h = never-calm new
