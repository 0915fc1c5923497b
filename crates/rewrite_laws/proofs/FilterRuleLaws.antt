-- Q1, Q2, Q3 and Q16: what each makes of a node may stand for it.
use Rattle.algebra.specs.Raising.{is_plain}
use Rattle.algebra.specs.declared.tree.Condition.{Condition}
use Rattle.algebra.specs.declared.tree.Tree.{Tree, Tree-F, roll-Tree, out-Tree}
use Rattle.rewrite_laws.proofs.Conditions.{Alike, alike-sym, stands, and-of, conjuncts-alike, all-filtered, filter-passes, Denials, conjuncts-quiet, quiet-is, plain-quiet, and-quiet, moved-quiet, moved-among}
use Rattle.rewrite_laws.proofs.FilterTrees.{q1, q2-left, q2-right, q3, q16}
use Rattle.rewrite_laws.proofs.Filtered.{filtered-keeps, conjuncts-filter, filter-parted}
use Rattle.rewrite_laws.proofs.Found.{some-is, given-found, then-found, some-made, left-rolled, node-found, filter-found, product-found, chain, width-filter}
use Rattle.rewrite_laws.proofs.Sides.{all-see-left, all-see-right}
use Rattle.rules.specs.Columns.{names_only, in_left, in_right, from_right}
use Rattle.rules.specs.Conjuncts.{conjuncts, quiet, others, and_of, filtered}
use Rattle.rules.specs.FilterRules.{split, split_filter, left_of, right_of, of_both, on_right, sides_filtered, filter_below_product, left_filtered, left_at, filter_left_of_left_join, not_false, tried_first, pre_filter}
use Rattle.rules.specs.Nodes.{Node, given, at_product}
use Rattle.rules.specs.Same.{Keeps}
use Rattle.rules.specs.Stored.{stored_in_condition}
use Rattle.rules.specs.Width.{width_of_tree}
use Rattle.same_laws.proofs.Composed.{keeps-refl, condition-refl, filter-keeps, product-keeps, left-keeps}
use Rattle.same_laws.proofs.Moved.{and_true}
use Rattle.std.proofs.Common.{◌≡◌, subst, ◌∙◌, ℕ, Bool, List, [], ◌∷◌, ◌++◌, true, not, ◌&&◌, Some}
use Rattle.std.specs.List.{list_all}
use Rattle.std.specs.Prelude.{option_and_then}
use Rattle.algebra.specs.declared.tree.Condition.TheVariants as c
use Rattle.algebra.specs.declared.tree.Tree.TheVariants as t

module _ (denied : Denials) where
  -- ---- Q1

  pub parted-keeps : (first second : Condition) (rest : List Condition) (rows : Tree)
      → list_all quiet (second ∷ rest) ≡ true
      → Keeps (t.Filter (and_of (second ∷ rest)) (t.Filter first rows))
      (t.Filter (c.And (first ∷ (second ∷ rest))) rows)
  parted-keeps first second rest rows calm =
      chain (filter-keeps (and_of (second ∷ rest)) (c.And (second ∷ rest)) (t.Filter first rows) (t.Filter first rows)
      (stands (and_of (second ∷ rest)) (c.And (second ∷ rest)) (and-of (second ∷ rest)))
      (keeps-refl (t.Filter first rows)))
      (q1 first (second ∷ rest) rows (and-quiet denied (second ∷ rest) calm))

  split-keeps : (conditions : List Condition) (rows new : Tree) → split conditions rows ≡ Some new
      → Keeps new (t.Filter (c.And conditions) rows)
  split-keeps [] rows new e = absurd (cc (e))
  split-keeps (first ∷ []) rows new e = absurd (cc (e))
  split-keeps (first ∷ (second ∷ rest)) rows new e =
      let h = given-found (list_all quiet (second ∷ rest))
      (Some (t.Filter (and_of (second ∷ rest)) (t.Filter first rows))) new e in
      subst (λ (z : Tree). Keeps z (t.Filter (c.And (first ∷ (second ∷ rest))) rows)) (some-is h.1)
      (parted-keeps first second rest rows h.0)

  pub split_filter-keeps : (old new : Tree) → split_filter old ≡ Some new → Keeps new old
  split_filter-keeps old new e = filter-found (Keeps new) new (λ condition rows. split (conjuncts condition) rows) old e
      (λ condition rows f. chain (split-keeps (conjuncts condition) rows new f) (conjuncts-filter condition rows))

  -- ---- Q2

  module _ (conditions : List Condition) (l r : Tree) (w : ℕ) (wide : width_of_tree l ≡ Some w)
      (calm : list_all quiet conditions ≡ true) where
    abbrev goes_left : List Condition
    goes_left = left_of w conditions

    abbrev past_left : List Condition
    past_left = others (names_only (in_left w)) conditions

    abbrev goes_right : List Condition
    goes_right = right_of w conditions

    abbrev above_left : Tree
    above_left = t.Filter (c.And goes_left) l

    abbrev above_right : Tree
    above_right = t.Filter (c.And (on_right w goes_right)) r

    past-calm : list_all quiet past_left ≡ true
    past-calm = all-filtered quiet (λ x. not (names_only (in_left w) x)) conditions calm

    left-below : Keeps (t.Product above_left r) (t.Filter (c.And goes_left) (t.Product l r))
    left-below = q2-left (c.And goes_left) l r w wide
        (all-see-left goes_left w (filter-passes (names_only (in_left w)) conditions))
        (and-quiet denied goes_left (all-filtered quiet (names_only (in_left w)) conditions calm))

    right-names : list_all (names_only (in_right w)) goes_right ≡ true
    right-names = filter-passes (names_only (in_right w)) past_left

    right-below : Keeps (t.Product above_left above_right) (t.Filter (c.And goes_right) (t.Product above_left r))
    right-below = q2-right (c.And goes_right) (c.And (on_right w goes_right)) above_left r w
        (width-filter (c.And goes_left) l ∙ wide)
        (all-see-right goes_right w right-names)
        (and-quiet denied goes_right (all-filtered quiet (names_only (in_right w)) past_left past-calm))
        (and-quiet denied (on_right w goes_right)
        (moved-quiet denied (in_right w) (from_right w) goes_right right-names))
        (moved-among (in_right w) (from_right w) goes_right (stored_in_condition (c.And goes_right)) right-names)

    -- one side after the other
    both-below : Keeps (t.Filter (c.And (of_both w conditions)) (t.Product above_left above_right))
        (t.Filter (c.And conditions) (t.Product l r))
    both-below =
        chain (filter-keeps (c.And (of_both w conditions)) (c.And (of_both w conditions))
        (t.Product above_left above_right) (t.Filter (c.And goes_right) (t.Product above_left r))
        (condition-refl (c.And (of_both w conditions))) right-below)
        (chain (filter-parted denied (names_only (in_right w)) past_left past-calm (t.Product above_left r))
        (chain (filter-keeps (c.And past_left) (c.And past_left) (t.Product above_left r)
        (t.Filter (c.And goes_left) (t.Product l r)) (condition-refl (c.And past_left)) left-below)
        (filter-parted denied (names_only (in_left w)) conditions calm (t.Product l r))))

    pub sides-keep : (new : Tree) → sides_filtered conditions l r w ≡ Some new
        → Keeps new (t.Filter (c.And conditions) (t.Product l r))
    sides-keep new e =
        let made = t.Product (filtered goes_left l) (filtered (on_right w goes_right) r) in
        subst (λ (z : Tree). Keeps z (t.Filter (c.And conditions) (t.Product l r)))
        (some-made (goes_left ++ goes_right) (filtered (of_both w conditions) made) new e)
        (chain (filtered-keeps (of_both w conditions) made)
        (chain (filter-keeps (c.And (of_both w conditions)) (c.And (of_both w conditions)) made
        (t.Product above_left above_right) (condition-refl (c.And (of_both w conditions)))
        (product-keeps (filtered goes_left l) above_left (filtered (on_right w goes_right) r) above_right
        (filtered-keeps goes_left l) (filtered-keeps (on_right w goes_right) r)))
        both-below))

    -- ---- Q3

    module _ (on : Condition) (right : Tree) (width : ℕ) (quiet-on : quiet on ≡ true) where
      left-of-join : Keeps (t.Filter (c.And past_left) (t.Left on above_left right width))
          (t.Filter (c.And conditions) (t.Left on l right width))
      left-of-join =
          chain (filter-keeps (c.And past_left) (c.And past_left) (t.Left on above_left right width)
          (t.Filter (c.And goes_left) (t.Left on l right width)) (condition-refl (c.And past_left))
          (q3 (c.And goes_left) on l right width w wide
          (all-see-left goes_left w (filter-passes (names_only (in_left w)) conditions))
          (and-quiet denied goes_left (all-filtered quiet (names_only (in_left w)) conditions calm))
          (quiet-is denied on quiet-on)))
          (filter-parted denied (names_only (in_left w)) conditions calm (t.Left on l right width))

      pub left-keep : (new : Tree) → left_filtered conditions on l right width w ≡ Some new
          → Keeps new (t.Filter (c.And conditions) (t.Left on l right width))
      left-keep new e =
          let made = t.Left on (filtered goes_left l) right width in
          subst (λ (z : Tree). Keeps z (t.Filter (c.And conditions) (t.Left on l right width)))
          (some-made goes_left (filtered past_left made) new e)
          (chain (filtered-keeps past_left made)
          (chain (filter-keeps (c.And past_left) (c.And past_left) made (t.Left on above_left right width)
          (condition-refl (c.And past_left))
          (left-keeps on on (filtered goes_left l) above_left right right (condition-refl on)
          (filtered-keeps goes_left l) (keeps-refl right) width))
          left-of-join))

  pub filter_below_product-keeps : (calm : Bool) (old new : Tree) → filter_below_product calm old ≡ Some new
      → Keeps new old
  filter_below_product-keeps calm old new e = filter-found (Keeps new) new (λ condition rows. at_product (λ left right.
      given (calm && quiet condition)
      (option_and_then (sides_filtered (conjuncts condition) left right) (width_of_tree left)))
      (out-Tree rows)) old e
      (λ condition rows f. product-found (λ rows. Keeps new (t.Filter condition rows)) new (λ left right.
      given (calm && quiet condition)
      (option_and_then (sides_filtered (conjuncts condition) left right) (width_of_tree left))) rows f
      (λ left right g.
      let h = given-found (calm && quiet condition)
      (option_and_then (sides_filtered (conjuncts condition) left right) (width_of_tree left)) new g in
      let w = then-found (sides_filtered (conjuncts condition) left right) (width_of_tree left) new h.1 in
      chain (sides-keep (conjuncts condition) left right w.0 w.1
      (conjuncts-quiet condition (and_true calm (quiet condition) h.0).1) new w.2)
      (conjuncts-filter condition (t.Product left right))))

  pub filter_left-keeps : (calm : Bool) (old new : Tree) → filter_left_of_left_join calm old ≡ Some new → Keeps new old
  filter_left-keeps calm old new e =
      filter-found (Keeps new) new (λ condition rows. left_at calm condition (out-Tree rows)) old e
      (λ condition rows f. node-found (λ rows. Keeps new (t.Filter condition rows)) new (left_at calm condition) rows f
      (at condition))
    where
      at : (condition : Condition) (d : Node Tree-F) → left_at calm condition d ≡ Some new
          → Keeps new (t.Filter condition (roll-Tree d))
      at condition (Tree-F.Left on left right width) f =
          let h = given-found (calm && (quiet condition && quiet on))
          (option_and_then (left_filtered (conjuncts condition) on left right width) (width_of_tree left)) new f in
          let w = then-found (left_filtered (conjuncts condition) on left right width) (width_of_tree left) new h.1 in
          let q = and_true (quiet condition) (quiet on) (and_true calm (quiet condition && quiet on) h.0).1 in
          subst (λ (z : Tree). Keeps new (t.Filter condition z)) (left-rolled on left right width)
          (chain (left-keep (conjuncts condition) left right w.0 w.1 (conjuncts-quiet condition q.0) on right width q.1
          new w.2)
          (conjuncts-filter condition (t.Left on left right width)))
      at condition _ f = absurd (cc (f))

  -- ---- Q16

  tried-keeps : (condition : Condition) (conditions : List Condition) (rows new : Tree)
      → Alike condition (c.And conditions)
      → tried_first condition conditions rows ≡ Some new → Keeps new (t.Filter (c.And conditions) rows)
  tried-keeps condition [] rows new alike e = absurd (cc (e))
  tried-keeps condition (first ∷ []) rows new alike e = absurd (cc (e))
  tried-keeps condition (first ∷ (second ∷ rest)) rows new alike e =
      let h = given-found (is_plain first) (Some (t.Filter condition (t.Filter (not_false first) rows))) new e in
      subst (λ (z : Tree). Keeps z (t.Filter (c.And (first ∷ (second ∷ rest))) rows)) (some-is h.1)
      (chain (filter-keeps condition (c.And (first ∷ (second ∷ rest))) (t.Filter (not_false first) rows)
      (t.Filter (not_false first) rows)
      (stands condition (c.And (first ∷ (second ∷ rest))) alike) (keeps-refl (t.Filter (not_false first) rows)))
      (q16 first (second ∷ rest) rows (quiet-is denied first (plain-quiet denied first h.0))))

  pub pre_filter-keeps : (old new : Tree) → pre_filter old ≡ Some new → Keeps new old
  pre_filter-keeps old new e =
      filter-found (Keeps new) new (λ condition rows. tried_first condition (conjuncts condition) rows) old e
      (λ condition rows f. chain
      (tried-keeps condition (conjuncts condition) rows new (alike-sym (conjuncts-alike condition)) f)
      (conjuncts-filter condition rows))
