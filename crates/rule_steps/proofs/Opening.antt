-- Rules at a node that is written out.
use Rattle.std.proofs.Common.{◌≡◌, refl, ap, sym, ◌∙◌, ℕ, Bool, List, [], Option, Some, None}
use Rattle.std.specs.Prelude.{◌&&◌, option_and_then}
use Rattle.std.specs.List.{list_all}
use Rattle.std.specs.Option.{option_or}
use Rattle.typing.specs.declared.typed.OrderKey.{OrderKey}
use Rattle.algebra.specs.declared.tree.Condition.{Condition}
use Rattle.algebra.specs.declared.tree.Expression.{Expression}
use Rattle.algebra.specs.declared.tree.StoredTable.{StoredTable}
use Rattle.algebra.specs.declared.tree.Tree.{Tree, Tree-F, out-Tree}
use Rattle.algebra.specs.declared.tree.Tree.TheVariants as t
use Rattle.rules.specs.Columns.{names_only, moved, in_half, to_half}
use Rattle.rules.specs.Conjuncts.{conjuncts, quiet}
use Rattle.rules.specs.FilterRules.{filter_below_product, filter_left_of_left_join, left_at, left_filtered, pre_filter, sides_filtered, tried_first}
use Rattle.rules.specs.Indexes.{key_first}
use Rattle.rules.specs.JoinKeys.{join_pairs, left_places, right_places}
use Rattle.rules.specs.JoinRules.{hashed, inner_to_hash_join, inner_to_index_loop, loop_at, on_divided, on_into_right_side, regroup_by, regroup_inner, regrouped_at, right_filtered}
use Rattle.rules.specs.LookupRules.{at_scan, between_both, beyond_one, filter_to_range, range_by}
use Rattle.rules.specs.Nodes.{given, first_found, at_filter, at_inner, at_product}
use Rattle.rules.specs.OrderRules.{items_ordered, ordered_at, ordered_by, sort_dropped, sort_to_range}
use Rattle.rules.specs.SubqueryRules.{half, half_by, half_of_items, half_of_table, quiet_item}
use Rattle.rules.specs.Width.{width_of_tree}
use Rattle.rule_steps.proofs.Chosen.{given-found, given-is, if-made}
use Rattle.rule_steps.proofs.Nodes.{filter, inner, left_join, product, project, scan, sort}

-- what Q9 makes of a filter of a table
abbrev pub make_range : Condition → StoredTable → Option Tree
make_range condition table = given (quiet condition)
    (option_or (first_found (range_by between_both condition table) (key_first table))
    (first_found (range_by beyond_one condition table) (key_first table)))

pub left-opened : (calm : Bool) (condition on : Condition) (left right : Tree) (width : ℕ) (new : Tree)
    → filter_left_of_left_join calm (t.Filter condition (t.Left on left right width)) ≡ Some new
    → given (calm && (quiet condition && quiet on))
    (option_and_then (left_filtered (conjuncts condition) on left right width) (width_of_tree left)) ≡ Some new
left-opened calm condition on left right width new e = ap (left_at calm condition) (sym (left_join on left right width))
    ∙ ap (at_filter (λ condition rows. left_at calm condition (out-Tree rows))) (sym (filter condition (t.Left on left right width)))
    ∙ e

pub below-opened : (calm : Bool) (condition : Condition) (left right : Tree) (new : Tree)
    → filter_below_product calm (t.Filter condition (t.Product left right)) ≡ Some new
    → given (calm && quiet condition) (option_and_then (sides_filtered (conjuncts condition) left right) (width_of_tree left))
    ≡ Some new
below-opened calm condition left right new e =
    ap (at_product (λ left right. given (calm && quiet condition)
    (option_and_then (sides_filtered (conjuncts condition) left right) (width_of_tree left)))) (sym (product left right))
    ∙ ap (at_filter (λ condition rows. at_product (λ left right. given (calm && quiet condition)
    (option_and_then (sides_filtered (conjuncts condition) left right) (width_of_tree left))) (out-Tree rows)))
    (sym (filter condition (t.Product left right))) ∙ e

pub on-opened : (on : Condition) (left right : Tree) (width : ℕ) (new : Tree)
    → on_into_right_side (t.Left on left right width) ≡ Some new
    → given (quiet on) (option_and_then (right_filtered (conjuncts on) left right width) (width_of_tree left)) ≡ Some new
on-opened on left right width new e = ap on_divided (sym (left_join on left right width)) ∙ e

pub hash-made : (on : Condition) (left right new : Tree) → inner_to_hash_join (t.Inner on left right) ≡ Some new
    → (w : ℕ) × (width_of_tree left ≡ Some w)
    × (t.HashJoin on left right (left_places (join_pairs w on)) (right_places (join_pairs w on)) ≡ new)
hash-made on left right new e = go (given-found (quiet on) (λ w. hashed on left right (join_pairs w on)) (width_of_tree left) new
    (ap (at_inner (λ on left right. given (quiet on) (option_and_then (λ w. hashed on left right (join_pairs w on)) (width_of_tree left))))
    (sym (inner on left right)) ∙ e))
  where
    go : (w : ℕ) × (width_of_tree left ≡ Some w) × (hashed on left right (join_pairs w on) ≡ Some new)
        → (w : ℕ) × (width_of_tree left ≡ Some w)
        × (t.HashJoin on left right (left_places (join_pairs w on)) (right_places (join_pairs w on)) ≡ new)
    go g = (
      g.0,
      g.1,
      if-made (join_pairs g.0 on)
          (t.HashJoin on left right (left_places (join_pairs g.0 on)) (right_places (join_pairs g.0 on))) new g.2,
    )

then-found : {X Y : Type 0} (f : X → Option Y) (found : Option X) (new : Y) → option_and_then f found ≡ Some new
    → (x : X) × (found ≡ Some x) × (f x ≡ Some new)
then-found f None new e = absurd (cc (e))
then-found f (Some x) new e = (x, refl, e)

pub half-made : (wanted : Bool) (left : Tree) (items : List Expression) (condition : Condition) (table : StoredTable) (new : Tree)
    → half_of_items wanted left items (out-Tree (t.Filter condition (t.Scan table))) ≡ Some new
    → (w : ℕ) × (width_of_tree left ≡ Some w) × (half wanted (moved (to_half w) condition) left (t.Scan table) ≡ new)
half-made wanted left items condition table new e = go (then-found (half_by wanted items condition table left) (width_of_tree left) new
    (ap (half_of_table wanted items condition left) (sym (scan table))
    ∙ ap (half_of_items wanted left items) (sym (filter condition (t.Scan table))) ∙ e))
  where
    go : (w : ℕ) × (width_of_tree left ≡ Some w) × (half_by wanted items condition table left w ≡ Some new)
        → (w : ℕ) × (width_of_tree left ≡ Some w) × (half wanted (moved (to_half w) condition) left (t.Scan table) ≡ new)
    go g = (
      g.0,
      g.1,
      given-is (quiet condition && (list_all quiet_item items && names_only (in_half g.0) condition))
          (half wanted (moved (to_half g.0) condition) left (t.Scan table)) new g.2,
    )

pub tried-opened : (condition : Condition) (rows new : Tree) → pre_filter (t.Filter condition rows) ≡ Some new
    → tried_first condition (conjuncts condition) rows ≡ Some new
tried-opened condition rows new e = ap (at_filter (λ condition rows. tried_first condition (conjuncts condition) rows))
    (sym (filter condition rows)) ∙ e

-- ---- joins of joins

pub inner-opened : (on below : Condition) (first second third new : Tree)
    → regroup_inner (t.Inner on (t.Inner below first second) third) ≡ Some new
    → regroup_by on (conjuncts below) first second third ≡ Some new
inner-opened on below first second third new e = ap (regrouped_at on third) (sym (inner below first second))
    ∙ ap (at_inner (λ on left right. regrouped_at on right (out-Tree left))) (sym (inner on (t.Inner below first second) third)) ∙ e

pub product-opened : (on : Condition) (first second third new : Tree)
    → regroup_inner (t.Inner on (t.Product first second) third) ≡ Some new
    → regroup_by on [] first second third ≡ Some new
product-opened on first second third new e = ap (regrouped_at on third) (sym (product first second))
    ∙ ap (at_inner (λ on left right. regrouped_at on right (out-Tree left))) (sym (inner on (t.Product first second) third)) ∙ e

-- ---- tables

pub range-opened : (condition : Condition) (table : StoredTable) (new : Tree)
    → filter_to_range (t.Filter condition (t.Scan table)) ≡ Some new → make_range condition table ≡ Some new
range-opened condition table new e = ap (at_scan make_range condition) (sym (scan table))
    ∙ ap (at_filter (λ condition rows. at_scan make_range condition (out-Tree rows))) (sym (filter condition (t.Scan table))) ∙ e

pub loop-opened : (on : Condition) (left : Tree) (table : StoredTable) (new : Tree)
    → inner_to_index_loop (t.Inner on left (t.Scan table)) ≡ Some new → loop_at on left (Tree-F.Scan table) ≡ Some new
loop-opened on left table new e = ap (loop_at on left) (sym (scan table))
    ∙ ap (at_inner (λ on left right. loop_at on left (out-Tree right))) (sym (inner on left (t.Scan table))) ∙ e

pub order-opened : (keys : List OrderKey) (items : List Expression) (table : StoredTable) (new : Tree)
    → sort_to_range (t.Sort keys (t.Project items (t.Scan table))) ≡ Some new
    → first_found (ordered_by keys items table) table.indexes ≡ Some new
order-opened keys items table new e = ap (ordered_at keys items) (sym (scan table))
    ∙ ap (items_ordered keys) (sym (project items (t.Scan table)))
    ∙ ap sort_dropped (sym (sort keys (t.Project items (t.Scan table)))) ∙ e
