-- Rules that part a filter or move it down: Q1, Q2, Q3 and Q16.
use Rattle.std.specs.Prelude.{ℕ, Bool, ◌&&◌, List, [], ◌∷◌, ◌++◌, map, filter, Option, Some, None, option_and_then}
use Rattle.std.specs.List.{list_all}
use Rattle.sqlval.specs.declared.truth.Truth.TheVariants.{False}
use Rattle.algebra.specs.declared.tree.Condition.{Condition}
use Rattle.algebra.specs.declared.tree.Condition.TheVariants as c
use Rattle.algebra.specs.declared.tree.Tree.{Tree, Tree-F, out-Tree}
use Rattle.algebra.specs.declared.tree.Tree.TheVariants as t
use Rattle.algebra.specs.Raising.{is_plain}
use Rattle.rules.specs.Columns.{names_only, moved, in_left, in_right, from_right}
use Rattle.rules.specs.Conjuncts.{conjuncts, quiet, others, and_of, filtered}
use Rattle.rules.specs.Nodes.{Node, given, at_filter, at_product}
use Rattle.rules.specs.Width.{width_of_tree}

-- ---- Q1: an AND of a filter becomes two filters

-- The first conjunct may raise a fault, and then does so at the same rows. The others may not:
-- they are no longer tried where it raises.
abbrev pub split : List Condition → Tree → Option Tree
split [] rows = None
split (first ∷ []) rows = None
split (first ∷ (second ∷ rest)) rows =
    given (list_all quiet (second ∷ rest)) (Some (t.Filter (and_of (second ∷ rest)) (t.Filter first rows)))

abbrev pub split_filter : Tree → Option Tree
split_filter tree = at_filter (λ condition rows. split (conjuncts condition) rows) (out-Tree tree)

-- ---- Q2: a filter goes below a product

-- the conjuncts that name columns of the left side alone
abbrev pub left_of : ℕ → List Condition → List Condition
left_of w = filter (names_only (in_left w))

-- of the others, those that name columns of the right side alone
abbrev pub right_of : ℕ → List Condition → List Condition
right_of w conditions = filter (names_only (in_right w)) (others (names_only (in_left w)) conditions)

-- those that name columns of both
abbrev pub of_both : ℕ → List Condition → List Condition
of_both w conditions = others (names_only (in_right w)) (others (names_only (in_left w)) conditions)

-- what is made if there is one of these conditions at least
abbrev pub if_some : {X Y : Type 0} → List X → Y → Option Y
if_some [] made = None
if_some (x ∷ xs) made = Some made

-- conditions of the joined row, in their place above the right side alone
abbrev pub on_right : ℕ → List Condition → List Condition
on_right w = map (moved (from_right w))

abbrev pub sides_filtered : List Condition → Tree → Tree → ℕ → Option Tree
sides_filtered conditions left right w =
    if_some (left_of w conditions ++ right_of w conditions)
    (filtered (of_both w conditions)
    (t.Product (filtered (left_of w conditions) left) (filtered (on_right w (right_of w conditions)) right)))

-- No condition of the whole tree may raise, as `calm` says.
abbrev pub filter_below_product : Bool → Tree → Option Tree
filter_below_product calm tree = at_filter (λ condition rows. at_product (λ left right.
    given (calm && quiet condition)
    (option_and_then (sides_filtered (conjuncts condition) left right) (width_of_tree left)))
    (out-Tree rows)) (out-Tree tree)

-- ---- Q3: a filter goes to the left of a left join

abbrev pub left_filtered : List Condition → Condition → Tree → Tree → ℕ → ℕ → Option Tree
left_filtered conditions on left right width w =
    if_some (left_of w conditions)
    (filtered (others (names_only (in_left w)) conditions)
    (t.Left on (filtered (left_of w conditions) left) right width))

-- ON may not raise either: it is no longer tried at the rows that the filter drops.
abbrev pub left_at : Bool → Condition → Node Tree-F → Option Tree
left_at calm condition (Tree-F.Left on left right width) = given (calm && (quiet condition && quiet on))
    (option_and_then (left_filtered (conjuncts condition) on left right width) (width_of_tree left))
left_at calm condition _ = None

abbrev pub filter_left_of_left_join : Bool → Tree → Option Tree
filter_left_of_left_join calm tree =
    at_filter (λ condition rows. left_at calm condition (out-Tree rows)) (out-Tree tree)

-- ---- Q16: a conjunct is tried before the whole condition

-- not false: true or unknown
abbrev pub not_false : Condition → Condition
not_false condition = c.Not (c.IsTruth condition False)

-- Where the first conjunct is false so is the AND, whatever stands behind it, and nothing behind it
-- is tried. Where it is unknown, what is behind it may still raise.
abbrev pub tried_first : Condition → List Condition → Tree → Option Tree
tried_first condition [] rows = None
tried_first condition (first ∷ []) rows = None
tried_first condition (first ∷ (second ∷ rest)) rows =
    given (is_plain first) (Some (t.Filter condition (t.Filter (not_false first) rows)))

abbrev pub pre_filter : Tree → Option Tree
pre_filter tree = at_filter (λ condition rows. tried_first condition (conjuncts condition) rows) (out-Tree tree)
