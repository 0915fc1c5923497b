-- What a rule makes of a tree at the end of a path, and a list of steps of a tree.
use Rattle.std.specs.Prelude.{ℕ, Bool, List, [], ◌∷◌, Option, Some, option_and_then}
use Rattle.algebra.specs.declared.tree.Tree.{Tree}
use Rattle.rules.specs.declared.rule.Rule.{Rule}
use Rattle.rules.specs.declared.rule.Rule.TheVariants as by
use Rattle.rules.specs.declared.rule.Step.{Step}
use Rattle.rules.specs.FilterRules.{split_filter, filter_below_product, filter_left_of_left_join, pre_filter}
use Rattle.rules.specs.JoinRules.{on_into_right_side, product_to_inner, regroup_inner, left_to_inner, inner_to_hash_join, inner_to_index_loop}
use Rattle.rules.specs.LookupRules.{filter_to_seek, filter_to_range}
use Rattle.rules.specs.OrderRules.{drop_distinct, sort_to_range}
use Rattle.rules.specs.SubqueryRules.{exists_to_half, in_to_member}
use Rattle.rules.specs.Paths.{applied_at}
use Rattle.rules.specs.Quiet.{conditions_quiet}

-- What a rule makes of a node, if it may be used there. `calm`: no condition of the whole tree may
-- raise.
abbrev pub here : Bool → Rule → Tree → Option Tree
here calm by.SplitFilter = split_filter
here calm by.FilterBelowProduct = filter_below_product calm
here calm by.FilterLeftOfLeftJoin = filter_left_of_left_join calm
here calm by.OnIntoRightSide = on_into_right_side
here calm by.ProductToInner = product_to_inner
here calm by.RegroupInner = regroup_inner
here calm by.LeftToInner = left_to_inner
here calm by.FilterToSeek = filter_to_seek
here calm by.FilterToRange = filter_to_range
here calm by.InnerToHashJoin = inner_to_hash_join
here calm by.InnerToIndexLoop = inner_to_index_loop
here calm by.DropDistinct = drop_distinct
here calm by.ExistsToHalf = exists_to_half
here calm by.InToMember = in_to_member
here calm by.SortToRange = sort_to_range
here calm by.PreFilter = pre_filter

abbrev pub applied : Rule → List ℕ → Tree → Option Tree
applied rule path tree = applied_at (here (conditions_quiet tree) rule) path tree

-- one step after another, each at a path of the tree that the steps before it made
abbrev pub replayed : List Step → Tree → Option Tree
replayed [] tree = Some tree
replayed (step ∷ steps) tree = option_and_then (replayed steps) (applied step.rule step.path.places tree)
