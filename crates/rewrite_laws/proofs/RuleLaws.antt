-- What the rules make, at a node and at the end of a path, and what a list of steps makes: it may
-- stand for the old tree.
use Rattle.algebra.specs.declared.tree.Tree.{Tree}
use Rattle.rules.specs.declared.rule.Rule.{Rule}
use Rattle.rules.specs.declared.rule.Step.{Step}
use Rattle.rewrite_laws.proofs.Conditions.{Denials}
use Rattle.rewrite_laws.proofs.FilterRuleLaws.{split_filter-keeps, filter_below_product-keeps, filter_left-keeps, pre_filter-keeps}
use Rattle.rewrite_laws.proofs.Found.{some-is, then-found, chain}
use Rattle.rewrite_laws.proofs.JoinColumnRules.{inner_to_hash_join-keeps, inner_to_index_loop-keeps}
use Rattle.rewrite_laws.proofs.JoinRuleLaws.{on_into_right_side-keeps, left_to_inner-keeps, regroup_inner-keeps, product_to_inner-keeps}
use Rattle.rewrite_laws.proofs.LookupRuleLaws.{LookUps, filter_to_seek-keeps, filter_to_range-keeps}
use Rattle.rewrite_laws.proofs.OrderRuleLaws.{drop_distinct-keeps, sort_to_range-keeps}
use Rattle.rewrite_laws.proofs.SubqueryRuleLaws.{in_to_member-keeps, exists_to_half-keeps}
use Rattle.rewrite_laws.proofs.Whole.{walks-keep}
use Rattle.rules.specs.Applied.{here, applied, replayed}
use Rattle.rules.specs.Quiet.{conditions_quiet}
use Rattle.rules.specs.Same.{Keeps}
use Rattle.same_laws.proofs.Composed.{keeps-refl}
use Rattle.std.proofs.Common.{◌≡◌, subst, ℕ, Bool, List, [], ◌∷◌, Some}
use Rattle.rules.specs.declared.rule.Rule.TheVariants as rule

-- what a rule makes of a node may stand for it
pub here-keeps : Denials → LookUps → (calm : Bool) (rule : Rule) (old new : Tree) → here calm rule old ≡ Some new
    → Keeps new old
here-keeps denied found calm rule.SplitFilter old new e = split_filter-keeps denied old new e
here-keeps denied found calm rule.FilterBelowProduct old new e = filter_below_product-keeps denied calm old new e
here-keeps denied found calm rule.FilterLeftOfLeftJoin old new e = filter_left-keeps denied calm old new e
here-keeps denied found calm rule.OnIntoRightSide old new e = on_into_right_side-keeps denied old new e
here-keeps denied found calm rule.ProductToInner old new e = product_to_inner-keeps old new e
here-keeps denied found calm rule.RegroupInner old new e = regroup_inner-keeps denied old new e
here-keeps denied found calm rule.LeftToInner old new e = left_to_inner-keeps denied old new e
here-keeps denied found calm rule.FilterToSeek old new e = filter_to_seek-keeps found old new e
here-keeps denied found calm rule.FilterToRange old new e = filter_to_range-keeps denied old new e
here-keeps denied found calm rule.InnerToHashJoin old new e = inner_to_hash_join-keeps denied old new e
here-keeps denied found calm rule.InnerToIndexLoop old new e = inner_to_index_loop-keeps denied old new e
here-keeps denied found calm rule.DropDistinct old new e = drop_distinct-keeps old new e
here-keeps denied found calm rule.ExistsToHalf old new e = exists_to_half-keeps denied old new e
here-keeps denied found calm rule.InToMember old new e = in_to_member-keeps old new e
here-keeps denied found calm rule.SortToRange old new e = sort_to_range-keeps old new e
here-keeps denied found calm rule.PreFilter old new e = pre_filter-keeps denied old new e

pub applied-keeps-all : Denials → LookUps → (rule : Rule) (path : List ℕ) (old new : Tree)
    → applied rule path old ≡ Some new → Keeps new old
applied-keeps-all denied found rule path old new e =
    walks-keep (here (conditions_quiet old) rule)
    (λ old-part new-part f. here-keeps denied found (conditions_quiet old) rule old-part new-part f) path old new e

pub replayed-keeps : Denials → LookUps → (steps : List Step) (old new : Tree) → replayed steps old ≡ Some new
    → Keeps new old
replayed-keeps denied found [] old new e = subst (λ (z : Tree). Keeps z old) (some-is e) (keeps-refl old)
replayed-keeps denied found (step ∷ steps) old new e =
    let made = then-found (replayed steps) (applied step.rule step.path.places old) new e in
    chain (replayed-keeps denied found steps made.0 new made.2)
    (applied-keeps-all denied found step.rule step.path.places old made.0 made.1)
