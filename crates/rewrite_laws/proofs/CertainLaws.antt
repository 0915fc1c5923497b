-- Where a rule is sure to be used at the end of a path, a tree comes back, with the node that is
-- told.
use Rattle.algebra.specs.Raising.{is_plain}
use Rattle.algebra.specs.declared.tree.Condition.{Condition}
use Rattle.algebra.specs.declared.tree.Tree.{Tree, out-Tree}
use Rattle.rules.specs.declared.rule.Rule.{Rule}
use Rattle.rewrite_laws.proofs.CalmTrees.{node-plain, plain-quiet-tree}
use Rattle.rewrite_laws.proofs.CertainCases.{out-filter, out-left, Made, split-certain, try-certain, join-certain, right-certain, member-certain, padding-certain, hash-certain, loop-certain, distinct-certain}
use Rattle.rewrite_laws.proofs.CertainFilters.{half-certain, below-certain, left-certain}
use Rattle.rewrite_laws.proofs.CertainLookups.{seek-certain, range-certain}
use Rattle.rewrite_laws.proofs.CertainOrder.{order-certain}
use Rattle.rewrite_laws.proofs.Conditions.{Denials}
use Rattle.rewrite_laws.proofs.NodesThere.{node-filter, nodes-there}
use Rattle.rewrite_laws.proofs.There.{walks-end}
use Rattle.rules.specs.Applied.{here}
use Rattle.rules.specs.Certain.{own_conditions, AllPlain, Certain, Certainly}
use Rattle.rules.specs.Paths.{node_at}
use Rattle.rules.specs.Quiet.{conditions_quiet}
use Rattle.same_laws.proofs.Moved.{and_true}
use Rattle.std.proofs.Common.{◌≡◌, refl, sym, ap, ◌∙◌, ℕ, zero, List, [], ◌∷◌, true, Some}
use Rattle.std.specs.List.{list_all}
use Rattle.std.specs.Prelude.{slice_get, option_and_then}
use Rattle.algebra.specs.declared.tree.Tree.TheVariants as t
use Rattle.rules.specs.declared.rule.Rule.TheVariants as rule

-- what is made of the node at the end of a path stands there
lifted : (rule : Rule) (path : List ℕ) (tree node : Tree) → node_at path tree ≡ Some node
    → Made (conditions_quiet tree) rule node → Certainly rule path tree node
lifted rule path tree node at made =
    let walked = walks-end nodes-there (here (conditions_quiet tree) rule) path tree node made.0 at made.1 in
    record { new = walked.0; made = walked.1; there = made.0; at = walked.2; shape = made.2 }

-- the only own condition of a node
own-plain : (condition : Condition) (node : Tree) → own_conditions (out-Tree node) ≡ condition ∷ [] → AllPlain node
    → is_plain condition ≡ true
own-plain condition node is h =
    (and_true (is_plain condition) true (ap (λ z. list_all is_plain z) (sym is) ∙ h [] node refl)).0

filter-plain : (node rows : Tree) (condition : Condition) → node ≡ t.Filter condition rows → AllPlain node
    → is_plain condition ≡ true
filter-plain node rows condition is h = own-plain condition node (ap (λ z. own_conditions (out-Tree z)) is
    ∙ ap own_conditions (out-filter condition rows)) h

-- and of the left join below a filter
below-plain : (node left right : Tree) (condition on : Condition) (width : ℕ)
    → node ≡ t.Filter condition (t.Left on left right width) → AllPlain node → is_plain on ≡ true
below-plain node left right condition on width is h =
    let join = t.Left on left right width in
    let at-first : node_at (zero ∷ []) node ≡ Some join =
    ap (node_at (zero ∷ [])) is
    ∙ ap (λ trees. option_and_then (node_at []) (slice_get trees zero)) (node-filter join condition) in
    own-plain on join (ap own_conditions (out-left on left right width)) (node-plain (zero ∷ []) node join at-first h)

pub answers-certainly : Denials → (rule : Rule) (path : List ℕ) (tree node : Tree) → node_at path tree ≡ Some node
    → Certain rule tree node → Certainly rule path tree node
answers-certainly denied rule.SplitFilter path tree node at h = lifted rule.SplitFilter path tree node at
    (split-certain denied (conditions_quiet tree) node h)
answers-certainly denied rule.FilterBelowProduct path tree node at h = lifted rule.FilterBelowProduct path tree node at
    (below-certain denied (conditions_quiet tree) (plain-quiet-tree tree h.plain) tree node h
    (filter-plain node (t.Product h.left h.right) h.condition h.is (node-plain path tree node at h.plain)))
answers-certainly denied rule.FilterLeftOfLeftJoin path tree node at h =
    lifted rule.FilterLeftOfLeftJoin path tree node at
    (left-certain denied (conditions_quiet tree) (plain-quiet-tree tree h.plain) tree node h
    (filter-plain node (t.Left h.on h.left h.right h.width) h.condition h.is (node-plain path tree node at h.plain))
    (below-plain node h.left h.right h.condition h.on h.width h.is (node-plain path tree node at h.plain)))
answers-certainly denied rule.OnIntoRightSide path tree node at h = lifted rule.OnIntoRightSide path tree node at
    (right-certain denied (conditions_quiet tree) node h)
answers-certainly denied rule.ProductToInner path tree node at h = lifted rule.ProductToInner path tree node at
    (join-certain denied (conditions_quiet tree) node h)
answers-certainly denied rule.RegroupInner path tree node at h = absurd h
answers-certainly denied rule.LeftToInner path tree node at h = lifted rule.LeftToInner path tree node at
    (padding-certain denied (conditions_quiet tree) node h)
answers-certainly denied rule.FilterToSeek path tree node at h = lifted rule.FilterToSeek path tree node at
    (seek-certain denied (conditions_quiet tree) node h)
answers-certainly denied rule.FilterToRange path tree node at h = lifted rule.FilterToRange path tree node at
    (range-certain denied (conditions_quiet tree) node h)
answers-certainly denied rule.InnerToHashJoin path tree node at h = lifted rule.InnerToHashJoin path tree node at
    (hash-certain denied (conditions_quiet tree) node h)
answers-certainly denied rule.InnerToIndexLoop path tree node at h = lifted rule.InnerToIndexLoop path tree node at
    (loop-certain denied (conditions_quiet tree) node h)
answers-certainly denied rule.DropDistinct path tree node at h = lifted rule.DropDistinct path tree node at
    (distinct-certain denied (conditions_quiet tree) node h)
answers-certainly denied rule.ExistsToHalf path tree node at h = lifted rule.ExistsToHalf path tree node at
    (half-certain denied (conditions_quiet tree) node h)
answers-certainly denied rule.InToMember path tree node at h = lifted rule.InToMember path tree node at
    (member-certain denied (conditions_quiet tree) node h)
answers-certainly denied rule.SortToRange path tree node at h = lifted rule.SortToRange path tree node at
    (order-certain (conditions_quiet tree) node h)
answers-certainly denied rule.PreFilter path tree node at h = lifted rule.PreFilter path tree node at
    (try-certain denied (conditions_quiet tree) node h)
