-- A tree knows of each table that it reads by an index.
use Rattle.std.proofs.Common.{◌≡◌, sym, subst, List, [], ◌∷◌, map, ◌++◌, ◌⊎◌, inl, inr, arith}
use Rattle.std.specs.Prelude.{Contains}
use Rattle.std.proofs.lemmas.List.Elements.{Contains-append_cases, Contains-append_left, Contains-append_right}
use Rattle.algebra.specs.declared.tree.Condition.{Condition, fold-Condition}
use Rattle.algebra.specs.declared.tree.Expression.{Expression, fold-Expression}
use Rattle.algebra.specs.declared.tree.SetFunction.{SetFunction, fold-SetFunction}
use Rattle.algebra.specs.declared.tree.StoredTable.{StoredTable}
use Rattle.algebra.specs.declared.tree.Tree.{Tree, Tree-F, fold-roll-Tree, ind-Tree, map-Tree, roll-Tree}
use Rattle.places.specs.Indexes.{Sought, sought_by_condition, sought_by_expression, sought_by_function, sought_by_node, sought_in}
use Rattle.rules.specs.Nodes.{Node}
use Rattle.rules.specs.Same.{AreAmong}
use Rattle.rules.specs.Stored.{StoredLayer, StoredTables, all_stored, stored_in_condition, stored_in_expression, stored_in_function, stored_in_tree, stored_of_condition, stored_of_expression, stored_of_function, stored_of_tree}

abbrev Knows : Tree → Type 0
Knows tree = AreAmong (sought_in tree) (stored_in_tree tree)

abbrev sought_parts : Node Tree-F → Sought Tree-F
sought_parts d = map-Tree _ _ _ _ _ _ _ _
    (fold-Condition _ _ _ _ sought_by_condition sought_by_expression sought_by_function sought_by_node)
    (fold-Expression _ _ _ _ sought_by_condition sought_by_expression sought_by_function sought_by_node)
    (fold-SetFunction _ _ _ _ sought_by_condition sought_by_expression sought_by_function sought_by_node) sought_in d

sought-rolled : (d : Node Tree-F) → sought_in (roll-Tree d) ≡ sought_by_node (sought_parts d)
unfolding sought_in
sought-rolled d = fold-roll-Tree _ _ _ _ sought_by_condition sought_by_expression sought_by_function sought_by_node d

abbrev stored_parts : Node Tree-F → StoredLayer Tree-F
stored_parts d = map-Tree _ _ _ _ _ _ _ _ stored_in_condition stored_in_expression stored_in_function stored_in_tree d

stored-rolled : (d : Node Tree-F) → stored_in_tree (roll-Tree d) ≡ stored_of_tree (stored_parts d)
unfolding stored_in_condition stored_in_expression stored_in_function stored_in_tree
stored-rolled d = fold-roll-Tree _ _ _ _ stored_of_condition stored_of_expression stored_of_function stored_of_tree d

abbrev Parts : ((A B C D : Type 0) → Type 0) → Type 0
Parts T = T (Condition × Unit {0}) (Expression × Unit {0}) (SetFunction × Unit {0}) ((tree : Tree) × Knows tree)

abbrev tree_of : Parts Tree-F → Node Tree-F
tree_of y = map-Tree _ _ _ _ _ _ _ _ (λ p. p.0) (λ p. p.0) (λ p. p.0) (λ p. p.0) y

none : (tables : StoredTables) → AreAmong [] tables
none tables table h = absurd (omega (arith, h.1))

behind : (others xs ys : StoredTables) → AreAmong xs ys → AreAmong xs (others ++ ys)
behind others xs ys h table among = Contains-append_right others ys table (h table among)

both : (xs ys zs ws : StoredTables) → AreAmong xs zs → AreAmong ys ws → AreAmong (xs ++ ys) (zs ++ ws)
both xs ys zs ws h k table among = elim (Contains-append_cases xs ys table among) [
  | inl there ↦ Contains-append_left zs ws table (h table there)
  | inr there ↦ Contains-append_right zs ws table (k table there)
]

-- a node with two trees behind its condition
two : (others : StoredTables) (l r : (tree : Tree) × Knows tree)
    → AreAmong (sought_in l.0 ++ sought_in r.0) (others ++ (stored_in_tree l.0 ++ stored_in_tree r.0))
two others l r = behind others (sought_in l.0 ++ sought_in r.0) (stored_in_tree l.0 ++ stored_in_tree r.0)
    (both (sought_in l.0) (sought_in r.0) (stored_in_tree l.0) (stored_in_tree r.0) l.1 r.1)

knows : (y : Parts Tree-F) → AreAmong (sought_by_node (sought_parts (tree_of y))) (stored_of_tree (stored_parts (tree_of y)))
knows (Tree-F.Scan table) = none (table ∷ [])
knows (Tree-F.Filter condition tree) =
    behind (stored_in_condition condition.0) (sought_in tree.0) (stored_in_tree tree.0) tree.1
knows (Tree-F.Product left right) =
    both (sought_in left.0) (sought_in right.0) (stored_in_tree left.0) (stored_in_tree right.0) left.1 right.1
knows (Tree-F.Inner on left right) = two (stored_in_condition on.0) left right
knows (Tree-F.Left on left right width) = two (stored_in_condition on.0) left right
knows (Tree-F.Half on left right) = two (stored_in_condition on.0) left right
knows (Tree-F.OppositeHalf on left right) = two (stored_in_condition on.0) left right
knows (Tree-F.Group columns functions rows) =
    behind (all_stored (map stored_in_function (map (λ p. p.0) functions))) (sought_in rows.0) (stored_in_tree rows.0) rows.1
knows (Tree-F.Project items tree) =
    behind (all_stored (map stored_in_expression (map (λ p. p.0) items))) (sought_in tree.0) (stored_in_tree tree.0) tree.1
knows (Tree-F.Distinct tree) = tree.1
knows (Tree-F.Set op left right) =
    both (sought_in left.0) (sought_in right.0) (stored_in_tree left.0) (stored_in_tree right.0) left.1 right.1
knows (Tree-F.Sort keys tree) = tree.1
knows (Tree-F.Seek table columns key) = λ other among. among
knows (Tree-F.Range table columns low high) = λ other among. among
knows (Tree-F.IndexLoop on left places table columns) =
    behind (stored_in_condition on.0) (sought_in left.0 ++ table ∷ []) (stored_in_tree left.0 ++ table ∷ [])
    (both (sought_in left.0) (table ∷ []) (stored_in_tree left.0) (table ∷ []) left.1 (λ other among. among))
knows (Tree-F.HashJoin on left right left_places right_places) = two (stored_in_condition on.0) left right
knows (Tree-F.Member operand is_negated members rows) = two (stored_in_expression operand.0) members rows

tree_node : (x : Node Tree-F) (y : Parts Tree-F) → tree_of y ≡ x → Knows (roll-Tree x)
tree_node x y is = subst (λ (z : Node Tree-F). Knows (roll-Tree z)) is
    (subst (λ (tables : StoredTables). AreAmong tables (stored_in_tree (roll-Tree (tree_of y)))) (sym (sought-rolled (tree_of y)))
    (subst (AreAmong (sought_by_node (sought_parts (tree_of y)))) (sym (stored-rolled (tree_of y))) (knows y)))

pub sought-stored : (tree : Tree) → Knows tree
sought-stored = ind-Tree (λ c. Unit {0}) (λ e. Unit {0}) (λ f. Unit {0}) Knows
    (λ x y is. tt) (λ x y is. tt) (λ x y is. tt) tree_node
