-- The listing of a tree ascends by the tree's order keys: by induction over the trees.
use Rattle.std.proofs.Common.{◌≡◌, refl, sym, subst, ℕ, zero, suc, true, false, List, [], ◌∷◌, map, Option}
use Rattle.typing.specs.declared.typed.OrderKey.{OrderKey}
use Rattle.algebra.specs.declared.tree.Condition.{Condition}
use Rattle.algebra.specs.declared.tree.Expression.{Expression, Expression-F, roll-Expression, map-Expression}
use Rattle.algebra.specs.declared.tree.SetFunction.{SetFunction}
use Rattle.algebra.specs.declared.tree.Tree.{Tree, Tree-F, roll-Tree, map-Tree, ind-Tree}
use Rattle.algebra.specs.Meaning.{Layer, TreeMeaning, expression_step, value_by, truth_by, tree_by}
use Rattle.algebra.specs.Bounds.{rows_within}
use Rattle.algebra.specs.Joined.{half_row, is_member}
use Rattle.algebra.specs.Listing.{ended, listed_rows, unless_ended, whole_first, listing_step}
use Rattle.algebra.specs.OrderKeys.{column_step, order_step, column_of, order_keys}
use Rattle.algebra.specs.Sorted.{sorted, ascending}
use Rattle.algebra_laws.proofs.RolledTrees.{Node, expression_meant, expression_rolled, tree_meant, tree_rolled}
use Rattle.denote.specs.declared.fault.Fault.{Fault}
use Rattle.denote.specs.Evaluation.{Env}
use Rattle.denote.specs.Expression.{ExpressionMeaning}
use Rattle.denote.specs.From.{kept_row}
use Rattle.denote.specs.Meaning.{Tables}
use Rattle.denote.specs.Outcome.{Outcome}
use Rattle.operator_laws.proofs.Same.{Each-mapped}
use Rattle.order_laws.proofs.Ascending.{Ascends, sorted-ascends, unsorted-ascends}
use Rattle.order_laws.proofs.RowByRow.{handed-ascends, left-ascends, kept-made, half-made}
use Rattle.order_laws.proofs.Projected.{ShowsColumn, projected-ascends}
use Rattle.order_laws.proofs.RolledKeys.{columns_in, column_rolled, keys_in, keys_rolled}

-- what is taken whole and sorted
whole-sorted : (keys : List OrderKey) (l : Outcome) → Ascends keys (whole_first l (λ rows. listed_rows (sorted keys rows))).rows
whole-sorted keys l = at l.faults
  where
    at : (faults : List Fault) → Ascends keys (unless_ended faults (listed_rows (sorted keys l.rows))).rows
    at [] = sorted-ascends keys l.rows
    at (fault ∷ faults) = tt

module _ (tables : Tables) where
  abbrev listed : Layer Tree-F → TreeMeaning
  listed = listing_step tables

  -- an expression that is a column has the column's value
  abbrev SeesColumn : Expression → Type 0
  SeesColumn e = ShowsColumn (column_of e) (value_by listed e)

  -- rows that ascend by keys, in whatever rows stand outside
  abbrev AscendsBy : List OrderKey → TreeMeaning → Type 0
  AscendsBy keys t = (env : Env) → Ascends keys (t env).rows

  -- the listing of a tree ascends by the tree's keys
  abbrev AscendsTree : Tree → Type 0
  AscendsTree t = AscendsBy (order_keys t) (tree_by listed t)

  -- a node whose parts have this already
  abbrev Parts : ((A B C D : Type 0) → Type 0) → Type 0
  Parts T = T (Condition × Unit {0}) ((e : Expression) × SeesColumn e) (SetFunction × Unit {0}) ((t : Tree) × AscendsTree t)

  abbrev expression_of : Parts Expression-F → Node Expression-F
  expression_of y = map-Expression _ _ _ _ _ _ _ _ (λ p. p.0) (λ p. p.0) (λ p. p.0) (λ p. p.0) y

  abbrev tree_of : Parts Tree-F → Node Tree-F
  tree_of y = map-Tree _ _ _ _ _ _ _ _ (λ p. p.0) (λ p. p.0) (λ p. p.0) (λ p. p.0) y

  step-shows : (d : Node Expression-F) → ShowsColumn (column_step (columns_in d)) (expression_step (expression_meant listed d))
  step-shows (Expression-F.Column zero place) other e row env = let same : place ≡ other = cc in rw same refl
  step-shows (Expression-F.Column (suc depth) place) other e row env = absurd (cc)
  step-shows (Expression-F.Constant x) other e row env = absurd (cc)
  step-shows (Expression-F.Calculation first others) other e row env = absurd (cc)
  step-shows (Expression-F.Concatenation first others) other e row env = absurd (cc)
  step-shows (Expression-F.Negation operand) other e row env = absurd (cc)
  step-shows (Expression-F.Scalar tree) other e row env = absurd (cc)

  step-ascends : (y : Parts Tree-F) → AscendsBy (order_step (keys_in (tree_of y))) (listed (tree_meant listed (tree_of y)))
  step-ascends (Tree-F.Scan table) env = unsorted-ascends _
  step-ascends (Tree-F.Filter condition tree) env =
      handed-ascends (order_keys tree.0) (tree_by listed tree.0 env) (λ row. ended (kept_row (truth_by listed condition.0) env row)) (kept-made (truth_by listed condition.0) env) (tree.1 env)
  step-ascends (Tree-F.Product left right) env = unsorted-ascends _
  step-ascends (Tree-F.Inner on left right) env = unsorted-ascends _
  step-ascends (Tree-F.Left on left right width) env = unsorted-ascends _
  step-ascends (Tree-F.Half on left right) env =
      left-ascends (order_keys left.0) (tree_by listed left.0 env) (tree_by listed right.0 env) (λ others row. ended (half_row true (truth_by listed on.0) env others row))
      (half-made true (truth_by listed on.0) env) (left.1 env)
  step-ascends (Tree-F.OppositeHalf on left right) env =
      left-ascends (order_keys left.0) (tree_by listed left.0 env) (tree_by listed right.0 env) (λ others row. ended (half_row false (truth_by listed on.0) env others row))
      (half-made false (truth_by listed on.0) env) (left.1 env)
  step-ascends (Tree-F.Group columns functions rows) env = unsorted-ascends _
  step-ascends (Tree-F.Project items tree) env =
      projected-ascends (map column_of (map (λ o. o.0) items)) (map (value_by listed) (map (λ o. o.0) items))
      (Each-mapped ShowsColumn column_of (value_by listed) (λ (o : (e : Expression) × SeesColumn e). o.0) items (λ o. o.1)) (order_keys tree.0) env (tree_by listed tree.0 env) (tree.1 env)
  step-ascends (Tree-F.Distinct tree) env = unsorted-ascends _
  step-ascends (Tree-F.Set op left right) env = unsorted-ascends _
  step-ascends (Tree-F.Sort keys tree) env = whole-sorted keys (tree_by listed tree.0 env)
  step-ascends (Tree-F.Seek table columns key) env = unsorted-ascends _
  step-ascends (Tree-F.Range table columns low high) env = sorted-ascends (ascending columns) (rows_within columns low high (tables table.name))
  step-ascends (Tree-F.IndexLoop on left places table columns) env = unsorted-ascends _
  step-ascends (Tree-F.HashJoin on left right left_places right_places) env = unsorted-ascends _
  step-ascends (Tree-F.Member operand is_negated members rows) env =
      handed-ascends (order_keys rows.0) (tree_by listed rows.0 env) (λ row. ended (kept_row (is_member (value_by listed operand.0) is_negated (tree_by listed members.0 env)) env row))
      (kept-made (is_member (value_by listed operand.0) is_negated (tree_by listed members.0 env)) env) (rows.1 env)

  -- ---- each node, and the induction

  expression_node : (x : Node Expression-F) (y : Parts Expression-F) → expression_of y ≡ x → SeesColumn (roll-Expression x)
  expression_node x y is =
      subst (λ (f : ExpressionMeaning). ShowsColumn (column_of (roll-Expression x)) f) (sym (expression_rolled listed x))
      (subst (λ (c : Option ℕ). ShowsColumn c (expression_step (expression_meant listed x))) (sym (column_rolled x)) (step-shows x))

  tree_node : (x : Node Tree-F) (y : Parts Tree-F) → tree_of y ≡ x → AscendsTree (roll-Tree x)
  tree_node x y is =
      subst (λ (z : Node Tree-F). AscendsTree (roll-Tree z)) is
      (subst (λ (f : TreeMeaning). AscendsBy (order_keys (roll-Tree (tree_of y))) f) (sym (tree_rolled listed (tree_of y)))
      (subst (λ (keys : List OrderKey). AscendsBy keys (listed (tree_meant listed (tree_of y)))) (sym (keys_rolled (tree_of y))) (step-ascends y)))

  pub trees-ascend : (t : Tree) → AscendsTree t
  trees-ascend = ind-Tree (λ c. Unit {0}) SeesColumn (λ f. Unit {0}) AscendsTree (λ x y is. tt) expression_node (λ x y is. tt) tree_node
