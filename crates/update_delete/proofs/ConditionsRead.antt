-- A condition is the same over tables that agree where it reads: by induction over conditions
-- alone, since expressions and trees read their tables.
use Rattle.std.proofs.Common.{◌≡◌, refl, sym, subst, ap, ◌∙◌, List, [], ◌∷◌, ◌++◌, map}
use Rattle.std.proofs.lemmas.List.Elements.{Contains-append_left, Contains-append_right}
use Rattle.algebra.specs.declared.tree.Condition.{Condition, Condition-F, roll-Condition, map-Condition, ind-Condition, fold-roll-Condition}
use Rattle.algebra.specs.declared.tree.Expression.{Expression, roll-Expression}
use Rattle.algebra.specs.declared.tree.SetFunction.{SetFunction}
use Rattle.algebra.specs.declared.tree.Tree.{Tree, Tree-F, roll-Tree}
use Rattle.algebra.specs.Meaning.{Layer, TreeMeaning, condition_step, value_by, truth_by, tree_by}
use Rattle.algebra.specs.Listing.{listing_step, truth_listing, value_listing, tree_listing}
use Rattle.denote.specs.Meaning.{Tables}
use Rattle.algebra_laws.proofs.RolledTrees.{Node, condition_meant, condition_rolled}
use Rattle.tree_tables.specs.TablesRead.{Names, Named, all_names, names_of_condition, names_of_expression, names_of_function, names_of_tree, tables_in_condition, tables_in_expression, tables_in_function, tables_in_tree, Agree}

-- the laws, as the calls of them say
abbrev pub ValuesRead : Type 0
ValuesRead = (tables others : Tables) (x : Expression) → Agree tables others (tables_in_expression x) → value_listing tables x ≡ value_listing others x

abbrev pub ListingsRead : Type 0
ListingsRead = (tables others : Tables) (x : Tree) → Agree tables others (tables_in_tree x) → tree_listing tables x ≡ tree_listing others x

abbrev condition_named : Node Condition-F → Named Condition-F
condition_named d = map-Condition _ _ _ _ _ _ _ _ tables_in_condition tables_in_expression tables_in_function tables_in_tree d

names_rolled : (d : Node Condition-F) → tables_in_condition (roll-Condition d) ≡ names_of_condition (condition_named d)
unfolding tables_in_condition tables_in_expression tables_in_function tables_in_tree
names_rolled d = fold-roll-Condition _ _ _ _ names_of_condition names_of_expression names_of_function names_of_tree d

module _ (values : ValuesRead) (listings : ListingsRead) (tables others : Tables) where
  abbrev first : Layer Tree-F → TreeMeaning
  first = listing_step tables

  abbrev second : Layer Tree-F → TreeMeaning
  second = listing_step others

  on_left : (xs ys : Names) → Agree tables others (xs ++ ys) → Agree tables others xs
  on_left xs ys agree name among = agree name (Contains-append_left xs ys name among)

  on_right : (xs ys : Names) → Agree tables others (xs ++ ys) → Agree tables others ys
  on_right xs ys agree name among = agree name (Contains-append_right xs ys name among)

  abbrev SameCondition : Condition → Type 0
  SameCondition c = Agree tables others (tables_in_condition c) → truth_by first c ≡ truth_by second c

  abbrev SameExpression : Expression → Type 0
  SameExpression e = Agree tables others (tables_in_expression e) → value_by first e ≡ value_by second e

  abbrev SameTree : Tree → Type 0
  SameTree t = Agree tables others (tables_in_tree t) → tree_by first t ≡ tree_by second t

  abbrev Parts : Type 0
  Parts = Condition-F ((c : Condition) × SameCondition c) ((e : Expression) × SameExpression e) ((f : SetFunction) × Unit {0}) ((t : Tree) × SameTree t)

  abbrev condition_of : Parts → Node Condition-F
  condition_of y = map-Condition _ _ _ _ _ _ _ _ (λ p. p.0) (λ p. p.0) (λ p. p.0) (λ p. p.0) y

  all_same : (xs : List ((c : Condition) × SameCondition c)) → Agree tables others (all_names (map tables_in_condition (map (λ (o : (c : Condition) × SameCondition c). o.0) xs)))
      → map (truth_by first) (map (λ (o : (c : Condition) × SameCondition c). o.0) xs) ≡ map (truth_by second) (map (λ (o : (c : Condition) × SameCondition c). o.0) xs)
  all_same [] agree = refl
  all_same (x ∷ xs) agree =
      let rest = all_names (map tables_in_condition (map (λ (o : (c : Condition) × SameCondition c). o.0) xs)) in
      λ i. x.1 (on_left (tables_in_condition x.0) rest agree) i ∷ all_same xs (on_right (tables_in_condition x.0) rest agree) i

  parts : (y : Parts) → Agree tables others (names_of_condition (condition_named (condition_of y))) → condition_meant first (condition_of y) ≡ condition_meant second (condition_of y)
  parts (Condition-F.Or operands) agree = λ i. Condition-F.Or (all_same operands agree i)
  parts (Condition-F.And operands) agree = λ i. Condition-F.And (all_same operands agree i)
  parts (Condition-F.Not operand) agree = λ i. Condition-F.Not (operand.1 agree i)
  parts (Condition-F.IsTruth operand truth) agree = λ i. Condition-F.IsTruth (operand.1 agree i) truth
  parts (Condition-F.Compare op a b) agree =
      λ i. Condition-F.Compare op (a.1 (on_left (tables_in_expression a.0) (tables_in_expression b.0) agree) i) (b.1 (on_right (tables_in_expression a.0) (tables_in_expression b.0) agree) i)
  parts (Condition-F.Between x low high) agree =
      let bounds = on_right (tables_in_expression x.0) (tables_in_expression low.0 ++ tables_in_expression high.0) agree in
      λ i. Condition-F.Between (x.1 (on_left (tables_in_expression x.0) (tables_in_expression low.0 ++ tables_in_expression high.0) agree) i)
      (low.1 (on_left (tables_in_expression low.0) (tables_in_expression high.0) bounds) i) (high.1 (on_right (tables_in_expression low.0) (tables_in_expression high.0) bounds) i)
  parts (Condition-F.InList operand values) agree = λ i. Condition-F.InList (operand.1 agree i) values
  parts (Condition-F.InQuery operand tree) agree =
      λ i. Condition-F.InQuery (operand.1 (on_left (tables_in_expression operand.0) (tables_in_tree tree.0) agree) i) (tree.1 (on_right (tables_in_expression operand.0) (tables_in_tree tree.0) agree) i)
  parts (Condition-F.Like operand pattern) agree =
      λ i. Condition-F.Like (operand.1 (on_left (tables_in_expression operand.0) (tables_in_expression pattern.0) agree) i) (pattern.1 (on_right (tables_in_expression operand.0) (tables_in_expression pattern.0) agree) i)
  parts (Condition-F.IsNull operand) agree = λ i. Condition-F.IsNull (operand.1 agree i)
  parts (Condition-F.Exists tree) agree = λ i. Condition-F.Exists (tree.1 agree i)

  node : (x : Node Condition-F) (y : Parts) → condition_of y ≡ x → SameCondition (roll-Condition x)
  node x y is =
      subst (λ (z : Node Condition-F). SameCondition (roll-Condition z)) is
      (λ agree. condition_rolled first (condition_of y)
      ∙ ap condition_step (parts y (subst (Agree tables others) (names_rolled (condition_of y)) agree)) ∙ sym (condition_rolled second (condition_of y)))

  pub conditions-read : (c : Condition) → Agree tables others (tables_in_condition c) → truth_listing tables c ≡ truth_listing others c
  conditions-read =
      ind-Condition SameCondition SameExpression (λ _. Unit {0}) SameTree node (λ x y is. values tables others (roll-Expression x)) (λ x y is. tt) (λ x y is. listings tables others (roll-Tree x))
