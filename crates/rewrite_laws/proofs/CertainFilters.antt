-- Q2, Q3 and Q13, where they are sure to be used: there each makes the node that is told.
use Rattle.algebra.specs.Raising.{itself, condition_plain, is_plain}
use Rattle.algebra.specs.declared.tree.Condition.{Condition, Condition-F, out-Condition, roll-out-Condition}
use Rattle.algebra.specs.declared.tree.Tree.{Tree, out-Tree}
use Rattle.denote.specs.Expression.{column}
use Rattle.key_lookups.specs.Sought.{conjuncts_at}
use Rattle.rewrite_laws.proofs.CertainCases.{cons-cases, head-there, filter-there, if-there, given-true, out-scan, out-filter, out-product, out-left, out-project, out-exists, out-not, column-quiet, Made, at-filter}
use Rattle.rewrite_laws.proofs.Conditions.{all-filtered, Denials, plain-quiet, none-there}
use Rattle.rules.specs.Certain.{CanGoBelow, CanGoLeft, exists_as, CanHalve, IsFilter, Shape}
use Rattle.rules.specs.Columns.{Place, names_only, moved, in_left, in_right, from_right, in_half, to_half}
use Rattle.rules.specs.Conjuncts.{conjuncts, quiet, others, and_of, filtered}
use Rattle.rules.specs.FilterRules.{left_of, right_of, of_both, on_right, sides_filtered, left_filtered, left_at}
use Rattle.rules.specs.Nodes.{Node, given, at_product}
use Rattle.rules.specs.SubqueryRules.{half, quiet_item, half_by, half_of_table, half_of_items, half_of_query, half_under, half_at}
use Rattle.rules.specs.Width.{width_of_tree}
use Rattle.same_laws.proofs.Moved.{and_true, condition_asked, condition_names_be}
use Rattle.std.proofs.Common.{◌≡◌, refl, sym, ap, ◌∙◌, ℕ, Bool, List, [], ◌∷◌, ◌++◌, map, true, false, not, ◌&&◌, cond, Some, ◌⊎◌, inl, inr}
use Rattle.std.proofs.lemmas.List.Elements.{Contains-append_left, Contains-append_right}
use Rattle.std.specs.List.{list_all}
use Rattle.std.specs.Prelude.{Contains, option_and_then}
use Rattle.algebra.specs.declared.tree.Condition.TheVariants as c
use Rattle.algebra.specs.declared.tree.Expression.TheVariants as e
use Rattle.algebra.specs.declared.tree.Tree.TheVariants as t
use Rattle.rules.specs.declared.rule.Rule.TheVariants as rule

-- ---- Q13

columns-quiet : (columns : List Place)
    → list_all quiet_item (map (λ (column : Place). e.Column column.0 column.1) columns) ≡ true
columns-quiet [] = refl
columns-quiet (column ∷ columns) = λ i. not (column-quiet column.0 column.1 i) && columns-quiet columns i

module _ (denied : Denials) (calm : Bool) where
  pub half-certain : (node : Tree) → CanHalve node → Made calm rule.ExistsToHalf node
  half-certain node h =
      let items = map (λ (column : Place). e.Column column.0 column.1) h.columns in
      let inner = t.Filter h.condition (t.Scan h.table) in
      let query = t.Project items inner in
      let on = moved (to_half h.w) h.condition in
      let made = half h.wanted on h.left (t.Scan h.table) in (
        made,
        at-filter (λ condition rows. half_at rows (out-Condition condition)) node (exists_as h.wanted query) h.left h.is
            ∙ at h.wanted query
            ∙ ap (half_of_query h.wanted h.left) (out-project items inner)
            ∙ ap (half_of_items h.wanted h.left items) (out-filter h.condition (t.Scan h.table))
            ∙ ap (half_of_table h.wanted items h.condition h.left) (out-scan h.table)
            ∙ ap (option_and_then (half_by h.wanted items h.condition h.table h.left)) h.wide
            ∙ given-true (quiet h.condition && (list_all quiet_item items && names_only (in_half h.w) h.condition))
            (Some made)
            (λ i. plain-quiet denied h.condition h.plain i && (columns-quiet h.columns i && h.names i)),
        kind h.wanted on,
      )
    where
      at : (wanted : Bool) (query : Tree) → half_at h.left (out-Condition (exists_as wanted query))
          ≡ half_of_query wanted h.left (out-Tree query)
      at true query = ap (half_at h.left) (out-exists query)
      at false query = ap (half_at h.left) (out-not (c.Exists query)) ∙ ap (half_under h.left) (out-exists query)

      kind : (wanted : Bool) (on : Condition) → Shape rule.ExistsToHalf node (half wanted on h.left (t.Scan h.table))
      kind true on = (on, h.left, t.Scan h.table, inl refl)
      kind false on = (on, h.left, t.Scan h.table, inr refl)

-- ---- lists that pass a test wholly

all-there : {X : Type 0} (p : X → Bool) (xs : List X) (x : X) → list_all p xs ≡ true → Contains xs x → p x ≡ true
all-there p [] x e h = absurd (none-there x h)
all-there p (y ∷ xs) x e h =
    let both = and_true (p y) (list_all p xs) e in
    elim (cons-cases y xs x h) [ inl same ↦ ap p (sym same) ∙ both.0 | inr k ↦ all-there p xs x both.1 k ]

none-other : {X : Type 0} (p : X → Bool) (xs : List X) → list_all p xs ≡ true → others p xs ≡ []
none-other p [] e = refl
none-other p (x ∷ xs) e =
    let both = and_true (p x) (list_all p xs) e in
    ap (λ b. cond (not b) (x ∷ others p xs) (others p xs)) both.0 ∙ none-other p xs both.1

filtered-is : (conditions : List Condition) (condition : Condition) (rows : Tree) → Contains conditions condition
    → IsFilter (filtered conditions rows)
filtered-is [] condition rows h = absurd (none-there condition h)
filtered-is (first ∷ rest) condition rows h = (and_of (first ∷ rest), rows, refl)

moved-there : (w : ℕ) (conditions : List Condition) (condition : Condition) → Contains conditions condition
    → (other : Condition) × Contains (on_right w conditions) other
moved-there w [] condition h = absurd (none-there condition h)
moved-there w (first ∷ rest) condition h =
    (moved (from_right w) first, head-there (moved (from_right w) first) (on_right w rest))

all-itself : (f : Condition → Bool) (xs : List Condition) → list_all itself (map f xs) ≡ list_all f xs
all-itself f [] = refl
all-itself f (x ∷ xs) = ap (λ b. f x && b) (all-itself f xs)

-- what a whole condition names its conjuncts name
module _ (test : ℕ → ℕ → Bool) where
  names-is : (condition : Condition)
      → names_only test condition ≡ condition_plain (condition_asked test (out-Condition condition))
  names-is condition = ap (names_only test) (sym (roll-out-Condition condition))
      ∙ condition_names_be test (out-Condition condition)

  conjuncts-name : (condition : Condition) → names_only test condition ≡ true
      → list_all (names_only test) (conjuncts condition) ≡ true
  conjuncts-name condition h = at (out-Condition condition) (names-is condition)
    where
      alone : list_all (names_only test) (condition ∷ []) ≡ true
      alone = ap (λ b. b && true) h

      at : (d : Node Condition-F) → names_only test condition ≡ condition_plain (condition_asked test d)
          → list_all (names_only test) (conjuncts_at d condition) ≡ true
      at (Condition-F.And operands) is = sym (all-itself (names_only test) operands) ∙ sym is ∙ h
      at (Condition-F.Or operands) is = alone
      at (Condition-F.Not operand) is = alone
      at (Condition-F.IsTruth operand truth) is = alone
      at (Condition-F.Compare operator left right) is = alone
      at (Condition-F.Between operand low high) is = alone
      at (Condition-F.InList operand values) is = alone
      at (Condition-F.InQuery operand tree) is = alone
      at (Condition-F.Like operand pattern) is = alone
      at (Condition-F.IsNull operand) is = alone
      at (Condition-F.Exists tree) is = alone

-- ---- Q2

module _ (conditions : List Condition) (l r : Tree) (w : ℕ) (conjunct : Condition)
    (among : Contains conditions conjunct) where
  abbrev to-left : List Condition
  to-left = left_of w conditions

  abbrev to-right : List Condition
  to-right = right_of w conditions

  abbrev both-sides : Tree
  both-sides = t.Product (filtered to-left l) (filtered (on_right w to-right) r)

  -- each conjunct names columns of one side
  one-sided : (list_all (names_only (in_left w)) conditions ≡ true) ⊎
      (list_all (names_only (in_right w)) conditions ≡ true) → of_both w conditions ≡ []
  one-sided (inl h) = ap (others (names_only (in_right w))) (none-other (names_only (in_left w)) conditions h)
  one-sided (inr h) = none-other (names_only (in_right w)) (others (names_only (in_left w)) conditions)
      (all-filtered (names_only (in_right w)) (λ x. not (names_only (in_left w) x)) conditions h)

  somewhere : (list_all (names_only (in_left w)) conditions ≡ true) ⊎
      (list_all (names_only (in_right w)) conditions ≡ true) → Contains to-left conjunct ⊎ Contains to-right conjunct
  somewhere h = at (names_only (in_left w) conjunct) refl h
    where
      at : (b : Bool) → names_only (in_left w) conjunct ≡ b
          → (list_all (names_only (in_left w)) conditions ≡ true) ⊎
          (list_all (names_only (in_right w)) conditions ≡ true)
          → Contains to-left conjunct ⊎ Contains to-right conjunct
      at true e k = inl (filter-there (names_only (in_left w)) conditions conjunct among e)
      at false e (inl k) = absurd
          (let bad = sym e ∙ all-there (names_only (in_left w)) conditions conjunct k among in cc (bad))
      at false e (inr k) = inr (filter-there (names_only (in_right w)) (others (names_only (in_left w)) conditions)
          conjunct
          (filter-there (λ x. not (names_only (in_left w) x)) conditions conjunct among (ap not e))
          (all-there (names_only (in_right w)) conditions conjunct k among))

  sides-made : (list_all (names_only (in_left w)) conditions ≡ true) ⊎
      (list_all (names_only (in_right w)) conditions ≡ true)
      → (sides_filtered conditions l r w ≡ Some both-sides)
      × (IsFilter (filtered to-left l) ⊎ IsFilter (filtered (on_right w to-right) r))
  sides-made h = elim (somewhere h) [
    | inl k ↦ (
      if-there (to-left ++ to-right) conjunct (filtered (of_both w conditions) both-sides)
          (Contains-append_left to-left to-right conjunct k) ∙ ap (λ z. Some (filtered z both-sides)) (one-sided h),
      inl (filtered-is to-left conjunct l k),
    )
    | inr k ↦ (
      if-there (to-left ++ to-right) conjunct (filtered (of_both w conditions) both-sides)
          (Contains-append_right to-left to-right conjunct k) ∙ ap (λ z. Some (filtered z both-sides)) (one-sided h),
      (let other = moved-there w to-right conjunct k in inr (filtered-is (on_right w to-right) other.0 r other.1)),
    )
  ]

module _ (denied : Denials) (calm : Bool) (quiet-tree : calm ≡ true) where
  pub below-certain : (tree node : Tree) (h : CanGoBelow tree node) → is_plain h.condition ≡ true
      → Made calm rule.FilterBelowProduct node
  below-certain tree node h plain =
      let all = conjuncts h.condition in
      let side : (list_all (names_only (in_left h.w)) all ≡ true) ⊎ (list_all (names_only (in_right h.w)) all ≡ true) =
      elim h.side [
        | inl k ↦ inl (conjuncts-name (in_left h.w) h.condition k)
        | inr k ↦ inr (conjuncts-name (in_right h.w) h.condition k)
      ] in
      let found = sides-made all h.left h.right h.w h.conjunct h.among side in
      let made = both-sides all h.left h.right h.w h.conjunct h.among in
      let make = λ (condition : Condition) (left right : Tree). given (calm && quiet condition)
      (option_and_then (sides_filtered (conjuncts condition) left right) (width_of_tree left)) in (
        made,
        at-filter (λ condition rows. at_product (make condition) (out-Tree rows)) node h.condition
            (t.Product h.left h.right) h.is
            ∙ ap (at_product (make h.condition)) (out-product h.left h.right)
            ∙ given-true (calm && quiet h.condition)
            (option_and_then (sides_filtered all h.left h.right) (width_of_tree h.left))
            (λ i. quiet-tree i && plain-quiet denied h.condition plain i)
            ∙ ap (option_and_then (sides_filtered all h.left h.right)) h.wide ∙ found.0,
        (filtered (left_of h.w all) h.left, filtered (on_right h.w (right_of h.w all)) h.right, refl, found.1),
      )

  -- ---- Q3

  pub left-certain : (tree node : Tree) (h : CanGoLeft tree node) → is_plain h.condition ≡ true → is_plain h.on ≡ true
      → Made calm rule.FilterLeftOfLeftJoin node
  left-certain tree node h plain plain-on =
      let all = conjuncts h.condition in
      let names = conjuncts-name (in_left h.w) h.condition h.side in
      let goes = left_of h.w all in
      let made = t.Left h.on (filtered goes h.left) h.right h.width in
      let there = filter-there (names_only (in_left h.w)) all h.conjunct h.among
      (all-there (names_only (in_left h.w)) all h.conjunct names h.among) in (
        made,
        at-filter (λ condition rows. left_at calm condition (out-Tree rows)) node h.condition
            (t.Left h.on h.left h.right h.width) h.is
            ∙ ap (left_at calm h.condition) (out-left h.on h.left h.right h.width)
            ∙ given-true (calm && (quiet h.condition && quiet h.on))
            (option_and_then (left_filtered all h.on h.left h.right h.width) (width_of_tree h.left))
            (λ i. quiet-tree i && (plain-quiet denied h.condition plain i && plain-quiet denied h.on plain-on i))
            ∙ ap (option_and_then (left_filtered all h.on h.left h.right h.width)) h.wide
            ∙ if-there goes h.conjunct (filtered (others (names_only (in_left h.w)) all) made) there
            ∙ ap (λ z. Some (filtered z made)) (none-other (names_only (in_left h.w)) all names),
        (h.on, filtered goes h.left, h.right, h.width, refl, filtered-is goes h.conjunct h.left there),
      )
