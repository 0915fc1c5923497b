-- Where a rule is sure to be used: there it makes the node that is told.
use Rattle.algebra.specs.OrderKeys.{column_of, order_keys, is_column}
use Rattle.algebra.specs.Raising.{condition_may_raise, expression_may_raise, function_may_raise, tree_may_raise, is_plain}
use Rattle.algebra.specs.declared.tree.Condition.{Condition, Condition-F, out-Condition}
use Rattle.algebra.specs.declared.tree.Expression.{Expression, Expression-F, the_lemmas, out-Expression}
use Rattle.algebra.specs.declared.tree.StoredTable.{StoredTable}
use Rattle.algebra.specs.declared.tree.Tree.{Tree, Tree-F, out-Tree}
use Rattle.closed_trees.specs.Outside.{depths_in_tree}
use Rattle.denote.specs.Expression.{column}
use Rattle.denote.specs.Group.{members}
use Rattle.key_lookups.specs.Sought.{conjuncts_at}
use Rattle.rules.specs.declared.rule.Rule.{Rule}
use Rattle.rewrite_laws.proofs.Conditions.{Denials, plain-quiet, none-there}
use Rattle.rewrite_laws.proofs.Found.{map-found, first-is}
use Rattle.rewrite_laws.proofs.Pairs.{pairs}
use Rattle.rules.specs.Applied.{here}
use Rattle.rules.specs.Certain.{own, Compares, HasComparison, CanSplit, CanGoRight, CanJoin, CanLosePadding, CanHash, CanLoop, CanDropDistinct, in_as, CanBeMember, CanTryFirst, Shape}
use Rattle.rules.specs.Columns.{names_only, in_right}
use Rattle.rules.specs.Conjuncts.{conjuncts, quiet, others, and_of}
use Rattle.rules.specs.FilterRules.{split, if_some, on_right, not_false, tried_first}
use Rattle.rules.specs.Indexes.{is_key, key_first}
use Rattle.rules.specs.JoinKeys.{own_place, both_places, pair_in, with_pair, pairs_among, join_pairs, left_places, right_places}
use Rattle.rules.specs.JoinRules.{right_filtered, on_divided, is_right_column, is_constant, fails_on_nulls, inner_below, hashed, inner_to_hash_join, place_for, put_place, places_for, looped, loop_at, inner_to_index_loop}
use Rattle.rules.specs.Nodes.{given, first_found, at_filter, at_product, at_inner}
use Rattle.rules.specs.OrderRules.{source_of, is_item, key_in, has_key, apart_at, distinct_dropped, drop_distinct}
use Rattle.rules.specs.SubqueryRules.{is_closed, member_of, member_under, member_at}
use Rattle.rules.specs.Width.{width_of_tree}
use Rattle.same_laws.proofs.Moved.{and_true}
use Rattle.sqlval.specs.declared.comparison.CompOp.{CompOp}
use Rattle.sqlval.specs.declared.value.Value.{Value}
use Rattle.std.proofs.Common.{◌≡◌, refl, sym, subst, ap, ◌∙◌, ℕ, Bool, List, [], ◌∷◌, Option, true, false, not, ◌&&◌, ◌||◌, cond, Some, None, arith, ◌⊎◌, inl, inr, rules, eq-eqb}
use Rattle.std.proofs.lemmas.Bool.{le-ltb}
use Rattle.std.proofs.lemmas.List.Elements.{Contains-append_left, Contains-append_right, Contains-append_cases, Contains-push_cases, Contains-push}
use Rattle.std.specs.List.{list_any, list_all}
use Rattle.std.specs.Option.{option_map, option_or}
use Rattle.std.specs.Prelude.{◌+◌, ◌-◌, nat_lt, Contains, filter, if◌then◌else◌, option_and_then, ◌==◌}
use Rattle.algebra.specs.declared.tree.Condition.TheVariants as c
use Rattle.algebra.specs.declared.tree.Expression.TheVariants as e
use Rattle.algebra.specs.declared.tree.Tree.TheVariants as t
use Rattle.rules.specs.declared.rule.Rule.TheVariants as rule
use Rattle.sqlval.specs.declared.comparison.CompOp.TheVariants as comparing

-- ---- lists

pub cons-cases : {X : Type 0} (x : X) (xs : List X) (y : X) → Contains (x ∷ xs) y → (x ≡ y) ⊎ Contains xs y
cons-cases x xs y h = elim (Contains-append_cases (x ∷ []) xs y h) [
  | inl k ↦ elim (Contains-push_cases [] x y k) [ inl z ↦ absurd (none-there y z) | inr same ↦ inl same ]
  | inr k ↦ inr k
]

pub head-there : {X : Type 0} (x : X) (xs : List X) → Contains (x ∷ xs) x
head-there x xs = Contains-append_left (x ∷ []) xs x (Contains-push [] x)

pub tail-there : {X : Type 0} (x : X) (xs : List X) (y : X) → Contains xs y → Contains (x ∷ xs) y
tail-there x xs y h = Contains-append_right (x ∷ []) xs y h

pub any-there : {X : Type 0} (p : X → Bool) (xs : List X) (x : X) → Contains xs x → p x ≡ true → list_any p xs ≡ true
any-there p [] x h e = absurd (none-there x h)
any-there p (y ∷ xs) x h e = elim (cons-cases y xs x h) [
  | inl same ↦ ap (λ b. b || list_any p xs) (ap p same ∙ e)
  | inr k ↦ or-true (p y) (list_any p xs) (any-there p xs x k e)
]
  where
    or-true : (a b : Bool) → b ≡ true → (a || b) ≡ true
    or-true true b f = refl
    or-true false b f = f

-- a list with an element has a first one
pub some-there : {X : Type 0} (xs : List X) (x : X) → Contains xs x
    → (first : X) × (rest : List X) × (xs ≡ first ∷ rest)
some-there [] x h = absurd (none-there x h)
some-there (y ∷ xs) x h = (y, xs, refl)

pub filter-there : {X : Type 0} (p : X → Bool) (xs : List X) (x : X) → Contains xs x → p x ≡ true
    → Contains (filter p xs) x
filter-there p [] x h e = absurd (none-there x h)
filter-there {X} p (y ∷ xs) x h e = elim (cons-cases y xs x h) [
  | inl same ↦ subst (λ (b : Bool). Contains (cond b (y ∷ filter p xs) (filter p xs)) x) (sym (ap p same ∙ e))
      (subst (λ (z : X). Contains (y ∷ filter p xs) z) same (head-there y (filter p xs)))
  | inr k ↦ past (p y) (filter-there p xs x k e)
]
  where
    past : (b : Bool) → Contains (filter p xs) x → Contains (cond b (y ∷ filter p xs) (filter p xs)) x
    past true k = tail-there y (filter p xs) x k
    past false k = k

pub if-there : {X Y : Type 0} (xs : List X) (x : X) (made : Y) → Contains xs x → if_some xs made ≡ Some made
if-there [] x made h = absurd (none-there x h)
if-there (y ∷ xs) x made h = refl

pub first-some : {X Y : Type 0} (find : X → Option Y) (xs : List X) (x : X) (y : Y) → Contains xs x → find x ≡ Some y
    → (z : Y) × (first_found find xs ≡ Some z)
first-some find [] x y h e = absurd (none-there x h)
first-some {X} {Y} find (w ∷ xs) x y h e = at (find w) refl (cons-cases w xs x h) (λ k. first-some find xs x y k e)
  where
    at : (found : Option Y) → find w ≡ found → (w ≡ x) ⊎ Contains xs x
        → (Contains xs x → (z : Y) × (first_found find xs ≡ Some z))
        → (z : Y) × (option_or found (first_found find xs) ≡ Some z)
    at (Some z) is k rest = (z, refl)
    at None is (inl same) rest = absurd (let bad = sym is ∙ ap find same ∙ e in cc (bad))
    at None is (inr k) rest = rest k

pub given-true : {X : Type 0} (b : Bool) (found : Option X) → b ≡ true → given b found ≡ found
given-true b found e = ap (λ z. given z found) e

pub key-there : (table : StoredTable) (columns : List ℕ) → Contains table.indexes columns
    → Contains (key_first table) columns
key-there table columns h = Contains-append_right (filter (is_key table.key) table.indexes) table.indexes columns h

-- ---- layers of nodes

pub out-scan : (table : StoredTable) → out-Tree (t.Scan table) ≡ Tree-F.Scan table
out-scan table = search (rules, the_lemmas)

pub out-filter : (condition : Condition) (rows : Tree)
    → out-Tree (t.Filter condition rows) ≡ Tree-F.Filter condition rows
out-filter condition rows = search (rules, the_lemmas)

pub out-product : (left right : Tree) → out-Tree (t.Product left right) ≡ Tree-F.Product left right
out-product left right = search (rules, the_lemmas)

pub out-inner : (on : Condition) (left right : Tree) → out-Tree (t.Inner on left right) ≡ Tree-F.Inner on left right
out-inner on left right = search (rules, the_lemmas)

pub out-left : (on : Condition) (left right : Tree) (width : ℕ)
    → out-Tree (t.Left on left right width) ≡ Tree-F.Left on left right width
out-left on left right width = search (rules, the_lemmas)

pub out-project : (items : List Expression) (rows : Tree) → out-Tree (t.Project items rows) ≡ Tree-F.Project items rows
out-project items rows = search (rules, the_lemmas)

out-distinct : (rows : Tree) → out-Tree (t.Distinct rows) ≡ Tree-F.Distinct rows
out-distinct rows = search (rules, the_lemmas)

pub out-and : (operands : List Condition) → out-Condition (c.And operands) ≡ Condition-F.And operands
out-and operands = search (rules, the_lemmas)

pub out-compare : (op : CompOp) (one other : Expression)
    → out-Condition (c.Compare op one other) ≡ Condition-F.Compare op one other
out-compare op one other = search (rules, the_lemmas)

pub out-exists : (query : Tree) → out-Condition (c.Exists query) ≡ Condition-F.Exists query
out-exists query = search (rules, the_lemmas)

pub out-not : (operand : Condition) → out-Condition (c.Not operand) ≡ Condition-F.Not operand
out-not operand = search (rules, the_lemmas)

out-in_query : (operand : Expression) (members : Tree)
    → out-Condition (c.InQuery operand members) ≡ Condition-F.InQuery operand members
out-in_query operand members = search (rules, the_lemmas)

pub out-column : (depth place : ℕ) → out-Expression (e.Column depth place) ≡ Expression-F.Column depth place
out-column depth place = search (rules, the_lemmas)

pub out-constant : (x : Value) → out-Expression (e.Constant x) ≡ Expression-F.Constant x
out-constant x = search (rules, the_lemmas)

pub conjuncts-and : (operands : List Condition) → conjuncts (c.And operands) ≡ operands
conjuncts-and operands = ap (λ d. conjuncts_at d (c.And operands)) (out-and operands)

pub column-quiet : (depth place : ℕ) → expression_may_raise (e.Column depth place) ≡ false
unfolding condition_may_raise expression_may_raise function_may_raise tree_may_raise
column-quiet depth place = search (rules, the_lemmas)

-- ---- what a rule makes of a node

abbrev pub Made : Bool → Rule → Tree → Type 0
Made calm rule node = (there : Tree) × (here calm rule node ≡ Some there) × Shape rule node there

pub at-filter : (make : Condition → Tree → Option Tree) (node : Tree) (condition : Condition) (rows : Tree)
    → node ≡ t.Filter condition rows
    → at_filter make (out-Tree node) ≡ make condition rows
at-filter make node condition rows is = ap (λ z. at_filter make (out-Tree z)) is
    ∙ ap (at_filter make) (out-filter condition rows)

module _ (denied : Denials) (calm : Bool) where
  pub all-plain-quiet : (conditions : List Condition) → list_all is_plain conditions ≡ true
      → list_all quiet conditions ≡ true
  all-plain-quiet [] h = refl
  all-plain-quiet (condition ∷ conditions) h =
      let p = and_true (is_plain condition) (list_all is_plain conditions) h in
      λ i. plain-quiet denied condition p.0 i && all-plain-quiet conditions p.1 i

  -- Q1
  pub split-certain : (node : Tree) → CanSplit node → Made calm rule.SplitFilter node
  split-certain node h =
      let made = t.Filter (and_of (h.second ∷ h.rest)) (t.Filter h.first h.rows) in (
        made,
        at-filter (λ condition rows. split (conjuncts condition) rows) node
            (c.And (h.first ∷ (h.second ∷ h.rest))) h.rows
            h.is
            ∙ ap (λ conditions. split conditions h.rows) (conjuncts-and (h.first ∷ (h.second ∷ h.rest)))
            ∙ given-true (list_all quiet (h.second ∷ h.rest)) (Some made) (all-plain-quiet (h.second ∷ h.rest) h.plain),
        (and_of (h.second ∷ h.rest), h.first, h.rows, refl),
      )

  -- Q16
  pub try-certain : (node : Tree) → CanTryFirst node → Made calm rule.PreFilter node
  try-certain node h =
      let all = c.And (h.first ∷ (h.second ∷ h.rest)) in
      let made = t.Filter all (t.Filter (not_false h.first) h.rows) in (
        made,
        at-filter (λ condition rows. tried_first condition (conjuncts condition) rows) node all h.rows h.is
            ∙ ap (λ conditions. tried_first all conditions h.rows) (conjuncts-and (h.first ∷ (h.second ∷ h.rest)))
            ∙ given-true (is_plain h.first) (Some made) h.plain,
        (all, not_false h.first, h.rows, refl, h.is),
      )

  -- Q5
  pub join-certain : (node : Tree) → CanJoin node → Made calm rule.ProductToInner node
  join-certain node h = (
    t.Inner h.condition h.left h.right,
    at-filter (λ condition rows. at_product (λ left right. Some (t.Inner condition left right)) (out-Tree rows)) node
        h.condition (t.Product h.left h.right) h.is
        ∙ ap (at_product (λ left right. Some (t.Inner h.condition left right))) (out-product h.left h.right),
    (h.condition, h.left, h.right, refl),
  )

  -- Q4
  pub right-certain : (node : Tree) → CanGoRight node → Made calm rule.OnIntoRightSide node
  right-certain node h =
      let goes = filter (names_only (in_right h.w)) (conjuncts h.on) in
      let below = t.Filter (and_of (on_right h.w goes)) h.right in
      let made = t.Left (and_of (others (names_only (in_right h.w)) (conjuncts h.on))) h.left below h.width in (
        made,
        ap (λ z. on_divided (out-Tree z)) h.is ∙ ap on_divided (out-left h.on h.left h.right h.width)
            ∙ given-true (quiet h.on)
            (option_and_then (right_filtered (conjuncts h.on) h.left h.right h.width) (width_of_tree h.left))
            (plain-quiet denied h.on h.plain)
            ∙ ap (option_and_then (right_filtered (conjuncts h.on) h.left h.right h.width)) h.wide
            ∙ if-there goes h.conjunct made
            (filter-there (names_only (in_right h.w)) (conjuncts h.on) h.conjunct h.among h.side),
        (
          and_of (others (names_only (in_right h.w)) (conjuncts h.on)),
          h.left,
          below,
          h.width,
          refl,
          (and_of (on_right h.w goes), h.right, refl),
        ),
      )

  -- Q14
  pub member-certain : (node : Tree) → CanBeMember node → Made calm rule.InToMember node
  member-certain node h =
      let made = t.Member h.operand h.is_negated h.members h.rows in (
        made,
        at-filter (λ condition rows. member_at rows (out-Condition condition)) node
            (in_as h.is_negated h.operand h.members) h.rows h.is
            ∙ at h.is_negated ∙ given-true (is_closed (depths_in_tree h.members)) (Some made) (ap is_closed h.closed),
        (h.operand, h.is_negated, h.members, h.rows, refl),
      )
    where
      at : (is_negated : Bool) → member_at h.rows (out-Condition (in_as is_negated h.operand h.members))
          ≡ member_of is_negated h.operand h.members h.rows
      at false = ap (member_at h.rows) (out-in_query h.operand h.members)
      at true = ap (member_at h.rows) (out-not (c.InQuery h.operand h.members))
          ∙ ap (member_under h.rows) (out-in_query h.operand h.members)

  -- Q7
  right-column : (w place : ℕ) → nat_lt place w ≡ false → is_right_column w (out-Expression (own place)) ≡ true
  right-column w place past = ap (is_right_column w) (out-column 0 place) ∙ ap not past

  fails : (w place : ℕ) (op : CompOp) (literal : Value) (conjunct : Condition) → nat_lt place w ≡ false
      → Compares op (own place) (e.Constant literal) conjunct
      → fails_on_nulls w (out-Condition conjunct) ≡ true
  fails w place op literal conjunct past (inl is) =
      ap (λ z. fails_on_nulls w (out-Condition z)) is
      ∙ ap (fails_on_nulls w) (out-compare op (own place) (e.Constant literal))
      ∙ (λ i. (right-column w place past i && ap is_constant (out-constant literal) i) ||
      (is_constant (out-Expression (own place)) && is_right_column w (out-Expression (e.Constant literal))))
  fails w place op literal conjunct past (inr is) =
      ap (λ z. fails_on_nulls w (out-Condition z)) is
      ∙ ap (fails_on_nulls w) (out-compare op (e.Constant literal) (own place))
      ∙ (λ i. (ap (is_right_column w) (out-constant literal) i && is_constant (out-Expression (own place))) ||
      (ap is_constant (out-constant literal) i && right-column w place past i))

  pub padding-certain : (node : Tree) → CanLosePadding node → Made calm rule.LeftToInner node
  padding-certain node h =
      let made = t.Filter h.condition (t.Inner h.on h.left h.right) in
      let make = λ (w : ℕ). given
      (list_any (λ conjunct. fails_on_nulls w (out-Condition conjunct)) (conjuncts h.condition)) (Some made) in (
        made,
        at-filter (λ condition rows. inner_below condition (out-Tree rows)) node h.condition
            (t.Left h.on h.left h.right h.width) h.is
            ∙ ap (inner_below h.condition) (out-left h.on h.left h.right h.width)
            ∙ given-true (quiet h.condition) (option_and_then make (width_of_tree h.left))
            (plain-quiet denied h.condition h.plain)
            ∙ ap (option_and_then make) h.wide
            ∙ given-true (list_any (λ conjunct. fails_on_nulls h.w (out-Condition conjunct)) (conjuncts h.condition))
            (Some made)
            (any-there (λ conjunct. fails_on_nulls h.w (out-Condition conjunct)) (conjuncts h.condition)
            h.compares.conjunct
            h.compares.among
            (fails h.w h.place h.op h.literal h.compares.conjunct h.past h.compares.compares)),
        (h.condition, h.on, h.left, h.right, refl),
      )

  -- Q10, Q11
  own-place : (place : ℕ) → own_place (out-Expression (own place)) ≡ Some place
  own-place place = ap own_place (out-column 0 place)

  beyond : (w column : ℕ) → nat_lt (w + column) w ≡ false
  beyond w column = le-ltb (w + column) w (omega arith)

  back : (w column : ℕ) → (w + column) - w ≡ column
  back w column = omega arith

  pair-there : (w place column : ℕ) (conjunct : Condition) → nat_lt place w ≡ true
      → Compares comparing.Equal (own place) (own (w + column)) conjunct
      → pair_in w (out-Condition conjunct) ≡ Some (place, column)
  pair-there w place column conjunct within (inl is) =
      ap (λ z. pair_in w (out-Condition z)) is
      ∙ ap (pair_in w) (out-compare comparing.Equal (own place) (own (w + column)))
      ∙ (λ i. both_places w (own-place place i) (own-place (w + column) i))
      ∙ (λ i. if within i then (if beyond w column i then None else Some (place, (w + column) - w)) else
      (if beyond w column i then Some (w + column, place - w) else None))
      ∙ ap (λ n. Some (place, n)) (back w column)
  pair-there w place column conjunct within (inr is) =
      ap (λ z. pair_in w (out-Condition z)) is
      ∙ ap (pair_in w) (out-compare comparing.Equal (own (w + column)) (own place))
      ∙ (λ i. both_places w (own-place (w + column) i) (own-place place i))
      ∙ (λ i. if beyond w column i then (if within i then None else Some (w + column, place - w)) else
      (if within i then Some (place, (w + column) - w) else None))
      ∙ ap (λ n. Some (place, n)) (back w column)

  pairs-there : (w : ℕ) (conditions : List Condition) (conjunct : Condition) (pair : ℕ × ℕ)
      → Contains conditions conjunct → pair_in w (out-Condition conjunct) ≡ Some pair
      → Contains (pairs_among w conditions) pair
  pairs-there w [] conjunct pair h is = absurd (none-there conjunct h)
  pairs-there w (condition ∷ conditions) conjunct pair h is = elim (cons-cases condition conditions conjunct h) [
    | inl same ↦ subst (λ (found : Option (ℕ × ℕ)). Contains (with_pair found (pairs_among w conditions)) pair)
        (sym (ap (λ z. pair_in w (out-Condition z)) same ∙ is))
        (head-there pair (pairs_among w conditions))
    | inr k ↦ past (pair_in w (out-Condition condition)) (pairs-there w conditions conjunct pair k is)
  ]
    where
      past : (found : Option (ℕ × ℕ)) → Contains (pairs_among w conditions) pair
          → Contains (with_pair found (pairs_among w conditions)) pair
      past None k = k
      past (Some other) k = tail-there other (pairs_among w conditions) pair k

  equated : (w place column : ℕ) (on : Condition) → nat_lt place w ≡ true
      → HasComparison on comparing.Equal (own place) (own (w + column))
      → Contains (join_pairs w on) (place, column)
  equated w place column on within h = pairs-there w (conjuncts on) h.conjunct (place, column) h.among
      (pair-there w place column h.conjunct within h.compares)

  pub hash-certain : (node : Tree) → CanHash node → Made calm rule.InnerToHashJoin node
  hash-certain node h =
      let pairs = join_pairs h.w h.on in
      let made = t.HashJoin h.on h.left h.right (left_places pairs) (right_places pairs) in (
        made,
        ap (λ z. inner_to_hash_join z) h.is
            ∙ ap (at_inner (λ on left right. given (quiet on)
            (option_and_then (λ w. hashed on left right (join_pairs w on)) (width_of_tree left))))
            (out-inner h.on h.left h.right)
            ∙ given-true (quiet h.on)
            (option_and_then (λ w. hashed h.on h.left h.right (join_pairs w h.on)) (width_of_tree h.left))
            (plain-quiet denied h.on h.plain)
            ∙ ap (option_and_then (λ w. hashed h.on h.left h.right (join_pairs w h.on))) h.wide
            ∙ if-there pairs (h.place, h.column) made (equated h.w h.place h.column h.on h.within h.equates),
        (h.on, h.left, h.right, left_places pairs, right_places pairs, refl, h.is),
      )

  place-some : (pairs : List (ℕ × ℕ)) (place column : ℕ) → Contains pairs (place, column)
      → (found : ℕ) × (place_for pairs column ≡ Some found)
  place-some pairs place column h = first-some (λ (pair : ℕ × ℕ). if pair.1 == column then Some pair.0 else None) pairs
      (place, column) place h
      (ap (λ (b : Bool). if b then Some place else None) (eq-eqb column column refl))

  places-some : (pairs : List (ℕ × ℕ)) (columns : List ℕ)
      → ((column : ℕ) → Contains columns column → (place : ℕ) × Contains pairs (place, column))
      → (places : List ℕ) × (places_for pairs columns ≡ Some places)
  places-some pairs [] h = ([], refl)
  places-some pairs (column ∷ columns) h =
      let one = h column (head-there column columns) in
      let place = place-some pairs one.0 column one.1 in
      let rest = places-some pairs columns (λ other k. h other (tail-there column columns other k)) in
      (place.0 ∷ rest.0, λ i. put_place (place.1 i) (rest.1 i))

  pub loop-certain : (node : Tree) → CanLoop node → Made calm rule.InnerToIndexLoop node
  loop-certain node h =
      let pairs = join_pairs h.w h.on in
      let places = places-some pairs h.columns
      (λ column k. let p = h.equates column k in (p.0, equated h.w p.0 column h.on p.1 p.2)) in
      let found = first-some (looped h.on h.left h.table pairs) (key_first h.table) h.columns
      (t.IndexLoop h.on h.left places.0 h.table h.columns)
      (key-there h.table h.columns h.index)
      (ap (option_map (λ places. t.IndexLoop h.on h.left places h.table h.columns)) places.1) in
      let make = λ (w : ℕ). first_found (looped h.on h.left h.table (join_pairs w h.on)) (key_first h.table) in
      let columns = first-is (looped h.on h.left h.table pairs) (key_first h.table) found.0 found.1 in
      let used = map-found (λ places. t.IndexLoop h.on h.left places h.table columns.0)
      (places_for pairs columns.0) found.0 columns.1 in (
        found.0,
        ap (λ z. inner_to_index_loop z) h.is
            ∙ ap (at_inner (λ on left right. loop_at on left (out-Tree right))) (out-inner h.on h.left (t.Scan h.table))
            ∙ ap (loop_at h.on h.left) (out-scan h.table)
            ∙ given-true (quiet h.on) (option_and_then make (width_of_tree h.left)) (plain-quiet denied h.on h.plain)
            ∙ ap (option_and_then make) h.wide ∙ found.1,
        (h.on, h.left, used.0, h.table, columns.0, sym used.2, h.is),
      )

  -- Q12
  column-item : (column : ℕ) → column_of (own column) ≡ Some column
  unfolding column_of order_keys
  column-item column = search (rules, the_lemmas)

  item-there : (items : List Expression) (column : ℕ) → Contains items (own column) → is_item items column ≡ true
  item-there [] column h = absurd (none-there (own column) h)
  item-there (item ∷ items) column h = elim (cons-cases item items (own column) h) [
    | inl same ↦ ap (λ b. b || is_item items column) (ap (is_column column) (ap column_of same ∙ column-item column)
        ∙ eq-eqb column column refl)
    | inr k ↦ or-true (is_column column (column_of item)) (is_item items column) (item-there items column k)
  ]
    where
      or-true : (a b : Bool) → b ≡ true → (a || b) ≡ true
      or-true true b f = refl
      or-true false b f = f

  items-there : (items : List Expression) (columns : List ℕ)
      → ((column : ℕ) → Contains columns column → Contains items (own column)) → list_all (is_item items) columns ≡ true
  items-there items [] h = refl
  items-there items (column ∷ columns) h = λ i.
      item-there items column (h column (head-there column columns)) i && items-there items columns
      (λ other k. h other (tail-there column columns other k)) i

  source-scan : (table : StoredTable) → source_of (t.Scan table) ≡ Some table
  unfolding source_of
  source-scan table = search (rules, the_lemmas)

  pub distinct-certain : (node : Tree) → CanDropDistinct node → Made calm rule.DropDistinct node
  distinct-certain node h =
      let made = t.Project h.items (t.Scan h.table) in (
        made,
        ap (λ z. drop_distinct z) h.is ∙ ap distinct_dropped (out-distinct made)
            ∙ ap apart_at (out-project h.items (t.Scan h.table))
            ∙ given-true (has_key h.items (source_of (t.Scan h.table))) (Some made)
            (ap (has_key h.items) (source-scan h.table) ∙ ap (key_in h.items) h.key
            ∙ items-there h.items h.columns h.there),
        (h.items, t.Scan h.table, refl),
      )
