-- Trees with nodes of one child above a base: what rules make of them.
use Rattle.std.proofs.Common.{◌≡◌, refl, ap, sym, ◌∙◌, subst, ℕ, Bool, true, false, List, [], ◌∷◌, ◌++◌, map, Option, Some, None, ◌⊎◌, inl, inr, rules}
use Rattle.std.proofs.lemmas.Bool.{false≢true}
use Rattle.std.specs.Option.{option_or}
use Rattle.sqlval.specs.declared.truth.Truth.{Truth}
use Rattle.sqlval.specs.declared.truth.Truth.TheVariants.{False}
use Rattle.sqlval.specs.declared.value.Value.{Value}
use Rattle.typing.specs.declared.typed.OrderKey.{OrderKey}
use Rattle.algebra.specs.Raising.{is_plain}
use Rattle.algebra.specs.declared.tree.Condition.{Condition, Condition-F, out-Condition, roll-Condition, roll-out-Condition, the_lemmas}
use Rattle.algebra.specs.declared.tree.Condition.TheVariants as c
use Rattle.algebra.specs.declared.tree.Expression.{Expression}
use Rattle.algebra.specs.declared.tree.SetFunction.{SetFunction}
use Rattle.algebra.specs.declared.tree.StoredTable.{StoredTable}
use Rattle.algebra.specs.declared.tree.Tree.{Tree, Tree-F, out-Tree, roll-Tree, roll-out-Tree}
use Rattle.algebra.specs.declared.tree.Tree.TheVariants as t
use Rattle.rewrite_laws.proofs.Found.{filter-found, given-found, project-rolled, some-is}
use Rattle.rewrite_laws.proofs.PathLaws.{condition_be}
use Rattle.key_lookups.specs.Sought.{conjuncts_at}
use Rattle.rules.specs.Conjuncts.{conjuncts, quiet}
use Rattle.rules.specs.Indexes.{key_first}
use Rattle.rules.specs.FilterRules.{not_false, pre_filter, tried_first}
use Rattle.rules.specs.JoinRules.{inner_to_hash_join, inner_to_index_loop, product_to_inner}
use Rattle.rules.specs.LookupRules.{at_scan, between_both, beyond_one, filter_to_range, filter_to_seek, range_by, seek_by}
use Rattle.rules.specs.Nodes.{Node, at_filter, at_inner, at_product, first_found, given}
use Rattle.rules.specs.OrderRules.{apart_at, distinct_dropped, drop_distinct, has_key, items_ordered, ordered_at, sort_dropped, sort_to_range, source_of}
use Rattle.rules.specs.Paths.{as_list, in_condition, in_expression, in_function, trees_of}
use Rattle.rules.specs.SubqueryRules.{exists_to_half, half_at, half_under, in_to_member, member_at, member_under}
use Rattle.planner.proofs.Opened.{out-distinct, out-filter, out-group, out-project, out-sort}
use Rattle.planner.specs.Looks.{JoinsNoSubquery, is_filter, IsBare, Over, alone, filter, group, project, distinct, sort}

-- ---- nodes of one child

-- what stands below the top node, if that is one of these
abbrev pub Rest : Tree → Node Tree-F → Type 0
Rest base (Tree-F.Filter condition rows) = IsBare (in_condition condition) × Over base rows
Rest base (Tree-F.Group columns functions rows) = IsBare (as_list (map in_function functions)) × Over base rows
Rest base (Tree-F.Project items rows) = IsBare (as_list (map in_expression items)) × Over base rows
Rest base (Tree-F.Distinct rows) = Over base rows
Rest base (Tree-F.Sort keys rows) = Over base rows
Rest base _ = ⊥

pub over-rest : (base tree : Tree) → Over base tree → (tree ≡ base) ⊎ Rest base (out-Tree tree)
over-rest base tree alone = inl refl
over-rest base tree (filter condition rows bare over) =
    inr (subst (Rest base) (sym (out-filter condition rows)) (bare, over))
over-rest base tree (group columns functions rows bare over) =
    inr (subst (Rest base) (sym (out-group columns functions rows)) (bare, over))
over-rest base tree (project items rows bare over) =
    inr (subst (Rest base) (sym (out-project items rows)) (bare, over))
over-rest base tree (distinct rows over) = inr (subst (Rest base) (sym (out-distinct rows)) over)
over-rest base tree (sort keys rows over) = inr (subst (Rest base) (sym (out-sort keys rows)) over)

pub over-on : (base middle tree : Tree) → Over base middle → Over middle tree → Over base tree
over-on base middle tree below alone = below
over-on base middle tree below (filter condition rows bare over) =
    filter condition rows bare (over-on base middle rows below over)
over-on base middle tree below (group columns functions rows bare over) =
    group columns functions rows bare (over-on base middle rows below over)
over-on base middle tree below (project items rows bare over) =
    project items rows bare (over-on base middle rows below over)
over-on base middle tree below (distinct rows over) = distinct rows (over-on base middle rows below over)
over-on base middle tree below (sort keys rows over) = sort keys rows (over-on base middle rows below over)

-- what is made of none of these nodes
pub over-none : (base : Tree) (make : Node Tree-F → Option Tree) → make (out-Tree base) ≡ None
    → ((condition : Condition) (rows : Tree) → IsBare (in_condition condition) → Over base rows → make (Tree-F.Filter condition rows) ≡ None)
    → ((columns : Option (List ℕ)) (functions : List SetFunction) (rows : Tree) → make (Tree-F.Group columns functions rows) ≡ None)
    → ((items : List Expression) (rows : Tree) → Over base rows → make (Tree-F.Project items rows) ≡ None)
    → ((rows : Tree) → Over base rows → make (Tree-F.Distinct rows) ≡ None)
    → ((keys : List OrderKey) (rows : Tree) → Over base rows → make (Tree-F.Sort keys rows) ≡ None)
    → (tree : Tree) → Over base tree → make (out-Tree tree) ≡ None
over-none base make b f g p d s tree alone = b
over-none base make b f g p d s tree (filter condition rows bare over) = ap make (out-filter condition rows) ∙ f condition rows bare over
over-none base make b f g p d s tree (group columns functions rows bare over) = ap make (out-group columns functions rows) ∙ g columns functions rows
over-none base make b f g p d s tree (project items rows bare over) = ap make (out-project items rows) ∙ p items rows over
over-none base make b f g p d s tree (distinct rows over) = ap make (out-distinct rows) ∙ d rows over
over-none base make b f g p d s tree (sort keys rows over) = ap make (out-sort keys rows) ∙ s keys rows over

-- what stands below a node of which it is known what it is
pub over-node : (base tree : Tree) (d : Node Tree-F) → out-Tree tree ≡ d → (out-Tree base ≡ d → ⊥) → Over base tree → Rest base d
over-node base tree d e other over = elim (over-rest base tree over) [
  | inl is ↦ absurd (other (sym (ap out-Tree is) ∙ e))
  | inr rest ↦ subst (Rest base) e rest
]

-- ---- conditions without a subquery

some-none : {X : Type 0} (x : X) (xs : List X) → x ∷ xs ≡ [] → ⊥
some-none x xs e = cc (e)

front-none : {X : Type 0} (xs ys : List X) → xs ++ ys ≡ [] → xs ≡ []
front-none [] ys e = refl
front-none (x ∷ xs) ys e = absurd (some-none x (xs ++ ys) e)

-- as one that is put together of its layer
pub bare-layer : (condition : Condition) → IsBare (in_condition condition) → IsBare (in_condition (roll-Condition (out-Condition condition)))
bare-layer condition bare = subst (λ (z : Condition). IsBare (in_condition z)) (sym (roll-out-Condition condition)) bare

last-some : {X : Type 0} (xs : List X) (x : X) → xs ++ x ∷ [] ≡ [] → ⊥
last-some [] x e = some-none x [] e
last-some (y ∷ xs) x e = some-none y (xs ++ x ∷ []) e

no-exists : (left : Tree) (d : Node Condition-F) → IsBare (in_condition (roll-Condition d)) → half_under left d ≡ None
no-exists left (Condition-F.Exists query) bare =
    absurd (some-none _ _ (sym (ap (λ z. z.trees) (condition_be (Condition-F.Exists query))) ∙ bare))
no-exists left _ bare = refl

not-bare : (operand : Condition) → IsBare (in_condition (roll-Condition (Condition-F.Not operand))) → IsBare (in_condition operand)
not-bare operand bare = sym (ap (λ z. z.trees) (condition_be (Condition-F.Not operand))) ∙ bare

pub no-half : (left : Tree) (d : Node Condition-F) → IsBare (in_condition (roll-Condition d)) → half_at left d ≡ None
no-half left (Condition-F.Exists query) bare =
    absurd (some-none _ _ (sym (ap (λ z. z.trees) (condition_be (Condition-F.Exists query))) ∙ bare))
no-half left (Condition-F.Not operand) bare =
    no-exists left (out-Condition operand) (bare-layer operand (not-bare operand bare))
no-half left _ bare = refl

no-in : (rows : Tree) (d : Node Condition-F) → IsBare (in_condition (roll-Condition d)) → member_under rows d ≡ None
no-in rows (Condition-F.InQuery operand members) bare =
    absurd (last-some _ _ (sym (ap (λ z. z.trees) (condition_be (Condition-F.InQuery operand members))) ∙ bare))
no-in rows _ bare = refl

pub no-member : (rows : Tree) (d : Node Condition-F) → IsBare (in_condition (roll-Condition d)) → member_at rows d ≡ None
no-member rows (Condition-F.InQuery operand members) bare =
    absurd (last-some _ _ (sym (ap (λ z. z.trees) (condition_be (Condition-F.InQuery operand members))) ∙ bare))
no-member rows (Condition-F.Not operand) bare =
    no-in rows (out-Condition operand) (bare-layer operand (not-bare operand bare))
no-member rows _ bare = refl

exists-rolled : (tree : Tree) → c.Exists tree ≡ roll-Condition (Condition-F.Exists tree)
unfolding roll-Condition denote.Hole.Carrier.roll
exists-rolled tree = refl

in-rolled : (operand : Expression) (tree : Tree) → c.InQuery operand tree ≡ roll-Condition (Condition-F.InQuery operand tree)
unfolding roll-Condition denote.Hole.Carrier.roll
in-rolled operand tree = refl

-- EXISTS and IN have one
pub exists-bare : (condition : Condition) (tree : Tree) → condition ≡ c.Exists tree → IsBare (in_condition condition) → ⊥
exists-bare condition tree is bare = some-none _ _ (sym (ap (λ z. z.trees) (condition_be (Condition-F.Exists tree)))
    ∙ ap (λ (z : Condition). (in_condition z).trees) (sym (is ∙ exists-rolled tree)) ∙ bare)

pub in-bare : (condition : Condition) (operand : Expression) (tree : Tree) → condition ≡ c.InQuery operand tree
    → IsBare (in_condition condition) → ⊥
in-bare condition operand tree is bare =
    last-some _ _ (sym (ap (λ z. z.trees) (condition_be (Condition-F.InQuery operand tree)))
    ∙ ap (λ (z : Condition). (in_condition z).trees) (sym (is ∙ in-rolled operand tree)) ∙ bare)

and-rolled : (operands : List Condition) → c.And operands ≡ roll-Condition (Condition-F.And operands)
unfolding roll-Condition denote.Hole.Carrier.roll
and-rolled operands = refl

not-rolled : (operand : Condition) → c.Not operand ≡ roll-Condition (Condition-F.Not operand)
unfolding roll-Condition denote.Hole.Carrier.roll
not-rolled operand = refl

-- the operands of AND and NOT have none where the condition has none
pub and-bare : (condition : Condition) (operands : List Condition) → condition ≡ c.And operands
    → IsBare (in_condition condition) → trees_of (map in_condition operands) ≡ []
and-bare condition operands is bare = sym (ap (λ z. z.trees) (condition_be (Condition-F.And operands)))
    ∙ ap (λ (z : Condition). (in_condition z).trees) (sym (is ∙ and-rolled operands)) ∙ bare

pub under-bare : (condition operand : Condition) → condition ≡ c.Not operand → IsBare (in_condition condition)
    → IsBare (in_condition operand)
under-bare condition operand is bare =
    not-bare operand (ap (λ (z : Condition). (in_condition z).trees) (sym (is ∙ not-rolled operand)) ∙ bare)

pub head-bare : (conditions : List Condition) (first : Condition) (rest : List Condition)
    → trees_of (map in_condition conditions) ≡ [] → conditions ≡ first ∷ rest → IsBare (in_condition first)
head-bare conditions first rest bare is = front-none (in_condition first).trees (trees_of (map in_condition rest))
    (ap (λ (xs : List Condition). trees_of (map in_condition xs)) (sym is) ∙ bare)

-- nor has the filter on top of a tree that joins no subquery
pub filter-bare : (tree : Tree) (condition : Condition) (rows : Tree) → tree ≡ t.Filter condition rows → JoinsNoSubquery tree
    → IsBare (in_condition condition)
filter-bare tree condition rows is j = elim (over-rest j.base tree j.over) [
  | inl e ↦ absurd (false≢true (sym j.leaf ∙ ap is_filter (ap out-Tree (sym e ∙ is) ∙ out-filter condition rows)))
  | inr rest ↦ (let both : IsBare (in_condition condition) × Over j.base rows =
      subst (Rest j.base) (ap out-Tree is ∙ out-filter condition rows) rest in both.0)
]

-- the first conjunct has none either
first-bare : (condition first : Condition) (rest : List Condition) → IsBare (in_condition condition)
    → conjuncts condition ≡ first ∷ rest → IsBare (in_condition first)
first-bare condition first rest bare e = at (out-Condition condition) (bare-layer condition bare) e
  where
    of-and : (operands : List Condition) → trees_of (map in_condition operands) ≡ [] → operands ≡ first ∷ rest
        → IsBare (in_condition first)
    of-and operands b is = front-none (in_condition first).trees (trees_of (map in_condition rest))
        (ap (λ (xs : List Condition). trees_of (map in_condition xs)) (sym is) ∙ b)

    alone_is : condition ∷ [] ≡ first ∷ rest → IsBare (in_condition first)
    alone_is is = subst (λ (z : Condition). IsBare (in_condition z)) (cc (is)) bare

    at : (d : Node Condition-F) → IsBare (in_condition (roll-Condition d)) → conjuncts_at d condition ≡ first ∷ rest
        → IsBare (in_condition first)
    at (Condition-F.And operands) b is =
        of-and operands (sym (ap (λ z. z.trees) (condition_be (Condition-F.And operands))) ∙ b) is
    at _ b is = alone_is is

trees-not : (operand : Condition) → (in_condition (c.Not operand)).trees ≡ (in_condition operand).trees
unfolding in_condition in_expression in_function
trees-not operand = search (rules, the_lemmas)

trees-truth : (operand : Condition) (truth : Truth) → (in_condition (c.IsTruth operand truth)).trees ≡ (in_condition operand).trees
unfolding in_condition in_expression in_function
trees-truth operand truth = search (rules, the_lemmas)

not-false-bare : (first : Condition) → IsBare (in_condition first) → IsBare (in_condition (not_false first))
not-false-bare first bare = trees-not (c.IsTruth first False) ∙ (trees-truth first False ∙ bare)

-- ---- what look-ups make of a filter of a table

abbrev pub make_seek : Condition → StoredTable → Option Tree
make_seek condition table = first_found (seek_by condition table) (key_first table)

abbrev pub make_range : Condition → StoredTable → Option Tree
make_range condition table = given (quiet condition)
    (option_or (first_found (range_by between_both condition table) (key_first table))
    (first_found (range_by beyond_one condition table) (key_first table)))

-- ---- a base at which no rule is used

abbrev pub is_settled : Node Tree-F → Bool
is_settled (Tree-F.Seek table columns key) = true
is_settled (Tree-F.IndexLoop on left places table columns) = true
is_settled (Tree-F.HashJoin on left right left_places right_places) = true
is_settled _ = false

settled-none : (make : Node Tree-F → Option Tree)
    → ((table : StoredTable) (columns : List ℕ) (key : List Value) → make (Tree-F.Seek table columns key) ≡ None)
    → ((on : Condition) (left : Tree) (places : List ℕ) (table : StoredTable) (columns : List ℕ)
    → make (Tree-F.IndexLoop on left places table columns) ≡ None)
    → ((on : Condition) (left right : Tree) (left_places right_places : List ℕ)
    → make (Tree-F.HashJoin on left right left_places right_places) ≡ None)
    → (d : Node Tree-F) → is_settled d ≡ true → make d ≡ None
settled-none make s l h (Tree-F.Seek table columns key) e = s table columns key
settled-none make s l h (Tree-F.IndexLoop on left places table columns) e = l on left places table columns
settled-none make s l h (Tree-F.HashJoin on left right left_places right_places) e = h on left right left_places right_places
settled-none make s l h _ e = absurd (false≢true e)

-- a node that gives its rows as they are is the one that was there
project-is : (d : Node Tree-F) (new : Tree) → apart_at d ≡ Some new → new ≡ roll-Tree d
project-is (Tree-F.Project items rows) new e =
    sym (some-is (given-found (has_key items (source_of rows)) (Some (t.Project items rows)) new e).1)
    ∙ project-rolled items rows
project-is _ new e = absurd (cc (e))

module _ (base : Tree) (settled : is_settled (out-Tree base) ≡ true) where
  no-product : (make : Tree → Tree → Option Tree) (tree : Tree) → Over base tree → at_product make (out-Tree tree) ≡ None
  no-product make = over-none base (at_product make)
      (settled-none (at_product make) (λ a b c. refl) (λ a b c d e. refl) (λ a b c d e. refl) (out-Tree base) settled)
      (λ a b c d. refl) (λ a b c. refl) (λ a b c. refl) (λ a b. refl) (λ a b c. refl)

  no-inner : (make : Condition → Tree → Tree → Option Tree) (tree : Tree) → Over base tree → at_inner make (out-Tree tree) ≡ None
  no-inner make = over-none base (at_inner make)
      (settled-none (at_inner make) (λ a b c. refl) (λ a b c d e. refl) (λ a b c d e. refl) (out-Tree base) settled)
      (λ a b c d. refl) (λ a b c. refl) (λ a b c. refl) (λ a b. refl) (λ a b c. refl)

  no-scan : (make : Condition → StoredTable → Option Tree) (condition : Condition) (tree : Tree) → Over base tree
      → at_scan make condition (out-Tree tree) ≡ None
  no-scan make condition = over-none base (at_scan make condition)
      (settled-none (at_scan make condition) (λ a b c. refl) (λ a b c d e. refl) (λ a b c d e. refl) (out-Tree base) settled)
      (λ a b c d. refl) (λ a b c. refl) (λ a b c. refl) (λ a b. refl) (λ a b c. refl)

  -- at a filter of such a tree
  no-filter : (make : Condition → Tree → Option Tree)
      → ((condition : Condition) (rows : Tree) → IsBare (in_condition condition) → Over base rows → make condition rows ≡ None)
      → (tree : Tree) → Over base tree → at_filter make (out-Tree tree) ≡ None
  no-filter make h = over-none base (at_filter make)
      (settled-none (at_filter make) (λ a b c. refl) (λ a b c d e. refl) (λ a b c d e. refl) (out-Tree base) settled)
      h (λ a b c. refl) (λ a b c. refl) (λ a b. refl) (λ a b c. refl)

  pub product-stays : (tree : Tree) → Over base tree → product_to_inner tree ≡ None
  product-stays = no-filter (λ condition rows. at_product (λ left right. Some (t.Inner condition left right)) (out-Tree rows))
      (λ condition rows bare over. no-product (λ left right. Some (t.Inner condition left right)) rows over)

  pub hash-stays : (tree : Tree) → Over base tree → inner_to_hash_join tree ≡ None
  hash-stays = no-inner _

  pub loop-stays : (tree : Tree) → Over base tree → inner_to_index_loop tree ≡ None
  loop-stays = no-inner _

  pub seek-stays : (tree : Tree) → Over base tree → filter_to_seek tree ≡ None
  seek-stays = no-filter (λ condition rows. at_scan make_seek condition (out-Tree rows))
      (λ condition rows bare over. no-scan make_seek condition rows over)

  pub range-stays : (tree : Tree) → Over base tree → filter_to_range tree ≡ None
  range-stays = no-filter (λ condition rows. at_scan make_range condition (out-Tree rows))
      (λ condition rows bare over. no-scan make_range condition rows over)

  pub exists-stays : (tree : Tree) → Over base tree → exists_to_half tree ≡ None
  exists-stays = no-filter (λ condition rows. half_at rows (out-Condition condition))
      (λ condition rows bare over. no-half rows (out-Condition condition) (bare-layer condition bare))

  pub in-stays : (tree : Tree) → Over base tree → in_to_member tree ≡ None
  in-stays = no-filter (λ condition rows. member_at rows (out-Condition condition))
      (λ condition rows bare over. no-member rows (out-Condition condition) (bare-layer condition bare))

  no-order : (keys : List OrderKey) (items : List Expression) (tree : Tree) → Over base tree
      → ordered_at keys items (out-Tree tree) ≡ None
  no-order keys items = over-none base (ordered_at keys items)
      (settled-none (ordered_at keys items) (λ a b c. refl) (λ a b c d e. refl) (λ a b c d e. refl) (out-Tree base) settled)
      (λ a b c d. refl) (λ a b c. refl) (λ a b c. refl) (λ a b. refl) (λ a b c. refl)

  no-items : (keys : List OrderKey) (tree : Tree) → Over base tree → items_ordered keys (out-Tree tree) ≡ None
  no-items keys = over-none base (items_ordered keys)
      (settled-none (items_ordered keys) (λ a b c. refl) (λ a b c d e. refl) (λ a b c d e. refl) (out-Tree base) settled)
      (λ a b c d. refl) (λ a b c. refl) (λ items rows over. no-order keys items rows over) (λ a b. refl) (λ a b c. refl)

  pub sort-stays : (tree : Tree) → Over base tree → sort_to_range tree ≡ None
  sort-stays = over-none base sort_dropped
      (settled-none sort_dropped (λ a b c. refl) (λ a b c d e. refl) (λ a b c d e. refl) (out-Tree base) settled)
      (λ a b c d. refl) (λ a b c. refl) (λ a b c. refl) (λ a b. refl) (λ keys rows over. no-items keys rows over)

  -- DISTINCT above it goes, or stays
  pub distinct-over : (tree new : Tree) → Over base tree → drop_distinct tree ≡ Some new → Over base new
  distinct-over tree new alone e = absurd (let n = settled-none distinct_dropped (λ a b c. refl) (λ a b c d e. refl)
      (λ a b c d e. refl) (out-Tree base) settled in cc (sym n ∙ e))
  distinct-over tree new (filter condition rows bare over) e = absurd (cc (sym (ap distinct_dropped (out-filter condition rows)) ∙ e))
  distinct-over tree new (group columns functions rows bare over) e =
      absurd (cc (sym (ap distinct_dropped (out-group columns functions rows)) ∙ e))
  distinct-over tree new (project items rows bare over) e = absurd (cc (sym (ap distinct_dropped (out-project items rows)) ∙ e))
  distinct-over tree new (distinct rows over) e = subst (Over base)
      (sym (project-is (out-Tree rows) new (sym (ap distinct_dropped (out-distinct rows)) ∙ e) ∙ roll-out-Tree rows)) over
  distinct-over tree new (sort keys rows over) e = absurd (cc (sym (ap distinct_dropped (out-sort keys rows)) ∙ e))

  -- a conjunct that is tried first is one more filter
  pub tried-over : (tree new : Tree) → Over base tree → pre_filter tree ≡ Some new → Over base new
  tried-over tree new over e = filter-found (λ (z : Tree). Over base z → Over base new) new
      (λ condition rows. tried_first condition (conjuncts condition) rows) tree e at over
    where
      made : (condition first : Condition) (rest : List Condition) (rows : Tree) → IsBare (in_condition condition)
          → conjuncts condition ≡ first ∷ rest → Over base rows → t.Filter condition (t.Filter (not_false first) rows) ≡ new
          → Over base new
      made condition first rest rows bare is below f = subst (Over base) f
          (filter condition (t.Filter (not_false first) rows) bare
          (filter (not_false first) rows (not-false-bare first (first-bare condition first rest bare is)) below))

      by : (condition : Condition) (rows : Tree) (list : List Condition) → conjuncts condition ≡ list
          → tried_first condition list rows ≡ Some new → IsBare (in_condition condition) → Over base rows → Over base new
      by condition rows [] is f bare below = absurd (cc (f))
      by condition rows (a ∷ []) is f bare below = absurd (cc (f))
      by condition rows (a ∷ (b ∷ rest)) is f bare below = made condition a (b ∷ rest) rows bare is below
          (some-is (given-found (is_plain a) (Some (t.Filter condition (t.Filter (not_false a) rows))) new f).1)

      at : (condition : Condition) (rows : Tree) → tried_first condition (conjuncts condition) rows ≡ Some new
          → Over base (t.Filter condition rows) → Over base new
      at condition rows f o = elim (over-rest base (t.Filter condition rows) o) [
        | inl is ↦ absurd (let n = sym (ap is_settled (ap out-Tree is)) ∙ ap is_settled (out-filter condition rows) in
            false≢true (sym n ∙ settled))
        | inr rest ↦ (let r : IsBare (in_condition condition) × Over base rows = subst (Rest base) (out-filter condition rows) rest in
            by condition rows (conjuncts condition) refl f r.0 r.1)
      ]
