-- Where a plan is looked for: trees over one table, node by node.
use Rattle.std.proofs.Common.{◌≡◌, refl, ap, sym, ◌∙◌, subst, ℕ, Bool, true, false, cond, List, [], ◌∷◌, map, Option, Some, None, ◌⊎◌, inl, inr, Result}
use Rattle.std.proofs.lemmas.Bool.{false≢true}
use Rattle.std.proofs.lemmas.List.Elements.{Contains-append_cases}
use Rattle.std.specs.List.{filter as keep}
use Rattle.std.specs.Option.{option_map}
use Rattle.std.specs.Prelude.{Contains, IfOk}
use Rattle.sqlval.specs.declared.value.Value.{Value}
use Rattle.typing.specs.declared.typed.OrderKey.{OrderKey}
use Rattle.typing.specs.declared.typed.SetOperation.{SetOperation}
use Rattle.algebra.specs.declared.tree.Condition.{Condition}
use Rattle.algebra.specs.declared.tree.Expression.{Expression}
use Rattle.algebra.specs.declared.tree.SetFunction.{SetFunction}
use Rattle.algebra.specs.declared.tree.StoredTable.{StoredTable}
use Rattle.algebra.specs.declared.tree.Tree.{Tree, Tree-F, out-Tree}
use Rattle.algebra.specs.declared.tree.Tree.TheVariants as t
use Rattle.key_lookups.specs.Sought.{key_sought}
use Rattle.rewrite_laws.proofs.CertainCases.{cons-cases, first-some, head-there, key-there, tail-there}
use Rattle.rewrite_laws.proofs.Found.{map-found, or-found}
use Rattle.rules.specs.Applied.{here}
use Rattle.rules.specs.FilterRules.{left_at}
use Rattle.rules.specs.JoinRules.{inner_below, on_divided}
use Rattle.rules.specs.Indexes.{is_key, key_first}
use Rattle.rules.specs.LookupRules.{at_scan, filter_to_seek, seek_by}
use Rattle.rules.specs.Nodes.{Node, at_filter, at_inner, at_product, first_found}
use Rattle.rules.specs.Paths.{as_list, in_condition, in_expression, in_function}
use Rattle.rules.specs.declared.rule.Rule.{Rule}
use Rattle.rules.specs.declared.rule.Rule.TheVariants as by
use Rattle.rule_steps.specs.Attempted.{attempt}
use Rattle.planner.specs.Looks.{IsBare, JoinsNoSubquery, LooksUp, MakesNoJoin, Nearly, Over, Unused, Wants, after, alone, distinct, filter, group, is_filter, is_inner, project, sort}
use Rattle.planner.specs.declared.nodes.Part.{Part}
use Rattle.planner.specs.declared.outline.Outline.{Outline}
use Rattle.planner.proofs.Opened.{out-distinct, out-filter, out-group, out-inner, out-left, out-product, out-project, out-scan, out-seek, out-set, out-sort}
use Rattle.planner.proofs.Overs.{Rest, distinct-over, exists-stays, hash-stays, in-stays, is_settled, loop-stays, make_range, make_seek, over-node, over-none, over-rest, product-stays, range-stays, seek-stays, sort-stays, tried-over}
use Rattle.planner.proofs.Parts.{ok-weaker, with-part, with-tree}

-- ---- a rule that is not used

pub after-none : (calm : Bool) (rule : Rule) (tree : Tree) → Unused calm rule tree → after calm rule None tree ≡ tree
after-none calm rule tree e = ap (λ (found : Option Tree). (attempt found tree).part) e

pub after-some : (calm : Bool) (rule : Rule) (tree new : Tree) → here calm rule tree ≡ Some new → after calm rule None tree ≡ new
after-some calm rule tree new e = ap (λ (found : Option Tree). (attempt found tree).part) e

pub stays : {E : Type 0} (came : Result Outline E) (calm : Bool) (rule : Rule) (tree : Tree) → Unused calm rule tree
    → IfOk came (λ o. o.tree ≡ after calm rule None tree) → IfOk came (λ o. o.tree ≡ tree)
stays came calm rule tree e h =
    ok-weaker came (λ (o : Outline) (f : o.tree ≡ after calm rule None tree). f ∙ after-none calm rule tree e) h

pub stays-at : {E : Type 0} (came : Result Outline E) (calm : Bool) (rule : Rule) (child : Option ℕ) (tree : Tree) → child ≡ None
    → Unused calm rule tree → IfOk came (λ o. o.tree ≡ after calm rule child tree) → IfOk came (λ o. o.tree ≡ tree)
stays-at came calm rule child tree none e h = stays came calm rule tree e
    (subst (λ (k : Option ℕ). IfOk came (λ o. o.tree ≡ after calm rule k tree)) none h)

-- ---- over a table nothing goes down

module _ (table : StoredTable) where
  no-product : (make : Tree → Tree → Option Tree) (tree : Tree) → Over (t.Scan table) tree → at_product make (out-Tree tree) ≡ None
  no-product make = over-none (t.Scan table) (at_product make) (ap (at_product make) (out-scan table))
      (λ a b c d. refl) (λ a b c. refl) (λ a b c. refl) (λ a b. refl) (λ a b c. refl)

  no-left : (calm : Bool) (condition : Condition) (tree : Tree) → Over (t.Scan table) tree → left_at calm condition (out-Tree tree) ≡ None
  no-left calm condition = over-none (t.Scan table) (left_at calm condition) (ap (left_at calm condition) (out-scan table))
      (λ a b c d. refl) (λ a b c. refl) (λ a b c. refl) (λ a b. refl) (λ a b c. refl)

  no-padding : (condition : Condition) (tree : Tree) → Over (t.Scan table) tree → inner_below condition (out-Tree tree) ≡ None
  no-padding condition = over-none (t.Scan table) (inner_below condition) (ap (inner_below condition) (out-scan table))
      (λ a b c d. refl) (λ a b c. refl) (λ a b c. refl) (λ a b. refl) (λ a b c. refl)

  no-filter : (make : Condition → Tree → Option Tree)
      → ((condition : Condition) (rows : Tree) → IsBare (in_condition condition) → Over (t.Scan table) rows → make condition rows ≡ None)
      → (tree : Tree) → Over (t.Scan table) tree → at_filter make (out-Tree tree) ≡ None
  no-filter make h = over-none (t.Scan table) (at_filter make) (ap (at_filter make) (out-scan table))
      h (λ a b c. refl) (λ a b c. refl) (λ a b. refl) (λ a b c. refl)

  pub below-unused : (calm : Bool) (tree : Tree) → Over (t.Scan table) tree → Unused calm by.FilterBelowProduct tree
  below-unused calm = no-filter _ (λ condition rows bare over. no-product _ rows over)

  pub left-unused : (calm : Bool) (tree : Tree) → Over (t.Scan table) tree → Unused calm by.FilterLeftOfLeftJoin tree
  left-unused calm = no-filter (λ condition rows. left_at calm condition (out-Tree rows))
      (λ condition rows bare over. no-left calm condition rows over)

  pub padding-unused : (calm : Bool) (tree : Tree) → Over (t.Scan table) tree → Unused calm by.LeftToInner tree
  padding-unused calm = no-filter (λ condition rows. inner_below condition (out-Tree rows))
      (λ condition rows bare over. no-padding condition rows over)

  pub on-unused : (calm : Bool) (tree : Tree) → Over (t.Scan table) tree → Unused calm by.OnIntoRightSide tree
  on-unused calm = over-none (t.Scan table) on_divided (ap on_divided (out-scan table))
      (λ a b c d. refl) (λ a b c. refl) (λ a b c. refl) (λ a b. refl) (λ a b c. refl)

  -- what stands below a node
  below : (tree node : Tree) (d : Node Tree-F) → tree ≡ node → out-Tree node ≡ d → (Tree-F.Scan table ≡ d → ⊥)
      → Over (t.Scan table) tree → Rest (t.Scan table) d
  below tree node d is e other over = over-node (t.Scan table) tree d (ap out-Tree is ∙ e)
      (λ f. other (sym (out-scan table) ∙ f)) over

  pub scan-filter : (tree : Tree) (condition : Condition) (rows : Tree) → tree ≡ t.Filter condition rows → Over (t.Scan table) tree
      → Over (t.Scan table) rows
  scan-filter tree condition rows is over =
      (below tree (t.Filter condition rows) (Tree-F.Filter condition rows) is (out-filter condition rows) (λ f. cc (f)) over).1

  pub scan-group : (tree : Tree) (columns : Option (List ℕ)) (functions : List SetFunction) (rows : Tree)
      → tree ≡ t.Group columns functions rows → Over (t.Scan table) tree → Over (t.Scan table) rows
  scan-group tree columns functions rows is over = (below tree (t.Group columns functions rows)
      (Tree-F.Group columns functions rows) is (out-group columns functions rows) (λ f. cc (f)) over).1

  pub scan-project : (tree : Tree) (items : List Expression) (rows : Tree) → tree ≡ t.Project items rows → Over (t.Scan table) tree
      → Over (t.Scan table) rows
  scan-project tree items rows is over =
      (below tree (t.Project items rows) (Tree-F.Project items rows) is (out-project items rows) (λ f. cc (f)) over).1

  pub scan-distinct : (tree rows : Tree) → tree ≡ t.Distinct rows → Over (t.Scan table) tree → Over (t.Scan table) rows
  scan-distinct tree rows is over = below tree (t.Distinct rows) (Tree-F.Distinct rows) is (out-distinct rows) (λ f. cc (f)) over

  pub scan-sort : (tree : Tree) (keys : List OrderKey) (rows : Tree) → tree ≡ t.Sort keys rows → Over (t.Scan table) tree
      → Over (t.Scan table) rows
  scan-sort tree keys rows is over = below tree (t.Sort keys rows) (Tree-F.Sort keys rows) is (out-sort keys rows) (λ f. cc (f)) over

  pub scan-product : (tree left right : Tree) → tree ≡ t.Product left right → Over (t.Scan table) tree → ⊥
  scan-product tree left right is over =
      below tree (t.Product left right) (Tree-F.Product left right) is (out-product left right) (λ f. cc (f)) over

  pub scan-inner : (tree : Tree) (on : Condition) (left right : Tree) → tree ≡ t.Inner on left right → Over (t.Scan table) tree → ⊥
  scan-inner tree on left right is over =
      below tree (t.Inner on left right) (Tree-F.Inner on left right) is (out-inner on left right) (λ f. cc (f)) over

  pub scan-left : (tree : Tree) (on : Condition) (left right : Tree) (width : ℕ) → tree ≡ t.Left on left right width
      → Over (t.Scan table) tree → ⊥
  scan-left tree on left right width is over = below tree (t.Left on left right width)
      (Tree-F.Left on left right width) is (out-left on left right width) (λ f. cc (f)) over

  pub scan-set : (tree : Tree) (op : SetOperation) (left right : Tree) → tree ≡ t.Set op left right → Over (t.Scan table) tree → ⊥
  scan-set tree op left right is over =
      below tree (t.Set op left right) (Tree-F.Set op left right) is (out-set op left right) (λ f. cc (f)) over

-- ---- over a filter of it

abbrev asked : Condition → StoredTable → Tree
asked condition table = t.Filter condition (t.Scan table)

-- what the parts of the filter are, or what stands below another
abbrev AtFilter : Condition → StoredTable → Condition → Tree → Type 0
AtFilter condition table c rows = ((c ≡ condition) × (rows ≡ t.Scan table)) ⊎ (IsBare (in_condition c) × Over (asked condition table) rows)

pub asks-filter : (condition : Condition) (table : StoredTable) (tree : Tree) (c : Condition) (rows : Tree)
    → tree ≡ t.Filter c rows → Over (asked condition table) tree → AtFilter condition table c rows
asks-filter condition table tree c rows is over = elim (over-rest (asked condition table) tree over) [
  | inl e ↦ (let f : Tree-F.Filter c rows ≡ Tree-F.Filter condition (t.Scan table) = sym (out-filter c rows) ∙ ap out-Tree (sym is ∙ e)
      ∙ out-filter condition (t.Scan table) in inl (cc (f), cc (f)))
  | inr rest ↦ inr (subst (Rest (asked condition table)) (ap out-Tree is ∙ out-filter c rows) rest)
]

module _ (condition : Condition) (table : StoredTable) where
  under : (tree node : Tree) (d : Node Tree-F) → tree ≡ node → out-Tree node ≡ d → (Tree-F.Filter condition (t.Scan table) ≡ d → ⊥)
      → Over (asked condition table) tree → Rest (asked condition table) d
  under tree node d is e other over = over-node (asked condition table) tree d (ap out-Tree is ∙ e)
      (λ f. other (sym (out-filter condition (t.Scan table)) ∙ f)) over

  pub asks-group : (tree : Tree) (columns : Option (List ℕ)) (functions : List SetFunction) (rows : Tree)
      → tree ≡ t.Group columns functions rows → Over (asked condition table) tree
      → IsBare (as_list (map in_function functions)) × Over (asked condition table) rows
  asks-group tree columns functions rows is over = under tree (t.Group columns functions rows)
      (Tree-F.Group columns functions rows) is (out-group columns functions rows) (λ f. cc (f)) over

  pub asks-project : (tree : Tree) (items : List Expression) (rows : Tree) → tree ≡ t.Project items rows
      → Over (asked condition table) tree → IsBare (as_list (map in_expression items)) × Over (asked condition table) rows
  asks-project tree items rows is over =
      under tree (t.Project items rows) (Tree-F.Project items rows) is (out-project items rows) (λ f. cc (f)) over

  pub asks-distinct : (tree rows : Tree) → tree ≡ t.Distinct rows → Over (asked condition table) tree → Over (asked condition table) rows
  asks-distinct tree rows is over = under tree (t.Distinct rows) (Tree-F.Distinct rows) is (out-distinct rows) (λ f. cc (f)) over

  pub asks-sort : (tree : Tree) (keys : List OrderKey) (rows : Tree) → tree ≡ t.Sort keys rows → Over (asked condition table) tree
      → Over (asked condition table) rows
  asks-sort tree keys rows is over = under tree (t.Sort keys rows) (Tree-F.Sort keys rows) is (out-sort keys rows) (λ f. cc (f)) over

  -- no other node stands there
  pub asks-no : (tree node : Tree) (d : Node Tree-F) → tree ≡ node → out-Tree node ≡ d → (Tree-F.Filter condition (t.Scan table) ≡ d → ⊥)
      → (Rest (asked condition table) d → ⊥) → Over (asked condition table) tree → ⊥
  asks-no tree node d is e other none over = none (under tree node d is e other over)

-- ---- what comes of it

pub looks-more : (condition : Condition) (table : StoredTable) (plan new : Tree) (looks : LooksUp condition table plan)
    → Over (t.Seek table looks.columns looks.key) new → LooksUp condition table new
looks-more condition table plan new looks over = record {
  columns = looks.columns;
  index = looks.index;
  key = looks.key;
  sought = looks.sought;
  over = over;
}

-- a node above what looks up looks up
pub made-looks : {E F : Type 0} (rows : Result Part E) (result : Result Outline F) (condition : Condition) (table : StoredTable)
    → Wants condition table → (made : Tree → Tree) → ((base below : Tree) → Over base below → Over base (made below))
    → ((x : Tree) → IfOk rows (λ part. part.tree ≡ x) → IfOk result (λ o. o.tree ≡ made x))
    → IfOk rows (λ part. LooksUp condition table part.tree) → IfOk result (λ o. Nearly condition table o.tree)
made-looks rows result condition table wants made more is looks =
    with-part rows (LooksUp condition table) (IfOk result (λ o. Nearly condition table o.tree))
    (t.Seek table wants.columns wants.key)
    (record { columns = wants.columns; index = wants.index; key = wants.key; sought = wants.sought; over = alone }) looks
    (λ x l e. ok-weaker result (λ (o : Outline) (f : o.tree ≡ made x). inr (subst (LooksUp condition table) (sym f)
    (looks-more condition table x (made x) l (more (t.Seek table l.columns l.key) x l.over)))) (is x e))

-- and what looks up is a part of a node
pub part-looks : {E F : Type 0} (came : Result Outline E) (result : Result Part F) (condition : Condition) (table : StoredTable)
    → Wants condition table → ((x : Tree) → IfOk came (λ o. o.tree ≡ x) → IfOk result (λ part. part.tree ≡ x))
    → IfOk came (λ o. LooksUp condition table o.tree) → IfOk result (λ part. LooksUp condition table part.tree)
part-looks came result condition table wants is looks =
    with-tree came (LooksUp condition table) (IfOk result (λ part. LooksUp condition table part.tree))
    (t.Seek table wants.columns wants.key)
    (record { columns = wants.columns; index = wants.index; key = wants.key; sought = wants.sought; over = alone }) looks
    (λ x l e. ok-weaker result (λ (part : Part) (f : part.tree ≡ x). subst (LooksUp condition table) (sym f) l) (is x e))

pub asked-stays : {E : Type 0} (result : Result Outline E) (condition : Condition) (table : StoredTable) (c : Condition)
    → c ≡ condition → IfOk result (λ o. o.tree ≡ t.Filter c (t.Scan table)) → IfOk result (λ o. Nearly condition table o.tree)
asked-stays result condition table c is h = ok-weaker result (λ (o : Outline) (e : o.tree ≡ t.Filter c (t.Scan table)).
    inl (e ∙ ap (λ (z : Condition). t.Filter z (t.Scan table)) is)) h

-- ---- the key that is found

pub first-there : {X Y : Type 0} (find : X → Option Y) (xs : List X) (y : Y) → first_found find xs ≡ Some y
    → (x : X) × (Contains xs x) × (find x ≡ Some y)
first-there find [] y e = absurd (cc (e))
first-there find (x ∷ xs) y e = elim (or-found (find x) (first_found find xs) y e) [
  | inl h ↦ (x, head-there x xs, h)
  | inr h ↦ (let r = first-there find xs y h in (r.0, tail-there x xs r.0 r.1, r.2))
]

filter-from : {X : Type 0} (p : X → Bool) (xs : List X) (x : X) → Contains (keep p xs) x → Contains xs x
filter-from p [] x h = h
filter-from {X} p (y ∷ xs) x h = at (p y) h (λ k. filter-from p xs x k)
  where
    at : (b : Bool) → Contains (cond b (y ∷ keep p xs) (keep p xs)) x → (Contains (keep p xs) x → Contains xs x) → Contains (y ∷ xs) x
    at true k rest = elim (cons-cases y (keep p xs) x k) [
      | inl same ↦ subst (λ (z : X). Contains (y ∷ xs) z) same (head-there y xs)
      | inr m ↦ tail-there y xs x (rest m)
    ]
    at false k rest = tail-there y xs x (rest k)

pub index-there : (table : StoredTable) (columns : List ℕ) → Contains (key_first table) columns → Contains table.indexes columns
index-there table columns h = elim (Contains-append_cases (keep (is_key table.key) table.indexes) table.indexes columns h) [
  | inl k ↦ filter-from (is_key table.key) table.indexes columns k
  | inr k ↦ k
]

-- what Q8 makes of the filter
pub record Found (condition : Condition) (table : StoredTable) : Type 0 where
  pub columns : List ℕ
  pub index : Contains table.indexes columns
  pub key : List Value
  pub sought : key_sought columns condition ≡ Some key
  pub made : filter_to_seek (t.Filter condition (t.Scan table)) ≡ Some (t.Filter condition (t.Seek table columns key))

pub seek-found : (condition : Condition) (table : StoredTable) → Wants condition table → Found condition table
seek-found condition table wants =
    let some = first-some (seek_by condition table) (key_first table) wants.columns
    (t.Filter condition (t.Seek table wants.columns wants.key)) (key-there table wants.columns wants.index)
    (ap (option_map (λ key. t.Filter condition (t.Seek table wants.columns key))) wants.sought) in
    let first = first-there (seek_by condition table) (key_first table) some.0 some.1 in
    let found = map-found (λ key. t.Filter condition (t.Seek table first.0 key)) (key_sought first.0 condition) some.0 first.2 in
    record {
      columns = first.0;
      index = index-there table first.0 first.1;
      key = found.0;
      sought = found.1;
      made = ap (at_filter (λ condition rows. at_scan make_seek condition (out-Tree rows))) (out-filter condition (t.Scan table))
          ∙ ap (at_scan make_seek condition) (out-scan table) ∙ some.1 ∙ ap Some (sym found.2);
    }

-- ---- what is chosen at a node

asked-filter : (make : Condition → Tree → Option Tree) (condition : Condition) (table : StoredTable)
    → make condition (t.Scan table) ≡ None → at_filter make (out-Tree (t.Filter condition (t.Scan table))) ≡ None
asked-filter make condition table e = ap (at_filter make) (out-filter condition (t.Scan table)) ∙ e

pub asked-no-join : (condition : Condition) (table : StoredTable) → MakesNoJoin (t.Filter condition (t.Scan table))
asked-no-join condition table = record {
  product = asked-filter _ condition table (ap (at_product (λ left right. Some (t.Inner condition left right))) (out-scan table));
  hash = ap (at_inner _) (out-filter condition (t.Scan table));
  loop = ap (at_inner _) (out-filter condition (t.Scan table));
  inner = ap is_inner (out-filter condition (t.Scan table));
}

settled-leaf : (d : Node Tree-F) → is_settled d ≡ true → is_filter d ≡ false
settled-leaf (Tree-F.Filter condition rows) e = absurd (false≢true e)
settled-leaf _ e = refl

settled-inner : (d : Node Tree-F) → is_settled d ≡ true → is_inner d ≡ false
settled-inner (Tree-F.Inner on left right) e = absurd (false≢true e)
settled-inner _ e = refl

after-over : (base : Tree) (rule : Rule) (tree : Tree) → ((new : Tree) → here false rule tree ≡ Some new → Over base new)
    → Over base tree → Over base (after false rule None tree)
after-over base rule tree h over = at (here false rule tree) h
  where
    at : (found : Option Tree) → ((new : Tree) → found ≡ Some new → Over base new) → Over base (attempt found tree).part
    at None k = over
    at (Some new) k = k new refl

module _ (base : Tree) (settled : is_settled (out-Tree base) ≡ true) where
  over-inner : (tree : Tree) → Over base tree → is_inner (out-Tree tree) ≡ false
  over-inner tree alone = settled-inner (out-Tree base) settled
  over-inner tree (filter condition rows bare over) = ap is_inner (out-filter condition rows)
  over-inner tree (group columns functions rows bare over) = ap is_inner (out-group columns functions rows)
  over-inner tree (project items rows bare over) = ap is_inner (out-project items rows)
  over-inner tree (distinct rows over) = ap is_inner (out-distinct rows)
  over-inner tree (sort keys rows over) = ap is_inner (out-sort keys rows)

  pub no-join : (tree : Tree) → Over base tree → MakesNoJoin tree
  no-join tree over = record {
    product = product-stays base settled tree over;
    hash = hash-stays base settled tree over;
    loop = loop-stays base settled tree over;
    inner = over-inner tree over;
  }

  pub no-subquery : (tree : Tree) → Over base tree → JoinsNoSubquery tree
  no-subquery tree over = record {
    exists = exists-stays base settled tree over;
    member = in-stays base settled tree over;
    base = base;
    leaf = settled-leaf (out-Tree base) settled;
    over = over;
  }

  pub tried-after : (tree : Tree) → Over base tree → Over base (after false by.PreFilter None tree)
  tried-after tree over = after-over base by.PreFilter tree (λ new e. tried-over base settled tree new over e) over

  pub distinct-after : (tree : Tree) → Over base tree → Over base (after false by.DropDistinct None tree)
  distinct-after tree over = after-over base by.DropDistinct tree (λ new e. distinct-over base settled tree new over e) over

  pub looked-after : (tree : Tree) → Over base tree → after false by.FilterToRange None (after false by.FilterToSeek None tree) ≡ tree
  looked-after tree over = ap (λ (z : Tree). after false by.FilterToRange None z)
      (after-none false by.FilterToSeek tree (seek-stays base settled tree over))
      ∙ after-none false by.FilterToRange tree (range-stays base settled tree over)

  pub sort-after : (tree : Tree) → Over base tree → after false by.SortToRange None tree ≡ tree
  sort-after tree over = after-none false by.SortToRange tree (sort-stays base settled tree over)

  -- a conjunct that may be tried first, DISTINCT that may go, a sort that stays
  pub rest-over : {E F G : Type 0} (tried : Result Outline E) (dropped : Result Outline F) (end : Result Outline G) (tree : Tree)
      → Over base tree → IfOk tried (λ o. (o.tree ≡ tree) ⊎ (o.tree ≡ after false by.PreFilter None tree))
      → ((x : Tree) → IfOk tried (λ o. o.tree ≡ x) → IfOk dropped (λ o. o.tree ≡ after false by.DropDistinct None x))
      → ((x : Tree) → IfOk dropped (λ o. o.tree ≡ x) → IfOk end (λ o. o.tree ≡ after false by.SortToRange None x))
      → IfOk end (λ o. Over base o.tree)
  rest-over tried dropped end tree over t d s =
      with-tree tried (Over base) (IfOk end (λ o. Over base o.tree)) tree over
      (ok-weaker tried (λ (o : Outline) (h : (o.tree ≡ tree) ⊎ (o.tree ≡ after false by.PreFilter None tree)). elim h [
        | inl e ↦ subst (Over base) (sym e) over
        | inr e ↦ subst (Over base) (sym e) (tried-after tree over)
      ]) t)
      (λ x o e. ok-weaker end (λ (p : Outline) (f : p.tree ≡ after false by.SortToRange None (after false by.DropDistinct None x)).
      subst (Over base) (sym (f ∙ sort-after (after false by.DropDistinct None x) (distinct-after x o))) (distinct-after x o))
      (s (after false by.DropDistinct None x) (d x e)))

pub seek-settled : (table : StoredTable) (columns : List ℕ) (key : List Value) → is_settled (out-Tree (t.Seek table columns key)) ≡ true
seek-settled table columns key = ap is_settled (out-seek table columns key)

-- at the filter itself rows are looked up
pub asked-looked : (condition : Condition) (table : StoredTable) (found : Found condition table)
    → after false by.FilterToRange None (after false by.FilterToSeek None (t.Filter condition (t.Scan table)))
    ≡ t.Filter condition (t.Seek table found.columns found.key)
asked-looked condition table found =
    let node = t.Filter condition (t.Seek table found.columns found.key) in
    ap (λ (z : Tree). after false by.FilterToRange None z)
    (after-some false by.FilterToSeek (t.Filter condition (t.Scan table)) node found.made)
    ∙ after-none false by.FilterToRange node (ap (at_filter (λ condition rows. at_scan make_range condition (out-Tree rows)))
    (out-filter condition (t.Seek table found.columns found.key))
    ∙ ap (at_scan make_range condition) (out-seek table found.columns found.key))
