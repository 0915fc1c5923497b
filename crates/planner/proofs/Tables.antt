-- Plain filters of one table: what rules make of them.
use Rattle.std.proofs.Common.{◌≡◌, refl, ap, sym, ◌∙◌, subst, ℕ, Bool, true, false, List, [], ◌∷◌, Option, Some, None, inl, inr, rules}
use Rattle.std.proofs.lemmas.Bool.{false≢true}
use Rattle.std.specs.Option.{option_or}
use Rattle.sqlval.specs.declared.value.Value.{Value}
use Rattle.algebra.specs.Raising.{is_plain, is_plain_expression, is_plain_function, is_plain_tree}
use Rattle.algebra.specs.declared.tree.Bound.{Bound}
use Rattle.algebra.specs.declared.tree.Condition.{Condition, out-Condition, the_lemmas}
use Rattle.algebra.specs.declared.tree.StoredTable.{StoredTable}
use Rattle.algebra.specs.declared.tree.Tree.{Tree, Tree-F, out-Tree}
use Rattle.algebra.specs.declared.tree.Tree.TheVariants as t
use Rattle.key_lookups.specs.Sought.{key_sought}
use Rattle.rewrite_laws.proofs.Found.{filter-found, first-is, given-found, map-found, or-found, some-is, width-filter}
use Rattle.rules.specs.Applied.{here}
use Rattle.rules.specs.Conjuncts.{conjuncts, quiet}
use Rattle.rules.specs.FilterRules.{left_at, not_false, tried_first}
use Rattle.rules.specs.Indexes.{key_first}
use Rattle.rules.specs.JoinRules.{inner_below, on_divided, regrouped_at}
use Rattle.rules.specs.LookupRules.{at_scan, between_both, beyond_one, range_by, seek_by}
use Rattle.rules.specs.Nodes.{Node, at_filter, at_inner, at_product, first_found}
use Rattle.rules.specs.OrderRules.{distinct_dropped, sort_dropped}
use Rattle.rules.specs.SubqueryRules.{half_at, member_at}
use Rattle.rules.specs.Width.{width_of_tree}
use Rattle.rules.specs.declared.rule.Rule.{Rule}
use Rattle.rules.specs.declared.rule.Rule.TheVariants as by
use Rattle.planner.specs.Joins.{OneTable, chooses, ranged, scanned, sifted, sought}
use Rattle.planner.specs.Led.{moves_down}
use Rattle.planner.proofs.Opened.{out-filter, out-range, out-scan, out-seek}
use Rattle.planner.proofs.Overs.{bare-layer, make_range, make_seek, no-half, no-member}
use Rattle.planner.proofs.PlainBare.{plain-bare}

-- what stands below the top node
abbrev pub TableParts : StoredTable → Node Tree-F → Type 0
TableParts table (Tree-F.Scan other) = other ≡ table
TableParts table (Tree-F.Seek other columns key) = other ≡ table
TableParts table (Tree-F.Range other columns low high) = other ≡ table
TableParts table (Tree-F.Filter condition rows) = (is_plain condition ≡ true) × OneTable table rows
TableParts table _ = ⊥

pub table-parts : (table : StoredTable) (tree : Tree) → OneTable table tree → TableParts table (out-Tree tree)
table-parts table tree scanned = subst (TableParts table) (sym (out-scan table)) refl
table-parts table tree (sought columns key) = subst (TableParts table) (sym (out-seek table columns key)) refl
table-parts table tree (ranged columns low high) = subst (TableParts table) (sym (out-range table columns low high)) refl
table-parts table tree (sifted condition rows plain below) =
    subst (TableParts table) (sym (out-filter condition rows)) (plain, below)

pub table-filter : (table : StoredTable) (condition : Condition) (rows : Tree) → OneTable table (t.Filter condition rows)
    → (is_plain condition ≡ true) × OneTable table rows
table-filter table condition rows one =
    subst (TableParts table) (out-filter condition rows) (table-parts table (t.Filter condition rows) one)

-- ---- its width

width-scan : (table : StoredTable) → width_of_tree (t.Scan table) ≡ Some table.width
unfolding width_of_tree
width-scan table = search (rules, the_lemmas)

width-seek : (table : StoredTable) (columns : List ℕ) (key : List Value) → width_of_tree (t.Seek table columns key) ≡ Some table.width
unfolding width_of_tree
width-seek table columns key = search (rules, the_lemmas)

width-range : (table : StoredTable) (columns : List ℕ) (low high : Option Bound)
    → width_of_tree (t.Range table columns low high) ≡ Some table.width
unfolding width_of_tree
width-range table columns low high = search (rules, the_lemmas)

pub table-width : (table : StoredTable) (tree : Tree) → OneTable table tree → width_of_tree tree ≡ Some table.width
table-width table tree scanned = width-scan table
table-width table tree (sought columns key) = width-seek table columns key
table-width table tree (ranged columns low high) = width-range table columns low high
table-width table tree (sifted condition rows plain below) = width-filter condition rows ∙ table-width table rows below

-- ---- rules that are not used

pub table-none : (table : StoredTable) (make : Node Tree-F → Option Tree)
    → ((other : StoredTable) → make (Tree-F.Scan other) ≡ None)
    → ((other : StoredTable) (columns : List ℕ) (key : List Value) → make (Tree-F.Seek other columns key) ≡ None)
    → ((other : StoredTable) (columns : List ℕ) (low high : Option Bound) → make (Tree-F.Range other columns low high) ≡ None)
    → ((condition : Condition) (rows : Tree) → is_plain condition ≡ true → OneTable table rows
    → make (Tree-F.Filter condition rows) ≡ None)
    → (tree : Tree) → OneTable table tree → make (out-Tree tree) ≡ None
table-none table make s k r f tree scanned = ap make (out-scan table) ∙ s table
table-none table make s k r f tree (sought columns key) = ap make (out-seek table columns key) ∙ k table columns key
table-none table make s k r f tree (ranged columns low high) = ap make (out-range table columns low high) ∙ r table columns low high
table-none table make s k r f tree (sifted condition rows plain below) =
    ap make (out-filter condition rows) ∙ f condition rows plain below

not-false-plain : (first : Condition) → is_plain (not_false first) ≡ is_plain first
unfolding is_plain is_plain_expression is_plain_function is_plain_tree
not-false-plain first = search (rules, the_lemmas)

module _ (table : StoredTable) where
  no-product : (make : Tree → Tree → Option Tree) (tree : Tree) → OneTable table tree → at_product make (out-Tree tree) ≡ None
  no-product make = table-none table (at_product make) (λ a. refl) (λ a b c. refl) (λ a b c d. refl) (λ a b c d. refl)

  pub no-inner : (make : Condition → Tree → Tree → Option Tree) (tree : Tree) → OneTable table tree → at_inner make (out-Tree tree) ≡ None
  no-inner make = table-none table (at_inner make) (λ a. refl) (λ a b c. refl) (λ a b c d. refl) (λ a b c d. refl)

  no-left : (calm : Bool) (condition : Condition) (tree : Tree) → OneTable table tree → left_at calm condition (out-Tree tree) ≡ None
  no-left calm condition = table-none table (left_at calm condition) (λ a. refl) (λ a b c. refl) (λ a b c d. refl) (λ a b c d. refl)

  no-padding : (condition : Condition) (tree : Tree) → OneTable table tree → inner_below condition (out-Tree tree) ≡ None
  no-padding condition = table-none table (inner_below condition) (λ a. refl) (λ a b c. refl) (λ a b c d. refl) (λ a b c d. refl)

  pub no-regrouping : (above : Condition) (third tree : Tree) → OneTable table tree → regrouped_at above third (out-Tree tree) ≡ None
  no-regrouping above third = table-none table (regrouped_at above third) (λ a. refl) (λ a b c. refl) (λ a b c d. refl) (λ a b c d. refl)

  pub no-filter : (make : Condition → Tree → Option Tree)
      → ((condition : Condition) (rows : Tree) → is_plain condition ≡ true → OneTable table rows → make condition rows ≡ None)
      → (tree : Tree) → OneTable table tree → at_filter make (out-Tree tree) ≡ None
  no-filter make h = table-none table (at_filter make) (λ a. refl) (λ a b c. refl) (λ a b c d. refl) h

  -- nothing moves down
  pub table-still : (calm : Bool) (rule : Rule) → moves_down rule ≡ true → (tree : Tree) → OneTable table tree
      → here calm rule tree ≡ None
  table-still calm by.FilterBelowProduct m = no-filter _ (λ condition rows plain below. no-product _ rows below)
  table-still calm by.FilterLeftOfLeftJoin m = no-filter (λ condition rows. left_at calm condition (out-Tree rows))
      (λ condition rows plain below. no-left calm condition rows below)
  table-still calm by.LeftToInner m = no-filter (λ condition rows. inner_below condition (out-Tree rows))
      (λ condition rows plain below. no-padding condition rows below)
  table-still calm by.OnIntoRightSide m =
      table-none table on_divided (λ a. refl) (λ a b c. refl) (λ a b c d. refl) (λ a b c d. refl)
  table-still calm _ m = absurd (false≢true m)

  -- ---- look-ups and filters

  sought-there : (condition : Condition) (new : Tree) → is_plain condition ≡ true → (d : Node Tree-F) → TableParts table d
      → at_scan make_seek condition d ≡ Some new → OneTable table new
  sought-there condition new plain (Tree-F.Scan other) is e =
      let first = first-is (seek_by condition other) (key_first other) new e in
      let found = map-found (λ key. t.Filter condition (t.Seek other first.0 key)) (key_sought first.0 condition) new first.1 in
      subst (OneTable table) found.2 (subst (λ (stored : StoredTable). OneTable table (t.Filter condition (t.Seek stored first.0 found.0)))
      (sym is) (sifted condition (t.Seek table first.0 found.0) plain (sought first.0 found.0)))
  sought-there condition new plain _ is e = absurd (cc (e))

  made-range : (condition : Condition) (new : Tree) → is_plain condition ≡ true → (other : StoredTable) → other ≡ table
      → (columns : List ℕ) (low high : Option Bound) → t.Filter condition (t.Range other columns low high) ≡ new → OneTable table new
  made-range condition new plain other is columns low high e = subst (OneTable table) e
      (subst (λ (stored : StoredTable). OneTable table (t.Filter condition (t.Range stored columns low high))) (sym is)
      (sifted condition (t.Range table columns low high) plain (ranged columns low high)))

  by-both : (condition : Condition) (new : Tree) → is_plain condition ≡ true → (other : StoredTable) → other ≡ table
      → (columns : List ℕ) (low high : Option Bound) → between_both condition other columns low high ≡ Some new → OneTable table new
  by-both condition new plain other is columns (Some low) (Some high) e =
      made-range condition new plain other is columns (Some low) (Some high) (some-is e)
  by-both condition new plain other is columns (Some low) None e = absurd (cc (e))
  by-both condition new plain other is columns None high e = absurd (cc (e))

  by-one : (condition : Condition) (new : Tree) → is_plain condition ≡ true → (other : StoredTable) → other ≡ table
      → (columns : List ℕ) (low high : Option Bound) → beyond_one condition other columns low high ≡ Some new → OneTable table new
  by-one condition new plain other is columns None None e = absurd (cc (e))
  by-one condition new plain other is columns (Some low) high e =
      made-range condition new plain other is columns (Some low) high (some-is e)
  by-one condition new plain other is columns None (Some high) e =
      made-range condition new plain other is columns None (Some high) (some-is e)

  by-index : (make : Condition → StoredTable → List ℕ → Option Bound → Option Bound → Option Tree) (condition : Condition) (new : Tree)
      (other : StoredTable)
      → ((columns : List ℕ) (low high : Option Bound) → make condition other columns low high ≡ Some new → OneTable table new)
      → (columns : List ℕ) → range_by make condition other columns ≡ Some new → OneTable table new
  by-index make condition new other h [] e = absurd (cc (e))
  by-index make condition new other h (column ∷ columns) e = h (column ∷ columns) _ _ e

  ranged-there : (condition : Condition) (new : Tree) → is_plain condition ≡ true → (d : Node Tree-F) → TableParts table d
      → at_scan make_range condition d ≡ Some new → OneTable table new
  ranged-there condition new plain (Tree-F.Scan other) is e =
      elim (or-found (first_found (range_by between_both condition other) (key_first other))
      (first_found (range_by beyond_one condition other) (key_first other)) new
      (given-found (quiet condition) (option_or (first_found (range_by between_both condition other) (key_first other))
      (first_found (range_by beyond_one condition other) (key_first other))) new e).1) [
        | inl f ↦ (let first = first-is (range_by between_both condition other) (key_first other) new f in
            by-index between_both condition new other (by-both condition new plain other is) first.0 first.1)
        | inr f ↦ (let first = first-is (range_by beyond_one condition other) (key_first other) new f in
            by-index beyond_one condition new other (by-one condition new plain other is) first.0 first.1)
      ]
  ranged-there condition new plain _ is e = absurd (cc (e))

  tried-there : (condition : Condition) (rows new : Tree) (list : List Condition) → is_plain condition ≡ true → OneTable table rows
      → tried_first condition list rows ≡ Some new → OneTable table new
  tried-there condition rows new [] plain below e = absurd (cc (e))
  tried-there condition rows new (a ∷ []) plain below e = absurd (cc (e))
  tried-there condition rows new (a ∷ (b ∷ rest)) plain below e =
      let made = given-found (is_plain a) (Some (t.Filter condition (t.Filter (not_false a) rows))) new e in
      subst (OneTable table) (some-is made.1) (sifted condition (t.Filter (not_false a) rows) plain
      (sifted (not_false a) rows (not-false-plain a ∙ made.0) below))

  -- of a filter of the table
  at-filter : (make : Condition → Tree → Option Tree) (tree new : Tree)
      → ((condition : Condition) (rows : Tree) → is_plain condition ≡ true → OneTable table rows → make condition rows ≡ Some new
      → OneTable table new)
      → at_filter make (out-Tree tree) ≡ Some new → OneTable table tree → OneTable table new
  at-filter make tree new h e = filter-found (λ (z : Tree). OneTable table z → OneTable table new) new make tree e
      (λ condition rows f one. let parts = table-filter table condition rows one in h condition rows parts.0 parts.1 f)

  unused : {found : Option Tree} {new : Tree} → found ≡ None → found ≡ Some new → OneTable table new
  unused {found} {new} none some = absurd (cc (sym none ∙ some))

  pub table-chosen : (rule : Rule) → chooses rule ≡ true → (tree new : Tree) → here false rule tree ≡ Some new
      → OneTable table tree → OneTable table new
  table-chosen by.ProductToInner m tree new e one =
      unused (no-filter _ (λ condition rows plain below. no-product _ rows below) tree one) e
  table-chosen by.InnerToHashJoin m tree new e one = unused (no-inner _ tree one) e
  table-chosen by.InnerToIndexLoop m tree new e one = unused (no-inner _ tree one) e
  table-chosen by.FilterToSeek m tree new e one = at-filter (λ condition rows. at_scan make_seek condition (out-Tree rows)) tree new
      (λ condition rows plain below f. sought-there condition new plain (out-Tree rows) (table-parts table rows below) f) e one
  table-chosen by.FilterToRange m tree new e one = at-filter (λ condition rows. at_scan make_range condition (out-Tree rows)) tree new
      (λ condition rows plain below f. ranged-there condition new plain (out-Tree rows) (table-parts table rows below) f) e one
  table-chosen by.ExistsToHalf m tree new e one = unused (no-filter (λ condition rows. half_at rows (out-Condition condition))
      (λ condition rows plain below. no-half rows (out-Condition condition) (bare-layer condition (plain-bare condition plain))) tree one) e
  table-chosen by.InToMember m tree new e one = unused (no-filter (λ condition rows. member_at rows (out-Condition condition))
      (λ condition rows plain below. no-member rows (out-Condition condition) (bare-layer condition (plain-bare condition plain))) tree one) e
  table-chosen by.PreFilter m tree new e one = at-filter (λ condition rows. tried_first condition (conjuncts condition) rows) tree new
      (λ condition rows plain below f. tried-there condition rows new (conjuncts condition) plain below f) e one
  table-chosen by.DropDistinct m tree new e one = unused
      (table-none table distinct_dropped (λ a. refl) (λ a b c. refl) (λ a b c d. refl) (λ a b c d. refl) tree one) e
  table-chosen by.SortToRange m tree new e one = unused
      (table-none table sort_dropped (λ a. refl) (λ a b c. refl) (λ a b c d. refl) (λ a b c d. refl) tree one) e
  table-chosen _ m tree new e one = absurd (false≢true m)
