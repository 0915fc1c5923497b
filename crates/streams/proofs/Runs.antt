-- What can be run of a plan: its parts.
use Rattle.std.proofs.Common.{◌≡◌, refl, sym, ap, ◌∙◌, subst, ℕ, Bool, List, [], ◌∷◌, ◌++◌, map, Option, Result, Ok, Err, IfOk, rules}
use Rattle.std.proofs.lemmas.List.Elements.{Contains-append_left, Contains-append_right}
use Rattle.typing.specs.declared.typed.OrderKey.{OrderKey}
use Rattle.typing.specs.declared.typed.SetOperation.{SetOperation}
use Rattle.sqlval.specs.declared.value.Value.{Value}
use Rattle.algebra.specs.declared.tree.Bound.{Bound}
use Rattle.algebra.specs.declared.tree.Condition.{Condition}
use Rattle.algebra.specs.declared.tree.Expression.{Expression, the_lemmas}
use Rattle.algebra.specs.declared.tree.SetFunction.{SetFunction}
use Rattle.algebra.specs.declared.tree.StoredTable.{StoredTable}
use Rattle.algebra.specs.declared.tree.Tree.{Tree}
use Rattle.algebra.specs.declared.tree.Tree.TheVariants as t
use Rattle.algebra.specs.Listing.{truth_listing, value_listing}
use Rattle.denote.specs.Meaning.{Tables}
use Rattle.executor.specs.Arguments.{meant_functions}
use Rattle.std.specs.FinMap.{get}
use Rattle.store.specs.Contents.{rows_of}
use Rattle.store.specs.Indexes.{entries_of}
use Rattle.store.specs.View.{Keeps, Shown}
use Rattle.places.specs.Indexes.{AreIndexed, HasIndexes, sought_in}
use Rattle.places.specs.Left.{entries_in, rows_by}
use Rattle.places.proofs.IndexNodes.{sought_distinct, sought_filter, sought_group, sought_half, sought_hash, sought_inner, sought_left, sought_loop, sought_member, sought_opposite, sought_product, sought_project, sought_set, sought_sort}
use Rattle.tree_tables.specs.TablesRead.{Agree, Names, all_names, tables_in_condition, tables_in_expression, tables_in_function}
use Rattle.tree_tables.proofs.Reading.{conditions-read, expressions-read, functions-read}
use Rattle.streams.specs.Parts.{CanRun, named_in_parts, names_in_parts}

-- ---- the names of a node

pub names_filter : (condition : Condition) (rows : Tree) → names_in_parts (t.Filter condition rows) ≡ tables_in_condition condition ++ names_in_parts rows
unfolding named_in_parts
names_filter condition rows = search (rules, the_lemmas)

pub names_product : (l r : Tree) → names_in_parts (t.Product l r) ≡ names_in_parts l ++ names_in_parts r
unfolding named_in_parts
names_product l r = search (rules, the_lemmas)

pub names_inner : (on : Condition) (l r : Tree) → names_in_parts (t.Inner on l r) ≡ tables_in_condition on ++ (names_in_parts l ++ names_in_parts r)
unfolding named_in_parts
names_inner on l r = search (rules, the_lemmas)

pub names_left : (on : Condition) (l r : Tree) (width : ℕ) → names_in_parts (t.Left on l r width) ≡ tables_in_condition on ++ (names_in_parts l ++ names_in_parts r)
unfolding named_in_parts
names_left on l r width = search (rules, the_lemmas)

pub names_half : (on : Condition) (l r : Tree) → names_in_parts (t.Half on l r) ≡ tables_in_condition on ++ (names_in_parts l ++ names_in_parts r)
unfolding named_in_parts
names_half on l r = search (rules, the_lemmas)

pub names_opposite : (on : Condition) (l r : Tree) → names_in_parts (t.OppositeHalf on l r) ≡ tables_in_condition on ++ (names_in_parts l ++ names_in_parts r)
unfolding named_in_parts
names_opposite on l r = search (rules, the_lemmas)

pub names_group : (columns : Option (List ℕ)) (functions : List SetFunction) (rows : Tree) → names_in_parts (t.Group columns functions rows) ≡ all_names (map tables_in_function functions) ++ names_in_parts rows
unfolding named_in_parts
names_group columns functions rows = search (rules, the_lemmas)

pub names_project : (items : List Expression) (rows : Tree) → names_in_parts (t.Project items rows) ≡ all_names (map tables_in_expression items) ++ names_in_parts rows
unfolding named_in_parts
names_project items rows = search (rules, the_lemmas)

pub names_distinct : (rows : Tree) → names_in_parts (t.Distinct rows) ≡ names_in_parts rows
unfolding named_in_parts
names_distinct rows = search (rules, the_lemmas)

pub names_set : (op : SetOperation) (l r : Tree) → names_in_parts (t.Set op l r) ≡ names_in_parts l ++ names_in_parts r
unfolding named_in_parts
names_set op l r = search (rules, the_lemmas)

pub names_sort : (keys : List OrderKey) (rows : Tree) → names_in_parts (t.Sort keys rows) ≡ names_in_parts rows
unfolding named_in_parts
names_sort keys rows = search (rules, the_lemmas)

pub names_loop : (on : Condition) (l : Tree) (places : List ℕ) (table : StoredTable) (columns : List ℕ) → names_in_parts (t.IndexLoop on l places table columns) ≡ tables_in_condition on ++ names_in_parts l
unfolding named_in_parts
names_loop on l places table columns = search (rules, the_lemmas)

pub names_hash : (on : Condition) (l r : Tree) (left_places right_places : List ℕ) → names_in_parts (t.HashJoin on l r left_places right_places) ≡ tables_in_condition on ++ (names_in_parts l ++ names_in_parts r)
unfolding named_in_parts
names_hash on l r left_places right_places = search (rules, the_lemmas)

pub names_member : (operand : Expression) (is_negated : Bool) (members rows : Tree) → names_in_parts (t.Member operand is_negated members rows) ≡ tables_in_expression operand ++ (names_in_parts members ++ names_in_parts rows)
unfolding named_in_parts
names_member operand is_negated members rows = search (rules, the_lemmas)

pub names_scan : (table : StoredTable) → names_in_parts (t.Scan table) ≡ []
unfolding named_in_parts
names_scan table = search (rules, the_lemmas)

pub names_seek : (table : StoredTable) (columns : List ℕ) (key : List Value) → names_in_parts (t.Seek table columns key) ≡ []
unfolding named_in_parts
names_seek table columns key = search (rules, the_lemmas)

pub names_range : (table : StoredTable) (columns : List ℕ) (low high : Option Bound) → names_in_parts (t.Range table columns low high) ≡ []
unfolding named_in_parts
names_range table columns low high = search (rules, the_lemmas)

pub ruleset part_names = (names_scan, names_seek, names_range, names_filter, names_product, names_inner, names_left, names_half, names_opposite, names_group, names_project, names_distinct, names_set, names_sort, names_loop, names_hash, names_member)

module _ (tables : Tables) (shown : Shown) where
  abbrev others : Tables
  others = rows_by (entries_in shown)

  on_left : (xs ys : Names) → Agree tables others (xs ++ ys) → Agree tables others xs
  on_left xs ys agree name among = agree name (Contains-append_left xs ys name among)

  on_right : (xs ys : Names) → Agree tables others (xs ++ ys) → Agree tables others ys
  on_right xs ys agree name among = agree name (Contains-append_right xs ys name among)

  sought_left_side : (xs ys : List StoredTable) → AreIndexed shown.contents (xs ++ ys) → AreIndexed shown.contents xs
  sought_left_side xs ys are table among = are table (Contains-append_left xs ys table among)

  sought_right_side : (xs ys : List StoredTable) → AreIndexed shown.contents (xs ++ ys) → AreIndexed shown.contents ys
  sought_right_side xs ys are table among = are table (Contains-append_right xs ys table among)

  values-read : (items : List Expression) → Agree tables others (all_names (map tables_in_expression items))
      → map (value_listing tables) items ≡ map (value_listing others) items
  values-read [] agree = refl
  values-read (item ∷ items) agree =
      let rest = all_names (map tables_in_expression items) in
      λ i. expressions-read tables others item (on_left (tables_in_expression item) rest agree) i ∷ values-read items (on_right (tables_in_expression item) rest agree) i

  arguments-read : (functions : List SetFunction) → Agree tables others (all_names (map tables_in_function functions))
      → meant_functions tables functions ≡ meant_functions others functions
  arguments-read [] agree = refl
  arguments-read (function ∷ functions) agree =
      let rest = all_names (map tables_in_function functions) in
      λ i. functions-read tables others function (on_left (tables_in_function function) rest agree) i ∷ arguments-read functions (on_right (tables_in_function function) rest agree) i

  -- a node without a part of its own, and one tree below
  one_below : (tree below : Tree) → names_in_parts tree ≡ names_in_parts below → sought_in tree ≡ sought_in below
      → CanRun tables shown tree → CanRun tables shown below
  one_below tree below names sought runs = record {
    lent = subst (Agree tables others) names runs.lent;
    indexed = subst (AreIndexed shown.contents) sought runs.indexed;
  }

  -- with a part
  part_below : (tree below : Tree) (part : Names) → names_in_parts tree ≡ part ++ names_in_parts below → sought_in tree ≡ sought_in below
      → CanRun tables shown tree → Agree tables others part × CanRun tables shown below
  part_below tree below part names sought runs =
      let agree = subst (Agree tables others) names runs.lent in (
        on_left part (names_in_parts below) agree,
        record {
          lent = on_right part (names_in_parts below) agree;
          indexed = subst (AreIndexed shown.contents) sought runs.indexed;
        },
      )

  -- two trees below
  two_below : (tree l r : Tree) → names_in_parts tree ≡ names_in_parts l ++ names_in_parts r → sought_in tree ≡ sought_in l ++ sought_in r
      → CanRun tables shown tree → CanRun tables shown l × CanRun tables shown r
  two_below tree l r names sought runs =
      let agree = subst (Agree tables others) names runs.lent in
      let are = subst (AreIndexed shown.contents) sought runs.indexed in (
        record { lent = on_left (names_in_parts l) (names_in_parts r) agree; indexed = sought_left_side (sought_in l) (sought_in r) are },
        record { lent = on_right (names_in_parts l) (names_in_parts r) agree; indexed = sought_right_side (sought_in l) (sought_in r) are },
      )

  -- with a part
  part_two : (tree l r : Tree) (part : Names) → names_in_parts tree ≡ part ++ (names_in_parts l ++ names_in_parts r) → sought_in tree ≡ sought_in l ++ sought_in r
      → CanRun tables shown tree → Agree tables others part × (CanRun tables shown l × CanRun tables shown r)
  part_two tree l r part names sought runs =
      let agree = subst (Agree tables others) names runs.lent in
      let sides = on_right part (names_in_parts l ++ names_in_parts r) agree in
      let are = subst (AreIndexed shown.contents) sought runs.indexed in (
        on_left part (names_in_parts l ++ names_in_parts r) agree,
        (
          record { lent = on_left (names_in_parts l) (names_in_parts r) sides; indexed = sought_left_side (sought_in l) (sought_in r) are },
          record { lent = on_right (names_in_parts l) (names_in_parts r) sides; indexed = sought_right_side (sought_in l) (sought_in r) are },
        ),
      )

  -- ---- what each node's parts mean, and what runs below it

  abbrev pub SameTruth : Condition → Type 0
  SameTruth condition = truth_listing tables condition ≡ truth_listing others condition

  pub run_filter : (condition : Condition) (rows : Tree) → CanRun tables shown (t.Filter condition rows)
      → SameTruth condition × CanRun tables shown rows
  run_filter condition rows runs = let parts = part_below (t.Filter condition rows) rows (tables_in_condition condition) (names_filter condition rows) (sought_filter condition rows) runs in
      (conditions-read tables others condition parts.0, parts.1)

  pub run_project : (items : List Expression) (rows : Tree) → CanRun tables shown (t.Project items rows)
      → (map (value_listing tables) items ≡ map (value_listing others) items) × CanRun tables shown rows
  run_project items rows runs = let parts = part_below (t.Project items rows) rows (all_names (map tables_in_expression items)) (names_project items rows) (sought_project items rows) runs in
      (values-read items parts.0, parts.1)

  pub run_group : (columns : Option (List ℕ)) (functions : List SetFunction) (rows : Tree) → CanRun tables shown (t.Group columns functions rows)
      → (meant_functions tables functions ≡ meant_functions others functions) × CanRun tables shown rows
  run_group columns functions rows runs = let parts = part_below (t.Group columns functions rows) rows (all_names (map tables_in_function functions)) (names_group columns functions rows) (sought_group columns functions rows) runs in
      (arguments-read functions parts.0, parts.1)

  pub run_distinct : (rows : Tree) → CanRun tables shown (t.Distinct rows) → CanRun tables shown rows
  run_distinct rows = one_below (t.Distinct rows) rows (names_distinct rows) (sought_distinct rows)

  pub run_sort : (keys : List OrderKey) (rows : Tree) → CanRun tables shown (t.Sort keys rows) → CanRun tables shown rows
  run_sort keys rows = one_below (t.Sort keys rows) rows (names_sort keys rows) (sought_sort keys rows)

  pub run_set : (op : SetOperation) (l r : Tree) → CanRun tables shown (t.Set op l r) → CanRun tables shown l × CanRun tables shown r
  run_set op l r = two_below (t.Set op l r) l r (names_set op l r) (sought_set op l r)

  pub run_product : (l r : Tree) → CanRun tables shown (t.Product l r) → CanRun tables shown l × CanRun tables shown r
  run_product l r = two_below (t.Product l r) l r (names_product l r) (sought_product l r)

  on_two : (on : Condition) (tree l r : Tree) → names_in_parts tree ≡ tables_in_condition on ++ (names_in_parts l ++ names_in_parts r) → sought_in tree ≡ sought_in l ++ sought_in r
      → CanRun tables shown tree → SameTruth on × (CanRun tables shown l × CanRun tables shown r)
  on_two on tree l r names sought runs = let parts = part_two tree l r (tables_in_condition on) names sought runs in
      (conditions-read tables others on parts.0, parts.1)

  pub run_inner : (on : Condition) (l r : Tree) → CanRun tables shown (t.Inner on l r) → SameTruth on × (CanRun tables shown l × CanRun tables shown r)
  run_inner on l r = on_two on (t.Inner on l r) l r (names_inner on l r) (sought_inner on l r)

  pub run_left : (on : Condition) (l r : Tree) (width : ℕ) → CanRun tables shown (t.Left on l r width) → SameTruth on × (CanRun tables shown l × CanRun tables shown r)
  run_left on l r width = on_two on (t.Left on l r width) l r (names_left on l r width) (sought_left on l r width)

  pub run_half : (on : Condition) (l r : Tree) → CanRun tables shown (t.Half on l r) → SameTruth on × (CanRun tables shown l × CanRun tables shown r)
  run_half on l r = on_two on (t.Half on l r) l r (names_half on l r) (sought_half on l r)

  pub run_opposite : (on : Condition) (l r : Tree) → CanRun tables shown (t.OppositeHalf on l r) → SameTruth on × (CanRun tables shown l × CanRun tables shown r)
  run_opposite on l r = on_two on (t.OppositeHalf on l r) l r (names_opposite on l r) (sought_opposite on l r)

  pub run_hash : (on : Condition) (l r : Tree) (places columns : List ℕ) → CanRun tables shown (t.HashJoin on l r places columns) → SameTruth on × (CanRun tables shown l × CanRun tables shown r)
  run_hash on l r places columns = on_two on (t.HashJoin on l r places columns) l r (names_hash on l r places columns) (sought_hash on l r places columns)

  pub run_loop : (on : Condition) (l : Tree) (places : List ℕ) (table : StoredTable) (columns : List ℕ) → CanRun tables shown (t.IndexLoop on l places table columns)
      → SameTruth on × (CanRun tables shown l × AreIndexed shown.contents (table ∷ []))
  run_loop on l places table columns runs =
      let agree = subst (Agree tables others) (names_loop on l places table columns) runs.lent in
      let are = subst (AreIndexed shown.contents) (sought_loop on l places table columns) runs.indexed in (
        conditions-read tables others on (on_left (tables_in_condition on) (names_in_parts l) agree),
        (
          record { lent = on_right (tables_in_condition on) (names_in_parts l) agree; indexed = sought_left_side (sought_in l) (table ∷ []) are },
          sought_right_side (sought_in l) (table ∷ []) are,
        ),
      )

  pub run_member : (operand : Expression) (is_negated : Bool) (members rows : Tree) → CanRun tables shown (t.Member operand is_negated members rows)
      → (value_listing tables operand ≡ value_listing others operand) × (CanRun tables shown members × CanRun tables shown rows)
  run_member operand is_negated members rows runs =
      let parts = part_two (t.Member operand is_negated members rows) members rows (tables_in_expression operand) (names_member operand is_negated members rows) (sought_member operand is_negated members rows) runs in
      (expressions-read tables others operand parts.0, parts.1)

-- it can be run as long as the same tables are shown
pub run-stays : (tables : Tables) (a b : Shown) (tree : Tree) → Keeps a b → CanRun tables a tree → CanRun tables b tree
run-stays tables a b tree keeps runs = record {
  lent = λ name among. runs.lent name among ∙ sym (ap (λ found. rows_of (entries_of (get found name))) keeps.contents);
  indexed = subst (λ found. HasIndexes found tree) (sym keeps.contents) runs.indexed;
}

pub named-same : {E : Type 0} (made : Result Names E) (x : Names) {y : Names} → IfOk made (λ names. names ≡ x) → x ≡ y → IfOk made (λ names. names ≡ y)
named-same (Ok names) x h e = h ∙ e
named-same (Err error) x h e = tt
