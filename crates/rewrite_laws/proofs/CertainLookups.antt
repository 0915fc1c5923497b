-- Q8 and Q9, where they are sure to be used: there each makes the node that is told.
use Rattle.algebra.specs.declared.tree.Bound.{Bound}
use Rattle.algebra.specs.declared.tree.Condition.{Condition, out-Condition}
use Rattle.algebra.specs.declared.tree.Expression.{out-Expression}
use Rattle.algebra.specs.declared.tree.StoredTable.{StoredTable}
use Rattle.algebra.specs.declared.tree.Tree.{Tree, out-Tree}
use Rattle.denote.specs.Expression.{column}
use Rattle.key_lookups.specs.Sought.{is_column, literal_beside, literal_of, key_sought, first_or, literal_in, literal_for, key_among, put_value}
use Rattle.rewrite_laws.proofs.CertainCases.{cons-cases, head-there, tail-there, first-some, given-true, key-there, out-scan, out-compare, out-column, out-constant, Made, at-filter}
use Rattle.rewrite_laws.proofs.Conditions.{Denials, plain-quiet, none-there}
use Rattle.rewrite_laws.proofs.Found.{some-is, map-found, or-found, first-is}
use Rattle.rules.specs.Bounds.{bound, low_by, high_by, literal_by, low_in, high_in, low_among, high_among}
use Rattle.rules.specs.Certain.{own, Compares, HasComparison, CanSeek, sets_bound, CanRange}
use Rattle.rules.specs.Conjuncts.{conjuncts, quiet}
use Rattle.rules.specs.Indexes.{key_first}
use Rattle.rules.specs.LookupRules.{at_scan, seek_by, between_both, beyond_one, range_by}
use Rattle.rules.specs.Nodes.{given, first_found}
use Rattle.sqlval.specs.declared.comparison.CompOp.{CompOp}
use Rattle.sqlval.specs.declared.comparison.CompOp.TheVariants.{GreaterOrEqual, LessOrEqual}
use Rattle.sqlval.specs.declared.value.Value.{Value}
use Rattle.std.proofs.Common.{◌≡◌, refl, sym, ap, ◌∙◌, ℕ, Bool, List, [], ◌∷◌, Option, true, false, Some, None, ◌⊎◌, inl, inr, eq-eqb}
use Rattle.std.specs.Option.{option_map, option_or}
use Rattle.std.specs.Prelude.{Contains, if◌then◌else◌, option_and_then}
use Rattle.algebra.specs.declared.tree.Condition.TheVariants as c
use Rattle.algebra.specs.declared.tree.Expression.TheVariants as e
use Rattle.algebra.specs.declared.tree.Tree.TheVariants as t
use Rattle.rules.specs.declared.rule.Rule.TheVariants as rule
use Rattle.sqlval.specs.declared.comparison.CompOp.TheVariants as comparing

-- ---- a column beside a literal

is-column : (column : ℕ) → is_column column (out-Expression (own column)) ≡ true
is-column column = ap (is_column column) (out-column 0 column) ∙ eq-eqb column column refl

no-column : (column : ℕ) (literal : Value) → is_column column (out-Expression (e.Constant literal)) ≡ false
no-column column literal = ap (is_column column) (out-constant literal)

literal-is : (literal : Value) → literal_of (out-Expression (e.Constant literal)) ≡ Some literal
literal-is literal = ap literal_of (out-constant literal)

beside : (column : ℕ) (literal : Value)
    → literal_beside column (out-Expression (own column)) (out-Expression (e.Constant literal)) ≡ Some literal
beside column literal = (λ i. if is-column column i then literal_of (out-Expression (e.Constant literal)) else None)
    ∙ literal-is literal

not-beside : (column : ℕ) (literal : Value)
    → literal_beside column (out-Expression (e.Constant literal)) (out-Expression (own column)) ≡ None
not-beside column literal = (λ i. if no-column column literal i then literal_of (out-Expression (own column)) else None)

-- ---- Q8

literal-in : (column : ℕ) (literal : Value) (conjunct : Condition)
    → Compares comparing.Equal (own column) (e.Constant literal) conjunct
    → literal_in column (out-Condition conjunct) ≡ Some literal
literal-in column literal conjunct (inl is) =
    ap (λ z. literal_in column (out-Condition z)) is
    ∙ ap (literal_in column) (out-compare comparing.Equal (own column) (e.Constant literal))
    ∙ (λ i. first_or (beside column literal i)
    (literal_beside column (out-Expression (e.Constant literal)) (out-Expression (own column))))
literal-in column literal conjunct (inr is) =
    ap (λ z. literal_in column (out-Condition z)) is
    ∙ ap (literal_in column) (out-compare comparing.Equal (e.Constant literal) (own column))
    ∙ (λ i. first_or (not-beside column literal i) (beside column literal i))

literal-some : (column : ℕ) (conditions : List Condition) (conjunct : Condition) (literal : Value)
    → Contains conditions conjunct
    → literal_in column (out-Condition conjunct) ≡ Some literal
    → (found : Value) × (literal_for column conditions ≡ Some found)
literal-some column [] conjunct literal h is = absurd (none-there conjunct h)
literal-some column (condition ∷ conditions) conjunct literal h is =
    at (literal_in column (out-Condition condition)) refl (cons-cases condition conditions conjunct h)
    (λ k. literal-some column conditions conjunct literal k is)
  where
    at : (found : Option Value) → literal_in column (out-Condition condition) ≡ found
        → (condition ≡ conjunct) ⊎ Contains conditions conjunct
        → (Contains conditions conjunct → (value : Value) × (literal_for column conditions ≡ Some value))
        → (value : Value) × (first_or found (literal_for column conditions) ≡ Some value)
    at (Some value) there k rest = (value, refl)
    at None there (inl same) rest = absurd (let bad = sym there ∙ ap (λ z. literal_in column (out-Condition z)) same
        ∙ is in cc (bad))
    at None there (inr k) rest = rest k

key-some : (condition : Condition) (columns : List ℕ)
    → ((column : ℕ) → Contains columns column → (literal : Value) × HasComparison condition comparing.Equal (own column)
    (e.Constant literal))
    → (key : List Value) × (key_among (conjuncts condition) columns ≡ Some key)
key-some condition [] h = ([], refl)
key-some condition (column ∷ columns) h =
    let one = h column (head-there column columns) in
    let value = literal-some column (conjuncts condition) one.1.conjunct one.0 one.1.among
    (literal-in column one.0 one.1.conjunct one.1.compares) in
    let rest = key-some condition columns (λ other k. h other (tail-there column columns other k)) in
    (value.0 ∷ rest.0, λ i. put_value (value.1 i) (rest.1 i))

module _ (denied : Denials) (calm : Bool) where
  pub seek-certain : (node : Tree) → CanSeek node → Made calm rule.FilterToSeek node
  seek-certain node h =
      let key = key-some h.condition h.columns h.equates in
      let sought : key_sought h.columns h.condition ≡ Some key.0 =
      ap (λ (b : Bool). if b then None else key_among (conjuncts h.condition) h.columns)
      (denied.plain h.condition h.plain) ∙ key.1 in
      let found = first-some (seek_by h.condition h.table) (key_first h.table) h.columns
      (t.Filter h.condition (t.Seek h.table h.columns key.0))
      (key-there h.table h.columns h.index)
      (ap (option_map (λ key. t.Filter h.condition (t.Seek h.table h.columns key))) sought) in
      let columns = first-is (seek_by h.condition h.table) (key_first h.table) found.0 found.1 in
      let used = map-found (λ key. t.Filter h.condition (t.Seek h.table columns.0 key))
      (key_sought columns.0 h.condition) found.0 columns.1 in (
        found.0,
        at-filter (λ condition rows. at_scan (λ condition table. first_found (seek_by condition table) (key_first table))
            condition (out-Tree rows)) node h.condition (t.Scan h.table) h.is
            ∙ ap (at_scan (λ condition table. first_found (seek_by condition table) (key_first table)) h.condition)
            (out-scan h.table) ∙ found.1,
        (h.condition, h.table, columns.0, used.0, sym used.2, h.plain),
      )

-- ---- Q9

abbrev Bounds : ℕ → Condition → Type 0
Bounds column conjunct = ((limit : Bound) × (low_in column (out-Condition conjunct) ≡ Some limit)) ⊎
    ((limit : Bound) × (high_in column (out-Condition conjunct) ≡ Some limit))

or-some : {X : Type 0} (one other : Option X) (x : X) → other ≡ Some x → (y : X) × (option_or one other ≡ Some y)
or-some None other x h = (x, h)
or-some (Some y) other x h = (y, refl)

module _ (column : ℕ) (literal : Value) (conjunct : Condition) where
  low-first : (op : CompOp) → conjunct ≡ c.Compare op (own column) (e.Constant literal)
      → low_in column (out-Condition conjunct) ≡ option_or (low_by op literal)
      (option_and_then (high_by op) (literal_by column (e.Constant literal) (own column)))
  low-first op is = ap (λ z. low_in column (out-Condition z)) is
      ∙ ap (low_in column) (out-compare op (own column) (e.Constant literal))
      ∙ (λ i. option_or (option_and_then (low_by op) (beside column literal i))
      (option_and_then (high_by op) (literal_by column (e.Constant literal) (own column))))

  high-first : (op : CompOp) → conjunct ≡ c.Compare op (own column) (e.Constant literal)
      → high_in column (out-Condition conjunct) ≡ option_or (high_by op literal)
      (option_and_then (low_by op) (literal_by column (e.Constant literal) (own column)))
  high-first op is = ap (λ z. high_in column (out-Condition z)) is
      ∙ ap (high_in column) (out-compare op (own column) (e.Constant literal))
      ∙ (λ i. option_or (option_and_then (high_by op) (beside column literal i))
      (option_and_then (low_by op) (literal_by column (e.Constant literal) (own column))))

  low-last : (op : CompOp) → conjunct ≡ c.Compare op (e.Constant literal) (own column)
      → low_in column (out-Condition conjunct) ≡ high_by op literal
  low-last op is = ap (λ z. low_in column (out-Condition z)) is
      ∙ ap (low_in column) (out-compare op (e.Constant literal) (own column))
      ∙ (λ i. option_or (option_and_then (low_by op) (not-beside column literal i))
      (option_and_then (high_by op) (beside column literal i)))

  high-last : (op : CompOp) → conjunct ≡ c.Compare op (e.Constant literal) (own column)
      → high_in column (out-Condition conjunct) ≡ low_by op literal
  high-last op is = ap (λ z. high_in column (out-Condition z)) is
      ∙ ap (high_in column) (out-compare op (e.Constant literal) (own column))
      ∙ (λ i. option_or (option_and_then (high_by op) (not-beside column literal i))
      (option_and_then (low_by op) (beside column literal i)))

  bounds-there : (op : CompOp) → sets_bound op ≡ true → Compares op (own column) (e.Constant literal) conjunct
      → Bounds column conjunct
  bounds-there comparing.Greater e (inl is) = inl (bound false literal, low-first comparing.Greater is)
  bounds-there comparing.GreaterOrEqual e (inl is) = inl (bound true literal, low-first comparing.GreaterOrEqual is)
  bounds-there comparing.Less e (inl is) = inr (bound false literal, high-first comparing.Less is)
  bounds-there comparing.LessOrEqual e (inl is) = inr (bound true literal, high-first comparing.LessOrEqual is)
  bounds-there comparing.Greater e (inr is) = inr (bound false literal, high-last comparing.Greater is)
  bounds-there comparing.GreaterOrEqual e (inr is) = inr (bound true literal, high-last comparing.GreaterOrEqual is)
  bounds-there comparing.Less e (inr is) = inl (bound false literal, low-last comparing.Less is)
  bounds-there comparing.LessOrEqual e (inr is) = inl (bound true literal, low-last comparing.LessOrEqual is)
  bounds-there comparing.Equal e h = absurd (cc (e))
  bounds-there comparing.NotEqual e h = absurd (cc (e))

-- what is made by some bound is told
abbrev IsRanged : Condition → Tree → Type 0
IsRanged condition there = (table : StoredTable) × (columns : List ℕ) × (low : Option Bound) × (high : Option Bound)
    × (there ≡ t.Filter condition (t.Range table columns low high))

beyond-some : (condition : Condition) (table : StoredTable) (columns : List ℕ) (low high : Option Bound)
    → ((limit : Bound) × (low ≡ Some limit)) ⊎ ((limit : Bound) × (high ≡ Some limit))
    → (made : Tree) × (beyond_one condition table columns low high ≡ Some made)
beyond-some condition table columns (Some low) None h =
    (t.Filter condition (t.Range table columns (Some low) None), refl)
beyond-some condition table columns (Some low) (Some high) h =
    (t.Filter condition (t.Range table columns (Some low) (Some high)), refl)
beyond-some condition table columns None (Some high) h =
    (t.Filter condition (t.Range table columns None (Some high)), refl)
beyond-some condition table columns None None (inl h) = absurd (let bad = h.1 in cc (bad))
beyond-some condition table columns None None (inr h) = absurd (let bad = h.1 in cc (bad))

both-is : (condition : Condition) (table : StoredTable) (columns : List ℕ) (made : Tree)
    → range_by between_both condition table columns ≡ Some made → IsRanged condition made
both-is condition table [] made h = absurd (cc (h))
both-is condition table (column ∷ columns) made h = at (low_among column (conjuncts condition))
    (high_among column (conjuncts condition)) h
  where
    at : (low high : Option Bound) → between_both condition table (column ∷ columns) low high ≡ Some made
        → IsRanged condition made
    at (Some low) (Some high) f = (table, column ∷ columns, Some low, Some high, sym (some-is f))
    at (Some low) None f = absurd (cc (f))
    at None high f = absurd (cc (f))

one-is : (condition : Condition) (table : StoredTable) (columns : List ℕ) (made : Tree)
    → range_by beyond_one condition table columns ≡ Some made → IsRanged condition made
one-is condition table [] made h = absurd (cc (h))
one-is condition table (column ∷ columns) made h = at (low_among column (conjuncts condition))
    (high_among column (conjuncts condition)) h
  where
    at : (low high : Option Bound) → beyond_one condition table (column ∷ columns) low high ≡ Some made
        → IsRanged condition made
    at None None f = absurd (cc (f))
    at None (Some high) f = (table, column ∷ columns, None, Some high, sym (some-is f))
    at (Some low) None f = (table, column ∷ columns, Some low, None, sym (some-is f))
    at (Some low) (Some high) f = (table, column ∷ columns, Some low, Some high, sym (some-is f))

module _ (denied : Denials) (calm : Bool) where
  pub range-certain : (node : Tree) → CanRange node → Made calm rule.FilterToRange node
  range-certain node h =
      let all = conjuncts h.condition in
      let some : ((limit : Bound) × (low_among h.column all ≡ Some limit)) ⊎
      ((limit : Bound) × (high_among h.column all ≡ Some limit)) =
      elim (bounds-there h.column h.literal h.compares.conjunct h.op h.bounds h.compares.compares) [
        | inl k ↦ inl (first-some (λ condition. low_in h.column (out-Condition condition)) all h.compares.conjunct k.0
            h.compares.among k.1)
        | inr k ↦ inr (first-some (λ condition. high_in h.column (out-Condition condition)) all h.compares.conjunct
            k.0 h.compares.among k.1)
      ] in
      let one = beyond-some h.condition h.table (h.column ∷ h.columns) (low_among h.column all)
      (high_among h.column all) some in
      let firsts = first-some (range_by beyond_one h.condition h.table) (key_first h.table) (h.column ∷ h.columns) one.0
      (key-there h.table (h.column ∷ h.columns) h.index) one.1 in
      let boths = first_found (range_by between_both h.condition h.table) (key_first h.table) in
      let ones = first_found (range_by beyond_one h.condition h.table) (key_first h.table) in
      let found = or-some boths ones firsts.0 firsts.1 in
      let shape : IsRanged h.condition found.0 = elim (or-found boths ones found.0 found.1) [
        | inl k ↦ let columns = first-is (range_by between_both h.condition h.table)
            (key_first h.table) found.0 k in both-is h.condition h.table columns.0 found.0 columns.1
        | inr k ↦ let columns = first-is (range_by beyond_one h.condition h.table)
            (key_first h.table) found.0 k in one-is h.condition h.table columns.0 found.0 columns.1
      ] in
      let make = λ (condition : Condition) (table : StoredTable). given (quiet condition)
      (option_or (first_found (range_by between_both condition table) (key_first table))
      (first_found (range_by beyond_one condition table) (key_first table))) in (
        found.0,
        at-filter (λ condition rows. at_scan make condition (out-Tree rows)) node h.condition (t.Scan h.table) h.is
            ∙ ap (at_scan make h.condition) (out-scan h.table)
            ∙ given-true (quiet h.condition) (option_or boths ones) (plain-quiet denied h.condition h.plain) ∙ found.1,
        (h.condition, shape.0, shape.1, shape.2, shape.3, shape.4, h.plain),
      )
