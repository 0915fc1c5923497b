-- Q15, where it is sure to be used: there it makes the node that is told.
use Rattle.algebra.specs.OrderKeys.{handed_on, column_of, order_keys, is_column, key_at}
use Rattle.algebra.specs.Sorted.{ascending}
use Rattle.algebra.specs.declared.tree.Expression.{the_lemmas}
use Rattle.algebra.specs.declared.tree.Tree.{Tree, Tree-F, out-Tree}
use Rattle.denote.specs.Expression.{column}
use Rattle.rewrite_laws.proofs.CertainCases.{first-some, given-true, out-scan, out-project, Made}
use Rattle.rewrite_laws.proofs.Found.{some-is, given-found, first-is}
use Rattle.rules.specs.Certain.{own, CanGoInOrder}
use Rattle.rules.specs.OrderRules.{same_direction, same_key, keys_begin, ordered_by, ordered_at, items_ordered, sort_dropped, sort_to_range}
use Rattle.std.proofs.Common.{◌≡◌, refl, sym, ap, ◌∙◌, ℕ, zero, suc, Bool, List, [], ◌∷◌, map, Option, true, false, ◌&&◌, cond, Some, None, arith, rules, eq-eqb, nat_eq}
use Rattle.std.proofs.lemmas.Bool.{eqb-true}
use Rattle.std.specs.List.{position_from}
use Rattle.std.specs.Prelude.{◌+◌, slice_get}
use Rattle.typing.specs.declared.typed.OrderKey.{OrderKey}
use Rattle.algebra.specs.declared.tree.Tree.TheVariants as t
use Rattle.rules.specs.declared.rule.Rule.TheVariants as rule

head-is : {X : Type 0} {x y : X} {xs ys : List X} → (x ∷ xs) ≡ (y ∷ ys) → x ≡ y
head-is e = cc

tail-is : {X : Type 0} {x y : X} {xs ys : List X} → (x ∷ xs) ≡ (y ∷ ys) → xs ≡ ys
tail-is e = cc

abbrev Once : List ℕ → Type 0
Once places = (i j column : ℕ) → slice_get places i ≡ Some column → slice_get places j ≡ Some column → i ≡ j

suc-is : (i j : ℕ) → suc i ≡ suc j → i ≡ j
suc-is i j e = omega (arith, e)

-- where a column stands once, that is its first place
found-at : (places : List ℕ) (place column n : ℕ) → Once places → slice_get places place ≡ Some column
    → position_from (is_column column) n (map (λ p. Some p) places) ≡ Some (n + place)
found-at [] place column n once e = absurd (cc (e))
found-at (p ∷ places) zero column n once e =
    let same : column ≡ p = sym (some-is e) in
    ap (λ (b : Bool). cond b (Some n) (position_from (is_column column) (n + 1) (map (λ p. Some p) places)))
    (eq-eqb column p same)
    ∙ ap (λ m. Some m) zero-after
  where
    zero-after : n ≡ n + zero
    zero-after = omega arith
found-at (p ∷ places) (suc place) column n once e = at (nat_eq column p) refl
    (found-at places place column (n + 1) (λ i j k f g. suc-is i j (once (suc i) (suc j) k f g)) e)
  where
    moved-on : (n + 1) + place ≡ n + suc place
    moved-on = omega arith

    different : zero ≡ suc place → ⊥
    different bad = omega (arith, bad)

    at : (b : Bool) → nat_eq column p ≡ b → position_from (is_column column) (n + 1) (map (λ p. Some p) places)
        ≡ Some ((n + 1) + place)
        → cond b (Some n) (position_from (is_column column) (n + 1) (map (λ p. Some p) places)) ≡ Some (n + suc place)
    at true f rest = absurd (different (once zero (suc place) column (ap (λ z. Some z) (sym (eqb-true column p f))) e))
    at false f rest = rest ∙ ap (λ m. Some m) moved-on

same-keys : (key : OrderKey) (place : ℕ) → key.place ≡ place → key.descending ≡ false
    → same_key key (record { place = place; descending = false }) ≡ true
same-keys key place same up = (λ i. nat_eq key.place (sym same i) && same_direction (up i) false)
    ∙ ap (λ b. b && true) (eq-eqb key.place key.place refl)

in-order : (places : List ℕ) → Once places → (keys : List OrderKey) (columns : List ℕ)
    → map (λ (key : OrderKey). key.descending) keys ≡ map (λ (column : ℕ). false) columns
    → map (λ (key : OrderKey). slice_get places key.place) keys ≡ map (λ (column : ℕ). Some column) columns
    → keys_begin keys (handed_on (map (λ p. Some p) places) (ascending columns)) ≡ true
in-order places once [] columns up order = refl
in-order places once (key ∷ keys) [] up order = absurd (cc (order))
in-order places once (key ∷ keys) (column ∷ columns) up order =
    let there = found-at places key.place column 0 once (head-is order) in
    let rest = handed_on (map (λ p. Some p) places) (ascending columns) in
    ap (λ (found : Option ℕ). keys_begin (key ∷ keys)
    (key_at (record { place = column; descending = false }) found rest)) there
    ∙ (λ i. same-keys key (0 + key.place) nothing-added (head-is up) i && in-order places once keys columns (tail-is up)
    (tail-is order) i)
  where
    nothing-added : key.place ≡ 0 + key.place
    nothing-added = omega arith

column-item : (column : ℕ) → column_of (own column) ≡ Some column
unfolding column_of order_keys
column-item column = search (rules, the_lemmas)

items-are : (places : List ℕ) → map column_of (map own places) ≡ map (λ p. Some p) places
items-are [] = refl
items-are (place ∷ places) = λ i. column-item place i ∷ items-are places i

out-sort : (keys : List OrderKey) (rows : Tree) → out-Tree (t.Sort keys rows) ≡ Tree-F.Sort keys rows
out-sort keys rows = search (rules, the_lemmas)

module _ (calm : Bool) where
  pub order-certain : (node : Tree) → CanGoInOrder node → Made calm rule.SortToRange node
  order-certain node h =
      let items = map own h.places in
      let made = t.Project items (t.Range h.table h.columns None None) in
      let begins = ap (λ z. keys_begin h.keys (handed_on z (ascending h.columns))) (items-are h.places)
      ∙ in-order h.places h.once h.keys h.columns h.ascend h.order in
      let found = first-some (ordered_by h.keys items h.table) h.table.indexes h.columns made h.index
      (given-true (keys_begin h.keys (handed_on (map column_of items) (ascending h.columns))) (Some made) begins) in
      let columns = first-is (ordered_by h.keys items h.table) h.table.indexes found.0 found.1 in
      let used = given-found (keys_begin h.keys (handed_on (map column_of items) (ascending columns.0)))
      (Some (t.Project items (t.Range h.table columns.0 None None))) found.0 columns.1 in (
        found.0,
        ap (λ z. sort_to_range z) h.is ∙ ap sort_dropped (out-sort h.keys (t.Project items (t.Scan h.table)))
            ∙ ap (items_ordered h.keys) (out-project items (t.Scan h.table))
            ∙ ap (ordered_at h.keys items) (out-scan h.table)
            ∙ found.1,
        (h.places, h.table, columns.0, sym (some-is used.1)),
      )
