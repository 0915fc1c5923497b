-- Q10 and Q11: what each makes of a node may stand for it.
use Rattle.algebra.specs.TreeOutcome.{outcome_step, tree_truth}
use Rattle.algebra.specs.declared.tree.Condition.{Condition}
use Rattle.algebra.specs.declared.tree.Tree.{Tree, Tree-F, roll-Tree, out-Tree}
use Rattle.denote.specs.Evaluation.{Env}
use Rattle.denote.specs.Expression.{cell, column}
use Rattle.denote.specs.Meaning.{Tables}
use Rattle.join_columns.proofs.JoinColumns.{Joins, all-join}
use Rattle.rewrite_laws.proofs.Conditions.{Denials, quiet-is}
use Rattle.rewrite_laws.proofs.Found.{some-is, given-found, then-found, map-found, or-found, first-is, some-made, scan-rolled, node-found, inner-found}
use Rattle.rewrite_laws.proofs.JoinColumns.{true-is, join-equates}
use Rattle.rewrite_laws.proofs.JoinTrees.{Equates, q10, q11}
use Rattle.rewrite_laws.proofs.Pairs.{pairs}
use Rattle.rewrite_laws.proofs.Truths.{conjuncts-true}
use Rattle.rules.specs.Conjuncts.{conjuncts, quiet}
use Rattle.rules.specs.Indexes.{key_first}
use Rattle.rules.specs.JoinKeys.{join_pairs, left_places, right_places}
use Rattle.rules.specs.JoinRules.{hashed, inner_to_hash_join, place_for, put_place, places_for, looped, loop_at, inner_to_index_loop}
use Rattle.rules.specs.Nodes.{Node, given, first_found}
use Rattle.rules.specs.Same.{Keeps}
use Rattle.rules.specs.Width.{width_of_tree}
use Rattle.sqlval.specs.Matching.{key_of, is_equal}
use Rattle.sqlval.specs.Value.{Row}
use Rattle.std.proofs.Common.{◌≡◌, refl, sym, subst, ◌∙◌, ℕ, Bool, List, [], ◌∷◌, ◌++◌, Option, true, false, ◌&&◌, length, Some, None, inl, inr}
use Rattle.std.proofs.lemmas.Bool.{eqb-true}
use Rattle.std.specs.Cmp.Lexicographic.{pointwise}
use Rattle.std.specs.List.{AllByRecursion}
use Rattle.std.specs.Prelude.{if◌then◌else◌, option_and_then, ◌==◌}
use Rattle.algebra.specs.declared.tree.Tree.TheVariants as t

-- ---- Q11: some of the pairs, in the order of an index

module _ (tables : Tables) (w : ℕ) (x y : Row) (outer : Env) (wide : length x ≡ w) where
  place-joins : (pairs : List (ℕ × ℕ)) → AllByRecursion (Joins (outcome_step tables) w x y outer wide) pairs → (column place : ℕ)
      → place_for pairs column ≡ Some place
      → is_equal (cell y column) (cell x place) ≡ true
  place-joins [] h column place e = absurd (cc (e))
  place-joins (pair ∷ pairs) h column place e =
      elim (or-found (if pair.1 == column then Some pair.0 else None) (place_for pairs column) place e) [
        | inl f ↦ at (pair.1 == column) refl f h.0
        | inr f ↦ place-joins pairs h.1 column place f
      ]
    where
      at : (b : Bool) → (pair.1 == column) ≡ b → (if b then Some pair.0 else None) ≡ Some place
          → is_equal (cell y pair.1) (cell x pair.0) ≡ true
          → is_equal (cell y column) (cell x place) ≡ true
      at true is f k = (λ i. is_equal (cell y (sym (eqb-true pair.1 column is) i)) (cell x (sym (some-is f) i))) ∙ k
      at false is f k = absurd (cc (f))

  places-join : (pairs : List (ℕ × ℕ)) → AllByRecursion (Joins (outcome_step tables) w x y outer wide) pairs
      → (columns places : List ℕ) → places_for pairs columns ≡ Some places
      → pointwise is_equal (key_of columns y) (key_of places x) ≡ true
  places-join pairs h [] places e = subst (λ (z : List ℕ). pointwise is_equal (key_of [] y) (key_of z x) ≡ true)
      (some-is e) refl
  places-join pairs h (column ∷ columns) places e = at (place_for pairs column) (places_for pairs columns) refl e
      (λ rest f. places-join pairs h columns rest f) refl
    where
      at : (found : Option ℕ) (rest : Option (List ℕ)) → place_for pairs column ≡ found
          → put_place found rest ≡ Some places
          → ((more : List ℕ) → places_for pairs columns ≡ Some more
          → pointwise is_equal (key_of columns y) (key_of more x) ≡ true)
          → places_for pairs columns ≡ rest
          → pointwise is_equal (key_of (column ∷ columns) y) (key_of places x) ≡ true
      at (Some place) (Some more) is f next there =
          subst (λ (z : List ℕ). pointwise is_equal (key_of (column ∷ columns) y) (key_of z x) ≡ true) (some-is f)
          (λ i. place-joins pairs h column place is i && next more there i)
      at (Some place) None is f next there = absurd (cc (f))
      at None rest is f next there = absurd (cc (f))

pub places-equate : (on : Condition) (w : ℕ) (columns places : List ℕ)
    → places_for (join_pairs w on) columns ≡ Some places → Equates on w places columns
places-equate on w columns places e tables x y env wide h =
    places-join tables w x y env wide (join_pairs w on)
    (all-join (outcome_step tables) w x y env wide (conjuncts on)
    (conjuncts-true tables on ((x ++ y) ∷ env) (true-is (tree_truth tables on ((x ++ y) ∷ env)) h))) columns places
    e

-- ---- Q10, Q11

module _ (denied : Denials) where
  pub inner_to_hash_join-keeps : (old new : Tree) → inner_to_hash_join old ≡ Some new → Keeps new old
  inner_to_hash_join-keeps old new e = inner-found (Keeps new) new (λ on left right. given (quiet on)
      (option_and_then (λ w. hashed on left right (join_pairs w on)) (width_of_tree left))) old e
      (λ on left right f.
      let h = given-found (quiet on)
      (option_and_then (λ w. hashed on left right (join_pairs w on)) (width_of_tree left)) new f in
      let w = then-found (λ w. hashed on left right (join_pairs w on)) (width_of_tree left) new h.1 in
      let made = t.HashJoin on left right (left_places (join_pairs w.0 on)) (right_places (join_pairs w.0 on)) in
      subst (λ (z : Tree). Keeps z (t.Inner on left right)) (some-made (join_pairs w.0 on) made new w.2)
      (q10 on left right w.0 (left_places (join_pairs w.0 on)) (right_places (join_pairs w.0 on)) w.1
      (quiet-is denied on h.0) (join-equates on w.0)))

  pub inner_to_index_loop-keeps : (old new : Tree) → inner_to_index_loop old ≡ Some new → Keeps new old
  inner_to_index_loop-keeps old new e = inner-found (Keeps new) new (λ on left right. loop_at on left (out-Tree right))
      old e
      (λ on left right f. node-found (λ right. Keeps new (t.Inner on left right)) new (loop_at on left) right f
      (at on left))
    where
      at : (on : Condition) (left : Tree) (d : Node Tree-F) → loop_at on left d ≡ Some new
          → Keeps new (t.Inner on left (roll-Tree d))
      at on left (Tree-F.Scan table) f =
          let make = λ (w : ℕ). first_found (looped on left table (join_pairs w on)) (key_first table) in
          let h = given-found (quiet on) (option_and_then make (width_of_tree left)) new f in
          let w = then-found make (width_of_tree left) new h.1 in
          let columns = first-is (looped on left table (join_pairs w.0 on)) (key_first table) new w.2 in
          let places = map-found (λ places. t.IndexLoop on left places table columns.0)
          (places_for (join_pairs w.0 on) columns.0) new columns.1 in
          subst (λ (z : Tree). Keeps new (t.Inner on left z)) (scan-rolled table)
          (subst (λ (z : Tree). Keeps z (t.Inner on left (t.Scan table))) places.2
          (q11 on left table w.0 places.0 columns.0 w.1 (quiet-is denied on h.0)
          (places-equate on w.0 columns.0 places.0 places.1)))
      at on left _ f = absurd (cc (f))
