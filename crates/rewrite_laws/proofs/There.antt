-- A part with another tree in the place of its n-th subquery has that tree there, and all others as
-- they were.
use Rattle.algebra.specs.declared.tree.Condition.{Condition}
use Rattle.algebra.specs.declared.tree.Expression.{Expression}
use Rattle.algebra.specs.declared.tree.Tree.{Tree}
use Rattle.rewrite_laws.proofs.Inside.{split-place}
use Rattle.rules.specs.Paths.{Inside, itself, in_condition, in_expression, in_node, applied_at, trees_of, list_changed, alone, two, several, no_part, subquery, node_at}
use Rattle.std.proofs.Common.{◌≡◌, refl, sym, ap, ◌∙◌, ℕ, zero, suc, Bool, List, [], ◌∷◌, ◌++◌, flat_map, Option, true, false, length, Some, None, arith}
use Rattle.std.proofs.lemmas.Bool.{ltb-true, ltb-false, lt-ltb, le-ltb}
use Rattle.std.specs.Option.{option_map}
use Rattle.std.specs.Prelude.{◌-◌, nat_lt, if◌then◌else◌, slice_get, option_and_then}

-- a list with another element in a place
abbrev pub put : {X : Type 0} → List X → ℕ → X → List X
put [] n y = []
put (x ∷ xs) zero y = y ∷ xs
put (x ∷ xs) (suc n) y = x ∷ put xs n y

pub put-there : {X : Type 0} (xs : List X) (n : ℕ) (x y : X) → slice_get xs n ≡ Some x
    → slice_get (put xs n y) n ≡ Some y
put-there [] n x y e = absurd (cc (e))
put-there (z ∷ xs) zero x y e = refl
put-there (z ∷ xs) (suc n) x y e = put-there xs n x y e

pub put-append : {X : Type 0} (xs ys : List X) (n : ℕ) (y : X)
    → put (xs ++ ys) n y ≡ (if nat_lt n (length xs) then put xs n y ++ ys else xs ++ put ys (n - length xs) y)
put-append {X} [] ys n y = at (nat_lt n 0) (le-ltb n 0 (omega arith))
  where
    minus : n - 0 ≡ n
    minus = omega arith

    at : (b : Bool) → b ≡ false → put ys n y ≡ (if b then put {X = X} [] n y ++ ys else put ys (n - 0) y)
    at true e = absurd (cc (e))
    at false e = ap (λ m. put ys m y) (sym minus)
put-append (x ∷ xs) ys zero y =
    ap (λ (b : Bool). if b then y ∷ (xs ++ ys) else x ∷ (xs ++ put ys (zero - suc (length xs)) y))
    (sym (lt-ltb zero (suc (length xs)) (omega arith)))
put-append {X} (x ∷ xs) ys (suc n) y = ap (λ rest. x ∷ rest) (put-append xs ys n y) ∙ at (nat_lt n (length xs)) refl
  where
    minus : suc n - suc (length xs) ≡ n - length xs
    minus = omega arith

    up : (b : Bool) → nat_lt n (length xs) ≡ b → nat_lt (suc n) (suc (length xs)) ≡ b
    up true e = let f = ltb-true n (length xs) e in lt-ltb (suc n) (suc (length xs)) (omega (arith, f))
    up false e = let f = ltb-false n (length xs) e in le-ltb (suc n) (suc (length xs)) (omega (arith, f))

    pick : (b : Bool) → x ∷ (if b then put xs n y ++ ys else xs ++ put ys (n - length xs) y)
        ≡ (if b then (x ∷ put xs n y) ++ ys else (x ∷ xs) ++ put ys (n - length xs) y)
    pick true = refl
    pick false = refl

    at : (b : Bool) → nat_lt n (length xs) ≡ b
        → x ∷ (if nat_lt n (length xs) then put xs n y ++ ys else xs ++ put ys (n - length xs) y)
        ≡ (if nat_lt (suc n) (suc (length xs)) then (x ∷ put xs n y) ++ ys else (x ∷ xs) ++ put ys
        (suc n - suc (length xs)) y)
    at b e = (λ i. x ∷ (if e i then put xs n y ++ ys else xs ++ put ys (n - length xs) y)) ∙ pick b
        ∙ (λ i. if sym (up b e) i then (x ∷ put xs n y) ++ ys else (x ∷ xs) ++ put ys (sym minus i) y)

-- ---- parts: s gives the subqueries of what a part is put together to

pub record IsThere {X : Type 0} (s : X → List Tree) (x : Inside X) : Type 0 where
  pub whole : s x.same ≡ x.trees
  pub there : (n : ℕ) (old new : Tree) → slice_get x.trees n ≡ Some old → s (x.changed n new) ≡ put x.trees n new

pub there-none : {Z : Type 0} (s : Z → List Tree) (z : Z) → s z ≡ [] → IsThere s (no_part z)
there-none s z h = record { whole = h; there = λ n old new e. h }

pub there-subquery : {Z : Type 0} (s : Z → List Tree) (made : Tree → Z) (tree : Tree)
    → ((x : Tree) → s (made x) ≡ x ∷ [])
    → IsThere s (subquery made tree)
there-subquery {Z} s made tree h = record { whole = h tree; there = λ n old new e. at n old new e }
  where
    at : (n : ℕ) (old new : Tree) → slice_get (tree ∷ []) n ≡ Some old → s (made new) ≡ put (tree ∷ []) n new
    at zero old new e = h new
    at (suc n) old new e = absurd (cc (e))

pub there-alone : {X Z : Type 0} (s : X → List Tree) (u : Z → List Tree) (made : X → Z) (x : Inside X)
    → ((a : X) → u (made a) ≡ s a) → IsThere s x → IsThere u (alone made x)
there-alone s u made x h k = record {
  whole = h x.same ∙ k.whole;
  there = λ n old new e. h (x.changed n new)
      ∙ k.there n old new e;
}

pub there-two : {X Y Z : Type 0} (s : X → List Tree) (r : Y → List Tree) (u : Z → List Tree) (made : X → Y → Z)
    (x : Inside X) (y : Inside Y)
    → ((a : X) (b : Y) → u (made a b) ≡ s a ++ r b) → IsThere s x → IsThere r y → IsThere u (two made x y)
there-two {X} {Y} {Z} s r u made x y h k l = record {
  whole = h x.same y.same ∙ (λ i. k.whole i ++ l.whole i);
  there = λ n old new e. at n old new (nat_lt n (length x.trees)) (sym (split-place x.trees y.trees n) ∙ e)
      ∙ sym (put-append x.trees y.trees n new);
}
  where
    at : (n : ℕ) (old new : Tree) (b : Bool)
        → (if b then slice_get x.trees n else slice_get y.trees (n - length x.trees)) ≡ Some old
        → u (if b then made (x.changed n new) y.same else made x.same (y.changed (n - length x.trees) new))
        ≡ (if b then put x.trees n new ++ y.trees else x.trees ++ put y.trees (n - length x.trees) new)
    at n old new true e = h (x.changed n new) y.same ∙ (λ i. k.there n old new e i ++ l.whole i)
    at n old new false e = h x.same (y.changed (n - length x.trees) new)
        ∙ (λ i. k.whole i ++ l.there (n - length x.trees) old new e i)

abbrev pub AllThere : {X : Type 0} → (X → List Tree) → List (Inside X) → Type 0
AllThere s [] = Unit {0}
AllThere s (x ∷ xs) = IsThere s x × AllThere s xs

pub list-whole : {X : Type 0} (s : X → List Tree) (xs : List (Inside X)) → AllThere s xs
    → flat_map s (itself xs) ≡ trees_of xs
list-whole s [] h = refl
list-whole s (x ∷ xs) h = λ i. h.0.whole i ++ list-whole s xs h.1 i

pub list-there : {X : Type 0} (s : X → List Tree) (xs : List (Inside X)) → AllThere s xs → (n : ℕ) (old new : Tree)
    → slice_get (trees_of xs) n ≡ Some old
    → flat_map s (list_changed xs n new) ≡ put (trees_of xs) n new
list-there s [] h n old new e = absurd (cc (e))
list-there {X} s (x ∷ xs) h n old new e =
    at (nat_lt n (length x.trees)) (sym (split-place x.trees (trees_of xs) n) ∙ e)
    (λ m g. list-there s xs h.1 m old new g) (list-whole s xs h.1) ∙ sym (put-append x.trees (trees_of xs) n new)
  where
    at : (b : Bool) → (if b then slice_get x.trees n else slice_get (trees_of xs) (n - length x.trees)) ≡ Some old
        → ((m : ℕ) → slice_get (trees_of xs) m ≡ Some old
        → flat_map s (list_changed xs m new) ≡ put (trees_of xs) m new) → flat_map s (itself xs) ≡ trees_of xs
        → flat_map s (if b then x.changed n new ∷ itself xs else x.same ∷ list_changed xs (n - length x.trees) new)
        ≡ (if b then put x.trees n new ++ trees_of xs else x.trees ++ put (trees_of xs) (n - length x.trees) new)
    at true g rest all = λ i. h.0.there n old new g i ++ all i
    at false g rest all = λ i. h.0.whole i ++ rest (n - length x.trees) g i

pub there-several : {X Z : Type 0} (s : X → List Tree) (u : Z → List Tree) (made : List X → Z) (xs : List (Inside X))
    → ((ys : List X) → u (made ys) ≡ flat_map s ys) → AllThere s xs → IsThere u (several made xs)
there-several s u made xs h k =
    record {
      whole = h (itself xs) ∙ list-whole s xs k;
      there = λ n old new e. h (list_changed xs n new)
          ∙ list-there s xs k n old new e;
    }

-- ---- what a node is put together to has the subqueries of its parts

abbrev pub sub_c : Condition → List Tree
sub_c x = (in_condition x).trees

abbrev pub sub_e : Expression → List Tree
sub_e x = (in_expression x).trees

-- ---- the end of the path: where each node has what is put there, so has the whole

pub walks-end : ((tree : Tree) → IsThere (λ x. (in_node x).trees) (in_node tree))
    → (here : Tree → Option Tree) (path : List ℕ) (tree node made : Tree) → node_at path tree ≡ Some node
    → here node ≡ Some made
    → (new : Tree) × (applied_at here path tree ≡ Some new) × (node_at path new ≡ Some made)
walks-end all here [] tree node made e h = (made, ap here (some-is e) ∙ h, refl)
  where
    some-is : {x y : Tree} → Some x ≡ Some y → x ≡ y
    some-is e = cc
walks-end all here (place ∷ path) tree node made e h = at (slice_get (in_node tree).trees place) refl e
    (λ part g. walks-end all here path part node made g h)
  where
    at : (found : Option Tree) → slice_get (in_node tree).trees place ≡ found
        → option_and_then (node_at path) found ≡ Some node
        → ((part : Tree) → node_at path part ≡ Some node → (new : Tree) × (applied_at here path part ≡ Some new)
        × (node_at path new ≡ Some made))
        → (new : Tree) × (applied_at here (place ∷ path) tree ≡ Some new) × (node_at (place ∷ path) new ≡ Some made)
    at None there g k = absurd (cc (g))
    at (Some part) there g k =
        let below = k part g in
        let new = (in_node tree).changed place below.0 in (
          new,
          ap (λ o. option_and_then (λ part. option_map ((in_node tree).changed place) (applied_at here path part)) o)
              there ∙ ap (option_map ((in_node tree).changed place)) below.1,
          ap (option_and_then (node_at path))
              (ap (λ trees. slice_get trees place) ((all tree).there place part below.0 there)
              ∙ put-there (in_node tree).trees place part below.0 there) ∙ below.2,
        )
