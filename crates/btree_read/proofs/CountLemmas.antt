-- A tree's levels by its pages: an inner page has two children at least.
use Rattle.std.proofs.Common.{◌≡◌, ℕ, zero, suc, ◌+◌, ◌*◌, ◌^◌, ◌<◌, ◌≤◌, List, [], ◌∷◌, ◌++◌, map, length, length-append, refl, sym, ap, ◌∙◌, subst, ◌⊎◌, inl, inr, None, IsSome, Bool, true, false, ◌||◌, nat_eq as eqb, nat_lt, lit≤, arith}
use Rattle.std.specs.List.{flat_map, IsDistinct, list_any, AllByRecursion}
use Rattle.std.proofs.lemmas.Bool.{eqb-true, false_from_ne_true}
use Rattle.std.proofs.lemmas.Map.Keys.{IsDistinct-cons}
use Rattle.std.proofs.Math.Nat.{pow-suc}
use Rattle.std.proofs.Math.Pow.{pow_mono}
use borrow.Author.Tests.{ltb-true, ltb-false}
use Rattle.std.proofs.lemmas.Map.Steps.{length-le_from_distinct_below}
use Rattle.page_space.specs.Space.{PageMap}
use Rattle.btree_read.specs.Lists.{Has, Apart}
use Rattle.btree_read.specs.Nodes.{Key, Node}
use Rattle.btree_read.specs.Tree.{Tree, branch_to, nodes_of, pages_in, Holds}
use Rattle.btree_read.specs.Search.{HasNoTree, IsNoTree}
use Rattle.btree_read.proofs.ListLemmas.{each_left, each_right}
use Rattle.btree_read.proofs.PageLemmas.{holds_used}
use Rattle.btree_read.proofs.SearchLemmas.{under_root}

-- ---- numbers that stand once and are below a bound

list_has : (q : ℕ) (xs : List ℕ) → list_any (eqb q) xs ≡ true → Has q xs
list_has q [] h = cc
list_has q (x ∷ xs) h = by (eqb q x) refl h (list_has q xs)
  where
    by : (p : Bool) → p ≡ eqb q x → (p || list_any (eqb q) xs) ≡ true → (list_any (eqb q) xs ≡ true → Has q xs) → (q ≡ x) ⊎ Has q xs
    by true e g f = inl (eqb-true q x (sym e))
    by false e g f = inr (f g)

none_equal : (x : ℕ) (xs : List ℕ) → (Has x xs → ⊥) → AllByRecursion (λ y. eqb x y ≡ false) xs
none_equal x [] h = tt
none_equal x (y ∷ ys) h = (false_from_ne_true (eqb x y) (λ e. h (inl (eqb-true x y e))), none_equal x ys (λ g. h (inr g)))

distinct_apart : (xs : List ℕ) → Apart xs → IsDistinct eqb xs
unfolding IsDistinct
distinct_apart [] h = tt
distinct_apart (x ∷ xs) h = IsDistinct-cons eqb x xs (none_equal x xs h.0) (distinct_apart xs h.1)

pub few_numbers : (n : ℕ) (xs : List ℕ) → Apart xs → ((q : ℕ) → Has q xs → q < n) → length xs ≤ n
few_numbers n xs a f = length-le_from_distinct_below xs n (distinct_apart xs a) (λ q h. f q (list_has q xs h))

-- ---- a tree of d levels above its leaves has 2^(d + 1) - 1 pages at least

some_children : (d : ℕ) (rest : List (Key × Tree d)) → (map (branch_to d) rest ≡ [] → ⊥) → 1 ≤ length rest
some_children d [] h = absurd (h refl)
some_children d (c ∷ rest) h = omega arith

sum_suc : (d : ℕ) → suc d + 1 ≡ suc (d + 1)
sum_suc d = omega arith

pub many_pages : (pages : PageMap) (d : ℕ) (t : Tree d) → Holds pages (nodes_of d t) → 2 ^ (d + 1) ≤ length (nodes_of d t) + 1
many_pages pages zero t h = lit≤ tt
many_pages pages (suc d) t h = two t.rest (h.0.stocked.0) (each_left _ (nodes_of d t.first) _ h.1) (each_right _ (nodes_of d t.first) _ h.1) (many_pages pages d)
  where
    two : (rest : List (Key × Tree d)) → (map (branch_to d) rest ≡ [] → ⊥) → Holds pages (nodes_of d t.first) → Holds pages (flat_map (nodes_of d) (map (λ c. c.1) rest))
        → ((t : Tree d) → Holds pages (nodes_of d t) → 2 ^ (d + 1) ≤ length (nodes_of d t) + 1)
        → 2 ^ (suc d + 1) ≤ suc (length (nodes_of d t.first ++ flat_map (nodes_of d) (map (λ c. c.1) rest))) + 1
    two [] some hf hr f = absurd (some refl)
    two (c ∷ rest) some hf hr f =
        let a = f t.first hf in
        let b = f c.1 (each_left _ (nodes_of d c.1) _ hr) in
        let p : 2 ^ (suc d + 1) ≡ 2 ^ (d + 1) * 2 = ap (λ n. 2 ^ n) (sum_suc d) ∙ pow-suc 2 (d + 1) in
        let l : length (nodes_of d t.first ++ (nodes_of d c.1 ++ flat_map (nodes_of d) (map (λ c. c.1) rest)))
        ≡ length (nodes_of d t.first) + (length (nodes_of d c.1) + length (flat_map (nodes_of d) (map (λ c. c.1) rest))) =
        length-append (nodes_of d t.first) _ ∙ ap (λ n. length (nodes_of d t.first) + n) (length-append (nodes_of d c.1) _) in
        omega (arith, a, b, p, l)

length_map : {A B : Type 0} (f : A → B) (xs : List A) → length (map f xs) ≡ length xs
length_map f [] = refl
length_map f (x ∷ xs) = ap suc (length_map f xs)

pow_grows : (d : ℕ) → 15 < d → 2 ^ 17 ≤ 2 ^ (d + 1)
pow_grows d h = pow_mono {i = 17} {j = d + 1} (omega arith)

-- so a tree over pages with numbers from 1 to 65,535 has at most 15 levels above its leaves
pub few_levels : (pages : PageMap) (d : ℕ) (t : Tree d) → ((n : ℕ) → IsSome (pages n) → (0 < n) × (n < 65536)) → Holds pages (nodes_of d t) → Apart (pages_in (nodes_of d t)) → d ≤ 15
few_levels pages d t b h a =
    let few = few_numbers 65536 (pages_in (nodes_of d t)) a (λ q g. (b q (holds_used pages (nodes_of d t) h q g)).1) in
    let many = many_pages pages d t h in
    let same = length_map (λ (n : ℕ × Node). n.0) (nodes_of d t) in
    by (nat_lt 15 d) refl few many same
  where
    by : (p : Bool) → p ≡ nat_lt 15 d → length (pages_in (nodes_of d t)) ≤ 65536 → 2 ^ (d + 1) ≤ length (nodes_of d t) + 1 → length (pages_in (nodes_of d t)) ≡ length (nodes_of d t) → d ≤ 15
    by true e few many same = absurd (omega (arith, pow_grows d (ltb-true 15 d (sym e)), few, many, same))
    by false e few many same = ltb-false 15 d (sym e)

pub no_tree_at_root : (pages : PageMap) (root : ℕ) → ((n : ℕ) → IsSome (pages n) → (0 < n) × (n < 65536)) → (root ≡ 0 → ⊥) → HasNoTree pages root 15 → IsNoTree pages root
no_tree_at_root pages zero b nz f owned entries w = nz refl
no_tree_at_root pages (suc r) b nz f owned entries w =
    f w.depth w.tree [] None (few_levels pages w.depth w.tree b w.holds (subst Apart (sym w.owns) w.apart)) (under_root pages (suc r) owned entries w)
