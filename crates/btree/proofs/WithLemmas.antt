-- Cells of a page with another one among them.
use Rattle.std.proofs.Common.{◌≡◌, ℕ, zero, suc, ◌+◌, ◌-◌, ◌<◌, ◌≤◌, List, [], ◌∷◌, ◌++◌, map, length, take, drop, refl, sym, ap, ◌∙◌, subst, Bool, true, false, not, IsTrue, arith, add-one, length-drop}
use Rattle.std.proofs.lemmas.List.{get_or-drop, length-take}
use Rattle.std.specs.Prelude.{slice_index_or}
use Rattle.std.specs.List.{AllByRecursion}
use Rattle.std.specs.Prelude.{Option}
use Rattle.std.specs.Ordering.{is_lt}
use Rattle.sqlrecord.specs.Key.{byte_order}
use Rattle.sqlrecord.specs.declared.kind.PageKind.{PageKind}
use Rattle.sqlrecord.specs.declared.kind.PageKind.TheVariants.{Leaf, Inner}
use Rattle.sqlrecord.specs.Page.{key_of, key_length_of, AreCells, IsCell}
use Rattle.btree_read.specs.declared.entry.Start.TheVariants.{At, Behind}
use Rattle.btree_read.specs.Nodes.{Key, precedes, entry_of, branch_of, IsSmall, IsSmallBranch}
use Rattle.btree_read.specs.Sorted.{is_from}
use Rattle.btree_read.specs.Tree.{Chain}
use Rattle.btree_read.proofs.OrderLemmas.{le_lt}
use Rattle.btree_read.proofs.PlaceLemmas.{key_at, rising_all, is_from_all}
use Rattle.btree.specs.Overfull.{size_of, AreSmall, RisesBehind}
use Rattle.btree.proofs.CellLemmas.{are_drop}
use Rattle.btree.proofs.SizeLemmas.{size_parts, size_grows}

-- ---- in order

pub cons_are : (kind : PageKind) (x : List ℕ) (cells : List (List ℕ)) → IsCell kind x → (0 < length cells → precedes (key_of x) (key_at cells 0) ≡ true) → AreCells kind cells → AreCells kind (x ∷ cells)
unfolding precedes
cons_are kind x cells c h w = record { formed = formed; rising = rising }
  where
    formed : (i : ℕ) → i < suc (length cells) → IsCell kind (slice_index_or (x ∷ cells) i [])
    formed zero l = c
    formed (suc i) l = w.formed i (omega arith)

    rising : (i : ℕ) → i + 1 < suc (length cells) → IsTrue (is_lt (byte_order (key_of (slice_index_or (x ∷ cells) i [])) (key_of (slice_index_or (x ∷ cells) (i + 1) []))))
    rising zero l = h (omega arith)
    rising (suc i) l =
        let e : i + 1 + 1 ≡ suc (i + 1) = add-one (i + 1) in
        let f : suc i + 1 ≡ i + 1 + 1 = ap (λ n. n + 1) (sym (add-one i)) in
        subst (λ n. IsTrue (is_lt (byte_order (key_of (slice_index_or cells i [])) (key_of (slice_index_or (x ∷ cells) n []))))) (sym (f ∙ e)) (w.rising i (omega arith))

pub are_with : (kind : PageKind) (cells : List (List ℕ)) (a b : ℕ) (x : List ℕ) → a ≤ b → b ≤ length cells → AreCells kind cells → IsCell kind x
    → ((i : ℕ) → i < a → precedes (key_at cells i) (key_of x) ≡ true) → ((i : ℕ) → b ≤ i → i < length cells → precedes (key_of x) (key_at cells i) ≡ true)
    → AreCells kind (take a cells ++ x ∷ drop b cells)
are_with kind cells zero b x o l w c f g =
    cons_are kind x (drop b cells) c (λ m. subst (λ y. precedes (key_of x) (key_of y) ≡ true) (sym (get_or-drop b cells 0 [])) (g (b + 0) (omega arith) (omega (arith, m, length-drop b cells)))) (are_drop kind cells b w)
are_with kind [] (suc a) b x o l w c f g = absurd (omega arith)
are_with kind (y ∷ cells) (suc a) zero x o l w c f g = absurd (omega arith)
are_with kind (y ∷ cells) (suc a) (suc b) x o l w c f g =
    cons_are kind y (take a cells ++ x ∷ drop b cells) (w.formed 0 (omega arith)) (λ m. head a cells (omega arith) (f 0 (omega arith)) (λ n. rising_all kind (y ∷ cells) w 0 1 (omega arith) (omega (arith, n))))
    (are_with kind cells a b x (omega arith) (omega arith) (are_drop kind (y ∷ cells) 1 w) c (λ i h. f (suc i) (omega arith)) (λ i h n. g (suc i) (omega arith) (omega arith)))
  where
    head : (a : ℕ) (cells : List (List ℕ)) → a ≤ length cells → precedes (key_of y) (key_of x) ≡ true → (0 < length cells → precedes (key_of y) (key_at cells 0) ≡ true)
        → precedes (key_of y) (key_at (take a cells ++ x ∷ drop b cells) 0) ≡ true
    head zero cells l h n = h
    head (suc a) [] l h n = absurd (omega arith)
    head (suc a) (z ∷ cells) l h n = n (omega arith)

pub formed_with : (kind : PageKind) (cells : List (List ℕ)) (a b : ℕ) (x : List ℕ) → a ≤ b → b ≤ length cells → ((i : ℕ) → i < length cells → IsCell kind (slice_index_or cells i [])) → IsCell kind x
    → (i : ℕ) → i < length (take a cells ++ x ∷ drop b cells) → IsCell kind (slice_index_or (take a cells ++ x ∷ drop b cells) i [])
formed_with kind cells zero b x o l w c zero h = c
formed_with kind cells zero b x o l w c (suc i) h = subst (IsCell kind) (sym (get_or-drop b cells i [])) (w (b + i) (omega (arith, h, length-drop b cells)))
formed_with kind [] (suc a) b x o l w c i h = absurd (omega arith)
formed_with kind (y ∷ cells) (suc a) zero x o l w c i h = absurd (omega arith)
formed_with kind (y ∷ cells) (suc a) (suc b) x o l w c zero h = w 0 (omega arith)
formed_with kind (y ∷ cells) (suc a) (suc b) x o l w c (suc i) h = formed_with kind cells a b x (omega arith) (omega arith) (λ j m. w (suc j) (omega arith)) c i (omega arith)

pub rises_are : (cells : List (List ℕ)) (lo : Key) → ((i : ℕ) → i < length cells → IsCell Inner (slice_index_or cells i [])) → RisesBehind lo (map branch_of cells) → AreCells Inner cells
rises_are [] lo f h = record { formed = λ i l. absurd (omega arith); rising = λ i l. absurd (omega arith) }
rises_are (c ∷ cells) lo f h = cons_are Inner c cells (f 0 (omega arith)) (λ l. head cells l h.1) (rises_are cells (key_of c) (λ i l. f (suc i) (omega arith)) h.1)
  where
    head : (cells : List (List ℕ)) → 0 < length cells → RisesBehind (key_of c) (map branch_of cells) → precedes (key_of c) (key_at cells 0) ≡ true
    head [] l h = absurd (omega arith)
    head (d ∷ cells) l h = h.0

pub chain_rises : {T : Type 0} (P : Key → Option Key → T → Type 0) (page : T → ℕ) (lo : Key) (hi : Option Key) (first : T) (rest : List (Key × T)) → Chain P lo hi first rest
    → RisesBehind lo (map (λ c. record { key = c.0; child = page c.1 }) rest)
chain_rises P page lo hi first [] h = tt
chain_rises P page lo hi first (c ∷ rest) h = (h.0.low, chain_rises P page c.0 hi c.1 rest h.2)

-- what a search for a place says of the keys before it
pub before_place : (k key : Key) → is_from At k key ≡ false → precedes key k ≡ true
before_place k key h = by (precedes key k) h
  where
    by : (p : Bool) → not p ≡ false → p ≡ true
    by true e = refl
    by false e = cc

pub behind_place : (k : Key) (kind : PageKind) (cells : List (List ℕ)) → AreCells kind cells → (at i : ℕ) → precedes k (key_at cells at) ≡ true → at ≤ i → i < length cells → precedes k (key_at cells i) ≡ true
behind_place k kind cells w at i h o l = is_from_all Behind k kind cells w at i o l h

pub behind_same : (k : Key) (kind : PageKind) (cells : List (List ℕ)) → AreCells kind cells → (at i : ℕ) → is_from At k (key_at cells at) ≡ true → at + 1 ≤ i → i < length cells → precedes k (key_at cells i) ≡ true
behind_same k kind cells w at i h o l = le_lt k (key_at cells at) (key_at cells i) (by (precedes (key_at cells at) k) h) (rising_all kind cells w at i (omega arith) l)
  where
    by : (p : Bool) → not p ≡ true → p ≡ false
    by true e = cc
    by false e = refl

-- ---- sizes

pub size_with : (cells : List (List ℕ)) (a b : ℕ) (x : List ℕ) → a ≤ b → size_of (take a cells ++ x ∷ drop b cells) ≤ size_of cells + (4 + length x)
size_with cells a b x o =
    let j = joined (take a cells) (x ∷ drop b cells) in
    let p = size_parts b cells in
    let g = size_grows a b cells o in
    omega (arith, j, p, g)
  where
    joined : (xs ys : List (List ℕ)) → size_of (xs ++ ys) ≡ size_of xs + size_of ys
    joined [] ys = omega arith
    joined (x ∷ xs) ys = let m = joined xs ys in omega (arith, m)

key_length : (cell : List ℕ) → 2 + key_length_of cell ≤ length cell → length (key_of cell) ≡ key_length_of cell
key_length cell h = length-take (2 + key_length_of cell - 2) (drop 2 cell) ∙ omega (arith, length-drop 2 cell)

pub small_leaf_cell : (cell : List ℕ) → IsCell Leaf cell → IsSmall (entry_of cell) → 4 + length cell ≤ 1014
small_leaf_cell cell w s = let k = key_length cell w.has_key in let v = length-drop (2 + key_length_of cell) cell in omega (arith, k, v, s.cell, w.has_key)

pub small_inner_cell : (cell : List ℕ) → IsCell Inner cell → IsSmallBranch (branch_of cell) → 4 + length cell ≤ 1014
small_inner_cell cell w s = let k = key_length cell w.has_key in let v = w.has_child refl in omega (arith, k, v, s)

pub small_leaf_cells : (cells : List (List ℕ)) → AreCells Leaf cells → AllByRecursion IsSmall (map entry_of cells) → AreSmall cells
small_leaf_cells [] w s = tt
small_leaf_cells (c ∷ cells) w s = (small_leaf_cell c (w.formed 0 (omega arith)) s.0, small_leaf_cells cells (are_drop Leaf (c ∷ cells) 1 w) s.1)

pub small_inner_cells : (cells : List (List ℕ)) → AreCells Inner cells → AllByRecursion IsSmallBranch (map branch_of cells) → AreSmall cells
small_inner_cells [] w s = tt
small_inner_cells (c ∷ cells) w s = (small_inner_cell c (w.formed 0 (omega arith)) s.0, small_inner_cells cells (are_drop Inner (c ∷ cells) 1 w) s.1)
