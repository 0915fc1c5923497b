-- Why a change is refused.
use Rattle.std.proofs.Common.{◌≡◌, ℕ, zero, suc, ◌+◌, ◌<◌, ◌≤◌, List, [], ◌∷◌, ◌++◌, map, length, take, drop, refl, sym, ap, ◌∙◌, subst, Bool, true, false, Option, None, Some, IsSome, Result, Ok, Err, IfErr, IsErrAnd, OnOk, ◌≢◌, arith, nat_lt}
use Rattle.std.specs.Prelude.{slice_index_or}
use Rattle.std.specs.List.{AllByRecursion}
use borrow.Author.Tests.{ltb-true, ltb-false}
use Rattle.std.proofs.lemmas.List.{get_or-drop}
use Rattle.sqlrecord.specs.declared.kind.PageKind.TheVariants.{Leaf, Inner}
use Rattle.sqlrecord.specs.Build.{Fits}
use Rattle.sqlrecord.specs.Cell.{IsLeafCell}
use Rattle.sqlrecord.specs.Page.{key_of, AreCells, IsCell}
use Rattle.page_space.specs.Space.{PageMap}
use Rattle.btree_read.specs.Nodes.{Key, Node, LeafNode, InnerNode, HasNode, entry_of, branch_of, IsSmall, IsSmallBranch, IsStocked}
use Rattle.btree_read.specs.Sorted.{put}
use Rattle.btree_read.specs.Search.{HasNoTree}
use Rattle.btree_read.proofs.OrderLemmas.{empty_lowest}
use Rattle.btree_read.proofs.CountLemmas.{few_levels}
use Rattle.btree_read.proofs.NodeLemmas.{err_passed, not_fresh}
use Rattle.btree_read.proofs.SearchLemmas.{under_root, no_node_no_tree}
use Rattle.btree_read.specs.Lists.{Apart}
use Rattle.btree.specs.Overfull.{size_of, IsOverfull, RisesBehind, HasNoTreeFor, IsNoTreeIn}
use Rattle.btree.proofs.CellLemmas.{stocked_put, stocked_branch, branches_with, entry_is}
use Rattle.btree.proofs.WithLemmas.{small_leaf_cell, small_inner_cell, small_leaf_cells, small_inner_cells, size_with, formed_with, rises_are}
use Rattle.page_space.specs.declared.error.SpaceError.{SpaceError}
use Rattle.page_space.specs.declared.error.SpaceError.TheVariants.{Memory, Disk, Damaged, Pages, Private}
use Rattle.page_space.specs.Space.{ReadRefused, ChangeRefused}

pub change_refused : (AtLimit : SpaceError → Type 0) (H G : Type 0) (a b c : ℕ) (f : SpaceError) → a ≤ b → (H → G) → ChangeRefused AtLimit H b c f → ChangeRefused AtLimit G a c f
change_refused L H G a b c Memory h g w = tt
change_refused L H G a b c Disk h g w = record { no_less = omega (arith, w.no_less); more = omega (arith, w.more) }
change_refused L H G a b c Damaged h g w = g w
change_refused L H G a b c Pages h g w = w
change_refused L H G a b c Private h g w = w

pub change_refused_on : {A : Type 0} (result : Result A SpaceError) (AtLimit : SpaceError → Type 0) (H G : Type 0) (a b c : ℕ) → a ≤ b → (H → G)
    → IfErr result (ChangeRefused AtLimit H b c) → IfErr result (ChangeRefused AtLimit G a c)
change_refused_on (Ok x) L H G a b c h g w = tt
change_refused_on (Err f) L H G a b c h g w = change_refused L H G a b c f h g w

pub change_harm_on : {A : Type 0} (result : Result A SpaceError) (AtLimit : SpaceError → Type 0) (H G : Type 0) (a c : ℕ) → (H → G)
    → IfErr result (ChangeRefused AtLimit H a c) → IfErr result (ChangeRefused AtLimit G a c)
change_harm_on result L H G a c g w = change_refused_on result L H G a a c (omega arith) g w

pub both_rise : (a b c : ℕ) → a ≤ b → b ≤ c → a ≤ c
both_rise a b c h g = omega arith

pub change_harm : (AtLimit : SpaceError → Type 0) (H G : Type 0) (a c : ℕ) (f : SpaceError) → (H → G) → ChangeRefused AtLimit H a c f → ChangeRefused AtLimit G a c f
change_harm L H G a c f g w = change_refused L H G a a c f (omega arith) g w

pub read_as_change : (AtLimit : SpaceError → Type 0) (H G : Type 0) (a c : ℕ) (f : SpaceError) → (H → G) → ReadRefused H a c f → ChangeRefused AtLimit G a c f
read_as_change L H G a c Memory g w = tt
read_as_change L H G a c Disk g w = w
read_as_change L H G a c Damaged g w = g w
read_as_change L H G a c Pages g w = absurd w
read_as_change L H G a c Private g w = absurd w

-- ---- too many cells are cut

pub none_found : (o : Option ℕ) → IsSome o → ((x : ℕ) → o ≡ Some x → ⊥) → ⊥
none_found None h f = cc
none_found (Some x) h f = f x refl

over_of : (cells : List (List ℕ)) → (Fits cells → ⊥) → 4080 < size_of cells
over_of cells f = by (nat_lt 4080 (size_of cells)) refl
  where
    by : (p : Bool) → p ≡ nat_lt 4080 (size_of cells) → 4080 < size_of cells
    by true e = ltb-true 4080 (size_of cells) (sym e)
    by false e = absurd (f (ltb-false 4080 (size_of cells) (sym e)))

pub leaf_not_cut : (cells : List (List ℕ)) (Used W : Type 0) (next : ℕ) → AreCells Leaf cells → (Fits cells → ⊥) → (IsOverfull cells → ⊥)
    → Used → W → IsStocked (LeafNode next (map entry_of cells)) → size_of cells ≤ 5094 → ⊥
leaf_not_cut cells Used W next w nf f u wh s near = f (record { small = small_leaf_cells cells w s.1; over = over_of cells nf; near = near })

pub inner_not_cut : (cells : List (List ℕ)) (Used W : Type 0) (first : ℕ) → AreCells Inner cells → (Fits cells → ⊥) → (IsOverfull cells → ⊥)
    → Used → W → IsStocked (InnerNode first (map branch_of cells)) → size_of cells ≤ 5094 → ⊥
inner_not_cut cells Used W first w nf f u wh s near = f (record { small = small_inner_cells cells w s.1; over = over_of cells nf; near = near })

small_entry_at : (cells : List (List ℕ)) (i : ℕ) → i < length cells → AllByRecursion IsSmall (map entry_of cells) → length (key_of (slice_index_or cells i [])) ≤ 600
small_entry_at [] i l h = absurd (omega arith)
small_entry_at (c ∷ cells) zero l h = h.0.key
small_entry_at (c ∷ cells) (suc i) l h = small_entry_at cells i (omega arith) h.1

pub small_branch_at : (cells : List (List ℕ)) (i : ℕ) → i < length cells → AllByRecursion IsSmallBranch (map branch_of cells) → length (key_of (slice_index_or cells i [])) ≤ 600
small_branch_at [] i l h = absurd (omega arith)
small_branch_at (c ∷ cells) zero l h = h.0
small_branch_at (c ∷ cells) (suc i) l h = small_branch_at cells i (omega arith) h.1

pub leaf_key_small : (cells right : List (List ℕ)) (at : ℕ) (Used W Z : Type 0) (next : ℕ) (key : Key) → right ≡ drop at cells → at + 1 ≤ length cells → key ≡ key_of (slice_index_or right 0 []) → 600 < length key
    → Used → W → IsStocked (LeafNode next (map entry_of cells)) → Z → ⊥
leaf_key_small cells right at Used W Z next key e l k long u wh s z =
    let same : slice_index_or right 0 [] ≡ slice_index_or cells (at + 0) [] = ap (λ xs. slice_index_or xs 0 []) e ∙ get_or-drop at cells 0 [] in
    let m = small_entry_at cells (at + 0) (omega arith) s.1 in
    omega (arith, m, long, ap length (k ∙ ap key_of same))

pub inner_key_small : (cells right : List (List ℕ)) (at : ℕ) (Used W Z : Type 0) (first : ℕ) (key : Key) → right ≡ drop at cells → at + 1 ≤ length cells → key ≡ key_of (slice_index_or right 0 []) → 600 < length key
    → Used → W → IsStocked (InnerNode first (map branch_of cells)) → Z → ⊥
inner_key_small cells right at Used W Z first key e l k long u wh s z =
    let same : slice_index_or right 0 [] ≡ slice_index_or cells (at + 0) [] = ap (λ xs. slice_index_or xs 0 []) e ∙ get_or-drop at cells 0 [] in
    let m = small_branch_at cells (at + 0) (omega arith) s.1 in
    omega (arith, m, long, ap length (k ∙ ap key_of same))

-- ---- one more cell in a page

pub put_refused : (Used W : Type 0) (cells now : List (List ℕ)) (a b : ℕ) (cell : List ℕ) (key : Key) (next : ℕ) → now ≡ take a cells ++ cell ∷ drop b cells → a ≤ b → Fits cells → IsCell Leaf cell
    → ((value x : List ℕ) → entry_of x ≡ record { key = key; value = value } → put key value (map entry_of cells) ≡ map entry_of (take a cells ++ x ∷ drop b cells))
    → (Used → W → IsStocked (LeafNode next (map entry_of now)) → size_of now ≤ 5094 → ⊥)
    → (value : List ℕ) → IsLeafCell cell key value → IsSmall (record { key = key; value = value }) → Used → W → IsStocked (LeafNode next (map entry_of cells)) → ⊥
put_refused Used W cells now a b cell key next e o fits c puts f value is small u wh s =
    let same : put key value (map entry_of cells) ≡ map entry_of now = puts value cell (entry_is cell key value is) ∙ ap (map entry_of) (sym e) in
    let room : size_of now ≤ size_of cells + (4 + length cell) = subst (λ cs. size_of cs ≤ size_of cells + (4 + length cell)) (sym e) (size_with cells a b cell o) in
    let short : 4 + length cell ≤ 1014 = small_leaf_cell cell c (subst IsSmall (sym (entry_is cell key value is)) small) in
    f u wh (subst (λ es. IsStocked (LeafNode next es)) same (stocked_put next key value (map entry_of cells) small s)) (omega (arith, room, short, fits))

pub inner_are : (cells now : List (List ℕ)) (at : ℕ) (cell : List ℕ) (lo : Key) → now ≡ take at cells ++ cell ∷ drop at cells → at ≤ length cells → AreCells Inner cells → IsCell Inner cell
    → RisesBehind lo (take at (map branch_of cells) ++ branch_of cell ∷ drop at (map branch_of cells)) → AreCells Inner now
inner_are cells now at cell lo e l w c h =
    subst (AreCells Inner) (sym e) (rises_are (take at cells ++ cell ∷ drop at cells) lo (formed_with Inner cells at at cell (omega arith) l w.formed c) (subst (RisesBehind lo) (sym (branches_with at cell cells)) h))

pub put_inner_refused : (Used W : Type 0) (cells now : List (List ℕ)) (at : ℕ) (cell : List ℕ) (first : ℕ) → now ≡ take at cells ++ cell ∷ drop at cells → Fits cells → IsCell Inner cell
    → (Used → W → IsStocked (InnerNode first (map branch_of now)) → size_of now ≤ 5094 → ⊥)
    → (lo : Key) → IsSmallBranch (branch_of cell) → Used → W → IsStocked (InnerNode first (map branch_of cells))
    → RisesBehind lo (take at (map branch_of cells) ++ branch_of cell ∷ drop at (map branch_of cells)) → ⊥
put_inner_refused Used W cells now at cell first e fits c f lo small u wh s h =
    let same : take at (map branch_of cells) ++ branch_of cell ∷ drop at (map branch_of cells) ≡ map branch_of now = sym (branches_with at cell cells) ∙ ap (map branch_of) (sym e) in
    let room : size_of now ≤ size_of cells + (4 + length cell) = subst (λ cs. size_of cs ≤ size_of cells + (4 + length cell)) (sym e) (size_with cells at at cell (omega arith)) in
    let short : 4 + length cell ≤ 1014 = small_inner_cell cell c small in
    f u wh (subst (λ bs. IsStocked (InnerNode first bs)) same (stocked_branch first at (branch_of cell) (map branch_of cells) small s)) (omega (arith, room, short, fits))

-- ---- no tree

pub no_tree_for : (pages : PageMap) (page levels : ℕ) (k : Key) (W : Type 0) → HasNoTree pages page levels → HasNoTreeFor pages page levels k W
no_tree_for pages page levels k W f d t lo hi l u w wh = f d t lo hi l u

pub no_node_for : (pages : PageMap) (page levels : ℕ) (k : Key) (W : Type 0) → ((node : Node) → HasNode pages page node → ⊥) → HasNoTreeFor pages page levels k W
no_node_for pages page levels k W f = no_tree_for pages page levels k W (no_node_no_tree pages page levels f)

pub root_refused : (pages : PageMap) (root : ℕ) (k : Key) (W : Type 0) → ((n : ℕ) → IsSome (pages n) → (0 < n) × (n < 65536)) → (root ≡ 0 → ⊥) → HasNoTreeFor pages root 15 k W → IsNoTreeIn pages root W
root_refused pages zero k W b nz f owned entries w wh = nz refl
root_refused pages (suc r) k W b nz f owned entries w wh =
    f w.depth w.tree [] None (few_levels pages w.depth w.tree b w.holds (subst Apart (sym w.owns) w.apart)) (under_root pages (suc r) owned entries w) (record { low = empty_lowest k; high = tt }) wh

-- ---- what the exit of a `?` hands on

pub memory_refused : {A : Type 0} (result : Result A SpaceError) (AtLimit : SpaceError → Type 0) (H : Type 0) (a b : ℕ) → IsErrAnd result (λ f. f ≡ Memory)
    → IfErr result (ChangeRefused AtLimit H a b)
memory_refused result L H a b h = err_passed result Memory (ChangeRefused L H a b) h tt

-- what is kept from a later moment on is kept from an earlier one on
pub kept_from : {A E : Type 0} (result : Result A E) (P Q R : Type 0) → (P → Q) → OnOk result (Q → R) → OnOk result (P → R)
kept_from (Ok x) P Q R f h = λ p. h (f p)
kept_from (Err e) P Q R f h = tt

-- ---- a call on the space that is not refused where all is well

pub page_is_used : (pages : PageMap) (page : ℕ) (W S Z : Type 0) → pages page ≡ None → IsSome (pages page) → W → S → Z → ⊥
page_is_used pages page W S Z e used w s z = not_fresh pages page used e

pub space_is_whole : (W U S Z : Type 0) → (W → ⊥) → U → W → S → Z → ⊥
space_is_whole W U S Z h u w s z = h w

-- a page in use is in use still, once another one was taken
pub still_used : (old new : PageMap) (page fresh : ℕ) (W S Z : Type 0) → old fresh ≡ None → ((n : ℕ) → n ≢ fresh → new n ≡ old n)
    → new page ≡ None → IsSome (old page) → W → S → Z → ⊥
still_used old new page fresh W S Z free others e used w s z =
    not_fresh old page used (sym (others page (λ h. not_fresh old page used (ap old h ∙ free))) ∙ e)

-- and the one that was taken, once the first one was written
pub now_used : (old mid new : PageMap) (page fresh : ℕ) (W S Z : Type 0) → old fresh ≡ None → IsSome (mid fresh) → ((n : ℕ) → n ≢ page → new n ≡ mid n)
    → new fresh ≡ None → IsSome (old page) → W → S → Z → ⊥
now_used old mid new page fresh W S Z free now others e used w s z =
    not_fresh mid fresh now (sym (others fresh (λ h. not_fresh old page used (ap old (sym h) ∙ free))) ∙ e)

pub whole_in_tree : (pages : PageMap) (root : ℕ) (W W1 : Type 0) → (W → W1) → (W1 → ⊥) → IsNoTreeIn pages root W
whole_in_tree pages root W W1 f h owned entries tree w = h (f w)

pub taken_in_tree : (pages : PageMap) (root : ℕ) (W : Type 0) (now : PageMap) (page : ℕ) → IsSome (now page) → now page ≡ None → IsNoTreeIn pages root W
taken_in_tree pages root W now page used e owned entries tree w = not_fresh now page used e
