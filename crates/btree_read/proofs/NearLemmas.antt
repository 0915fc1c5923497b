-- A leaf that is kept from one search to the next.
use Rattle.std.proofs.Common.{◌≡◌, ℕ, zero, suc, ◌<◌, List, [], ◌∷◌, ◌++◌, map, length, refl, sym, ap, ◌∙◌, subst, Option, Some, None, Bool, true, false, if◌then◌else◌, append_assoc, arith}
use Rattle.std.specs.Prelude.{slice_index_or}
use Rattle.std.proofs.lemmas.List.{append-nil as append_nil}
use Rattle.page_space.specs.Space.{PageMap}
use Rattle.sqlrecord.specs.declared.kind.PageKind.TheVariants.{Leaf, Inner}
use Rattle.sqlrecord.specs.Page.{PageView, key_of}
use Rattle.btree_read.specs.declared.entry.Entry.{Entry}
use Rattle.btree_read.specs.declared.entry.Start.TheVariants.{Behind}
use Rattle.btree_read.specs.declared.near.LastLeaf.{LastLeaf}
use Rattle.btree_read.specs.Nodes.{Key, precedes, LeafNode, InnerNode, entry_of, branch_of}
use Rattle.btree_read.specs.Sorted.{Ascends, is_from, first_from}
use Rattle.btree_read.specs.Tree.{Tree, page_of, branch_to, entries_of, IsTree}
use Rattle.btree_read.specs.Search.{Sees, IsUnder, child_at}
use Rattle.btree_read.specs.Near.{StandsIn, IsPartOf, LiesIn, StaysIn, StaysBelow}
use Rattle.btree_read.proofs.Kids.{kid_at}
use Rattle.btree_read.proofs.ListLemmas.{each_right}
use Rattle.btree_read.proofs.OrderLemmas.{lt_trans}
use Rattle.btree_read.proofs.PageLemmas.{around}
use Rattle.btree_read.proofs.PlaceLemmas.{first_at}
use Rattle.btree_read.proofs.SearchLemmas.{sees_leaf, sees_inner, leaf_shown, no_leaf, child_found, under_root}

-- ---- the first entry behind a key, in a part of the list

-- an entry behind a key makes those behind it be so
not_behind : (k a b : Key) → precedes a b ≡ true → precedes k b ≡ false → precedes k a ≡ false
not_behind k a b h g = by (precedes k a) refl
  where
    by : (p : Bool) → p ≡ precedes k a → precedes k a ≡ false
    by true e = let w = lt_trans k a b (sym e) h in cc
    by false e = sym e

-- what stands before an entry that is not behind the key is passed over
passed_over : (k : Key) (xs : List Entry) (y : Entry) (ys : List Entry) → Ascends (xs ++ y ∷ ys) → precedes k y.key ≡ false
    → first_from Behind k (xs ++ y ∷ ys) ≡ first_from Behind k (y ∷ ys)
passed_over k [] y ys h g = refl
passed_over k (x ∷ xs) y ys h g =
    let low = each_right (λ e. precedes x.key e.key ≡ true) xs (y ∷ ys) h.0 in
    rw (not_behind k x.key y.key low.0 g) (passed_over k xs y ys h.1 g)

-- an entry that is found is found whatever stands behind it
found_early : (k : Key) (xs ys : List Entry) (e : Entry) → first_from Behind k xs ≡ Some e → first_from Behind k (xs ++ ys) ≡ Some e
found_early k [] ys e h = cc
found_early k (x ∷ xs) ys e h = by (precedes k x.key) (found_early k xs ys e) h
  where
    by : (p : Bool) → (first_from Behind k xs ≡ Some e → first_from Behind k (xs ++ ys) ≡ Some e)
        → (if p then Some x else first_from Behind k xs) ≡ Some e → (if p then Some x else first_from Behind k (xs ++ ys)) ≡ Some e
    by true f g = g
    by false f g = f g

pub found_in_part : (k : Key) (entries : List Entry) (cells : List (List ℕ)) (at : ℕ) → Ascends entries → StandsIn (map entry_of cells) entries
    → ((i : ℕ) → i < at → precedes k (entry_of (slice_index_or cells i [])).key ≡ false)
    → (at ≡ 0 → ⊥) → at < length cells → precedes k (entry_of (slice_index_or cells at [])).key ≡ true
    → Some (entry_of (slice_index_or cells at [])) ≡ first_from Behind k entries
found_in_part k entries [] at a w f z l h = absurd (omega (arith, l))
found_in_part k entries (c ∷ cells) at a w f z l h =
    let first = f 0 (omega (arith, z)) in
    let whole = subst Ascends w.parts a in
    let rest : List Entry = map entry_of cells ++ w.behind in
    sym (ap (first_from Behind k) w.parts ∙ passed_over k w.before (entry_of c) rest whole first
    ∙ found_early k (map entry_of (c ∷ cells)) w.behind (entry_of (slice_index_or (c ∷ cells) at [])) (first_at Behind k (c ∷ cells) at f l h))

-- the same, of the leaf that is kept
pub found_kept : (k : Key) (entries : List Entry) (kept : Option (List (List ℕ))) (cells shown : List (List ℕ)) (at : ℕ) (found : Entry) → kept ≡ Some cells → shown ≡ cells
    → Ascends entries → IsPartOf entries kept → ((i : ℕ) → i < at → is_from Behind k (key_of (slice_index_or shown i [])) ≡ false)
    → (at ≡ 0 → ⊥) → at < length shown → is_from Behind k (key_of (slice_index_or shown at [])) ≡ true
    → found ≡ entry_of (slice_index_or shown at []) → Some found ≡ first_from Behind k entries
found_kept k entries kept cells shown at found is same a w f z l h e =
    let part : IsPartOf entries (Some shown) = subst (IsPartOf entries) (is ∙ ap Some (sym same)) w in
    ap Some e ∙ found_in_part k entries shown at a part f z l h

-- ---- a part of a part

pub stands_trans : (a b c : List Entry) → StandsIn a b → StandsIn b c → StandsIn a c
stands_trans a b c h g = record {
  before = g.before ++ h.before;
  behind = h.behind ++ g.behind;
  parts = g.parts ∙ ap (λ es. g.before ++ (es ++ g.behind)) h.parts
      ∙ ap (λ es. g.before ++ es) (append_assoc h.before (a ++ h.behind) g.behind ∙ ap (λ es. h.before ++ es) (append_assoc a h.behind g.behind))
      ∙ sym (append_assoc g.before h.before (a ++ (h.behind ++ g.behind)));
}

stands_self : (a : List Entry) → StandsIn a a
stands_self a = record { before = []; behind = []; parts = sym (append_nil a) }

kid_stands : (d : ℕ) (t : Tree (suc d)) (at : ℕ) → StandsIn (entries_of d (kid_at t.first t.rest at)) (entries_of (suc d) t)
kid_stands d t at =
    let w = around (entries_of d) t.first t.rest at in
    record { before = w.before; behind = w.after; parts = w.old }

-- ---- the leaf that is kept, on the way down

pub stays_leaf : (pages : PageMap) (page : ℕ) (view : PageView) (was now : LastLeaf) → Sees pages page view → view.kind ≡ Leaf
    → StaysIn (map entry_of view.cells) was now → StaysBelow pages page was now
stays_leaf pages page view was now s k h zero t lo hi u =
    let e : LeafNode view.link (map entry_of view.cells) ≡ LeafNode t.next t.entries = sym (leaf_shown pages page view k) ∙ sees_leaf pages page view t lo hi s u in
    let es : map entry_of view.cells ≡ t.entries = cc in
    λ entries w. h entries (subst (λ part. StandsIn part entries) (sym es) w)
stays_leaf pages page view was now s k h (suc d) t lo hi u =
    let e : LeafNode view.link (map entry_of view.cells) ≡ InnerNode (page_of d t.first) (map (branch_to d) t.rest) =
    sym (leaf_shown pages page view k) ∙ sees_inner pages page view d t lo hi s u in cc

pub stays_child : (pages mid : PageMap) (page : ℕ) (view : PageView) (child at : ℕ) (was now : LastLeaf) → mid ≡ pages
    → Sees pages page view → view.kind ≡ Inner → child ≡ child_at view.link (map branch_of view.cells) at
    → StaysBelow mid child was now → StaysBelow pages page was now
stays_child pages mid page view child at was now e s k c h zero t lo hi u = absurd (no_leaf pages page view t lo hi s k u)
stays_child pages mid page view child at was now e s k c h (suc d) t lo hi u =
    let low = subst (λ m. StaysBelow m child was now) e h d (kid_at t.first t.rest at) _ _ (child_found pages page view child d t lo hi at s k c u) in
    λ entries w. low entries (stands_trans _ _ _ (kid_stands d t at) w)

pub stays_twice : (pages : PageMap) (page : ℕ) (was mid now : LastLeaf) → StaysBelow pages page was mid → StaysBelow pages page mid now → StaysBelow pages page was now
stays_twice pages page was mid now h g d t lo hi u entries w p = g d t lo hi u entries w (h d t lo hi u entries w p)

-- ---- at the root

pub lies_on : (pages mid : PageMap) (root : ℕ) (was now : LastLeaf) → mid ≡ pages → (root ≡ 0 → ⊥) → StaysBelow pages root was now → LiesIn pages root was → LiesIn mid root now
lies_on pages mid zero was now e z h l owned entries w = absurd (z refl)
lies_on pages mid (suc r) was now e z h l owned entries w =
    let v = subst (λ m. IsTree m (suc r) owned entries) e w in
    h v.depth v.tree [] None (under_root pages (suc r) owned entries v) entries (subst (λ es. StandsIn es entries) (sym v.shows) (stands_self entries)) (l owned entries v)
