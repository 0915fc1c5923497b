-- Keys in order over the children of an inner page.
use Rattle.std.proofs.Common.{◌≡◌, ℕ, zero, suc, List, [], ◌∷◌, ◌++◌, map, refl, sym, ap, ◌∙◌, Option, Some, None, Bool, true, false, if◌then◌else◌, append_assoc}
use Rattle.std.specs.List.{flat_map, AllByRecursion}
use Rattle.std.proofs.lemmas.List.{append-nil as append_nil}
use Rattle.btree_read.specs.declared.entry.Entry.{Entry}
use Rattle.btree_read.specs.Nodes.{Key, precedes}
use Rattle.btree_read.specs.Tree.{Tree, kids, branch_to, entries_of, IsBelow, IsWithin, Divides, Chain, Ordered}
use Rattle.btree_read.specs.Search.{route_of, child_at}
use Rattle.btree_read.proofs.Kids.{kid_at, put_first, put_rest, low_at, high_at}
use Rattle.btree_read.proofs.OrderLemmas.{lt_trans, lt_le, not_both, le_le}
use Rattle.btree_read.proofs.ListLemmas.{each_append, each_map}

pub below_trans : (a b : Key) (hi : Option Key) → precedes a b ≡ true → IsBelow b hi → IsBelow a hi
below_trans a b None h g = tt
below_trans a b (Some hi) h g = lt_trans a b hi h g

pub wider_right : (lo s : Key) (hi : Option Key) → Divides lo hi s → (k : Key) → IsWithin lo (Some s) k → IsWithin lo hi k
wider_right lo s hi w k h = record { low = h.low; high = below_trans k s hi h.high w.high }

pub wider_left : (lo s : Key) (hi : Option Key) → Divides lo hi s → (k : Key) → IsWithin s hi k → IsWithin lo hi k
wider_left lo s hi w k h = record { low = le_le lo s k (not_both lo s w.low) h.low; high = h.high }

module _ {T : Type 0} (P : Key → Option Key → T → Type 0) where
  -- a chain goes on
  pub chain_append : (lo : Key) (hi : Option Key) (first : T) (more : List (Key × T)) (s : Key) (t : T) (rest : List (Key × T))
      → Divides lo hi s → Chain P lo (Some s) first more → Chain P s hi t rest → Chain P lo hi first (more ++ (s, t) ∷ rest)
  chain_append lo hi first [] s t rest w h g = (w, h, g)
  chain_append lo hi first (c ∷ more) s t rest w h g = (
    record { low = h.0.low; high = below_trans c.0 s hi h.0.high w.high },
    h.1,
    chain_append c.0 hi c.1 more s t rest (record { low = h.0.high; high = w.high }) h.2 g,
  )

  pub record Cut (lo : Key) (hi : Option Key) (first : T) (xs : List (Key × T)) (s : Key) (t : T) (ys : List (Key × T)) : Type 0 where
    pub divides : Divides lo hi s
    pub left : Chain P lo (Some s) first xs
    pub right : Chain P s hi t ys

  pub chain_cut : (lo : Key) (hi : Option Key) (first : T) (xs : List (Key × T)) (s : Key) (t : T) (ys : List (Key × T))
      → Chain P lo hi first (xs ++ (s, t) ∷ ys) → Cut lo hi first xs s t ys
  chain_cut lo hi first [] s t ys h = record { divides = h.0; left = h.1; right = h.2 }
  chain_cut lo hi first (c ∷ xs) s t ys h =
      let more = chain_cut c.0 hi c.1 xs s t ys h.2 in
      record {
        divides = record { low = lt_trans lo c.0 s h.0.low more.divides.low; high = more.divides.high };
        left = (record { low = h.0.low; high = more.divides.low }, h.1, more.left);
        right = more.right;
      }

  -- the child at a place
  pub chain_at : (lo : Key) (hi : Option Key) (first : T) (rest : List (Key × T)) (at : ℕ)
      → Chain P lo hi first rest → P (low_at lo rest at) (high_at hi rest at) (kid_at first rest at)
  chain_at lo hi first [] at h = h
  chain_at lo hi first (c ∷ rest) zero h = h.1
  chain_at lo hi first (c ∷ rest) (suc at) h = chain_at c.0 hi c.1 rest at h.2

  -- the child at a place exchanged for one or more
  pub chain_put : (lo : Key) (hi : Option Key) (first : T) (rest : List (Key × T)) (at : ℕ) (new : T) (more : List (Key × T))
      → Chain P lo hi first rest → Chain P (low_at lo rest at) (high_at hi rest at) new more
      → Chain P lo hi (put_first first rest at new) (put_rest rest at new more)
  chain_put lo hi first [] at new more h g = g
  chain_put lo hi first (c ∷ rest) zero new more h g = chain_append lo hi new more c.0 c.1 rest h.0 g h.2
  chain_put lo hi first (c ∷ rest) (suc at) new more h g = (h.0, h.1, chain_put c.0 hi c.1 rest at new more h.2 g)

-- ---- each entry is within the bounds

abbrev pub InBounds : Key → Option Key → Entry → Type 0
InBounds lo hi e = IsWithin lo hi e.key

pub within_chain : {T : Type 0} (P : Key → Option Key → T → Type 0) (es : T → List Entry)
    → ((lo : Key) (hi : Option Key) (t : T) → P lo hi t → AllByRecursion (InBounds lo hi) (es t))
    → (lo : Key) (hi : Option Key) (first : T) (rest : List (Key × T)) → Chain P lo hi first rest
    → AllByRecursion (InBounds lo hi) (flat_map es (kids first rest))
within_chain P es f lo hi first [] h = each_append _ (es first) [] (f lo hi first h) tt
within_chain P es f lo hi first (c ∷ rest) h =
    each_append _ (es first) (flat_map es (kids c.1 rest))
    (each_map (InBounds lo (Some c.0)) (InBounds lo hi) (es first) (λ e. wider_right lo c.0 hi h.0 e.key) (f lo (Some c.0) first h.1))
    (each_map (InBounds c.0 hi) (InBounds lo hi) (flat_map es (kids c.1 rest)) (λ e. wider_left lo c.0 hi h.0 e.key) (within_chain P es f c.0 hi c.1 rest h.2))

pub within_tree : (d : ℕ) (lo : Key) (hi : Option Key) (t : Tree d) → Ordered d lo hi t → AllByRecursion (InBounds lo hi) (entries_of d t)
within_tree zero lo hi t h = h.within
within_tree (suc d) lo hi t h = within_chain (Ordered d) (entries_of d) (within_tree d) lo hi t.first t.rest h

-- ---- the way to a key

pub child_is_kid : {T : Type 0} (page : T → ℕ) (first : T) (rest : List (Key × T)) (at : ℕ)
    → child_at (page first) (map (λ c. record { key = c.0; child = page c.1 }) rest) at ≡ page (kid_at first rest at)
child_is_kid page first [] at = refl
child_is_kid page first (c ∷ rest) zero = refl
child_is_kid page first (c ∷ rest) (suc at) = child_is_kid page c.1 rest at

pub all_before : (lo : Key) (hi : Option Key) (s k : Key) → precedes k s ≡ false → (es : List Entry) → AllByRecursion (InBounds lo (Some s)) es → AllByRecursion (λ e. precedes e.key k ≡ true) es
all_before lo hi s k h es g = each_map (InBounds lo (Some s)) (λ e. precedes e.key k ≡ true) es (λ e w. lt_le e.key s k w.high h) g

pub all_behind : (hi : Option Key) (s k : Key) → precedes k s ≡ true → (es : List Entry) → AllByRecursion (InBounds s hi) es → AllByRecursion (λ e. precedes k e.key ≡ true) es
all_behind hi s k h es g = each_map (InBounds s hi) (λ e. precedes k e.key ≡ true) es (λ e w. lt_le k s e.key h w.low) g

module _ (d : ℕ) where
  abbrev pub flat : Tree d → List (Key × Tree d) → List Entry
  flat first rest = flat_map (entries_of d) (kids first rest)

  abbrev pub way : Key → List (Key × Tree d) → ℕ
  way k rest = route_of k (map (branch_to d) rest)

  -- the bounds of the child on a key's way hold the key
  pub within_way : (lo : Key) (hi : Option Key) (k : Key) (rest : List (Key × Tree d))
      → IsWithin lo hi k → IsWithin (low_at lo rest (way k rest)) (high_at hi rest (way k rest)) k
  within_way lo hi k [] w = w
  within_way lo hi k (c ∷ rest) w = by (precedes k c.0) refl (within_way c.0 hi k rest)
    where
      by : (p : Bool) → p ≡ precedes k c.0
          → (IsWithin c.0 hi k → IsWithin (low_at c.0 rest (way k rest)) (high_at hi rest (way k rest)) k)
          → IsWithin (low_at lo (c ∷ rest) (if p then 0 else suc (way k rest))) (high_at hi (c ∷ rest) (if p then 0 else suc (way k rest))) k
      by true e next = record { low = w.low; high = sym e }
      by false e next = next (record { low = sym e; high = w.high })

  -- the entries beside those of the child on a key's way: before it all stand before the key,
  -- behind it all behind the key
  pub record Beside (k : Key) (first : Tree d) (rest : List (Key × Tree d)) (at : ℕ) : Type 0 where
    pub before : List Entry
    pub after : List Entry
    pub all : flat first rest ≡ before ++ (entries_of d (kid_at first rest at) ++ after)
    pub put_in : (new : Tree d) (more : List (Key × Tree d)) → flat (put_first first rest at new) (put_rest rest at new more) ≡ before ++ (flat new more ++ after)
    pub low : AllByRecursion (λ e. precedes e.key k ≡ true) before
    pub high : AllByRecursion (λ e. precedes k e.key ≡ true) after

  flat_append : (first : Tree d) (more : List (Key × Tree d)) (c : Key × Tree d) (rest : List (Key × Tree d))
      → flat first (more ++ c ∷ rest) ≡ flat first more ++ flat c.1 rest
  flat_append first [] c rest = simp append_nil
  flat_append first (b ∷ more) c rest = ap (λ es. entries_of d first ++ es) (flat_append b.1 more c rest) ∙ sym (append_assoc (entries_of d first) (flat b.1 more) (flat c.1 rest))

  pub beside : (lo : Key) (hi : Option Key) (k : Key) (first : Tree d) (rest : List (Key × Tree d))
      → Chain (Ordered d) lo hi first rest → Beside k first rest (way k rest)
  beside lo hi k first [] h = record { before = []; after = []; all = sym refl; put_in = λ new more. sym (append_nil (flat new more)); low = tt; high = tt }
  beside lo hi k first (c ∷ rest) h = by (precedes k c.0) refl (beside c.0 hi k c.1 rest h.2)
    where
      by : (p : Bool) → p ≡ precedes k c.0 → Beside k c.1 rest (way k rest) → Beside k first (c ∷ rest) (if p then 0 else suc (way k rest))
      by true e next = record {
        before = [];
        after = flat c.1 rest;
        all = refl;
        put_in = λ new more. flat_append new more c rest;
        low = tt;
        high = all_behind hi c.0 k (sym e) _ (within_chain (Ordered d) (entries_of d) (within_tree d) c.0 hi c.1 rest h.2);
      }
      by false e next = record {
        before = entries_of d first ++ next.before;
        after = next.after;
        all = ap (λ es. entries_of d first ++ es) next.all ∙ sym (append_assoc (entries_of d first) next.before _);
        put_in = λ new more. ap (λ es. entries_of d first ++ es) (next.put_in new more) ∙ sym (append_assoc (entries_of d first) next.before _);
        low = each_append _ (entries_of d first) next.before (all_before lo hi c.0 k (sym e) _ (within_tree d lo (Some c.0) first h.1)) next.low;
        high = next.high;
      }
