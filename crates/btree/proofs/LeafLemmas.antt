-- A leaf grown: its entries in order, in one leaf or two.
use Rattle.std.proofs.Common.{◌≡◌, ◌≢◌, ℕ, zero, List, [], ◌∷◌, ◌++◌, ◌⊎◌, inl, inr, refl, sym, ap, ◌∙◌, subst, Option, Some, None, IsSome, Bool, true, false, if◌then◌else◌}
use Rattle.std.specs.List.{AllByRecursion}
use Rattle.std.proofs.lemmas.List.{append-nil as append_nil}
use Rattle.page_space.specs.Space.{PageMap}
use Rattle.btree_read.specs.declared.entry.Entry.{Entry}
use Rattle.btree_read.specs.declared.entry.Branch.{Branch}
use Rattle.btree_read.specs.Lists.{Has, Apart}
use Rattle.btree_read.specs.Nodes.{Key, precedes, LeafNode, HasNode}
use Rattle.btree_read.specs.Sorted.{Ascends, put}
use Rattle.btree_read.specs.Tree.{LeafAt, nodes_of, IsWithin, IsRising, Chain, Ordered}
use Rattle.btree_read.specs.Search.{IsUnder}
use Rattle.btree_read.proofs.OrderLemmas.{lt_trans, le_lt, not_both, not_self}
use Rattle.btree_read.proofs.ListLemmas.{each_left, each_right, each_map}
use Rattle.btree_read.proofs.ChainLemmas.{InBounds}
use Rattle.btree_read.proofs.NodeLemmas.{not_fresh}
use Rattle.btree_read.proofs.PageLemmas.{holds_used}
use Rattle.btree.specs.Grow.{IsGrown, LeafWritten}

-- ---- entries in order

abbrev After : Key → Entry → Type 0
After k x = precedes k x.key ≡ true

pub put_each : (P : Entry → Type 0) (k : Key) (v : List ℕ) (es : List Entry) → P (record { key = k; value = v }) → AllByRecursion P es → AllByRecursion P (put k v es)
put_each P k v [] h g = (h, tt)
put_each P k v (e ∷ es) h g = by (precedes e.key k) (precedes k e.key) (put_each P k v es h g.1)
  where
    by : (p q : Bool) → AllByRecursion P (put k v es)
        → AllByRecursion P (if p then e ∷ put k v es else if q then record { key = k; value = v } ∷ e ∷ es else record { key = k; value = v } ∷ es)
    by true q w = (g.0, w)
    by false true w = (h, g)
    by false false w = (h, g.1)

put_ascends : (k : Key) (v : List ℕ) (es : List Entry) → Ascends es → Ascends (put k v es)
put_ascends k v [] h = (tt, tt)
put_ascends k v (e ∷ es) h = by (precedes e.key k) (precedes k e.key) refl refl (put_ascends k v es h.1)
  where
    by : (p q : Bool) → p ≡ precedes e.key k → q ≡ precedes k e.key → Ascends (put k v es)
        → Ascends (if p then e ∷ put k v es else if q then record { key = k; value = v } ∷ e ∷ es else record { key = k; value = v } ∷ es)
    by true q a b w = (put_each (After e.key) k v es (sym a) h.0, w)
    by false true a b w = ((sym b, each_map (After e.key) (After k) es (λ x g. lt_trans k e.key x.key (sym b) g) h.0), h)
    by false false a b w = (each_map (After e.key) (After k) es (λ x g. le_lt k e.key x.key (sym a) g) h.0, h.1)

pub put_rising : (lo : Key) (hi : Option Key) (k : Key) (v : List ℕ) (es : List Entry) → IsWithin lo hi k → IsRising lo hi es → IsRising lo hi (put k v es)
put_rising lo hi k v es w h = record { within = put_each (InBounds lo hi) k v es w h.within; ascends = put_ascends k v es h.ascends }

record AscendsCut (xs : List Entry) (y : Entry) (ys : List Entry) : Type 0 where
  pub left : Ascends xs
  pub below : AllByRecursion (λ e. precedes e.key y.key ≡ true) xs
  pub right : Ascends (y ∷ ys)

ascends_cut : (xs : List Entry) (y : Entry) (ys : List Entry) → Ascends (xs ++ y ∷ ys) → AscendsCut xs y ys
ascends_cut [] y ys h = record { left = tt; below = tt; right = h }
ascends_cut (x ∷ xs) y ys h =
    let w = ascends_cut xs y ys h.1 in
    let g = each_right (After x.key) xs (y ∷ ys) h.0 in
    record { left = (each_left (After x.key) xs (y ∷ ys) h.0, w.left); below = (g.0, w.below); right = w.right }

bound_left : (lo : Key) (hi : Option Key) (s : Key) (es : List Entry) → AllByRecursion (InBounds lo hi) es → AllByRecursion (λ e. precedes e.key s ≡ true) es → AllByRecursion (InBounds lo (Some s)) es
bound_left lo hi s [] h g = tt
bound_left lo hi s (e ∷ es) h g = (record { low = h.0.low; high = g.0 }, bound_left lo hi s es h.1 g.1)

bound_right : (s : Key) (lo : Key) (hi : Option Key) (es : List Entry) → AllByRecursion (After s) es → AllByRecursion (InBounds lo hi) es → AllByRecursion (InBounds s hi) es
bound_right s lo hi [] h g = tt
bound_right s lo hi (e ∷ es) h g = (record { low = not_both s e.key h.0; high = g.0.high }, bound_right s lo hi es h.1 g.1)

rising_chain : (lo : Key) (hi : Option Key) (x : Entry) (xs : List Entry) (y : Entry) (ys : List Entry) (p n q m : ℕ)
    → IsRising lo hi ((x ∷ xs) ++ y ∷ ys)
    → Chain (Ordered zero) lo hi (record { page = p; next = n; entries = x ∷ xs }) ((y.key, record { page = q; next = m; entries = y ∷ ys }) ∷ [])
rising_chain lo hi x xs y ys p n q m h =
    let w = ascends_cut (x ∷ xs) y ys h.ascends in
    let right = each_right (InBounds lo hi) (x ∷ xs) (y ∷ ys) h.within in
    let left = each_left (InBounds lo hi) (x ∷ xs) (y ∷ ys) h.within in (
      record { low = le_lt lo x.key y.key left.0.low w.below.0; high = right.0.high },
      record { within = bound_left lo hi y.key (x ∷ xs) left w.below; ascends = w.left },
      record {
        within = (record { low = not_self y.key; high = right.0.high }, bound_right y.key lo hi ys w.right.0 right.1);
        ascends = w.right;
      },
    )

-- ---- the page

one_apart : (p : ℕ) → Apart (p ∷ [])
one_apart p = (λ h. h, tt)

two_apart : (p q : ℕ) → p ≢ q → Apart (p ∷ q ∷ [])
two_apart p q h = (λ g. by g, one_apart q)
  where
    by : (p ≡ q) ⊎ ⊥ → ⊥
    by (inl e) = h e
    by (inr g) = g

pub used_not_fresh : (pages : PageMap) (p q : ℕ) → IsSome (pages p) → pages q ≡ None → p ≢ q
used_not_fresh pages p q h g e = not_fresh pages q (subst (λ n. IsSome (pages n)) e h) g

module _ (old new : PageMap) (page : ℕ) (t : LeafAt) (lo : Key) (hi : Option Key) (Fits : Key → Option Key → Type 0) (now : List Entry) where
  pub leaf_grown : (split : Option Branch) → IsUnder old page zero t lo hi
      → ((a : Key) (b : Option Key) → IsRising a b t.entries → Fits a b → IsRising a b now)
      → LeafWritten old new page t.next now split → IsGrown old new zero t Fits now split
  leaf_grown None u rises w = record {
    tree = record { page = t.page; next = t.next; entries = now };
    more = [];
    told = refl;
    same = refl;
    holds = (subst (λ n. HasNode new n (LeafNode t.next now)) (sym u.at) w.0, tt);
    apart = one_apart t.page;
    own = λ n h. inl h;
    others = λ n h g. w.1 n (λ e. h (inl (e ∙ sym u.at)));
    kept = record { still = λ n h. h; rest = λ n h. w.1 n (λ e. h (inl (e ∙ sym u.at))) };
    order = λ a b o f. rises a b o f;
    links = λ from to h. h;
    entries = append_nil now;
  }
  leaf_grown (Some b) u rises w = record {
    tree = record { page = t.page; next = b.child; entries = w.x ∷ w.xs };
    more = (w.y.key, record { page = b.child; next = t.next; entries = w.y ∷ w.ys }) ∷ [];
    told = ap (λ s. record { key = s; child = b.child } ∷ []) (sym w.key);
    same = refl;
    holds = (subst (λ n. HasNode new n (LeafNode b.child (w.x ∷ w.xs))) (sym u.at) w.left, (w.right, tt));
    apart = two_apart t.page b.child (used_not_fresh old t.page b.child (holds_used old (nodes_of zero t) u.holds t.page (inl refl)) w.fresh);
    own = λ n h. own_by n h;
    others = λ n h g. w.others n (λ e. other_by n h g e);
    kept = record { still = λ n h. still_by n h; rest = λ n h. w.others n (λ e. h (two_by n e)) };
    order = λ a z o f. rising_chain a z w.x w.xs w.y w.ys t.page b.child b.child t.next (subst (IsRising a z) w.parts (rises a z o f));
    links = λ from to h. (h.0, (refl, h.1));
    entries = ap (λ es. (w.x ∷ w.xs) ++ es) (append_nil (w.y ∷ w.ys)) ∙ sym w.parts;
  }
    where
      own_by : (n : ℕ) → (n ≡ t.page) ⊎ ((n ≡ b.child) ⊎ ⊥) → ((n ≡ t.page) ⊎ ⊥) ⊎ (old n ≡ None)
      own_by n (inl e) = inl (inl e)
      own_by n (inr (inl e)) = inr (ap old e ∙ w.fresh)
      own_by n (inr (inr g)) = absurd g

      still_by : (n : ℕ) → (n ≡ t.page) ⊎ ⊥ → (n ≡ t.page) ⊎ ((n ≡ b.child) ⊎ ⊥)
      still_by n (inl e) = inl e
      still_by n (inr g) = absurd g

      two_by : (n : ℕ) → (n ≡ page) ⊎ (n ≡ b.child) → (n ≡ t.page) ⊎ ((n ≡ b.child) ⊎ ⊥)
      two_by n (inl e) = inl (e ∙ sym u.at)
      two_by n (inr e) = inr (inl e)

      other_by : (n : ℕ) → (Has n (t.page ∷ []) → ⊥) → IsSome (old n) → (n ≡ page) ⊎ (n ≡ b.child) → ⊥
      other_by n h g (inl e) = h (inl (e ∙ sym u.at))
      other_by n h g (inr e) = not_fresh old n g (ap old e ∙ w.fresh)
