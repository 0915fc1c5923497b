-- Insertion at the root, over plain variables.
use Rattle.std.proofs.Common.{◌≡◌, ℕ, zero, suc, List, [], ◌∷◌, map, ◌⊎◌, inl, inr, refl, sym, ap, ◌∙◌, subst, Option, Some, None, IsSome, Ok, arith}
use Rattle.std.specs.List.{flat_map}
use Rattle.std.proofs.lemmas.List.{append-nil as append_nil}
use Rattle.page_space.specs.Space.{PageMap, IsFresh}
use Rattle.btree_read.specs.declared.entry.Entry.{Entry}
use Rattle.btree_read.specs.declared.entry.Branch.{Branch}
use Rattle.btree_read.specs.Lists.{Has, Apart, Leads}
use Rattle.btree_read.specs.Nodes.{Key, Node, LeafNode, InnerNode, HasNode, IsStocked, IsSmall, IsSmallBranch, entry_of, branch_of}
use Rattle.btree_read.specs.Sorted.{put}
use Rattle.btree_read.specs.Tree.{Tree, page_of, branch_to, kids, entries_of, nodes_of, leaves_of, pages_in, Holds, Chain, Ordered, IsTree, IsTreeOf, IsWithin}
use Rattle.btree_read.proofs.OrderLemmas.{empty_lowest}
use Rattle.btree_read.proofs.NodeLemmas.{not_fresh}
use Rattle.btree_read.proofs.PageLemmas.{holds_used, holds_kept}
use Rattle.btree_read.proofs.SearchLemmas.{under_root}
use Rattle.btree.specs.Grow.{flat_nodes, flat_leaves, SamePages, GrowsBelow, IsGrown, AreKept}
use Rattle.btree.specs.Written.{IsWritten}
use Rattle.btree.proofs.GrowLemmas.{has_or_not}
use Rattle.btree.proofs.KeptLemmas.{one_owned}

as_tree : (pages : PageMap) (root : ℕ) (owned : List ℕ) (entries : List Entry) → (root ≡ 0 → ⊥) → IsTreeOf pages root owned entries → IsTree pages root owned entries
as_tree pages zero owned entries nz w = absurd (nz refl)
as_tree pages (suc r) owned entries nz w = w

none_more : (d : ℕ) (more : List (Key × Tree d)) → map (branch_to d) more ≡ [] → more ≡ []
none_more d [] e = refl
none_more d (c ∷ more) e = cc

-- what is at the root of a tree that is grown and still one, and that no page is lost
pub record RootGrown (old new : PageMap) (owned : List ℕ) (now : List Entry) (root : ℕ) : Type 0 where
  pub written : IsWritten old new owned now root
  pub kept : AreKept old new owned written.now_owned

pub root_grown : (old new : PageMap) (r : ℕ) (owned : List ℕ) (entries : List Entry) (w : IsTreeOf old (suc r) owned entries) (Fits : Key → Option Key → Type 0) (now : List Entry)
    → Fits [] None → IsGrown old new w.depth w.tree Fits now None → RootGrown old new owned now (suc r)
root_grown old new r owned entries w Fits now f x =
    let only : x.more ≡ [] = none_more w.depth x.more x.told in
    let alone : flat_nodes w.depth x.tree x.more ≡ nodes_of w.depth x.tree = ap (flat_nodes w.depth x.tree) only ∙ append_nil (nodes_of w.depth x.tree) in
    let leaves : flat_leaves w.depth x.tree x.more ≡ leaves_of w.depth x.tree = ap (flat_leaves w.depth x.tree) only ∙ append_nil (leaves_of w.depth x.tree) in
    let k : AreKept old new owned (pages_in (flat_nodes w.depth x.tree x.more)) = subst (λ ps. AreKept old new ps (pages_in (flat_nodes w.depth x.tree x.more))) w.owns x.kept in
    record {
      written = record {
        now_owned = pages_in (nodes_of w.depth x.tree);
        stored = record {
          depth = w.depth;
          tree = x.tree;
          at = x.same ∙ w.at;
          holds = subst (Holds new) alone x.holds;
          apart = subst (λ ns. Apart (pages_in ns)) alone x.apart;
          owns = refl;
          order = subst (Chain (Ordered w.depth) [] None x.tree) only (x.order [] None w.order f);
          leftmost = w.leftmost;
          links = subst (λ ls. Leads w.leftmost ls 0) leaves (x.links w.leftmost 0 w.links);
          shows = sym (append_nil (entries_of w.depth x.tree)) ∙ ap (λ more. flat_map (entries_of w.depth) (kids x.tree more)) (sym only) ∙ x.entries;
        };
        own = λ n h. subst (λ ps. Has n ps ⊎ (old n ≡ None)) w.owns (x.own n (subst (λ ns. Has n (pages_in ns)) (sym alone) h));
        others = λ n h. x.others n (λ m. h (subst (Has n) w.owns m));
      };
      kept = subst (λ ns. AreKept old new owned (pages_in ns)) alone k;
    }

pub root_kept : (old new : PageMap) (root : ℕ) (k : Key) (v : List ℕ) → (root ≡ 0 → ⊥) → GrowsBelow old new root k v (Ok None)
    → (owned : List ℕ) (entries : List Entry) → IsTree old root owned entries → IsWritten old new owned (put k v entries) root
root_kept old new zero k v nz g owned entries w = absurd (nz refl)
root_kept old new (suc r) k v nz g owned entries w =
    subst (λ es. IsWritten old new owned (put k v es) (suc r)) w.shows
    (root_grown old new r owned entries w (λ a b. IsWithin a b k) (put k v (entries_of w.depth w.tree)) (record { low = empty_lowest k; high = tt }) (g w.depth w.tree [] None (under_root old (suc r) owned entries w))).written

pub still_fresh : (old mid : PageMap) (owned : List ℕ) (r : ℕ) → ((n : ℕ) → (Has n owned → ⊥) → IsSome (old n) → mid n ≡ old n) → mid r ≡ None → Has r owned ⊎ (old r ≡ None)
still_fresh old mid owned r f e = by (has_or_not r owned)
  where
    at : (Has r owned → ⊥) → (o : Option (List ℕ)) → o ≡ old r → old r ≡ None
    at g None h = sym h
    at g (Some x) h = let used : IsSome (old r) = rw (sym h) refl in absurd (not_fresh mid r (rw (f r g used) used) e)

    by : Has r owned ⊎ (Has r owned → ⊥) → Has r owned ⊎ (old r ≡ None)
    by (inl g) = inl g
    by (inr g) = inr (at g (old r) refl)

pub root_up : (old mid low new : PageMap) (root r : ℕ) (b : Branch) (cell : List ℕ) (k : Key) (v : List ℕ) → (root ≡ 0 → ⊥) → GrowsBelow old mid root k v (Ok (Some b))
    → IsFresh mid low r → SamePages mid low (λ n. n ≡ r)
    → (IsSome (low r) → IsStocked (InnerNode root (branch_of cell ∷ [])) → HasNode new r (InnerNode root (branch_of cell ∷ []))) → SamePages low new (λ n. n ≡ r)
    → branch_of cell ≡ b → IsSmallBranch b
    → (owned : List ℕ) (entries : List Entry) → IsTree old root owned entries → IsWritten old new owned (put k v entries) r
root_up old mid low new zero r b cell k v nz g fresh keeps write same is small owned entries w = absurd (nz refl)
root_up old mid low new (suc q) r b cell k v nz g fresh keeps write same is small owned entries w =
    let x = g w.depth w.tree [] None (under_root old (suc q) owned entries w) in
    let F : List (ℕ × Node) = flat_nodes w.depth x.tree x.more in
    let no_r : Has r (pages_in F) → ⊥ = λ h. not_fresh mid r (holds_used mid F x.holds r h) fresh.free in
    let others : (n : ℕ) → (Has n owned → ⊥) → IsSome (old n) → mid n ≡ old n = λ n h. x.others n (λ m. h (subst (Has n) w.owns m)) in
    let stocked : IsStocked (InnerNode (suc q) (b ∷ [])) = (λ e. cc, (small, tt)) in
    let node : HasNode new r (InnerNode (suc q) (b ∷ [])) =
    subst (λ y. IsSome (low r) → IsStocked (InnerNode (suc q) (y ∷ [])) → HasNode new r (InnerNode (suc q) (y ∷ []))) is write fresh.used stocked in
    let at_tree : HasNode new r (InnerNode (page_of w.depth x.tree) (b ∷ [])) = subst (λ p. HasNode new r (InnerNode p (b ∷ []))) (sym (x.same ∙ w.at)) node in
    record {
      now_owned = r ∷ pages_in F;
      stored = as_tree new r (r ∷ pages_in F) (put k v entries) (λ e. let s = fresh.some in omega arith) (record {
        depth = suc w.depth;
        tree = record { page = r; first = x.tree; rest = x.more };
        at = refl;
        holds = (
          subst (λ bs. HasNode new r (InnerNode (page_of w.depth x.tree) bs)) (sym x.told) at_tree,
          holds_kept mid new F x.holds (λ n h. let ne : n ≡ r → ⊥ = λ e. no_r (subst (λ m. Has m (pages_in F)) e h) in same n ne ∙ keeps n ne),
        );
        apart = (no_r, x.apart);
        owns = refl;
        order = x.order [] None w.order (record { low = empty_lowest k; high = tt });
        leftmost = w.leftmost;
        links = x.links w.leftmost 0 w.links;
        shows = x.entries ∙ ap (put k v) w.shows;
      });
      own = λ n h. own_by n owned (still_fresh old mid owned r others fresh.free) (pages_in F) (λ m. subst (λ ps. Has n ps ⊎ (old n ≡ None)) w.owns (x.own n m)) h;
      others = λ n h used. let ne : n ≡ r → ⊥ = λ e. not_fresh mid n (rw (others n h used) used) (ap mid e ∙ fresh.free) in same n ne ∙ keeps n ne ∙ others n h used;
    }
  where
    own_by : (n : ℕ) (owned : List ℕ) → Has r owned ⊎ (old r ≡ None) → (F : List ℕ) → (Has n F → Has n owned ⊎ (old n ≡ None)) → (n ≡ r) ⊎ Has n F → Has n owned ⊎ (old n ≡ None)
    own_by n owned (inl h) F f (inl e) = inl (subst (λ m. Has m owned) (sym e) h)
    own_by n owned (inr h) F f (inl e) = inr (ap old e ∙ h)
    own_by n owned s F f (inr h) = f h

pub root_new : (old mid new : PageMap) (root r : ℕ) (k : Key) (v : List ℕ) (cell : List ℕ) → root ≡ 0 → IsFresh old mid r → SamePages old mid (λ n. n ≡ r)
    → (IsSome (mid r) → IsStocked (LeafNode 0 (entry_of cell ∷ [])) → HasNode new r (LeafNode 0 (entry_of cell ∷ []))) → SamePages mid new (λ n. n ≡ r)
    → entry_of cell ≡ record { key = k; value = v } → IsSmall (record { key = k; value = v })
    → (owned : List ℕ) (entries : List Entry) → IsTree old root owned entries → IsWritten old new owned (put k v entries) r
root_new old mid new (suc q) r k v cell e fresh keeps write same is small owned entries w = absurd (omega arith)
root_new old mid new zero r k v cell e fresh keeps write same is small owned entries w =
    let stocked : IsStocked (LeafNode 0 (put k v [])) = (λ e. cc, (small, tt)) in
    let node : HasNode new r (LeafNode 0 (put k v [])) =
    subst (λ y. IsSome (mid r) → IsStocked (LeafNode 0 (y ∷ [])) → HasNode new r (LeafNode 0 (y ∷ []))) is write fresh.used stocked in
    record {
      now_owned = r ∷ [];
      stored = as_tree new r (r ∷ []) (put k v entries) (λ e. let s = fresh.some in omega arith) (record {
        depth = zero;
        tree = record { page = r; next = 0; entries = put k v [] };
        at = refl;
        holds = (node, tt);
        apart = (λ h. h, tt);
        owns = refl;
        order = record { within = (record { low = empty_lowest k; high = tt }, tt); ascends = (tt, tt) };
        leftmost = r;
        links = (refl, refl);
        shows = ap (put k v) (sym w.1);
      });
      own = λ n h. inr (alone n h);
      others = λ n h used. let ne : n ≡ r → ⊥ = λ e. not_fresh old n used (ap old e ∙ fresh.free) in same n ne ∙ keeps n ne;
    }
  where
    alone : (n : ℕ) → (n ≡ r) ⊎ ⊥ → old n ≡ None
    alone n (inl e) = ap old e ∙ fresh.free
    alone n (inr h) = absurd h

-- ---- no page is lost

-- what is so of the pages that a change left is so of those of any tree at its root
pub keeps_all : (old new : PageMap) (owned : List ℕ) (entries : List Entry) (root : ℕ) (w : IsWritten old new owned entries root) → AreKept old new owned w.now_owned
    → (now_owned : List ℕ) (after : List Entry) → IsTree new root now_owned after → AreKept old new owned now_owned
keeps_all old new owned entries root w k now_owned after t = subst (AreKept old new owned) (one_owned new root w.now_owned now_owned entries after w.stored t) k

pub root_kept_keeps : (old new : PageMap) (root : ℕ) (k : Key) (v : List ℕ) → (root ≡ 0 → ⊥) → GrowsBelow old new root k v (Ok None)
    → (owned : List ℕ) (entries : List Entry) → IsTree old root owned entries
    → (now_owned : List ℕ) (after : List Entry) → IsTree new root now_owned after → AreKept old new owned now_owned
root_kept_keeps old new zero k v nz g owned entries w = absurd (nz refl)
root_kept_keeps old new (suc r) k v nz g owned entries w =
    let x = root_grown old new r owned entries w (λ a b. IsWithin a b k) (put k v (entries_of w.depth w.tree)) (record { low = empty_lowest k; high = tt }) (g w.depth w.tree [] None (under_root old (suc r) owned entries w)) in
    keeps_all old new owned (put k v (entries_of w.depth w.tree)) (suc r) x.written x.kept

-- a new root's page beside those of the trees under it
beside_root : (old mid low new : PageMap) (r : ℕ) (owned F : List ℕ) → AreKept old mid owned F → SamePages mid low (λ n. n ≡ r) → SamePages low new (λ n. n ≡ r) → AreKept old new owned (r ∷ F)
beside_root old mid low new r owned F k keeps same = record {
  still = λ n h. inr (k.still n h);
  rest = λ n h. let ne : n ≡ r → ⊥ = λ e. h (inl e) in same n ne ∙ keeps n ne ∙ k.rest n (λ g. h (inr g));
}

kept_up : (old mid low new : PageMap) (root r : ℕ) (b : Branch) (cell : List ℕ) (k : Key) (v : List ℕ) (nz : root ≡ 0 → ⊥) (g : GrowsBelow old mid root k v (Ok (Some b)))
    (fresh : IsFresh mid low r) (keeps : SamePages mid low (λ n. n ≡ r))
    (write : IsSome (low r) → IsStocked (InnerNode root (branch_of cell ∷ [])) → HasNode new r (InnerNode root (branch_of cell ∷ []))) (same : SamePages low new (λ n. n ≡ r))
    (is : branch_of cell ≡ b) (small : IsSmallBranch b)
    (owned : List ℕ) (entries : List Entry) (w : IsTree old root owned entries) → AreKept old new owned (root_up old mid low new root r b cell k v nz g fresh keeps write same is small owned entries w).now_owned
unfolding root_up
kept_up old mid low new zero r b cell k v nz g fresh keeps write same is small owned entries w = absurd (nz refl)
kept_up old mid low new (suc q) r b cell k v nz g fresh keeps write same is small owned entries w =
    let x = g w.depth w.tree [] None (under_root old (suc q) owned entries w) in
    beside_root old mid low new r owned (pages_in (flat_nodes w.depth x.tree x.more)) (subst (λ ps. AreKept old mid ps (pages_in (flat_nodes w.depth x.tree x.more))) w.owns x.kept) keeps same

pub root_up_keeps : (old mid low new : PageMap) (root r : ℕ) (b : Branch) (cell : List ℕ) (k : Key) (v : List ℕ) → (root ≡ 0 → ⊥) → GrowsBelow old mid root k v (Ok (Some b))
    → IsFresh mid low r → SamePages mid low (λ n. n ≡ r)
    → (IsSome (low r) → IsStocked (InnerNode root (branch_of cell ∷ [])) → HasNode new r (InnerNode root (branch_of cell ∷ []))) → SamePages low new (λ n. n ≡ r)
    → branch_of cell ≡ b → IsSmallBranch b
    → (owned : List ℕ) (entries : List Entry) → IsTree old root owned entries
    → (now_owned : List ℕ) (after : List Entry) → IsTree new r now_owned after → AreKept old new owned now_owned
root_up_keeps old mid low new root r b cell k v nz g fresh keeps write same is small owned entries w =
    keeps_all old new owned (put k v entries) r (root_up old mid low new root r b cell k v nz g fresh keeps write same is small owned entries w)
    (kept_up old mid low new root r b cell k v nz g fresh keeps write same is small owned entries w)

kept_new : (old mid new : PageMap) (root r : ℕ) (k : Key) (v : List ℕ) (cell : List ℕ) (e : root ≡ 0) (fresh : IsFresh old mid r) (keeps : SamePages old mid (λ n. n ≡ r))
    (write : IsSome (mid r) → IsStocked (LeafNode 0 (entry_of cell ∷ [])) → HasNode new r (LeafNode 0 (entry_of cell ∷ []))) (same : SamePages mid new (λ n. n ≡ r))
    (is : entry_of cell ≡ record { key = k; value = v }) (small : IsSmall (record { key = k; value = v }))
    (owned : List ℕ) (entries : List Entry) (w : IsTree old root owned entries) → AreKept old new owned (root_new old mid new root r k v cell e fresh keeps write same is small owned entries w).now_owned
unfolding root_new
kept_new old mid new (suc q) r k v cell e fresh keeps write same is small owned entries w = absurd (omega arith)
kept_new old mid new zero r k v cell e fresh keeps write same is small owned entries w =
    beside_root old old mid new r owned [] (record { still = λ n h. subst (Has n) w.0 h; rest = λ n h. refl }) keeps same

pub root_new_keeps : (old mid new : PageMap) (root r : ℕ) (k : Key) (v : List ℕ) (cell : List ℕ) → root ≡ 0 → IsFresh old mid r → SamePages old mid (λ n. n ≡ r)
    → (IsSome (mid r) → IsStocked (LeafNode 0 (entry_of cell ∷ [])) → HasNode new r (LeafNode 0 (entry_of cell ∷ []))) → SamePages mid new (λ n. n ≡ r)
    → entry_of cell ≡ record { key = k; value = v } → IsSmall (record { key = k; value = v })
    → (owned : List ℕ) (entries : List Entry) → IsTree old root owned entries
    → (now_owned : List ℕ) (after : List Entry) → IsTree new r now_owned after → AreKept old new owned now_owned
root_new_keeps old mid new root r k v cell e fresh keeps write same is small owned entries w =
    keeps_all old new owned (put k v entries) r (root_new old mid new root r k v cell e fresh keeps write same is small owned entries w)
    (kept_new old mid new root r k v cell e fresh keeps write same is small owned entries w)
