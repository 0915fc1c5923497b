-- A tree and its pages.
use Rattle.std.proofs.Common.{◌≡◌, ℕ, zero, suc, List, ◌⊎◌, inl, inr, sym, subst, IsSome}
use Rattle.page_space.specs.Space.{PageMap}
use Rattle.btree_read.specs.declared.entry.Entry.{Entry}
use Rattle.btree_read.specs.Lists.{Has, Apart}
use Rattle.btree_read.specs.Tree.{nodes_of, IsTree}
use Rattle.btree_read.proofs.PageLemmas.{holds_used, holds_kept}
use Rattle.btree.specs.Grow.{AreKept}
use Rattle.btree.specs.Written.{IsWritten}
use Rattle.btree.proofs.GrowLemmas.{has_or_not}

pub tree_stays : (old new : PageMap) (root : ℕ) (owned : List ℕ) (entries : List Entry) → ((n : ℕ) → Has n owned → new n ≡ old n) → IsTree old root owned entries → IsTree new root owned entries
tree_stays old new zero owned entries f w = w
tree_stays old new (suc r) owned entries f w = record {
  depth = w.depth;
  tree = w.tree;
  at = w.at;
  holds = holds_kept old new (nodes_of w.depth w.tree) w.holds (λ n h. f n (subst (Has n) w.owns h));
  apart = w.apart;
  owns = w.owns;
  order = w.order;
  leftmost = w.leftmost;
  links = w.links;
  shows = w.shows;
}

pub tree_apart : (pages : PageMap) (root : ℕ) (owned : List ℕ) (entries : List Entry) → IsTree pages root owned entries → Apart owned
tree_apart pages zero owned entries w = subst Apart (sym w.0) tt
tree_apart pages (suc r) owned entries w = w.apart

pub tree_used : (pages : PageMap) (root : ℕ) (owned : List ℕ) (entries : List Entry) → IsTree pages root owned entries → (n : ℕ) → Has n owned → IsSome (pages n)
tree_used pages zero owned entries w n h = absurd (subst (Has n) w.0 h)
tree_used pages (suc r) owned entries w n h = holds_used pages (nodes_of w.depth w.tree) w.holds n (subst (Has n) (sym w.owns) h)

-- ---- which pages are in use behind a change

pub written_used : (old new : PageMap) (owned : List ℕ) (entries : List Entry) (root : ℕ) (w : IsWritten old new owned entries root) → AreKept old new owned w.now_owned
    → (n : ℕ) → IsSome (new n) → Has n w.now_owned ⊎ (IsSome (old n) × (Has n owned → ⊥))
written_used old new owned entries root w k n h = by (has_or_not n w.now_owned)
  where
    by : Has n w.now_owned ⊎ (Has n w.now_owned → ⊥) → Has n w.now_owned ⊎ (IsSome (old n) × (Has n owned → ⊥))
    by (inl g) = inl g
    by (inr g) = inr (subst IsSome (k.rest n g) h, λ o. g (k.still n o))

pub written_kept : (old new : PageMap) (owned : List ℕ) (entries : List Entry) (root : ℕ) (w : IsWritten old new owned entries root)
    → (n : ℕ) → Has n w.now_owned ⊎ (IsSome (old n) × (Has n owned → ⊥)) → IsSome (new n)
written_kept old new owned entries root w n (inl g) = tree_used new root w.now_owned entries w.stored n g
written_kept old new owned entries root w n (inr g) = subst IsSome (sym (w.others n g.1 g.0)) g.0
