-- Removal on the way down and up again, and why it is refused, over plain variables.
use Rattle.std.proofs.Common.{◌≡◌, ℕ, zero, suc, ◌+◌, ◌≤◌, List, [], ◌∷◌, map, refl, sym, ap, ◌∙◌, subst, Option, Some, None, IsSome, Result, Ok, IfOk, arith}
use Rattle.page_space.specs.declared.error.SpaceError.{SpaceError}
use Rattle.page_space.specs.Space.{PageMap}
use Rattle.sqlrecord.specs.declared.kind.PageKind.TheVariants.{Inner}
use Rattle.sqlrecord.specs.Page.{PageView}
use Rattle.btree_read.specs.declared.entry.Entry.{Entry}
use Rattle.btree_read.specs.Nodes.{Key, branch_of}
use Rattle.btree_read.specs.Tree.{Tree, page_of, IsTree}
use Rattle.btree_read.specs.Search.{Sees, IsUnder, route_of, child_at}
use Rattle.btree_read.proofs.Kids.{kid_at}
use Rattle.btree_read.proofs.NodeLemmas.{node_is_used, not_fresh}
use Rattle.btree_read.proofs.SearchLemmas.{child_found, under_root}
use Rattle.btree.specs.Grow.{flat_nodes}
use Rattle.btree.specs.Overfull.{IsNoTreeIn}
use Rattle.btree_remove.specs.Dropped.{HasNoTreeIn}
use Rattle.btree_remove.specs.declared.outcome.Removed.{Removed}
use Rattle.btree_remove.specs.declared.outcome.Removed.TheVariants.{Absent, Done, Emptied, Lone}
use Rattle.btree_remove.specs.Removed.{IsTaken, TakesBelow, IsLeftBelow, Settles, CannotSettle, kid}
use Rattle.btree_remove.proofs.DropLemmas.{no_leaf, in_use}
use Rattle.btree_remove.proofs.ExchangeLemmas.{used_stays}
use Rattle.btree_remove.proofs.RunLemmas.{kid_is}

pub leaf_not_taken : (old mid : PageMap) (page levels : ℕ) (W : Type 0) → mid ≡ old → mid page ≡ None → HasNoTreeIn old page levels W
leaf_not_taken old mid page levels W m e d t lo hi l u w = not_fresh mid page (subst (λ p. IsSome (p page)) (sym m) (in_use old page d t lo hi u)) e

-- ---- an inner page

module _ (old mid : PageMap) (page : ℕ) (view : PageView) (at child : ℕ) (same : mid ≡ old) (sees : Sees old page view) (kind : view.kind ≡ Inner)
    (leads : child ≡ child_at view.link (map branch_of view.cells) at) where
  pub child_not_taken : (levels less : ℕ) (W0 W1 : Type 0) → levels ≤ less + 1 → (W0 → W1) → HasNoTreeIn mid child less W1 → HasNoTreeIn old page levels W0
  child_not_taken levels less W0 W1 o g f zero t lo hi l u w = no_leaf old page view t lo hi sees kind u
  child_not_taken levels less W0 W1 o g f (suc d) t lo hi l u w =
      subst (λ m. HasNoTreeIn m child less W1) same f d (kid_at t.first t.rest at) _ _ (omega arith) (child_found old page view child d t lo hi at sees kind leads u) (g w)

  left_below : (low : PageMap) (k : Key) (below : Removed) → route_of k (map branch_of view.cells) ≡ at → TakesBelow mid low child k (Ok below)
      → (d : ℕ) (t : Tree (suc d)) (lo : Key) (hi : Option Key) → IsUnder old page (suc d) t lo hi → IsLeftBelow old low page view at below k d t lo hi
  left_below low k below way g d t lo hi u = record {
    sees = sees;
    under = u;
    way = way;
    taken = subst (λ (x : Tree d). IsTaken old low d x k below) (sym (kid_is t.first t.rest at))
        (subst (λ m. TakesBelow m low child k (Ok below)) same g d (kid_at t.first t.rest at) _ _ (child_found old page view child d t lo hi at sees kind leads u));
  }

  pub taken_settled : (low new : PageMap) (k : Key) (below : Removed) (result : Result Removed SpaceError) → route_of k (map branch_of view.cells) ≡ at → TakesBelow mid low child k (Ok below)
      → Settles low new page view at below result → TakesBelow old new page k result
  taken_settled low new k below result way g f zero t lo hi u = absurd (no_leaf old page view t lo hi sees kind u)
  taken_settled low new k below result way g f (suc d) t lo hi u = f old k d t lo hi (left_below low k below way g d t lo hi u)

  pub below_not_settled : (low : PageMap) (k : Key) (below : Removed) (levels : ℕ) (W0 W1 : Type 0) → route_of k (map branch_of view.cells) ≡ at → TakesBelow mid low child k (Ok below)
      → (W0 → W1) → CannotSettle low page view at below W1 → HasNoTreeIn old page levels W0
  below_not_settled low k below levels W0 W1 way g wh f zero t lo hi l u w = no_leaf old page view t lo hi sees kind u
  below_not_settled low k below levels W0 W1 way g wh f (suc d) t lo hi l u w = f old k d t lo hi (left_below low k below way g d t lo hi u) (wh w)

-- ---- at the root

pub space_not_whole : (old : PageMap) (root : ℕ) (W0 W1 : Type 0) → (W0 → W1) → (W1 → ⊥) → IsNoTreeIn old root W0
space_not_whole old root W0 W1 g f owned entries w wh = f (g wh)

used_emptied : (old mid : PageMap) (root : ℕ) (k : Key) (d : ℕ) (t : Tree d) (lo : Key) (hi : Option Key) → IsUnder old root d t lo hi → IsTaken old mid d t k Emptied → IsSome (mid root)
used_emptied old mid root k d t lo hi u w = subst (λ p. IsSome (p root)) (sym w.1) (in_use old root d t lo hi u)

used_lone : (old mid : PageMap) (root only : ℕ) (k : Key) (d : ℕ) (t : Tree d) (lo : Key) (hi : Option Key) → IsUnder old root d t lo hi → IsTaken old mid d t k (Lone only) → IsSome (mid root)
used_lone old mid root only k zero t lo hi u w = absurd w
used_lone old mid root only k (suc d) t lo hi u w =
    let was : IsSome (old t.page) = node_is_used old t.page _ u.holds.0 in
    let now : mid t.page ≡ old t.page = used_stays old mid (flat_nodes d t.first t.rest) (flat_nodes d w.tree []) w.changed.pages t.page u.apart.0 was in
    subst (λ n. IsSome (mid n)) u.at (subst IsSome (sym now) was)

root_used : (old mid : PageMap) (root : ℕ) (k : Key) (r : Removed) (W0 W1 : Type 0) → (root ≡ 0 → ⊥)
    → ((d : ℕ) (t : Tree d) (lo : Key) (hi : Option Key) → IsUnder old root d t lo hi → IsTaken old mid d t k r → IsSome (mid root))
    → TakesBelow old mid root k (Ok r) → (W0 → W1) → (W1 → IsSome (mid root) → ⊥) → IsNoTreeIn old root W0
root_used old mid zero k r W0 W1 nz used g wh f owned entries w whole = nz refl
root_used old mid (suc n) k r W0 W1 nz used g wh f owned entries w whole =
    let u = under_root old (suc n) owned entries w in f (wh whole) (used w.depth w.tree [] None u (g w.depth w.tree [] None u))

pub emptied_not_freed : (old mid : PageMap) (root : ℕ) (k : Key) (W0 W1 : Type 0) → (root ≡ 0 → ⊥) → TakesBelow old mid root k (Ok Emptied) → (W0 → W1)
    → (W1 → IsSome (mid root) → ⊥) → IsNoTreeIn old root W0
emptied_not_freed old mid root k W0 W1 nz g wh f = root_used old mid root k Emptied W0 W1 nz (λ d t lo hi u w. used_emptied old mid root k d t lo hi u w) g wh f

pub lone_not_freed : (old mid : PageMap) (root only : ℕ) (k : Key) (W0 W1 : Type 0) → (root ≡ 0 → ⊥) → TakesBelow old mid root k (Ok (Lone only)) → (W0 → W1)
    → (W1 → IsSome (mid root) → ⊥) → IsNoTreeIn old root W0
lone_not_freed old mid root only k W0 W1 nz g wh f = root_used old mid root k (Lone only) W0 W1 nz (λ d t lo hi u w. used_lone old mid root only k d t lo hi u w) g wh f
