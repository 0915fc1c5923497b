-- A walk over the pages of a tree, over plain variables.
use Rattle.std.proofs.Common.{◌≡◌, ℕ, zero, suc, ◌+◌, ◌<◌, ◌≤◌, List, [], ◌∷◌, ◌++◌, map, length, refl, sym, ap, ◌∙◌, subst, Option, Some, None, IsSome, Result, Ok, Err, OnOk, IfErr, arith, append_assoc, add-one}
use Rattle.std.specs.Prelude.{⊤}
use Rattle.std.specs.List.{flat_map}
use Rattle.std.proofs.lemmas.List.{append-nil as append_nil}
use Rattle.page_space.specs.declared.error.SpaceError.{SpaceError}
use Rattle.page_space.specs.declared.error.SpaceError.TheVariants.{Memory, Disk, Damaged, Pages, Private}
use Rattle.page_space.specs.Space.{PageMap, ReadRefused}
use Rattle.sqlrecord.specs.declared.kind.PageKind.TheVariants.{Leaf, Inner}
use Rattle.sqlrecord.specs.Page.{PageView}
use Rattle.btree_read.specs.declared.entry.Entry.{Entry}
use Rattle.btree_read.specs.Lists.{Apart, Leads}
use Rattle.btree_read.specs.Nodes.{Key, Node, LeafNode, InnerNode, HasNode, entry_of, branch_of}
use Rattle.btree_read.specs.Tree.{Tree, page_of, branch_to, kids, entries_of, leaves_of, IsTree}
use Rattle.btree_read.specs.Search.{Sees, IsUnder, IsNoTree, HasNoTree, child_at}
use Rattle.btree_read.proofs.Kids.{kid_at, low_at, high_at}
use Rattle.btree_read.proofs.NodeLemmas.{node_is_used}
use Rattle.btree_read.proofs.CountLemmas.{few_levels}
use Rattle.btree_read.proofs.SearchLemmas.{sees_leaf, sees_inner, leaf_shown, inner_shown, child_found, under_root, no_node_no_tree}
use Rattle.btree_read.specs.declared.leaf.Walk.{Walk}
use Rattle.btree_read.specs.Leaves.{Names, LeadsOn, SeesBelow, HasNoLinkedTree, AreLinked, SeesLinks}

-- ---- leaves that lead on

pub leads_join : (xs ys : List (ℕ × ℕ)) (from mid to : Option ℕ) → LeadsOn xs from mid → LeadsOn ys mid to → LeadsOn (xs ++ ys) from to
leads_join [] ys from mid to h g = subst (λ o. LeadsOn ys o to) (sym h) g
leads_join (x ∷ xs) ys from mid to h g = (h.0, leads_join xs ys (Some x.1) mid to h.1 g)

pub record AreMeeting (xs ys : List (ℕ × ℕ)) (from to : Option ℕ) : Type 0 where
  pub mid : Option ℕ
  pub left : LeadsOn xs from mid
  pub right : LeadsOn ys mid to

pub leads_cut : (xs ys : List (ℕ × ℕ)) (from to : Option ℕ) → LeadsOn (xs ++ ys) from to → AreMeeting xs ys from to
leads_cut [] ys from to h = record { mid = from; left = refl; right = h }
leads_cut (x ∷ xs) ys from to h =
    let w = leads_cut xs ys (Some x.1) to h.1 in
    record { mid = w.mid; left = (h.0, w.left); right = w.right }

pub leads_one : (xs : List (ℕ × ℕ)) (from a b : Option ℕ) → LeadsOn xs from a → LeadsOn xs from b → a ≡ b
leads_one [] from a b h g = sym h ∙ g
leads_one (x ∷ xs) from a b h g = leads_one xs (Some x.1) a b h.1 g.1

leads_known : (xs : List (ℕ × ℕ)) (from to : ℕ) → Leads from xs to → LeadsOn xs (Some from) (Some to)
leads_known [] from to h = ap Some h
leads_known (x ∷ xs) from to h = (h.0, leads_known xs x.1 to h.1)

leads_back : (xs : List (ℕ × ℕ)) (from to : ℕ) → LeadsOn xs (Some from) (Some to) → Leads from xs to
leads_back [] from to h = let e : Some from ≡ Some to = h in cc
leads_back (x ∷ xs) from to h = (h.0, leads_back xs x.1 to h.1)

leads_none : (xs : List (ℕ × ℕ)) (first : ℕ × ℕ) (others : List (ℕ × ℕ)) (from to : ℕ) → xs ≡ first ∷ others → Leads from xs to → LeadsOn xs None (Some to)
leads_none xs first others from to e h =
    let g : Leads from (first ∷ others) to = subst (λ ls. Leads from ls to) e h in
    subst (λ ls. LeadsOn ls None (Some to)) (sym e) (tt, leads_known others first.1 to g.1)

pub record HasFirst (xs : List (ℕ × ℕ)) : Type 0 where
  pub first : ℕ × ℕ
  pub others : List (ℕ × ℕ)
  pub is : xs ≡ first ∷ others

pub first_leaf : (d : ℕ) (t : Tree d) → HasFirst (leaves_of d t)
first_leaf zero t = record { first = (t.page, t.next); others = []; is = refl }
first_leaf (suc d) t =
    let w = first_leaf d t.first in
    record {
      first = w.first;
      others = w.others ++ flat_map (leaves_of d) (map (λ c. c.1) t.rest);
      is = ap (λ ls. ls ++ flat_map (leaves_of d) (map (λ c. c.1) t.rest)) w.is;
    }

linked_by : (d : ℕ) (t : Tree d) (xs : List (ℕ × ℕ)) → leaves_of d t ≡ xs → LeadsOn xs None (Some 0) → AreLinked d t
linked_by d t [] e h = let bad : None ≡ Some 0 = h in absurd (cc)
linked_by d t (x ∷ xs) e h = record { leftmost = x.0; links = subst (λ ls. Leads x.0 ls 0) (sym e) (refl, leads_back xs x.1 0 h.1) }

-- ---- the first children

abbrev pub firsts : {T X : Type 0} → (T → List X) → T → List (Key × T) → ℕ → List X
firsts f first rest zero = []
firsts f first [] (suc n) = f first
firsts f first (c ∷ rest) (suc n) = f first ++ firsts f c.1 rest n

pub record IsNext {T X : Type 0} (f : T → List X) (first : T) (rest : List (Key × T)) (at : ℕ) : Type 0 where
  pub after : List X
  pub all : flat_map f (kids first rest) ≡ firsts f first rest at ++ (f (kid_at first rest at) ++ after)
  pub next : firsts f first rest (suc at) ≡ firsts f first rest at ++ f (kid_at first rest at)

pub next_child : {T X : Type 0} (f : T → List X) (first : T) (rest : List (Key × T)) (at : ℕ) → at ≤ length rest → IsNext f first rest at
next_child f first [] zero l = record { after = []; all = refl; next = refl }
next_child f first [] (suc at) l = absurd (omega arith)
next_child f first (c ∷ rest) zero l = record { after = flat_map f (kids c.1 rest); all = refl; next = append_nil (f first) }
next_child f first (c ∷ rest) (suc at) l =
    let w = next_child f c.1 rest at (omega arith) in
    record {
      after = w.after;
      all = ap (λ xs. f first ++ xs) w.all ∙ sym (append_assoc (f first) (firsts f c.1 rest at) (f (kid_at c.1 rest at) ++ w.after));
      next = ap (λ xs. f first ++ xs) w.next ∙ sym (append_assoc (f first) (firsts f c.1 rest at) (f (kid_at c.1 rest at)));
    }

pub firsts_all : {T X : Type 0} (f : T → List X) (first : T) (rest : List (Key × T)) → firsts f first rest (suc (length rest)) ≡ flat_map f (kids first rest)
firsts_all f first [] = sym (append_nil (f first))
firsts_all f first (c ∷ rest) = ap (λ xs. f first ++ xs) (firsts_all f c.1 rest)

-- ---- what a page shows

pub leaf_is : (pages : PageMap) (page : ℕ) (view : PageView) (t : Tree zero) (lo : Key) (hi : Option Key) → Sees pages page view → view.kind ≡ Leaf → IsUnder pages page zero t lo hi
    → (view.link ≡ t.next) × (map entry_of view.cells ≡ t.entries)
leaf_is pages page view t lo hi s k u =
    let e : LeafNode view.link (map entry_of view.cells) ≡ LeafNode t.next t.entries = sym (leaf_shown pages page view k) ∙ sees_leaf pages page view t lo hi s u in
    let a : view.link ≡ t.next = cc in
    let b : map entry_of view.cells ≡ t.entries = cc in (a, b)

pub no_inner : (pages : PageMap) (page : ℕ) (view : PageView) (d : ℕ) (t : Tree (suc d)) (lo : Key) (hi : Option Key) → Sees pages page view → view.kind ≡ Leaf → IsUnder pages page (suc d) t lo hi → ⊥
no_inner pages page view d t lo hi s k u =
    let e : LeafNode view.link (map entry_of view.cells) ≡ InnerNode (page_of d t.first) (map (branch_to d) t.rest) =
    sym (leaf_shown pages page view k) ∙ sees_inner pages page view d t lo hi s u in cc

pub no_leaf : (pages : PageMap) (page : ℕ) (view : PageView) (t : Tree zero) (lo : Key) (hi : Option Key) → Sees pages page view → view.kind ≡ Inner → IsUnder pages page zero t lo hi → ⊥
no_leaf pages page view t lo hi s k u =
    let e : InnerNode view.link (map branch_of view.cells) ≡ LeafNode t.next t.entries = sym (inner_shown pages page view k) ∙ sees_leaf pages page view t lo hi s u in cc

same_length : (d : ℕ) (cells : List (List ℕ)) (rest : List (Key × Tree d)) → map branch_of cells ≡ map (branch_to d) rest → length cells ≡ length rest
same_length d [] [] e = refl
same_length d [] (c ∷ rest) e = cc
same_length d (x ∷ cells) [] e = cc
same_length d (x ∷ cells) (c ∷ rest) e = let f : map branch_of cells ≡ map (branch_to d) rest = cc in ap suc (same_length d cells rest f)

pub as_many : (pages : PageMap) (page : ℕ) (view : PageView) (d : ℕ) (t : Tree (suc d)) (lo : Key) (hi : Option Key) → Sees pages page view → view.kind ≡ Inner → IsUnder pages page (suc d) t lo hi
    → length view.cells ≡ length t.rest
as_many pages page view d t lo hi s k u =
    let e : InnerNode view.link (map branch_of view.cells) ≡ InnerNode (page_of d t.first) (map (branch_to d) t.rest) =
    sym (inner_shown pages page view k) ∙ sees_inner pages page view d t lo hi s u in
    let eb : map branch_of view.cells ≡ map (branch_to d) t.rest = cc in same_length d view.cells t.rest eb

in_use : (pages : PageMap) (page : ℕ) (d : ℕ) (t : Tree d) (lo : Key) (hi : Option Key) → IsUnder pages page d t lo hi → IsSome (pages page)
in_use pages page zero t lo hi u = subst (λ n. IsSome (pages n)) u.at (node_is_used pages t.page _ u.holds.0)
in_use pages page (suc d) t lo hi u = subst (λ n. IsSome (pages n)) u.at (node_is_used pages t.page _ u.holds.0)

-- ---- a leaf

pub seen_leaf : (pages : PageMap) (page : ℕ) (view : PageView) (was now : Walk) (result : Result ⊤ SpaceError) → Sees pages page view → view.kind ≡ Leaf
    → OnOk result (now.entries ≡ was.entries ++ map entry_of view.cells) → OnOk result (Names was.named page) → OnOk result (now.named ≡ Some view.link)
    → SeesBelow pages page was now result
seen_leaf pages page view was now (Err f) s k a b c d t lo hi u = tt
seen_leaf pages page view was now (Ok x) s k a b c zero t lo hi u =
    let e = leaf_is pages page view t lo hi s k u in
    (a ∙ ap (λ es. was.entries ++ es) e.1, (subst (λ n. Names was.named n) (sym u.at) b, sym (c ∙ ap Some e.0)))
seen_leaf pages page view was now (Ok x) s k a b c (suc d) t lo hi u = absurd (no_inner pages page view d t lo hi s k u)

pub leaf_not_named : (pages : PageMap) (page levels : ℕ) (view : PageView) (was : Walk) → Sees pages page view → view.kind ≡ Leaf → (Names was.named page → ⊥) → HasNoLinkedTree pages page levels was
leaf_not_named pages page levels view was s k f zero t lo hi to l u h = f (subst (λ n. Names was.named n) u.at h.0)
leaf_not_named pages page levels view was s k f (suc d) t lo hi to l u h = no_inner pages page view d t lo hi s k u

leaf_refused : (H G : Type 0) (b c : ℕ) (f : SpaceError) → b ≤ c → (H → G) → ReadRefused H 0 0 f → ReadRefused G b c f
leaf_refused H G b c Memory l g w = tt
leaf_refused H G b c Disk l g w = absurd (omega (arith, w.more))
leaf_refused H G b c Damaged l g w = g w
leaf_refused H G b c Pages l g w = w
leaf_refused H G b c Private l g w = w

pub leaf_refused_on : {A : Type 0} (result : Result A SpaceError) (H G : Type 0) (b c : ℕ) → b ≤ c → (H → G) → IfErr result (ReadRefused H 0 0) → IfErr result (ReadRefused G b c)
leaf_refused_on (Ok x) H G b c l g w = tt
leaf_refused_on (Err f) H G b c l g w = leaf_refused H G b c f l g w

pub no_tree_linked : (pages : PageMap) (page levels : ℕ) (was : Walk) → HasNoTree pages page levels → HasNoLinkedTree pages page levels was
no_tree_linked pages page levels was f d t lo hi to l u h = f d t lo hi l u

pub no_node_linked : (pages : PageMap) (page levels : ℕ) (was : Walk) → ((node : Node) → HasNode pages page node → ⊥) → HasNoLinkedTree pages page levels was
no_node_linked pages page levels was f = no_tree_linked pages page levels was (no_node_no_tree pages page levels f)

-- ---- the children of an inner page

abbrev pub StaysSeen : PageMap → ℕ → Walk → Walk → ℕ → Type 0
StaysSeen pages page was now n =
    (d : ℕ) (t : Tree (suc d)) (lo : Key) (hi : Option Key) → IsUnder pages page (suc d) t lo hi
    → (now.entries ≡ was.entries ++ firsts (entries_of d) t.first t.rest n) × LeadsOn (firsts (leaves_of d) t.first t.rest n) was.named now.named

pub none_seen : (pages : PageMap) (page : ℕ) (was : Walk) → StaysSeen pages page was was 0
none_seen pages page was d t lo hi u = (sym (append_nil was.entries), refl)

module _ (pages mid : PageMap) (page : ℕ) (view : PageView) (at child : ℕ) (same : mid ≡ pages) (sees : Sees pages page view) (kind : view.kind ≡ Inner) (within : at ≤ length view.cells)
    (leads : child ≡ child_at view.link (map branch_of view.cells) at) (was now : Walk) (stays : StaysSeen pages page was now at) where
  few : (d : ℕ) (t : Tree (suc d)) (lo : Key) (hi : Option Key) → IsUnder pages page (suc d) t lo hi → at ≤ length t.rest
  few d t lo hi u = let m = as_many pages page view d t lo hi sees kind u in omega (arith, m, within)

  child_there : (d : ℕ) (t : Tree (suc d)) (lo : Key) (hi : Option Key) → IsUnder pages page (suc d) t lo hi
      → IsUnder mid child d (kid_at t.first t.rest at) (low_at lo t.rest at) (high_at hi t.rest at)
  child_there d t lo hi u =
      subst (λ p. IsUnder p child d (kid_at t.first t.rest at) (low_at lo t.rest at) (high_at hi t.rest at)) (sym same) (child_found pages page view child d t lo hi at sees kind leads u)

  pub one_more_seen : (later : Walk) → SeesBelow mid child now later (Ok tt) → StaysSeen pages page was later (suc at)
  one_more_seen later f d t lo hi u =
      let x = f d (kid_at t.first t.rest at) _ _ (child_there d t lo hi u) in
      let s = stays d t lo hi u in
      let a = next_child (entries_of d) t.first t.rest at (few d t lo hi u) in
      let b = next_child (leaves_of d) t.first t.rest at (few d t lo hi u) in (
        x.0 ∙ ap (λ es. es ++ entries_of d (kid_at t.first t.rest at)) s.0 ∙ append_assoc was.entries (firsts (entries_of d) t.first t.rest at) (entries_of d (kid_at t.first t.rest at))
            ∙ ap (λ es. was.entries ++ es) (sym a.next),
        subst (λ ls. LeadsOn ls was.named later.named) (sym b.next)
            (leads_join (firsts (leaves_of d) t.first t.rest at) (leaves_of d (kid_at t.first t.rest at)) was.named now.named later.named s.1 x.1),
      )

  pub child_not_seen : (levels less : ℕ) → levels ≤ less + 1 → HasNoLinkedTree mid child less now → HasNoLinkedTree pages page levels was
  child_not_seen levels less o f zero t lo hi to l u h = no_leaf pages page view t lo hi sees kind u
  child_not_seen levels less o f (suc d) t lo hi to l u h =
      let kid : List (ℕ × ℕ) = leaves_of d (kid_at t.first t.rest at) in
      let b = next_child (leaves_of d) t.first t.rest at (few d t lo hi u) in
      let all : LeadsOn (firsts (leaves_of d) t.first t.rest at ++ (kid ++ b.after)) was.named to = subst (λ ls. LeadsOn ls was.named to) b.all h in
      let p = leads_cut (firsts (leaves_of d) t.first t.rest at) (kid ++ b.after) was.named to all in
      let r = leads_cut kid b.after p.mid to p.right in
      let e : p.mid ≡ now.named = leads_one (firsts (leaves_of d) t.first t.rest at) was.named p.mid now.named p.left (stays d t lo hi u).1 in
      f d (kid_at t.first t.rest at) _ _ r.mid (omega arith) (child_there d t lo hi u) (subst (λ o. LeadsOn kid o r.mid) e r.left)

pub one_more : (pages : PageMap) (page at : ℕ) (was now : Walk) → StaysSeen pages page was now (suc at) → StaysSeen pages page was now (at + 1)
one_more pages page at was now f = subst (StaysSeen pages page was now) (sym (add-one at)) f

pub seen_inner : (pages : PageMap) (page : ℕ) (view : PageView) (n : ℕ) (was now : Walk) → Sees pages page view → view.kind ≡ Inner → n ≡ length view.cells → StaysSeen pages page was now (n + 1)
    → SeesBelow pages page was now (Ok tt)
seen_inner pages page view n was now s k all f zero t lo hi u = absurd (no_leaf pages page view t lo hi s k u)
seen_inner pages page view n was now s k all f (suc d) t lo hi u =
    let m = as_many pages page view d t lo hi s k u in
    let e : n + 1 ≡ suc (length t.rest) = add-one n ∙ ap suc (all ∙ m) in
    let x = subst (StaysSeen pages page was now) e f d t lo hi u in
    (x.0 ∙ ap (λ es. was.entries ++ es) (firsts_all (entries_of d) t.first t.rest), subst (λ ls. LeadsOn ls was.named now.named) (firsts_all (leaves_of d) t.first t.rest) x.1)

-- ---- at the root

pub tree_leads : (pages : PageMap) (r : ℕ) (owned : List ℕ) (entries : List Entry) (w : IsTree pages (suc r) owned entries) → LeadsOn (leaves_of w.depth w.tree) None (Some 0)
tree_leads pages r owned entries w =
    let x = first_leaf w.depth w.tree in
    leads_none (leaves_of w.depth w.tree) x.first x.others w.leftmost 0 x.is w.links

pub found_all : (pages : PageMap) (root : ℕ) (was now : Walk) → (root ≡ 0 → ⊥) → was.entries ≡ [] → SeesBelow pages root was now (Ok tt)
    → (owned : List ℕ) (entries : List Entry) → IsTree pages root owned entries → now.entries ≡ entries
found_all pages zero was now nz e f owned entries w = absurd (nz refl)
found_all pages (suc r) was now nz e f owned entries w =
    let x = f w.depth w.tree [] None (under_root pages (suc r) owned entries w) in
    x.0 ∙ ap (λ es. es ++ entries_of w.depth w.tree) e ∙ w.shows

pub links_seen : (pages : PageMap) (root : ℕ) (was now : Walk) → was.entries ≡ [] → was.named ≡ None → now.named ≡ Some 0 → SeesBelow pages root was now (Ok tt) → SeesLinks pages root (Ok now.entries)
links_seen pages root was now e n z f d t u =
    let x = f d t [] None u in
    let from : LeadsOn (leaves_of d t) None now.named = subst (λ o. LeadsOn (leaves_of d t) o now.named) n x.1 in
    (x.0 ∙ ap (λ es. es ++ entries_of d t) e, linked_by d t (leaves_of d t) refl (subst (λ o. LeadsOn (leaves_of d t) None o) z from))

pub not_ended : (pages : PageMap) (root : ℕ) (was now : Walk) → (root ≡ 0 → ⊥) → was.named ≡ None → (now.named ≡ Some 0 → ⊥) → SeesBelow pages root was now (Ok tt) → IsNoTree pages root
not_ended pages zero was now nz n g f owned entries w = nz refl
not_ended pages (suc r) was now nz n g f owned entries w =
    let x = f w.depth w.tree [] None (under_root pages (suc r) owned entries w) in
    let from : LeadsOn (leaves_of w.depth w.tree) None now.named = subst (λ o. LeadsOn (leaves_of w.depth w.tree) o now.named) n x.1 in
    g (leads_one (leaves_of w.depth w.tree) None now.named (Some 0) from (tree_leads pages r owned entries w))

pub no_linked_no_tree : (pages : PageMap) (root : ℕ) (was : Walk) → ((n : ℕ) → IsSome (pages n) → (0 < n) × (n < 65536)) → (root ≡ 0 → ⊥) → was.named ≡ None → HasNoLinkedTree pages root 15 was → IsNoTree pages root
no_linked_no_tree pages zero was b nz n f owned entries w = nz refl
no_linked_no_tree pages (suc r) was b nz n f owned entries w =
    f w.depth w.tree [] None (Some 0) (few_levels pages w.depth w.tree b w.holds (subst Apart (sym w.owns) w.apart)) (under_root pages (suc r) owned entries w)
    (subst (λ o. LeadsOn (leaves_of w.depth w.tree) o (Some 0)) (sym n) (tree_leads pages r owned entries w))

pub none_at_zero : (pages : PageMap) (root : ℕ) → root ≡ 0 → (owned : List ℕ) (entries : List Entry) → IsTree pages root owned entries → [] ≡ entries
none_at_zero pages zero e owned entries w = sym w.1
none_at_zero pages (suc r) e owned entries w = absurd (omega arith)

pub nothing_under_zero : (pages : PageMap) (root : ℕ) (now : List Entry) → ((n : ℕ) → IsSome (pages n) → (0 < n) × (n < 65536)) → root ≡ 0 → SeesLinks pages root (Ok now)
nothing_under_zero pages root now b z d t u = let p = (b root (in_use pages root d t [] None u)).0 in absurd (omega (arith, p, z))
