-- The pages above neighbouring trees, written anew.
use Rattle.std.proofs.Common.{◌≡◌, ◌≢◌, ℕ, zero, suc, List, [], ◌∷◌, ◌++◌, map, ◌⊎◌, inl, inr, refl, sym, ap, ◌∙◌, subst, Option, Some, None, IsSome, append_assoc}
use Rattle.std.specs.List.{flat_map}
use Rattle.std.specs.Option.{option_to_list}
use Rattle.std.proofs.lemmas.List.{append-nil as append_nil}
use Rattle.page_space.specs.Space.{PageMap}
use Rattle.btree_read.specs.declared.entry.Entry.{Entry}
use Rattle.btree_read.specs.declared.entry.Branch.{Branch}
use Rattle.btree_read.specs.Lists.{Has, Apart, Leads}
use Rattle.btree_read.specs.Nodes.{Key, Node, InnerNode, HasNode}
use Rattle.btree_read.specs.Tree.{Tree, page_of, branch_to, kids, entries_of, nodes_of, leaves_of, pages_in, Holds, Chain, Ordered}
use Rattle.btree_read.proofs.ChainLemmas.{chain_append, chain_cut}
use Rattle.btree_read.proofs.NodeLemmas.{node_is_used}
use Rattle.btree_read.proofs.PageLemmas.{flat_cut}
use Rattle.btree.specs.Grow.{flat_nodes, flat_leaves, SamePages, InnerWritten}
use Rattle.btree.proofs.GrowLemmas.{inner_moved, IsCutAt, cut_at}
use Rattle.btree_remove.specs.Removed.{IsLess, AreExchanged, AreChanged, flat_entries, AreInnersJoined, AreShrunk}
use Rattle.btree_remove.proofs.ExchangeLemmas.{IsRearranged, moved, behind_one, exchange_beside, exchange_then, exchange_into, exchange_from, page_written, page_cut, page_freed}

-- neighbouring trees with all of their children as neighbours
pub record AreMadeOf (d : ℕ) (x : Tree (suc d)) (more : List (Key × Tree (suc d))) (first : Tree d) (rest : List (Key × Tree d)) : Type 0 where
  pub down : (lo : Key) (hi : Option Key) → Chain (Ordered (suc d)) lo hi x more → Chain (Ordered d) lo hi first rest
  pub up : (lo : Key) (hi : Option Key) → Chain (Ordered d) lo hi first rest → Chain (Ordered (suc d)) lo hi x more
  pub leaves : flat_leaves (suc d) x more ≡ flat_leaves d first rest
  pub entries : flat_entries (suc d) x more ≡ flat_entries d first rest

pub made_of_one : (d : ℕ) (t : Tree (suc d)) → AreMadeOf d t [] t.first t.rest
made_of_one d t = record {
  down = λ lo hi h. h;
  up = λ lo hi h. h;
  leaves = append_nil (flat_leaves d t.first t.rest);
  entries = append_nil (flat_entries d t.first t.rest);
}

pub made_of_two : (d : ℕ) (l : Tree (suc d)) (s : Key) (r : Tree (suc d)) → AreMadeOf d l ((s, r) ∷ []) l.first (l.rest ++ (s, r.first) ∷ r.rest)
made_of_two d l s r = record {
  down = λ lo hi h. chain_append (Ordered d) lo hi l.first l.rest s r.first r.rest h.0 h.1 h.2;
  up = λ lo hi h. let w = chain_cut (Ordered d) lo hi l.first l.rest s r.first r.rest h in (w.divides, w.left, w.right);
  leaves = ap (λ ls. flat_leaves d l.first l.rest ++ ls) (append_nil (flat_leaves d r.first r.rest)) ∙ sym (flat_cut (leaves_of d) l.first l.rest (s, r.first) r.rest);
  entries = ap (λ es. flat_entries d l.first l.rest ++ es) (append_nil (flat_entries d r.first r.rest)) ∙ sym (flat_cut (entries_of d) l.first l.rest (s, r.first) r.rest);
}

-- so a change of the children is one of the trees
pub raised : (old mid new : PageMap) (d : ℕ) (x : Tree (suc d)) (more : List (Key × Tree (suc d))) (y : Tree (suc d)) (others : List (Key × Tree (suc d))) (k : Key)
    (first : Tree d) (rest : List (Key × Tree d)) (tree : Tree d) (behind : List (Key × Tree d))
    → AreMadeOf d x more first rest → AreMadeOf d y others tree behind → AreChanged old mid d first rest tree behind k → page_of (suc d) y ≡ page_of (suc d) x
    → AreExchanged old new (flat_nodes (suc d) x more) (flat_nodes (suc d) y others) → AreChanged old new (suc d) x more y others k
raised old mid new d x more y others k first rest tree behind a b c e p = record {
  same = e;
  pages = p;
  order = λ lo hi h. b.up lo hi (c.order lo hi (a.down lo hi h));
  links = λ from to h. subst (λ ls. Leads from ls to) (sym b.leaves) (c.links from to (subst (λ ls. Leads from ls to) a.leaves h));
  entries = subst (λ es. IsLess k es (flat_entries (suc d) y others)) (sym a.entries) (subst (IsLess k (flat_entries d first rest)) (sym b.entries) c.entries);
}

-- ---- the nodes of two neighbours

abbrev pub inner_of : (d : ℕ) → Tree d → List (Key × Tree d) → Node
inner_of d first rest = InnerNode (page_of d first) (map (branch_to d) rest)

pub two_nodes : (d : ℕ) (l : Tree (suc d)) (s : Key) (r : Tree (suc d))
    → IsRearranged ((l.page, inner_of d l.first l.rest) ∷ (r.page, inner_of d r.first r.rest) ∷ (flat_nodes d l.first (l.rest ++ (s, r.first) ∷ r.rest) ++ [])) (flat_nodes (suc d) l ((s, r) ∷ []))
two_nodes d l s r =
    let L : List (ℕ × Node) = flat_nodes d l.first l.rest in
    let R : List (ℕ × Node) = flat_nodes d r.first r.rest in
    let all : flat_nodes d l.first (l.rest ++ (s, r.first) ∷ r.rest) ++ [] ≡ L ++ (R ++ []) = ap (λ ns. ns ++ []) (flat_cut (nodes_of d) l.first l.rest (s, r.first) r.rest) ∙ append_assoc L R [] in
    subst (λ ns. IsRearranged ((l.page, inner_of d l.first l.rest) ∷ (r.page, inner_of d r.first r.rest) ∷ ns) (flat_nodes (suc d) l ((s, r) ∷ []))) (sym all)
    (behind_one (l.page, inner_of d l.first l.rest) _ _ (moved (r.page, inner_of d r.first r.rest) L (R ++ [])))

-- ---- a page written over children

-- over these children are now one page or two
pub record AreOver (old new : PageMap) (page : ℕ) (was : Node) (d : ℕ) (first : Tree d) (rest : List (Key × Tree d)) (split : Option Branch) : Type 0 where
  pub tree : Tree (suc d)
  pub more : List (Key × Tree (suc d))
  pub told : map (branch_to (suc d)) more ≡ option_to_list split
  pub same : page_of (suc d) tree ≡ page
  pub made : AreMadeOf d tree more first rest
  pub pages : AreExchanged old new ((page, was) ∷ (flat_nodes d first rest ++ [])) (flat_nodes (suc d) tree more)

module _ (old new : PageMap) (page : ℕ) (was : Node) (d : ℕ) (first : Tree d) (link : ℕ) (bs : List Branch) (at : page_of d first ≡ link) where
  over_one : (rest : List (Key × Tree d)) → map (branch_to d) rest ≡ bs → Holds old ((page, was) ∷ (flat_nodes d first rest ++ [])) → Apart (pages_in ((page, was) ∷ (flat_nodes d first rest ++ [])))
      → InnerWritten old new page link bs None → AreOver old new page was d first rest None
  over_one rest told holds apart w = record {
    tree = record { page = page; first = first; rest = rest };
    more = [];
    told = refl;
    same = refl;
    made = made_of_one d (record { page = page; first = first; rest = rest });
    pages = exchange_beside old new [] ((page, was) ∷ []) ((page, inner_of d first rest) ∷ []) (flat_nodes d first rest ++ []) holds apart
        (page_written old new page was (inner_of d first rest) (inner_moved new page page link (page_of d first) bs (map (branch_to d) rest) refl (sym at) (sym told) w.0) w.1);
  }

  over_two : (left : List (Key × Tree d)) (s : Key) (t : Tree d) (right : List (Key × Tree d)) (b : Branch)
      → Holds old ((page, was) ∷ (flat_nodes d first (left ++ (s, t) ∷ right) ++ [])) → Apart (pages_in ((page, was) ∷ (flat_nodes d first (left ++ (s, t) ∷ right) ++ []))) → s ≡ b.key
      → AreExchanged old new ((page, was) ∷ []) ((page, inner_of d first left) ∷ (b.child, inner_of d t right) ∷ [])
      → AreOver old new page was d first (left ++ (s, t) ∷ right) (Some b)
  over_two left s t right b holds apart key e = record {
    tree = record { page = page; first = first; rest = left };
    more = (s, record { page = b.child; first = t; rest = right }) ∷ [];
    told = ap (λ k. record { key = k; child = b.child } ∷ []) key;
    same = refl;
    made = made_of_two d (record { page = page; first = first; rest = left }) s (record { page = b.child; first = t; rest = right });
    pages = exchange_into old new _ _ _ (two_nodes d (record { page = page; first = first; rest = left }) s (record { page = b.child; first = t; rest = right }))
        (exchange_beside old new [] ((page, was) ∷ []) ((page, inner_of d first left) ∷ (b.child, inner_of d t right) ∷ []) (flat_nodes d first (left ++ (s, t) ∷ right) ++ []) holds apart e);
  }

  pub over : (rest : List (Key × Tree d)) (split : Option Branch) → map (branch_to d) rest ≡ bs → Holds old ((page, was) ∷ (flat_nodes d first rest ++ []))
      → Apart (pages_in ((page, was) ∷ (flat_nodes d first rest ++ []))) → InnerWritten old new page link bs split → AreOver old new page was d first rest split
  over rest None told holds apart w = over_one rest told holds apart w
  over rest (Some b) told holds apart w =
      let c = cut_at (branch_to d) rest w.xs w.y w.ys (told ∙ w.parts) in
      let e = page_cut old new page link bs b was (node_is_used old page was holds.0) w in
      let left : InnerNode link w.xs ≡ inner_of d first c.left = rw (at, c.is_left) in
      let right : InnerNode w.y.child w.ys ≡ inner_of d c.mid.1 c.right = ap (λ (y : Branch). InnerNode y.child w.ys) (sym c.is_mid) ∙ ap (InnerNode (page_of d c.mid.1)) (sym c.is_right) in
      subst (λ cs. AreOver old new page was d first cs (Some b)) (sym c.parts)
      (over_two c.left c.mid.0 c.mid.1 c.right b (subst (λ cs. Holds old ((page, was) ∷ (flat_nodes d first cs ++ []))) c.parts holds)
      (subst (λ cs. Apart (pages_in ((page, was) ∷ (flat_nodes d first cs ++ [])))) c.parts apart) (ap (λ (y : Branch). y.key) c.is_mid ∙ sym w.key)
      (subst (λ n. AreExchanged old new ((page, was) ∷ []) ((page, n) ∷ (b.child, inner_of d c.mid.1 c.right) ∷ [])) left
      (subst (λ n. AreExchanged old new ((page, was) ∷ []) ((page, InnerNode link w.xs) ∷ (b.child, n) ∷ [])) right e)))

-- ---- one page with a change of its children

pub parent_written : (old mid new : PageMap) (d : ℕ) (t : Tree (suc d)) (first : Tree d) (rest : List (Key × Tree d)) (k : Key) (bs : List Branch) (split : Option Branch)
    → Holds old (nodes_of (suc d) t) → Apart (pages_in (nodes_of (suc d) t)) → AreChanged old mid d t.first t.rest first rest k → map (branch_to d) rest ≡ bs
    → InnerWritten mid new t.page (page_of d t.first) bs split → AreShrunk old new (suc d) t [] k split
parent_written old mid new d t first rest k bs split holds apart c told w =
    let node : ℕ × Node = (t.page, inner_of d t.first t.rest) in
    let nil : nodes_of (suc d) t ≡ flat_nodes (suc d) t [] = sym (append_nil (nodes_of (suc d) t)) in
    let a = exchange_beside old mid (node ∷ []) (flat_nodes d t.first t.rest) (flat_nodes d first rest) [] (subst (Holds old) nil holds) (subst (λ ns. Apart (pages_in ns)) nil apart) c.pages in
    let o = over mid new t.page (inner_of d t.first t.rest) d first (page_of d t.first) bs c.same rest split told a.holds a.apart w in
    record {
      tree = o.tree;
      more = o.more;
      told = o.told;
      changed = raised old mid new d t [] o.tree o.more k t.first t.rest first rest (made_of_one d t) o.made c o.same (exchange_then old mid new _ _ _ a o.pages);
    }

-- the page itself is as it was
pub parent_kept : (old mid : PageMap) (d : ℕ) (t : Tree (suc d)) (first : Tree d) (rest : List (Key × Tree d)) (k : Key)
    → Holds old (nodes_of (suc d) t) → Apart (pages_in (nodes_of (suc d) t)) → AreChanged old mid d t.first t.rest first rest k → map (branch_to d) rest ≡ map (branch_to d) t.rest
    → AreShrunk old mid (suc d) t [] k None
parent_kept old mid d t first rest k holds apart c told =
    let node : ℕ × Node = (t.page, inner_of d t.first t.rest) in
    let nil : nodes_of (suc d) t ≡ flat_nodes (suc d) t [] = sym (append_nil (nodes_of (suc d) t)) in
    let a = exchange_beside old mid (node ∷ []) (flat_nodes d t.first t.rest) (flat_nodes d first rest) [] (subst (Holds old) nil holds) (subst (λ ns. Apart (pages_in ns)) nil apart) c.pages in
    parent_written old mid mid d t first rest k (map (branch_to d) t.rest) None holds apart c told (a.holds.0, λ n h. refl)

-- ---- two neighbours joined, of which the children changed

pub joined : (old mid new : PageMap) (d : ℕ) (l : Tree (suc d)) (s : Key) (r : Tree (suc d)) (first : Tree d) (rest : List (Key × Tree d)) (k : Key) (link : ℕ) (bs : List Branch) (split : Option Branch)
    → Holds old (flat_nodes (suc d) l ((s, r) ∷ [])) → Apart (pages_in (flat_nodes (suc d) l ((s, r) ∷ [])))
    → AreChanged old mid d l.first (l.rest ++ (s, r.first) ∷ r.rest) first rest k → page_of d first ≡ link → map (branch_to d) rest ≡ bs
    → AreInnersJoined mid new l.page r.page link bs split → AreShrunk old new (suc d) l ((s, r) ∷ []) k split
joined old mid new d l s r first rest k link bs split holds apart c at told w =
    let left : ℕ × Node = (l.page, inner_of d l.first l.rest) in
    let right : ℕ × Node = (r.page, inner_of d r.first r.rest) in
    let G : List (ℕ × Node) = flat_nodes d l.first (l.rest ++ (s, r.first) ∷ r.rest) in
    let now : List (ℕ × Node) = flat_nodes d first rest in
    let order = two_nodes d l s r in
    let a = exchange_beside old mid (left ∷ right ∷ []) G now [] (order.held old holds) (order.parted apart) c.pages in
    let b = exchange_beside mid w.mid (left ∷ []) (right ∷ []) [] (now ++ []) a.holds a.apart (page_freed mid w.mid r.page right.1 w.freed w.kept) in
    let o = over w.mid new l.page left.1 d first link bs at rest split told b.holds b.apart w.written in
    record {
      tree = o.tree;
      more = o.more;
      told = o.told;
      changed = raised old mid new d l ((s, r) ∷ []) o.tree o.more k l.first (l.rest ++ (s, r.first) ∷ r.rest) first rest (made_of_two d l s r) o.made c o.same
          (exchange_from old new _ _ _ order (exchange_then old mid new _ _ _ a (exchange_then mid w.mid new _ _ _ b o.pages)));
    }
