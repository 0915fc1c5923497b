-- An inner page grown: one of its children is exchanged for one or two, and the page is written
-- whole or cut in two.
use Rattle.std.proofs.Common.{◌≡◌, ℕ, suc, List, [], ◌∷◌, ◌++◌, map, ◌⊎◌, inl, inr, refl, sym, ap, ◌∙◌, subst, Option, Some, None, IsSome, Bool, true, false, nat_eq, ⊎_elim, take, drop}
use Rattle.std.specs.List.{flat_map}
use Rattle.std.specs.Option.{option_to_list}
use Rattle.std.proofs.lemmas.List.{append-nil as append_nil, take-append-drop}
use Rattle.std.proofs.lemmas.Bool.{eqb-true, eqb-false}
use Rattle.page_space.specs.Space.{PageMap}
use Rattle.btree_read.specs.declared.entry.Entry.{Entry}
use Rattle.btree_read.specs.declared.entry.Branch.{Branch}
use Rattle.btree_read.specs.Lists.{Has, Apart, Leads}
use Rattle.btree_read.specs.Nodes.{Key, Node, InnerNode, HasNode}
use Rattle.btree_read.specs.Tree.{Tree, page_of, branch_to, kids, pages_in, nodes_of, leaves_of, entries_of, Holds, Chain, Ordered}
use Rattle.btree_read.specs.Search.{IsUnder}
use Rattle.btree_read.proofs.Kids.{kid_at, put_first, put_rest, low_at, high_at}
use Rattle.btree_read.proofs.ListLemmas.{each_append, each_left, each_right, has_between, apart_between, leads_middle}
use Rattle.btree_read.proofs.ChainLemmas.{chain_at, chain_put, chain_cut}
use Rattle.btree_read.proofs.NodeLemmas.{node_kept, node_is_used, not_fresh}
use Rattle.btree_read.proofs.PageLemmas.{holds_used, holds_kept, around, flat_cut, first_page, rest_branches, pages_append, exchange, IsExchanged}
use Rattle.btree.specs.Grow.{flat_nodes, flat_leaves, IsGrown, SamePages, IsInnerCut, AreKept}
use Rattle.btree.proofs.LeafLemmas.{used_not_fresh}
use Rattle.btree.proofs.KeptLemmas.{has_around, has_there, kept_middle}

pub inner_moved : (pages : PageMap) (p q a b : ℕ) (bs cs : List Branch) → p ≡ q → a ≡ b → bs ≡ cs → HasNode pages p (InnerNode a bs) → HasNode pages q (InnerNode b cs)
inner_moved pages p q a b bs cs e f g h =
    subst (λ n. HasNode pages n (InnerNode b cs)) e (subst (λ x. HasNode pages p (InnerNode x cs)) f (subst (λ x. HasNode pages p (InnerNode a x)) g h))

-- where a list whose image is cut is cut itself
pub record IsCutAt {T : Type 0} (f : Key × T → Branch) (cs : List (Key × T)) (xs : List Branch) (y : Branch) (ys : List Branch) : Type 0 where
  pub left : List (Key × T)
  pub mid : Key × T
  pub right : List (Key × T)
  pub parts : cs ≡ left ++ mid ∷ right
  pub is_left : map f left ≡ xs
  pub is_mid : f mid ≡ y
  pub is_right : map f right ≡ ys

pub cut_at : {T : Type 0} (f : Key × T → Branch) (cs : List (Key × T)) (xs : List Branch) (y : Branch) (ys : List Branch) → map f cs ≡ xs ++ y ∷ ys → IsCutAt f cs xs y ys
cut_at f [] [] y ys h = cc
cut_at f [] (x ∷ xs) y ys h = cc
cut_at f (c ∷ cs) [] y ys h = record { left = []; mid = c; right = cs; parts = refl; is_left = refl; is_mid = cc; is_right = cc }
cut_at f (c ∷ cs) (x ∷ xs) y ys h =
    let tail : map f cs ≡ xs ++ y ∷ ys = cc in
    let w = cut_at f cs xs y ys tail in
    let head : f c ≡ x = cc in
    record {
      left = c ∷ w.left;
      mid = w.mid;
      right = w.right;
      parts = ap (λ l. c ∷ l) w.parts;
      is_left = rw (head, w.is_left);
      is_mid = w.is_mid;
      is_right = w.is_right;
    }

pub has_or_not : (n : ℕ) (xs : List ℕ) → Has n xs ⊎ (Has n xs → ⊥)
has_or_not n [] = inr (λ h. h)
has_or_not n (x ∷ xs) = by (nat_eq n x) refl (has_or_not n xs)
  where
    by : (p : Bool) → p ≡ nat_eq n x → Has n xs ⊎ (Has n xs → ⊥) → ((n ≡ x) ⊎ Has n xs) ⊎ ((n ≡ x) ⊎ Has n xs → ⊥)
    by true e w = inl (inl (eqb-true n x (sym e)))
    by false e (inl g) = inl (inr g)
    by false e (inr g) = inr (λ w. no (eqb-false n x (sym e)) g w)
      where
        no : ((n ≡ x) → ⊥) → (Has n xs → ⊥) → (n ≡ x) ⊎ Has n xs → ⊥
        no f g (inl h) = f h
        no f g (inr h) = g h

-- the children of an inner page, one of them grown
pub record IsSpliced (old mid : PageMap) (d : ℕ) (t : Tree (suc d)) (Fits : Key → Option Key → Type 0) (now : List Entry) (branches : List Branch) : Type 0 where
  pub first : Tree d
  pub rest : List (Key × Tree d)
  pub same : page_of d first ≡ page_of d t.first
  pub told : map (branch_to d) rest ≡ branches
  pub nodes : IsExchanged old mid (flat_nodes d t.first t.rest) (flat_nodes d first rest)
  pub kept : AreKept old mid (pages_in (flat_nodes d t.first t.rest)) (pages_in (flat_nodes d first rest))
  pub order : (lo : Key) (hi : Option Key) → Chain (Ordered d) lo hi t.first t.rest → Fits lo hi → Chain (Ordered d) lo hi first rest
  pub links : (from to : ℕ) → Leads from (flat_leaves d t.first t.rest) to → Leads from (flat_leaves d first rest) to
  pub entries : flat_map (entries_of d) (kids first rest) ≡ now

module _ (old mid : PageMap) (page : ℕ) (d : ℕ) (t : Tree (suc d)) (lo : Key) (hi : Option Key) (at : ℕ) (Fits : Key → Option Key → Type 0) (now : List Entry) where
  pub splice : (split : Option Branch) (below : List Entry) → IsUnder old page (suc d) t lo hi
      → ((a : Key) (b : Option Key) → Fits a b → Fits (low_at a t.rest at) (high_at b t.rest at))
      → ((new : Tree d) (more : List (Key × Tree d)) → flat_map (entries_of d) (kids new more) ≡ below
      → flat_map (entries_of d) (kids (put_first t.first t.rest at new) (put_rest t.rest at new more)) ≡ now)
      → IsGrown old mid d (kid_at t.first t.rest at) Fits below split
      → IsSpliced old mid d t Fits now (take at (map (branch_to d) t.rest) ++ (option_to_list split ++ drop at (map (branch_to d) t.rest)))
  splice split below u down up g =
      let w = around (nodes_of d) t.first t.rest at in
      let v = around (leaves_of d) t.first t.rest at in
      let x = exchange old mid w.before (nodes_of d (kid_at t.first t.rest at)) w.after (flat_nodes d g.tree g.more)
      (subst (Holds old) w.old u.holds.1) (subst (λ ns. Apart (pages_in ns)) w.old u.apart.1) g.holds g.apart g.own g.others in
      record {
        first = put_first t.first t.rest at g.tree;
        rest = put_rest t.rest at g.tree g.more;
        same = first_page d t.first t.rest at g.tree g.same;
        told = rest_branches d t.first t.rest at g.tree g.more g.same ∙ ap (λ bs. take at (map (branch_to d) t.rest) ++ (bs ++ drop at (map (branch_to d) t.rest))) g.told;
        nodes = rw (w.old, w.new g.tree g.more) x;
        kept = rw (w.old, w.new g.tree g.more) (kept_middle old mid w.before (nodes_of d (kid_at t.first t.rest at)) w.after (flat_nodes d g.tree g.more) g.kept);
        order = λ a b o f. chain_put (Ordered d) a b t.first t.rest at g.tree g.more o (g.order _ _ (chain_at (Ordered d) a b t.first t.rest at o) (down a b f));
        links = λ from to h. subst (λ ls. Leads from ls to) (sym (v.new g.tree g.more)) (leads_middle from v.before _ _ v.after to g.links (subst (λ ls. Leads from ls to) v.old h));
        entries = up g.tree g.more g.entries;
      }

  -- the page's own number is not among the children's
  own_page : IsUnder old page (suc d) t lo hi → (branches : List Branch) (s : IsSpliced old mid d t Fits now branches) → Has t.page (pages_in (flat_nodes d s.first s.rest)) → ⊥
  own_page u branches s h = by (s.nodes.own t.page h)
    where
      by : Has t.page (pages_in (flat_nodes d t.first t.rest)) ⊎ (old t.page ≡ None) → ⊥
      by (inl g) = u.apart.0 g
      by (inr e) = not_fresh old t.page (node_is_used old t.page _ u.holds.0) e

  pub whole : (new : PageMap) (branches : List Branch) → IsUnder old page (suc d) t lo hi → (s : IsSpliced old mid d t Fits now branches)
      → HasNode new page (InnerNode (page_of d t.first) branches) → SamePages mid new (λ n. n ≡ page)
      → IsGrown old new (suc d) t Fits now None
  whole new branches u s node same =
      let F : List (ℕ × Node) = flat_nodes d s.first s.rest in
      let not_own : (n : ℕ) → Has n (pages_in F) → n ≡ page → ⊥ = λ n g e. own_page u branches s (subst (λ m. Has m (pages_in F)) (e ∙ sym u.at) g) in
      record {
        tree = record { page = t.page; first = s.first; rest = s.rest };
        more = [];
        told = refl;
        same = refl;
        holds = (
          inner_moved new page t.page (page_of d t.first) (page_of d s.first) branches (map (branch_to d) s.rest) (sym u.at) (sym s.same) (sym s.told) node,
          each_append _ F [] (holds_kept mid new F s.nodes.holds (λ n g. same n (not_own n g))) tt,
        );
        apart = rw (append_nil F) (own_page u branches s, s.nodes.apart);
        own = λ n h. own_by n (subst (λ ns. (n ≡ t.page) ⊎ Has n (pages_in ns)) (append_nil F) h);
        others = λ n h g. same n (λ e. h (inl (e ∙ sym u.at))) ∙ s.nodes.others n (λ w. h (inr w)) g;
        kept = record {
          still = λ n h. subst (λ ns. (n ≡ t.page) ⊎ Has n (pages_in ns)) (sym (append_nil F)) (still_by n h);
          rest = λ n h. rest_by n (λ g. h (subst (λ ns. (n ≡ t.page) ⊎ Has n (pages_in ns)) (sym (append_nil F)) g));
        };
        order = s.order;
        links = λ from to h. subst (λ ls. Leads from ls to) (sym (append_nil (flat_leaves d s.first s.rest))) (s.links from to h);
        entries = append_nil (flat_map (entries_of d) (kids s.first s.rest)) ∙ s.entries;
      }
    where
      still_by : (n : ℕ) → (n ≡ t.page) ⊎ Has n (pages_in (flat_nodes d t.first t.rest)) → (n ≡ t.page) ⊎ Has n (pages_in (flat_nodes d s.first s.rest))
      still_by n (inl e) = inl e
      still_by n (inr g) = inr (s.kept.still n g)

      rest_by : (n : ℕ) → ((n ≡ t.page) ⊎ Has n (pages_in (flat_nodes d s.first s.rest)) → ⊥) → new n ≡ old n
      rest_by n h = same n (λ e. h (inl (e ∙ sym u.at))) ∙ s.kept.rest n (λ g. h (inr g))

      own_by : (n : ℕ) → (n ≡ t.page) ⊎ Has n (pages_in (flat_nodes d s.first s.rest)) → ((n ≡ t.page) ⊎ Has n (pages_in (flat_nodes d t.first t.rest))) ⊎ (old n ≡ None)
      own_by n (inl e) = inl (inl e)
      own_by n (inr g) = own_in n (s.nodes.own n g)
        where
          own_in : (n : ℕ) → Has n (pages_in (flat_nodes d t.first t.rest)) ⊎ (old n ≡ None) → ((n ≡ t.page) ⊎ Has n (pages_in (flat_nodes d t.first t.rest))) ⊎ (old n ≡ None)
          own_in n (inl g) = inl (inr g)
          own_in n (inr e) = inr e

  -- nothing came up from the child
  pub kept : (below : List Entry) → IsUnder old page (suc d) t lo hi
      → ((a : Key) (b : Option Key) → Fits a b → Fits (low_at a t.rest at) (high_at b t.rest at))
      → ((new : Tree d) (more : List (Key × Tree d)) → flat_map (entries_of d) (kids new more) ≡ below
      → flat_map (entries_of d) (kids (put_first t.first t.rest at new) (put_rest t.rest at new more)) ≡ now)
      → IsGrown old mid d (kid_at t.first t.rest at) Fits below None → IsGrown old mid (suc d) t Fits now None
  kept below u down up g =
      let sp = splice None below u down up g in
      let same : mid t.page ≡ old t.page = sp.nodes.others t.page u.apart.0 (node_is_used old t.page _ u.holds.0) in
      whole mid (map (branch_to d) t.rest) u (subst (IsSpliced old mid d t Fits now) (take-append-drop at (map (branch_to d) t.rest)) sp)
      (subst (λ n. HasNode mid n (InnerNode (page_of d t.first) (map (branch_to d) t.rest))) u.at (node_kept old mid t.page _ same u.holds.0)) (λ n h. refl)

  pub cut : (new : PageMap) (branches : List Branch) (b : Branch) → IsUnder old page (suc d) t lo hi → IsSpliced old mid d t Fits now branches
      → IsInnerCut mid new page (page_of d t.first) branches b
      → IsGrown old new (suc d) t Fits now (Some b)
  cut new branches b u s w =
      let c = cut_at (branch_to d) s.rest w.xs w.y w.ys (s.told ∙ w.parts) in
      let F1 : List (ℕ × Node) = flat_nodes d s.first c.left in
      let F2 : List (ℕ × Node) = flat_nodes d c.mid.1 c.right in
      let P1 : List ℕ = pages_in F1 in
      let P2 : List ℕ = pages_in F2 in
      let all : flat_nodes d s.first s.rest ≡ F1 ++ F2 = ap (λ cs. flat_nodes d s.first cs) c.parts ∙ flat_cut (nodes_of d) s.first c.left c.mid c.right in
      let holds : Holds mid (F1 ++ F2) = subst (Holds mid) all s.nodes.holds in
      let pages : pages_in (flat_nodes d s.first s.rest) ≡ P1 ++ P2 = ap pages_in all ∙ pages_append F1 F2 in
      let no_page : Has t.page (P1 ++ P2) → ⊥ = λ h. own_page u branches s (subst (Has t.page) (sym pages) h) in
      let in_use : (n : ℕ) → Has n (P1 ++ P2) → IsSome (mid n) = λ n h. holds_used mid (F1 ++ F2) holds n (subst (Has n) (sym (pages_append F1 F2)) h) in
      let no_new : Has b.child (P1 ++ P2) → ⊥ = λ h. not_fresh mid b.child (in_use b.child h) w.fresh in
      let page_used : IsSome (mid t.page) = rw (s.nodes.others t.page u.apart.0 (node_is_used old t.page _ u.holds.0)) (node_is_used old t.page _ u.holds.0) in
      let kept : (n : ℕ) → Has n (P1 ++ P2) → new n ≡ mid n =
      λ n h. w.others n (λ e. ⊎_elim (λ (g : n ≡ page). no_page (subst (λ m. Has m (P1 ++ P2)) (g ∙ sym u.at) h)) (λ (g : n ≡ b.child). no_new (subst (λ m. Has m (P1 ++ P2)) g h)) e) in
      let now : Holds new (F1 ++ F2) = holds_kept mid new (F1 ++ F2) holds (λ n h. kept n (subst (Has n) (pages_append F1 F2) h)) in
      let list : flat_nodes (suc d) (record { page = t.page; first = s.first; rest = c.left }) ((c.mid.0, record { page = b.child; first = c.mid.1; rest = c.right }) ∷ [])
      ≡ (t.page, InnerNode (page_of d s.first) (map (branch_to d) c.left)) ∷ (F1 ++ (b.child, InnerNode (page_of d c.mid.1) (map (branch_to d) c.right)) ∷ F2) =
      ap (λ ns. (t.page, InnerNode (page_of d s.first) (map (branch_to d) c.left)) ∷ (F1 ++ (b.child, InnerNode (page_of d c.mid.1) (map (branch_to d) c.right)) ∷ ns)) (append_nil F2) in
      let leaves : flat_leaves (suc d) (record { page = t.page; first = s.first; rest = c.left }) ((c.mid.0, record { page = b.child; first = c.mid.1; rest = c.right }) ∷ []) ≡ flat_leaves d s.first s.rest =
      ap (λ ls. flat_leaves d s.first c.left ++ ls) (append_nil (flat_leaves d c.mid.1 c.right)) ∙ sym (flat_cut (leaves_of d) s.first c.left c.mid c.right) ∙ ap (flat_leaves d s.first) (sym c.parts) in
      let numbers : pages_in (flat_nodes (suc d) (record { page = t.page; first = s.first; rest = c.left }) ((c.mid.0, record { page = b.child; first = c.mid.1; rest = c.right }) ∷ []))
      ≡ t.page ∷ (P1 ++ b.child ∷ P2) =
      ap pages_in list ∙ ap (λ ps. t.page ∷ ps) (pages_append F1 ((b.child, InnerNode (page_of d c.mid.1) (map (branch_to d) c.right)) ∷ F2)) in
      record {
        tree = record { page = t.page; first = s.first; rest = c.left };
        more = (c.mid.0, record { page = b.child; first = c.mid.1; rest = c.right }) ∷ [];
        told = ap (λ key. record { key = key; child = b.child } ∷ []) (ap (λ y. y.key) c.is_mid ∙ sym w.key);
        same = refl;
        holds = subst (Holds new) (sym list) (
          inner_moved new page t.page (page_of d t.first) (page_of d s.first) w.xs (map (branch_to d) c.left) (sym u.at) (sym s.same) (sym c.is_left) w.left,
          each_append _ F1 ((b.child, InnerNode (page_of d c.mid.1) (map (branch_to d) c.right)) ∷ F2) (each_left _ F1 F2 now)
              (inner_moved new b.child b.child w.y.child (page_of d c.mid.1) w.ys (map (branch_to d) c.right) refl (ap (λ y. y.child) (sym c.is_mid)) (sym c.is_right) w.right, each_right _ F1 F2 now),
        );
        apart = subst Apart (sym numbers) (
          λ h. ⊎_elim (λ (e : t.page ≡ b.child). used_not_fresh mid t.page b.child page_used w.fresh e) no_page (has_between t.page b.child P1 P2 h),
          apart_between b.child P1 P2 (subst Apart pages s.nodes.apart) no_new,
        );
        own = λ n h. own_by n P1 P2 pages (subst (Has n) numbers h);
        others = λ n h g. w.others n (λ e. other_by n h g e) ∙ s.nodes.others n (λ x. h (inr x)) g;
        kept = record {
          still = λ n h. subst (Has n) (sym numbers) (still_by n P1 P2 pages h);
          rest = λ n h. rest_by n P1 P2 pages (λ g. h (subst (Has n) (sym numbers) g));
        };
        order = λ a z o i.
            let cut = chain_cut (Ordered d) a z s.first c.left c.mid.0 c.mid.1 c.right (subst (Chain (Ordered d) a z s.first) c.parts (s.order a z o i)) in
            (cut.divides, cut.left, cut.right);
        links = λ from to h. subst (λ ls. Leads from ls to) (sym leaves) (s.links from to h);
        entries = ap (λ es. flat_map (entries_of d) (kids s.first c.left) ++ es) (append_nil (flat_map (entries_of d) (kids c.mid.1 c.right)))
            ∙ sym (flat_cut (entries_of d) s.first c.left c.mid c.right) ∙ ap (λ cs. flat_map (entries_of d) (kids s.first cs)) (sym c.parts) ∙ s.entries;
      }
    where
      Own : ℕ → Type 0
      Own n = ((n ≡ t.page) ⊎ Has n (pages_in (flat_nodes d t.first t.rest))) ⊎ (old n ≡ None)

      -- a page that is free behind the child's change was free before it, or is one of the tree's
      fresh_by : (n : ℕ) → n ≡ b.child → Has n (pages_in (flat_nodes d t.first t.rest)) ⊎ (Has n (pages_in (flat_nodes d t.first t.rest)) → ⊥) → ((n ≡ t.page) ⊎ Has n (pages_in (flat_nodes d t.first t.rest))) ⊎ (old n ≡ None)
      fresh_by n e (inl g) = inl (inr g)
      fresh_by n e (inr g) = inr (fresh_option (old n) refl)
        where
          fresh_option : (o : Option (List ℕ)) → o ≡ old n → old n ≡ None
          fresh_option None h = sym h
          fresh_option (Some x) h =
              let used : IsSome (old n) = rw (sym h) refl in
              absurd (not_fresh mid n (rw (s.nodes.others n g used) used) (ap mid e ∙ w.fresh))

      own_in : (n : ℕ) → Has n (pages_in (flat_nodes d t.first t.rest)) ⊎ (old n ≡ None) → ((n ≡ t.page) ⊎ Has n (pages_in (flat_nodes d t.first t.rest))) ⊎ (old n ≡ None)
      own_in n (inl g) = inl (inr g)
      own_in n (inr e) = inr e

      still_by : (n : ℕ) (P1 P2 : List ℕ) → pages_in (flat_nodes d s.first s.rest) ≡ P1 ++ P2 → (n ≡ t.page) ⊎ Has n (pages_in (flat_nodes d t.first t.rest)) → (n ≡ t.page) ⊎ Has n (P1 ++ b.child ∷ P2)
      still_by n P1 P2 e (inl h) = inl h
      still_by n P1 P2 e (inr h) = inr (has_around n b.child P1 P2 (subst (Has n) e (s.kept.still n h)))

      rest_by : (n : ℕ) (P1 P2 : List ℕ) → pages_in (flat_nodes d s.first s.rest) ≡ P1 ++ P2 → ((n ≡ t.page) ⊎ Has n (P1 ++ b.child ∷ P2) → ⊥) → new n ≡ old n
      rest_by n P1 P2 e h = w.others n (λ g. neither g) ∙ s.kept.rest n (λ g. h (inr (has_around n b.child P1 P2 (subst (Has n) e g))))
        where
          neither : (n ≡ page) ⊎ (n ≡ b.child) → ⊥
          neither (inl g) = h (inl (g ∙ sym u.at))
          neither (inr g) = h (inr (has_there n b.child P1 P2 g))

      own_by : (n : ℕ) (P1 P2 : List ℕ) → pages_in (flat_nodes d s.first s.rest) ≡ P1 ++ P2 → (n ≡ t.page) ⊎ Has n (P1 ++ b.child ∷ P2)
          → ((n ≡ t.page) ⊎ Has n (pages_in (flat_nodes d t.first t.rest))) ⊎ (old n ≡ None)
      own_by n P1 P2 e (inl h) = inl (inl h)
      own_by n P1 P2 e (inr h) = next (has_between n b.child P1 P2 h)
        where
          next : (n ≡ b.child) ⊎ Has n (P1 ++ P2) → ((n ≡ t.page) ⊎ Has n (pages_in (flat_nodes d t.first t.rest))) ⊎ (old n ≡ None)
          next (inl g) = fresh_by n g (has_or_not n (pages_in (flat_nodes d t.first t.rest)))
          next (inr g) = own_in n (s.nodes.own n (subst (Has n) (sym e) g))

      other_by : (n : ℕ) → (Has n (t.page ∷ pages_in (flat_nodes d t.first t.rest)) → ⊥) → IsSome (old n) → (n ≡ page) ⊎ (n ≡ b.child) → ⊥
      other_by n h g (inl e) = h (inl (e ∙ sym u.at))
      other_by n h g (inr e) = not_fresh mid n (rw (s.nodes.others n (λ x. h (inr x)) g) g) (ap mid e ∙ w.fresh)
