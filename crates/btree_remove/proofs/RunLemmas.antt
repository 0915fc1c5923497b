-- Neighbouring children of an inner page exchanged for others.
use Rattle.std.proofs.Common.{◌≡◌, ℕ, zero, suc, ◌+◌, ◌<◌, ◌≤◌, List, [], ◌∷◌, ◌++◌, map, length, take, drop, refl, sym, ap, ◌∙◌, subst, Option, Some, arith, append_assoc}
use Rattle.std.specs.Prelude.{slice_index_or}
use Rattle.std.specs.List.{flat_map}
use Rattle.page_space.specs.Space.{PageMap}
use Rattle.sqlrecord.specs.Page.{key_of}
use Rattle.btree_read.specs.declared.entry.Entry.{Entry}
use Rattle.btree_read.specs.declared.entry.Branch.{Branch}
use Rattle.btree_read.specs.Lists.{Apart, Leads}
use Rattle.btree_read.specs.Nodes.{Key, branch_of}
use Rattle.btree_read.specs.Tree.{Tree, page_of, branch_to, kids, entries_of, nodes_of, leaves_of, pages_in, Holds, Chain, Ordered}
use Rattle.btree_read.proofs.Kids.{kid_at, put_first, put_rest}
use Rattle.btree_read.proofs.ListLemmas.{leads_middle}
use Rattle.btree_read.proofs.ChainLemmas.{chain_append, chain_cut}
use Rattle.btree_read.proofs.PageLemmas.{around, rest_branches}
use Rattle.btree.specs.Grow.{flat_nodes, flat_leaves}
use Rattle.btree_remove.specs.Removed.{IsLess, AreExchanged, AreChanged, flat_entries, kid}
use Rattle.btree_remove.proofs.ExchangeLemmas.{exchange_beside}

-- ---- entries beside others

pub less_beside : (k : Key) (b x y a : List Entry) → IsLess k x y → IsLess k (b ++ (x ++ a)) (b ++ (y ++ a))
less_beside k b x y a w = record {
  before = b ++ w.before;
  value = w.value;
  after = w.after ++ a;
  parts = ap (λ es. b ++ (es ++ a)) w.parts ∙ ap (λ es. b ++ es) (append_assoc w.before _ a) ∙ sym (append_assoc b w.before _);
  left = ap (λ es. b ++ (es ++ a)) w.left ∙ ap (λ es. b ++ es) (append_assoc w.before w.after a) ∙ sym (append_assoc b w.before _);
}

-- ---- neighbours among children

chain_exchange : {T : Type 0} (P : Key → Option Key → T → Type 0) (lo : Key) (hi : Option Key) (first : T) (rest : List (Key × T)) (at : ℕ) (x : T) (more : List (Key × T)) (y : T) (others : List (Key × T))
    → ((lo : Key) (hi : Option Key) → Chain P lo hi x more → Chain P lo hi y others)
    → Chain P lo hi (put_first first rest at x) (put_rest rest at x more) → Chain P lo hi (put_first first rest at y) (put_rest rest at y others)
chain_exchange P lo hi first [] at x more y others f h = f lo hi h
chain_exchange P lo hi first (c ∷ rest) zero x more y others f h =
    let w = chain_cut P lo hi x more c.0 c.1 rest h in chain_append P lo hi y others c.0 c.1 rest w.divides (f lo (Some c.0) w.left) w.right
chain_exchange P lo hi first (c ∷ rest) (suc at) x more y others f h = (h.0, h.1, chain_exchange P c.0 hi c.1 rest at x more y others f h.2)

first_exchanged : (d : ℕ) (first : Tree d) (rest : List (Key × Tree d)) (at : ℕ) (x y : Tree d) → page_of d y ≡ page_of d x
    → page_of d (put_first first rest at y) ≡ page_of d (put_first first rest at x)
first_exchanged d first [] at x y e = e
first_exchanged d first (c ∷ rest) zero x y e = e
first_exchanged d first (c ∷ rest) (suc at) x y e = refl

pub among : (old mid : PageMap) (d : ℕ) (first : Tree d) (rest : List (Key × Tree d)) (at : ℕ) (x : Tree d) (more : List (Key × Tree d)) (y : Tree d) (others : List (Key × Tree d)) (k : Key)
    → Holds old (flat_nodes d (put_first first rest at x) (put_rest rest at x more)) → Apart (pages_in (flat_nodes d (put_first first rest at x) (put_rest rest at x more)))
    → AreChanged old mid d x more y others k
    → AreChanged old mid d (put_first first rest at x) (put_rest rest at x more) (put_first first rest at y) (put_rest rest at y others) k
among old mid d first rest at x more y others k holds apart c =
    let w = around (nodes_of d) first rest at in
    let v = around (leaves_of d) first rest at in
    let u = around (entries_of d) first rest at in
    let e = exchange_beside old mid w.before (flat_nodes d x more) (flat_nodes d y others) w.after
    (subst (Holds old) (w.new x more) holds) (subst (λ ns. Apart (pages_in ns)) (w.new x more) apart) c.pages in
    record {
      same = first_exchanged d first rest at x y c.same;
      pages = rw (w.new x more, w.new y others) e;
      order = λ lo hi h. chain_exchange (Ordered d) lo hi first rest at x more y others c.order h;
      links = λ from to h. subst (λ ls. Leads from ls to) (sym (v.new y others)) (leads_middle from v.before _ _ v.after to c.links (subst (λ ls. Leads from ls to) (v.new x more) h));
      entries = rw (u.new x more, u.new y others) (less_beside k u.before (flat_entries d x more) (flat_entries d y others) u.after c.entries);
    }

-- ---- one child

pub kid_is : {T : Type 0} (first : T) (rest : List (Key × T)) (at : ℕ) → kid first rest at ≡ kid_at first rest at
kid_is first [] at = refl
kid_is first (c ∷ rest) zero = refl
kid_is first (c ∷ rest) (suc at) = kid_is c.1 rest at

pub one_first : {T : Type 0} (first : T) (rest : List (Key × T)) (at : ℕ) → put_first first rest at (kid first rest at) ≡ first
one_first first [] at = refl
one_first first (c ∷ rest) zero = refl
one_first first (c ∷ rest) (suc at) = refl

pub one_rest : {T : Type 0} (first : T) (rest : List (Key × T)) (at : ℕ) → put_rest rest at (kid first rest at) [] ≡ rest
one_rest first [] at = refl
one_rest first (c ∷ rest) zero = refl
one_rest first (c ∷ rest) (suc at) = ap (λ t. (c.0, t) ∷ put_rest rest at (kid c.1 rest at) []) (one_first c.1 rest at) ∙ ap (λ cs. c ∷ cs) (one_rest c.1 rest at)

-- ---- two neighbours: the list without the second one, which is then put behind the first one

abbrev pub skip : {X : Type 0} → List X → ℕ → List X
skip [] at = []
skip (x ∷ xs) zero = xs
skip (x ∷ xs) (suc at) = x ∷ skip xs at

pub record AreTwo {T : Type 0} (page : T → ℕ) (first : T) (rest : List (Key × T)) (at : ℕ) : Type 0 where
  pub key : Key
  pub right : T
  pub is_first : put_first first (skip rest at) at (kid first rest at) ≡ first
  pub is_rest : put_rest (skip rest at) at (kid first rest at) ((key, right) ∷ []) ≡ rest
  pub here : kid_at first (skip rest at) at ≡ kid first rest at
  pub is_right : kid first rest (suc at) ≡ right
  pub is_key : (cells : List (List ℕ)) → map branch_of cells ≡ map (λ c. record { key = c.0; child = page c.1 }) rest → key_of (slice_index_or cells at []) ≡ key

key_here : (cells : List (List ℕ)) (b : Branch) (bs : List Branch) → map branch_of cells ≡ b ∷ bs → key_of (slice_index_or cells 0 []) ≡ b.key
key_here [] b bs e = cc
key_here (c ∷ cells) b bs e = let f : branch_of c ≡ b = cc in ap (λ (x : Branch). x.key) f

key_later : (cells : List (List ℕ)) (b : Branch) (bs : List Branch) (at : ℕ) (key : Key) → map branch_of cells ≡ b ∷ bs
    → ((cells : List (List ℕ)) → map branch_of cells ≡ bs → key_of (slice_index_or cells at []) ≡ key) → key_of (slice_index_or cells (suc at) []) ≡ key
key_later [] b bs at key e f = cc
key_later (c ∷ cells) b bs at key e f = let g : map branch_of cells ≡ bs = cc in f cells g

pub two_at : {T : Type 0} (page : T → ℕ) (first : T) (rest : List (Key × T)) (at : ℕ) → at < length rest → AreTwo page first rest at
two_at page first [] at l = absurd (omega arith)
two_at page first (c ∷ []) zero l = record { key = c.0; right = c.1; is_first = refl; is_rest = refl; here = refl; is_right = refl; is_key = λ cells e. key_here cells _ _ e }
two_at page first (c ∷ x ∷ rest) zero l = record { key = c.0; right = c.1; is_first = refl; is_rest = refl; here = refl; is_right = refl; is_key = λ cells e. key_here cells _ _ e }
two_at page first (c ∷ rest) (suc at) l =
    let w = two_at page c.1 rest at (omega arith) in
    record {
      key = w.key;
      right = w.right;
      is_first = refl;
      is_rest = ap (λ t. (c.0, t) ∷ put_rest (skip rest at) at (kid c.1 rest at) ((w.key, w.right) ∷ [])) w.is_first ∙ ap (λ cs. c ∷ cs) w.is_rest;
      here = w.here;
      is_right = w.is_right;
      is_key = λ cells e. key_later cells _ _ at w.key e w.is_key;
    }

take_skip : {X : Type 0} (xs : List X) (at : ℕ) → take at (skip xs at) ≡ take at xs
take_skip [] at = refl
take_skip (x ∷ xs) zero = refl
take_skip (x ∷ xs) (suc at) = ap (λ l. x ∷ l) (take_skip xs at)

drop_skip : {X : Type 0} (xs : List X) (at : ℕ) → drop at (skip xs at) ≡ drop (suc at) xs
drop_skip [] zero = refl
drop_skip [] (suc at) = refl
drop_skip (x ∷ xs) zero = refl
drop_skip (x ∷ xs) (suc at) = drop_skip xs at

map_skip : {X Y : Type 0} (f : X → Y) (xs : List X) (at : ℕ) → map f (skip xs at) ≡ skip (map f xs) at
map_skip f [] at = refl
map_skip f (x ∷ xs) zero = refl
map_skip f (x ∷ xs) (suc at) = ap (λ l. f x ∷ l) (map_skip f xs at)

-- the branches where two neighbours were exchanged
pub two_branches : (d : ℕ) (first : Tree d) (rest : List (Key × Tree d)) (at : ℕ) (y : Tree d) (others : List (Key × Tree d)) → page_of d y ≡ page_of d (kid_at first (skip rest at) at)
    → map (branch_to d) (put_rest (skip rest at) at y others) ≡ take at (map (branch_to d) rest) ++ (map (branch_to d) others ++ drop (suc at) (map (branch_to d) rest))
two_branches d first rest at y others e =
    rest_branches d first (skip rest at) at y others e
    ∙ ap (λ bs. take at bs ++ (map (branch_to d) others ++ drop at bs)) (map_skip (branch_to d) rest at)
    ∙ ap (λ bs. bs ++ (map (branch_to d) others ++ drop at (skip (map (branch_to d) rest) at))) (take_skip (map (branch_to d) rest) at)
    ∙ ap (λ bs. take at (map (branch_to d) rest) ++ (map (branch_to d) others ++ bs)) (drop_skip (map (branch_to d) rest) at)

-- ---- children behind those of a page before

pub last_first : {T : Type 0} (first : T) (rest : List (Key × T)) (s : Key) (t x : T) → put_first first (rest ++ (s, t) ∷ []) (suc (length rest)) x ≡ first
last_first first [] s t x = refl
last_first first (c ∷ rest) s t x = refl

pub last_rest : {T : Type 0} (first : T) (rest : List (Key × T)) (s : Key) (t x : T) (more : List (Key × T)) → put_rest (rest ++ (s, t) ∷ []) (suc (length rest)) x more ≡ rest ++ (s, x) ∷ more
last_rest first [] s t x more = refl
last_rest first (c ∷ rest) s t x more =
    ap (λ y. (c.0, y) ∷ put_rest (rest ++ (s, t) ∷ []) (suc (length rest)) x more) (last_first c.1 rest s t x) ∙ ap (λ cs. c ∷ cs) (last_rest c.1 rest s t x more)
