-- The pages of a tree: what is kept while other pages change, and a list of nodes in which a part
-- is exchanged.
use Rattle.std.proofs.Common.{◌≡◌, ℕ, zero, suc, List, [], ◌∷◌, ◌++◌, map, ◌⊎◌, inl, inr, refl, sym, ap, ◌∙◌, subst, None, IsSome, append_assoc, take, drop}
use Rattle.std.specs.List.{flat_map}
use Rattle.std.proofs.lemmas.List.{append-nil as append_nil, map-append}
use Rattle.std.proofs.Math.Seq.{take-nil, drop-nil}
use Rattle.page_space.specs.Space.{PageMap}
use Rattle.btree_read.specs.Lists.{Has, Apart}
use Rattle.btree_read.specs.Nodes.{Key, Node}
use Rattle.btree_read.specs.Tree.{Tree, page_of, branch_to, kids, pages_in, Holds}
use Rattle.btree_read.proofs.Kids.{kid_at, put_first, put_rest}
use Rattle.btree_read.proofs.ListLemmas.{each_append, each_left, each_right, has_left, has_right, has_either, apart_parts, apart_middle}
use Rattle.btree_read.proofs.NodeLemmas.{node_is_used, node_kept, not_fresh}

pub holds_used : (pages : PageMap) (nodes : List (ℕ × Node)) → Holds pages nodes → (n : ℕ) → Has n (pages_in nodes) → IsSome (pages n)
holds_used pages [] h n g = absurd g
holds_used pages (x ∷ xs) h n (inl e) = let P : ℕ → Type 0 = λ m. IsSome (pages m) in subst P (sym e) (node_is_used pages x.0 x.1 h.0)
holds_used pages (x ∷ xs) h n (inr g) = holds_used pages xs h.1 n g

pub holds_kept : (old new : PageMap) (nodes : List (ℕ × Node)) → Holds old nodes
    → ((n : ℕ) → Has n (pages_in nodes) → new n ≡ old n) → Holds new nodes
holds_kept old new [] h f = tt
holds_kept old new (x ∷ xs) h f =
    (node_kept old new x.0 x.1 (f x.0 (inl refl)) h.0, holds_kept old new xs h.1 (λ n g. f n (inr g)))

-- the parts of a list of children beside the child at a place
pub record IsAround {T X : Type 0} (f : T → List X) (first : T) (rest : List (Key × T)) (at : ℕ) : Type 0 where
  pub before : List X
  pub after : List X
  pub old : flat_map f (kids first rest) ≡ before ++ (f (kid_at first rest at) ++ after)
  pub new : (new : T) (more : List (Key × T)) → flat_map f (kids (put_first first rest at new) (put_rest rest at new more)) ≡ before ++ (flat_map f (kids new more) ++ after)

pub flat_cut : {T X : Type 0} (f : T → List X) (first : T) (more : List (Key × T)) (c : Key × T) (rest : List (Key × T))
    → flat_map f (kids first (more ++ c ∷ rest)) ≡ flat_map f (kids first more) ++ flat_map f (kids c.1 rest)
flat_cut f first [] c rest = simp append_nil
flat_cut f first (b ∷ more) c rest = ap (λ es. f first ++ es) (flat_cut f b.1 more c rest) ∙ sym (append_assoc (f first) (flat_map f (kids b.1 more)) (flat_map f (kids c.1 rest)))

pub around : {T X : Type 0} (f : T → List X) (first : T) (rest : List (Key × T)) (at : ℕ) → IsAround f first rest at
around f first [] at = record { before = []; after = []; old = refl; new = λ new more. sym (append_nil (flat_map f (kids new more))) }
around f first (c ∷ rest) zero = record { before = []; after = flat_map f (kids c.1 rest); old = refl; new = λ new more. flat_cut f new more c rest }
around f first (c ∷ rest) (suc at) =
    let w = around f c.1 rest at in
    record {
      before = f first ++ w.before;
      after = w.after;
      old = ap (λ xs. f first ++ xs) w.old ∙ sym (append_assoc (f first) w.before _);
      new = λ new more. ap (λ xs. f first ++ xs) (w.new new more) ∙ sym (append_assoc (f first) w.before _);
    }

-- the branches of children that were put in
pub first_page : (d : ℕ) (first : Tree d) (rest : List (Key × Tree d)) (at : ℕ) (new : Tree d)
    → page_of d new ≡ page_of d (kid_at first rest at) → page_of d (put_first first rest at new) ≡ page_of d first
first_page d first [] at new e = e
first_page d first (c ∷ rest) zero new e = e
first_page d first (c ∷ rest) (suc at) new e = refl

pub rest_branches : (d : ℕ) (first : Tree d) (rest : List (Key × Tree d)) (at : ℕ) (new : Tree d) (more : List (Key × Tree d))
    → page_of d new ≡ page_of d (kid_at first rest at)
    → map (branch_to d) (put_rest rest at new more) ≡ take at (map (branch_to d) rest) ++ (map (branch_to d) more ++ drop at (map (branch_to d) rest))
rest_branches d first [] at new more e = rw (take-nil, drop-nil) (sym (append_nil (map (branch_to d) more)))
rest_branches d first (c ∷ rest) zero new more e = map-append (branch_to d) more (c ∷ rest)
rest_branches d first (c ∷ rest) (suc at) new more e =
    rw (rest_branches d c.1 rest at new more e)
    (ap (λ p. record { key = c.0; child = p } ∷ (take at (map (branch_to d) rest) ++ (map (branch_to d) more ++ drop at (map (branch_to d) rest)))) (first_page d c.1 rest at new e))

pub pages_append : (xs ys : List (ℕ × Node)) → pages_in (xs ++ ys) ≡ pages_in xs ++ pages_in ys
pages_append xs ys = map-append (λ n. n.0) xs ys

pub pages_middle : (xs ys zs : List (ℕ × Node)) → pages_in (xs ++ (ys ++ zs)) ≡ pages_in xs ++ (pages_in ys ++ pages_in zs)
pages_middle xs ys zs = pages_append xs (ys ++ zs) ∙ ap (λ ps. pages_in xs ++ ps) (pages_append ys zs)

-- a list of nodes in which a part was exchanged
pub record IsExchanged (old mid : PageMap) (was now : List (ℕ × Node)) : Type 0 where
  pub holds : Holds mid now
  pub apart : Apart (pages_in now)
  pub own : (n : ℕ) → Has n (pages_in now) → Has n (pages_in was) ⊎ (old n ≡ None)
  pub others : (n : ℕ) → (Has n (pages_in was) → ⊥) → IsSome (old n) → mid n ≡ old n

module _ (old mid : PageMap) (b x a new : List (ℕ × Node)) where
  abbrev B : List ℕ
  B = pages_in b

  abbrev X : List ℕ
  X = pages_in x

  abbrev A : List ℕ
  A = pages_in a

  abbrev Own : Type 0
  Own = (n : ℕ) → Has n (pages_in new) → Has n X ⊎ (old n ≡ None)

  own_of : Own → (n : ℕ) → Has n (B ++ (pages_in new ++ A)) → Has n (B ++ (X ++ A)) ⊎ (old n ≡ None)
  own_of own n h = one (has_either n B (pages_in new ++ A) h)
    where
      three : Has n X ⊎ (old n ≡ None) → Has n (B ++ (X ++ A)) ⊎ (old n ≡ None)
      three (inl g) = inl (has_right n B (X ++ A) (has_left n X A g))
      three (inr e) = inr e

      two : Has n (pages_in new) ⊎ Has n A → Has n (B ++ (X ++ A)) ⊎ (old n ≡ None)
      two (inl g) = three (own n g)
      two (inr g) = inl (has_right n B (X ++ A) (has_right n X A g))

      one : Has n B ⊎ Has n (pages_in new ++ A) → Has n (B ++ (X ++ A)) ⊎ (old n ≡ None)
      one (inl g) = inl (has_left n B (X ++ A) g)
      one (inr g) = two (has_either n (pages_in new) A g)

  pub exchange : Holds old (b ++ (x ++ a)) → Apart (pages_in (b ++ (x ++ a)))
      → Holds mid new → Apart (pages_in new) → Own
      → ((n : ℕ) → (Has n X → ⊥) → IsSome (old n) → mid n ≡ old n)
      → IsExchanged old mid (b ++ (x ++ a)) (b ++ (new ++ a))
  exchange holds apart new_holds new_apart own others =
      let split : Apart (B ++ (X ++ A)) = subst Apart (pages_middle b x a) apart in
      let p = apart_parts B (X ++ A) split in
      let q = apart_parts X A p.right in
      let hb = each_left _ b (x ++ a) holds in
      let ha = each_right _ x a (each_right _ b (x ++ a) holds) in
      record {
        holds = each_append _ b (new ++ a)
            (holds_kept old mid b hb (λ n g. others n (λ w. p.none n g (has_left n X A w)) (holds_used old b hb n g)))
            (each_append _ new a new_holds (holds_kept old mid a ha (λ n g. others n (λ w. q.none n w g) (holds_used old a ha n g))));
        apart = subst Apart (sym (pages_middle b new a))
            (apart_middle (λ n. old n ≡ None) B X A (pages_in new) split new_apart own
            (λ n g e. not_fresh old n (holds_used old (b ++ (x ++ a)) holds n (subst (Has n) (sym (pages_middle b x a)) g)) e));
        own = λ n g. let w : Has n (B ++ (X ++ A)) ⊎ (old n ≡ None) = own_of own n (subst (Has n) (pages_middle b new a) g) in
            (subst (λ ps. Has n ps ⊎ (old n ≡ None)) (sym (pages_middle b x a)) w);
        others = λ n g. others n (λ w. g (subst (Has n) (sym (pages_middle b x a)) (has_right n B (X ++ A) (has_left n X A w))));
      }
