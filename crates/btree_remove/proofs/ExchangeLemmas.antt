-- Pages that are exchanged for others.
use Rattle.std.proofs.Common.{◌≡◌, ◌≢◌, ℕ, List, [], ◌∷◌, ◌++◌, ◌⊎◌, inl, inr, refl, sym, ap, ◌∙◌, subst, None, Some, IsSome, Option}
use Rattle.page_space.specs.Space.{PageMap}
use Rattle.btree_read.specs.declared.entry.Entry.{Entry}
use Rattle.btree_read.specs.declared.entry.Branch.{Branch}
use Rattle.btree_read.specs.Lists.{Has, Apart}
use Rattle.btree_read.specs.Nodes.{Key, Node, LeafNode, InnerNode, HasNode}
use Rattle.btree_read.specs.Tree.{pages_in, Holds}
use Rattle.btree_read.proofs.ListLemmas.{each_append, each_left, each_right, has_left, has_right, has_either, has_between, apart_parts, apart_join, apart_between}
use Rattle.btree_read.proofs.NodeLemmas.{node_is_used, not_fresh}
use Rattle.btree_read.proofs.PageLemmas.{holds_used, pages_append, pages_middle, exchange}
use Rattle.btree.specs.Grow.{SamePages, IsInnerCut}
use Rattle.btree.proofs.GrowLemmas.{has_or_not}
use Rattle.btree.proofs.LeafLemmas.{used_not_fresh}
use Rattle.btree_remove.specs.Removed.{AreExchanged, AreLeavesJoined}

-- ---- numbers in three parts

three_parts : (n : ℕ) (b x a : List (ℕ × Node)) → Has n (pages_in (b ++ (x ++ a))) → Has n (pages_in b) ⊎ (Has n (pages_in x) ⊎ Has n (pages_in a))
three_parts n b x a h = by (has_either n (pages_in b) (pages_in x ++ pages_in a) (subst (Has n) (pages_middle b x a) h))
  where
    by : Has n (pages_in b) ⊎ Has n (pages_in x ++ pages_in a) → Has n (pages_in b) ⊎ (Has n (pages_in x) ⊎ Has n (pages_in a))
    by (inl g) = inl g
    by (inr g) = inr (has_either n (pages_in x) (pages_in a) g)

in_before : (n : ℕ) (b x a : List (ℕ × Node)) → Has n (pages_in b) → Has n (pages_in (b ++ (x ++ a)))
in_before n b x a h = subst (Has n) (sym (pages_middle b x a)) (has_left n (pages_in b) (pages_in x ++ pages_in a) h)

in_middle : (n : ℕ) (b x a : List (ℕ × Node)) → Has n (pages_in x) → Has n (pages_in (b ++ (x ++ a)))
in_middle n b x a h = subst (Has n) (sym (pages_middle b x a)) (has_right n (pages_in b) (pages_in x ++ pages_in a) (has_left n (pages_in x) (pages_in a) h))

in_after : (n : ℕ) (b x a : List (ℕ × Node)) → Has n (pages_in a) → Has n (pages_in (b ++ (x ++ a)))
in_after n b x a h = subst (Has n) (sym (pages_middle b x a)) (has_right n (pages_in b) (pages_in x ++ pages_in a) (has_right n (pages_in x) (pages_in a) h))

-- ---- exchanges put together

-- what was in use beside them is as it was
pub used_stays : (old mid : PageMap) (x y : List (ℕ × Node)) → AreExchanged old mid x y → (n : ℕ) → (Has n (pages_in x) → ⊥) → IsSome (old n) → mid n ≡ old n
used_stays old mid x y e n f g = e.others n f (λ h. by (e.own n h))
  where
    by : Has n (pages_in x) ⊎ (old n ≡ None) → ⊥
    by (inl i) = f i
    by (inr i) = not_fresh old n g i

pub exchange_beside : (old mid : PageMap) (b x y a : List (ℕ × Node)) → Holds old (b ++ (x ++ a)) → Apart (pages_in (b ++ (x ++ a))) → AreExchanged old mid x y
    → AreExchanged old mid (b ++ (x ++ a)) (b ++ (y ++ a))
exchange_beside old mid b x y a holds apart e =
    let w = exchange old mid b x a y holds apart e.holds e.apart e.own (used_stays old mid x y e) in
    record {
      holds = w.holds;
      apart = w.apart;
      own = w.own;
      gone = λ n h g. gone n g (three_parts n b x a h);
      others = λ n h g. e.others n (λ i. h (in_middle n b x a i)) (λ i. g (in_middle n b y a i));
    }
  where
    gone : (n : ℕ) → (Has n (pages_in (b ++ (y ++ a))) → ⊥) → Has n (pages_in b) ⊎ (Has n (pages_in x) ⊎ Has n (pages_in a)) → mid n ≡ None
    gone n g (inl h) = absurd (g (in_before n b y a h))
    gone n g (inr (inl h)) = e.gone n h (λ i. g (in_middle n b y a i))
    gone n g (inr (inr h)) = absurd (g (in_after n b y a h))

pub exchange_then : (old mid new : PageMap) (a b c : List (ℕ × Node)) → AreExchanged old mid a b → AreExchanged mid new b c → AreExchanged old new a c
exchange_then old mid new a b c e f = record {
  holds = f.holds;
  apart = f.apart;
  own = λ n h. own n (f.own n h);
  gone = λ n h g. gone n h g (has_or_not n (pages_in b));
  others = λ n h g. others n h g (has_or_not n (pages_in b));
}
  where
    fresh_by : (n : ℕ) → mid n ≡ None → (Has n (pages_in a) → ⊥) → Has n (pages_in b) ⊎ (Has n (pages_in b) → ⊥) → old n ≡ None
    fresh_by n m h (inl g) = absurd (not_fresh mid n (holds_used mid b e.holds n g) m)
    fresh_by n m h (inr g) = sym (e.others n h g) ∙ m

    fresh : (n : ℕ) → mid n ≡ None → Has n (pages_in a) ⊎ (Has n (pages_in a) → ⊥) → Has n (pages_in a) ⊎ (old n ≡ None)
    fresh n m (inl h) = inl h
    fresh n m (inr h) = inr (fresh_by n m h (has_or_not n (pages_in b)))

    own : (n : ℕ) → Has n (pages_in b) ⊎ (mid n ≡ None) → Has n (pages_in a) ⊎ (old n ≡ None)
    own n (inl h) = e.own n h
    own n (inr m) = fresh n m (has_or_not n (pages_in a))

    gone : (n : ℕ) → Has n (pages_in a) → (Has n (pages_in c) → ⊥) → Has n (pages_in b) ⊎ (Has n (pages_in b) → ⊥) → new n ≡ None
    gone n h g (inl k) = f.gone n k g
    gone n h g (inr k) = f.others n k g ∙ e.gone n h k

    was_free : (n : ℕ) → (Has n (pages_in a) → ⊥) → Has n (pages_in a) ⊎ (old n ≡ None) → old n ≡ None
    was_free n h (inl g) = absurd (h g)
    was_free n h (inr g) = g

    others : (n : ℕ) → (Has n (pages_in a) → ⊥) → (Has n (pages_in c) → ⊥) → Has n (pages_in b) ⊎ (Has n (pages_in b) → ⊥) → new n ≡ old n
    others n h g (inl k) = f.gone n k g ∙ sym (was_free n h (e.own n k))
    others n h g (inr k) = f.others n k g ∙ e.others n h k

-- ---- another order of the list

pub record IsRearranged (xs ys : List (ℕ × Node)) : Type 0 where
  pub to : (n : ℕ) → Has n (pages_in xs) → Has n (pages_in ys)
  pub back : (n : ℕ) → Has n (pages_in ys) → Has n (pages_in xs)
  pub holds : (pages : PageMap) → Holds pages xs → Holds pages ys
  pub held : (pages : PageMap) → Holds pages ys → Holds pages xs
  pub apart : Apart (pages_in xs) → Apart (pages_in ys)
  pub parted : Apart (pages_in ys) → Apart (pages_in xs)

-- the first one at another place
pub moved : (p : ℕ × Node) (xs ys : List (ℕ × Node)) → IsRearranged (p ∷ (xs ++ ys)) (xs ++ p ∷ ys)
moved p xs ys = record {
  to = λ n h. subst (Has n) (sym is) (into n (subst (Has n) all h));
  back = λ n h. subst (Has n) (sym all) (has_between n p.0 (pages_in xs) (pages_in ys) (subst (Has n) is h));
  holds = λ pages h. each_append _ xs (p ∷ ys) (each_left _ xs ys h.1) (h.0, each_right _ xs ys h.1);
  held = λ pages h. let r = each_right _ xs (p ∷ ys) h in (r.0, each_append _ xs ys (each_left _ xs (p ∷ ys) h) r.1);
  apart = λ h. let g = subst Apart all h in subst Apart (sym is) (apart_between p.0 (pages_in xs) (pages_in ys) g.1 g.0);
  parted = λ h. subst Apart (sym all) (front (subst Apart is h));
}
  where
    is : pages_in (xs ++ p ∷ ys) ≡ pages_in xs ++ p.0 ∷ pages_in ys
    is = pages_append xs (p ∷ ys)

    all : pages_in (p ∷ (xs ++ ys)) ≡ p.0 ∷ (pages_in xs ++ pages_in ys)
    all = ap (λ ps. p.0 ∷ ps) (pages_append xs ys)

    by : (n : ℕ) → Has n (pages_in xs) ⊎ Has n (pages_in ys) → Has n (pages_in xs ++ p.0 ∷ pages_in ys)
    by n (inl h) = has_left n (pages_in xs) (p.0 ∷ pages_in ys) h
    by n (inr h) = has_right n (pages_in xs) (p.0 ∷ pages_in ys) (inr h)

    into : (n : ℕ) → (n ≡ p.0) ⊎ Has n (pages_in xs ++ pages_in ys) → Has n (pages_in xs ++ p.0 ∷ pages_in ys)
    into n (inl e) = has_right n (pages_in xs) (p.0 ∷ pages_in ys) (inl e)
    into n (inr h) = by n (has_either n (pages_in xs) (pages_in ys) h)

    front : Apart (pages_in xs ++ p.0 ∷ pages_in ys) → Apart (p.0 ∷ (pages_in xs ++ pages_in ys))
    front h =
        let w = apart_parts (pages_in xs) (p.0 ∷ pages_in ys) h in (
          λ g. none w.right.0 (λ i. w.none p.0 i (inl refl)) (has_either p.0 (pages_in xs) (pages_in ys) g),
          apart_join (pages_in xs) (pages_in ys) (record { left = w.left; right = w.right.1; none = λ n a b. w.none n a (inr b) }),
        )
      where
        none : (Has p.0 (pages_in ys) → ⊥) → (Has p.0 (pages_in xs) → ⊥) → Has p.0 (pages_in xs) ⊎ Has p.0 (pages_in ys) → ⊥
        none f g (inl h) = g h
        none f g (inr h) = f h

pub behind_one : (p : ℕ × Node) (xs ys : List (ℕ × Node)) → IsRearranged xs ys → IsRearranged (p ∷ xs) (p ∷ ys)
behind_one p xs ys w = record {
  to = λ n h. on n (w.to n) h;
  back = λ n h. on n (w.back n) h;
  holds = λ pages h. (h.0, w.holds pages h.1);
  held = λ pages h. (h.0, w.held pages h.1);
  apart = λ h. (λ g. h.0 (w.back p.0 g), w.apart h.1);
  parted = λ h. (λ g. h.0 (w.to p.0 g), w.parted h.1);
}
  where
    on : (n : ℕ) {A B : Type 0} → (A → B) → (n ≡ p.0) ⊎ A → (n ≡ p.0) ⊎ B
    on n f (inl e) = inl e
    on n f (inr h) = inr (f h)

pub exchange_into : (old new : PageMap) (was xs ys : List (ℕ × Node)) → IsRearranged xs ys → AreExchanged old new was xs → AreExchanged old new was ys
exchange_into old new was xs ys w e = record {
  holds = w.holds new e.holds;
  apart = w.apart e.apart;
  own = λ n h. e.own n (w.back n h);
  gone = λ n h g. e.gone n h (λ i. g (w.to n i));
  others = λ n h g. e.others n h (λ i. g (w.to n i));
}

pub exchange_from : (old new : PageMap) (xs ys now : List (ℕ × Node)) → IsRearranged xs ys → AreExchanged old new xs now → AreExchanged old new ys now
exchange_from old new xs ys now w e = record {
  holds = e.holds;
  apart = e.apart;
  own = λ n h. on n (e.own n h);
  gone = λ n h g. e.gone n (w.back n h) g;
  others = λ n h g. e.others n (λ i. h (w.to n i)) g;
}
  where
    on : (n : ℕ) → Has n (pages_in xs) ⊎ (old n ≡ None) → Has n (pages_in ys) ⊎ (old n ≡ None)
    on n (inl h) = inl (w.to n h)
    on n (inr h) = inr h

-- ---- one page, and two

alone : (n p : ℕ) {A : Type 0} → (n ≡ p → A) → (n ≡ p) ⊎ ⊥ → A
alone n p f (inl e) = f e
alone n p f (inr h) = absurd h

pub page_written : (old new : PageMap) (page : ℕ) (was node : Node) → HasNode new page node → SamePages old new (λ n. n ≡ page) → AreExchanged old new ((page, was) ∷ []) ((page, node) ∷ [])
page_written old new page was node h f = record {
  holds = (h, tt);
  apart = (λ g. g, tt);
  own = λ n g. inl g;
  gone = λ n g i. absurd (i g);
  others = λ n g i. f n (λ e. g (inl e));
}

pub page_freed : (old new : PageMap) (page : ℕ) (was : Node) → new page ≡ None → SamePages old new (λ n. n ≡ page) → AreExchanged old new ((page, was) ∷ []) []
page_freed old new page was h f = record {
  holds = tt;
  apart = tt;
  own = λ n g. absurd g;
  gone = λ n g i. alone n page (λ e. ap new e ∙ h) g;
  others = λ n g i. f n (λ e. g (inl e));
}

pub leaves_joined : (old new : PageMap) (left right next : ℕ) (es : List Entry) (a b : Node) → left ≢ right → AreLeavesJoined old new left right next es
    → AreExchanged old new ((left, a) ∷ (right, b) ∷ []) ((left, LeafNode next es) ∷ [])
leaves_joined old new left right next es a b ne w = record {
  holds = (w.node, tt);
  apart = (λ g. g, tt);
  own = λ n g. alone n left (λ e. inl (inl e)) g;
  gone = λ n g i. gone n i g;
  others = λ n g i. w.others n (λ h. g (two n h));
}
  where
    two : (n : ℕ) → (n ≡ left) ⊎ (n ≡ right) → (n ≡ left) ⊎ ((n ≡ right) ⊎ ⊥)
    two n (inl e) = inl e
    two n (inr e) = inr (inl e)

    gone : (n : ℕ) → ((n ≡ left) ⊎ ⊥ → ⊥) → (n ≡ left) ⊎ ((n ≡ right) ⊎ ⊥) → new n ≡ None
    gone n i (inl e) = absurd (i (inl e))
    gone n i (inr (inl e)) = ap new e ∙ w.gone
    gone n i (inr (inr h)) = absurd h

pub page_cut : (old new : PageMap) (page first : ℕ) (bs : List Branch) (b : Branch) (was : Node) → IsSome (old page) → (w : IsInnerCut old new page first bs b)
    → AreExchanged old new ((page, was) ∷ []) ((page, InnerNode first w.xs) ∷ (b.child, InnerNode w.y.child w.ys) ∷ [])
page_cut old new page first bs b was used w = record {
  holds = (w.left, (w.right, tt));
  apart = (λ g. alone page b.child (λ e. used_not_fresh old page b.child used w.fresh e) g, (λ g. g, tt));
  own = λ n g. own n g;
  gone = λ n g i. absurd (i (alone n page (λ e. inl e) g));
  others = λ n g i. w.others n (λ h. i (two n h));
}
  where
    two : (n : ℕ) → (n ≡ page) ⊎ (n ≡ b.child) → (n ≡ page) ⊎ ((n ≡ b.child) ⊎ ⊥)
    two n (inl e) = inl e
    two n (inr e) = inr (inl e)

    own : (n : ℕ) → (n ≡ page) ⊎ ((n ≡ b.child) ⊎ ⊥) → ((n ≡ page) ⊎ ⊥) ⊎ (old n ≡ None)
    own n (inl e) = inl (inl e)
    own n (inr (inl e)) = inr (ap old e ∙ w.fresh)
    own n (inr (inr h)) = absurd h
