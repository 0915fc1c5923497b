-- An entry taken out of a leaf, and two leaves joined.
use Rattle.std.proofs.Common.{◌≡◌, ◌≢◌, ℕ, zero, suc, ◌+◌, ◌<◌, List, [], ◌∷◌, ◌++◌, map, length, take, drop, ◌⊎◌, inl, inr, refl, sym, ap, ◌∙◌, subst, Option, Some, None, Bool, true, false, not, arith, add-one}
use Rattle.std.specs.Prelude.{slice_index_or}
use Rattle.std.specs.List.{AllByRecursion}
use Rattle.std.specs.declared.cmp.Ordering.TheVariants.{Less, Equal, Greater}
use Rattle.std.specs.Ordering.{is_lt, nat_cmp, ordering_reverse}
use Rattle.std.specs.Cmp.Lexicographic.{slice_cmp}
use Rattle.std.proofs.Common.{Ordering}
use Rattle.std.proofs.lemmas.Cmp.{nat_list_cmp_total}
use Rattle.std.proofs.lemmas.Map.Lookups.{exact_bytes}
use Rattle.std.proofs.lemmas.List.{map-append, take-append-drop}
use Rattle.page_space.specs.Space.{PageMap}
use Rattle.sqlrecord.specs.Page.{key_of, value_of}
use Rattle.btree_read.specs.declared.entry.Entry.{Entry}
use Rattle.btree_read.specs.Lists.{Leads}
use Rattle.btree_read.specs.Nodes.{Key, precedes, LeafNode, HasNode, IsStocked, IsSmall, entry_of}
use Rattle.btree_read.specs.Sorted.{Ascends}
use Rattle.btree_read.specs.Tree.{LeafAt, Tree, IsRising, IsWithin, Divides, Chain, Ordered}
use Rattle.btree_read.proofs.ListLemmas.{each_append, each_left, each_right, each_map}
use Rattle.btree_read.proofs.ChainLemmas.{InBounds, wider_left, wider_right}
use Rattle.btree.specs.Grow.{SamePages}
use Rattle.btree_remove.specs.Removed.{IsLess, AreLeavesJoined, AreShrunk, AreChanged}
use Rattle.btree_remove.proofs.ExchangeLemmas.{page_written, leaves_joined}
use Rattle.btree_remove.proofs.RunLemmas.{less_beside}

-- ---- order

each_without : (P : Entry → Type 0) (b : List Entry) (e : Entry) (a : List Entry) → AllByRecursion P (b ++ e ∷ a) → AllByRecursion P (b ++ a)
each_without P b e a h = let r = each_right P b (e ∷ a) h in each_append P b a (each_left P b (e ∷ a) h) r.1

ascends_without : (b : List Entry) (e : Entry) (a : List Entry) → Ascends (b ++ e ∷ a) → Ascends (b ++ a)
ascends_without [] e a h = h.1
ascends_without (x ∷ b) e a h = (each_without _ b e a h.0, ascends_without b e a h.1)

pub rising_less : (lo : Key) (hi : Option Key) (k : Key) (was now : List Entry) → IsLess k was now → IsRising lo hi was → IsRising lo hi now
rising_less lo hi k was now w h =
    let g = subst (IsRising lo hi) w.parts h in
    subst (IsRising lo hi) (sym w.left) (record { within = each_without _ w.before _ w.after g.within; ascends = ascends_without w.before _ w.after g.ascends })

rising_up : (lo s : Key) (hi : Option Key) (es : List Entry) → Divides lo hi s → IsRising s hi es → IsRising lo hi es
rising_up lo s hi es w h = record { within = each_map (InBounds s hi) (InBounds lo hi) es (λ e. wider_left lo s hi w e.key) h.within; ascends = h.ascends }

rising_on : (lo s : Key) (hi : Option Key) (es : List Entry) → Divides lo hi s → IsRising lo (Some s) es → IsRising lo hi es
rising_on lo s hi es w h = record { within = each_map (InBounds lo (Some s)) (InBounds lo hi) es (λ e. wider_right lo s hi w e.key) h.within; ascends = h.ascends }

-- ---- the key of a cell

is_equal : (o : Ordering) → is_lt o ≡ false → is_lt (ordering_reverse o) ≡ false → o ≡ Equal
is_equal Less h g = cc
is_equal Equal h g = refl
is_equal Greater h g = cc

-- keys of which neither is before the other are the same
pub same_key : (a b : Key) → precedes a b ≡ false → precedes b a ≡ false → a ≡ b
unfolding precedes
same_key a b h g = exact_bytes a b (is_equal (slice_cmp nat_cmp a b) h (ap is_lt (sym (nat_list_cmp_total.antisymm b a)) ∙ g))

-- ---- a cell taken out

parts_at : (cells : List (List ℕ)) (at : ℕ) → at < length cells → cells ≡ take at cells ++ slice_index_or cells at [] ∷ drop (suc at) cells
parts_at [] at l = absurd (omega arith)
parts_at (c ∷ cells) zero l = refl
parts_at (c ∷ cells) (suc at) l = ap (λ cs. c ∷ cs) (parts_at cells at (omega arith))

pub cells_less : (k : Key) (cells : List (List ℕ)) (at : ℕ) → at < length cells → key_of (slice_index_or cells at []) ≡ k
    → IsLess k (map entry_of cells) (map entry_of (take at cells ++ drop (at + 1) cells))
cells_less k cells at l e = record {
  before = map entry_of (take at cells);
  value = value_of (slice_index_or cells at []);
  after = map entry_of (drop (suc at) cells);
  parts = ap (map entry_of) (parts_at cells at l) ∙ map-append entry_of (take at cells) (slice_index_or cells at [] ∷ drop (suc at) cells)
      ∙ ap (λ key. map entry_of (take at cells) ++ record { key = key; value = value_of (slice_index_or cells at []) } ∷ map entry_of (drop (suc at) cells)) e;
  left = ap (λ n. map entry_of (take at cells ++ drop n cells)) (add-one at) ∙ map-append entry_of (take at cells) (drop (suc at) cells);
}

some_left : (k : Key) (was now : List Entry) → IsLess k was now → (length was ≡ 1 → ⊥) → now ≡ [] → ⊥
some_left k was now w f e = f (ap length w.parts ∙ by w.before w.after (sym w.left ∙ e))
  where
    by : (b a : List Entry) → b ++ a ≡ [] → length (b ++ record { key = k; value = w.value } ∷ a) ≡ 1
    by [] [] h = refl
    by [] (x ∷ a) h = cc
    by (x ∷ b) a h = cc

pub stocked_less : (next : ℕ) (k : Key) (was now : List Entry) → IsLess k was now → (length was ≡ 1 → ⊥) → IsStocked (LeafNode next was) → IsStocked (LeafNode next now)
stocked_less next k was now w f s = (
  some_left k was now w f,
  subst (AllByRecursion IsSmall) (sym w.left) (each_without IsSmall w.before _ w.after (subst (AllByRecursion IsSmall) w.parts s.1)),
)

pub one_less : (k : Key) (cells : List (List ℕ)) (at : ℕ) → length cells ≡ 1 → at < length cells → key_of (slice_index_or cells at []) ≡ k → IsLess k (map entry_of cells) []
one_less k [] at o l e = cc
one_less k (c ∷ []) zero o l e = record { before = []; value = value_of c; after = []; parts = ap (λ key. record { key = key; value = value_of c } ∷ []) e; left = refl }
one_less k (c ∷ []) (suc at) o l e = absurd (omega arith)
one_less k (c ∷ x ∷ cells) at o l e = absurd (omega (arith, o))

-- ---- a leaf

pub leaf_shrunk : (old new : PageMap) (t : LeafAt) (k : Key) (left : List Entry) → IsLess k t.entries left → HasNode new t.page (LeafNode t.next left) → SamePages old new (λ n. n ≡ t.page)
    → AreShrunk old new zero t [] k None
leaf_shrunk old new t k left w h f = record {
  tree = record { page = t.page; next = t.next; entries = left };
  more = [];
  told = refl;
  changed = record {
    same = refl;
    pages = page_written old new t.page (LeafNode t.next t.entries) (LeafNode t.next left) h f;
    order = λ lo hi g. rising_less lo hi k t.entries left w g;
    links = λ from to g. g;
    entries = less_beside k [] t.entries left [] w;
  };
}

-- ---- two leaves

leaves_changed : (old new : PageMap) (l : LeafAt) (s : Key) (r : LeafAt) (k : Key) (es : List Entry) → l.page ≢ r.page → AreLeavesJoined old new l.page r.page r.next es
    → ((lo : Key) (hi : Option Key) → Chain (Ordered zero) lo hi l ((s, r) ∷ []) → IsRising lo hi es) → IsLess k (l.entries ++ (r.entries ++ [])) (es ++ [])
    → AreShrunk old new zero l ((s, r) ∷ []) k None
leaves_changed old new l s r k es ne w order less = record {
  tree = record { page = l.page; next = r.next; entries = es };
  more = [];
  told = refl;
  changed = record {
    same = refl;
    pages = leaves_joined old new l.page r.page r.next es (LeafNode l.next l.entries) (LeafNode r.next r.entries) ne w;
    order = order;
    links = λ from to h. (h.0, h.1.1);
    entries = less;
  };
}

pub left_emptied : (old new : PageMap) (l : LeafAt) (s : Key) (r : LeafAt) (k : Key) → l.page ≢ r.page → IsLess k l.entries [] → AreLeavesJoined old new l.page r.page r.next r.entries
    → AreShrunk old new zero l ((s, r) ∷ []) k None
left_emptied old new l s r k ne less w =
    leaves_changed old new l s r k r.entries ne w (λ lo hi h. rising_up lo s hi r.entries h.0 h.2) (less_beside k [] l.entries [] (r.entries ++ []) less)

pub right_emptied : (old new : PageMap) (l : LeafAt) (s : Key) (r : LeafAt) (k : Key) → l.page ≢ r.page → IsLess k r.entries [] → AreLeavesJoined old new l.page r.page r.next l.entries
    → AreShrunk old new zero l ((s, r) ∷ []) k None
right_emptied old new l s r k ne less w =
    leaves_changed old new l s r k l.entries ne w (λ lo hi h. rising_on lo s hi l.entries h.0 h.1) (less_beside k l.entries r.entries [] [] less)
