-- Trees that lie in pages, while one of them changes, goes or comes.
use Rattle.std.proofs.Common.{◌≡◌, ℕ, List, [], ◌∷◌, ◌++◌, ◌⊎◌, inl, inr, Option, Some, None, IsSome, refl, sym, ap, subst, ◌∙◌, append_assoc, Bool}
use Rattle.std.specs.List.{flat_map, AllByRecursion}
use Rattle.page_space.specs.Space.{PageMap}
use Rattle.btree_read.specs.Lists.{Has, Apart}
use Rattle.btree_read.proofs.ListLemmas.{each_append, each_left, each_right, has_left, has_right, has_either, Parted, apart_parts, apart_join, apart_middle}
use Rattle.btree_read.proofs.NodeLemmas.{not_fresh}
use Rattle.btree.proofs.GrowLemmas.{has_or_not}
use Rattle.btree.proofs.LawLemmas.{tree_apart}
use Rattle.btree.proofs.RootLemmas.{still_fresh}
use Rattle.btree_remove.specs.Dropped.{AreDropped}
use Rattle.catalog.proofs.OneLemmas.{schema_stays, schema_used}
use Rattle.tablestore.proofs.OneLemmas.{rows_kept, rows_used}
use Rattle.index_trees.proofs.EntryLemmas.{index_stays, index_used}
use Rattle.btree.specs.Kept.{LosesNone}
use Rattle.database_trees.specs.Trees.{Content, SchemaOf, RowsOf, IndexOf, TreeAt, HasContent, Lies, pages_of, OwnAll, HoldsTrees, IsMoved}

-- ---- one tree

pub lies_stays : (old new : PageMap) (t : TreeAt) → ((n : ℕ) → Has n t.owned → new n ≡ old n) → Lies old t → Lies new t
lies_stays old new t same h = by t.root t.owned t.content same h
  where
    by : (root : ℕ) (owned : List ℕ) (c : Content) → ((n : ℕ) → Has n owned → new n ≡ old n) → HasContent old root owned c → HasContent new root owned c
    by root owned (SchemaOf tables) same h = schema_stays old new root owned tables same h
    by root owned (RowsOf rows) same h = rows_kept old new root owned rows same h
    by root owned (IndexOf columns rows) same h = index_stays old new root owned columns rows same h

pub lies_used : (pages : PageMap) (t : TreeAt) → Lies pages t → (n : ℕ) → Has n t.owned → IsSome (pages n)
lies_used pages t h n i = by t.root t.owned t.content h i
  where
    by : (root : ℕ) (owned : List ℕ) (c : Content) → HasContent pages root owned c → Has n owned → IsSome (pages n)
    by root owned (SchemaOf tables) h i = schema_used pages root owned tables h n i
    by root owned (RowsOf rows) h i = rows_used pages root owned rows h n i
    by root owned (IndexOf columns rows) h i = index_used pages root owned columns rows h n i

pub lies_apart : (pages : PageMap) (t : TreeAt) → Lies pages t → Apart t.owned
lies_apart pages t h = by t.root t.owned t.content h
  where
    by : (root : ℕ) (owned : List ℕ) (c : Content) → HasContent pages root owned c → Apart owned
    by root owned (SchemaOf tables) h = tree_apart pages root owned _ h.tree
    by root owned (RowsOf rows) h = tree_apart pages root owned _ h.tree
    by root owned (IndexOf columns rows) h = tree_apart pages root owned _ h.tree

-- ---- the pages of several

pub pages_append : (xs ys : List TreeAt) → pages_of (xs ++ ys) ≡ pages_of xs ++ pages_of ys
pages_append [] ys = refl
pages_append (x ∷ xs) ys = ap (λ ns. x.owned ++ ns) (pages_append xs ys) ∙ sym (append_assoc x.owned (pages_of xs) (pages_of ys))

pub all_used : (pages : PageMap) (trees : List TreeAt) → AllByRecursion (Lies pages) trees → (n : ℕ) → Has n (pages_of trees) → IsSome (pages n)
all_used pages [] h n i = absurd i
all_used pages (t ∷ trees) h n i = by (has_either n t.owned (pages_of trees) i) (all_used pages trees h.1 n)
  where
    by : Has n t.owned ⊎ Has n (pages_of trees) → (Has n (pages_of trees) → IsSome (pages n)) → IsSome (pages n)
    by (inl own) others = lies_used pages t h.0 n own
    by (inr other) others = others other

pub all_stay : (old new : PageMap) (trees : List TreeAt) → ((n : ℕ) → Has n (pages_of trees) → new n ≡ old n) → AllByRecursion (Lies old) trees → AllByRecursion (Lies new) trees
all_stay old new [] same h = tt
all_stay old new (t ∷ trees) same h = (
  lies_stays old new t (λ n i. same n (has_left n t.owned (pages_of trees) i)) h.0,
  all_stay old new trees (λ n i. same n (has_right n t.owned (pages_of trees) i)) h.1,
)

-- ---- the pages in use belong to trees

without : (n : ℕ) (before gone behind : List ℕ) → (Has n gone → ⊥) → Has n (before ++ (gone ++ behind)) → Has n (before ++ behind)
without n before gone behind not h = outer (has_either n before (gone ++ behind) h)
  where
    inner : Has n gone ⊎ Has n behind → Has n behind
    inner (inl g) = absurd (not g)
    inner (inr g) = g

    outer : Has n before ⊎ Has n (gone ++ behind) → Has n (before ++ behind)
    outer (inl g) = has_left n before behind g
    outer (inr g) = has_right n before behind (inner (has_either n gone behind g))

between : (n : ℕ) (before more behind : List ℕ) → Has n (before ++ behind) → Has n (before ++ (more ++ behind))
between n before more behind h = by (has_either n before behind h)
  where
    by : Has n before ⊎ Has n behind → Has n (before ++ (more ++ behind))
    by (inl g) = has_left n before (more ++ behind) g
    by (inr g) = has_right n before (more ++ behind) (has_right n more behind g)

owned_changed : (old new : PageMap) (before behind : List TreeAt) (t u : TreeAt) → OwnAll old (before ++ t ∷ behind) → LosesNone old new t.owned u.owned → OwnAll new (before ++ u ∷ behind)
owned_changed old new before behind t u owns loses n used = subst (Has n) (sym (pages_append before (u ∷ behind))) (by (loses n used))
  where
    by : Has n u.owned ⊎ (IsSome (old n) × (Has n t.owned → ⊥)) → Has n (pages_of before ++ (u.owned ++ pages_of behind))
    by (inl own) = has_right n (pages_of before) (u.owned ++ pages_of behind) (has_left n u.owned (pages_of behind) own)
    by (inr was) = between n (pages_of before) u.owned (pages_of behind)
        (without n (pages_of before) t.owned (pages_of behind) was.1 (subst (Has n) (pages_append before (t ∷ behind)) (owns n was.0)))

pub owned_left : (old new : PageMap) (gone : List ℕ) (before behind : List TreeAt) → ((n : ℕ) → IsSome (old n) → Has n (pages_of before ++ (gone ++ pages_of behind))) → AreDropped old new gone → OwnAll new (before ++ behind)
owned_left old new gone before behind owns dropped n used = subst (Has n) (sym (pages_append before behind)) (by (has_or_not n gone))
  where
    by : Has n gone ⊎ (Has n gone → ⊥) → Has n (pages_of before ++ pages_of behind)
    by (inl g) = absurd (not_fresh new n used (dropped.gone n g))
    by (inr not) = without n (pages_of before) gone (pages_of behind) not (owns n (subst IsSome (dropped.others n not) used))

-- ---- one of several is changed, taken away, or put between

pub trees_changed : {alone : Bool} (old new : PageMap) (before behind : List TreeAt) (t u : TreeAt) → HoldsTrees alone old (before ++ t ∷ behind) → Lies new u → IsMoved old new t.owned u.owned → LosesNone old new t.owned u.owned → HoldsTrees alone new (before ++ u ∷ behind)
trees_changed old new before behind t u h lies moved loses = record {
  each = each_append (Lies new) before (u ∷ behind)
      (all_stay old new before (λ n i. moved.others n (λ own. outer.none n i (has_left n t.owned (pages_of behind) own)) (all_used old before first n i)) first)
      (lies, all_stay old new behind (λ n i. moved.others n (λ own. inner.none n own i) (all_used old behind rest.1 n i)) rest.1);
  apart = subst Apart (sym (pages_append before (u ∷ behind)))
      (apart_middle (λ n. old n ≡ None) (pages_of before) t.owned (pages_of behind) u.owned around (lies_apart new u lies) moved.own
      (λ n i none. not_fresh old n (all_used old (before ++ t ∷ behind) h.each n (subst (Has n) (sym (pages_append before (t ∷ behind))) i)) none));
  all = λ a. owned_changed old new before behind t u (h.all a) loses;
}
  where
    first : AllByRecursion (Lies old) before
    first = each_left (Lies old) before (t ∷ behind) h.each

    rest : AllByRecursion (Lies old) (t ∷ behind)
    rest = each_right (Lies old) before (t ∷ behind) h.each

    around : Apart (pages_of before ++ (t.owned ++ pages_of behind))
    around = subst Apart (pages_append before (t ∷ behind)) h.apart

    outer : Parted (pages_of before) (t.owned ++ pages_of behind)
    outer = apart_parts (pages_of before) (t.owned ++ pages_of behind) around

    inner : Parted t.owned (pages_of behind)
    inner = apart_parts t.owned (pages_of behind) outer.right

pub trees_dropped : {alone : Bool} (old new : PageMap) (before behind : List TreeAt) (t : TreeAt) → HoldsTrees alone old (before ++ t ∷ behind) → AreDropped old new t.owned → HoldsTrees alone new (before ++ behind)
trees_dropped old new before behind t h dropped = record {
  each = each_append (Lies new) before behind
      (all_stay old new before (λ n i. dropped.others n (λ own. outer.none n i (has_left n t.owned (pages_of behind) own))) (each_left (Lies old) before (t ∷ behind) h.each))
      (all_stay old new behind (λ n i. dropped.others n (λ own. inner.none n own i)) (each_right (Lies old) before (t ∷ behind) h.each).1);
  apart = subst Apart (sym (pages_append before behind)) (apart_join (pages_of before) (pages_of behind)
      (record { left = outer.left; right = inner.right; none = λ n i j. outer.none n i (has_right n t.owned (pages_of behind) j) }));
  all = λ a. owned_left old new t.owned before behind (λ n u. subst (Has n) (pages_append before (t ∷ behind)) (h.all a n u)) dropped;
}
  where
    outer : Parted (pages_of before) (t.owned ++ pages_of behind)
    outer = apart_parts (pages_of before) (t.owned ++ pages_of behind) (subst Apart (pages_append before (t ∷ behind)) h.apart)

    inner : Parted t.owned (pages_of behind)
    inner = apart_parts t.owned (pages_of behind) outer.right

-- a tree without pages
pub trees_put : {alone : Bool} (pages : PageMap) (before behind : List TreeAt) (t : TreeAt) → HoldsTrees alone pages (before ++ behind) → Lies pages t → t.owned ≡ [] → HoldsTrees alone pages (before ++ t ∷ behind)
trees_put pages before behind t h lies none = record {
  each = each_append (Lies pages) before (t ∷ behind) (each_left (Lies pages) before behind h.each) (lies, each_right (Lies pages) before behind h.each);
  apart = subst Apart (pages_append before behind ∙ ap (λ ns. pages_of before ++ (ns ++ pages_of behind)) (sym none) ∙ sym (pages_append before (t ∷ behind))) h.apart;
  all = λ a n u. subst (Has n) (pages_append before behind ∙ ap (λ ns. pages_of before ++ (ns ++ pages_of behind)) (sym none) ∙ sym (pages_append before (t ∷ behind))) (h.all a n u);
}

-- the first of them, with no tree before it
pub first_changed : {alone : Bool} (old new : PageMap) (behind : List TreeAt) (t u : TreeAt) → HoldsTrees alone old (t ∷ behind) → Lies new u → IsMoved old new t.owned u.owned → LosesNone old new t.owned u.owned → HoldsTrees alone new (u ∷ behind)
first_changed old new behind t u h lies moved loses = trees_changed old new [] behind t u h lies moved loses

-- ---- two changes, one after the other

pub moved_none : (old : PageMap) (owned : List ℕ) → IsMoved old old owned owned
moved_none old owned = record { own = λ n h. inl h; others = λ n h u. refl }

pub moved_on : (old mid new : PageMap) (owned between now : List ℕ) → IsMoved old mid owned between → IsMoved mid new between now → IsMoved old new owned now
moved_on old mid new owned between now w v = record {
  own = λ n h. own_by n (v.own n h);
  others = λ n h u. v.others n (λ m. not_ours n h u (w.own n m)) (subst IsSome (sym (w.others n h u)) u) ∙ w.others n h u;
}
  where
    own_by : (n : ℕ) → Has n between ⊎ (mid n ≡ None) → Has n owned ⊎ (old n ≡ None)
    own_by n (inl h) = w.own n h
    own_by n (inr e) = still_fresh old mid owned n w.others e

    not_ours : (n : ℕ) → (Has n owned → ⊥) → IsSome (old n) → Has n owned ⊎ (old n ≡ None) → ⊥
    not_ours n h u (inl m) = h m
    not_ours n h u (inr e) = not_fresh old n u e
