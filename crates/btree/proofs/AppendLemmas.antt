-- Entries put into a tree one after another.
use Rattle.std.proofs.Common.{◌≡◌, ℕ, zero, suc, ◌+◌, ◌<◌, ◌≤◌, List, [], ◌∷◌, ◌++◌, length, take, drop, ◌⊎◌, inl, inr, refl, sym, ap, ◌∙◌, subst, Option, Some, None, IsSome, true, arith, add-one, append_assoc}
use Rattle.std.proofs.lemmas.List.{append-nil as append_nil}
use Rattle.std.proofs.Math.Seq.{take-add, take-nil, take-length}
use Rattle.std.specs.Prelude.{slice_index_or}
use Rattle.std.specs.List.{AllByRecursion}
use Rattle.page_space.specs.Space.{PageMap}
use Rattle.btree_read.specs.declared.entry.Entry.{Entry}
use Rattle.btree_read.specs.Lists.{Has}
use Rattle.btree_read.specs.Nodes.{Key, precedes, IsSmall}
use Rattle.btree_read.specs.Sorted.{put, Ascends}
use Rattle.btree_read.specs.Tree.{IsTree}
use Rattle.btree_read.proofs.AscendLemmas.{root_ascends}
use Rattle.btree_read.proofs.ListLemmas.{each_left, each_right, each_append}
use Rattle.btree_read.proofs.NodeLemmas.{not_fresh}
use Rattle.btree.specs.Overfull.{IsNoTreeIn}
use Rattle.btree.specs.Grow.{AreKept}
use Rattle.btree.specs.Written.{IsWritten, put_all}
use Rattle.btree.proofs.KeptLemmas.{one_owned, kept_none, kept_on}
use Rattle.btree.proofs.GrowLemmas.{has_or_not}
use Rattle.btree.proofs.RootLemmas.{still_fresh}

pub written_none : (pages : PageMap) (root : ℕ) (owned : List ℕ) (entries : List Entry) → IsTree pages root owned entries → IsWritten pages pages owned entries root
written_none pages root owned entries w = record { now_owned = owned; stored = w; own = λ n h. inl h; others = λ n h g. refl }

-- two changes one after another
pub written_on : (old mid new : PageMap) (owned : List ℕ) (first second : List Entry) (root now : ℕ) (w : IsWritten old mid owned first root) → IsWritten mid new w.now_owned second now
    → IsWritten old new owned second now
written_on old mid new owned first second root now w v = record {
  now_owned = v.now_owned;
  stored = v.stored;
  own = λ n h. own_by n (v.own n h);
  others = λ n h g. v.others n (λ m. not_ours n h g (w.own n m)) (subst IsSome (sym (w.others n h g)) g) ∙ w.others n h g;
}
  where
    own_by : (n : ℕ) → Has n w.now_owned ⊎ (mid n ≡ None) → Has n owned ⊎ (old n ≡ None)
    own_by n (inl h) = w.own n h
    own_by n (inr e) = still_fresh old mid owned n w.others e

    not_ours : (n : ℕ) → (Has n owned → ⊥) → IsSome (old n) → Has n owned ⊎ (old n ≡ None) → ⊥
    not_ours n h g (inl m) = h m
    not_ours n h g (inr e) = not_fresh old n g e

-- what holds after so many of them
abbrev pub StaysWritten : PageMap → PageMap → ℕ → List Entry → ℕ → ℕ → Type 0
StaysWritten old mid root more i top = (owned : List ℕ) (entries : List Entry) → IsTree old root owned entries → IsWritten old mid owned (put_all (take i more) entries) top

pub stays_begin : (pages : PageMap) (root : ℕ) (more : List Entry) → StaysWritten pages pages root more 0 root
stays_begin pages root more owned entries w = written_none pages root owned entries w

put_one_more : (i : ℕ) (more : List Entry) (d : Entry) (entries : List Entry) → i < length more
    → put_all (take (suc i) more) entries ≡ put (slice_index_or more i d).key (slice_index_or more i d).value (put_all (take i more) entries)
put_one_more i [] d entries l = absurd (omega arith)
put_one_more zero (e ∷ more) d entries l = refl
put_one_more (suc i) (e ∷ more) d entries l = put_one_more i more d (put e.key e.value entries) (omega arith)

pub stays_on : (old mid new : PageMap) (root i top now : ℕ) (more : List Entry) (d : Entry) (k : Key) (v : List ℕ) → i < length more → k ≡ (slice_index_or more i d).key → v ≡ (slice_index_or more i d).value
    → StaysWritten old mid root more i top
    → ((owned : List ℕ) (entries : List Entry) → IsTree mid top owned entries → IsWritten mid new owned (put k v entries) now)
    → StaysWritten old new root more (i + 1) now
stays_on old mid new root i top now more d k v l ek ev f g owned entries w =
    let x = f owned entries w in
    let y = written_on old mid new owned (put_all (take i more) entries) (put k v (put_all (take i more) entries)) top now x (g x.now_owned (put_all (take i more) entries) x.stored) in
    let e : put_all (take (i + 1) more) entries ≡ put k v (put_all (take i more) entries) =
    ap (λ n. put_all (take n more) entries) (add-one i) ∙ put_one_more i more d entries l ∙ ap (λ x. put x (slice_index_or more i d).value (put_all (take i more) entries)) (sym ek)
    ∙ ap (λ x. put k x (put_all (take i more) entries)) (sym ev) in
    subst (λ es. IsWritten old new owned es now) (sym e) y

pub stays_end : (old new : PageMap) (root i now : ℕ) (more : List Entry) → i ≡ length more → StaysWritten old new root more i now
    → (owned : List ℕ) (entries : List Entry) → IsTree old root owned entries → IsWritten old new owned (put_all more entries) now
stays_end old new root i now more e f owned entries w =
    subst (λ xs. IsWritten old new owned (put_all xs entries) now) (ap (λ n. take n more) e ∙ take-length more) (f owned entries w)

-- no page is lost on the way
abbrev pub StaysKept : PageMap → PageMap → ℕ → ℕ → Type 0
StaysKept old mid root top =
    (owned : List ℕ) (entries : List Entry) → IsTree old root owned entries → (now_owned : List ℕ) (after : List Entry) → IsTree mid top now_owned after → AreKept old mid owned now_owned

pub kept_begin : (pages : PageMap) (root : ℕ) → StaysKept pages pages root root
kept_begin pages root owned entries w now_owned after t = subst (AreKept pages pages owned) (one_owned pages root owned now_owned entries after w t) (kept_none pages owned)

pub kept_further : (old mid new : PageMap) (root i top now : ℕ) (more : List Entry) → StaysWritten old mid root more i top → StaysKept old mid root top → StaysKept mid new top now → StaysKept old new root now
kept_further old mid new root i top now more f h g owned entries w now_owned after t =
    let x = f owned entries w in
    kept_on old mid new owned x.now_owned now_owned (h owned entries w x.now_owned (put_all (take i more) entries) x.stored) (g x.now_owned (put_all (take i more) entries) x.stored now_owned after t)

pub small_at : (more : List Entry) (i : ℕ) (d : Entry) → i < length more → AllByRecursion IsSmall more → IsSmall (slice_index_or more i d)
small_at [] i d l h = absurd (omega arith)
small_at (e ∷ more) zero d l h = h.0
small_at (e ∷ more) (suc i) d l h = small_at more i d (omega arith) h.1

pub none_on_the_way : (old mid : PageMap) (root i top : ℕ) (more : List Entry) (W0 W1 : Type 0) → (W0 → W1) → StaysWritten old mid root more i top → IsNoTreeIn mid top W1 → IsNoTreeIn old root W0
none_on_the_way old mid root i top more W0 W1 g f h owned entries w wh = let x = f owned entries w in h x.now_owned (put_all (take i more) entries) x.stored (g wh)

-- ---- behind all that the tree has

put_last : (es : List Entry) (e : Entry) (more : List Entry) → Ascends (es ++ e ∷ more) → put e.key e.value es ≡ es ++ e ∷ []
put_last [] e more h = refl
put_last (x ∷ es) e more h =
    let before : precedes x.key e.key ≡ true = (each_right _ es (e ∷ more) h.0).0 in
    rw before (ap (λ ys. x ∷ ys) (put_last es e more h.1))

pub put_all_behind : (more es : List Entry) → Ascends (es ++ more) → put_all more es ≡ es ++ more
put_all_behind [] es h = sym (append_nil es)
put_all_behind (e ∷ more) es h =
    let joined : (es ++ e ∷ []) ++ more ≡ es ++ e ∷ more = append_assoc es (e ∷ []) more in
    ap (put_all more) (put_last es e more h) ∙ put_all_behind more (es ++ e ∷ []) (subst Ascends (sym joined) h) ∙ joined

pub appended : (old new : PageMap) (owned : List ℕ) (entries more : List Entry) (now : ℕ) → Ascends (entries ++ more) → IsWritten old new owned (put_all more entries) now → IsWritten old new owned (entries ++ more) now
appended old new owned entries more now h w = subst (λ es. IsWritten old new owned es now) (put_all_behind more entries h) w

put_all_parts : (xs ys es : List Entry) → put_all (xs ++ ys) es ≡ put_all ys (put_all xs es)
put_all_parts [] ys es = refl
put_all_parts (x ∷ xs) ys es = put_all_parts xs ys (put x.key x.value es)

-- a run that was put behind all that the tree had
pub stays_behind : (old mid new : PageMap) (root i n top : ℕ) (more run : List Entry) → run ≡ take n (drop i more) → StaysWritten old mid root more i top
    → ((owned : List ℕ) (held : List Entry) → IsTree mid top owned held → IsWritten mid new owned (held ++ run) top)
    → StaysWritten old new root more (i + n) top
stays_behind old mid new root i n top more run r f g owned entries w =
    let x = f owned entries w in
    let held : List Entry = put_all (take i more) entries in
    let y = g x.now_owned held x.stored in
    let ascends : Ascends (held ++ run) = root_ascends new top y.now_owned (held ++ run) y.stored in
    let all : put_all (take (i + n) more) entries ≡ held ++ run =
    ap (λ xs. put_all xs entries) (take-add i n more ∙ ap (λ xs. take i more ++ xs) (sym r)) ∙ put_all_parts (take i more) run entries ∙ put_all_behind run held ascends in
    subst (λ es. IsWritten old new owned es top) (sym all) (written_on old mid new owned held (held ++ run) top top x y)

-- one more, and behind it as many as were put in at once
pub stays_further : (old mid low new : PageMap) (root i n top now : ℕ) (more : List Entry) (d : Entry) (k : Key) (v : List ℕ) (rest : List Entry) → i < length more
    → k ≡ (slice_index_or more i d).key → v ≡ (slice_index_or more i d).value → rest ≡ drop (i + 1) more
    → StaysWritten old mid root more i top
    → ((owned : List ℕ) (entries : List Entry) → IsTree mid top owned entries → IsWritten mid low owned (put k v entries) now)
    → ((owned : List ℕ) (held : List Entry) → IsTree low now owned held → IsWritten low new owned (held ++ take n rest) now)
    → StaysWritten old new root more (i + 1 + n) now
stays_further old mid low new root i n top now more d k v rest l ek ev r f g h =
    stays_behind old low new root (i + 1) n now more (take n rest) (ap (take n) r) (stays_on old mid low root i top now more d k v l ek ev f g) h

pub kept_behind : (old mid low new : PageMap) (root i n top now : ℕ) (more : List Entry) (d : Entry) (k : Key) (v : List ℕ) → i < length more
    → k ≡ (slice_index_or more i d).key → v ≡ (slice_index_or more i d).value
    → StaysWritten old mid root more i top → StaysKept old mid root top
    → ((owned : List ℕ) (entries : List Entry) → IsTree mid top owned entries → IsWritten mid low owned (put k v entries) now)
    → StaysKept mid low top now → StaysKept low new now now → StaysKept old new root now
kept_behind old mid low new root i n top now more d k v l ek ev f h g m q =
    kept_further old low new root (i + 1) now now more (stays_on old mid low root i top now more d k v l ek ev f g) (kept_further old mid low root i top now more f h m) q
