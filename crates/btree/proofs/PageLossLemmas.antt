-- No page is lost: by one change of a tree, and by several.
use Rattle.std.proofs.Common.{◌≡◌, ℕ, List, ◌⊎◌, inl, inr, Result, Ok, Err, IfOk, Option, Some, None, IsSome, refl, sym, subst}
use Rattle.page_space.specs.Space.{PageMap}
use Rattle.btree_read.specs.declared.entry.Entry.{Entry}
use Rattle.btree_read.specs.Lists.{Has}
use Rattle.btree_read.specs.Nodes.{Key}
use Rattle.btree_read.specs.Sorted.{put}
use Rattle.btree_read.specs.Tree.{IsTree}
use Rattle.btree_read.proofs.NodeLemmas.{not_fresh}
use Rattle.btree.specs.Grow.{AreKept}
use Rattle.btree.specs.Written.{IsWritten, Inserts, InsertsAll, KeepsPages, put_all}
use Rattle.btree.proofs.GrowLemmas.{has_or_not}
use Rattle.btree.proofs.KeptLemmas.{one_owned}
use Rattle.btree.specs.Kept.{LosesNone, TreeLeft, LosesNoPage}

-- ---- lists of pages

pub loses_none : (pages : PageMap) (owned : List ℕ) → LosesNone pages pages owned owned
loses_none pages owned n used = by (has_or_not n owned)
  where
    by : Has n owned ⊎ (Has n owned → ⊥) → Has n owned ⊎ (IsSome (pages n) × (Has n owned → ⊥))
    by (inl has) = inl has
    by (inr not) = inr (used, not)

pub loses_on : (old mid new : PageMap) (a b c : List ℕ) → LosesNone old mid a b → LosesNone mid new b c → LosesNone old new a c
loses_on old mid new a b c first second n used = by (second n used)
  where
    before : (Has n b → ⊥) → Has n b ⊎ (IsSome (old n) × (Has n a → ⊥)) → Has n c ⊎ (IsSome (old n) × (Has n a → ⊥))
    before not (inl has) = absurd (not has)
    before not (inr was) = inr was

    by : Has n c ⊎ (IsSome (mid n) × (Has n b → ⊥)) → Has n c ⊎ (IsSome (old n) × (Has n a → ⊥))
    by (inl has) = inl has
    by (inr h) = before h.1 (first n h.0)

-- where all pages are kept, as by an insertion
pub loses_kept : (old new : PageMap) (owned now_owned : List ℕ) → AreKept old new owned now_owned → LosesNone old new owned now_owned
loses_kept old new owned now_owned k n used = by (has_or_not n now_owned)
  where
    by : Has n now_owned ⊎ (Has n now_owned → ⊥) → Has n now_owned ⊎ (IsSome (old n) × (Has n owned → ⊥))
    by (inl has) = inl has
    by (inr not) = inr (subst IsSome (k.rest n not) used, λ own. not (k.still n own))

-- where those that are owned no more are free, as by a removal
pub loses_left : (old new : PageMap) (owned now_owned : List ℕ) → ((n : ℕ) → Has n owned → (Has n now_owned → ⊥) → new n ≡ None) → ((n : ℕ) → (Has n owned → ⊥) → (Has n now_owned → ⊥) → new n ≡ old n)
    → LosesNone old new owned now_owned
loses_left old new owned now_owned gone others n used = by (has_or_not n now_owned) (has_or_not n owned)
  where
    by : Has n now_owned ⊎ (Has n now_owned → ⊥) → Has n owned ⊎ (Has n owned → ⊥) → Has n now_owned ⊎ (IsSome (old n) × (Has n owned → ⊥))
    by (inl has) own = inl has
    by (inr not) (inl own) = absurd (not_fresh new n used (gone n own not))
    by (inr not) (inr none) = inr (subst IsSome (others n none not) used, none)

-- ---- trees at roots

pub no_page_lost : (pages : PageMap) (root : ℕ) → LosesNoPage pages pages root root
no_page_lost pages root owned entries t = record { now_owned = owned; entries = entries; tree = t; loses = loses_none pages owned }

pub no_page_lost_on : (old mid new : PageMap) (root top now : ℕ) → LosesNoPage old mid root top → LosesNoPage mid new top now → LosesNoPage old new root now
no_page_lost_on old mid new root top now first second owned entries t =
    let m = first owned entries t in
    let w = second m.now_owned m.entries m.tree in
    record { now_owned = w.now_owned; entries = w.entries; tree = w.tree; loses = loses_on old mid new owned m.now_owned w.now_owned m.loses w.loses }

pub no_page_lost_on_by : {E : Type 0} (result : Result ℕ E) (old mid new : PageMap) (root top : ℕ) → LosesNoPage old mid root top → IfOk result (LosesNoPage mid new top) → IfOk result (LosesNoPage old new root)
no_page_lost_on_by (Err e) old mid new root top first second = tt
no_page_lost_on_by (Ok now) old mid new root top first second = no_page_lost_on old mid new root top now first second

pub no_page_lost_by : (old new : PageMap) (root now : ℕ) (f : List Entry → List Entry) → ((owned : List ℕ) (entries : List Entry) → IsTree old root owned entries → IsWritten old new owned (f entries) now)
    → KeepsPages old new root (Ok now) → LosesNoPage old new root now
no_page_lost_by old new root now f written keeps owned entries t =
    let w = written owned entries t in
    record { now_owned = w.now_owned; entries = f entries; tree = w.stored; loses = loses_kept old new owned w.now_owned (keeps owned entries t w.now_owned (f entries) w.stored) }

pub no_page_lost_by_insertion : (old new : PageMap) (root now : ℕ) (k : Key) (v : List ℕ) → Inserts old new root k v (Ok now) → KeepsPages old new root (Ok now) → LosesNoPage old new root now
no_page_lost_by_insertion old new root now k v inserts keeps = no_page_lost_by old new root now (put k v) inserts keeps

pub no_page_lost_by_insertions : (old mid new : PageMap) (root now : ℕ) (more : List Entry) → mid ≡ old → InsertsAll mid new root more (Ok now) → KeepsPages mid new root (Ok now) → LosesNoPage old new root now
no_page_lost_by_insertions old mid new root now more same inserts keeps =
    subst (λ (p : PageMap). LosesNoPage p new root now) same (no_page_lost_by mid new root now (put_all more) inserts keeps)

-- pages that are the same lose none
pub no_page_lost_same : (old new : PageMap) (root : ℕ) → new ≡ old → LosesNoPage old new root root
no_page_lost_same old new root same = subst (λ (p : PageMap). LosesNoPage old p root root) (sym same) (no_page_lost old root)

-- the same of pages before which nothing has changed
pub no_page_lost_behind : {E : Type 0} (result : Result ℕ E) (old mid new : PageMap) (root : ℕ) → mid ≡ old → IfOk result (LosesNoPage mid new root) → IfOk result (LosesNoPage old new root)
no_page_lost_behind result old mid new root same h = subst (λ (p : PageMap). IfOk result (LosesNoPage p new root)) same h

-- of the trees that are known to be there
pub loses_known : (old new : PageMap) (root now : ℕ) (owned now_owned : List ℕ) (entries after : List Entry) → LosesNoPage old new root now → IsTree old root owned entries → IsTree new now now_owned after → LosesNone old new owned now_owned
loses_known old new root now owned now_owned entries after loses t u =
    let w = loses owned entries t in
    subst (LosesNone old new owned) (one_owned new now w.now_owned now_owned w.entries after w.tree u) w.loses
