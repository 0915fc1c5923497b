-- Changes of a tree, one after another.
use Rattle.std.proofs.Common.{◌≡◌, ℕ, Bool, true, false, List, [], ◌∷◌, ◌++◌, Option, Some, None, IsSome, ◌⊎◌, inl, inr, refl, sym, ap, ◌∙◌, eq-eqb}
use Rattle.std.specs.Bool.{◌==◌}
use Rattle.std.specs.List.{AllByRecursion}
use Rattle.std.proofs.lemmas.Bool.{eqb-true}
use Rattle.page_space.specs.Space.{PageMap}
use Rattle.btree_read.specs.declared.entry.Entry.{Entry}
use Rattle.btree_read.specs.Lists.{Has}
use Rattle.btree_read.specs.Nodes.{Key, precedes}
use Rattle.btree_read.specs.Sorted.{put}
use Rattle.btree_read.specs.Tree.{IsTree}
use Rattle.btree_read.proofs.NodeLemmas.{not_fresh}
use Rattle.btree.specs.Written.{IsWritten}

-- behind all that are less
pub put_past : (k : Key) (v : List ℕ) (es rest : List Entry) → AllByRecursion (λ e. precedes e.key k ≡ true) es → put k v (es ++ rest) ≡ es ++ put k v rest
put_past k v [] rest h = refl
put_past k v (e ∷ es) rest h = rw h.0 (ap (λ xs. e ∷ xs) (put_past k v es rest h.1))

has_or_not : (n : ℕ) (xs : List ℕ) → Has n xs ⊎ (Has n xs → ⊥)
has_or_not n [] = inr (λ h. h)
has_or_not n (x ∷ xs) = by (n == x) refl (has_or_not n xs)
  where
    by : (b : Bool) → b ≡ (n == x) → Has n xs ⊎ (Has n xs → ⊥) → Has n (x ∷ xs) ⊎ (Has n (x ∷ xs) → ⊥)
    by true e h = inl (inl (eqb-true n x (sym e)))
    by false e (inl h) = inl (inr h)
    by false e (inr h) = inr (λ s. elim s [ inl q ↦ (let t : (n == x) ≡ true = eq-eqb n x q in cc) | inr q ↦ h q ])

-- a tree of which nothing has changed
pub written_none : (pages : PageMap) (root : ℕ) (owned : List ℕ) (entries : List Entry) → IsTree pages root owned entries → IsWritten pages pages owned entries root
written_none pages root owned entries t = record { now_owned = owned; stored = t; own = λ n h. inl h; others = λ n h u. refl }

-- two changes of a tree, one after the other
pub written_on : (a b c : PageMap) (owned : List ℕ) (first second : List Entry) (root next : ℕ) (w : IsWritten a b owned first root) → IsWritten b c w.now_owned second next → IsWritten a c owned second next
written_on a b c owned first second root next w v = record {
  now_owned = v.now_owned;
  stored = v.stored;
  own = λ n h. own n (v.own n h);
  others = λ n h u. others n h u;
}
  where
    unused : (n : ℕ) → b n ≡ None → Has n owned ⊎ (a n ≡ None)
    unused n none = by (has_or_not n owned) (a n) refl
      where
        by : Has n owned ⊎ (Has n owned → ⊥) → (o : Option (List ℕ)) → o ≡ a n → Has n owned ⊎ (a n ≡ None)
        by (inl h) o e = inl h
        by (inr h) None e = inr (sym e)
        by (inr h) (Some bytes) e = absurd (let there : b n ≡ a n = w.others n h (some n bytes (sym e)) in let gone : None ≡ Some bytes = sym none ∙ there ∙ sym e in cc)
          where
            some : (n : ℕ) (bytes : List ℕ) → a n ≡ Some bytes → IsSome (a n)
            some n bytes e = rw e refl

    own : (n : ℕ) → Has n w.now_owned ⊎ (b n ≡ None) → Has n owned ⊎ (a n ≡ None)
    own n (inl h) = w.own n h
    own n (inr none) = unused n none

    others : (n : ℕ) → (Has n owned → ⊥) → IsSome (a n) → c n ≡ a n
    others n h u =
        let same : b n ≡ a n = w.others n h u in
        v.others n (λ has. foreign n h u (w.own n has)) (rw same u) ∙ same
      where
        foreign : (n : ℕ) → (Has n owned → ⊥) → IsSome (a n) → Has n owned ⊎ (a n ≡ None) → ⊥
        foreign n h u (inl has) = h has
        foreign n h u (inr none) = not_fresh a n u none
