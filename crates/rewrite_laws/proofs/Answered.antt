-- What answers a tree's outcome answers that of a tree whose place it takes.
use Rattle.algebra.specs.OrderKeys.{order_keys, ordered_outcome}
use Rattle.algebra.specs.TreeOutcome.{tree_outcome}
use Rattle.algebra.specs.declared.tree.Tree.{Tree}
use Rattle.denote.specs.Answer.{directed, by_keys, Answers}
use Rattle.denote.specs.Bag.{goes_on, HasSame}
use Rattle.denote.specs.Meaning.{Tables}
use Rattle.denote.specs.declared.fault.Fault.{Fault}
use Rattle.operator_laws.proofs.Permuting.{Permutes-sym}
use Rattle.operator_laws.proofs.Same.{HasSame-some}
use Rattle.rules.specs.Same.{Fits, Keeps}
use Rattle.sqlval.specs.Value.{Row}
use Rattle.std.proofs.Common.{◌≡◌, refl, sym, subst, ◌∙◌, Bool, List, [], ◌∷◌, ◌++◌, Ok, true, false, Err, Result}
use Rattle.std.specs.Ordering.{is_lt, ordering_then}
use Rattle.std.specs.Prelude.{IsSorted}
use Rattle.std.specs.declared.cmp.Ordering.{Ordering}
use Rattle.std.specs.declared.cmp.Ordering.TheVariants.{Less, Equal, Greater}
use Rattle.typing.specs.declared.typed.OrderKey.{OrderKey}

further : (o : Ordering) (x y : Ordering) → (is_lt x ≡ true → is_lt y ≡ true) → is_lt (ordering_then o x) ≡ true
    → is_lt (ordering_then o y) ≡ true
further Less x y h e = refl
further Equal x y h e = h e
further Greater x y h e = e

-- what stands before another by some keys does so by more
before-still : (keys more : List OrderKey) (a b : Row) → is_lt (by_keys keys a b) ≡ true
    → is_lt (by_keys (keys ++ more) a b) ≡ true
before-still [] more a b e = absurd (cc (e))
before-still (key ∷ keys) more a b e = further (directed key.descending a b key) (by_keys keys a b)
    (by_keys (keys ++ more) a b) (before-still keys more a b) e

not-before : (x y : Bool) → (x ≡ true → y ≡ true) → y ≡ false → x ≡ false
not-before true y h e = absurd (let f = h refl in let bad : false ≡ true = sym e ∙ f in cc)
not-before false y h e = refl

pub fewer-keys : (keys more : List OrderKey) (rows : List Row) → IsSorted (by_keys (keys ++ more)) rows
    → IsSorted (by_keys keys) rows
fewer-keys keys more rows h = λ n x low high. not-before _ _ (before-still keys more _ _) (h n x low high)

no-faults : (fs gs : List Fault) → HasSame fs gs → fs ≡ [] → gs ≡ []
no-faults fs [] same e = refl
no-faults fs (g ∷ gs) same e = absurd (HasSame-some g gs (subst (λ (z : List Fault). HasSame z (g ∷ gs)) e same))

pub still-answers : (tables : Tables) (new old : Tree) (reply : Result (List Row) Fault) → Keeps new old
    → Fits tables old → Answers reply (ordered_outcome tables new) → Answers reply (ordered_outcome tables old)
still-answers tables new old (Ok rows) h fits a =
    let same = h.same tables fits [] in (
      no-faults (tree_outcome tables new []).faults (tree_outcome tables old []).faults same.faults a.0,
      goes_on (Permutes-sym (tree_outcome tables new []).rows (tree_outcome tables old []).rows same.rows) a.1,
      fewer-keys (order_keys old) h.keys.more rows
          (subst (λ (z : List OrderKey). IsSorted (by_keys z) rows) h.keys.is a.2),
    )
still-answers tables new old (Err fault) h fits a = ((h.same tables fits []).faults fault).0 a
