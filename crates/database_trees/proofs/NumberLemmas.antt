-- The row of a number.
use Rattle.std.proofs.Common.{◌≡◌, ℕ, zero, suc, ◌+◌, ◌^◌, ◌<◌, ◌≤◌, Bool, true, false, cond, List, [], ◌∷◌, Option, Some, None, Result, Ok, Err, IfOk, refl, sym, ap, subst, ◌∙◌, arith, nat_lt, IfSome}
use Rattle.std.specs.Prelude.{filter, slice_get, if◌then◌else◌}
use Rattle.std.specs.Bool.{◌==◌}
use Rattle.std.specs.Option.{option_map}
use Rattle.std.specs.List.{AllByRecursion}
use Rattle.std.proofs.lemmas.Bool.{ltb-true, ltb-false, eqb-true, eqb-false, eq-eqb}
use Rattle.store.specs.Contents.{Entry}
use Rattle.store.specs.Indexes.{is_after, entry_after}
use Rattle.sqlrecord.specs.Key.{number_code}
use Rattle.page_space.specs.Space.{PageMap}
use Rattle.btree_read.specs.declared.entry.Entry as tree
use Rattle.btree_read.specs.Nodes.{precedes}
use Rattle.btree_read.specs.Sorted.{Ascends}
use Rattle.btree_read.proofs.ListLemmas.{each_map}
use Rattle.btree_read.proofs.AscendLemmas.{root_ascends}
use Rattle.tablestore.specs.Held.{row_entry, entries_of, IsKept, AreKept, HoldsRows}
use Rattle.tablestore.proofs.NumberLemmas.{number_order}
use Rattle.database_trees.specs.Named.{row_numbered, one_before, if_numbered}

-- each number is less than those behind it
abbrev pub AreRising : List Entry → Type 0
AreRising [] = Unit {0}
AreRising (e ∷ rows) = AllByRecursion (λ (f : Entry). e.0 < f.0) rows × AreRising rows

each_greater : (e : Entry) (rows : List Entry) → IsKept e → AreKept rows → AllByRecursion (λ (x : tree.Entry). precedes (row_entry e).key x.key ≡ true) (entries_of rows) → AllByRecursion (λ (f : Entry). e.0 < f.0) rows
each_greater e [] kept all h = tt
each_greater e (f ∷ rows) kept all h =
    (ltb-true e.0 f.0 (sym (number_order e.0 f.0 (omega (arith, kept.number)) (omega (arith, all.0.number))) ∙ h.0), each_greater e rows kept all.1 h.1)

rising_by : (rows : List Entry) → AreKept rows → Ascends (entries_of rows) → AreRising rows
rising_by [] kept h = tt
rising_by (e ∷ rows) kept h = (each_greater e rows kept.0 kept.1 h.0, rising_by rows kept.1 h.1)

pub rising : (pages : PageMap) (root : ℕ) (owned : List ℕ) (rows : List Entry) → HoldsRows pages root owned rows → AreRising rows
rising pages root owned rows h = rising_by rows h.kept (root_ascends pages root owned (entries_of rows) h.tree)

not_same : (m n : ℕ) → (m ≡ n → ⊥) → (m == n) ≡ false
not_same m n f = by (m == n) refl
  where
    by : (b : Bool) → b ≡ (m == n) → b ≡ false
    by true e = absurd (f (eqb-true m n (sym e)))
    by false e = refl

not_there : (number : ℕ) (rows : List Entry) → AllByRecursion (λ (f : Entry). number < f.0) rows → row_numbered number rows ≡ None
not_there number [] h = refl
not_there number (f ∷ rows) h =
    let less = h.0 in
    ap (λ b. cond b (Some f) (row_numbered number rows)) (not_same f.0 number (λ e. omega (arith, less, e))) ∙ not_there number rows h.1

itself_after : (number : ℕ) → is_after (one_before number) number ≡ true
itself_after zero = refl
itself_after (suc m) = by (nat_lt m (suc m)) refl
  where
    by : (b : Bool) → nat_lt m (suc m) ≡ b → b ≡ true
    by true e = refl
    by false e = let l = ltb-false m (suc m) e in absurd (omega (arith, l))

greater : (number n : ℕ) → is_after (one_before number) n ≡ true → (n == number) ≡ false → number < n
greater zero n a b = let f = eqb-false n zero b in by n f
  where
    by : (n : ℕ) → (n ≡ 0 → ⊥) → 0 < n
    by zero f = absurd (f refl)
    by (suc n) f = omega arith
greater (suc m) n a b =
    let less = ltb-true m n a in
    let f = eqb-false n (suc m) b in
    by (nat_lt (suc m) n) refl less f
  where
    by : (c : Bool) → nat_lt (suc m) n ≡ c → m < n → (n ≡ suc m → ⊥) → suc m < n
    by true e less f = ltb-true (suc m) n e
    by false e less f = let l = ltb-false (suc m) n e in absurd (f (omega (arith, l, less)))

number_found : (number : ℕ) (rows : List Entry) → AreRising rows → if_numbered number (slice_get (filter (λ (e : Entry). is_after (one_before number) e.0) rows) 0) ≡ row_numbered number rows
number_found number [] h = refl
number_found number (x ∷ rows) h = by (is_after (one_before number) x.0) refl (x.0 == number) refl (number_found number rows h.1)
  where
    by : (p : Bool) → is_after (one_before number) x.0 ≡ p → (q : Bool) → (x.0 == number) ≡ q
        → if_numbered number (slice_get (filter (λ (e : Entry). is_after (one_before number) e.0) rows) 0) ≡ row_numbered number rows
        → if_numbered number (slice_get (if p then x ∷ filter (λ (e : Entry). is_after (one_before number) e.0) rows else filter (λ (e : Entry). is_after (one_before number) e.0) rows) 0) ≡ cond q (Some x) (row_numbered number rows)
    by true a true b again = ap (λ c. cond c (Some x) None) b
    by true a false b again =
        let less = greater number x.0 a b in
        ap (λ c. cond c (Some x) None) b ∙ sym (not_there number rows (each_map (λ (f : Entry). x.0 < f.0) (λ (f : Entry). number < f.0) rows (λ f g. omega (arith, g, less)) h.0))
    by false a true b again =
        let bad : true ≡ false = sym (itself_after number) ∙ ap (is_after (one_before number)) (sym (eqb-true x.0 number b)) ∙ a in absurd (cc)
    by false a false b again = again

pub row_is_found : (pages : PageMap) (root : ℕ) (owned : List ℕ) (rows : List Entry) (number : ℕ) (found : Option Entry) (asked : Option ℕ) → asked ≡ one_before number → HoldsRows pages root owned rows → found ≡ entry_after asked rows
    → if_numbered number found ≡ row_numbered number rows
row_is_found pages root owned rows number found asked e h is =
    ap (if_numbered number) (is ∙ ap (λ (o : Option ℕ). entry_after o rows) e) ∙ number_found number rows (rising pages root owned rows h)

-- what holds of what was found holds of what is left of it
pub some_among : {X : Type 0} (found left : Option X) (P : X → Type 0) → IfSome found P → IfSome left (λ x. found ≡ Some x) → IfSome left P
some_among found None P h is = tt
some_among found (Some x) P h is = subst (λ o. IfSome o P) is h
