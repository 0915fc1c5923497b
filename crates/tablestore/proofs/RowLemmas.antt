-- Rows by their numbers, with one replaced and without one.
use Rattle.std.proofs.Common.{◌≡◌, ◌≢◌, ℕ, ◌+◌, ◌^◌, ◌<◌, ◌≤◌, Bool, true, false, List, [], ◌∷◌, ◌++◌, Option, Some, None, refl, sym, ap, ◌∙◌, subst, arith, inl, inr, ◌⊎◌}
use Rattle.std.specs.Prelude.{not, if◌then◌else◌, Result, Ok, Err, IfOk, OnOk, IfErr}
use Rattle.std.specs.Bool.{◌==◌}
use Rattle.std.specs.List.{AllByRecursion}
use Rattle.std.proofs.lemmas.Bool.{ltb-true, ltb-false, eqb-true, eq-eqb}
use Rattle.sqlval.specs.Value.{Row}
use Rattle.store.specs.Contents as stored
use Rattle.sqlrecord.specs.Key.{number_code}
use Rattle.sqlrecord.specs.Row.{row_code, IsCodeOf}
use Rattle.page_space.specs.Space.{PageMap, ReadRefused, ChangeRefused}
use Rattle.page_space.specs.declared.error.SpaceError.{SpaceError}
use Rattle.btree.proofs.RefusalLemmas.{change_refused, read_as_change}
use Rattle.tablestore.specs.declared.error.AppendError.{AppendError}
use Rattle.tablestore.specs.declared.error.AppendError.TheVariants.{Space, Record, Number}
use Rattle.btree_read.specs.declared.entry.Entry.{Entry}
use Rattle.btree_read.specs.Nodes.{Key, precedes}
use Rattle.btree_read.specs.Sorted.{Ascends, get_of, put}
use Rattle.btree_read.specs.Tree.{IsTree}
use Rattle.btree_read.proofs.ListLemmas.{each_right}
use Rattle.btree_read.proofs.OrderLemmas.{lt_trans, not_self}
use Rattle.btree.specs.Written.{IsWritten}
use Rattle.btree_remove.specs.Removed.{IsLess, IsRemoved}
use Rattle.btree.specs.Kept.{LosesNoPage}
use Rattle.btree_read.proofs.AscendLemmas.{root_ascends}
use Rattle.btree.proofs.PageLossLemmas.{loses_left}
use Rattle.tablestore.specs.Held.{row_entry, entries_of, IsKept, AreKept, HoldsRows}
use Rattle.tablestore.specs.Appended.{RowsWritten, MayRefuseRow}
use Rattle.tablestore.proofs.NumberLemmas.{number_order}
use Rattle.tablestore.specs.Rows.{without_number, with_number, RowsLeft}

-- ---- numbers

differ : (m n : ℕ) → (m ≡ n → ⊥) → (m == n) ≡ false
differ m n f = by (m == n) refl
  where
    by : (b : Bool) → b ≡ (m == n) → b ≡ false
    by true e = absurd (f (eqb-true m n (sym e)))
    by false e = refl

same : (m n : ℕ) → m ≡ n → (m == n) ≡ true
same m n e = eq-eqb m n e

below_number : (n : ℕ) (e : stored.Entry) → n < 2 ^ 64 → IsKept e → precedes (number_code e.0) (number_code n) ≡ true → e.0 < n
below_number n e h kept p = ltb-true e.0 n (sym (number_order e.0 n (omega (arith, kept.number)) h) ∙ p)

above_number : (n : ℕ) (e : stored.Entry) → n < 2 ^ 64 → IsKept e → precedes (number_code n) (number_code e.0) ≡ true → n < e.0
above_number n e h kept p = ltb-true n e.0 (sym (number_order n e.0 h (omega (arith, kept.number))) ∙ p)

no_less : (n : ℕ) (e : stored.Entry) → n < 2 ^ 64 → IsKept e → precedes (number_code e.0) (number_code n) ≡ false → n ≤ e.0
no_less n e h kept p = ltb-false e.0 n (sym (number_order e.0 n (omega (arith, kept.number)) h) ∙ p)

no_more : (n : ℕ) (e : stored.Entry) → n < 2 ^ 64 → IsKept e → precedes (number_code n) (number_code e.0) ≡ false → e.0 ≤ n
no_more n e h kept p = ltb-false n e.0 (sym (number_order n e.0 h (omega (arith, kept.number))) ∙ p)

-- ---- rows of other numbers

-- none of the rows has the number
abbrev Others : ℕ → List stored.Entry → Type 0
Others n rows = AllByRecursion (λ (e : stored.Entry). (e.0 == n) ≡ false) rows

others_stay : (n : ℕ) (rows : List stored.Entry) → Others n rows → without_number n rows ≡ rows
others_stay n [] h = refl
others_stay n (e ∷ rows) h = rw h.0 (ap (λ es. e ∷ es) (others_stay n rows h.1))

others_kept : (n : ℕ) (r : Row) (rows : List stored.Entry) → Others n rows → with_number n r rows ≡ rows
others_kept n r [] h = refl
others_kept n r (e ∷ rows) h = rw h.0 (ap (λ es. e ∷ es) (others_kept n r rows h.1))

above_all : (n : ℕ) (rows : List stored.Entry) → n < 2 ^ 64 → AreKept rows → AllByRecursion (λ x. precedes (number_code n) x.key ≡ true) (entries_of rows) → Others n rows
above_all n [] h kept p = tt
above_all n (e ∷ rows) h kept p =
    let l : n < e.0 = above_number n e h kept.0 p.0 in
    (differ e.0 n (λ q. omega (arith, l, q)), above_all n rows h kept.1 p.1)

above_more : (n m : Key) (es : List Entry) → precedes n m ≡ true → AllByRecursion (λ x. precedes m x.key ≡ true) es → AllByRecursion (λ x. precedes n x.key ≡ true) es
above_more n m [] p h = tt
above_more n m (e ∷ es) p h = (lt_trans n m e.key p h.0, above_more n m es p h.1)

-- ---- the row is not there

absent : (n : ℕ) (rows : List stored.Entry) → n < 2 ^ 64 → AreKept rows → Ascends (entries_of rows) → get_of (number_code n) (entries_of rows) ≡ None → Others n rows
absent n [] h kept asc none = tt
absent n (e ∷ rows) h kept asc none = by (precedes (number_code e.0) (number_code n)) refl (precedes (number_code n) (number_code e.0)) refl none (absent n rows h kept.1 asc.1)
  where
    by : (b : Bool) → precedes (number_code e.0) (number_code n) ≡ b → (c : Bool) → precedes (number_code n) (number_code e.0) ≡ c
        → (if b then get_of (number_code n) (entries_of rows) else if c then None else Some (row_code e.1)) ≡ None
        → (get_of (number_code n) (entries_of rows) ≡ None → Others n rows) → Others n (e ∷ rows)
    by true p c q none again = let l : e.0 < n = below_number n e h kept.0 p in (differ e.0 n (λ x. omega (arith, l, x)), again none)
    by false p true q none again =
        let l : n < e.0 = above_number n e h kept.0 q in
        (differ e.0 n (λ x. omega (arith, l, x)), above_all n rows h kept.1 (above_more (number_code n) (number_code e.0) (entries_of rows) q asc.0))
    by false p false q none again = absurd (let bad : Some (row_code e.1) ≡ None = none in cc)

-- ---- without the row

pub less_rows : (n : ℕ) (rows : List stored.Entry) (before after : List Entry) (v : List ℕ) → n < 2 ^ 64 → AreKept rows → Ascends (entries_of rows)
    → entries_of rows ≡ before ++ record { key = number_code n; value = v } ∷ after → before ++ after ≡ entries_of (without_number n rows)
less_rows n [] [] after v h kept asc is = cc
less_rows n [] (x ∷ before) after v h kept asc is = cc
less_rows n (e ∷ rows) [] after v h kept asc is =
    let first : row_entry e ≡ record { key = number_code n; value = v } = cc in
    let rest : entries_of rows ≡ after = cc in
    let key : number_code e.0 ≡ number_code n = ap (λ (x : Entry). x.key) first in
    let up : AllByRecursion (λ x. precedes (number_code n) x.key ≡ true) (entries_of rows) = subst (λ k. AllByRecursion (λ x. precedes k x.key ≡ true) (entries_of rows)) key asc.0 in
    let one : e.0 ≡ n = number_is e kept.0 key in
    sym rest ∙ ap entries_of (sym (others_stay n rows (above_all n rows h kept.1 up)) ∙ dropped one)
  where
    number_is : (x : stored.Entry) → IsKept x → number_code x.0 ≡ number_code n → x.0 ≡ n
    number_is x k key =
        let a : precedes (number_code x.0) (number_code n) ≡ false = ap (λ c. precedes c (number_code n)) key ∙ self (number_code n) in
        let b : precedes (number_code n) (number_code x.0) ≡ false = ap (precedes (number_code n)) key ∙ self (number_code n) in
        let low = no_less n x h k a in
        let high = no_more n x h k b in
        omega (arith, low, high)
      where
        self : (c : Key) → precedes c c ≡ false
        self c = not_self c

    dropped : e.0 ≡ n → without_number n rows ≡ without_number n (e ∷ rows)
    dropped q = rw (same e.0 n q) refl
less_rows n (e ∷ rows) (x ∷ before) after v h kept asc is =
    let first : row_entry e ≡ x = cc in
    let rest : entries_of rows ≡ before ++ record { key = number_code n; value = v } ∷ after = cc in
    let later = each_right (λ (y : Entry). precedes (number_code e.0) y.key ≡ true) before (record { key = number_code n; value = v } ∷ after)
    (subst (λ es. AllByRecursion (λ (y : Entry). precedes (number_code e.0) y.key ≡ true) es) rest asc.0) in
    let l : e.0 < n = below_number n e h kept.0 later.0 in
    let other : (e.0 == n) ≡ false = differ e.0 n (λ q. omega (arith, l, q)) in
    ap (λ y. y ∷ (before ++ after)) (sym first) ∙ ap (λ es. row_entry e ∷ es) (less_rows n rows before after v h kept.1 asc.1 rest) ∙ stays other
  where
    stays : (e.0 == n) ≡ false → entries_of (e ∷ without_number n rows) ≡ entries_of (without_number n (e ∷ rows))
    stays q = rw q refl

kept_without : (n : ℕ) (rows : List stored.Entry) → AreKept rows → AreKept (without_number n rows)
kept_without n [] h = tt
kept_without n (e ∷ rows) h = by (e.0 == n) (kept_without n rows h.1)
  where
    by : (b : Bool) → AreKept (without_number n rows) → AreKept (if not b then e ∷ without_number n rows else without_number n rows)
    by true k = k
    by false k = (h.0, k)

-- ---- with another row

record IsThere (n : ℕ) (r : Row) (rows : List stored.Entry) : Type 0 where
  pub is : put (number_code n) (row_code r) (entries_of rows) ≡ entries_of (with_number n r rows)
  pub number : n < 2 ^ 63

there : (n : ℕ) (r : Row) (rows : List stored.Entry) (v : List ℕ) → n < 2 ^ 64 → AreKept rows → Ascends (entries_of rows) → get_of (number_code n) (entries_of rows) ≡ Some v → IsThere n r rows
there n r [] v h kept asc some = absurd (let bad : None ≡ Some v = some in cc)
there n r (e ∷ rows) v h kept asc some = by (precedes (number_code e.0) (number_code n)) refl (precedes (number_code n) (number_code e.0)) refl some (there n r rows v h kept.1 asc.1)
  where
    by : (b : Bool) → precedes (number_code e.0) (number_code n) ≡ b → (c : Bool) → precedes (number_code n) (number_code e.0) ≡ c
        → (if b then get_of (number_code n) (entries_of rows) else if c then None else Some (row_code e.1)) ≡ Some v
        → (get_of (number_code n) (entries_of rows) ≡ Some v → IsThere n r rows) → IsThere n r (e ∷ rows)
    by true p c q some again =
        let l : e.0 < n = below_number n e h kept.0 p in
        let w = again some in
        record { is = rw (p, differ e.0 n (λ x. omega (arith, l, x))) (ap (λ es. row_entry e ∷ es) w.is); number = w.number }
    by false p true q some again = absurd (let bad : None ≡ Some v = some in cc)
    by false p false q some again =
        let low = no_less n e h kept.0 p in
        let high = no_more n e h kept.0 q in
        let one : e.0 ≡ n = omega (arith, low, high) in
        let key : number_code n ≡ number_code e.0 = ap number_code (sym one) in
        let up : AllByRecursion (λ x. precedes (number_code n) x.key ≡ true) (entries_of rows) = subst (λ k. AllByRecursion (λ x. precedes k x.key ≡ true) (entries_of rows)) (sym key) asc.0 in
        record {
          is = rw (p, q, same e.0 n one) (ap (λ es. row_entry (n, r) ∷ entries_of es) (sym (others_kept n r rows (above_all n rows h kept.1 up))));
          number = let k = kept.0.number in omega (arith, one, k);
        }

kept_with : (n : ℕ) (r : Row) (rows : List stored.Entry) → n < 2 ^ 63 → IsCodeOf (row_code r) r → AreKept rows → AreKept (with_number n r rows)
kept_with n r [] s c h = tt
kept_with n r (e ∷ rows) s c h = by (e.0 == n) (kept_with n r rows s c h.1)
  where
    by : (b : Bool) → AreKept (with_number n r rows) → AreKept ((if b then (n, r) else e) ∷ with_number n r rows)
    by true k = (record { number = s; storable = c.storable; short = c.short }, k)
    by false k = (h.0, k)

-- ---- the calls

pub deleted_none : (old new : PageMap) (root n : ℕ) (owned : List ℕ) (held : List stored.Entry) (key : Key) → n < 2 ^ 64 → HoldsRows old root owned held → key ≡ number_code n
    → (get_of key (entries_of held) ≡ None) × (new ≡ old) → RowsLeft old new owned (without_number n held) root
deleted_none old new root n owned held key h holds k w =
    let asc = root_ascends old root owned (entries_of held) holds.tree in
    let none : get_of (number_code n) (entries_of held) ≡ None = ap (λ x. get_of x (entries_of held)) (sym k) ∙ w.0 in
    let rows : held ≡ without_number n held = sym (others_stay n held (absent n held h holds.kept asc none)) in
    record {
      now_owned = owned;
      holds = subst (λ p. HoldsRows p root owned (without_number n held)) (sym w.1) (subst (HoldsRows old root owned) rows holds);
      own = λ m g. inl g;
      gone = λ m g f. absurd (f g);
      others = λ m g f. ap (λ p. p m) w.1;
    }

pub deleted_one : (old new : PageMap) (root n top : ℕ) (owned : List ℕ) (held : List stored.Entry) (key : Key) → n < 2 ^ 64 → HoldsRows old root owned held → key ≡ number_code n
    → IsRemoved old new owned (entries_of held) key top → RowsLeft old new owned (without_number n held) top
deleted_one old new root n top owned held key h holds k w =
    let asc = root_ascends old root owned (entries_of held) holds.tree in
    let parts : entries_of held ≡ w.less.before ++ record { key = number_code n; value = w.less.value } ∷ w.less.after =
    w.less.parts ∙ ap (λ (x : Key). w.less.before ++ record { key = x; value = w.less.value } ∷ w.less.after) k in
    let rows : w.now_entries ≡ entries_of (without_number n held) = w.less.left ∙ less_rows n held w.less.before w.less.after w.less.value h holds.kept asc parts in
    record {
      now_owned = w.now_owned;
      holds = record { tree = subst (IsTree new top w.now_owned) rows w.stored; kept = kept_without n held holds.kept };
      own = w.own;
      gone = w.gone;
      others = w.others;
    }

pub replaced_none : (old new : PageMap) (root n : ℕ) (owned : List ℕ) (held : List stored.Entry) (r : Row) (key : Key) (found : Option (List ℕ)) → n < 2 ^ 64 → HoldsRows old root owned held → key ≡ number_code n
    → found ≡ None → found ≡ get_of key (entries_of held) → new ≡ old → RowsWritten old new owned (with_number n r held) root
replaced_none old new root n owned held r key found h holds k f g e =
    let asc = root_ascends old root owned (entries_of held) holds.tree in
    let none : get_of (number_code n) (entries_of held) ≡ None = ap (λ x. get_of x (entries_of held)) (sym k) ∙ sym g ∙ f in
    let rows : held ≡ with_number n r held = sym (others_kept n r held (absent n held h holds.kept asc none)) in
    record {
      now_owned = owned;
      holds = subst (λ p. HoldsRows p root owned (with_number n r held)) (sym e) (subst (HoldsRows old root owned) rows holds);
      own = λ m x. inl x;
      others = λ m x u. ap (λ p. p m) e;
    }

pub replaced_one : (old mid new : PageMap) (root n top : ℕ) (owned : List ℕ) (held : List stored.Entry) (r : Row) (key : Key) (found : Option (List ℕ)) (v : List ℕ) → n < 2 ^ 64 → HoldsRows old root owned held
    → key ≡ number_code n → found ≡ Some v → found ≡ get_of key (entries_of held) → mid ≡ old → IsCodeOf (row_code r) r
    → ((entries : List Entry) → IsTree mid root owned entries → IsWritten mid new owned (put (number_code n) (row_code r) entries) top)
    → RowsWritten old new owned (with_number n r held) top
replaced_one old mid new root n top owned held r key found v h holds k f g e c put_in =
    let asc = root_ascends old root owned (entries_of held) holds.tree in
    let some : get_of (number_code n) (entries_of held) ≡ Some v = ap (λ x. get_of x (entries_of held)) (sym k) ∙ sym g ∙ f in
    let w = there n r held v h holds.kept asc some in
    let written : IsWritten old new owned (put (number_code n) (row_code r) (entries_of held)) top =
    subst (λ p. IsWritten p new owned (put (number_code n) (row_code r) (entries_of held)) top) e (put_in (entries_of held) (subst (λ p. IsTree p root owned (entries_of held)) (sym e) holds.tree)) in
    record {
      now_owned = written.now_owned;
      holds = record { tree = subst (IsTree new top written.now_owned) w.is written.stored; kept = kept_with n r held w.number c holds.kept };
      own = written.own;
      others = written.others;
    }

pub replaced_by : {E : Type 0} (result : Result ℕ E) (old mid new : PageMap) (root n : ℕ) (owned : List ℕ) (held : List stored.Entry) (r : Row) (key : Key) (found : Option (List ℕ)) (v : List ℕ) → n < 2 ^ 64
    → HoldsRows old root owned held → key ≡ number_code n → found ≡ Some v → found ≡ get_of key (entries_of held) → mid ≡ old → OnOk result (IsCodeOf (row_code r) r)
    → ((owned : List ℕ) (entries : List Entry) → IsTree mid root owned entries → IfOk result (IsWritten mid new owned (put (number_code n) (row_code r) entries)))
    → IfOk result (RowsWritten old new owned (with_number n r held))
replaced_by (Err e) old mid new root n owned held r key found v h holds k f g e1 c put_in = tt
replaced_by (Ok top) old mid new root n owned held r key found v h holds k f g e1 c put_in =
    replaced_one old mid new root n top owned held r key found v h holds k f g e1 c (λ entries t. put_in owned entries t)

-- ---- refusals

later : (AtLimit : SpaceError → Type 0) (H G : Type 0) (a b c : ℕ) (r : Row) (e : AppendError) → a ≤ b → (H → G) → MayRefuseRow AtLimit H b c r e → MayRefuseRow AtLimit G a c r e
later AtLimit H G a b c r (Space f) h g w = change_refused AtLimit H G a b c f h g w
later AtLimit H G a b c r Record h g w = w
later AtLimit H G a b c r Number h g w = w

pub put_refused : {A : Type 0} (result : Result A AppendError) (AtLimit : SpaceError → Type 0) (H G : Type 0) (a b c : ℕ) (r : Row) → a ≤ b → (H → G) → IfErr result (MayRefuseRow AtLimit H b c r)
    → IfErr result (MayRefuseRow AtLimit G a c r)
put_refused (Ok x) AtLimit H G a b c r h g w = tt
put_refused (Err e) AtLimit H G a b c r h g w = later AtLimit H G a b c r e h g w

pub read_refused : (AtLimit : SpaceError → Type 0) (H G : Type 0) (a b : ℕ) (f : SpaceError) → (H → G) → ReadRefused H a b f → ChangeRefused AtLimit G a b f
read_refused AtLimit H G a b f g w = read_as_change AtLimit H G a b f g w

pub no_page_lost_by_removal : (old new : PageMap) (k : Key) (root top : ℕ) → ((owned : List ℕ) (entries : List Entry) → IsTree old root owned entries → IsRemoved old new owned entries k top) → LosesNoPage old new root top
no_page_lost_by_removal old new k root top removes owned entries t =
    let w = removes owned entries t in record { now_owned = w.now_owned; entries = w.now_entries; tree = w.stored; loses = loses_left old new owned w.now_owned w.gone w.others }
