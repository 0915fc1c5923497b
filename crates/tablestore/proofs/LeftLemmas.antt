-- Entries that are left to decode, one after another.
use Rattle.std.proofs.Common.{◌≡◌, ℕ, zero, suc, ◌+◌, ◌-◌, ◌<◌, ◌≤◌, List, [], ◌∷◌, ◌++◌, map, take, drop, length, refl, sym, ap, ◌∙◌, append_assoc, arith}
use Rattle.std.proofs.lemmas.List.{map-append, append-nil}
use Rattle.sqlval.specs.declared.schema.Column.{Column}
use Rattle.sqlval.specs.Value.{Row}
use Rattle.store.specs.Contents as stored
use Rattle.store.specs.declared.rows.Numbered.{Numbered}
use Rattle.store.specs.View.{AreEntries}
use Rattle.btree_read.specs.declared.entry.Entry.{Entry}
use Rattle.btree_read.specs.Nodes.{entry_of}
use Rattle.tablestore.specs.Held.{row_entry, entries_of, IsKept, AreKept, Fits, AreFitting, AreLeft}

-- all are left at first
pub all_left : (columns : List Column) (found : Numbered) (left : List Entry) (all : List stored.Entry) → found.numbers ≡ [] → found.rows ≡ []
    → AreKept all → AreFitting columns all → left ≡ entries_of all → AreLeft columns found left all
all_left columns found left all ns rs kept fits is =
    record { before = []; rest = all; are = refl; read = record { numbers = ns; rows = rs }; left = is; kept = kept; fits = fits }

none_behind : (before rest all : List stored.Entry) → before ++ rest ≡ all → [] ≡ entries_of rest → before ≡ all
none_behind before [] all are is = sym (append-nil before) ∙ are
none_behind before (r ∷ rest) all are is = absurd (cc)

-- none is left at last
pub none_left : (columns : List Column) (found : Numbered) (all : List stored.Entry) → AreLeft columns found [] all → AreEntries found all
none_left columns found all w =
    let e = none_behind w.before w.rest all w.are w.left in
    record {
      numbers = w.read.numbers ∙ ap (map (λ (e : stored.Entry). e.0)) e;
      rows = w.read.rows ∙ ap (map (λ (e : stored.Entry). e.1)) e;
    }

-- what is left behind the first
abbrev pub OneOn : List Column → Numbered → List Entry → List stored.Entry → stored.Entry → Type 0
OneOn columns found more all one = (now : Numbered) → now.numbers ≡ found.numbers ++ one.0 ∷ [] → now.rows ≡ found.rows ++ one.1 ∷ [] → AreLeft columns now more all

one_on : (columns : List Column) (found : Numbered) (more : List Entry) (all before rest : List stored.Entry) (one : stored.Entry) → before ++ one ∷ rest ≡ all → AreEntries found before
    → more ≡ entries_of rest → AreKept rest → AreFitting columns rest → OneOn columns found more all one
one_on columns found more all before rest one are read is kept fits now ns rs = record {
  before = before ++ one ∷ [];
  rest = rest;
  are = append_assoc before (one ∷ []) rest ∙ are;
  read = record {
    numbers = ns ∙ ap (λ (xs : List ℕ). xs ++ one.0 ∷ []) read.numbers ∙ sym (map-append (λ (e : stored.Entry). e.0) before (one ∷ []));
    rows = rs ∙ ap (λ (xs : List Row). xs ++ one.1 ∷ []) read.rows ∙ sym (map-append (λ (e : stored.Entry). e.1) before (one ∷ []));
  };
  left = is;
  kept = kept;
  fits = fits;
}

first_in : (columns : List Column) (found : Numbered) (e : Entry) (more : List Entry) (all before rest : List stored.Entry) (P : Type 0) → before ++ rest ≡ all → AreEntries found before
    → e ∷ more ≡ entries_of rest → AreKept rest → AreFitting columns rest
    → ((one : stored.Entry) → IsKept one → Fits columns one → e ≡ row_entry one → OneOn columns found more all one → P) → P
first_in columns found e more all before [] P are read is kept fits use_it = absurd (cc)
first_in columns found e more all before (r ∷ rest) P are read is kept fits use_it =
    let head : e ≡ row_entry r = cc in
    let tail : more ≡ entries_of rest = cc in
    use_it r kept.0 fits.0 head (one_on columns found more all before rest r are read tail kept.1 fits.1)

-- the first that is left
pub first_left : (columns : List Column) (found : Numbered) (e : Entry) (more : List Entry) (all : List stored.Entry) (P : Type 0) → AreLeft columns found (e ∷ more) all
    → ((one : stored.Entry) → IsKept one → Fits columns one → e ≡ row_entry one → OneOn columns found more all one → P) → P
first_left columns found e more all P w use_it = first_in columns found e more all w.before w.rest P w.are w.read w.left w.kept w.fits use_it

-- ---- as many as are wanted

-- what is passed over of cells with others behind them
pub drop_parts : (passed : ℕ) (cells : List (List ℕ)) (more : List Entry)
    → drop passed (map entry_of cells ++ more) ≡ map entry_of (drop passed cells) ++ drop (passed - length cells) more
drop_parts zero cells more = let none : 0 ≡ 0 - length cells = omega arith in ap (λ (n : ℕ). map entry_of cells ++ drop n more) none
drop_parts (suc passed) [] more = let all : suc passed ≡ suc passed - 0 = omega arith in ap (λ (n : ℕ). drop n more) all
drop_parts (suc passed) (cell ∷ cells) more =
    let less : passed - length cells ≡ suc passed - suc (length cells) = omega arith in
    drop_parts passed cells more ∙ ap (λ (n : ℕ). map entry_of (drop passed cells) ++ drop n more) less

pub one_taken : (found most : ℕ) (e : Entry) (rest : List Entry) → found < most → take (most - found) (e ∷ rest) ≡ e ∷ take (most - (found + 1)) rest
one_taken found most e rest h = let less : most - found ≡ suc (most - (found + 1)) = omega (arith, h) in ap (λ (n : ℕ). take n (e ∷ rest)) less

pub none_taken : (found most : ℕ) (xs ys : List Entry) → most ≤ found → take (most - found) xs ≡ take (most - found) ys
none_taken found most xs ys h =
    let none : most - found ≡ 0 = omega (arith, h) in
    ap (λ (n : ℕ). take n xs) none ∙ sym (ap (λ (n : ℕ). take n ys) none)

pub all_taken : (A : Type 0) (most : ℕ) (found : List A) (xs : List Entry) → found ≡ [] → take (most - length found) xs ≡ take most xs
all_taken A most found xs none =
    let all : most - 0 ≡ most = omega arith in
    ap (λ (rows : List A). take (most - length rows) xs) none ∙ ap (λ (n : ℕ). take n xs) all

pub nothing_taken : (n passed : ℕ) → take {A = Entry} n (drop passed []) ≡ []
nothing_taken zero passed = refl
nothing_taken (suc n) zero = refl
nothing_taken (suc n) (suc passed) = refl
