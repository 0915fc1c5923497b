-- Records that were decoded, one after another.
use Rattle.std.proofs.Common.{◌≡◌, List, [], ◌∷◌, ◌++◌, Result, sym, ap, ◌∙◌, append_assoc}
use Rattle.std.proofs.lemmas.List.{append-nil}
use Rattle.std.specs.Result.{IsErrAnd}
use Rattle.std.proofs.lemmas.Result.{err_from_is_err_and}
use Rattle.catalog_records.specs.declared.record.Record.{Record}
use Rattle.catalog_records.specs.declared.read_error.ReadError.{ReadError}
use Rattle.catalog_records.specs.declared.read_error.ReadError.TheVariants.{Memory}
use Rattle.btree_read.specs.declared.entry.Entry.{Entry}
use Rattle.catalog.specs.Held.{entry_of, entries_of, IsCoded, AreCoded}
use Rattle.catalog.specs.Decoded.{AreLeft, Leaves}

-- all are left at first
pub all_left : (read : List Record) (left : List Entry) (all : List Record) → read ≡ [] → AreCoded all → left ≡ entries_of all → AreLeft read left all
all_left read left all none coded is = record { rest = all; are = ap (λ (rs : List Record). rs ++ all) none; left = is; coded = coded }

none_behind : (read rest all : List Record) → read ++ rest ≡ all → [] ≡ entries_of rest → read ≡ all
none_behind read [] all are is = sym (append-nil read) ∙ are
none_behind read (r ∷ rest) all are is = absurd (cc)

-- none is left at last
pub none_left : (read all : List Record) → AreLeft read [] all → read ≡ all
none_left read all w = none_behind read w.rest all w.are w.left

abbrev pub OneOn : List Record → List Entry → List Record → Record → Type 0
OneOn read more all one = (now : List Record) → now ≡ read ++ one ∷ [] → AreLeft now more all

first_in : (read : List Record) (e : Entry) (more : List Entry) (all rest : List Record) (P : Type 0) → read ++ rest ≡ all → e ∷ more ≡ entries_of rest → AreCoded rest
    → ((one : Record) → IsCoded one → e ≡ entry_of one → OneOn read more all one → P) → P
first_in read e more all [] P are is coded use_it = absurd (cc)
first_in read e more all (r ∷ rest) P are is coded use_it =
    let head : e ≡ entry_of r = cc in
    let tail : more ≡ entries_of rest = cc in
    use_it r coded.0 head (λ now same. record { rest = rest; are = ap (λ (rs : List Record). rs ++ rest) same ∙ append_assoc read (r ∷ []) rest ∙ are; left = tail; coded = coded.1 })

-- the first that is left
pub first_left : (read : List Record) (e : Entry) (more : List Entry) (all : List Record) (P : Type 0) → AreLeft read (e ∷ more) all
    → ((one : Record) → IsCoded one → e ≡ entry_of one → OneOn read more all one → P) → P
first_left read e more all P w use_it = first_in read e more all w.rest P w.are w.left w.coded use_it

-- the exit of a `?`
pub refused : {A : Type 0} (r : Result A ReadError) (e : ReadError) (So : Type 0) → IsErrAnd r (λ y. y ≡ e) → e ≡ Memory → Leaves r So
refused r e So h m = let p = err_from_is_err_and r h in rw p.1 (p.2 ∙ m)
