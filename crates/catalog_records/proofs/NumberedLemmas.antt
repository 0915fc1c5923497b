-- Records of the parts of a table, numbered on from a number, of which some were read.
use Rattle.std.proofs.Common.{◌≡◌, ℕ, suc, ◌+◌, ◌<◌, List, [], ◌∷◌, ◌++◌, map, length, get_or, drop, drop-cons, refl, sym, ap, ◌∙◌, arith, append_assoc}
use Rattle.std.specs.List.{AllByRecursion, enumerate_from}
use Rattle.std.proofs.lemmas.List.{append-nil, length-append}
use Rattle.sqlval.specs.declared.value.Value.{Value}
use Rattle.catalog_records.specs.declared.record.Record.{Record}
use Rattle.catalog_records.specs.Rows.{EndsAt}

-- of all parts those are read, and the rest is the records of the others and what is behind them
pub record RemainsFrom {A : Type 0} (f : ℕ × A → Record) (Good : A → Type 0) (all read : List A) (n : ℕ) (rest more : List Record) : Type 0 where
  pub later : List A
  pub whole : read ++ later ≡ all
  pub good : AllByRecursion Good later
  pub left : map f (enumerate_from n later) ++ more ≡ rest

pub numbered_all : {A : Type 0} (f : ℕ × A → Record) (Good : A → Type 0) (all : List A) (n : ℕ) (rest more : List Record)
    → AllByRecursion Good all → map f (enumerate_from n all) ++ more ≡ rest → RemainsFrom f Good all [] n rest more
numbered_all f Good all n rest more good left = record { later = all; whole = refl; good = good; left = left }

-- one more is to be read
pub numbered_one : {A : Type 0} (f : ℕ × A → Record) (Good : A → Type 0) (key : ℕ → List Value) (all read : List A) (n : ℕ) (rest more : List Record) (r : Record) (rs : List Record) (P : Type 0)
    → RemainsFrom f Good all read n rest more → rest ≡ r ∷ rs → r.key ≡ key n → EndsAt key more
    → ((y : A) (ys : List A) → Good y → AllByRecursion Good ys → f (n, y) ≡ r → map f (enumerate_from (n + 1) ys) ++ more ≡ rs → read ++ y ∷ ys ≡ all → P) → P
numbered_one f Good key all read n rest more r rs P known first own ends use_it = go known.later known.whole known.good known.left
  where
    go : (later : List _) → read ++ later ≡ all → AllByRecursion Good later → map f (enumerate_from n later) ++ more ≡ rest → P
    go [] whole good left = absurd (ends n r rs (left ∙ first) own)
    go (y ∷ ys) whole good left =
        let e : f (n, y) ∷ (map f (enumerate_from (n + 1) ys) ++ more) ≡ r ∷ rs = left ∙ first in
        use_it y ys good.0 good.1 (cc) (cc) whole

-- and was read
pub numbered_next : {A : Type 0} (f : ℕ × A → Record) (Good : A → Type 0) (key : ℕ → List Value) (all read : List A) (n : ℕ) (rest more : List Record) (r : Record) (rs : List Record) (x : A)
    → RemainsFrom f Good all read n rest more → rest ≡ r ∷ rs → r.key ≡ key n → EndsAt key more
    → ((y : A) → Good y → f (n, y) ≡ r → x ≡ y) → RemainsFrom f Good all (read ++ x ∷ []) (n + 1) rs more
numbered_next f Good key all read n rest more r rs x known first own ends only =
    numbered_one f Good key all read n rest more r rs _ known first own ends (λ y ys good others is left whole. record {
      later = ys;
      whole = append_assoc read (x ∷ []) ys ∙ (rw (sym (only y good is)) at whole);
      good = others;
      left = left;
    })

-- all are read where the next record is none of theirs
pub numbered_end : {A : Type 0} (f : ℕ × A → Record) (Good : A → Type 0) (key : ℕ → List Value) (all read : List A) (n : ℕ) (rest more : List Record)
    → ((m : ℕ) (y : A) → (f (m, y)).key ≡ key m) → RemainsFrom f Good all read n rest more → ((r : Record) (rs : List Record) → rest ≡ r ∷ rs → r.key ≡ key n → ⊥)
    → (read ≡ all) × (rest ≡ more)
numbered_end f Good key all read n rest more keys known none = go known.later known.whole known.left
  where
    go : (later : List _) → read ++ later ≡ all → map f (enumerate_from n later) ++ more ≡ rest → (read ≡ all) × (rest ≡ more)
    go [] whole left = (sym (append-nil read) ∙ whole, sym left)
    go (y ∷ ys) whole left = absurd (none (f (n, y)) (map f (enumerate_from (n + 1) ys) ++ more) (sym left) (keys n y))

-- ---- what is read has the records

pub numbered_push : {A : Type 0} (f : ℕ × A → Record) (n : ℕ) (read : List A) (x : A)
    → map f (enumerate_from n (read ++ x ∷ [])) ≡ map f (enumerate_from n read) ++ f (n + length read, x) ∷ []
numbered_push f n [] x = let same : n ≡ n + 0 = omega arith in ap (λ m. f (m, x) ∷ []) same
numbered_push f n (y ∷ read) x =
    let same : n + 1 + length read ≡ n + length (y ∷ read) = omega arith in
    ap (λ rs. f (n, y) ∷ rs) (numbered_push f (n + 1) read x ∙ ap (λ m. map f (enumerate_from (n + 1) read) ++ f (m, x) ∷ []) same)

pub numbered_more : {A : Type 0} (f : ℕ × A → Record) (n : ℕ) (read : List A) (rest records : List Record) (r : Record) (rs : List Record) (x : A) (i m : ℕ)
    → map f (enumerate_from n read) ++ rest ≡ records → length read ≡ i → m ≡ n + i → rest ≡ r ∷ rs → f (m, x) ≡ r → map f (enumerate_from n (read ++ x ∷ [])) ++ rs ≡ records
numbered_more f n read rest records r rs x i m e long at first is =
    rw (numbered_push f n read x, long, ← at, is) (append_assoc (map f (enumerate_from n read)) (r ∷ []) rs ∙ ap (λ xs. map f (enumerate_from n read) ++ xs) (sym first) ∙ e)

-- ---- records

-- a record of a loop is the first of what is left
pub first_left : {A : Type 0} (records : List A) (i : ℕ) (r : A) → i < length records → r ≡ get_or records i r → drop i records ≡ r ∷ drop (i + 1) records
first_left records i r below is =
    let one : i + 1 ≡ suc i = omega arith in
    rw one (drop-cons records i r below ∙ ap (λ x. x ∷ drop (suc i) records) (sym is))

pub record_is : (r : Record) (key row : List Value) → r.key ≡ key → row ≡ r.row → record { key = key; row = row } ≡ r
record_is r key row e f = rw (sym e, f) refl

-- one more is counted
pub count_more : {A : Type 0} (read : List A) (x : A) (i : ℕ) → length read ≡ i → length (read ++ x ∷ []) ≡ i + 1
count_more read x i long = simp length-append (omega (arith, long))

pub all_more : {A : Type 0} (P : A → Type 0) (read : List A) (x : A) → AllByRecursion P read → P x → AllByRecursion P (read ++ x ∷ [])
all_more P [] x h p = (p, tt)
all_more P (y ∷ read) x h p = (h.0, all_more P read x h.1 p)

-- a record that has not this key is not the first with it
pub other_key : (rest : List Record) (record_ : Record) (others : List Record) (values key : List Value) → rest ≡ record_ ∷ others → values ≡ record_.key → (values ≡ key → ⊥)
    → (r : Record) (rs : List Record) → rest ≡ r ∷ rs → r.key ≡ key → ⊥
other_key rest record_ others values key first own none r rs is same =
    let e : record_ ∷ others ≡ r ∷ rs = sym first ∙ is in
    let one : record_ ≡ r = cc in
    none (own ∙ ap (λ (x : Record). x.key) one ∙ same)
