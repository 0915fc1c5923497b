-- Transactions in series: where one more takes its place.
use Rattle.std.proofs.Common.{◌≡◌, ◌⊎◌, ℕ, zero, suc, ◌+◌, true, false, List, [], ◌∷◌, ◌++◌, length, Some, None, refl, sym, ap, ◌∙◌, inl, inr, arith}
use Rattle.std.specs.Prelude.{slice_get, Contains}
use Rattle.denote.specs.Bag.{Permutes}
use Rattle.denote.specs.Database.{Database}
use Rattle.session_definitions.specs.Rules.{Rules}
use Rattle.session_definitions.specs.Serial.{Committed, RunsAlone, IsWriter, InSeries}

pub permutes_itself : {A : Type 0} (xs : List A) → Permutes xs xs
permutes_itself [] = Permutes.nothing
permutes_itself (x ∷ xs) = Permutes.keeps x (permutes_itself xs)

-- the first element may stand last
pub to_the_end : {A : Type 0} (x : A) (xs : List A) → Permutes (x ∷ xs) (xs ++ x ∷ [])
to_the_end x [] = Permutes.keeps x Permutes.nothing
to_the_end x (y ∷ ys) = Permutes.goes_on (Permutes.exchanges x y ys) (Permutes.keeps y (to_the_end x ys))

-- the first database of a series stands first
begins_with : (rules : Rules) (n : ℕ) (db : Database) (cs : List Committed) (dbs : List Database) → InSeries rules n db cs dbs
    → slice_get dbs 0 ≡ Some db
begins_with rules n db [] dbs e = ap (λ ds. slice_get ds 0) e
begins_with rules n db (c ∷ cs) dbs (inl h) = begins_with rules n db cs dbs h.1
begins_with rules n db (c ∷ cs) dbs (inr (others, h, rest, e)) = ap (λ ds. slice_get ds 0) e

-- ---- one that wrote stands last

pub with_writer : (rules : Rules) (n : ℕ) (db : Database) (cs : List Committed) (dbs : List Database) (c : Committed) (k : ℕ)
    → InSeries rules n db cs dbs → c.wrote ≡ true → RunsAlone rules c → c.beginning ≡ n + k → k + 1 ≡ length dbs → slice_get dbs k ≡ Some c.found
    → InSeries rules n db (cs ++ c ∷ []) (dbs ++ c.made ∷ [])
with_writer rules n db [] dbs c zero series wrote runs place last at_last =
    let found : Some db ≡ Some c.found = sym (ap (λ ds. slice_get ds 0) series) ∙ at_last in
    inr (
      c.made ∷ [],
      record { writes = wrote; place = place ∙ (let e : n + 0 ≡ n = omega arith in e); finds = (cc); runs = runs },
      refl,
      ap (λ ds. ds ++ c.made ∷ []) series,
    )
with_writer rules n db [] dbs c (suc k) series wrote runs place last at_last =
    let e : length dbs ≡ 1 = ap length series in absurd (omega arith)
with_writer rules n db (d ∷ cs) dbs c k (inl h) wrote runs place last at_last =
    inl (h.0, with_writer rules n db cs dbs c k h.1 wrote runs place last at_last)
with_writer rules n db (d ∷ cs) dbs c zero (inr (others, h, rest, e)) wrote runs place last at_last =
    let f : length dbs ≡ suc (length others) = ap length e in
    let g : length others ≡ 0 = omega arith in
    absurd (not_empty others (begins_with rules (n + 1) d.made cs others rest) g)
  where
    not_empty : {A : Type 0} {x : A} (xs : List A) → slice_get xs 0 ≡ Some x → length xs ≡ 0 → ⊥
    not_empty [] is none = cc
    not_empty (y ∷ ys) is none = absurd (omega arith)
with_writer rules n db (d ∷ cs) dbs c (suc k) (inr (others, h, rest, e)) wrote runs place last at_last =
    let f : length dbs ≡ suc (length others) = ap length e in
    let shorter : k + 1 ≡ length others = omega arith in
    let later : c.beginning ≡ (n + 1) + k = omega arith in
    let there : slice_get others k ≡ Some c.found = sym (ap (λ ds. slice_get ds (suc k)) e) ∙ at_last in
    inr (
      others ++ c.made ∷ [],
      h,
      with_writer rules (n + 1) d.made cs others c k rest wrote runs later shorter there,
      ap (λ ds. ds ++ c.made ∷ []) e,
    )

-- ---- one that only read stands behind the commit at which it began

pub record Placed (rules : Rules) (n : ℕ) (db : Database) (cs : List Committed) (dbs : List Database) (c : Committed) : Type 0 where
  pub order : List Committed
  pub all : Permutes (c ∷ cs) order
  pub series : InSeries rules n db order dbs

pub with_reader : (rules : Rules) (n : ℕ) (db : Database) (cs : List Committed) (dbs : List Database) (c : Committed) (k : ℕ)
    → InSeries rules n db cs dbs → c.wrote ≡ false → c.made ≡ c.found → RunsAlone rules c → c.beginning ≡ n + k → slice_get dbs k ≡ Some c.found
    → Placed rules n db cs dbs c
with_reader rules n db cs dbs c zero series wrote kept runs place there =
    let found : Some db ≡ Some c.found = sym (begins_with rules n db cs dbs series) ∙ there in
    let same : c.found ≡ db = cc in
    record {
      order = c ∷ cs;
      all = permutes_itself (c ∷ cs);
      series = inl (record { only_reads = wrote; place = place ∙ (let e : n + 0 ≡ n = omega arith in e); finds = same; keeps = kept ∙ same; runs = runs }, series);
    }
with_reader rules n db [] dbs c (suc k) series wrote kept runs place there =
    let none : None ≡ Some c.found = sym (ap (λ ds. slice_get ds (suc k)) series) ∙ there in cc
with_reader rules n db (d ∷ cs) dbs c (suc k) (inl h) wrote kept runs place there =
    let rest : Placed rules n db cs dbs c = with_reader rules n db cs dbs c (suc k) h.1 wrote kept runs place there in
    record {
      order = d ∷ rest.order;
      all = Permutes.goes_on (Permutes.exchanges c d cs) (Permutes.keeps d rest.all);
      series = inl (h.0, rest.series);
    }
with_reader rules n db (d ∷ cs) dbs c (suc k) (inr (others, h, after, e)) wrote kept runs place there =
    let later : c.beginning ≡ (n + 1) + k = omega arith in
    let at_others : slice_get others k ≡ Some c.found = sym (ap (λ ds. slice_get ds (suc k)) e) ∙ there in
    let rest : Placed rules (n + 1) d.made cs others c = with_reader rules (n + 1) d.made cs others c k after wrote kept runs later at_others in
    record {
      order = d ∷ rest.order;
      all = Permutes.goes_on (Permutes.exchanges c d cs) (Permutes.keeps d rest.all);
      series = inr (others, h, rest.series, e);
    }

-- ---- each database is made from the one before

abbrev pub IsIn : {A : Type 0} → A → List A → Type 0
IsIn x [] = ⊥
IsIn x (y ∷ ys) = (x ≡ y) ⊎ IsIn x ys

pub in_permuted : {A : Type 0} {xs ys : List A} (x : A) → Permutes xs ys → IsIn x ys → IsIn x xs
in_permuted x Permutes.nothing h = h
in_permuted x (Permutes.keeps y p) (inl e) = inl e
in_permuted x (Permutes.keeps y p) (inr h) = inr (in_permuted x p h)
in_permuted x (Permutes.exchanges y z zs) (inl e) = inr (inl e)
in_permuted x (Permutes.exchanges y z zs) (inr (inl e)) = inl e
in_permuted x (Permutes.exchanges y z zs) (inr (inr h)) = inr (inr h)
in_permuted x (Permutes.goes_on p q) h = in_permuted x p (in_permuted x q h)

pub contains_from_in : {A : Type 0} (x : A) (xs : List A) → IsIn x xs → Contains xs x
contains_from_in x [] h = absurd h
contains_from_in x (y ∷ ys) (inl e) = (0, omega arith, sym e)
contains_from_in x (y ∷ ys) (inr h) = further (contains_from_in x ys h)
  where
    further : Contains ys x → Contains (y ∷ ys) x
    further (k, below, is) = (suc k, omega arith, is)

pub record MadeBy (rules : Rules) (n : ℕ) (cs : List Committed) (k : ℕ) (before next : Database) : Type 0 where
  pub by : Committed
  pub is_in : IsIn by cs
  pub writer : IsWriter rules (n + k) before by
  pub makes : by.made ≡ next

pub made_in_series : (rules : Rules) (n : ℕ) (db : Database) (cs : List Committed) (dbs : List Database) (k : ℕ) (before next : Database)
    → InSeries rules n db cs dbs → slice_get dbs k ≡ Some before → slice_get dbs (suc k) ≡ Some next → MadeBy rules n cs k before next
made_in_series rules n db [] dbs k before next series here there =
    let none : None ≡ Some next = sym (ap (λ ds. slice_get ds (suc k)) series) ∙ there in cc
made_in_series rules n db (c ∷ cs) dbs k before next (inl h) here there =
    let rest : MadeBy rules n cs k before next = made_in_series rules n db cs dbs k before next h.1 here there in
    record { by = rest.by; is_in = inr rest.is_in; writer = rest.writer; makes = rest.makes }
made_in_series rules n db (c ∷ cs) dbs zero before next (inr (others, h, rest, e)) here there =
    let found : Some db ≡ Some before = sym (ap (λ ds. slice_get ds 0) e) ∙ here in
    let same : db ≡ before = cc in
    let made : Some c.made ≡ Some next = sym (begins_with rules (n + 1) c.made cs others rest) ∙ (sym (ap (λ ds. slice_get ds 1) e) ∙ there) in
    record {
      by = c;
      is_in = inl refl;
      writer = record { writes = h.writes; place = h.place ∙ (let f : n ≡ n + 0 = omega arith in f); finds = h.finds ∙ same; runs = h.runs };
      makes = (cc);
    }
made_in_series rules n db (c ∷ cs) dbs (suc k) before next (inr (others, h, rest, e)) here there =
    let here_k : slice_get others k ≡ Some before = sym (ap (λ ds. slice_get ds (suc k)) e) ∙ here in
    let there_k : slice_get others (suc k) ≡ Some next = sym (ap (λ ds. slice_get ds (suc (suc k))) e) ∙ there in
    let deeper : MadeBy rules (n + 1) cs k before next = made_in_series rules (n + 1) c.made cs others k before next rest here_k there_k in
    record {
      by = deeper.by;
      is_in = inr deeper.is_in;
      writer = record {
        writes = deeper.writer.writes;
        place = deeper.writer.place ∙ (let f : (n + 1) + k ≡ n + suc k = omega arith in f);
        finds = deeper.writer.finds;
        runs = deeper.writer.runs;
      };
      makes = deeper.makes;
    }
