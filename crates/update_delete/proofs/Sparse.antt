-- Changes of the rows that pass a test are changes of all rows, where the others stay.
use Rattle.std.proofs.Common.{◌≡◌, ◌∙◌, refl, sym, ap, ℕ, ◌+◌, Bool, true, false, cond, List, [], ◌∷◌, ◌++◌, map, Ok, Err, arith}
use Rattle.std.specs.Prelude.{filter, count_by}
use Rattle.std.proofs.lemmas.List.Sums.{sum_by-cons}
use Rattle.sqlval.specs.Value.{Row}
use Rattle.denote.specs.Database.{Name}
use Rattle.denote.specs.Evaluation.{Evaluation, faults_in, joined, together}
use Rattle.operator_laws.specs.Same.{Every}
use Rattle.store.specs.Contents.{Entry, Contents, rows_of}
use Rattle.update_delete.specs.declared.change.RowChange.{RowChange}
use Rattle.update_delete.specs.declared.change.RowChange.TheVariants.{Stays}
use Rattle.update_delete.specs.Made.{made_one, all_made}
use Rattle.update_delete.specs.RowChanges.{is_change, spread_at, spread}

-- ---- what is made of a store

none_made : (name : Name) (numbers : List ℕ) (k : Contents) → all_made name numbers [] k ≡ k
none_made name [] k = refl
none_made name (number ∷ numbers) k = refl

-- the changes of the rows that pass make what those of all rows do
pub made-spread : (name : Name) (test : Row → Bool) (es : List Entry) (changes : List RowChange) (k : Contents)
    → all_made name (map (λ (e : Entry). e.0) (filter (λ (e : Entry). test e.1) es)) changes k ≡ all_made name (map (λ (e : Entry). e.0) es) (spread test (rows_of es) changes) k
made-spread name test [] changes k = refl
made-spread name test (e ∷ es) changes k = by (test e.1) changes (λ cs k. made-spread name test es cs k)
  where
    by : (b : Bool) (changes : List RowChange)
        → ((changes : List RowChange) (k : Contents) → all_made name (map (λ (e : Entry). e.0) (filter (λ (e : Entry). test e.1) es)) changes k
        ≡ all_made name (map (λ (e : Entry). e.0) es) (spread test (rows_of es) changes) k)
        → all_made name (map (λ (e : Entry). e.0) (cond b (e ∷ filter (λ (e : Entry). test e.1) es) (filter (λ (e : Entry). test e.1) es))) changes k
        ≡ all_made name (e.0 ∷ map (λ (e : Entry). e.0) es) (spread_at b (λ (others : List RowChange). spread test (rows_of es) others) changes) k
    by true [] rest = sym (none_made name (map (λ (e : Entry). e.0) (filter (λ (e : Entry). test e.1) es)) k) ∙ rest [] k
    by true (change ∷ changes) rest = rest changes (made_one name e.0 change k)
    by false changes rest = rest changes k

-- the rows that pass
pub rows-filtered : (test : Row → Bool) (es : List Entry) → rows_of (filter (λ (e : Entry). test e.1) es) ≡ filter test (rows_of es)
rows-filtered test [] = refl
rows-filtered test (e ∷ es) = by (test e.1) (rows-filtered test es)
  where
    by : (b : Bool) → rows_of (filter (λ (e : Entry). test e.1) es) ≡ filter test (rows_of es)
        → rows_of (cond b (e ∷ filter (λ (e : Entry). test e.1) es) (filter (λ (e : Entry). test e.1) es)) ≡ cond b (e.1 ∷ filter test (rows_of es)) (filter test (rows_of es))
    by true rest = ap (λ (rows : List Row). e.1 ∷ rows) rest
    by false rest = rest

-- every row passes
pub all-pass : (es : List Entry) → es ≡ filter (λ (e : Entry). true) es
all-pass [] = refl
all-pass (e ∷ es) = ap (λ (more : List Entry). e ∷ more) (all-pass es)

-- ---- how many, and what they are

pub count-spread : (test : Row → Bool) (rows : List Row) (changes : List RowChange) → count_by is_change (spread test rows changes) ≡ count_by is_change changes
count-spread test [] changes = refl
count-spread test (row ∷ rows) changes = by (test row) changes (λ cs. count-spread test rows cs)
  where
    stays : (cs : List RowChange) → count_by is_change (Stays ∷ cs) ≡ count_by is_change cs
    stays cs = sum_by-cons (λ (c : RowChange). cond (is_change c) 1 0) Stays cs ∙ zero-plus (count_by is_change cs)
      where
        zero-plus : (n : ℕ) → 0 + n ≡ n
        zero-plus n = omega arith

    by : (b : Bool) (changes : List RowChange) → ((changes : List RowChange) → count_by is_change (spread test rows changes) ≡ count_by is_change changes)
        → count_by is_change (spread_at b (λ (others : List RowChange). spread test rows others) changes) ≡ count_by is_change changes
    by true [] rest = stays (spread test rows []) ∙ rest []
    by true (change ∷ changes) rest =
        sum_by-cons (λ (c : RowChange). cond (is_change c) 1 0) change (spread test rows changes)
        ∙ ap (λ (n : ℕ). cond (is_change change) 1 0 + n) (rest changes)
        ∙ sym (sum_by-cons (λ (c : RowChange). cond (is_change c) 1 0) change changes)
    by false changes rest = stays (spread test rows changes) ∙ rest changes

pub every-spread : (P : RowChange → Type 0) (test : Row → Bool) (rows : List Row) (changes : List RowChange) → Every P (spread test rows changes) → Every P changes
every-spread P test [] changes h = h
every-spread P test (row ∷ rows) changes h = by (test row) changes h (λ cs. every-spread P test rows cs)
  where
    by : (b : Bool) (changes : List RowChange) → Every P (spread_at b (λ (others : List RowChange). spread test rows others) changes)
        → ((changes : List RowChange) → Every P (spread test rows changes) → Every P changes) → Every P changes
    by true [] h rest = tt
    by true (change ∷ changes) h rest = (h.0, rest changes h.1)
    by false changes h rest = rest changes h.1

-- ---- what evaluation gives

abbrev pub ok_map : (List RowChange → List RowChange) → Evaluation (List RowChange) → Evaluation (List RowChange)
ok_map f (Ok changes) = Ok (f changes)
ok_map f (Err faults) = Err faults

pub faults-kept : (f : List RowChange → List RowChange) (x : Evaluation (List RowChange)) → faults_in (ok_map f x) ≡ faults_in x
faults-kept f (Ok changes) = refl
faults-kept f (Err faults) = refl

module _ (f : Row → Evaluation RowChange) (test : Row → Bool) (others : (row : Row) → test row ≡ false → f row ≡ Ok Stays) where
  touched_too : (rows : List Row) (x : Evaluation RowChange) (xs : Evaluation (List RowChange))
      → joined x (ok_map (λ (cs : List RowChange). spread test rows cs) xs)
      ≡ ok_map (λ (cs : List RowChange). spread_at true (λ (others : List RowChange). spread test rows others) cs) (joined x xs)
  touched_too rows (Ok change) (Ok changes) = refl
  touched_too rows (Ok change) (Err faults) = refl
  touched_too rows (Err faults) xs = ap (λ more. Err (faults ++ more)) (faults-kept (λ (cs : List RowChange). spread test rows cs) xs)

  stays_too : (rows : List Row) (xs : Evaluation (List RowChange))
      → joined (Ok Stays) (ok_map (λ (cs : List RowChange). spread test rows cs) xs) ≡ ok_map (λ (cs : List RowChange). spread_at false (λ (others : List RowChange). spread test rows others) cs) xs
  stays_too rows (Ok changes) = refl
  stays_too rows (Err faults) = refl

  -- the rows that do not pass stay, and raise nothing
  pub together-spread : (rows : List Row) → together (map f rows) ≡ ok_map (λ (cs : List RowChange). spread test rows cs) (together (map f (filter test rows)))
  together-spread [] = refl
  together-spread (row ∷ rows) = by (test row) refl (together-spread rows)
    where
      by : (b : Bool) → test row ≡ b → together (map f rows) ≡ ok_map (λ (cs : List RowChange). spread test rows cs) (together (map f (filter test rows)))
          → joined (f row) (together (map f rows))
          ≡ ok_map (λ (cs : List RowChange). spread_at b (λ (others : List RowChange). spread test rows others) cs) (together (map f (cond b (row ∷ filter test rows) (filter test rows))))
      by true is rest = ap (joined (f row)) rest ∙ touched_too rows (f row) (together (map f (filter test rows)))
      by false is rest = (λ i. joined (others row is i) (rest i)) ∙ stays_too rows (together (map f (filter test rows)))
