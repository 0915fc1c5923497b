-- Rows that are cut into batches.
use Rattle.std.proofs.Common.{◌≡◌, ◌≢◌, ◌≤◌, ◌+◌, ◌⊎◌, inl, inr, sym, ap, subst, ℕ, List, [], ◌∷◌, ◌++◌, length, append_assoc, append-nil, length-append, arith}
use Rattle.std.proofs.lemmas.Bool.{cases_eq}
use Rattle.sqlval.specs.Value.{Row}
use Rattle.csvio.specs.Batches.{AreBatches, rows_in}

rows_in-append : (xs ys : List (List Row)) → rows_in (xs ++ ys) ≡ rows_in xs + rows_in ys
rows_in-append [] ys = omega arith
rows_in-append (x ∷ xs) ys = let e = rows_in-append xs ys in omega (arith, e)

pub rows_in-more : (before : List (List Row)) (batch : List Row) → rows_in (before ++ batch ∷ []) ≡ rows_in before + length batch
rows_in-more before batch = let e = rows_in-append before (batch ∷ []) in omega (arith, e)

pub rows_in-within : (before rest : List (List Row)) (batch : List Row) → rows_in before + length batch ≤ rows_in (before ++ batch ∷ rest)
rows_in-within before rest batch = let e = rows_in-append before (batch ∷ rest) in omega (arith, e)

-- Whatever batches the rows have that are not cut yet, those of the last batch before them, these
-- come behind the batches that are full; and the last one has no more than it may.
pub record CutsFew (most : ℕ) (rows : List Row) (batches : List (List Row)) (batch rest : List Row) : Type 0 where
  pub few : length batch ≤ most
  pub behind : (others : List (List Row)) → AreBatches most (batch ++ rest) others → AreBatches most rows (batches ++ others)

pub cut_none : (most : ℕ) (rows : List Row) → CutsFew most rows [] [] rows
cut_none most rows = record { few = omega arith; behind = λ others are. are }

module _ (most : ℕ) (rows : List Row) (batches : List (List Row)) (batch : List Row) where
  cut_room : (row : Row) (rest : List Row) → length batch ≢ most → CutsFew most rows batches batch (row ∷ rest) → CutsFew most rows batches (batch ++ row ∷ []) rest
  cut_room row rest room cuts = record {
    few = let few = cuts.few in let n = length-append batch (row ∷ []) in omega (arith, few, room, n);
    behind = λ others are. cuts.behind others (subst (λ (xs : List Row). AreBatches most xs others) (append_assoc batch (row ∷ []) rest) are);
  }

  cut_full : (row : Row) (rest : List Row) → 1 ≤ most → length batch ≡ most → CutsFew most rows batches batch (row ∷ rest) → CutsFew most rows (batches ++ batch ∷ []) (row ∷ []) rest
  cut_full row rest some full cuts = record {
    few = some;
    behind = λ others are.
        let ne : row ∷ rest ≢ [] = λ e. absurd (cc) in
        subst (λ (xs : List (List Row)). AreBatches most rows xs) (sym (append_assoc batches (batch ∷ []) others))
        (cuts.behind (batch ∷ others) (AreBatches.more batch (row ∷ rest) others full ne are));
  }

  -- the batches and the last one of them, behind one row more
  abbrev pub IsPut : Row → List (List Row) → List Row → Type 0
  IsPut row batches_new batch_new = (length batch ≡ most → (batches_new ≡ batches ++ batch ∷ []) × (batch_new ≡ row ∷ []))
      × (length batch ≢ most → (batches_new ≡ batches) × (batch_new ≡ batch ++ row ∷ []))

  module _ (row : Row) (rest : List Row) (batches_new : List (List Row)) (batch_new : List Row) (put : IsPut row batches_new batch_new) where
    pub cut_more : 1 ≤ most → CutsFew most rows batches batch (row ∷ rest) → CutsFew most rows batches_new batch_new rest
    cut_more some cuts = by (cases_eq (length batch) most)
      where
        by : (length batch ≡ most) ⊎ (length batch ≢ most) → CutsFew most rows batches_new batch_new rest
        by (inl e) = rw (put.0 e).0 (rw (put.0 e).1 (cut_full row rest some e cuts))
        by (inr ne) = rw (put.1 ne).0 (rw (put.1 ne).1 (cut_room row rest ne cuts))

    pub count_more : rows_in batches_new + length batch_new ≡ rows_in batches + length batch + 1
    count_more = by (cases_eq (length batch) most)
      where
        by : (length batch ≡ most) ⊎ (length batch ≢ most) → rows_in batches_new + length batch_new ≡ rows_in batches + length batch + 1
        by (inl e) = let n = rows_in-more batches batch in let a = ap rows_in (put.0 e).0 in let b = ap length (put.0 e).1 in omega (arith, n, a, b)
        by (inr ne) = let n = length-append batch (row ∷ []) in let a = ap rows_in (put.1 ne).0 in let b = ap length (put.1 ne).1 in omega (arith, n, a, b)

  pub cut_all : CutsFew most rows batches batch [] → AreBatches most rows (batches ++ batch ∷ [])
  cut_all cuts = cuts.behind (batch ∷ []) (subst (λ (xs : List Row). AreBatches most xs (batch ∷ [])) (sym (append-nil batch)) (AreBatches.last batch cuts.few))
