-- The rows of records, by the form of their text.
use Rattle.std.proofs.Common.{◌≡◌, List, ◌∷◌, ℕ, length, true, false, refl, subst}
use Rattle.refusals.specs.declared.refusal.Refusal.{Refusal}
use Rattle.sqlval.specs.declared.schema.Column.{Column}
use Rattle.sqlval.specs.Value.{Row}
use Rattle.csv_rows.specs.Written.{AreRowsBy}
use Rattle.csvio.specs.declared.form.Form.{Form}
use Rattle.csvio.specs.Forms.{AreFormed, NamesColumns, RefusesForm, RefusesRows, named_sources, placed_sources}

module _ (form : Form) (columns : List Column) (fields : List (List ℕ)) (others : List (List (List ℕ))) where
  -- the rows of a text without a header
  only_placed : form.header ≡ false → (records : List (List (List ℕ))) (rows : List Row) → records ≡ fields ∷ others → AreFormed form columns records rows
      → AreRowsBy (placed_sources form.plain columns (length fields)) (fields ∷ others) rows
  only_placed none records rows e AreFormed.none = absurd (cc e)
  only_placed none records rows e (AreFormed.named first rest names found header named distinct are) = absurd (cc (header, none))
  only_placed none records rows e (AreFormed.placed first rest found header are) =
      let same : first ≡ fields = cc e in let more : rest ≡ others = cc e in
      subst (λ (xs : List (List (List ℕ))). AreRowsBy (placed_sources form.plain columns (length fields)) (fields ∷ xs) rows) more
      (subst (λ (x : List (List ℕ)). AreRowsBy (placed_sources form.plain columns (length x)) (x ∷ rest) rows) same are)

  pub refuses_placed : form.header ≡ false → (refusal : Refusal) → RefusesRows (placed_sources form.plain columns (length fields)) (fields ∷ others) refusal
      → RefusesForm form columns (fields ∷ others) refusal
  refuses_placed none refusal (RefusesRows.wanting e) = RefusesForm.wanting e
  refuses_placed none refusal (RefusesRows.field none_are e) =
      RefusesForm.field (λ rows all formed. none_are rows all (only_placed none (fields ∷ others) rows refl formed)) e

  module _ (header : form.header ≡ true) (names : List (List ℕ)) (only : (other : List (List ℕ)) → NamesColumns columns fields other → other ≡ names) where
    only_named : (records : List (List (List ℕ))) (rows : List Row) → records ≡ fields ∷ others → AreFormed form columns records rows
        → AreRowsBy (named_sources form.plain names columns) others rows
    only_named records rows e AreFormed.none = absurd (cc e)
    only_named records rows e (AreFormed.named first rest found got is named distinct are) =
        let same : first ≡ fields = cc e in let more : rest ≡ others = cc e in
        let one : found ≡ names = only found (subst (λ (x : List (List ℕ)). NamesColumns columns x found) same named) in
        subst (λ (xs : List (List (List ℕ))). AreRowsBy (named_sources form.plain names columns) xs rows) more
        (subst (λ (x : List (List ℕ)). AreRowsBy (named_sources form.plain x columns) rest rows) one are)
    only_named records rows e (AreFormed.placed first rest got is are) = absurd (cc (is, header))

    pub refuses_named : (refusal : Refusal) → RefusesRows (named_sources form.plain names columns) others refusal → RefusesForm form columns (fields ∷ others) refusal
    refuses_named refusal (RefusesRows.wanting e) = RefusesForm.wanting e
    refuses_named refusal (RefusesRows.field none_are e) =
        RefusesForm.field (λ rows all formed. none_are rows all (only_named (fields ∷ others) rows refl formed)) e
