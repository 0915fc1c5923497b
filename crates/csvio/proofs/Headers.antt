-- The fields of a record with what each is paired with.
use Rattle.std.proofs.Common.{◌≡◌, ◌≢◌, ◌⊎◌, inl, inr, ℕ, zero, suc, List, [], ◌∷◌, ◌++◌, take, true, false, Some, None, refl, ap, sym, subst}
use Rattle.std.specs.List.{list_all}
use Rattle.refusals.specs.declared.refusal.Refusal.{Refusal}
use Rattle.refusals.specs.declared.refusal.Refusal.TheVariants.{Invalid, Memory}
use Rattle.refusals.specs.declared.reason.Reason.TheVariants as reason
use Rattle.sqlval.specs.declared.schema.Column.{Column}
use Rattle.csvio.specs.Forms.{RefusesHeader, are_distinct, is_column}
use Rattle.csvio.specs.TableName.{IsNameIn}
use Rattle.sessions.proofs.Unread.{is_memory}
use Rattle.csv.specs.Records.{field_at}
use Rattle.csv_rows.specs.Paired.{ArePaired}

module _ {X : Type 0} (P : List ℕ → X → Type 0) where
  -- what the field at a place is paired with
  pub record IsPairedAt (fields : List (List ℕ)) (xs : List X) (n : ℕ) (field : List ℕ) : Type 0 where
    pub item : X
    pub is : P field item
    pub more : take (suc n) xs ≡ take n xs ++ item ∷ []

  pub paired_at : (fields : List (List ℕ)) (xs : List X) (n : ℕ) (field : List ℕ) → ArePaired P fields xs → field_at fields n ≡ Some field → IsPairedAt fields xs n field
  unfolding field_at
  paired_at [] xs n field are e = absurd (cc e)
  paired_at (f ∷ fields) [] n field are e = absurd are
  paired_at (f ∷ fields) (x ∷ xs) zero field are e = let same : f ≡ field = cc e in record { item = x; is = subst (λ (g : List ℕ). P g x) same are.0; more = refl }
  paired_at (f ∷ fields) (x ∷ xs) (suc n) field are e =
      let rest = paired_at fields xs n field are.1 e in
      record { item = rest.item; is = rest.is; more = ap (λ ys. x ∷ ys) rest.more }

  -- one more pair
  pub paired_more : (fields : List (List ℕ)) (xs : List X) (n : ℕ) (field : List ℕ) (x : X) → ArePaired P (take n fields) xs → field_at fields n ≡ Some field → P field x
      → ArePaired P (take (suc n) fields) (xs ++ x ∷ [])
  unfolding field_at
  paired_more [] xs n field x are e is = absurd (cc e)
  paired_more (f ∷ fields) [] zero field x are e is = let same : f ≡ field = cc e in (subst (λ (g : List ℕ). P g x) (sym same) is, tt)
  paired_more (f ∷ fields) (y ∷ xs) zero field x are e is = absurd are
  paired_more (f ∷ fields) [] (suc n) field x are e is = absurd are
  paired_more (f ∷ fields) (y ∷ xs) (suc n) field x are e is = (are.0, paired_more fields xs n field x are.1 e is)

  -- no field is left
  pub paired_whole : (fields : List (List ℕ)) (xs : List X) (n : ℕ) → ArePaired P (take n fields) xs → field_at fields n ≡ None → ArePaired P fields xs
  unfolding field_at
  paired_whole [] [] zero are e = are
  paired_whole [] [] (suc n) are e = are
  paired_whole [] (x ∷ xs) zero are e = are
  paired_whole [] (x ∷ xs) (suc n) are e = are
  paired_whole (f ∷ fields) xs zero are e = absurd (cc e)
  paired_whole (f ∷ fields) [] (suc n) are e = are
  paired_whole (f ∷ fields) (x ∷ xs) (suc n) are e = (are.0, paired_whole fields xs n are.1 e)

  pub taken_whole : (fields : List (List ℕ)) (xs : List X) (n : ℕ) → ArePaired P fields xs → field_at fields n ≡ None → take n xs ≡ xs
  unfolding field_at
  taken_whole [] [] zero are e = refl
  taken_whole [] [] (suc n) are e = refl
  taken_whole [] (x ∷ xs) n are e = absurd are
  taken_whole (f ∷ fields) xs zero are e = absurd (cc e)
  taken_whole (f ∷ fields) [] (suc n) are e = absurd are
  taken_whole (f ∷ fields) (x ∷ xs) (suc n) are e = ap (λ ys. x ∷ ys) (taken_whole fields xs n are.1 e)

-- ---- refusals of a header

-- a field is no name
pub refused_names : (columns : List Column) (fields : List (List ℕ)) (refusal : Refusal)
    → (refusal ≢ Memory → (refusal ≡ Invalid reason.Name) × ((names : List (List ℕ)) → ArePaired IsNameIn fields names → ⊥)) → RefusesHeader columns fields refusal
refused_names columns fields refusal h = by (is_memory refusal)
  where
    by : (refusal ≡ Memory) ⊎ (refusal ≢ Memory) → RefusesHeader columns fields refusal
    by (inl e) = RefusesHeader.wanting e
    by (inr ne) = let wrong = h ne in RefusesHeader.unnamed (λ names are. wrong.1 names are.are) wrong.0

-- a name is that of no column, or stands twice
pub unknown_names : (columns : List Column) (fields names : List (List ℕ)) (refusal : Refusal) → ArePaired IsNameIn fields names
    → ((others : List (List ℕ)) → ArePaired IsNameIn fields others → others ≡ names)
    → ((refusal ≡ Invalid reason.Name) × (list_all (is_column columns) names ≡ false)) ⊎ ((refusal ≡ Invalid reason.Duplicate) × (list_all (is_column columns) names ≡ true) × (are_distinct names ≡ false))
    → RefusesHeader columns fields refusal
unknown_names columns fields names refusal are only (inl h) =
    RefusesHeader.unnamed (λ others named.
    let same : list_all (is_column columns) others ≡ list_all (is_column columns) names = ap (list_all (is_column columns)) (only others named.are) in
    absurd (cc (same, named.known, h.1))) h.0
unknown_names columns fields names refusal are only (inr h) =
    RefusesHeader.twice names (record { are = are; known = h.1 }) h.2 h.0
