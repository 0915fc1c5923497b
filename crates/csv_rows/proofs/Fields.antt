-- The fields of a record one after another.
use Rattle.std.proofs.Common.{◌≡◌, ℕ, zero, suc, List, [], ◌∷◌, ◌++◌, take, map, Some, None, refl, ap}
use Rattle.csv.specs.Records.{field_at}
use Rattle.sqlval.specs.declared.value.Value.{Value}
use Rattle.sqlrecord.specs.Storable.{AllStorable, IsStorable}
use Rattle.replies.specs.Printed.{printed_value}

-- one more field
pub take-field : (fields : List (List ℕ)) (n : ℕ) (field : List ℕ) → field_at fields n ≡ Some field → take (suc n) fields ≡ take n fields ++ field ∷ []
unfolding field_at
take-field [] n field e = absurd (cc e)
take-field (f ∷ fields) zero field e = cc e
take-field (f ∷ fields) (suc n) field e = ap (λ rest. f ∷ rest) (take-field fields n field e)

-- no field is left
pub take-fields : (fields : List (List ℕ)) (n : ℕ) → field_at fields n ≡ None → take n fields ≡ fields
unfolding field_at
take-fields [] zero e = refl
take-fields [] (suc n) e = refl
take-fields (f ∷ fields) zero e = absurd (cc e)
take-fields (f ∷ fields) (suc n) e = ap (λ rest. f ∷ rest) (take-fields fields n e)

-- the value of a row that is printed as a field
pub record IsPrinted (row : List Value) (n : ℕ) (field : List ℕ) : Type 0 where
  pub value : Value
  pub storable : IsStorable value
  pub printed : printed_value value ≡ field
  pub more : take (suc n) row ≡ take n row ++ value ∷ []

pub printed_at : (row : List Value) (n : ℕ) (field : List ℕ) → AllStorable row → field_at (map printed_value row) n ≡ Some field → IsPrinted row n field
unfolding field_at
printed_at [] n field all e = absurd (cc e)
printed_at (value ∷ row) zero field all e = record { value = value; storable = all.0; printed = cc e; more = refl }
printed_at (value ∷ row) (suc n) field all e =
    let rest = printed_at row n field all.1 e in
    record { value = rest.value; storable = rest.storable; printed = rest.printed; more = ap (λ x. value ∷ x) rest.more }

-- a row has as many values as fields
pub take-row : (row : List Value) (n : ℕ) → field_at (map printed_value row) n ≡ None → take n row ≡ row
unfolding field_at
take-row [] zero e = refl
take-row [] (suc n) e = refl
take-row (value ∷ row) zero e = absurd (cc e)
take-row (value ∷ row) (suc n) e = ap (λ rest. value ∷ rest) (take-row row n e)
