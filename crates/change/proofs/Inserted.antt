-- The INSERT of rows that are given.
use Rattle.std.proofs.Common.{◌≡◌, ◌⊎◌, inl, inr, ◌∙◌, sym, ap, subst, ℕ, List, [], Ok, Err, Result}
use Rattle.refusals.specs.declared.reason.Reason.{Reason}
use Rattle.refusals.specs.declared.refusal.Refusal.{Refusal}
use Rattle.refusals.specs.declared.refusal.Refusal.TheVariants.{Disk, Invalid, Memory}
use Rattle.sqlval.specs.declared.schema.Schema.{Schema}
use Rattle.sqlval.specs.Value.{Row}
use Rattle.typing.specs.declared.statement.Change.TheVariants as does
use Rattle.typing.specs.declared.statement.Insert.{Insert}
use Rattle.typing.specs.declared.statement.InsertSource.TheVariants as from
use Rattle.typing.specs.Finding.{reasons_in}
use Rattle.typing.specs.Finds.{IsReasonOf}
use Rattle.denote.specs.Database.{Name}
use Rattle.table_changes.specs.Given.{into}
use Rattle.change.specs.Listed.{typed_rows}
use Rattle.store.specs.declared.error.StoreLimit.{StoreLimit}
use Rattle.store.specs.Contents.{Contents}
use Rattle.constraints.proofs.Limits.{tells_wider}
use Rattle.transactions.specs.Refused.{TellsReached, TellsNoLimit}
use Rattle.change.specs.Given.{GivenReaches, given_found}
use Rattle.change.specs.Reached.{ChangeReaches}

-- want of memory, and what is wrong with rows, are no refusal of the device, and no limit
pub no_device : (r : Refusal) → (r ≡ Memory) ⊎ ((why : Reason) × (r ≡ Invalid why)) → r ≡ Disk → ⊥
no_device r (inl e) is = absurd (cc (sym e ∙ is))
no_device r (inr h) is = absurd (cc (sym h.1 ∙ is))

pub no_limit : (Q : StoreLimit → Type 0) (r : Refusal) → (r ≡ Memory) ⊎ ((why : Reason) × (r ≡ Invalid why)) → TellsReached Q r
no_limit Q r (inl e) = subst (TellsReached Q) (sym e) tt
no_limit Q r (inr h) = subst (TellsReached Q) (sym h.1) tt

module _ (counted : StoreLimit → Type 0) (sound : Type 0) (schema : Schema) (c : Contents) (name : Name) (rows : List Row) (insert : Insert) (found : given_found schema name rows ≡ Ok insert) where
  -- what the INSERT that was found reaches
  pub given_reaches : (r : Refusal) → TellsReached (ChangeReaches counted sound schema c (does.Insert insert)) r → TellsReached (GivenReaches counted sound schema c name rows) r
  given_reaches r h =
      tells_wider (ChangeReaches counted sound schema c (does.Insert insert)) (GivenReaches counted sound schema c name rows)
      (λ reached. (insert, found, reached)) (λ reached. (insert, found, reached)) (λ reached. (insert, found, reached)) r h

-- what is found of rows that were lent is found of them
module _ (schema lent : Schema) (name : Name) (rows slice : List Row) (of : lent ≡ schema) (is : slice ≡ rows) where
  pub found_as : (columns : List ℕ) → given_found lent name slice ≡ Ok (into name columns (from.Values (typed_rows slice)))
      → given_found schema name rows ≡ Ok (into name columns (from.Values (typed_rows rows)))
  found_as columns e =
      subst (λ (s : Schema). given_found s name rows ≡ Ok (into name columns (from.Values (typed_rows rows)))) of
      (subst (λ (found : List Row). given_found lent name found ≡ Ok (into name columns (from.Values (typed_rows found)))) is e)

  pub wrong_as : (r : Refusal) → IsReasonOf (reasons_in (given_found lent name slice)) r → IsReasonOf (reasons_in (given_found schema name rows)) r
  wrong_as r h =
      subst (λ (s : Schema). IsReasonOf (reasons_in (given_found s name rows)) r) of
      (subst (λ (found : List Row). IsReasonOf (reasons_in (given_found lent name found)) r) is h)
