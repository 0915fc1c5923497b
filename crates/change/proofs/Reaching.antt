-- What an INSERT reaches of a store's limits.
use Rattle.std.proofs.Common.{◌≡◌, inl, inr, refl, subst, ◌+◌, ◌^◌, ◌<◌, List, length}
use Rattle.std.specs.FinMap.{get}
use Rattle.refusals.specs.declared.refusal.Refusal.{Refusal}
use Rattle.sqlval.specs.declared.schema.Schema.{Schema}
use Rattle.sqlval.specs.Value.{Row}
use Rattle.typing.specs.declared.statement.Change.TheVariants as does
use Rattle.typing.specs.declared.statement.Insert.{Insert}
use Rattle.store.specs.declared.error.StoreLimit.{StoreLimit}
use Rattle.store.specs.declared.error.StoreLimit.TheVariants as limit
use Rattle.store.specs.Contents.{Contents, next_number}
use Rattle.store.specs.Errors.{StoringReaches}
use Rattle.store.specs.Indexes.{entries_of}
use Rattle.transactions.specs.Refused.{TellsReached}
use Rattle.constraints.proofs.Limits.{tells_wider}
use Rattle.change.specs.Reached.{ChangeReaches, MayBeGiven}

module _ (counted : StoreLimit → Type 0) (sound : Type 0) (schema : Schema) (c d : Contents) (insert : Insert) (rows : List Row) (same : d ≡ c) (given : MayBeGiven sound schema c insert rows) where
  pages : StoringReaches counted (get d insert.table) rows limit.Pages → ChangeReaches counted sound schema c (does.Insert insert) limit.Pages
  pages (inl reached) = inl reached
  pages (inr past) = inr (refl, record { rows = rows; are_given = given; past = subst (λ (k : Contents). 2 ^ 63 < next_number (entries_of (get k insert.table)) + length rows) same past })

  -- as storing the rows does, which are given for it
  pub inserting_reaches : (r : Refusal) → TellsReached (StoringReaches counted (get d insert.table) rows) r → TellsReached (ChangeReaches counted sound schema c (does.Insert insert)) r
  inserting_reaches r h = tells_wider (StoringReaches counted (get d insert.table) rows) (ChangeReaches counted sound schema c (does.Insert insert)) (λ reached. pages reached) (λ reached. inl reached) (λ reached. inl reached) r h
