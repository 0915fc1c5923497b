-- What a change reaches of a store's limits is what it may tell.
use Rattle.std.proofs.Common.{inl, inr, List, length}
use Rattle.refusals.specs.declared.refusal.Refusal.{Refusal}
use Rattle.sqlval.specs.declared.schema.Schema.{Schema}
use Rattle.sqlval.specs.Value.{Row}
use Rattle.typing.specs.declared.statement.Change.{Change}
use Rattle.typing.specs.declared.statement.Change.TheVariants as change_of
use Rattle.typing.specs.declared.statement.Insert.{Insert}
use Rattle.denote.specs.Database.{CheckReading, Database, Name}
use Rattle.operator_laws.proofs.Orders.{length-permutes}
use Rattle.store.specs.declared.error.StoreLimit.{StoreLimit}
use Rattle.store.specs.Contents.{Contents}
use Rattle.transactions.specs.Refused.{TellsReached}
use Rattle.table_changes.specs.Given.{AreGiven}
use Rattle.change.specs.Given.{GivenReaches}
use Rattle.change.specs.Reached.{ChangeReaches}
use Rattle.sessions.specs.ToldLimits.{ChangeTells, RowsTell, StoresRows}
use Rattle.sessions.proofs.Limits.{tells_wider}

stores : (reading : CheckReading) (db : Database) (i : Insert) (rows : List Row) → AreGiven reading db i rows → StoresRows reading db i (length rows)
stores reading db i rows h = record { table = h.table; there = h.there; meant = h.meant; given = h.given; counted = length-permutes h.meant rows h.order }

module _ (counted : StoreLimit → Type 0) (sound : Type 0) (schema : Schema) (c : Contents) where
  tells : (change : Change) (which : StoreLimit) → ChangeReaches counted sound schema c change which → ChangeTells counted sound schema c change which
  tells (change_of.Insert insert) which (inl reached) = inl reached
  tells (change_of.Insert insert) which (inr past) =
      inr (
        past.0,
        record {
          count = length past.1.rows;
          stores = λ rules are is of good. stores rules.check _ insert past.1.rows (past.1.are_given rules.check are.checks is of good);
          past = past.1.past;
        },
      )
  tells (change_of.Update update) which (inl reached) = inl reached
  tells (change_of.Update update) which (inr past) = inr past
  tells _ which reached = reached

  pub change_tells : (change : Change) (r : Refusal) → TellsReached (ChangeReaches counted sound schema c change) r → TellsReached (ChangeTells counted sound schema c change) r
  change_tells change r h = tells_wider (ChangeReaches counted sound schema c change) (ChangeTells counted sound schema c change) (tells change) r h

  pub rows_tell : (name : Name) (rows : List Row) (r : Refusal) → TellsReached (GivenReaches counted sound schema c name rows) r → TellsReached (RowsTell counted sound schema c name rows) r
  rows_tell name rows r h =
      tells_wider (GivenReaches counted sound schema c name rows) (RowsTell counted sound schema c name rows)
      (λ which given. (given.0, given.1, tells (change_of.Insert given.0) which given.2)) r h
