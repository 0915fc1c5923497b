-- The INSERT of rows that are given, as a statement by the rules under which it is one.
use Rattle.std.proofs.Common.{◌≡◌, ◌≢◌, ◌⊎◌, inl, inr, refl, sym, ap, subst, List, Ok, Err, Contains, arith}
use Rattle.refusals.specs.declared.refusal.Refusal.{Refusal}
use Rattle.refusals.specs.declared.refusal.Refusal.TheVariants.{Memory}
use Rattle.sqlval.specs.declared.schema.Schema.{Schema}
use Rattle.sqlval.specs.Value.{Row}
use Rattle.ast.specs.declared.statement.Statement.{Statement}
use Rattle.typing.specs.declared.statement.Change.TheVariants as change_of
use Rattle.typing.specs.declared.statement.Insert.{Insert}
use Rattle.typing.specs.declared.statement.Typed.TheVariants as does
use Rattle.typing.specs.Finding.{Finding, ◌>>=◌, reasons_in}
use Rattle.typing.specs.Finds.{IsReasonOf}
use Rattle.typing.specs.Statement.{changes}
use Rattle.denote.specs.Database.{Database, Name}
use Rattle.denote.specs.SchemaOf.{IsSchemaOf}
use Rattle.replies.specs.declared.reply.Reply.{Reply}
use Rattle.session_definitions.specs.InsertedRows.{inserting}
use Rattle.session_definitions.specs.Refusals.{IsReserved}
use Rattle.session_definitions.specs.Rules.{IsReason, Means, Rules}
use Rattle.store.specs.Contents.{database_of}
use Rattle.store.specs.Stored.{Stored}
use Rattle.change.specs.Given.{InsertsGiven, RefusesGiven, given_found}
use Rattle.sessions.specs.Changed.{MakesChange, RefusesStatement}
use Rattle.sessions.proofs.Unread.{is_memory}
use Rattle.sqlcore.proofs.ChangesMade.{has_changed, refuses_change}

-- a reason that is not want of memory is one of them
among : (reasons : List Refusal) (r : Refusal) → r ≢ Memory → IsReasonOf reasons r → Contains reasons r
among reasons Memory ne h = absurd (ne refl)
among reasons r ne h = h

module _ (rules : Rules) (schema : Schema) (name : Name) (rows : List Row) (x : Statement) where
  module _ (db : Database) (of : IsSchemaOf schema db) where
    means : (insert : Insert) → given_found schema name rows ≡ Ok insert → Means (inserting rules name rows) db x (does.Change (change_of.Insert insert))
    means insert found = record {
      schema = schema;
      of_database = of;
      found = ap (λ (f : Finding Insert). changes (f >>= (λ insert. Ok (change_of.Insert insert)))) found;
    }

    reason : (r : Refusal) (found : Finding Insert) → given_found schema name rows ≡ found → Contains (reasons_in found) r → IsReason (inserting rules name rows) db x r
    reason r (Ok insert) is one = absurd (let below = one.1 in omega (arith, below))
    reason r (Err reasons) is one = record {
      schema = schema;
      of_database = of;
      reasons = reasons;
      found = ap (λ (f : Finding Insert). changes (f >>= (λ insert. Ok (change_of.Insert insert)))) is;
      one = one;
    }

    wrong : (r : Refusal) → (r ≡ Memory) ⊎ (r ≢ Memory) → IsReasonOf (reasons_in (given_found schema name rows)) r → RefusesStatement (inserting rules name rows) db x r
    wrong r (inl e) h = RefusesStatement.withheld (subst IsReserved (sym e) tt)
    wrong r (inr ne) h = RefusesStatement.wrong (reason r (given_found schema name rows) refl (among (reasons_in (given_found schema name rows)) r ne h))

    pub refuses_given : (r : Refusal) → RefusesGiven rules.check schema db name rows r → RefusesStatement (inserting rules name rows) db x r
    refuses_given r (RefusesGiven.wrong h) = wrong r (is_memory r) h
    refuses_given r (RefusesGiven.refused insert found h) =
        RefusesStatement.refused (change_of.Insert insert) (means insert found) (refuses_change (inserting rules name rows) db (change_of.Insert insert) r h)

  pub inserts_given : (old : Stored) (reply : Reply) (new : Stored) → IsSchemaOf schema (database_of old.working)
      → InsertsGiven rules.check schema old name rows reply new → MakesChange (inserting rules name rows) old x reply new
  inserts_given old reply new of h = record {
    change = change_of.Insert h.insert;
    means = means (database_of old.working) of h.insert h.found;
    made = has_changed (inserting rules name rows) old (change_of.Insert h.insert) reply new h.accepted;
  }
