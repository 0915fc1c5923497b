-- A limit that a change tells, from where it was counted back to where the call began.
use Rattle.std.proofs.Common.{◌≡◌, inl, inr, ℕ, Bool, true, false, not, List, Option, Some, Ok, refl, sym, ap, subst, ◌∙◌}
use Rattle.std.specs.Option.{option_map, is_some}
use Rattle.refusals.specs.declared.refusal.Refusal.{Refusal}
use Rattle.sqlval.specs.declared.schema.Schema.{Schema}
use Rattle.sqlval.specs.Value.{Row}
use Rattle.ast.specs.declared.statement.Statement.{Statement}
use Rattle.ast.specs.declared.statement.Statement.TheVariants as asks
use Rattle.typing.specs.declared.statement.Change.{Change}
use Rattle.typing.specs.declared.statement.Change.TheVariants as change_of
use Rattle.typing.specs.declared.statement.Typed.{Typed}
use Rattle.typing.specs.declared.statement.Typed.TheVariants as does
use Rattle.typing.specs.Statement.{answered_found}
use Rattle.denote.specs.Database.{Name}
use Rattle.denote.specs.SchemaOf.{IsSchemaOf}
use Rattle.store.specs.declared.error.StoreLimit.{StoreLimit}
use Rattle.store.specs.Contents.{Contents, database_of}
use Rattle.store.specs.Stored.{Found}
use Rattle.transactions.specs.Refused.{TellsReached}
use Rattle.sessions.specs.Kinds.{is_change, is_of_cursor}
use Rattle.sessions.specs.ToldLimits.{ChangeTells, GivenTell, RowsTell, StatementTells, TypedTells}
use Rattle.sessions.proofs.Limits.{tells_wider}

-- a change that was typed
pub tells_typed : (counted : StoreLimit → Type 0) (sound : Type 0) (schema : Schema) (c : Contents) (typed : Typed) (change : Change) → typed ≡ does.Change change → (r : Refusal)
    → TellsReached (ChangeTells counted sound schema c change) r → TellsReached (TypedTells counted sound schema c typed) r
tells_typed counted sound schema c typed change is r h =
    tells_wider (ChangeTells counted sound schema c change) (TypedTells counted sound schema c typed) (λ which tells. (change, is, tells)) r h

-- where the store was sound before it is sound later, and held the same
module _ (counted : StoreLimit → Type 0) (sound later : Type 0) (c d : Contents) (so : sound → later) (same : d ≡ c) where
  over_the_same : (schema : Schema) (change : Change) (which : StoreLimit) → ChangeTells counted later schema d change which → ChangeTells counted sound schema d change which
  over_the_same schema (change_of.Insert insert) which (inl reached) = inl reached
  over_the_same schema (change_of.Insert insert) which (inr past) =
      inr (past.0, record { count = past.1.count; stores = λ rules are is of good. past.1.stores rules are (so is) of good; past = past.1.past })
  over_the_same schema (change_of.Update update) which (inl reached) = inl reached
  over_the_same schema (change_of.Update update) which (inr past) = inr (past.0, λ is. past.1 (so is))
  over_the_same schema _ which reached = reached

  before : (schema : Schema) (change : Change) (which : StoreLimit) → ChangeTells counted later schema d change which → ChangeTells counted sound schema c change which
  before schema change which h = subst (λ (k : Contents). ChangeTells counted sound schema k change which) same (over_the_same schema change which h)

  -- what was typed over a schema that was made ready
  pub statement_tells : (schema lent : Schema) (x : Statement) (typed : Typed) → lent ≡ schema → (sound → IsSchemaOf schema (database_of c)) → answered_found x lent ≡ Ok typed
      → (r : Refusal) → TellsReached (TypedTells counted later schema d typed) r → TellsReached (StatementTells counted sound c x) r
  statement_tells schema lent x typed lent_is of found r h =
      tells_wider (TypedTells counted later schema d typed) (StatementTells counted sound c x)
      (λ which tells. record {
        schema = schema;
        of_database = of;
        change = tells.0;
        found = ap (λ (s : Schema). answered_found x s) (sym lent_is) ∙ found ∙ ap Ok tells.1;
        tells = before schema tells.0 which tells.2;
      })
      r h

  -- rows that are given over such a schema
  pub given_tell : (schema : Schema) (name : Name) (rows : List Row) → (sound → IsSchemaOf schema (database_of c))
      → (r : Refusal) → TellsReached (RowsTell counted later schema d name rows) r → TellsReached (GivenTell counted sound c name rows) r
  given_tell schema name rows of r h =
      tells_wider (RowsTell counted later schema d name rows) (GivenTell counted sound c name rows)
      (λ which tells. record { schema = schema; of_database = of; tells = (tells.0, tells.1, before schema (change_of.Insert tells.0) which tells.2) })
      r h

  schema_before : (schema : Schema) → (later → IsSchemaOf schema (database_of d)) → sound → IsSchemaOf schema (database_of c)
  schema_before schema of is = subst (λ (k : Contents). IsSchemaOf schema (database_of k)) same (of (so is))

  -- behind the beginning of a transaction
  pub statement_told_before : (x : Statement) (r : Refusal) → TellsReached (StatementTells counted later d x) r → TellsReached (StatementTells counted sound c x) r
  statement_told_before x r h =
      tells_wider (StatementTells counted later d x) (StatementTells counted sound c x)
      (λ which tells. record {
        schema = tells.schema;
        of_database = schema_before tells.schema tells.of_database;
        change = tells.change;
        found = tells.found;
        tells = before tells.schema tells.change which tells.tells;
      })
      r h

  pub given_told_before : (name : Name) (rows : List Row) (r : Refusal) → TellsReached (GivenTell counted later d name rows) r → TellsReached (GivenTell counted sound c name rows) r
  given_told_before name rows r h =
      tells_wider (GivenTell counted later d name rows) (GivenTell counted sound c name rows)
      (λ which tells. record {
        schema = tells.schema;
        of_database = schema_before tells.schema tells.of_database;
        tells = (tells.tells.0, tells.tells.1, before tells.schema (change_of.Insert tells.tells.0) which tells.tells.2);
      })
      r h

-- ---- statements that are no changes

pub is_no_change : (P : Type 0) (x other : Statement) → x ≡ other → is_change other ≡ false → is_change x ≡ true → P
is_no_change P x other is none changes = let bad : true ≡ false = sym changes ∙ ap is_change is ∙ none in absurd (cc)

pub cursor_call_is_none : (P : Type 0) (x : Statement) → is_of_cursor x ≡ true → is_change x ≡ true → P
cursor_call_is_none P (asks.DeclareCursor y) of changes = absurd (cc)
cursor_call_is_none P (asks.OpenCursor y) of changes = absurd (cc)
cursor_call_is_none P (asks.Fetch y) of changes = absurd (cc)
cursor_call_is_none P (asks.CloseCursor y) of changes = absurd (cc)
cursor_call_is_none P _ of changes = absurd (cc)

-- ---- what is taken back

-- a session that is in a transaction did not begin one
pub begun_before : (o : Option Found) (number : Option ℕ) (idle : Bool) → number ≡ option_map (λ (f : Found). f.number) o → is_some number ≡ not idle
    → (f : Found) → o ≡ Some f → idle ≡ false
begun_before o number false is some f e = refl
begun_before o number true is some f e =
    let there : is_some number ≡ true = ap is_some is ∙ ap (λ (x : Option Found). is_some (option_map (λ (f : Found). f.number) x)) e in
    let bad : true ≡ false = sym there ∙ some in absurd (cc)
