-- What EXPLAIN answers over a database, and what it may be refused for (our own choice).
use Rattle.std.specs.Prelude.{◌≡◌, ℕ, List, Ok}
use Rattle.refusals.specs.declared.refusal.Refusal.{Refusal}
use Rattle.sqlval.specs.declared.schema.Schema.{Schema}
use Rattle.ast.specs.declared.statement.OrderedQuery.{OrderedQuery}
use Rattle.ast.specs.declared.statement.Statement.TheVariants as asks
use Rattle.typing.specs.declared.statement.Typed.TheVariants as does
use Rattle.typing.specs.declared.typed.OrderedQuery as typed
use Rattle.typing.specs.Statement.{answered_found}
use Rattle.algebra.specs.Described.{described_in}
use Rattle.algebra.specs.Translated.{tree_of_ordered}
use Rattle.denote.specs.Database.{Database}
use Rattle.denote.specs.SchemaOf.{IsSchemaOf}
use Rattle.query_answers.specs.Explanation.{ShowsPlan}
use Rattle.replies.specs.declared.reply.Reply.{Reply}
use Rattle.replies.specs.declared.reply.Reply.TheVariants as says
use Rattle.session_definitions.specs.Refusals.{IsReserved}
use Rattle.session_definitions.specs.Rules.{Rules, IsReason}

-- what holds of the lines of a reply
abbrev pub IfLines : Reply → (List (List ℕ) → Type 0) → Type 0
IfLines (says.Lines lines) P = P lines
IfLines _ P = Unit {0}

-- Over a schema of the database the EXPLAIN stands for that of a query, and the lines show a plan
-- of the query's tree.
pub record ShowsLines (db : Database) (x : OrderedQuery) (lines : List (List ℕ)) : Type 0 where
  pub schema : Schema
  pub of_database : IsSchemaOf schema db
  pub query : typed.OrderedQuery
  pub found : answered_found (asks.Explain x) schema ≡ Ok (does.Explain query)
  pub shows : ShowsPlan (tree_of_ordered (described_in schema) query) lines

-- a reason against it, or what may stand in place of any reply
pub data RefusesLines (rules : Rules) (db : Database) (x : OrderedQuery) (refusal : Refusal) : Type 0 where
  withheld : IsReserved refusal → RefusesLines rules db x refusal
  wrong : IsReason rules db (asks.Explain x) refusal → RefusesLines rules db x refusal
