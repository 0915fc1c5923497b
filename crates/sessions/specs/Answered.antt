-- What a query gives over a database, and what it may be refused for (ISO/IEC 9075:1992, 20.2).
use Rattle.std.specs.Prelude.{◌≡◌, List, Ok, Err}
use Rattle.refusals.specs.declared.refusal.Refusal.{Refusal}
use Rattle.ast.specs.declared.statement.OrderedQuery.{OrderedQuery}
use Rattle.ast.specs.declared.statement.Statement.TheVariants as asks
use Rattle.sqlval.specs.Value.{Row}
use Rattle.typing.specs.declared.statement.Typed.TheVariants as does
use Rattle.typing.specs.declared.typed.OrderedQuery as typed
use Rattle.denote.specs.declared.fault.Fault.{Fault}
use Rattle.denote.specs.Answer.{Answers}
use Rattle.denote.specs.Database.{Database}
use Rattle.denote.specs.Query.{denotes}
use Rattle.session_definitions.specs.Refusals.{IsReserved, refusal_of}
use Rattle.session_definitions.specs.Rules.{Rules, Means, IsReason}

-- the query stands for one that these rows answer
pub record GivesRows (rules : Rules) (db : Database) (x : OrderedQuery) (rows : List Row) : Type 0 where
  pub query : typed.OrderedQuery
  pub means : Means rules db (asks.Query x) (does.Query query)
  pub answers : Answers (Ok rows) (denotes db query)

-- a reason against it, a fault of it, or what may stand in place of any reply
pub data RefusesQuery (rules : Rules) (db : Database) (x : OrderedQuery) (refusal : Refusal) : Type 0 where
  withheld : IsReserved refusal → RefusesQuery rules db x refusal
  wrong : IsReason rules db (asks.Query x) refusal → RefusesQuery rules db x refusal
  raises : (query : typed.OrderedQuery) (fault : Fault) → Means rules db (asks.Query x) (does.Query query)
      → refusal ≡ refusal_of fault
      → Answers (Err fault) (denotes db query) → RefusesQuery rules db x refusal
