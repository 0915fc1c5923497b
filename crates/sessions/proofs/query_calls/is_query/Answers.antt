use Rattle.std.proofs.Common.{subst}
use Rattle.ast.specs.declared.statement.Statement.{Statement}
use Rattle.statement_definitions.specs.Reading.{IsRead}
use Rattle.sessions.proofs.query_calls.is_query.Goals as goal

pub returns-in-Ok : goal.returns-in-Ok
returns-in-Ok g c = λ yes.
    let found = c.asks_a_query-asks.ensures yes in
    (found.0, subst (λ (x : Statement). IsRead c.args.text.now x) found.1 c.in-Ok.ensures.read)
