use Rattle.std.proofs.Common.{None}
use Rattle.sessions.proofs.UnnamedFits.{Replaced, taking_held}
use Rattle.sessions.proofs.query_calls.take_rows.Goals as goal

pub returns-clause-leaves : goal.returns-clause-leaves
returns-clause-leaves g c = λ rules sound order holds.
    let st = g.S.Store.shows c.args.store.now in
    let first : Replaced c.args.slot.now.cursors c.exchange_unnamed-held.new.self None c.exchange_unnamed-held.result = record {
      puts = c.exchange_unnamed-held.ensures.puts;
      was = c.exchange_unnamed-held.ensures.was;
      named = c.exchange_unnamed-held.ensures.named;
    } in
    let second : Replaced c.exchange_unnamed-held.new.self c.exchange_unnamed-was.new.self c.taken-left.result.left c.exchange_unnamed-was.result = record {
      puts = c.exchange_unnamed-was.ensures.puts;
      was = c.exchange_unnamed-was.ensures.was;
      named = c.exchange_unnamed-was.ensures.named;
    } in
    rw c.let_go.ensures
    (taking_held rules st c.args.writer c.args.session order c.args.slot.now holds c.exchange_unnamed-held.new.self c.exchange_unnamed-held.result first c.args.count c.view_of.result c.view_of.ensures
    (g.S.Store.is_sound c.args.store.now) sound c.taken-left.result.left c.taken-left.result.reply c.taken-left.ensures.gives c.exchange_unnamed-was.new.self c.exchange_unnamed-was.result second
    (g.S.Store.shows c.taken-left.new.store) c.taken-left.ensures.shows)

pub returns-clause-device : goal.returns-clause-device
returns-clause-device g c = rw c.let_go.ensures c.taken-left.ensures.device

pub returns-clause-limits : goal.returns-clause-limits
returns-clause-limits g c = rw c.let_go.ensures c.taken-left.ensures.limits

pub returns-clause-told : goal.returns-clause-told
returns-clause-told g c = rw c.let_go.ensures c.taken-left.ensures.told

pub returns-clause-goes : goal.returns-clause-goes
returns-clause-goes g c = c.taken-left.ensures.goes
