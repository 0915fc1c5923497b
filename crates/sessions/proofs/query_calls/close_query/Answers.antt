use Rattle.std.proofs.Common.{None, sym, ◌∙◌, refl}
use Rattle.sessions.proofs.Exchanges.{is_held, not_there}
use Rattle.sessions.proofs.UnnamedFits.{Replaced, closing, closing_none}
use Rattle.sessions.proofs.query_calls.close_query.Goals as goal

pub returns-then-was_open-clause-leaves : goal.returns-then-was_open-clause-leaves
returns-then-was_open-clause-leaves c = λ rules st w s order holds.
    let first : Replaced c.args.slot.now.cursors c.exchange_unnamed-held.new.self None c.exchange_unnamed-held.result = record {
      puts = c.exchange_unnamed-held.ensures.puts;
      was = c.exchange_unnamed-held.ensures.was;
      named = c.exchange_unnamed-held.ensures.named;
    } in
    let found = is_held c.exchange_unnamed-held.result (sym c.was_open.ensures ∙ c.if-was_open.true) in
    closing rules st w s order c.args.slot.now holds c.exchange_unnamed-held.new.self c.exchange_unnamed-held.result first found.0 found.1

pub returns-else-was_open-clause-leaves : goal.returns-else-was_open-clause-leaves
returns-else-was_open-clause-leaves c = λ rules st w s order holds.
    let first : Replaced c.args.slot.now.cursors c.exchange_unnamed-held.new.self None c.exchange_unnamed-held.result = record {
      puts = c.exchange_unnamed-held.ensures.puts;
      was = c.exchange_unnamed-held.ensures.was;
      named = c.exchange_unnamed-held.ensures.named;
    } in
    closing_none rules st w s order c.args.slot.now holds c.exchange_unnamed-held.new.self c.exchange_unnamed-held.result first
    (not_there c.exchange_unnamed-held.result (sym c.was_open.ensures ∙ c.if-was_open.false))

pub returns-then-was_open-clause-refused : goal.returns-then-was_open-clause-refused
returns-then-was_open-clause-refused c = tt

pub returns-else-was_open-clause-refused : goal.returns-else-was_open-clause-refused
returns-else-was_open-clause-refused c = refl
