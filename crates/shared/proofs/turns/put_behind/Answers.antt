use Rattle.std.proofs.Common.{◌≡◌, ◌<◌, ◌≤◌, length, arith}
use Rattle.shared.proofs.InTurns.{all_given, kept, unkept}
use Rattle.shared.proofs.turns.put_behind.Goals as goal

pub returns-else-is_last-clause-goes : goal.returns-else-is_last-clause-goes
returns-else-is_last-clause-goes g c = λ v text h. kept g.J.Room.premise g.J.Room.start g.J.Room.refused v text c.args.count c.args.found c.args.rows c.in-Some.all c.args.me.now c.in-Some.ensures (omega (arith, c.requires)) h

pub returns-then-is_last-clause-ends : goal.returns-then-is_last-clause-ends
returns-then-is_last-clause-ends g c = λ v text h.
    all_given g.J.Room.premise g.J.Room.start g.J.Room.refused v text c.args.count c.args.found c.args.rows c.in-Some.all c.args.me.now c.close_query.new.me c.close_query.result c.in-Some.ensures (omega arith) h c.close_query.ensures

pub returns-in-None-clause-ends : goal.returns-in-None-clause-ends
returns-in-None-clause-ends g c = λ v text h.
    unkept g.J.Room.premise g.J.Room.start g.J.Room.refused v text c.args.count c.args.found c.args.rows c.args.me.now c.close_query-in-None.new.me c.close_query-in-None.result h c.close_query-in-None.ensures

pub returns-else-is_last-clause-ends : goal.returns-else-is_last-clause-ends
returns-else-is_last-clause-ends g c = tt

pub returns-then-is_last-clause-goes : goal.returns-then-is_last-clause-goes
returns-then-is_last-clause-goes g c = tt

pub returns-in-None-clause-goes : goal.returns-in-None-clause-goes
returns-in-None-clause-goes g c = tt
