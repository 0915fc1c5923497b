use Rattle.std.proofs.Common.{List, [], subst, sym}
use Rattle.sqlval.specs.Value.{Row}
use Rattle.shared.specs.Turned.{HasTaken}
use Rattle.shared.proofs.turns.rows_in_turns.Goals as goal

pub taken-init : goal.taken-init
taken-init g c = λ v text h. subst (λ (rows : List Row). HasTaken g.J.Room.premise g.J.Room.start g.J.Room.refused v text c.args.count rows c.args.me.now) (sym c.new-found.ensures) h

pub taken-preserved : goal.taken-preserved
taken-preserved g c = λ v text h. c.in-Ok.ensures.goes v text (c.taken.invariant v text h)

pub returns-in-Err : goal.returns-in-Err
returns-in-Err g c = λ v text h. c.in-Err.ensures.ends v text (c.taken.invariant v text h)
