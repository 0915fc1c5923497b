use Rattle.shared.proofs.InTurns.{begun, not_begun}
use Rattle.shared.proofs.turns.query_in_turns.Goals as goal

pub returns-in-Done : goal.returns-in-Done
returns-in-Done g c =
    let opening = c.open_query-opening in
    c.rows_in_turns.ensures c.args.me.now c.args.text.now
    (begun g.J.Room.premise g.J.Room.start g.J.Room.refused c.args.me.now c.args.text.now c.args.count opening.new.me opening.result c.in-Done.is opening.ensures.turn)

pub returns-in_default : goal.returns-in_default
returns-in_default g c =
    let opening = c.open_query-opening in
    not_begun g.J.Room.premise g.J.Room.start g.J.Room.refused c.args.me.now c.args.text.now c.args.count opening.new.me opening.result opening.ensures.told c.in_default.not-Done opening.ensures.turn
