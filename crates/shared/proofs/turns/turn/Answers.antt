use Rattle.std.proofs.Common.{List, subst}
use Rattle.sqlval.specs.Value.{Row}
use Rattle.lexer.specs.Token.{Bytes}
use Rattle.replies.specs.declared.reply.Reply.{Reply}
use Rattle.sessions.specs.Turned.{TellsRows}
use Rattle.shared.specs.Turned.{HasCome, HasTaken, InAllTurns}
use Rattle.shared.specs.Views.{Past}
use Rattle.shared.proofs.InTurns.{broken, come, err_by, ok_by}
use Rattle.shared.proofs.turns.turn.Goals as goal

pub put_behind-requires : goal.put_behind-requires
put_behind-requires g c = subst (λ (reply : Reply). TellsRows c.args.count reply) c.in-Rows.is c.take_rows-taken.ensures.told

pub returns-in-Rows-clause-goes : goal.returns-in-Rows-clause-goes
returns-in-Rows-clause-goes g c =
    ok_by c.put_behind.result
    (λ (all : List Row). (v : Past) (text : Bytes) → HasCome g.J.Room.premise g.J.Room.start g.J.Room.refused v text c.args.count c.args.found c.in-Rows.rows c.take_rows-taken.new.me
    → HasTaken g.J.Room.premise g.J.Room.start g.J.Room.refused v text c.args.count all c.put_behind.new.me)
    (λ (all : List Row). (v : Past) (text : Bytes) → HasTaken g.J.Room.premise g.J.Room.start g.J.Room.refused v text c.args.count c.args.found c.args.me.now
    → HasTaken g.J.Room.premise g.J.Room.start g.J.Room.refused v text c.args.count all c.put_behind.new.me)
    (λ all goes v text h. goes v text (come g.J.Room.premise g.J.Room.start g.J.Room.refused v text c.args.count c.args.found c.in-Rows.rows c.args.me.now c.take_rows-taken.new.me c.take_rows-taken.result c.in-Rows.is h c.take_rows-taken.ensures.turn))
    c.put_behind.ensures.goes

pub returns-in-Rows-clause-ends : goal.returns-in-Rows-clause-ends
returns-in-Rows-clause-ends g c =
    err_by c.put_behind.result
    (λ (reply : Reply). (v : Past) (text : Bytes) → HasCome g.J.Room.premise g.J.Room.start g.J.Room.refused v text c.args.count c.args.found c.in-Rows.rows c.take_rows-taken.new.me
    → InAllTurns g.J.Room.premise g.J.Room.start g.J.Room.refused v text c.args.count reply c.put_behind.new.me)
    (λ (reply : Reply). (v : Past) (text : Bytes) → HasTaken g.J.Room.premise g.J.Room.start g.J.Room.refused v text c.args.count c.args.found c.args.me.now
    → InAllTurns g.J.Room.premise g.J.Room.start g.J.Room.refused v text c.args.count reply c.put_behind.new.me)
    (λ reply ends v text h. ends v text (come g.J.Room.premise g.J.Room.start g.J.Room.refused v text c.args.count c.args.found c.in-Rows.rows c.args.me.now c.take_rows-taken.new.me c.take_rows-taken.result c.in-Rows.is h c.take_rows-taken.ensures.turn))
    c.put_behind.ensures.ends

pub returns-in_default-clause-ends : goal.returns-in_default-clause-ends
returns-in_default-clause-ends g c = λ v text h.
    broken g.J.Room.premise g.J.Room.start g.J.Room.refused v text c.args.count c.args.found c.args.me.now c.take_rows-taken.new.me c.take_rows-taken.result c.take_rows-taken.ensures.told c.in_default.not-Rows h c.take_rows-taken.ensures.turn

pub returns-in_default-clause-goes : goal.returns-in_default-clause-goes
returns-in_default-clause-goes g c = tt
