use Rattle.replies.specs.declared.reply.Reply.TheVariants as says
use Rattle.turn_histories.proofs.Placed.{placed}
use Rattle.turn_histories.proofs.laws.turns_in_histories_answer.Goals as goal

pub returns-clause-rows : goal.returns-clause-rows
returns-clause-rows g c = λ rules v w text n rows end h t.
    let start = g.J.Room.start in
    let p = placed rules g.J.Room.premise start g.J.Room.refused v w text n (says.Rows rows) end
    (λ later earlier run. c.parts_of_runs_are_runs.ensures rules start end earlier later run) h t in
    (p, c.turns_answer_the_query.ensures.rows rules p.id text n p.first end p.turns rows p.run p.takes)

pub returns-clause-refused : goal.returns-clause-refused
returns-clause-refused g c = λ rules v w text n refusal end h t.
    let start = g.J.Room.start in
    let p = placed rules g.J.Room.premise start g.J.Room.refused v w text n (says.Refused refusal) end
    (λ later earlier run. c.parts_of_runs_are_runs.ensures rules start end earlier later run) h t in
    (p, c.turns_answer_the_query.ensures.refused rules p.id text n p.first end p.turns refusal p.run p.takes)
