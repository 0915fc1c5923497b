use Rattle.std.proofs.Common.{◌∙◌, ◌++◌, ap, map, arith}
use Rattle.foreign_keys.specs.Asked.{question_of, questions_of}
use Rattle.foreign_keys.proofs.Asking.{question-next, questions-end}
use Rattle.foreign_keys.proofs.asked.put_questions.Goals as goal

pub loop-constraint-preserved : goal.loop-constraint-preserved
loop-constraint-preserved c = (
  question-next (map question_of c.args.asked.now) (map question_of c.loop-constraint.asked) _ c.args.name.now c.args.table.now.name c.as_slice-constraint-items.result.now c.loop-constraint.constraint-index
      c.constraint-item.result c.loop-constraint-test.true c.constraint-item.is c.in_ok-put_question.ensures.question c.loop-constraint.invariant.0,
  (λ inside before. c.in_ok-put_question.ensures.ways inside (c.loop-constraint.invariant.1 inside before)),
)

pub returns-clause-questions : goal.returns-clause-questions
returns-clause-questions c =
    questions-end (map question_of c.args.asked.now) (map question_of c.loop-constraint.asked) c.args.name.now c.args.table.now.name c.as_slice-constraint-items.result.now c.loop-constraint.constraint-index
    (omega arith) c.loop-constraint.invariant.0
    ∙ ap (λ cs. map question_of c.args.asked.now ++ questions_of c.args.name.now c.args.table.now.name cs) c.as_slice-constraint-items.ensures

pub returns-clause-ways : goal.returns-clause-ways
returns-clause-ways c = c.loop-constraint.invariant.1
