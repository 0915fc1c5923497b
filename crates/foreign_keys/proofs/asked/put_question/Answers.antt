use Rattle.std.proofs.Common.{◌∙◌, sym, map}
use Rattle.std.proofs.lemmas.Result.{on_ok_weaker}
use Rattle.std.proofs.lemmas.List.Elements.{All-push, All-same}
use Rattle.foreign_keys.specs.Asked.{question_of, HasWays}
use Rattle.foreign_keys.proofs.Asking.{question-none, question-put}
use Rattle.foreign_keys.proofs.asked.put_question.Goals as goal

pub returns-then-not-is_at_end-clause-question : goal.returns-then-not-is_at_end-clause-question
returns-then-not-is_at_end-clause-question c = λ rest.
    question-none c.args.name.now c.args.table.now.name c.args.constraint.now.name c.args.constraint.now.rule c.in-ForeignKey.reference c.in-ForeignKey.is
    (sym c.is_at_end.ensures ∙ c.if-not-is_at_end.true) (map question_of c.args.asked.now) rest

pub returns-in_ok-question-in-ForeignKey-clause-question : goal.returns-in_ok-question-in-ForeignKey-clause-question
returns-in_ok-question-in-ForeignKey-clause-question c = λ rest. on_ok_weaker c.push.result
    (λ put. question-put c.args.asked.now c.push.new.self c.in_ok-question-in-ForeignKey.field-0 c.args.name.now c.args.table.now.name c.args.constraint.now.name c.args.constraint.now.rule
    c.in-ForeignKey.reference c.in-ForeignKey.is (sym c.is_at_end.ensures ∙ c.if-not-is_at_end.false) c.in_ok-question-in-ForeignKey.ensures.is put rest)
    c.push.ensures.ok

pub returns-in_ok-question-in-ForeignKey-clause-ways : goal.returns-in_ok-question-in-ForeignKey-clause-ways
returns-in_ok-question-in-ForeignKey-clause-ways c = λ inside before. on_ok_weaker c.push.result
    (λ put. All-same (HasWays c.args.schema.now) _ _ put (All-push (HasWays c.args.schema.now) c.args.asked.now c.in_ok-question-in-ForeignKey.field-0 before (c.in_ok-question-in-ForeignKey.ensures.ways inside)))
    c.push.ensures.ok
