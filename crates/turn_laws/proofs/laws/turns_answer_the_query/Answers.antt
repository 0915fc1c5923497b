use Rattle.turn_laws.proofs.AllTurns.{answers, answers_in, refuses}
use Rattle.turn_laws.proofs.laws.turns_answer_the_query.Goals as goal

pub returns-clause-rows : goal.returns-clause-rows
returns-clause-rows c rules s text n start end turns rows = answers rules s text n start end turns rows

pub returns-clause-refused : goal.returns-clause-refused
returns-clause-refused c rules s text n start end turns refusal = refuses rules s text n start end turns refusal

pub returns-clause-anywhere : goal.returns-clause-anywhere
returns-clause-anywhere c rules s text n start end earlier turns later rows =
    answers_in rules s text n start end earlier turns later rows
