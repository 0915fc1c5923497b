-- What a call under the lock is in the history.
use Rattle.sessions.specs.OfCore.{number_of}
use Rattle.shared.specs.declared.event.Act.{Act}
use Rattle.shared.specs.declared.event.Act.TheVariants as act
use Rattle.shared.specs.declared.event.Question.{Question}
use Rattle.shared.specs.declared.event.Question.TheVariants as question
use Rattle.shared.specs.declared.desk.Asking.{Asking}
use Rattle.shared.specs.declared.desk.Asking.TheVariants as asks
use Rattle.shared.specs.declared.desk.Called.{Called}
use Rattle.shared.specs.declared.desk.Called.TheVariants.{Connects, Refused, Says, Ends}

-- what was asked
abbrev pub question_of : Asking → Question
question_of (asks.Text text) = question.Text text.now
question_of (asks.Query text) = question.Query text.now
question_of (asks.Rows count) = question.Rows count
question_of asks.Close = question.Close

abbrev pub act_of : Called → Act
act_of (Connects id) = act.Connects (number_of id)
act_of (Refused refusal) = act.Refused refusal.now
act_of (Says id asking reply) = act.Says (number_of id) (question_of asking) reply.now
act_of (Ends id) = act.Ends (number_of id)
