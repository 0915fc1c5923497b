-- A query in turns that stands in the history of all callers.
use Rattle.std.specs.Prelude.{◌≡◌, ℕ, List, ◌++◌}
use Rattle.lexer.specs.Token.{Bytes}
use Rattle.refusals.specs.declared.refusal.Refusal.{Refusal}
use Rattle.replies.specs.declared.reply.Reply.{Reply}
use Rattle.replies.specs.declared.reply.Reply.TheVariants as says
use Rattle.sqlval.specs.Value.{Row}
use Rattle.session_definitions.specs.Rules.{Rules}
use Rattle.session_definitions.specs.Run.{Moment, Run}
use Rattle.session_definitions.specs.Turns.{TakesTurns}
use Rattle.session_definitions.specs.World.{World}
use Rattle.turn_laws.specs.Answered.{IsAnswered, IsRefused}

-- The last moments of a run from this world to that one, in which the session of this number takes
-- the query of the text in turns of n and is told this of them; before them anything may have
-- happened.
pub record TurnsIn (rules : Rules) (start : World) (text : Bytes) (n : ℕ) (reply : Reply) (end : World) : Type 0 where
  pub id : ℕ
  pub earlier : List Moment
  pub turns : List Moment
  pub first : World
  pub before : Run rules start earlier first
  pub run : Run rules first turns end
  pub takes : TakesTurns id text n turns reply

-- These rows could have been the reply to the whole text in the world of the first turn, and leave
-- the session so.
abbrev pub AreAnswered : Rules → World → Bytes → ℕ → List Row → World → Type 0
AreAnswered rules start text n rows end =
    (h : TurnsIn rules start text n (says.Rows rows) end) × IsAnswered rules h.id text h.turns (says.Rows rows) end

-- the turns could be refused so
abbrev pub AreRefused : Rules → World → Bytes → ℕ → Refusal → World → Type 0
AreRefused rules start text n refusal end =
    (h : TurnsIn rules start text n (says.Refused refusal) end) × IsRefused rules h.id text h.turns refusal
