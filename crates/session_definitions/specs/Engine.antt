-- What an engine does: the step, the run and the script over the rules of names and types. All
-- other definitions of sessions take any rules.
use Rattle.std.specs.Prelude.{ℕ, List}
use Rattle.lexer.specs.Token.{Bytes}
use Rattle.replies.specs.declared.reply.Reply.{Reply}
use Rattle.session_definitions.specs.Rules.{Rules, AreRules}
use Rattle.session_definitions.specs.Run.{Moment, Run}
use Rattle.session_definitions.specs.Script.{IsPlayed}
use Rattle.session_definitions.specs.Step.{Step}
use Rattle.session_definitions.specs.World.{World}

-- in the session s, in this world, the text may get this reply, and leave the world new (ISO/IEC
-- 9075:1992, 20.1)
pub record IsStep (old : World) (s : ℕ) (text : Bytes) (reply : Reply) (new : World) : Type 0 where
  pub rules : Rules
  pub are : AreRules rules
  pub step : Step rules old s text reply new

-- these events may happen one after another, from one world to another; the latest stands first
pub record IsRun (start : World) (moments : List Moment) (end : World) : Type 0 where
  pub rules : Rules
  pub are : AreRules rules
  pub run : Run rules start moments end

-- a script of these pieces may print this text
pub record IsScript (old : World) (pieces : List (List ℕ)) (printed : List ℕ) (new : World) : Type 0 where
  pub rules : Rules
  pub are : AreRules rules
  pub played : IsPlayed rules old pieces printed new
