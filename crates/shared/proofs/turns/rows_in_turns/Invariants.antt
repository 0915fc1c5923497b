use Rattle.std.proofs.Common.{[]}
use Rattle.lexer.specs.Token.{Bytes}
use Rattle.shared.specs.Turned.{HasTaken}
use Rattle.shared.specs.Views.{Past}
use Rattle.shared.proofs.turns.rows_in_turns.Given as goal

-- what had come when the query was opened, and the rows of all turns behind it
abbrev pub invariant-taken : goal.invariant-taken
invariant-taken g l = (v : Past) (text : Bytes) → HasTaken g.J.Room.premise g.J.Room.start g.J.Room.refused v text l.count [] l.fn.me → HasTaken g.J.Room.premise g.J.Room.start g.J.Room.refused v text l.count l.found l.me
