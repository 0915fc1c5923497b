use Rattle.std.proofs.Common.{refl}
use Rattle.sessions.proofs.Statements.{no_declare}
use Rattle.sessions.proofs.cursor_calls.declared_in.Goals as goal

pub returns-in_default : goal.returns-in_default
returns-in_default c = (refl, no_declare c.args.statement c.in_default.not-DeclareCursor)
