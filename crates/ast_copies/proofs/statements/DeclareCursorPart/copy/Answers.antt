use Rattle.std.proofs.Common.{refl}
use Rattle.ast_copies.proofs.statements.DeclareCursorPart.copy.Goals as goal

pub returns : goal.returns
returns c = rw (c.in_ok-cursor.ensures.first _ c.copy.ensures.copied, c.in_ok-cursor.ensures.second _ c.copy-2.ensures) refl
