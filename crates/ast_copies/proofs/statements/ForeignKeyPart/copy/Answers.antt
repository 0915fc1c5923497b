use Rattle.std.proofs.Common.{refl}
use Rattle.ast_copies.proofs.statements.ForeignKeyPart.copy.Goals as goal

pub returns : goal.returns
returns c = rw (c.in_ok-columns.ensures.first _ c.copy.ensures, c.in_ok-columns.ensures.second _ c.copy-2.ensures) refl
