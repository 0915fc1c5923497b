use Rattle.std.proofs.Common.{refl}
use Rattle.ast_copies.proofs.statements.ColumnConstraintPart.copy.Goals as goal

pub returns : goal.returns
returns c = rw (c.in_ok-name.ensures.first _ c.copy.ensures, c.in_ok-name.ensures.second _ c.copy-2.ensures) refl
