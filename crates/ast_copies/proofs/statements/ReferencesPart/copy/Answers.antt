use Rattle.std.proofs.Common.{refl}
use Rattle.ast_copies.proofs.statements.ReferencesPart.copy.Goals as goal

pub returns : goal.returns
returns c = rw (c.in_ok-table.ensures.first _ c.copy.ensures.copied, c.in_ok-table.ensures.second _ c.copy-2.ensures) refl
