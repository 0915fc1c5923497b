use Rattle.std.proofs.Common.{refl}
use Rattle.ast_copies.proofs.operators.ColumnPart.copy.Goals as goal

pub returns : goal.returns
returns c = rw (c.in_ok-table.ensures.first _ c.copy.ensures, c.in_ok-table.ensures.second _ c.copy-2.ensures.copied) refl
