use Rattle.std.proofs.Common.{refl}
use Rattle.ast_copies.proofs.statements.CreateIndexPart.copy.Goals as goal

pub returns : goal.returns
returns c = rw (c.in_ok-index.ensures.first _ c.copy.ensures.copied, c.in_ok-index.ensures.second _ c.copy-2.ensures.copied, c.in_ok-index.ensures.third _ c.copy-3.ensures) refl
