use Rattle.std.proofs.Common.{refl}
use Rattle.ast_copies.proofs.statements.OrderedQueryPart.copy.Goals as goal

pub returns : goal.returns
returns c = rw (c.in_ok-query.ensures.first _ c.copy.ensures, c.in_ok-query.ensures.second _ c.copy-2.ensures) refl
