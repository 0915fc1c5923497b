use Rattle.std.proofs.Common.{refl, ap}
use Rattle.translation.proofs.nodes.group.Goals as goal

pub returns : goal.returns
returns c = λ ks fs x h g f. rw (c.in_ok-columns.ensures.first ks h, c.in_ok-columns.ensures.second fs g, c.in_ok-columns.ensures.third x (c.boxed.ensures x f)) refl
