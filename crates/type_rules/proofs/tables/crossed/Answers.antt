use Rattle.typing.specs.Finding.{also}
use Rattle.typing.specs.From.{from_found}
use Rattle.type_rules.proofs.Covers.{finds-covers}
use Rattle.type_rules.proofs.Joins.{crossed-covers}
use Rattle.type_rules.proofs.tables.crossed.Goals as goal

pub returns : goal.returns
returns c = λ l r outer h k.
    finds-covers c.product.result _ _ (crossed-covers l r outer) (c.product.ensures (also (from_found l outer) (from_found r outer)) (c.both.ensures _ _ h k))
