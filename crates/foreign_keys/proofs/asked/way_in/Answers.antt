use Rattle.foreign_keys.proofs.Asking.{leads-in}
use Rattle.foreign_keys.proofs.asked.way_in.Goals as goal

pub returns-in-Some : goal.returns-in-Some
returns-in-Some c = leads-in c.args.schema.now c.args.name.now c.in-Some.table.now c.args.from.now c.args.to.now c.way_over.result c.in-Some.ensures.there c.in-Some.ensures.named
    (rw c.as_slice.ensures at c.way_over.ensures)
