use Rattle.snapshot_pins.proofs.ListedLemmas.{number_at, number_none}
use Rattle.snapshot_pins.proofs.readers.Readers.number.Goals as goal

pub returns-in-Some : goal.returns-in-Some
returns-in-Some c = number_at c.args.self.now.list c.in-Some.field-0-0 c.args.reader c.in-Some.number c.args.self.now.apart (rw c.as_slice.ensures at c.in-Some.ensures.some)

pub returns-in-None : goal.returns-in-None
returns-in-None c = number_none c.args.self.now.list c.args.reader (rw c.as_slice.ensures at c.in-None.ensures.none)
