use Rattle.journal.proofs.Listing.{no_rising}
use Rattle.journal.proofs.list.count_numbers.Goals as goal

pub returns-then-number-least-clause-none : goal.returns-then-number-least-clause-none
returns-then-number-least-clause-none c none =
    no_rising c.args.list.now c.args.below c.loop-i.i c.loop-i.least c.read_number-number.result c.loop-i-test.true c.loop-i.invariant c.read_number-number.ensures
    c.if-number.false c.if-number-least.true
