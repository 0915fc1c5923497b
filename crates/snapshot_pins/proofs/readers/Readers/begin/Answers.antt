use Rattle.std.proofs.Common.{◌≡◌, refl}
use Rattle.pool.specs.Versions.{versions_of}
use Rattle.snapshot_pins.proofs.ListedLemmas.{begun_again, kept_by_pages}
use Rattle.snapshot_pins.proofs.readers.Readers.begin.Goals as goal

pub returns-in-Some-clause-begun : goal.returns-in-Some-clause-begun
returns-in-Some-clause-begun g c =
    begun_again c.args.self.now.list c.args.reader c.in-Some.field-0.1 c.args.pool.now.last c.in-Some.field-0.0 c.args.self.now.apart (rw c.as_slice.ensures at c.in-Some.ensures.some)

pub returns-in-Some-clause-kept : goal.returns-in-Some-clause-kept
returns-in-Some-clause-kept g c = kept_by_pages c.args.self.now.list (versions_of c.args.pool.now) (versions_of c.args.pool.now) refl refl
