use Rattle.crash_disk.proofs.AddedLemmas.{added_synced}
use Rattle.crash_disk.proofs.outcome.add_synced.Goals as goal

pub returns-clause-ok : goal.returns-clause-ok
returns-clause-ok c =
    added_synced c.add.result c.args.later.now.items c.add.new.later.items c.in_ok-next.next c.args.bytes.now c.add.ensures.ok c.in_ok-next.ensures.synced c.in_ok-next.ensures.ranges c.in_ok-next.ensures.lengths
