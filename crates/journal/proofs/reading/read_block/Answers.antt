use Rattle.journal.proofs.Looking.{reads_call}
use Rattle.journal.proofs.reading.read_block.Goals as goal

pub returns-clause-reads : goal.returns-clause-reads
returns-clause-reads g c =
    reads_call g.D.Disk.is_honest g.D.Disk.is_durable g.D.Disk.bytes g.D.Disk.synced g.D.Disk.writes g.D.Disk.settled g.D.Disk.moment g.D.Disk.left_since g.D.Disk.may_leave
    (λ d b durable left. g.met.D.Disk.only_now d b durable left) c.args.disk.now c.read_at.new.self c.read_at.ensures.same c.read_at.ensures.synced c.read_at.ensures.writes c.read_at.ensures.settled
    c.read_at.ensures.crash c.read_at.ensures.time
