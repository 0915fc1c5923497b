use Rattle.journal.proofs.Looking.{reads_call}
use Rattle.journal.proofs.reading.file_length.Goals as goal

pub returns-clause-reads : goal.returns-clause-reads
returns-clause-reads g c =
    reads_call g.D.Disk.is_honest g.D.Disk.is_durable g.D.Disk.bytes g.D.Disk.synced g.D.Disk.writes g.D.Disk.settled g.D.Disk.moment g.D.Disk.left_since g.D.Disk.may_leave
    (λ d b durable left. g.met.D.Disk.only_now d b durable left) c.args.disk.now c.len.new.self c.len.ensures.same c.len.ensures.synced c.len.ensures.writes c.len.ensures.settled c.len.ensures.crash
    c.len.ensures.time
