use Rattle.pool.specs.Versions.{versions_of}
use Rattle.database_versions.proofs.CloseLemmas.{closed_holds, closed_owned, closed_shut}
use Rattle.database_versions.proofs.closing.close_pool.Goals as goal

pub returns-clause-saved : goal.returns-clause-saved
returns-clause-saved g c =
    closed_holds c.close.result g.D.Disk.is_honest g.D.Disk.bytes ((versions_of c.args.pool).pages (versions_of c.args.pool).last)
    c.close.ensures.stored c.close.ensures.size c.close.ensures.closed

pub returns-clause-owned : goal.returns-clause-owned
returns-clause-owned g c =
    closed_owned c.close.result g.D.Disk.is_honest g.D.Disk.bytes ((versions_of c.args.pool).pages (versions_of c.args.pool).last)
    c.close.ensures.stored c.close.ensures.size c.close.ensures.closed

pub returns-clause-closed : goal.returns-clause-closed
returns-clause-closed g c =
    closed_shut c.close.result g.D.Disk.is_honest g.D.Disk.bytes ((versions_of c.args.pool).pages (versions_of c.args.pool).last)
    c.close.ensures.stored c.close.ensures.size c.close.ensures.closed
