use Rattle.std.proofs.Common.{refl}
use Rattle.last_version.proofs.StandingLemmas.{broken_stands}
use Rattle.last_version.proofs.file.OpenFile.break_off.Goals as goal

pub returns-clause-stands : goal.returns-clause-stands
returns-clause-stands g c = λ v s.
    broken_stands g.D.Disk.is_honest g.D.Disk.is_durable _ c.args.self.now.set c.args.self.now.written c.args.self.now.count
    (g.D.Disk.bytes c.args.self.now.disk) (g.D.Disk.may_leave c.args.self.now.disk) v refl s.many s.pages
