use Rattle.std.proofs.Common.{arith}
use Rattle.disk.specs.Keeping.{weaker}
use Rattle.journal.specs.Versions.{IsShut, IsAmong}
use Rattle.journal.proofs.States.{among_shut}
use Rattle.last_version.proofs.StandingLemmas.{rest_after}
use Rattle.last_version.proofs.file.OpenFile.cut.Goals as goal

pub returns-clause-stands : goal.returns-clause-stands
returns-clause-stands g c = λ honest v s.
    rest_after g.D.Disk.is_honest g.D.Disk.is_durable c.args.self.now.gate c.args.self.now.set c.args.self.now.written c.args.self.now.count
    (g.D.Disk.bytes c.args.self.now.disk) (g.D.Disk.bytes c.cut_to.new.disk) (g.D.Disk.may_leave c.args.self.now.disk) (g.D.Disk.may_leave c.cut_to.new.disk) v
    c.cut_to.result c.requires honest s c.cut_to.ensures.rest c.cut_to.ensures.left

pub returns-clause-keeps : goal.returns-clause-keeps
returns-clause-keeps g c = λ durable honest x y v one s.
    let r = s.rest c.requires in
    let kept = c.cut_to.ensures.keeps durable r.some v (omega (arith, r.many)) (r.shut durable honest) in (
      λ d left. among_shut x y v one d (kept.0 d left),
      weaker g.D.Disk.moment g.D.Disk.left_since c.args.self.now.disk c.cut_to.new.disk (IsShut v) (IsAmong x y) (among_shut x y v one) kept.1,
    )
