use Rattle.disk.specs.Keeping.{joined}
use Rattle.journal.specs.Versions.{IsAmong}
use Rattle.last_version.proofs.file.OpenFile.settle.Goals as goal

pub returns-clause-stands : goal.returns-clause-stands
returns-clause-stands g c = λ honest v s. c.cut.ensures.stands honest v (c.finish.ensures.stands honest v s)

pub returns-clause-keeps : goal.returns-clause-keeps
returns-clause-keeps g c = λ durable honest x y v one s.
    let first = c.finish.ensures.keeps durable honest x y v one s in
    let last = c.cut.ensures.keeps durable honest x y v one (c.finish.ensures.stands honest v s) in (
      last.0,
      joined g.D.Disk.moment g.D.Disk.left_since c.args.self.now.disk c.finish.new.self.disk c.cut.new.self.disk (IsAmong x y) first.1 last.1,
    )
