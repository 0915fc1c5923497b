use Rattle.std.specs.Prelude.{IsTrue}
use Rattle.disk.specs.Keeping.{then}
use Rattle.journal.specs.Versions.{IsOpen}
use Rattle.journal.proofs.Looking.{reads_keep}
use Rattle.journal.proofs.Sets.{place_copied}
use Rattle.journal.proofs.recovery.copy_image.Goals as goal

pub returns-clause-placed : goal.returns-clause-placed
returns-clause-placed g c =
    place_copied (IsTrue g.D.Disk.is_honest) c.put_one.result c.args.number c.read_block.new.into (g.D.Disk.bytes c.args.disk.now) (g.D.Disk.bytes c.read_block.new.disk)
    (g.D.Disk.bytes c.put_one.new.disk) c.args.from c.read_block.ensures.reads.same c.in_ok-read_block.ensures.value c.put_one.ensures.placed

pub returns-clause-keeps : goal.returns-clause-keeps
returns-clause-keeps g c durable v has =
    then g.D.Disk.moment g.D.Disk.left_since g.D.Disk.may_leave c.args.disk.now c.read_block.new.disk c.put_one.new.disk (IsOpen v)
    (reads_keep g.D.Disk.is_honest g.D.Disk.is_durable g.D.Disk.bytes g.D.Disk.synced g.D.Disk.writes g.D.Disk.settled g.D.Disk.moment g.D.Disk.left_since g.D.Disk.may_leave
    c.args.disk.now c.read_block.new.disk c.read_block.ensures.reads durable (IsOpen v))
    (c.put_one.ensures.keeps durable v has)
