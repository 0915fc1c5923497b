use Rattle.std.proofs.Common.{◌*◌}
use Rattle.journal.specs.Versions.{IsShut}
use Rattle.journal.proofs.Ranges.{range_changes}
use Rattle.journal.proofs.States.{shut_block}
use Rattle.journal.proofs.Steps.{range_written}
use Rattle.journal.proofs.staging.write_block.Goals as goal

pub returns-clause-changes : goal.returns-clause-changes
returns-clause-changes g c honest within =
    range_changes c.write_at.result (4096 * c.args.number) 4096 c.offset_of.result c.args.bytes.now (g.D.Disk.bytes c.args.disk.now)
    (g.D.Disk.bytes c.write_at.new.self) c.offset_of.ensures c.told-bytes c.write_at.ensures.written c.write_at.ensures.torn honest within

pub returns-clause-keeps : goal.returns-clause-keeps
returns-clause-keeps g c durable within some v far =
    range_written g.D.Disk.moment g.D.Disk.left_since g.D.Disk.may_leave g.D.Disk.bytes (λ d b left. g.met.D.Disk.only_now d b durable left)
    c.args.disk.now c.write_at.new.self (IsShut v) (4096 * c.args.number) 4096 _ _ c.offset_of.ensures c.told-bytes
    (c.write_at.ensures.crash durable) (c.write_at.ensures.time durable) within (shut_block v c.args.number far some)
