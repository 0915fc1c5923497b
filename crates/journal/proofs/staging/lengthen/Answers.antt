use Rattle.std.proofs.Common.{◌*◌}
use Rattle.disk.specs.Keeping.{calm, then}
use Rattle.journal.specs.Versions.{IsShut}
use Rattle.journal.proofs.States.{shut_cut}
use Rattle.journal.proofs.Steps.{length_set}
use Rattle.journal.proofs.staging.lengthen.Goals as goal

pub returns-clause-keeps : goal.returns-clause-keeps
returns-clause-keeps g c durable some v far =
    then g.D.Disk.moment g.D.Disk.left_since g.D.Disk.may_leave c.args.disk.now c.len.new.self c.set_len.new.self (IsShut v)
    (calm g.D.Disk.moment g.D.Disk.left_since g.D.Disk.may_leave (λ d b left. g.met.D.Disk.only_now d b durable left)
    c.args.disk.now c.len.new.self (IsShut v) (c.len.ensures.crash durable) (c.len.ensures.time durable))
    (length_set g.D.Disk.moment g.D.Disk.left_since g.D.Disk.may_leave g.D.Disk.bytes (λ d b left. g.met.D.Disk.only_now d b durable left)
    c.len.new.self c.set_len.new.self (IsShut v) (4096 * c.args.blocks) _ c.offset_of-wanted.ensures
    (c.set_len.ensures.crash durable) (c.set_len.ensures.time durable) (shut_cut v c.args.blocks far some))
