use Rattle.disk.specs.Keeping.{calm, then}
use Rattle.journal.specs.Parts.{HasLength}
use Rattle.journal.specs.Versions.{IsBoth, IsShut}
use Rattle.journal.proofs.States.{shut_now, synced_all, only_read}
use Rattle.journal.proofs.gate.shut_gate.Goals as goal

pub returns-in_err-write_gate-clause-keeps : goal.returns-in_err-write_gate-clause-keeps
returns-in_err-write_gate-clause-keeps g c = c.write_gate.ensures.keeps

pub returns-clause-keeps : goal.returns-clause-keeps
returns-clause-keeps g c durable x y =
    then g.D.Disk.moment g.D.Disk.left_since g.D.Disk.may_leave c.args.disk.now c.write_gate.new.disk c.sync.new.self (IsBoth x y)
    (c.write_gate.ensures.keeps durable x y)
    (calm g.D.Disk.moment g.D.Disk.left_since g.D.Disk.may_leave (λ d b left. g.met.D.Disk.only_now d b durable left)
    c.write_gate.new.disk c.sync.new.self (IsBoth x y) (c.sync.ensures.crash durable) (c.sync.ensures.time durable))

-- the gate as it was written, once it is on the medium
pub returns-clause-shut : goal.returns-clause-shut
returns-clause-shut g c durable honest x y all =
    let before : IsBoth x y (g.D.Disk.bytes c.args.disk.now) = all _ (g.met.D.Disk.read_is_left c.args.disk.now durable) in
    synced_all (IsShut x) c.sync.result (g.D.Disk.bytes c.write_gate.new.disk) (g.D.Disk.may_leave c.sync.new.self) (c.sync.ensures.durable durable)
    (shut_now x y (g.D.Disk.bytes c.args.disk.now) (g.D.Disk.bytes c.write_gate.new.disk) before (c.write_gate.ensures.changes honest before.ready.size.some)
    (c.in_ok-write_gate.ensures.written honest))

pub returns-clause-only : goal.returns-clause-only
returns-clause-only g c durable honest =
    only_read c.sync.result (g.D.Disk.bytes c.write_gate.new.disk) (g.D.Disk.bytes c.sync.new.self) (g.D.Disk.may_leave c.sync.new.self) (c.sync.ensures.same honest)
    (c.sync.ensures.durable durable)

pub returns-in_err-write_gate-clause-sized : goal.returns-in_err-write_gate-clause-sized
returns-in_err-write_gate-clause-sized g c = c.write_gate.ensures.sized

pub returns-clause-sized : goal.returns-clause-sized
returns-clause-sized g c durable n some =
    then g.D.Disk.moment g.D.Disk.left_since g.D.Disk.may_leave c.args.disk.now c.write_gate.new.disk c.sync.new.self (HasLength n)
    (c.write_gate.ensures.sized durable n some)
    (calm g.D.Disk.moment g.D.Disk.left_since g.D.Disk.may_leave (λ d b left. g.met.D.Disk.only_now d b durable left)
    c.write_gate.new.disk c.sync.new.self (HasLength n) (c.sync.ensures.crash durable) (c.sync.ensures.time durable))
