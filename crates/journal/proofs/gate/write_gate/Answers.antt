use Rattle.std.proofs.Common.{◌∙◌, [], ◌∷◌, refl, arith}
use Rattle.std.specs.Prelude.{IsTrue}
use Rattle.journal.specs.Parts.{HasLength}
use Rattle.journal.specs.Versions.{IsBoth}
use Rattle.journal.proofs.Ranges.{range_changes, call_range}
use Rattle.journal.proofs.States.{both_gate}
use Rattle.journal.proofs.Steps.{range_written}
use Rattle.journal.proofs.gate.write_gate.Goals as goal

pub returns-clause-written : goal.returns-clause-written
returns-clause-written g c =
    call_range (IsTrue g.D.Disk.is_honest) c.write_at.result 24 (c.args.gate ∷ []) (g.D.Disk.bytes c.args.disk.now) (g.D.Disk.bytes c.write_at.new.self)
    c.write_at.ensures.written

pub returns-clause-changes : goal.returns-clause-changes
returns-clause-changes g c honest some =
    range_changes c.write_at.result 24 1 24 (c.args.gate ∷ []) (g.D.Disk.bytes c.args.disk.now) (g.D.Disk.bytes c.write_at.new.self) refl refl
    c.write_at.ensures.written c.write_at.ensures.torn honest (omega (arith, some))

pub returns-clause-keeps : goal.returns-clause-keeps
returns-clause-keeps g c durable x y all =
    let now : IsBoth x y (g.D.Disk.bytes c.args.disk.now) = all _ (g.met.D.Disk.read_is_left c.args.disk.now durable) in
    range_written g.D.Disk.moment g.D.Disk.left_since g.D.Disk.may_leave g.D.Disk.bytes (λ d b left. g.met.D.Disk.only_now d b durable left)
    c.args.disk.now c.write_at.new.self (IsBoth x y) 24 1 24 1 refl refl (c.write_at.ensures.crash durable) (c.write_at.ensures.time durable)
    (omega (arith, now.ready.size.some)) (both_gate x y) all

pub returns-clause-sized : goal.returns-clause-sized
returns-clause-sized g c durable n some =
    range_written g.D.Disk.moment g.D.Disk.left_since g.D.Disk.may_leave g.D.Disk.bytes (λ d b left. g.met.D.Disk.only_now d b durable left)
    c.args.disk.now c.write_at.new.self (HasLength n) 24 1 24 1 refl refl (c.write_at.ensures.crash durable) (c.write_at.ensures.time durable)
    (omega (arith, some)) (λ d b is changes. changes.size ∙ is)
