use Rattle.std.proofs.Common.{◌≡◌, ◌+◌, List, ℕ, refl, ap, subst, arith, length}
use Rattle.std.specs.Prelude.{IsTrue, OnOk, slice_range}
use Rattle.journal.specs.Versions.{IsShut}
use Rattle.journal.proofs.Ranges.{range_changes, call_range}
use Rattle.journal.proofs.States.{shut_start}
use Rattle.journal.proofs.Steps.{range_written}
use Rattle.journal.proofs.staging.write_start.Goals as goal

pub returns-clause-written : goal.returns-clause-written
returns-clause-written g c =
    subst (λ (b : List ℕ). OnOk c.write_at.result (IsTrue g.D.Disk.is_honest → slice_range (g.D.Disk.bytes c.write_at.new.self) 20 (20 + length b) ≡ b)) c.to_be_bytes.ensures
    (call_range (IsTrue g.D.Disk.is_honest) c.write_at.result 20 c.to_be_bytes.result (g.D.Disk.bytes c.args.disk.now) (g.D.Disk.bytes c.write_at.new.self)
    c.write_at.ensures.written)

pub returns-clause-changes : goal.returns-clause-changes
returns-clause-changes g c honest some =
    range_changes c.write_at.result 20 4 20 c.to_be_bytes.result (g.D.Disk.bytes c.args.disk.now) (g.D.Disk.bytes c.write_at.new.self) refl
    (ap (λ (b : List ℕ). length b) c.to_be_bytes.ensures) c.write_at.ensures.written c.write_at.ensures.torn honest (omega (arith, some))

pub returns-clause-keeps : goal.returns-clause-keeps
returns-clause-keeps g c durable v all =
    let now : IsShut v (g.D.Disk.bytes c.args.disk.now) = all _ (g.met.D.Disk.read_is_left c.args.disk.now durable) in
    range_written g.D.Disk.moment g.D.Disk.left_since g.D.Disk.may_leave g.D.Disk.bytes (λ d b left. g.met.D.Disk.only_now d b durable left)
    c.args.disk.now c.write_at.new.self (IsShut v) 20 4 20 (length c.to_be_bytes.result) refl (ap (λ (b : List ℕ). length b) c.to_be_bytes.ensures)
    (c.write_at.ensures.crash durable) (c.write_at.ensures.time durable) (omega (arith, now.places.size.some)) (shut_start v) all
