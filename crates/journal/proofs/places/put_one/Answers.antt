use Rattle.std.proofs.Common.{◌*◌, arith}
use Rattle.std.specs.Prelude.{IsTrue}
use Rattle.journal.specs.Parts.{kept_size}
use Rattle.journal.specs.Versions.{IsOpen}
use Rattle.journal.proofs.Ranges.{range_changes}
use Rattle.journal.proofs.Sets.{place_put}
use Rattle.journal.proofs.States.{open_put, kept_small}
use Rattle.journal.proofs.Steps.{range_written}
use Rattle.journal.proofs.places.put_one.Goals as goal

pub returns-clause-placed : goal.returns-clause-placed
returns-clause-placed g c =
    place_put (IsTrue g.D.Disk.is_honest) c.write_at.result c.args.number c.offset_of.result c.args.page.now c.kept_part.result.now (g.D.Disk.bytes c.args.disk.now)
    (g.D.Disk.bytes c.write_at.new.self) c.offset_of.ensures c.kept_part.ensures.part c.kept_part.ensures.size c.write_at.ensures.written

pub returns-clause-changes : goal.returns-clause-changes
returns-clause-changes g c honest within =
    let small = kept_small c.args.number in
    range_changes c.write_at.result (4096 * c.args.number) (kept_size c.args.number) c.offset_of.result c.kept_part.result.now (g.D.Disk.bytes c.args.disk.now)
    (g.D.Disk.bytes c.write_at.new.self) c.offset_of.ensures c.kept_part.ensures.size c.write_at.ensures.written c.write_at.ensures.torn honest (omega (arith, small, within))

pub returns-clause-keeps : goal.returns-clause-keeps
returns-clause-keeps g c durable v has all =
    let now : IsOpen v (g.D.Disk.bytes c.args.disk.now) = all _ (g.met.D.Disk.read_is_left c.args.disk.now durable) in
    let low = now.ready.within c.args.number has in
    let small = kept_small c.args.number in
    range_written g.D.Disk.moment g.D.Disk.left_since g.D.Disk.may_leave g.D.Disk.bytes (λ d b left. g.met.D.Disk.only_now d b durable left)
    c.args.disk.now c.write_at.new.self (IsOpen v) (4096 * c.args.number) (kept_size c.args.number) _ _ c.offset_of.ensures c.kept_part.ensures.size
    (c.write_at.ensures.crash durable) (c.write_at.ensures.time durable)
    (omega (arith, now.ready.size.long, low, small)) (open_put v c.args.number has) all
