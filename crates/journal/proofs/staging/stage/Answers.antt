use Rattle.std.proofs.Common.{◌≡◌, ◌∙◌, ◌+◌, ◌*◌, ◌≤◌, List, ℕ, sym, ap, subst, arith, inl, length}
use Rattle.disk.specs.Crashes.{Keeps}
use Rattle.disk.specs.Keeping.{calm, then}
use Rattle.journal.specs.Lists.{HasNumbers}
use Rattle.journal.specs.Parts.{block}
use Rattle.journal.specs.Versions.{IsShut, IsBoth, committed}
use Rattle.journal.proofs.Sets.{images_before}
use Rattle.journal.proofs.States.{both_staged, block_same, ok_any, synced_all}
use Rattle.journal.proofs.staging.stage.Goals as goal

pub returns-in_err-lengthen-clause-keeps : goal.returns-in_err-lengthen-clause-keeps
returns-in_err-lengthen-clause-keeps g c durable honest some v grows = c.lengthen.ensures.keeps durable (omega arith) v (omega (arith, grows))

pub returns-in_err-write_block-clause-keeps : goal.returns-in_err-write_block-clause-keeps
returns-in_err-write_block-clause-keeps g c durable honest some v grows =
    let long = c.in_ok-lengthen.ensures.long honest in
    then g.D.Disk.moment g.D.Disk.left_since g.D.Disk.may_leave c.args.disk.now c.lengthen.new.disk c.write_block.new.disk (IsShut v)
    (c.lengthen.ensures.keeps durable (omega arith) v (omega (arith, grows)))
    (c.write_block.ensures.keeps durable (omega (arith, long)) some v grows)

pub returns-in_err-write_images-clause-keeps : goal.returns-in_err-write_images-clause-keeps
returns-in_err-write_images-clause-keeps g c durable honest some v grows =
    let long = c.in_ok-lengthen.ensures.long honest in
    let size = (c.write_block.ensures.changes honest (omega (arith, long))).size in
    then g.D.Disk.moment g.D.Disk.left_since g.D.Disk.may_leave c.args.disk.now c.write_block.new.disk c.write_images.new.disk (IsShut v)
    (then g.D.Disk.moment g.D.Disk.left_since g.D.Disk.may_leave c.args.disk.now c.lengthen.new.disk c.write_block.new.disk (IsShut v)
    (c.lengthen.ensures.keeps durable (omega arith) v (omega (arith, grows)))
    (c.write_block.ensures.keeps durable (omega (arith, long)) some v grows))
    (c.write_images.ensures.keeps durable honest (omega (arith, long, size)) (omega arith) v (omega (arith, grows)))

pub returns-in_err-write_start-clause-keeps : goal.returns-in_err-write_start-clause-keeps
returns-in_err-write_start-clause-keeps g c durable honest some v grows =
    let long = c.in_ok-lengthen.ensures.long honest in
    let size = (c.write_block.ensures.changes honest (omega (arith, long))).size in
    then g.D.Disk.moment g.D.Disk.left_since g.D.Disk.may_leave c.args.disk.now c.write_images.new.disk c.write_start.new.disk (IsShut v)
    (then g.D.Disk.moment g.D.Disk.left_since g.D.Disk.may_leave c.args.disk.now c.write_block.new.disk c.write_images.new.disk (IsShut v)
    (then g.D.Disk.moment g.D.Disk.left_since g.D.Disk.may_leave c.args.disk.now c.lengthen.new.disk c.write_block.new.disk (IsShut v)
    (c.lengthen.ensures.keeps durable (omega arith) v (omega (arith, grows)))
    (c.write_block.ensures.keeps durable (omega (arith, long)) some v grows))
    (c.write_images.ensures.keeps durable honest (omega (arith, long, size)) (omega arith) v (omega (arith, grows))))
    (c.write_start.ensures.keeps durable v)

pub returns-clause-keeps : goal.returns-clause-keeps
returns-clause-keeps g c durable honest some v grows =
    let long = c.in_ok-lengthen.ensures.long honest in
    let size = (c.write_block.ensures.changes honest (omega (arith, long))).size in
    then g.D.Disk.moment g.D.Disk.left_since g.D.Disk.may_leave c.args.disk.now c.write_start.new.disk c.sync.new.self (IsShut v)
    (then g.D.Disk.moment g.D.Disk.left_since g.D.Disk.may_leave c.args.disk.now c.write_images.new.disk c.write_start.new.disk (IsShut v)
    (then g.D.Disk.moment g.D.Disk.left_since g.D.Disk.may_leave c.args.disk.now c.write_block.new.disk c.write_images.new.disk (IsShut v)
    (then g.D.Disk.moment g.D.Disk.left_since g.D.Disk.may_leave c.args.disk.now c.lengthen.new.disk c.write_block.new.disk (IsShut v)
    (c.lengthen.ensures.keeps durable (omega arith) v (omega (arith, grows)))
    (c.write_block.ensures.keeps durable (omega (arith, long)) some v grows))
    (c.write_images.ensures.keeps durable honest (omega (arith, long, size)) (omega arith) v (omega (arith, grows))))
    (c.write_start.ensures.keeps durable v))
    (calm g.D.Disk.moment g.D.Disk.left_since g.D.Disk.may_leave (λ d b left. g.met.D.Disk.only_now d b durable left)
    c.write_start.new.disk c.sync.new.self (IsShut v) (c.sync.ensures.crash durable) (c.sync.ensures.time durable))

pub returns-clause-staged : goal.returns-clause-staged
returns-clause-staged g c durable honest v may all =
    let set = c.args.set.now in
    let count = c.args.count in
    let long = c.in_ok-lengthen.ensures.long honest in
    let first = c.write_block.ensures.changes honest (omega (arith, long)) in
    let room : 4096 * (count + 1 + length set) ≤ length (g.D.Disk.bytes c.write_block.new.disk) = omega (arith, long, first.size) in
    let second = c.write_images.ensures.changes honest room in
    let third = c.write_start.ensures.changes honest (omega (arith, room, second.size)) in
    let so_far : Keeps g.D.Disk.moment g.D.Disk.left_since g.D.Disk.may_leave c.args.disk.now c.write_start.new.disk (IsShut v) =
    then g.D.Disk.moment g.D.Disk.left_since g.D.Disk.may_leave c.args.disk.now c.write_images.new.disk c.write_start.new.disk (IsShut v)
    (then g.D.Disk.moment g.D.Disk.left_since g.D.Disk.may_leave c.args.disk.now c.write_block.new.disk c.write_images.new.disk (IsShut v)
    (then g.D.Disk.moment g.D.Disk.left_since g.D.Disk.may_leave c.args.disk.now c.lengthen.new.disk c.write_block.new.disk (IsShut v)
    (c.lengthen.ensures.keeps durable (omega arith) v (omega (arith, may.grows)))
    (c.write_block.ensures.keeps durable (omega (arith, long)) may.some v may.grows))
    (c.write_images.ensures.keeps durable honest room (omega arith) v (omega (arith, may.grows))))
    (c.write_start.ensures.keeps durable v) in
    let end = g.D.Disk.bytes c.write_start.new.disk in
    let shut : IsShut v end = (so_far all).0 _ (g.met.D.Disk.read_is_left c.write_start.new.disk durable) in
    let listed : block end count ≡ c.list_of.result =
    block_same 20 4 count _ _ third (omega (arith, room, second.size)) (omega (arith, may.some))
    ∙ second.outside (4096 * count) (4096 * count + 4096) (omega arith) (omega (arith, room)) (inl (omega arith))
    ∙ c.in_ok-write_block.ensures.written honest in
    let images = images_before set (count + 1) 20 4 _ _ (c.in_ok-write_images.ensures.images honest room) third (omega arith) (omega (arith, room, second.size)) in
    synced_all (IsBoth v (committed v set count)) c.sync.result end (g.D.Disk.may_leave c.sync.new.self) (c.sync.ensures.durable durable)
    (both_staged v set count may c.ranges.count.fits end shut (omega (arith, room, second.size, third.size)) (c.in_ok-write_start.ensures.written honest)
    (subst (λ (b : List ℕ). HasNumbers b set) (sym listed) c.list_of.ensures) images)

pub returns-clause-long : goal.returns-clause-long
returns-clause-long g c =
    ok_any c.sync.result
    (λ honest.
    let long = c.in_ok-lengthen.ensures.long honest in
    let first = c.write_block.ensures.changes honest (omega (arith, long)) in
    let room : 4096 * (c.args.count + 1 + length c.args.set.now) ≤ length (g.D.Disk.bytes c.write_block.new.disk) = omega (arith, long, first.size) in
    let second = c.write_images.ensures.changes honest room in
    let third = c.write_start.ensures.changes honest (omega (arith, room, second.size)) in
    let same : length (g.D.Disk.bytes c.sync.new.self) ≡ length (g.D.Disk.bytes c.write_start.new.disk) = ap (λ (b : List ℕ). length b) (c.sync.ensures.same honest) in
    omega (arith, room, second.size, third.size, same))
