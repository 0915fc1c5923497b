use Rattle.std.specs.Prelude.{IsTrue, slice_range}
use Rattle.journal.specs.Steps.{IsPut, LiesWithin}
use Rattle.journal.proofs.States.{on_ok, err_any}
use Rattle.journaled_file.proofs.Showing.{part_among, put_journaled, left_journaled}
use Rattle.journaled_file.proofs.steps.put_some.Goals as goal

pub returns-clause-put : goal.returns-clause-put
returns-clause-put g c =
    let images = c.args.images.now in
    let old = g.D.Disk.bytes c.args.disk.now in
    let new = g.D.Disk.bytes c.put_all.new.disk in
    on_ok c.put_all.result
    (λ (put : IsTrue g.D.Disk.is_honest → LiesWithin (slice_range c.args.images.now c.args.from c.args.end) (g.D.Disk.bytes c.args.disk.now)
    → IsPut (slice_range c.args.images.now c.args.from c.args.end) (g.D.Disk.bytes c.args.disk.now) (g.D.Disk.bytes c.put_all.new.disk)). λ count v j.
    put_journaled g.D.Disk.is_honest g.D.Disk.is_durable images c.args.from c.args.end count old new (g.D.Disk.may_leave c.args.disk.now)
    (g.D.Disk.may_leave c.put_all.new.disk) v c.requires.order j put
    (λ d h. (c.put_all.ensures.keeps d v (part_among images v.set c.args.from c.args.end j.set) (j.opened d h)).0))
    c.put_all.ensures.placed

pub returns-clause-left : goal.returns-clause-left
returns-clause-left g c =
    let images = c.args.images.now in
    let old = g.D.Disk.bytes c.args.disk.now in
    let new = g.D.Disk.bytes c.put_all.new.disk in
    err_any c.put_all.result
    (λ count v j.
    left_journaled g.D.Disk.is_honest g.D.Disk.is_durable images c.args.from c.args.end count old new (g.D.Disk.may_leave c.args.disk.now)
    (g.D.Disk.may_leave c.put_all.new.disk) v j c.put_all.ensures.others
    (λ d h. (c.put_all.ensures.keeps d v (part_among images v.set c.args.from c.args.end j.set) (j.opened d h)).0))

pub returns-clause-keeps : goal.returns-clause-keeps
returns-clause-keeps g c durable v is = c.put_all.ensures.keeps durable v (part_among c.args.images.now v.set c.args.from c.args.end is)
