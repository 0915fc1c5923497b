use Rattle.std.proofs.Common.{◌≡◌, ◌∙◌, ◌*◌, ◌+◌, ℕ, List, length, sym, ap, arith}
use Rattle.std.specs.Prelude.{slice_range}
use Rattle.journal.specs.Parts.{place, block, shown}
use Rattle.journal.proofs.Looking.{reads_none, reads_call}
use Rattle.journaled_file.specs.Shown.{padded}
use Rattle.journaled_file.proofs.Laying.{laid_beside}
use Rattle.journaled_file.proofs.Showing.{shown_block}
use Rattle.journaled_file.proofs.reading.read_page.Goals as goal

pub returns-then-copy_image-clause-value : goal.returns-then-copy_image-clause-value
returns-then-copy_image-clause-value g c honest pages rising is =
    c.pad.ensures
    ∙ ap (λ (part : List ℕ). padded c.args.number part)
    (sym (c.copy_image.ensures.found c.if-copy_image.true rising (place (g.D.Disk.bytes c.args.disk.now))) ∙ is)

pub returns-then-copy_image-clause-reads : goal.returns-then-copy_image-clause-reads
returns-then-copy_image-clause-reads g c =
    reads_none g.D.Disk.is_honest g.D.Disk.is_durable g.D.Disk.bytes g.D.Disk.synced g.D.Disk.writes g.D.Disk.settled g.D.Disk.moment g.D.Disk.left_since g.D.Disk.may_leave
    (λ d b durable left. g.met.D.Disk.only_now d b durable left) c.args.disk.now

pub returns-in-Ok-clause-value : goal.returns-in-Ok-clause-value
returns-in-Ok-clause-value g c honest pages rising is =
    let old = g.D.Disk.bytes c.args.disk.now in
    let holds = c.in-Ok.ensures.value honest in
    let at : c.args.number * 4096 ≡ 4096 * c.args.number = omega arith in
    let end : c.args.number * 4096 + length c.read_at.new.into ≡ 4096 * c.args.number + 4096 = omega arith in
    let read : c.read_at.new.into ≡ block old c.args.number =
    holds.same ∙ ap (λ (k : ℕ). slice_range old k (c.args.number * 4096 + length c.read_at.new.into)) at ∙ ap (λ (k : ℕ). slice_range old (4096 * c.args.number) k) end in
    c.pad-in-Ok.ensures
    ∙ ap (λ (page : List ℕ). padded c.args.number (shown c.args.number page)) read
    ∙ ap (λ (part : List ℕ). padded c.args.number part)
    (shown_block old c.args.number ∙ sym (laid_beside c.args.left.now (place old) c.args.number (c.copy_image.ensures.none c.if-copy_image.false)) ∙ is)

pub returns-in-Ok-clause-reads : goal.returns-in-Ok-clause-reads
returns-in-Ok-clause-reads g c =
    reads_call g.D.Disk.is_honest g.D.Disk.is_durable g.D.Disk.bytes g.D.Disk.synced g.D.Disk.writes g.D.Disk.settled g.D.Disk.moment g.D.Disk.left_since g.D.Disk.may_leave
    (λ d b durable left. g.met.D.Disk.only_now d b durable left) c.args.disk.now c.read_at.new.self c.read_at.ensures.same c.read_at.ensures.synced c.read_at.ensures.writes c.read_at.ensures.settled
    c.read_at.ensures.crash c.read_at.ensures.time

pub returns-in-Err-clause-reads : goal.returns-in-Err-clause-reads
returns-in-Err-clause-reads g c =
    reads_call g.D.Disk.is_honest g.D.Disk.is_durable g.D.Disk.bytes g.D.Disk.synced g.D.Disk.writes g.D.Disk.settled g.D.Disk.moment g.D.Disk.left_since g.D.Disk.may_leave
    (λ d b durable left. g.met.D.Disk.only_now d b durable left) c.args.disk.now c.read_at.new.self c.read_at.ensures.same c.read_at.ensures.synced c.read_at.ensures.writes c.read_at.ensures.settled
    c.read_at.ensures.crash c.read_at.ensures.time

pub returns-in-Err-clause-read_always : goal.returns-in-Err-clause-read_always
returns-in-Err-clause-read_always g c honest always fits = c.in-Err.ensures.read_always honest always (omega (arith, fits))
