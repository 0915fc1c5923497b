use Rattle.std.proofs.Common.{◌≡◌, ◌∙◌, ap, inl, inr, length}
use Rattle.journal.proofs.Making.{length_header_2}
use Rattle.pool.specs.Versions.{versions_of, refused_of}
use Rattle.store.specs.declared.error.StoreError.TheVariants as error
use Rattle.database_versions.proofs.OpenLemmas.{new_header, new_rest, new_begins, new_owned, new_back, no_less}
use Rattle.database_versions.proofs.opening.new_pool.Goals as goal

pub new-requires-clause-rest : goal.new-requires-clause-rest
new-requires-clause-rest g c =
    new_rest g.D.Disk.is_honest g.D.Disk.is_durable (g.D.Disk.bytes c.create.new.disk) (g.D.Disk.may_leave c.create.new.disk) c.in-Ok.ensures.made c.in-Ok.ensures.only

pub returns-in-Ok-new-clause-begins : goal.returns-in-Ok-new-clause-begins
returns-in-Ok-new-clause-begins g c =
    let e = c.in-Ok-new.ensures in
    new_begins c.no_database_at_first.ensures.holds c.contents_are_read.ensures c.numbers_rise.ensures c.no_database_at_first.ensures.shows g.D.Disk.is_honest
    (g.D.Disk.bytes c.args.device) (g.D.Disk.bytes c.create.new.disk) (versions_of c.in-Ok-new.pool) c.requires.empty c.in-Ok.ensures.made e.last e.pages e.pins

pub returns-in-Ok-new-clause-owned : goal.returns-in-Ok-new-clause-owned
returns-in-Ok-new-clause-owned g c =
    new_owned c.no_database_at_first.ensures.holds c.contents_are_read.ensures c.numbers_rise.ensures g.D.Disk.is_honest
    (g.D.Disk.bytes c.args.device) (g.D.Disk.bytes c.create.new.disk) (versions_of c.in-Ok-new.pool) c.in-Ok.ensures.made c.in-Ok-new.ensures.pages

pub returns-in-Ok-new-clause-readable : goal.returns-in-Ok-new-clause-readable
returns-in-Ok-new-clause-readable g c = λ h. inl (c.requires.empty h)

pub returns-in-Ok-new-clause-counts : goal.returns-in-Ok-new-clause-counts
returns-in-Ok-new-clause-counts g c =
    no_less (g.D.Disk.refused c.args.device) (g.D.Disk.refused c.create.new.disk) (refused_of c.in-Ok-new.pool) c.in-Ok.ensures.count c.in-Ok-new.ensures.refused

pub returns-in-Err-new-clause-left : goal.returns-in-Err-new-clause-left
returns-in-Err-new-clause-left g c =
    new_back g.D.Disk.is_honest (g.D.Disk.bytes c.args.device) (g.D.Disk.bytes c.in-Err-new.device) error.Memory c.requires.empty (λ is. let bad : error.Memory ≡ error.Damaged = is in cc)
    (λ h. inr (ap (λ (d : g.row.D.Denot). length (g.D.Disk.bytes d)) c.in-Err-new.ensures.left ∙ ap length (c.in-Ok.ensures.made h) ∙ length_header_2 new_header))

pub returns-in-Err-new-clause-refused : goal.returns-in-Err-new-clause-refused
returns-in-Err-new-clause-refused g c = tt

pub returns-in-Err-clause-left : goal.returns-in-Err-clause-left
returns-in-Err-clause-left g c =
    new_back g.D.Disk.is_honest (g.D.Disk.bytes c.args.device) (g.D.Disk.bytes c.create.new.disk) error.Device c.requires.empty (λ is. let bad : error.Device ≡ error.Damaged = is in cc)
    c.in-Err.ensures.left

pub returns-in-Err-clause-refused : goal.returns-in-Err-clause-refused
returns-in-Err-clause-refused g c = c.in-Err.ensures.count.more
