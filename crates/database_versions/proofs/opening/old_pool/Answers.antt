use Rattle.std.proofs.Common.{◌≡◌, ◌∙◌, ap, sym, inr, length}
use Rattle.pool.specs.Versions.{versions_of, refused_of}
use Rattle.store.specs.declared.error.StoreError.TheVariants as error
use Rattle.database_versions.proofs.OpenLemmas.{old_begins, old_owned, old_empty, old_back, open_damaged, open_refused, no_less}
use Rattle.database_versions.proofs.opening.old_pool.Goals as goal

pub new-requires-clause-some : goal.new-requires-clause-some
new-requires-clause-some g c = c.in-Ok.ensures.bounds.some

pub new-requires-clause-rest : goal.new-requires-clause-rest
new-requires-clause-rest g c = c.in-Ok.ensures.rest

pub returns-in-Ok-new-clause-begins : goal.returns-in-Ok-new-clause-begins
returns-in-Ok-new-clause-begins g c =
    let e = c.in-Ok.ensures in
    let n = c.in-Ok-new.ensures in
    old_begins g.D.Disk.is_honest (g.D.Disk.bytes c.args.device) (g.D.Disk.bytes c.open_file.new.disk) c.in-Ok.header (versions_of c.in-Ok-new.pool) c.requires.some e.bounds e.header e.pages n.pages n.last n.pins

pub returns-in-Ok-new-clause-owned : goal.returns-in-Ok-new-clause-owned
returns-in-Ok-new-clause-owned g c =
    let e = c.in-Ok.ensures in
    let n = c.in-Ok-new.ensures in
    old_owned g.D.Disk.is_honest (g.D.Disk.bytes c.args.device) (g.D.Disk.bytes c.open_file.new.disk) c.in-Ok.header (versions_of c.in-Ok-new.pool) c.requires.some e.bounds e.header e.pages n.pages

pub returns-in-Ok-new-clause-empty : goal.returns-in-Ok-new-clause-empty
returns-in-Ok-new-clause-empty g c =
    let e = c.in-Ok.ensures in
    let n = c.in-Ok-new.ensures in
    old_empty g.D.Disk.is_honest (g.D.Disk.bytes c.args.device) (g.D.Disk.bytes c.open_file.new.disk) c.in-Ok.header (versions_of c.in-Ok-new.pool) c.requires.some e.bounds e.header e.pages n.pages
    c.no_database_at_first.ensures.holds c.contents_are_read.ensures c.numbers_rise.ensures c.no_database_at_first.ensures.shows

pub returns-in-Ok-new-clause-readable : goal.returns-in-Ok-new-clause-readable
returns-in-Ok-new-clause-readable g c = λ h. let is = c.in-Ok.ensures.header h in inr (is.0, is.1)

pub returns-in-Ok-new-clause-counts : goal.returns-in-Ok-new-clause-counts
returns-in-Ok-new-clause-counts g c =
    no_less (g.D.Disk.refused c.args.device) (g.D.Disk.refused c.open_file.new.disk) (refused_of c.in-Ok-new.pool) c.in-Ok.ensures.count c.in-Ok-new.ensures.refused

pub returns-in-Err-new-clause-left : goal.returns-in-Err-new-clause-left
returns-in-Err-new-clause-left g c =
    old_back g.D.Disk.is_honest (g.D.Disk.bytes c.args.device) (g.D.Disk.bytes c.in-Err-new.device) error.Memory c.requires.some
    (λ is h. let bad : error.Memory ≡ error.Damaged = is in absurd (cc))
    (λ h shut. ap g.D.Disk.bytes c.in-Err-new.ensures.left ∙ c.open_file.ensures.still h shut.gate shut.begins)

pub returns-in-Err-new-clause-refused : goal.returns-in-Err-new-clause-refused
returns-in-Err-new-clause-refused g c = tt

pub returns-in-Err-clause-left : goal.returns-in-Err-clause-left
returns-in-Err-clause-left g c =
    old_back g.D.Disk.is_honest (g.D.Disk.bytes c.args.device) (g.D.Disk.bytes c.open_file.new.disk) c.of_open.result c.requires.some
    (λ is h. c.in-Err.ensures.left (open_damaged c.in-Err.cause (sym c.of_open.ensures ∙ is)) h)
    (λ h shut. c.open_file.ensures.still h shut.gate shut.begins)

pub returns-in-Err-clause-refused : goal.returns-in-Err-clause-refused
returns-in-Err-clause-refused g c =
    rw c.of_open.ensures
    (open_refused g.D.Disk.is_honest (g.D.Disk.bytes c.args.device) (g.D.Disk.refused c.args.device) (g.D.Disk.refused c.open_file.new.disk) c.in-Err.cause c.requires.some
    c.in-Err.ensures.count c.in-Err.ensures.damaged)
