use Rattle.std.proofs.Common.{ap}
use Rattle.pool.specs.Versions.{Versions, versions_of, refused_of}
use Rattle.overlay.specs.WriteSet.{private_of}
use Rattle.overlay.proofs.WholeLemmas.{whole_over}
use Rattle.database_versions.proofs.ChangeLemmas.{put_after, put_owned_after, root_put_refused}
use Rattle.database_versions.proofs.naming.put_root.Goals as goal

pub returns-clause-put : goal.returns-clause-put
returns-clause-put g c = λ contents whole put.
    let e = c.set_catalog_root.ensures in
    put_after c.database_stays.ensures c.contents_are_read.ensures c.numbers_rise.ensures c.set_catalog_root.result ((versions_of c.args.pool.now).pages c.args.at) ((versions_of c.set_catalog_root.new.pool).pages c.args.at)
    (private_of c.args.changes.now) (private_of c.set_catalog_root.new.changes) c.args.root contents (ap (λ (v : Versions). v.pages c.args.at) e.versions) e.root e.others (whole_over c.set_catalog_root.result ((versions_of c.args.pool.now).pages c.args.at) ((versions_of c.set_catalog_root.new.pool).pages c.args.at)
    (private_of c.args.changes.now) (private_of c.set_catalog_root.new.changes) (ap (λ (v : Versions). v.pages c.args.at) e.versions) e.whole e.full) whole put

pub returns-clause-owned : goal.returns-clause-owned
returns-clause-owned g c = λ contents start whole put.
    let e = c.set_catalog_root.ensures in
    put_owned_after c.database_stays.ensures c.contents_are_read.ensures c.numbers_rise.ensures c.set_catalog_root.result ((versions_of c.args.pool.now).pages c.args.at) ((versions_of c.set_catalog_root.new.pool).pages c.args.at)
    (private_of c.args.changes.now) (private_of c.set_catalog_root.new.changes) c.args.root contents (ap (λ (v : Versions). v.pages c.args.at) e.versions) e.root e.others (whole_over c.set_catalog_root.result ((versions_of c.args.pool.now).pages c.args.at) ((versions_of c.set_catalog_root.new.pool).pages c.args.at)
    (private_of c.args.changes.now) (private_of c.set_catalog_root.new.changes) (ap (λ (v : Versions). v.pages c.args.at) e.versions) e.whole e.full) start whole put

pub returns-clause-refusal : goal.returns-clause-refusal
returns-clause-refusal g c =
    let e = c.set_catalog_root.ensures in
    root_put_refused c.set_catalog_root.result ((versions_of c.args.pool.now).pages c.args.at) ((versions_of c.set_catalog_root.new.pool).pages c.args.at) (private_of c.args.changes.now) (private_of c.set_catalog_root.new.changes) c.args.root
    (refused_of c.args.pool.now) (refused_of c.set_catalog_root.new.pool) (ap (λ (v : Versions). v.pages c.args.at) e.versions) e.refusal
