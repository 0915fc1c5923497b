use Rattle.std.proofs.Common.{true, false, ap}
use Rattle.pool.specs.Versions.{Versions, versions_of}
use Rattle.overlay.specs.WriteSet.{private_of}
use Rattle.overlay.proofs.WriteLemmas.{shown_after, others_after, whole_after}
use Rattle.overlay.proofs.ZeroLemmas.{replaced_keeps}
use Rattle.overlay.proofs.writes.replace_page.Goals as goal

pub returns-clause-written : goal.returns-clause-written
returns-clause-written g c =
    shown_after c.write_page.result ((versions_of c.args.pool.now).pages c.args.at) ((versions_of c.write_page.new.pool).pages c.args.at)
    (private_of c.args.changes.now) (private_of c.write_page.new.changes) c.args.page c.args.bytes.now
    (ap (λ (v : Versions). v.pages c.args.at) c.write_page.ensures.versions) c.requires.kind c.write_page.ensures.written

pub returns-clause-others : goal.returns-clause-others
returns-clause-others g c =
    others_after c.write_page.result ((versions_of c.args.pool.now).pages c.args.at) ((versions_of c.write_page.new.pool).pages c.args.at)
    (private_of c.args.changes.now) (private_of c.write_page.new.changes) c.args.page c.args.bytes.now
    (ap (λ (v : Versions). v.pages c.args.at) c.write_page.ensures.versions) c.write_page.ensures.written c.write_page.ensures.left c.write_page.ensures.within

pub returns-clause-whole : goal.returns-clause-whole
returns-clause-whole g c =
    whole_after false c.write_page.result ((versions_of c.args.pool.now).pages c.args.at) ((versions_of c.write_page.new.pool).pages c.args.at)
    (private_of c.args.changes.now) (private_of c.write_page.new.changes) c.args.page c.args.bytes.now
    (ap (λ (v : Versions). v.pages c.args.at) c.write_page.ensures.versions) c.requires.kind c.write_page.ensures.written c.write_page.ensures.used c.write_page.ensures.within

pub returns-clause-full : goal.returns-clause-full
returns-clause-full g c =
    whole_after true c.write_page.result ((versions_of c.args.pool.now).pages c.args.at) ((versions_of c.write_page.new.pool).pages c.args.at)
    (private_of c.args.changes.now) (private_of c.write_page.new.changes) c.args.page c.args.bytes.now
    (ap (λ (v : Versions). v.pages c.args.at) c.write_page.ensures.versions) c.requires.kind c.write_page.ensures.written c.write_page.ensures.used c.write_page.ensures.within

pub returns-clause-zeros : goal.returns-clause-zeros
returns-clause-zeros g c =
    replaced_keeps c.write_page.result (private_of c.args.changes.now) (private_of c.write_page.new.changes) c.args.page c.args.bytes.now
    c.write_page.ensures.written c.write_page.ensures.within c.write_page.ensures.left
