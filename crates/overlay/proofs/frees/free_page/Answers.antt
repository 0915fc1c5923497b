use Rattle.std.proofs.Common.{true, false, ap}
use Rattle.pool.specs.Versions.{Versions, versions_of}
use Rattle.overlay.specs.WriteSet.{private_of}
use Rattle.overlay.proofs.FreeLemmas.{none_after, first_after, freed_others_after, freed_whole_after}
use Rattle.pool.specs.Pages.{over}
use Rattle.overlay.proofs.ZeroLemmas.{freed_keeps}
use Rattle.overlay.proofs.frees.free_page.Goals as goal

pub returns-clause-freed : goal.returns-clause-freed
returns-clause-freed g c =
    none_after c.free_used.result ((versions_of c.args.pool.now).pages c.args.at) ((versions_of c.free_used.new.pool).pages c.args.at)
    (private_of c.args.changes.now) (private_of c.free_used.new.changes) c.args.page (ap (λ (v : Versions). v.pages c.args.at) c.free_used.ensures.versions) c.free_used.ensures.written

pub returns-clause-first : goal.returns-clause-first
returns-clause-first g c =
    first_after c.free_used.result ((versions_of c.args.pool.now).pages c.args.at) ((versions_of c.free_used.new.pool).pages c.args.at)
    (private_of c.args.changes.now) (private_of c.free_used.new.changes) c.args.page (ap (λ (v : Versions). v.pages c.args.at) c.free_used.ensures.versions) c.free_used.ensures.written

pub returns-clause-others : goal.returns-clause-others
returns-clause-others g c =
    freed_others_after c.free_used.result ((versions_of c.args.pool.now).pages c.args.at) ((versions_of c.free_used.new.pool).pages c.args.at)
    (private_of c.args.changes.now) (private_of c.free_used.new.changes) c.args.page (ap (λ (v : Versions). v.pages c.args.at) c.free_used.ensures.versions) c.free_used.ensures.written
    c.free_used.ensures.left

pub returns-clause-whole : goal.returns-clause-whole
returns-clause-whole g c =
    freed_whole_after false c.free_used.result ((versions_of c.args.pool.now).pages c.args.at) ((versions_of c.free_used.new.pool).pages c.args.at)
    (private_of c.args.changes.now) (private_of c.free_used.new.changes) c.args.page (ap (λ (v : Versions). v.pages c.args.at) c.free_used.ensures.versions) c.free_used.ensures.written

pub returns-clause-full : goal.returns-clause-full
returns-clause-full g c =
    freed_whole_after true c.free_used.result ((versions_of c.args.pool.now).pages c.args.at) ((versions_of c.free_used.new.pool).pages c.args.at)
    (private_of c.args.changes.now) (private_of c.free_used.new.changes) c.args.page (ap (λ (v : Versions). v.pages c.args.at) c.free_used.ensures.versions) c.free_used.ensures.written

pub returns-clause-zeros : goal.returns-clause-zeros
returns-clause-zeros g c =
    freed_keeps c.free_used.result (over (private_of c.args.changes.now) ((versions_of c.args.pool.now).pages c.args.at)) c.args.page (private_of c.args.changes.now) (private_of c.free_used.new.changes)
    c.free_used.ensures.written c.free_used.ensures.left
