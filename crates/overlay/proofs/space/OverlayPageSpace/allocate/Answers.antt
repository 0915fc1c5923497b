use Rattle.std.proofs.Common.{ap}
use Rattle.pool.specs.Versions.{Versions, versions_of}
use Rattle.overlay.specs.WriteSet.{private_of}
use Rattle.overlay.proofs.WholeLemmas.{whole_over}
use Rattle.overlay.proofs.space.OverlayPageSpace.allocate.Goals as goal

pub returns-clause-whole : goal.returns-clause-whole
returns-clause-whole g c =
    let s = c.args.self.now in
    whole_over c.allocate_page.result ((versions_of s.pool.now).pages s.at) ((versions_of c.allocate_page.new.pool).pages s.at) (private_of s.changes.now) (private_of c.allocate_page.new.changes)
    (ap (λ (v : Versions). v.pages s.at) c.allocate_page.ensures.versions) c.allocate_page.ensures.whole c.allocate_page.ensures.full
