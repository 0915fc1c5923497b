use Rattle.std.proofs.Common.{◌≡◌, IsSome, ap, arith}
use Rattle.pool.specs.Pages.{over}
use Rattle.pool.specs.Versions.{Versions, versions_of, refused_of}
use Rattle.overlay.specs.WriteSet.{private_of}
use Rattle.overlay.specs.InUse.{in_use}
use Rattle.overlay.specs.Layers.{size_of}
use Rattle.overlay.specs.Whole.{IsWhole, IsWholeOver, AtLimit}
use Rattle.overlay.proofs.RefusalLemmas.{changed_more}
use Rattle.overlay.proofs.WholeLemmas.{whole_over}
use Rattle.overlay.proofs.space.OverlayPageSpace.free.Goals as goal

pub returns-clause-whole : goal.returns-clause-whole
returns-clause-whole g c =
    let s = c.args.self.now in
    whole_over c.free_page.result ((versions_of s.pool.now).pages s.at) ((versions_of c.free_page.new.pool).pages s.at) (private_of s.changes.now) (private_of c.free_page.new.changes)
    (ap (λ (v : Versions). v.pages s.at) c.free_page.ensures.versions) c.free_page.ensures.whole c.free_page.ensures.full

pub returns-clause-refusal : goal.returns-clause-refusal
returns-clause-refusal g c =
    let s = c.args.self.now in
    changed_more c.free_page.result (AtLimit (over (private_of c.free_page.new.changes) ((versions_of c.free_page.new.pool).pages s.at) 0) (size_of (private_of c.free_page.new.changes)))
    (IsWhole (over (private_of s.changes.now) ((versions_of s.pool.now).pages s.at)) → IsSome (in_use ((versions_of s.pool.now).pages s.at) (private_of s.changes.now) c.args.page) → ⊥)
    (IsWholeOver ((versions_of s.pool.now).pages s.at) (private_of s.changes.now) → IsSome (in_use ((versions_of s.pool.now).pages s.at) (private_of s.changes.now) c.args.page) → ⊥)
    (refused_of s.pool.now) (refused_of s.pool.now) (refused_of c.free_page.new.pool) (λ never whole there. never whole.whole there) (omega arith) c.free_page.ensures.refusal
