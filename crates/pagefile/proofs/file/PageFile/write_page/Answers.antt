use Rattle.std.proofs.Common.{◌*◌, ℕ, subst, length}
use Rattle.disk.specs.Crashes.{Follows, IsSpread}
use Rattle.pagefile.proofs.PageLemmas.{write_keeps}
use Rattle.pagefile.proofs.file.PageFile.write_page.Goals as goal

pub returns-clause-others : goal.returns-clause-others
returns-clause-others g c =
    write_keeps c.write_at.result _ _ _ _ c.told-page (rw c.offset_of.ensures at c.write_at.ensures.written) (rw c.offset_of.ensures at c.write_at.ensures.torn)

-- the offset and the length of a page, in place of those that the device was given
pub returns-clause-crash : goal.returns-clause-crash
returns-clause-crash g c durable =
    let old = c.args.self.now.disk in
    let new = c.write_at.new.self in
    let step : ℕ → ℕ → Type 0 =
    λ at n. Follows (IsSpread (length (g.D.Disk.bytes old)) at n) (g.D.Disk.may_leave old) (g.D.Disk.may_leave new) in
    subst (step (4096 * c.args.number)) c.told-page
    (subst (λ (at : ℕ). step at (length c.args.page.now)) c.offset_of.ensures (c.write_at.ensures.crash durable))
