use Rattle.std.proofs.Common.{Bool, subst}
use Rattle.journal.specs.Versions.{IsAt}
use Rattle.journal.proofs.committing.shut_first.Goals as goal

pub returns-then-is_open-clause-keeps : goal.returns-then-is_open-clause-keeps
returns-then-is_open-clause-keeps g c durable honest x y v one is_at =
    let at = subst (λ (b : Bool). IsAt b c.args.images.now v (g.D.Disk.may_leave c.args.disk.now)) c.if-is_open.true is_at in
    c.put_back.ensures.keeps durable honest x y v one at.0 at.1
