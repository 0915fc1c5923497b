use Rattle.std.proofs.Common.{Some, subst}
use Rattle.plan_listings.specs.Scans.{Scans}
use Rattle.plan_listings.proofs.ScanNodes.{scans_all}
use Rattle.plan_listings.proofs.scans.joined.Goals as goal

pub returns-in-Ok-Some-right : goal.returns-in-Ok-Some-right
returns-in-Ok-Some-right c = λ tree l r made h k.
    let first = subst (Scans l) c.in-Ok-Some.field-0-is (rw c.in-Ok-Some.is at h) in
    let second = subst (Scans r) c.in-Ok-Some-right.field-0-is (rw c.in-Ok-Some-right.is at k) in
    scans_all tree l r c.in-Ok-Some.names c.in-Ok-Some-right.others c.all_of.result made first second c.all_of.ensures
