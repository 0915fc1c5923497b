use Rattle.plan_listings.proofs.ScanNodes.{scans_made}
use Rattle.plan_listings.proofs.scans.over.Goals as goal

pub returns : goal.returns
returns c = λ tree below over h. scans_made tree below c.args.names over h
